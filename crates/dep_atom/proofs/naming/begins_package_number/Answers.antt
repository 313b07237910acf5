use Rattle.std.proofs.Common.{false, length, refl, arith}
use Rattle.std.proofs.lemmas.Bool.{both_ways}
use Rattle.dep_atom.proofs.Named.{number_at}
use Rattle.dep_atom.proofs.naming.begins_package_number.Goals as goal

pub returns : goal.returns
returns c = (
  λ is. absurd (both_ways false refl is),
  λ t.
      let is = number_at c.args.text.now t in
      absurd (c.loop-at.invariant (length t.0) (omega (arith, is.within)) is),
)
