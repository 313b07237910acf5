use Rattle.std.proofs.Common.{◌≡◌, ◌++◌, drop, map}
use Rattle.dep_atom.specs.Values.{atom_value}
use Rattle.plan_lives.specs.Gathered.{gathered}
use Rattle.plan_lives.specs.Index.{all_lives}
use Rattle.plan_lives.specs.Lives.{lives_of}
use Rattle.plan_lives.proofs.chains.gathered.Given as goal

abbrev pub invariant-loop-atom : goal.invariant-loop-atom
invariant-loop-atom l = lives_of l.fits.items ++ gathered (map (λ atom. atom_value atom.now) (drop l.atom-index l.atoms)) l.asker (all_lives l.index) ≡ gathered (map (λ atom. atom_value atom.now) l.atoms) l.asker (all_lives l.index)
