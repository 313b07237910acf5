use Rattle.std.proofs.Common.{◌∙◌, ◌+◌, false, refl, sym, subst, take, drop}
use Rattle.std.proofs.lemmas.Bool.{both_ways}
use Rattle.std.specs.Prelude.{length}
use Rattle.pms_grammar.specs.Grammar.{IsVersionText}
use Rattle.pms_names.specs.Names.{IsName}
use Rattle.pms_names.specs.declared.kind.Kind.TheVariants.{Package}
use Rattle.dep_atom.proofs.Joined.{cut_at}
use Rattle.dep_atom.proofs.Named.{then_at, then_seam}
use Rattle.dep_atom.proofs.naming.is_package_version.Goals as goal

pub returns-in-Some : goal.returns-in-Some
returns-in-Some c =
    let text = c.args.text.now in
    let at = c.in-Some.at in
    let parts = c.in-Some.ensures in
    (λ is. (take at text, drop (at + 1) text, subst (λ l. IsName Package l) c.split_at.ensures.front (c.is_one.ensures.0 is), parts.version, cut_at text at parts.within parts.hyphen), λ t. c.is_one.ensures.1 (subst (λ l. IsName Package l) (sym (c.split_at.ensures.front ∙ (then_at IsVersionText text at (λ _ v. v) parts t).0)) t.2))

pub returns-in-None : goal.returns-in-None
returns-in-None c = (λ is. absurd (both_ways false refl is), λ t. absurd (c.in-None.ensures (length t.0) (then_seam IsVersionText c.args.text.now (λ _ v. v) t)))
