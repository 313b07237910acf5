use Rattle.std.proofs.Common.{◌∙◌, ap, map, subst, sym}
use Rattle.basics.proofs.Members.{distinct_filtered}
use Rattle.dep_atom.specs.Values.{atom_value}
use Rattle.pkg_state.specs.Consistent.{AreApart}
use Rattle.pkg_state.specs.Package.{Package, line_of}
use Rattle.emerge_find.specs.Unmerges.{is_matched}
use Rattle.emerge_find.proofs.unmerge.text_of.Goals as goal

pub unmerge_plan-requires : goal.unmerge_plan-requires
unmerge_plan-requires c =
    subst AreApart (sym (ap (map (λ p. p.now)) c.deref.ensures.value ∙ c.in_ok-going.ensures))
    (distinct_filtered (λ (p : Package). line_of p.facts) (is_matched (map atom_value c.args.atoms.now)) c.args.installed.now c.requires)
