-- A plan that was found is fit.
use Rattle.std.proofs.Common.{ℕ, List, subst, sym}
use Rattle.basics.specs.Members.{Has}
use Rattle.file_tree.specs.Disk.{Map}
use Rattle.pkg_state.specs.Package.{Package}
use Rattle.vdb_law.specs.Packages.{Installed}
use Rattle.plan_law.specs.Accepted.{IsAccepted}
use Rattle.plan_law.specs.Plans.{Group}
use Rattle.law_commit.specs.Lit.{packages_of}
use Rattle.plan_model.specs.Laws.{LinkedAdditionsCanBeKept}
use Rattle.plan_model.specs.Linked.{IsLinked}
use Rattle.plan_text.specs.Plans.{plan_value}
use Rattle.plan_text.specs.Texts.{IsPlan}
use Rattle.emerge_choose.specs.declared.chosen.Chosen.{Chosen}
use Rattle.emerge_find.specs.Choices.{Choices, IsAimed, flips_of, installed_of, offered_of}
use Rattle.emerge_find.specs.Laws.{CanBeKept, FoundPlansAreFit}
use Rattle.emerge_find.specs.declared.asked.Aim.{Aim}
use Rattle.emerge_find.specs.declared.asked.Aim.TheVariants.{Atoms, File, Unmerge}
use Rattle.emerge_find.proofs.Formed.{offered_formed}
use Rattle.emerge_find.proofs.Recorded.{recorded_again}
use Rattle.emerge_find.proofs.Shaped.{in_order}

-- whatever is aimed at, the plan is linked to its text and accepted
record IsRight (k : Choices) (chosen : Chosen) : Type 0 where
  form : IsPlan (plan_value chosen.text)
  linked : IsLinked (offered_of k) (plan_value chosen.text) chosen.plan
  accepted : IsAccepted chosen.plan (installed_of k)

right : (m : Map) (k : Choices) (aim : Aim) (chosen : Chosen) → IsAimed m k aim chosen → IsRight k chosen
right m k (Atoms wanted world update limit flips) chosen is = record {
  form = is.2.holds.of_universe.form;
  linked = is.2.holds.good.stands.linked;
  accepted = is.2.holds.good.accepted;
}
right m k (File path) chosen is = record {
  form = is.text.form;
  linked = is.good.stands.linked;
  accepted = is.good.accepted;
}
right m k (Unmerge atoms) chosen is = record {
  form = is.is.form;
  linked = is.good.stands.linked;
  accepted = is.good.accepted;
}

pub found_fit : LinkedAdditionsCanBeKept → FoundPlansAreFit
found_fit law = λ m asked found is.
    let k = is.all in
    let plan : List Group = found.chosen.plan in
    let of = right m k asked.aim found.chosen is.inside.chosen in
    let text = plan_value found.chosen.text in
    let offered = offered_formed m (flips_of asked.aim) k.implicit k.candidates k.hidden is.are.offers in
    let keep : (g : Group) (p : Package) → Has plan g → Has g.additions p → CanBeKept k.implicit p = λ g p has_g has_p.
    let kept = law k.implicit (offered_of k) text plan g p offered of.form of.linked has_g has_p in
    record { needs = kept.recordable; enabled = recorded_again k.implicit p kept.lit } in
    record {
      earlier = in_order (offered_of k) text plan of.form of.linked;
      accepted = subst (λ (flags : List (List ℕ)). IsAccepted plan (packages_of flags found.packages.items)) (sym is.inside.implicit)
          (subst (λ (ps : List Installed). IsAccepted plan (packages_of k.implicit ps)) (sym is.inside.packages) of.accepted);
      kept = subst (λ (flags : List (List ℕ)). (g : Group) (p : Package) → Has plan g → Has g.additions p → CanBeKept flags p) (sym is.inside.implicit) keep;
    }
