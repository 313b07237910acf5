-- The plan of a choice is in form.
use Rattle.std.proofs.Common.{◌≡◌, ◌∙◌, true, List, [], ◌∷◌, arith, refl, ap, map}
use Rattle.std.specs.List.{AllByRecursion}
use Rattle.build_pool.specs.declared.orders.Order.{Order}
use Rattle.pkg_state.specs.Package.{Package}
use Rattle.plan_text.specs.Lines.{line_text}
use Rattle.plan_text.specs.Texts.{IsAddition, IsPlan, add_line, remove_line}
use Rattle.plan_text.specs.Words.{IsBind, IsEntry, IsRemoval, rise}
use Rattle.plan_text.specs.declared.plan.Removal.{Removal}
use Rattle.merge_groups.specs.Binds.{binds_of}
use Rattle.merge_groups.specs.Named.{IsNamed}
use Rattle.merge_groups.specs.Order.{entry_of, removal_of, text_of}
use Rattle.merge_groups.specs.Single.{addition_of, groups_of}
use Rattle.merge_groups.specs.declared.change.Change.TheVariants as changes
use Rattle.merge_groups.proofs.Kept.{kept_flags}

pub entry_named : (p : Package) → IsNamed p → IsEntry (entry_of p)
entry_named p is = record { id = is.id; slot = is.facts.slot; subslot = is.facts.subslot; enabled = kept_flags p is.facts.enabled }

pub addition_named : (ps : List Package) (p : Package) → IsNamed p → AllByRecursion IsBind (binds_of ps p) → IsAddition (addition_of ps p)
addition_named ps p is binds = record {
  says = record { id = is.id; slot = is.facts.slot; subslot = is.facts.subslot; enabled = kept_flags p is.facts.enabled };
  binds = binds;
}

-- a group of some changes may stand in a plan
groups_formed : (rs : List Removal) (more : List Order) → AllByRecursion IsRemoval rs → AllByRecursion IsAddition more → rise (map (λ r. line_text (remove_line r)) rs) ≡ true → rise (map (λ a. line_text (add_line a)) more) ≡ true → IsPlan (groups_of rs more)
groups_formed [] [] gone come up above = record { few = omega arith; groups = tt }
groups_formed [] (a ∷ more) gone come up above = record {
  few = omega arith;
  groups = (record { earlier = refl; changes = omega arith; removals = gone; removals_rise = up; additions = come; additions_rise = above }, tt);
}
groups_formed (r ∷ rs) more gone come up above = record {
  few = omega arith;
  groups = (record { earlier = refl; changes = omega arith; removals = gone; removals_rise = up; additions = come; additions_rise = above }, tt);
}

removal_texts : (ps : List Package) → map (λ r. line_text (remove_line r)) (map removal_of ps) ≡ map (text_of changes.Removal) ps
removal_texts [] = refl
removal_texts (p ∷ ps) = ap (λ ts. text_of changes.Removal p ∷ ts) (removal_texts ps)

addition_texts : (qs ps : List Package) → map (λ a. line_text (add_line a)) (map (addition_of qs) ps) ≡ map (text_of changes.Addition) ps
addition_texts qs [] = refl
addition_texts qs (p ∷ ps) = ap (λ ts. text_of changes.Addition p ∷ ts) (addition_texts qs ps)

pub single_formed : (qs going coming : List Package) (rs : List Removal) (more : List Order) → rs ≡ map removal_of going → more ≡ map (addition_of qs) coming → AllByRecursion IsRemoval rs → AllByRecursion IsAddition more → rise (map (text_of changes.Removal) going) ≡ true → rise (map (text_of changes.Addition) coming) ≡ true → IsPlan (groups_of rs more)
single_formed qs going coming rs more are these gone come up above =
    groups_formed rs more gone come
    (ap (λ (l : List Removal). rise (map (λ r. line_text (remove_line r)) l)) are ∙ (ap rise (removal_texts going) ∙ up))
    (ap (λ (l : List Order). rise (map (λ a. line_text (add_line a)) l)) these ∙ (ap rise (addition_texts qs coming) ∙ above))
