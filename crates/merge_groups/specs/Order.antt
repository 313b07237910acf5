-- What goes and what comes, in the order in which the text of a plan has them.
use Rattle.std.specs.Prelude.{◌≡◌, ℕ, true, List, [], filter, map}
use Rattle.std.specs.List.Sorted.{IsPermutation}
use Rattle.pms_names.specs.Flags.{has}
use Rattle.build_pool.specs.declared.orders.Order.{Order}
use Rattle.pkg_state.specs.Package.{Package}
use Rattle.plan_text.specs.Lines.{line_text}
use Rattle.plan_text.specs.Texts.{add_line, remove_line}
use Rattle.plan_text.specs.Words.{rise}
use Rattle.plan_text.specs.declared.plan.Removal.{Removal}
use Rattle.merge_groups.specs.declared.change.Change.{Change}
use Rattle.merge_groups.specs.declared.change.Change.TheVariants as changes

-- the package goes
abbrev pub removal_of : Package → Removal
removal_of p = record { id = p.facts.id; slot = p.facts.slot }

-- those of the flags that the package knows which are on
abbrev pub enabled_of : Package → List (List ℕ)
enabled_of p = filter (has p.facts.iuse) p.facts.enabled

-- the package comes; of its binds nothing is said yet
abbrev pub entry_of : Package → Order
entry_of p = record {
  id = p.facts.id;
  slot = p.facts.slot;
  subslot = p.facts.subslot;
  enabled = enabled_of p;
  binds = [];
}

-- the line of a plan's text that says it
abbrev pub text_of : Change → Package → List ℕ
text_of changes.Removal p = line_text (remove_line (removal_of p))
text_of changes.Addition p = line_text (add_line (entry_of p))

-- just these packages, and their lines rise in byte order
pub record AreInTextOrder (change : Change) (all sorted : List Package) : Type 0 where
  pub moved : IsPermutation all sorted
  pub rising : rise (map (text_of change) sorted) ≡ true
