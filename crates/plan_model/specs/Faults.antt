-- The first addition of a plan's text that can't be linked, as a rule that refuses with its fault.
use Rattle.std.specs.Prelude.{◌≡◌, ◌≢◌, ℕ, ◌+◌, false, List, Option, None, Some, MatchResult, Result}
use Rattle.pms_names.specs.Flags.{has}
use Rattle.build_pool.specs.declared.orders.Order.{Order}
use Rattle.pkg_state.specs.Package.{Package}
use Rattle.plan_text.specs.Plans.{GroupValue}
use Rattle.plan_rules.specs.Verdicts.{each, each_from, refuse}
use Rattle.plan_model.specs.Offers.{IsFirst}
use Rattle.plan_model.specs.declared.fault.LinkFault.{LinkFault}
use Rattle.plan_model.specs.declared.fault.LinkFault.TheVariants as faults

-- a flag of the text that the package doesn't know
abbrev pub flag_rule : ℕ → Order → Package → List ℕ → Option LinkFault → Type 0
flag_rule g a p flag =
    refuse (has p.facts.iuse flag ≡ false) (faults.BadFlag (g + 1) a.id flag)

-- no package is found, or one that doesn't know a flag
abbrev pub found_rule : ℕ → Order → Option Package → Option LinkFault → Type 0
found_rule g a None verdict = verdict ≡ Some (faults.NoCandidate (g + 1) a.id)
found_rule g a (Some p) verdict = each a.enabled (flag_rule g a p) verdict

-- an addition of the group at a place
abbrev pub addition_rule : List Package → ℕ → Order → Option LinkFault → Type 0
addition_rule offered g a verdict =
    (found : Option Package) × IsFirst a offered found × found_rule g a found verdict

abbrev pub group_rule : List Package → ℕ → GroupValue → Option LinkFault → Type 0
group_rule offered g group = each group.additions (addition_rule offered g)

-- each addition, in the order of the text
abbrev pub link_rule : List Package → List GroupValue → Option LinkFault → Type 0
link_rule offered text = each_from 0 text (group_rule offered)

-- the answer is the verdict that the rule gives, if it isn't want of memory
abbrev pub Says : {T : Type 0} → (Option LinkFault → Type 0) → Result T LinkFault → Type 0
Says rule result =
    MatchResult result (λ x. rule None) (λ e. e ≢ faults.Memory → rule (Some e))
