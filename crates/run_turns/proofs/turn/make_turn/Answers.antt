use Rattle.std.proofs.Common.{◌≡◌, ◌∙◌, ℕ, List, ap, map, subst, sym}
use Rattle.std.specs.Prelude.{◌↔◌}
use Rattle.std.specs.List.{AllByRecursion}
use Rattle.basics.specs.Members.{AreDistinct, Has}
use Rattle.merge_group.specs.Working.{all_of}
use Rattle.merge_group.specs.declared.files.Files.{Files}
use Rattle.merge_fit.specs.Images.{path_of}
use Rattle.plan_law.specs.Plans.{Group}
use Rattle.run_files.specs.Made.{IsNamed}
use Rattle.run_files.specs.declared.newcomer.Newcomer.{Newcomer}
use Rattle.run_turns.specs.Held.{held_for, holdings_of}
use Rattle.run_turns.specs.Plans.{coming}
use Rattle.run_turns.proofs.Remembered.{none_old, removed_of}
use Rattle.run_turns.proofs.turn.make_turn.Goals as goal

pub returns-clause-turn : goal.returns-clause-turn
returns-clause-turn c ps plan are =
    let held = holdings_of c.args.held.now in
    let files = c.in_ok-packages.packages.items in
    let placed = map path_of (all_of c.deref-3.result.now) in
    let old = c.new-removals.result.items in
    let new = c.add_free.new.removals.items in
    let going = c.in_ok-going.going.items in
    let adds = c.in_ok-add_free.ensures.added placed (none_old placed _ old c.new-removals.ensures.items c.in_ok-taken.ensures) in
    let named : going ≡ held_for held c.args.group.now.removals =
    c.in_ok-going.ensures ∙ ap (held_for held) (c.deref-2.ensures.value ∙ ap (λ (x : Group). x.removals) c.group.view_is) in
    record {
      named = subst (λ (l : List Newcomer). AllByRecursion IsNamed l) c.deref.ensures.value c.newcomers_are_named.ensures;
      files = c.in_ok-packages.ensures.files ps (coming plan) are;
      removes = λ q.
          subst (λ (l : List (List ℕ)). Has new q ↔ (Has l q × ¬ Has (map path_of (all_of files)) q)) named
          (subst (λ (l : List Files). Has new q ↔ (Has going q × ¬ Has (map path_of (all_of l)) q)) c.deref-3.ensures.value (removed_of going placed old new c.new-removals.ensures.items adds q));
    }

pub returns-clause-once : goal.returns-clause-once
returns-clause-once c =
    let placed = map path_of (all_of c.deref-3.result.now) in
    let old = c.new-removals.result.items in
    let adds = c.in_ok-add_free.ensures.added placed (none_old placed _ old c.new-removals.ensures.items c.in_ok-taken.ensures) in
    adds.once (subst (λ (l : List (List ℕ)). AreDistinct l) (sym c.new-removals.ensures.items) tt)
