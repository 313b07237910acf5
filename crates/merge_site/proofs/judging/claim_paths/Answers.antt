use Rattle.std.proofs.Common.{List, subst, sym}
use Rattle.owner_book.specs.Book.{path_count}
use Rattle.owner_book.specs.declared.limits.TheConstants.{MOST_PATHS}
use Rattle.std.specs.Prelude.{◌≤◌, ◌≡◌, true, ℕ}
use Rattle.file_tree.specs.PathSets.{is_in}
use Rattle.owner_book.specs.declared.wish.Wish.{Wish}
use Rattle.owner_book.specs.Rules.{is_dying}
use Rattle.owner_book.specs.Whole.{AreFree, IsRefused}
use Rattle.merge_site.specs.Claiming.{Stops}
use Rattle.merge_site.specs.Stopping.{EarlyStops}
use Rattle.merge_site.specs.declared.fault.ClaimStop.{ClaimStop}
use Rattle.merge_site.proofs.Judged.{early_kind, early_stop, none_kept}
use Rattle.merge_site.proofs.judging.claim_paths.Goals as goal

pub claim-requires-clause-unclaimed : goal.claim-requires-clause-unclaimed
claim-requires-clause-unclaimed c q g h =
    let all = none_kept c.in_ok-path.field-0 _ _ c.in_default.not-Some c.in_ok-path.ensures in
    (all q (subst (λ (l : List (List ℕ)). is_in l q ≡ true) c.in_ok-removed.ensures h)).unclaimed g

pub returns-in-Ok-clause-taken : goal.returns-in-Ok-clause-taken
returns-in-Ok-clause-taken c =
    let all = none_kept c.in_ok-path.field-0 _ _ c.in_default.not-Some c.in_ok-path.ensures in
    record {
      removable = all;
      free = subst (λ (l : List Wish). AreFree c.args.book.now (is_dying c.args.dying.now) l) c.in_ok-placed.ensures c.in-Ok.ensures.free;
      small = subst (λ (l : List Wish). path_count c.args.book.now l ≤ MOST_PATHS) c.in_ok-placed.ensures c.in-Ok.ensures.small;
    }

pub returns-in-Err-clause-stopped : goal.returns-in-Err-clause-stopped
returns-in-Err-clause-stopped c =
    let all = none_kept c.in_ok-path.field-0 _ _ c.in_default.not-Some c.in_ok-path.ensures in
    subst (λ (s : ClaimStop). Stops c.args.book.now c.args.dying.now c.args.wishes.now c.args.removals.now s) (sym c.of.ensures)
    (early_stop c.args.book.now c.args.dying.now c.args.wishes.now c.args.removals.now c.in-Err.fault all
    (subst (λ (l : List Wish). IsRefused c.args.book.now (is_dying c.args.dying.now) l c.in-Err.fault) c.in_ok-placed.ensures c.in-Err.ensures.refused))

pub returns-in-Err-clause-early : goal.returns-in-Err-clause-early
returns-in-Err-clause-early c =
    subst EarlyStops (sym c.of.ensures) (early_kind c.args.book.now c.args.dying.now c.in_ok-placed.placed.items c.in-Err.fault c.in-Err.ensures.refused)
