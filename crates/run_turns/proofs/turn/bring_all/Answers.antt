use Rattle.std.proofs.Common.{◌≡◌, ◌∙◌, ◌++◌, ◌∷◌, ◌+◌, ℕ, List, [], ap, length, subst, sym}
use Rattle.std.specs.List.{AllZip}
use Rattle.std.proofs.lemmas.Iterator.Adapters.{YieldsList-from_vec}
use Rattle.std.proofs.lemmas.Iterator.Consumers.{YieldsList-turn}
use Rattle.std.proofs.lemmas.List.{length_push}
use Rattle.merge_group.proofs.Caused.{front_push}
use Rattle.merge_group.specs.declared.files.Files.{Files}
use Rattle.run_files.specs.Made.{AreFilesFor}
use Rattle.run_files.proofs.Zips.{zip_push}
use Rattle.run_turns.specs.Held.{holding_all, holdings_of}
use Rattle.run_turns.proofs.Remembered.{holding_next}
use Rattle.run_turns.proofs.turn.bring_all.Goals as goal

pub loop-newcomer-preserved : goal.loop-newcomer-preserved
loop-newcomer-preserved c =
    let all = c.args.newcomers.items in
    let done = c.loop-newcomer.yielded in
    let n = c.in-Some.newcomer in
    let inv = c.loop-newcomer.invariant in
    let f = c.in_ok-bring.field-0 in
    let files = c.loop-newcomer.all.items in
    let old = holdings_of c.args.held.now in
    let gives = c.into_iter-newcomer-iterator.ensures.into_iter_gives in
    let known = YieldsList-from_vec all gives.0 (gives.1 ∙ c.args.newcomers.ok.0) in
    let y = YieldsList-turn known done _ c.loop-newcomer.yielded_by c.next.result c.next.new.self n c.in-Some.is c.next.ensures.steps in (
      (λ ps coming are.
          subst (λ (l : List Files). AllZip (AreFilesFor ps coming) (done ++ n ∷ []) l) (sym c.in_ok-push.ensures.items)
          (zip_push (AreFilesFor ps coming) done files n f (inv.0 ps coming are) (c.in_ok-bring.ensures.files ps coming are))),
      ap length c.in_ok-push.ensures.items ∙ (length_push files f ∙ (ap (λ (k : ℕ). k + 1) inv.1 ∙ sym (length_push done n))),
      (λ q. holding_next done files n f old (holdings_of c.loop-newcomer.held) (holdings_of c.bring.new.held) inv.1 inv.2 c.in_ok-bring.ensures.held q
          ∙ ap (λ (l : List Files). holding_all (done ++ n ∷ []) l old q) (sym c.in_ok-push.ensures.items)),
      front_push all done n inv.3 y.0 y.1,
    )
