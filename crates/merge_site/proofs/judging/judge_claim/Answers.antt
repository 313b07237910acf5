use Rattle.std.proofs.Common.{◌≡◌, ◌∙◌, List, ℕ, Option, subst, sym}
use Rattle.std.specs.Prelude.{IfErr, OnOk}
use Rattle.std.specs.List.{AllByRecursion}
use Rattle.merge_record.specs.declared.record.OwnerKey.{OwnerKey}
use Rattle.merge_site.specs.Claiming.{IsClearFor, StopsAt}
use Rattle.merge_site.proofs.Judged.{err_then, no_err, owners_alike}
use Rattle.merge_site.proofs.Staged.{made_then}
use Rattle.merge_site.proofs.judging.judge_claim.Goals as goal
use Rattle.merge_site.proofs.judging.judge_claim.Goals.{then-is_err-2, else-is_err-2}

pub returns-clause-clear : goal.returns-clause-clear
returns-clause-clear g c t =
    let owners = made_then c.claim_paths-taken.result _ (sym c.is_err.ensures.value ∙ c.if-is_err.false) c.claim_paths-taken.ensures.owners in
    subst (λ (o : List ℕ → Option OwnerKey). OnOk c.judge_claimed-judged.result (AllByRecursion (IsClearFor (g.T.Tree.story c.args.tree.now).now.holds o) c.args.wishes.now))
    (owners_alike c.args.book.now c.claim_paths-taken.new.book owners) (c.judge_claimed-judged.ensures.clear t)

pub returns-clause-met : goal.returns-clause-met
returns-clause-met g c t =
    let owners = made_then c.claim_paths-taken.result _ (sym c.is_err.ensures.value ∙ c.if-is_err.false) c.claim_paths-taken.ensures.owners in
    subst (λ (o : List ℕ → Option OwnerKey). IfErr c.judge_claimed-judged.result (StopsAt (g.T.Tree.story c.args.tree.now).now.holds o c.args.wishes.now))
    (owners_alike c.args.book.now c.claim_paths-taken.new.book owners) (c.judge_claimed-judged.ensures.met t)

pub returns-clause-kept : goal.returns-clause-kept
returns-clause-kept g c =
    let good = sym c.is_err.ensures.value ∙ c.if-is_err.false in
    let owners = made_then c.claim_paths-taken.result _ good c.claim_paths-taken.ensures.owners in
    let claims = made_then c.claim_paths-taken.result _ good c.claim_paths-taken.ensures.claims in
    let indexed = made_then c.claim_paths-taken.result _ good c.claim_paths-taken.ensures.indexed in
    elim c.if-is_err-2.branch [
      | then-is_err-2 w ↦
          let back : w.release.new.self ≡ c.args.book.now = w.release.ensures.back c.args.book.now (record { placed = c.args.wishes.now; removed = c.args.removals.now }) indexed c.requires.new owners claims in
          let same : c.if-is_err-2.book ≡ c.args.book.now = cc (w.book-is, back) in
          err_then c.judge_claimed-judged.result _ same
      | else-is_err-2 w ↦ no_err c.judge_claimed-judged.result _ (sym c.is_err-2.ensures.value ∙ w.if-is_err-2.false)
    ]
