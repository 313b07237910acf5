use Rattle.std.proofs.Common.{◌∙◌, List, ap, sym, ℕ}
use Rattle.std.specs.Option.{option_copied, option_map}
use Rattle.file_tree.specs.Disk.{Story}
use Rattle.visible_verdicts.specs.Candidates.{bytes_of}
use Rattle.visible_verdicts.proofs.Judged.{verdict_at}
use Rattle.visible_verdicts.proofs.reading.judge_place.Goals as goal

pub returns-clause-found : goal.returns-clause-found
returns-clause-found g c t =
    let m = (g.T.Tree.story c.args.tree.now).now.holds in
    let there = ap (λ (q : List ℕ). bytes_of (m q)) (sym c.in_ok-path.ensures) ∙ (sym (c.in_ok-entry.ensures.found t) ∙ ap (option_map (λ v. v.items)) c.in-Some.is) in
    let built = c.lent.ensures ∙ (c.in_ok-ebuild.ensures.found t ∙ (ap (λ (s : Story). bytes_of (s.now.holds c.in_ok-path-2.path)) (c.in_ok-entry.ensures.same t) ∙ ap (λ (q : List ℕ). bytes_of (m q)) c.in_ok-path-2.ensures)) in
    verdict_at m c.args.rules.now c.args.id.now c.in_ok-try_clone.field-0 c.in_ok-verdict.verdict c.deref.result.now c.in-Some.entry.items (option_copied c.lent.result) c.requires c.in_ok-try_clone.ensures c.in_ok-verdict.ensures.named there c.deref.ensures.value built c.in_ok-verdict.ensures.judged
