use Rattle.std.proofs.Common.{◌∙◌, ap, subst, sym}
use Rattle.file_tree.specs.Disk.{Story, settled}
use Rattle.file_tree.specs.Moments.{Since}
use Rattle.merge_core.specs.Recovery.{Asked, with_removed}
use Rattle.recovery.proofs.Cleared.{Before, cleared_at_end, listed, shut_begins, shut_cleared, shut_synced}
use Rattle.recovery.proofs.clearing.clear_journal.Goals as goal

pub returns-in_err-jobs-clause-moments : goal.returns-in_err-jobs-clause-moments
returns-in_err-jobs-clause-moments g c t m shut = (shut_begins m (g.T.Tree.story c.args.tree.now) shut).since

pub returns-in_err-paths-clause-moments : goal.returns-in_err-paths-clause-moments
returns-in_err-paths-clause-moments g c t m shut =
    let s = g.T.Tree.story c.args.tree.now in
    subst (λ (x : Story). Since (Before m) s x) (sym (c.list.ensures.same t)) (shut_begins m s shut).since

pub returns-in_err-remove_all-clause-moments : goal.returns-in_err-remove_all-clause-moments
returns-in_err-remove_all-clause-moments g c t m shut =
    let s = g.T.Tree.story c.args.tree.now in
    let s2 = g.T.Tree.story c.remove_all.new.tree in
    let all = listed c.in_ok-jobs.jobs c.in_ok-paths.paths.items c.deref.result.now s.now c.in_ok-jobs.ensures c.deref.ensures.value (c.in_ok-paths.ensures.answer t) in
    let asked = subst (λ (x : Story). Asked c.deref.result.now x s2) (c.list.ensures.same t) (c.remove_all.ensures.asked t) in
    (shut_cleared m c.deref.result.now s s2 all shut asked).since

pub returns-in_err-sync-clause-moments : goal.returns-in_err-sync-clause-moments
returns-in_err-sync-clause-moments g c t m shut =
    let s = g.T.Tree.story c.args.tree.now in
    let s2 = g.T.Tree.story c.remove_all.new.tree in
    let s3 = g.T.Tree.story c.sync.new.self in
    let all = listed c.in_ok-jobs.jobs c.in_ok-paths.paths.items c.deref.result.now s.now c.in_ok-jobs.ensures c.deref.ensures.value (c.in_ok-paths.ensures.answer t) in
    let asked = subst (λ (x : Story). Asked c.deref.result.now x s2) (c.list.ensures.same t) (c.remove_all.ensures.asked t) in
    (shut_synced m s s2 s3 (shut_cleared m c.deref.result.now s s2 all shut asked) (c.sync.ensures.moved t)).since

pub returns-clause-moments : goal.returns-clause-moments
returns-clause-moments g c t m shut =
    let s = g.T.Tree.story c.args.tree.now in
    let s2 = g.T.Tree.story c.remove_all.new.tree in
    let s3 = g.T.Tree.story c.sync.new.self in
    let all = listed c.in_ok-jobs.jobs c.in_ok-paths.paths.items c.deref.result.now s.now c.in_ok-jobs.ensures c.deref.ensures.value (c.in_ok-paths.ensures.answer t) in
    let asked = subst (λ (x : Story). Asked c.deref.result.now x s2) (c.list.ensures.same t) (c.remove_all.ensures.asked t) in
    (shut_synced m s s2 s3 (shut_cleared m c.deref.result.now s s2 all shut asked) (c.sync.ensures.moved t)).since

pub returns-clause-cleared : goal.returns-clause-cleared
returns-clause-cleared g c t m shut =
    let s = g.T.Tree.story c.args.tree.now in
    let s2 = g.T.Tree.story c.remove_all.new.tree in
    let s3 = g.T.Tree.story c.sync.new.self in
    let all = listed c.in_ok-jobs.jobs c.in_ok-paths.paths.items c.deref.result.now s.now c.in_ok-jobs.ensures c.deref.ensures.value (c.in_ok-paths.ensures.answer t) in
    let asked = subst (λ (x : Story). Asked c.deref.result.now x s2) (c.list.ensures.same t) (c.remove_all.ensures.asked t) in
    let run = shut_synced m s s2 s3 (shut_cleared m c.deref.result.now s s2 all shut asked) (c.sync.ensures.moved t) in
    let gone = ap (λ (x : Story). x.now) (c.in_ok-sync.ensures.ok t)
    ∙ (ap settled (c.in_ok-remove_all.ensures.ok t) ∙ ap (λ (x : Story). settled (with_removed c.deref.result.now x.now)) (c.list.ensures.same t)) in
    cleared_at_end m c.deref.result.now s.now s3.now all run.phase gone
