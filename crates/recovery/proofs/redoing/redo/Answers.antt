use Rattle.std.proofs.Common.{◌≡◌, ◌∙◌, ℕ, List, Ok, ap, map, subst, sym}
use Rattle.file_tree.specs.Disk.{Story}
use Rattle.merge_record.specs.RecordValue.{RecordValue}
use Rattle.merge_journal.specs.Judging.{judged_open}
use Rattle.merge_journal.specs.Names.{record_path}
use Rattle.merge_core.specs.Recovery.{Asked}
use Rattle.recovery.specs.Calls.{emptied}
use Rattle.merge_journal.specs.Judging.{AreApplicable}
use Rattle.recovery.specs.Found.{JournalValue}
use Rattle.recovery.proofs.Stretches.{odd_emptied, redo_synced, redone_if_synced}
use Rattle.recovery.proofs.redoing.redo.Goals as goal

pub apply_all-requires-clause-judged : goal.apply_all-requires-clause-judged
apply_all-requires-clause-judged g c t =
    let records = c.deref.ensures.value ∙ ap (λ (f : JournalValue). f.records) c.journal.view_is in
    subst (λ (l : List RecordValue). judged_open (g.T.Tree.story c.args.tree.now).now.holds ≡ Ok l) (sym records) (c.requires.found t).records

pub apply_all-requires-clause-applicable : goal.apply_all-requires-clause-applicable
apply_all-requires-clause-applicable g c =
    let records = c.deref.ensures.value ∙ ap (λ (f : JournalValue). f.records) c.journal.view_is in
    subst AreApplicable (sym records) c.requires.applicable

pub returns-in_err-empty_records-clause-walks : goal.returns-in_err-empty_records-clause-walks
returns-in_err-empty_records-clause-walks g c t =
    let f = c.args.journal.now in
    let found = c.requires.found t in
    let s = g.T.Tree.story c.args.tree.now in
    let s1 = g.T.Tree.story c.apply_all.new.tree in
    let s2 = g.T.Tree.story c.empty_records.new.tree in
    let odd = c.deref-2.ensures.value ∙ ap (λ (x : JournalValue). x.odd) c.journal.view_is in
    odd_emptied s.now.holds f.records f.odd s s1 s2 found.records found.odd (c.apply_all.ensures.walks t) (subst (λ (l : List ℕ). Asked (map record_path l) s1 s2) odd (c.empty_records.ensures.asked t))

pub returns-in_err-sync-clause-walks : goal.returns-in_err-sync-clause-walks
returns-in_err-sync-clause-walks g c t =
    let f = c.args.journal.now in
    let found = c.requires.found t in
    let s = g.T.Tree.story c.args.tree.now in
    let s1 = g.T.Tree.story c.apply_all.new.tree in
    let s2 = g.T.Tree.story c.empty_records.new.tree in
    let s3 = g.T.Tree.story c.sync.new.self in
    let odd = c.deref-2.ensures.value ∙ ap (λ (x : JournalValue). x.odd) c.journal.view_is in
    let walks = odd_emptied s.now.holds f.records f.odd s s1 s2 found.records found.odd (c.apply_all.ensures.walks t) (subst (λ (l : List ℕ). Asked (map record_path l) s1 s2) odd (c.empty_records.ensures.asked t)) in
    redo_synced s.now.holds f.records s s2 s3 found.records walks (c.sync.ensures.moved t)

pub returns-clause-walks : goal.returns-clause-walks
returns-clause-walks g c t =
    let f = c.args.journal.now in
    let found = c.requires.found t in
    let s = g.T.Tree.story c.args.tree.now in
    let s1 = g.T.Tree.story c.apply_all.new.tree in
    let s2 = g.T.Tree.story c.empty_records.new.tree in
    let s3 = g.T.Tree.story c.sync.new.self in
    let odd = c.deref-2.ensures.value ∙ ap (λ (x : JournalValue). x.odd) c.journal.view_is in
    let walks = odd_emptied s.now.holds f.records f.odd s s1 s2 found.records found.odd (c.apply_all.ensures.walks t) (subst (λ (l : List ℕ). Asked (map record_path l) s1 s2) odd (c.empty_records.ensures.asked t)) in
    redo_synced s.now.holds f.records s s2 s3 found.records walks (c.sync.ensures.moved t)

pub returns-clause-ok : goal.returns-clause-ok
returns-clause-ok g c t =
    let f = c.args.journal.now in
    let found = c.requires.found t in
    let s = g.T.Tree.story c.args.tree.now in
    let s1 = g.T.Tree.story c.apply_all.new.tree in
    let s2 = g.T.Tree.story c.empty_records.new.tree in
    let s3 = g.T.Tree.story c.sync.new.self in
    let odd = c.deref-2.ensures.value ∙ ap (λ (x : JournalValue). x.odd) c.journal.view_is in
    let walks = odd_emptied s.now.holds f.records f.odd s s1 s2 found.records found.odd (c.apply_all.ensures.walks t) (subst (λ (l : List ℕ). Asked (map record_path l) s1 s2) odd (c.empty_records.ensures.asked t)) in
    redone_if_synced s.now.holds f s1.now s2.now s3.now found walks.1 (c.in_ok-apply_all.ensures.ok t)
    (c.in_ok-empty_records.ensures.ok t ∙ ap (λ (l : List ℕ). emptied l s1.now) odd) (ap (λ (x : Story). x.now) (c.in_ok-sync.ensures.ok t))
