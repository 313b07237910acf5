use Rattle.std.proofs.Common.{◌∙◌, ℕ, List, ap, subst, sym}
use Rattle.file_tree.specs.Disk.{Map}
use Rattle.recovery.specs.Found.{JournalValue}
use Rattle.recovery.specs.Phases.{IsRedone}
use Rattle.recovery.proofs.Stretches.{AtRest, recovered_at_end, same_holds, stays_cleared, stays_on, stays_redone, still_found}
use Rattle.recovery.proofs.run.recover.Goals as goal

pub returns-in_err-redo-clause-moments : goal.returns-in_err-redo-clause-moments
returns-in_err-redo-clause-moments g c t =
    let s = g.T.Tree.story c.args.tree.now in
    let s1 = g.T.Tree.story c.sync.new.self in
    let s2 = g.T.Tree.story c.read_journal.new.tree in
    let s3 = g.T.Tree.story c.redo.new.tree in
    let f = c.in_ok-journal.journal in
    let rest : AtRest s s1 s2 = (c.in_ok-sync.ensures.ok t, c.read_journal.ensures.same t) in
    let found = still_found s s1 s2 f rest (c.in_ok-journal.ensures.found t) in
    stays_redone s s1 s2 s3 f rest found (c.redo.ensures.walks t)

pub returns-in_err-remove_gates-clause-moments : goal.returns-in_err-remove_gates-clause-moments
returns-in_err-remove_gates-clause-moments g c t =
    let s = g.T.Tree.story c.args.tree.now in
    let s1 = g.T.Tree.story c.sync.new.self in
    let s2 = g.T.Tree.story c.read_journal.new.tree in
    let s3 = g.T.Tree.story c.redo.new.tree in
    let s4 = g.T.Tree.story c.remove_gates.new.tree in
    let f = c.in_ok-journal.journal in
    let rest : AtRest s s1 s2 = (c.in_ok-sync.ensures.ok t, c.read_journal.ensures.same t) in
    let found = still_found s s1 s2 f rest (c.in_ok-journal.ensures.found t) in
    let first = stays_redone s s1 s2 s3 f rest found (c.redo.ensures.walks t) in
    let gates = c.deref.ensures.value ∙ ap (λ (x : JournalValue). x.gates) c.journal.view_is in
    let redone = subst (λ (m : Map). IsRedone m f.gates s3.now) (same_holds s s1 s2 rest) (c.in_ok-redo.ensures.ok t) in
    stays_on s.now f s s3 s4 found first (c.remove_gates.ensures.moments t s.now.holds (subst (λ (l : List ℕ). IsRedone s.now.holds l s3.now) (sym gates) redone))

pub returns-in_err-clear_journal-clause-moments : goal.returns-in_err-clear_journal-clause-moments
returns-in_err-clear_journal-clause-moments g c t =
    let s = g.T.Tree.story c.args.tree.now in
    let s1 = g.T.Tree.story c.sync.new.self in
    let s2 = g.T.Tree.story c.read_journal.new.tree in
    let s3 = g.T.Tree.story c.redo.new.tree in
    let s4 = g.T.Tree.story c.remove_gates.new.tree in
    let s5 = g.T.Tree.story c.clear_journal.new.tree in
    let f = c.in_ok-journal.journal in
    let rest : AtRest s s1 s2 = (c.in_ok-sync.ensures.ok t, c.read_journal.ensures.same t) in
    let found = still_found s s1 s2 f rest (c.in_ok-journal.ensures.found t) in
    let first = stays_redone s s1 s2 s3 f rest found (c.redo.ensures.walks t) in
    let gates = c.deref.ensures.value ∙ ap (λ (x : JournalValue). x.gates) c.journal.view_is in
    let redone = subst (λ (m : Map). IsRedone m f.gates s3.now) (same_holds s s1 s2 rest) (c.in_ok-redo.ensures.ok t) in
    let redone' = subst (λ (l : List ℕ). IsRedone s.now.holds l s3.now) (sym gates) redone in
    let second = stays_on s.now f s s3 s4 found first (c.remove_gates.ensures.moments t s.now.holds redone') in
    let shut = c.in_ok-remove_gates.ensures.ok t s.now.holds redone' in
    stays_cleared s.now f s s4 s5 found second (c.clear_journal.ensures.moments t _ shut)

pub returns-clause-moments : goal.returns-clause-moments
returns-clause-moments g c t =
    let s = g.T.Tree.story c.args.tree.now in
    let s1 = g.T.Tree.story c.sync.new.self in
    let s2 = g.T.Tree.story c.read_journal.new.tree in
    let s3 = g.T.Tree.story c.redo.new.tree in
    let s4 = g.T.Tree.story c.remove_gates.new.tree in
    let s5 = g.T.Tree.story c.clear_journal.new.tree in
    let f = c.in_ok-journal.journal in
    let rest : AtRest s s1 s2 = (c.in_ok-sync.ensures.ok t, c.read_journal.ensures.same t) in
    let found = still_found s s1 s2 f rest (c.in_ok-journal.ensures.found t) in
    let first = stays_redone s s1 s2 s3 f rest found (c.redo.ensures.walks t) in
    let gates = c.deref.ensures.value ∙ ap (λ (x : JournalValue). x.gates) c.journal.view_is in
    let redone = subst (λ (m : Map). IsRedone m f.gates s3.now) (same_holds s s1 s2 rest) (c.in_ok-redo.ensures.ok t) in
    let redone' = subst (λ (l : List ℕ). IsRedone s.now.holds l s3.now) (sym gates) redone in
    let second = stays_on s.now f s s3 s4 found first (c.remove_gates.ensures.moments t s.now.holds redone') in
    let shut = c.in_ok-remove_gates.ensures.ok t s.now.holds redone' in
    stays_cleared s.now f s s4 s5 found second (c.clear_journal.ensures.moments t _ shut)

pub returns-clause-recovered : goal.returns-clause-recovered
returns-clause-recovered g c t =
    let s = g.T.Tree.story c.args.tree.now in
    let s1 = g.T.Tree.story c.sync.new.self in
    let s2 = g.T.Tree.story c.read_journal.new.tree in
    let s3 = g.T.Tree.story c.redo.new.tree in
    let s5 = g.T.Tree.story c.clear_journal.new.tree in
    let f = c.in_ok-journal.journal in
    let rest : AtRest s s1 s2 = (c.in_ok-sync.ensures.ok t, c.read_journal.ensures.same t) in
    let found = still_found s s1 s2 f rest (c.in_ok-journal.ensures.found t) in
    let gates = c.deref.ensures.value ∙ ap (λ (x : JournalValue). x.gates) c.journal.view_is in
    let redone = subst (λ (m : Map). IsRedone m f.gates s3.now) (same_holds s s1 s2 rest) (c.in_ok-redo.ensures.ok t) in
    let shut = c.in_ok-remove_gates.ensures.ok t s.now.holds (subst (λ (l : List ℕ). IsRedone s.now.holds l s3.now) (sym gates) redone) in
    (recovered_at_end s.now.holds f s5.now found (c.in_ok-clear_journal.ensures.cleared t _ shut), c.in_ok-clear_journal.ensures.settled t)
