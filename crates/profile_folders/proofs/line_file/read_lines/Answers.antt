use Rattle.std.proofs.Common.{◌≡◌, List, ap, inl, inr, subst, sym, ℕ}
use Rattle.std.proofs.lemmas.Result.{err_from_is_err_and}
use Rattle.file_tree.specs.Disk.{Map, Story}
use Rattle.profile_folders.specs.LineFiles.{AreFiles, HasBadByte}
use Rattle.profile_folders.proofs.Listed.{all_lines, fault_at, lines_or_not, one_lines}
use Rattle.profile_folders.proofs.line_file.read_lines.Goals as goal

pub returns-in_err-add_lines-clause-only : goal.returns-in_err-add_lines-clause-only
returns-in_err-add_lines-clause-only g c t these are =
    let m : Map = (g.T.Tree.story c.args.tree.now).now.holds in
    let n : Map = (g.T.Tree.story c.loop-file.tree).now.holds in
    let n-is : n ≡ m = ap (λ (s : Story). s.now.holds) (c.loop-file.invariant.2 t) in
    let files : List (List ℕ) = c.deref-file-items.result.now in
    let e = c.in_err-add_lines.field-0.0 in
    let are-files : AreFiles m c.args.path.now files = subst (AreFiles m c.args.path.now) (sym c.deref-file-items.ensures.value) (c.in_ok-files.ensures.found t) in
    let q = err_from_is_err_and c.from_residual-in_err-add_lines.result c.from_residual-in_err-add_lines.ensures.1 in
    rw (q.1, q.2) (elim (c.in_err-add_lines.ensures.fault t) [
      | inl machine ↦ machine
      | inr bad ↦ absurd (lines_or_not m c.args.path.now these e are (fault_at m c.args.path.now files are-files c.loop-file.file-index c.loop-file.all.items (c.loop-file.invariant.0 t) (c.loop-file.invariant.1 t) c.file-item.result c.loop-file-test.true c.file-item.is e (subst (λ (y : Map). HasBadByte y c.file-item.result e) n-is bad)))
    ])

pub returns-in_err-add_lines-clause-fault : goal.returns-in_err-add_lines-clause-fault
returns-in_err-add_lines-clause-fault g c t =
    let m : Map = (g.T.Tree.story c.args.tree.now).now.holds in
    let n : Map = (g.T.Tree.story c.loop-file.tree).now.holds in
    let n-is : n ≡ m = ap (λ (s : Story). s.now.holds) (c.loop-file.invariant.2 t) in
    let files : List (List ℕ) = c.deref-file-items.result.now in
    let e = c.in_err-add_lines.field-0.0 in
    let are-files : AreFiles m c.args.path.now files = subst (AreFiles m c.args.path.now) (sym c.deref-file-items.ensures.value) (c.in_ok-files.ensures.found t) in
    let q = err_from_is_err_and c.from_residual-in_err-add_lines.result c.from_residual-in_err-add_lines.ensures.1 in
    rw (q.1, q.2) (elim (c.in_err-add_lines.ensures.fault t) [
      | inl machine ↦ inl machine
      | inr bad ↦ inr (fault_at m c.args.path.now files are-files c.loop-file.file-index c.loop-file.all.items (c.loop-file.invariant.0 t) (c.loop-file.invariant.1 t) c.file-item.result c.loop-file-test.true c.file-item.is e (subst (λ (y : Map). HasBadByte y c.file-item.result e) n-is bad))
    ])

pub returns-clause-only : goal.returns-clause-only
returns-clause-only g c t these are =
    let m : Map = (g.T.Tree.story c.args.tree.now).now.holds in
    let files : List (List ℕ) = c.deref-file-items.result.now in
    let are-files : AreFiles m c.args.path.now files = subst (AreFiles m c.args.path.now) (sym c.deref-file-items.ensures.value) (c.in_ok-files.ensures.found t) in
    one_lines m c.args.path.now c.loop-file.all.items these (all_lines m c.args.path.now files are-files c.loop-file.file-index c.loop-file.all.items (c.loop-file.invariant.0 t) (c.loop-file.invariant.1 t) c.loop-file-test.false) are
