use Rattle.std.proofs.Common.{◌≡◌, ◌∙◌, ap, arith, inl, inr, refl}
use Rattle.std.proofs.lemmas.Result.{err_from_is_err_and}
use Rattle.file_tree.specs.Disk.{Map, Story}
use Rattle.profile_lines.specs.Files.{MissFile, ReadsFile, content, line_files}
use Rattle.profile_lines.proofs.Chains.{breaks_at, chain_more}
use Rattle.profile_lines.proofs.folder.read_line_files.Goals as goal

pub returns-in_err-read_one-clause-fault : goal.returns-in_err-read_one-clause-fault
returns-in_err-read_one-clause-fault g c t =
    let m : Map = (g.T.Tree.story c.args.tree.now).now.holds in
    let n : Map = (g.T.Tree.story c.loop-file.tree).now.holds in
    let n-is : n ≡ m = ap (λ (s : Story). s.now.holds) (c.loop-file.invariant.1 t) in
    let q = err_from_is_err_and c.from_residual.result c.from_residual.ensures.1 in
    rw (q.1, q.2) (elim (c.in_err-read_one.ensures.fault t) [
      | inl machine ↦ inl machine
      | inr miss ↦ inr (breaks_at (λ (y : Map). ReadsFile y c.args.folder.now) m n n-is line_files c.loop-file.file-index _ _ c.loop-file-test.true refl (content c.args.profile.now) (content c.loop-file.profile) (c.loop-file.invariant.0 t) (λ (y : Map). MissFile y c.args.folder.now) c.in_err-read_one.field-0.0 miss)
    ])

pub loop-file-preserved : goal.loop-file-preserved
loop-file-preserved g c =
    let m : Map = (g.T.Tree.story c.args.tree.now).now.holds in
    let n : Map = (g.T.Tree.story c.loop-file.tree).now.holds in (
      λ t.
          let n-is : n ≡ m = ap (λ (s : Story). s.now.holds) (c.loop-file.invariant.1 t) in
          chain_more (λ (y : Map). ReadsFile y c.args.folder.now) m n n-is line_files c.loop-file.file-index _ _ c.loop-file-test.true refl (content c.args.profile.now) (content c.loop-file.profile) (c.loop-file.invariant.0 t) (content c.read_one.new.profile) (c.in_ok-read_one.ensures.found t),
      λ t. c.in_ok-read_one.ensures.same t ∙ c.loop-file.invariant.1 t,
      omega (arith, c.in_ok-read_one.ensures.faults.later, c.loop-file.invariant.2),
    )
