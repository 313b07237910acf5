use Rattle.std.proofs.Common.{◌≡◌, ◌∙◌, ap, arith, inl, inr}
use Rattle.std.proofs.lemmas.Result.{err_from_is_err_and}
use Rattle.file_tree.specs.Disk.{Map, Story}
use Rattle.profile_lines.specs.Files.{MissFolder, ReadsFolder, content}
use Rattle.profile_lines.proofs.Chains.{breaks_at, chain_more}
use Rattle.profile_lines.proofs.whole.read_folders.Goals as goal

pub returns-in_err-read_folder-clause-fault : goal.returns-in_err-read_folder-clause-fault
returns-in_err-read_folder-clause-fault g c t =
    let m : Map = (g.T.Tree.story c.args.tree.now).now.holds in
    let n : Map = (g.T.Tree.story c.loop-folder.tree).now.holds in
    let n-is : n ≡ m = ap (λ (s : Story). s.now.holds) (c.loop-folder.invariant.1 t) in
    let q = err_from_is_err_and c.from_residual.result c.from_residual.ensures.1 in
    rw (q.1, q.2) (elim (c.in_err-read_folder.ensures.fault t) [
      | inl machine ↦ inl machine
      | inr miss ↦ inr (breaks_at ReadsFolder m n n-is c.args.folders.now c.loop-folder.folder-index c.folder-item.result c.folder-item.result c.loop-folder-test.true c.folder-item.is (content c.args.profile.now) (content c.loop-folder.profile) (c.loop-folder.invariant.0 t) MissFolder c.in_err-read_folder.field-0.0 miss)
    ])

pub loop-folder-preserved : goal.loop-folder-preserved
loop-folder-preserved g c =
    let m : Map = (g.T.Tree.story c.args.tree.now).now.holds in
    let n : Map = (g.T.Tree.story c.loop-folder.tree).now.holds in (
      λ t.
          let n-is : n ≡ m = ap (λ (s : Story). s.now.holds) (c.loop-folder.invariant.1 t) in
          chain_more ReadsFolder m n n-is c.args.folders.now c.loop-folder.folder-index c.folder-item.result c.folder-item.result c.loop-folder-test.true c.folder-item.is (content c.args.profile.now) (content c.loop-folder.profile) (c.loop-folder.invariant.0 t) (content c.read_folder.new.profile) (c.in_ok-read_folder.ensures.found t),
      λ t. c.in_ok-read_folder.ensures.same t ∙ c.loop-folder.invariant.1 t,
      omega (arith, c.in_ok-read_folder.ensures.faults.later, c.loop-folder.invariant.2),
    )
