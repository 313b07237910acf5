use Rattle.std.proofs.Common.{◌≡◌, ℕ, List, inl, inr, subst}
use Rattle.std.proofs.lemmas.Result.{err_from_is_err_and}
use Rattle.file_tree.specs.Disk.{Map}
use Rattle.profile_lines.specs.Files.{content}
use Rattle.profile_lines.specs.Profiles.{MissFolders}
use Rattle.profile_lines.proofs.whole.read_course.Goals as goal

pub returns-in_err-read_folders-clause-fault : goal.returns-in_err-read_folders-clause-fault
returns-in_err-read_folders-clause-fault g c t =
    let m : Map = (g.T.Tree.story c.args.tree.now).now.holds in
    let q = err_from_is_err_and c.from_residual.result c.from_residual.ensures.1 in
    rw (q.1, q.2) (elim (c.in_err-read_folders.ensures.fault t) [
      | inl machine ↦ inl machine
      | inr miss ↦ inr (inl (subst (λ (fs : List (List ℕ)). MissFolders m fs (content c.args.profile.now) c.in_err-read_folders.field-0.0) c.deref.ensures.value miss))
    ])
