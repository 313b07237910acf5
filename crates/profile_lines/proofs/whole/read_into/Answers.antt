use Rattle.std.proofs.Common.{◌≡◌, ◌∙◌, ap, inl, inr}
use Rattle.std.proofs.lemmas.Result.{IfErr-weaker, on_ok_weaker}
use Rattle.file_tree.specs.Disk.{Map, Story}
use Rattle.profile_lines.specs.Files.{content}
use Rattle.profile_lines.proofs.WholeLemmas.{is_profile, miss_profile}
use Rattle.profile_lines.proofs.whole.read_into.Goals as goal

pub returns-clause-found : goal.returns-clause-found
returns-clause-found g c t =
    let m : Map = (g.T.Tree.story c.args.tree.now).now.holds in
    let n : Map = (g.T.Tree.story c.read_masks.new.tree).now.holds in
    let o : Map = (g.T.Tree.story c.walk.new.tree).now.holds in
    let n-is : n ≡ m = ap (λ (s : Story). s.now.holds) (c.in_ok-read_masks.ensures.same t) in
    let o-is : o ≡ m = ap (λ (s : Story). s.now.holds) (c.in_ok-course.ensures.same t) ∙ n-is in
    on_ok_weaker c.read_course.result
    (λ reads. is_profile m n n-is o o-is c.args.path.now (content c.read_masks.new.profile) (c.in_ok-read_masks.ensures.found t) c.in_ok-course.course.folders.items c.in_ok-course.course.end (c.in_ok-course.ensures.found t) (content c.read_course.new.profile) reads)
    (c.read_course.ensures.found t)

pub returns-clause-fault : goal.returns-clause-fault
returns-clause-fault g c t =
    let m : Map = (g.T.Tree.story c.args.tree.now).now.holds in
    let n : Map = (g.T.Tree.story c.read_masks.new.tree).now.holds in
    let o : Map = (g.T.Tree.story c.walk.new.tree).now.holds in
    let n-is : n ≡ m = ap (λ (s : Story). s.now.holds) (c.in_ok-read_masks.ensures.same t) in
    let o-is : o ≡ m = ap (λ (s : Story). s.now.holds) (c.in_ok-course.ensures.same t) ∙ n-is in
    IfErr-weaker c.read_course.result _ _
    (λ e why. elim why [
      | inl machine ↦ inl machine
      | inr miss ↦ inr (miss_profile m n n-is o o-is c.args.path.now (content c.read_masks.new.profile) (c.in_ok-read_masks.ensures.found t) c.in_ok-course.course.folders.items c.in_ok-course.course.end (c.in_ok-course.ensures.found t) e miss)
    ])
    (c.read_course.ensures.fault t)
