use Rattle.std.proofs.Common.{◌≡◌, List, ap, inl, inr, subst, sym, ℕ}
use Rattle.std.proofs.lemmas.Result.{IfErr-weaker, IfOk-weaker, err_from_is_err_and}
use Rattle.file_tree.specs.Disk.{Map, Story}
use Rattle.profile_lines.specs.Files.{content}
use Rattle.profile_lines.specs.Profiles.{IsProfile}
use Rattle.profile_stack.specs.Files.{configured}
use Rattle.visible_set.proofs.ConfigLemmas.{read_is, read_misses, read_or_not}
use Rattle.visible_set.proofs.config.read_both.Goals as goal

pub returns-in_err-profile-clause-only : goal.returns-in_err-profile-clause-only
returns-in_err-profile-clause-only g c t k is =
    let m : Map = (g.T.Tree.story c.args.tree.now).now.holds in
    let q = err_from_is_err_and c.from_residual-in_err-profile.result c.from_residual-in_err-profile.ensures.1 in
    rw (q.1, q.2) (c.in_err-profile.ensures.only t is.profile (subst (λ (p : List ℕ). IsProfile m p is.profile) (sym c.in_ok-path.ensures) is.is))

pub returns-clause-found : goal.returns-clause-found
returns-clause-found g c t =
    let m : Map = (g.T.Tree.story c.args.tree.now).now.holds in
    let n : Map = (g.T.Tree.story c.read.new.tree).now.holds in
    let n-is : n ≡ m = ap (λ (s : Story). s.now.holds) (c.in_ok-profile.ensures.same t) in
    IfOk-weaker c.read_user.result _ _ (λ k reads. read_is m n n-is _ c.in_ok-path.ensures (content c.in_ok-profile.profile) (c.in_ok-profile.ensures.found t) (configured k) reads) (c.read_user.ensures.found t)

pub returns-clause-only : goal.returns-clause-only
returns-clause-only g c t k is =
    let m : Map = (g.T.Tree.story c.args.tree.now).now.holds in
    let n : Map = (g.T.Tree.story c.read.new.tree).now.holds in
    let n-is : n ≡ m = ap (λ (s : Story). s.now.holds) (c.in_ok-profile.ensures.same t) in
    IfErr-weaker c.read_user.result _ _ (λ e why. elim why [
      | inl machine ↦ machine
      | inr miss ↦ absurd (read_or_not m n n-is _ c.in_ok-path.ensures (content c.in_ok-profile.profile) (c.in_ok-profile.ensures.found t) k e is miss)
    ]) (c.read_user.ensures.fault t)

pub returns-clause-fault : goal.returns-clause-fault
returns-clause-fault g c t =
    let m : Map = (g.T.Tree.story c.args.tree.now).now.holds in
    let n : Map = (g.T.Tree.story c.read.new.tree).now.holds in
    let n-is : n ≡ m = ap (λ (s : Story). s.now.holds) (c.in_ok-profile.ensures.same t) in
    IfErr-weaker c.read_user.result _ _ (λ e why. elim why [
      | inl machine ↦ inl machine
      | inr miss ↦ inr (read_misses m n n-is _ c.in_ok-path.ensures (content c.in_ok-profile.profile) (c.in_ok-profile.ensures.found t) e miss)
    ]) (c.read_user.ensures.fault t)
