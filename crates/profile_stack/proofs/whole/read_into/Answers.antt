use Rattle.std.proofs.Common.{◌≡◌, ap, inl, inr}
use Rattle.std.proofs.lemmas.Result.{IfErr-weaker, on_ok_weaker}
use Rattle.file_tree.specs.Disk.{Map, Story}
use Rattle.profile_stack.specs.Files.{Config, configured}
use Rattle.profile_stack.proofs.UserLemmas.{user_misses, user_reads}
use Rattle.profile_stack.proofs.whole.read_into.Goals as goal

pub returns-clause-found : goal.returns-clause-found
returns-clause-found g c t =
    let m : Map = (g.T.Tree.story c.args.tree.now).now.holds in
    let n : Map = (g.T.Tree.story c.read_conf.new.tree).now.holds in
    let n-is : n ≡ m = ap (λ (s : Story). s.now.holds) (c.in_ok-set.ensures.same t) in
    let was : Config = configured c.args.config.now in
    on_ok_weaker c.read_line_files.result (λ reads. user_reads m n n-is was c.deref.result.now c.in_ok-set.set.items _ c.deref.ensures.value (c.in_ok-set.ensures.found t) c.in_ok-append.ensures.items (configured c.read_line_files.new.config) reads) (c.read_line_files.ensures.found t)

pub returns-clause-fault : goal.returns-clause-fault
returns-clause-fault g c t =
    let m : Map = (g.T.Tree.story c.args.tree.now).now.holds in
    let n : Map = (g.T.Tree.story c.read_conf.new.tree).now.holds in
    let n-is : n ≡ m = ap (λ (s : Story). s.now.holds) (c.in_ok-set.ensures.same t) in
    let was : Config = configured c.args.config.now in
    IfErr-weaker c.read_line_files.result _ _ (λ e why. elim why [
      | inl machine ↦ inl machine
      | inr miss ↦ inr (user_misses m n n-is was c.deref.result.now c.in_ok-set.set.items _ c.deref.ensures.value (c.in_ok-set.ensures.found t) c.in_ok-append.ensures.items e miss)
    ]) (c.read_line_files.ensures.fault t)
