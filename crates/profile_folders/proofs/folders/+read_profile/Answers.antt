use Rattle.std.proofs.Common.{◌≡◌, ◌∙◌, ◌++◌, ◌∷◌, [], List, None, Some, ap, arith, inl, inr, subst, sym, ℕ}
use Rattle.std.proofs.lemmas.Result.{err_from_is_err_and}
use Rattle.file_tree.specs.Disk.{Map, Story}
use Rattle.file_tree.specs.declared.fault.TreeFault.TheVariants as trees
use Rattle.profile_folders.specs.Parents.{AreParents}
use Rattle.profile_folders.proofs.Steps.{closed, misnamed, step, step_at, step_in, step_last}
use Rattle.profile_folders.proofs.folders.+read_profile.Goals as goal

pub returns-in_err-parents-clause-fault : goal.returns-in_err-parents-clause-fault
returns-in_err-parents-clause-fault g k c t =
    let q = err_from_is_err_and c.from_residual.result c.from_residual.ensures.1 in
    rw (q.1, q.2) (elim (c.in_err-parents.ensures.fault t) [
      | inl machine ↦ inl machine
      | inr bad ↦ inr (misnamed (g.T.Tree.story c.args.tree.now).now.holds c.args.course.now.above.items c.args.folder.now c.args.course.now.folders.items c.requires.room _ bad)
    ])

pub returns-in_err-check_parent-clause-fault : goal.returns-in_err-check_parent-clause-fault
returns-in_err-check_parent-clause-fault g k c t =
    let q = err_from_is_err_and c.from_residual-in_err-check_parent.result c.from_residual-in_err-check_parent.ensures.1 in
    let m : Map = (g.T.Tree.story c.args.tree.now).now.holds in
    let n : Map = (g.T.Tree.story c.loop-parent.tree).now.holds in
    let inv = c.loop-parent.invariant in
    let n-is : n ≡ m = ap (λ (s : Story). s.now.holds) (inv.2 t) in
    let parents = c.deref-parent-items.result.now in
    let are : AreParents m c.args.folder.now parents = subst (AreParents m c.args.folder.now) (sym c.deref-parent-items.ensures.value) (c.in_ok-parents.ensures.found t) in
    let inner : c.push.new.self.items ≡ c.args.course.now.above.items ++ c.args.folder.now ∷ [] = c.in_ok-push.ensures.items ∙ ap (λ (f : List ℕ). c.args.course.now.above.items ++ f ∷ []) c.in_ok-try_clone.ensures in
    rw (q.1, q.2) (elim (c.in_err-check_parent.ensures.fault t) [
      | inl machine ↦ inl machine
      | inr why ↦ inr (closed m c.args.course.now.above.items c.args.folder.now c.args.course.now.folders.items c.requires.room parents are c.push.new.self.items inner c.loop-parent.course.folders.items (Some c.in_err-check_parent.field-0.0)
          (step_at m c.push.new.self.items c.args.course.now.folders.items parents c.loop-parent.parent-index c.parent-item.result c.loop-parent-test.true c.parent-item.is c.loop-parent.course.folders.items (inv.0 t) n n-is c.loop-parent.course.above.items inv.1 c.in_err-check_parent.field-0.0 why))
    ])

pub returns-in_err-read_profile-clause-fault : goal.returns-in_err-read_profile-clause-fault
returns-in_err-read_profile-clause-fault g k c t =
    let q = err_from_is_err_and c.from_residual-in_err-read_profile.result c.from_residual-in_err-read_profile.ensures.1 in
    let m : Map = (g.T.Tree.story c.args.tree.now).now.holds in
    let n : Map = (g.T.Tree.story c.loop-parent.tree).now.holds in
    let n' : Map = (g.T.Tree.story c.check_parent.new.tree).now.holds in
    let inv = c.loop-parent.invariant in
    let n-is : n ≡ m = ap (λ (s : Story). s.now.holds) (inv.2 t) in
    let n'-is : n' ≡ m = ap (λ (s : Story). s.now.holds) (c.in_ok-check_parent.ensures.same t) ∙ n-is in
    let parents = c.deref-parent-items.result.now in
    let are : AreParents m c.args.folder.now parents = subst (AreParents m c.args.folder.now) (sym c.deref-parent-items.ensures.value) (c.in_ok-parents.ensures.found t) in
    let inner : c.push.new.self.items ≡ c.args.course.now.above.items ++ c.args.folder.now ∷ [] = c.in_ok-push.ensures.items ∙ ap (λ (f : List ℕ). c.args.course.now.above.items ++ f ∷ []) c.in_ok-try_clone.ensures in
    rw (q.1, q.2) (elim (c.in_err-read_profile.ensures.fault t) [
      | inl machine ↦ inl machine
      | inr read ↦ inr (closed m c.args.course.now.above.items c.args.folder.now c.args.course.now.folders.items c.requires.room parents are c.push.new.self.items inner c.read_profile.new.course.folders.items (Some c.in_err-read_profile.field-0.0)
          (step_in m c.push.new.self.items c.args.course.now.folders.items parents c.loop-parent.parent-index c.parent-item.result c.loop-parent-test.true c.parent-item.is c.loop-parent.course.folders.items (inv.0 t) n n-is c.loop-parent.course.above.items inv.1 (c.in_ok-check_parent.ensures.may t) n' n'-is c.read_profile.new.course.folders.items c.in_err-read_profile.field-0.0 read))
    ])

pub loop-parent-preserved : goal.loop-parent-preserved
loop-parent-preserved g k c =
    let m : Map = (g.T.Tree.story c.args.tree.now).now.holds in
    let n : Map = (g.T.Tree.story c.loop-parent.tree).now.holds in
    let n' : Map = (g.T.Tree.story c.check_parent.new.tree).now.holds in
    let inv = c.loop-parent.invariant in
    let parents = c.deref-parent-items.result.now in (
      λ t.
          let n-is : n ≡ m = ap (λ (s : Story). s.now.holds) (inv.2 t) in
          let n'-is : n' ≡ m = ap (λ (s : Story). s.now.holds) (c.in_ok-check_parent.ensures.same t) ∙ n-is in
          step m c.push.new.self.items c.args.course.now.folders.items parents c.loop-parent.parent-index c.parent-item.result c.loop-parent-test.true c.parent-item.is c.loop-parent.course.folders.items (inv.0 t) n n-is c.loop-parent.course.above.items inv.1 (c.in_ok-check_parent.ensures.may t) n' n'-is c.read_profile.new.course.folders.items (c.in_ok-read_profile.ensures.found t),
      c.in_ok-read_profile.ensures.above ∙ inv.1,
      λ t. c.in_ok-read_profile.ensures.same t ∙ c.in_ok-check_parent.ensures.same t ∙ inv.2 t,
      omega (arith, c.in_ok-read_profile.ensures.faults.later, c.in_ok-check_parent.ensures.faults.later, inv.3),
    )

pub returns-clause-found : goal.returns-clause-found
returns-clause-found g k c t =
    let m : Map = (g.T.Tree.story c.args.tree.now).now.holds in
    let inv = c.loop-parent.invariant in
    let parents = c.deref-parent-items.result.now in
    let above = c.args.course.now.above.items in
    let before = c.args.course.now.folders.items in
    let now = c.loop-parent.course.folders.items in
    let are : AreParents m c.args.folder.now parents = subst (AreParents m c.args.folder.now) (sym c.deref-parent-items.ensures.value) (c.in_ok-parents.ensures.found t) in
    let inner : c.push.new.self.items ≡ above ++ c.args.folder.now ∷ [] = c.in_ok-push.ensures.items ∙ ap (λ (f : List ℕ). above ++ f ∷ []) c.in_ok-try_clone.ensures in
    let end : c.push-2.new.self.items ≡ now ++ c.args.folder.now ∷ [] = c.in_ok-push-2.ensures.items ∙ ap (λ (f : List ℕ). now ++ f ∷ []) c.in_ok-try_clone-2.ensures in
    rw end (closed m above c.args.folder.now before c.requires.room parents are c.push.new.self.items inner now None (step_last m c.push.new.self.items before parents c.loop-parent.parent-index now c.loop-parent-test.false (inv.0 t)))

pub returns-in_err-try_clone-2-clause-fault : goal.returns-in_err-try_clone-2-clause-fault
returns-in_err-try_clone-2-clause-fault g k c t =
    let q = err_from_is_err_and c.from_residual-in_err-try_clone-2.result c.from_residual-in_err-try_clone-2.ensures.1 in
    rw q.1 (inl (trees.Memory, q.2))

pub returns-in_err-push-2-clause-fault : goal.returns-in_err-push-2-clause-fault
returns-in_err-push-2-clause-fault g k c t =
    let q = err_from_is_err_and c.from_residual-in_err-push-2.result c.from_residual-in_err-push-2.ensures.1 in
    rw q.1 (inl (trees.Memory, q.2))
