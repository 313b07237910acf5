use Rattle.std.proofs.Common.{◌≡◌, ◌∙◌, ◌++◌, ℕ, List, ap, length, true, false, subst, sym, take}
use Rattle.std.proofs.Math.Seq.{take-length}
use Rattle.std.proofs.lemmas.Iterator.Adapters.{YieldsList-from_vec}
use Rattle.std.proofs.lemmas.Iterator.Consumers.{YieldsList-end, YieldsList-turn}
use Rattle.file_tree.specs.PathSets.{HasSame, is_in}
use Rattle.merge_group.proofs.Caused.{front_push}
use Rattle.run_files.specs.Removing.{AddsFree}
use Rattle.run_files.proofs.Taking.{append_more, free_added, free_from_not, still_taken, taken_from_not, taken_more, taken_passed}
use Rattle.run_files.proofs.removing.add_free.Goals as goal

pub loop-path-preserved-in-Continue-branch-2 : goal.loop-path-preserved-in-Continue-branch-2
loop-path-preserved-in-Continue-branch-2 c =
    let all = c.args.paths.items in
    let inv = c.loop-path.invariant in
    let long : c.into_iter-path-iterator.result.rest.len ≡ length all = cc in
    let known = YieldsList-from_vec all c.into_iter-path-iterator.ensures.into_iter_gives.0 long in
    let y = YieldsList-turn known c.loop-path.yielded _ c.loop-path.yielded_by c.next.result c.next.new.self c.in-Some.path c.in-Some.is c.next.ensures.steps in
    let free : is_in c.loop-path.taken c.in-Some.path ≡ false = free_from_not (is_in c.loop-path.taken c.in-Some.path) (sym c.in_ok-take.ensures.free ∙ c.if-branch.true) in (
      λ placed are.
          let now = inv.0 placed are in (
            subst (λ (l : List (List ℕ)). HasSame c.take.new.self l) (sym (append_more placed c.loop-path.removals.items c.push.new.self.items c.in-Some.path c.in_ok-push.ensures.items))
                (taken_more c.in-Some.path (placed ++ c.loop-path.removals.items) c.loop-path.taken c.take.new.self now.0 c.in_ok-take.ensures.taken),
            free_added placed c.loop-path.yielded c.loop-path.removals.items c.push.new.self.items c.loop-path.taken c.args.removals.now.items c.in-Some.path now.0 free c.in_ok-push.ensures.items now.1,
          ),
      front_push all c.loop-path.yielded c.in-Some.path inv.1 y.0 y.1,
    )

pub loop-path-preserved : goal.loop-path-preserved
loop-path-preserved c =
    let all = c.args.paths.items in
    let inv = c.loop-path.invariant in
    let long : c.into_iter-path-iterator.result.rest.len ≡ length all = cc in
    let known = YieldsList-from_vec all c.into_iter-path-iterator.ensures.into_iter_gives.0 long in
    let y = YieldsList-turn known c.loop-path.yielded _ c.loop-path.yielded_by c.next.result c.next.new.self c.in-Some.path c.in-Some.is c.next.ensures.steps in
    let there : is_in c.loop-path.taken c.in-Some.path ≡ true = taken_from_not (is_in c.loop-path.taken c.in-Some.path) (sym c.in_ok-take.ensures.free ∙ c.if-branch.false) in (
      λ placed are.
          let now = inv.0 placed are in (
            still_taken (placed ++ c.loop-path.removals.items) c.loop-path.taken c.take.new.self c.in-Some.path now.0 there c.in_ok-take.ensures.taken,
            taken_passed placed c.loop-path.yielded c.loop-path.removals.items c.loop-path.taken c.args.removals.now.items c.in-Some.path now.0 there now.1,
          ),
      front_push all c.loop-path.yielded c.in-Some.path inv.1 y.0 y.1,
    )

pub returns-clause-taken : goal.returns-clause-taken
returns-clause-taken c placed are = (c.loop-path.invariant.0 placed are).0

pub returns-clause-added : goal.returns-clause-added
returns-clause-added c placed are =
    let all = c.args.paths.items in
    let inv = c.loop-path.invariant in
    let long : c.into_iter-path-iterator.result.rest.len ≡ length all = cc in
    let known = YieldsList-from_vec all c.into_iter-path-iterator.ensures.into_iter_gives.0 long in
    let y = YieldsList-end known c.loop-path.yielded _ c.loop-path.yielded_by c.next.result c.next.new.self c.in-None.is c.next.ensures.steps in
    let whole : c.loop-path.yielded ≡ all = inv.1 ∙ (ap (λ (n : ℕ). take n all) y.1 ∙ take-length all) in
    subst (λ (l : List (List ℕ)). AddsFree placed l c.args.removals.now.items c.loop-path.removals.items) whole (inv.0 placed are).1
