use Rattle.std.proofs.Common.{◌∙◌, ℕ, List, ap, subst}
use Rattle.file_tree.specs.Disk.{Story}
use Rattle.merge_core.specs.Recovery.{Asked, with_removed}
use Rattle.recovery.proofs.Stretches.{gates_begin, gates_go, gates_synced, shut_if_gone}
use Rattle.recovery.proofs.clearing.remove_gates.Goals as goal

pub returns-in_err-paths-clause-moments : goal.returns-in_err-paths-clause-moments
returns-in_err-paths-clause-moments g c t a k = (gates_begin a c.args.groups.now (g.T.Tree.story c.args.tree.now) k).0

pub returns-in_err-remove_all-clause-moments : goal.returns-in_err-remove_all-clause-moments
returns-in_err-remove_all-clause-moments g c t a k =
    let s = g.T.Tree.story c.args.tree.now in
    let s1 = g.T.Tree.story c.remove_all.new.tree in
    let asked = subst (λ (l : List (List ℕ)). Asked l s s1) (c.deref.ensures.value ∙ c.in_ok-paths.ensures) (c.remove_all.ensures.asked t) in
    (gates_go a c.args.groups.now s s1 k asked).0

pub returns-in_err-sync-clause-moments : goal.returns-in_err-sync-clause-moments
returns-in_err-sync-clause-moments g c t a k =
    let s = g.T.Tree.story c.args.tree.now in
    let s1 = g.T.Tree.story c.remove_all.new.tree in
    let s2 = g.T.Tree.story c.sync.new.self in
    let asked = subst (λ (l : List (List ℕ)). Asked l s s1) (c.deref.ensures.value ∙ c.in_ok-paths.ensures) (c.remove_all.ensures.asked t) in
    (gates_synced a c.args.groups.now s s1 s2 k (gates_go a c.args.groups.now s s1 k asked) (c.sync.ensures.moved t)).0

pub returns-clause-moments : goal.returns-clause-moments
returns-clause-moments g c t a k =
    let s = g.T.Tree.story c.args.tree.now in
    let s1 = g.T.Tree.story c.remove_all.new.tree in
    let s2 = g.T.Tree.story c.sync.new.self in
    let asked = subst (λ (l : List (List ℕ)). Asked l s s1) (c.deref.ensures.value ∙ c.in_ok-paths.ensures) (c.remove_all.ensures.asked t) in
    (gates_synced a c.args.groups.now s s1 s2 k (gates_go a c.args.groups.now s s1 k asked) (c.sync.ensures.moved t)).0

pub returns-clause-ok : goal.returns-clause-ok
returns-clause-ok g c t a k =
    let s = g.T.Tree.story c.args.tree.now in
    let s1 = g.T.Tree.story c.remove_all.new.tree in
    let s2 = g.T.Tree.story c.sync.new.self in
    let paths = c.deref.ensures.value ∙ c.in_ok-paths.ensures in
    let asked = subst (λ (l : List (List ℕ)). Asked l s s1) paths (c.remove_all.ensures.asked t) in
    shut_if_gone a c.args.groups.now s.now s1.now s2.now k (gates_go a c.args.groups.now s s1 k asked).1
    (c.in_ok-remove_all.ensures.ok t ∙ ap (λ (l : List (List ℕ)). with_removed l s.now) paths) (ap (λ (x : Story). x.now) (c.in_ok-sync.ensures.ok t))
