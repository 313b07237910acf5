use Rattle.std.proofs.Common.{true, ◌∙◌}
use Rattle.std.specs.Prelude.{is_ok}
use Rattle.merge_core.specs.Event.{SyncClosed, SyncGate, SyncPlaced, SyncSealed}
use Rattle.merge_site.proofs.Device.{performed, synced, unsynced}
use Rattle.merge_site.proofs.calls.sync_group.Goals as goal

pub returns-then-needs-clause-sealed : goal.returns-then-needs-clause-sealed
returns-then-needs-clause-sealed g c t m needs =
    let old = g.T.Tree.story c.args.tree.now in
    let new = g.T.Tree.story c.sync.new.self in
    performed m (SyncSealed c.args.group) (is_ok c.sync.result) old new (synced c.sync.result m c.args.group old new (needs ∙ c.if-needs.true) (c.sync.ensures.ok t) (c.sync.ensures.moved t))

pub returns-clause-sealed : goal.returns-clause-sealed
returns-clause-sealed g c t m needs =
    let old = g.T.Tree.story c.args.tree.now in
    performed m (SyncSealed c.args.group) true old old (unsynced m c.args.group old (needs ∙ c.if-needs.false))

pub returns-then-needs-clause-gate : goal.returns-then-needs-clause-gate
returns-then-needs-clause-gate g c t m needs =
    let old = g.T.Tree.story c.args.tree.now in
    let new = g.T.Tree.story c.sync.new.self in
    performed m (SyncGate c.args.group) (is_ok c.sync.result) old new (synced c.sync.result m c.args.group old new (needs ∙ c.if-needs.true) (c.sync.ensures.ok t) (c.sync.ensures.moved t))

pub returns-clause-gate : goal.returns-clause-gate
returns-clause-gate g c t m needs =
    let old = g.T.Tree.story c.args.tree.now in
    performed m (SyncGate c.args.group) true old old (unsynced m c.args.group old (needs ∙ c.if-needs.false))

pub returns-then-needs-clause-placed : goal.returns-then-needs-clause-placed
returns-then-needs-clause-placed g c t m needs =
    let old = g.T.Tree.story c.args.tree.now in
    let new = g.T.Tree.story c.sync.new.self in
    performed m (SyncPlaced c.args.group) (is_ok c.sync.result) old new (synced c.sync.result m c.args.group old new (needs ∙ c.if-needs.true) (c.sync.ensures.ok t) (c.sync.ensures.moved t))

pub returns-clause-placed : goal.returns-clause-placed
returns-clause-placed g c t m needs =
    let old = g.T.Tree.story c.args.tree.now in
    performed m (SyncPlaced c.args.group) true old old (unsynced m c.args.group old (needs ∙ c.if-needs.false))

pub returns-then-needs-clause-closed : goal.returns-then-needs-clause-closed
returns-then-needs-clause-closed g c t m needs =
    let old = g.T.Tree.story c.args.tree.now in
    let new = g.T.Tree.story c.sync.new.self in
    performed m (SyncClosed c.args.group) (is_ok c.sync.result) old new (synced c.sync.result m c.args.group old new (needs ∙ c.if-needs.true) (c.sync.ensures.ok t) (c.sync.ensures.moved t))

pub returns-clause-closed : goal.returns-clause-closed
returns-clause-closed g c t m needs =
    let old = g.T.Tree.story c.args.tree.now in
    performed m (SyncClosed c.args.group) true old old (unsynced m c.args.group old (needs ∙ c.if-needs.false))
