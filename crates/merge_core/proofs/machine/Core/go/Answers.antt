use Rattle.std.proofs.Common.{◌≡◌, rules, sym, subst, ap, ◌∙◌}
use Rattle.std.proofs.lemmas.List.{get_or_default}
use Rattle.merge_core.specs.Core.{standing_in}
use Rattle.merge_core.specs.Roll.{resting}
use Rattle.merge_core.specs.Steps.{IsPhaseFor, moved, syncs_after}
use Rattle.merge_core.proofs.Room.{counted_after, room_for}
use Rattle.merge_core.proofs.machine.Core.go.Goals as goal

pub enter-requires : goal.enter-requires
enter-requires c =
    let phase : IsPhaseFor c.args.step (standing_in c.self.inside.standings.items c.args.group).phase = subst (λ k. IsPhaseFor c.args.step (standing_in k.standings c.args.group).phase) (sym c.self.view_is) c.requires.phase in
    record {
      room = λ enters. room_for c.self.inside.standings.items c.args.group _ _ c.args.step c.args.ok c.enters.result (search rules) phase c.self.invariant.order c.self.invariant.room c.enters.ensures enters;
    }

pub invariant_of-self : goal.invariant_of-self
invariant_of-self c =
    let phase : IsPhaseFor c.args.step (standing_in c.self.inside.standings.items c.args.group).phase = subst (λ k. IsPhaseFor c.args.step (standing_in k.standings c.args.group).phase) (sym c.self.view_is) c.requires.phase in
    counted_after c.self.inside.standings.items c.args.group _ _ c.self.inside.syncs _ _ _ _ c.args.step c.args.ok c.enters.result (search rules) phase c.self.invariant
    (c.go.ensures ∙ ap (moved c.args.step c.args.ok c.self.inside.syncs) (c.index_mut-standing.ensures.value ∙ get_or_default c.self.inside.standings.items c.args.group c.index_mut-standing.result.now resting (search rules)))
    (subst (λ k. c.next_syncs-next.result ≡ syncs_after k c.args.group c.args.step c.args.ok) (sym c.self.view_is) c.next_syncs-next.ensures)
    c.enter.ensures.len c.enters.ensures c.enter.ensures.capacity
