use Rattle.std.proofs.Common.{◌<◌, ◌∙◌, ℕ, List, ap, length, map, subst, sym}
use Rattle.std.specs.Prelude.{IsSome}
use Rattle.basics.specs.Members.{Has}
use Rattle.file_tree.specs.Disk.{Disk}
use Rattle.merge_record.specs.RecordValue.{RecordValue}
use Rattle.merge_journal.specs.Judging.{footprint, path_of}
use Rattle.merge_journal.specs.Names.{stage_path}
use Rattle.merge_record.specs.declared.record.Placement.{Placement}
use Rattle.merge_core.specs.Recovery.{Asked}
use Rattle.recovery.proofs.Asked.{asked_both, asked_stays}
use Rattle.recovery.proofs.Stages.{removed_stays}
use Rattle.recovery.proofs.Places.{placement_outside, removal_outside}
use Rattle.recovery.proofs.redoing.apply.Goals as goal

pub returns-in_err-paths-clause-asked : goal.returns-in_err-paths-clause-asked
returns-in_err-paths-clause-asked g c t = asked_stays (footprint c.args.content.now) (g.T.Tree.story c.args.tree.now)

pub returns-in_err-remove_all-clause-asked : goal.returns-in_err-remove_all-clause-asked
returns-in_err-remove_all-clause-asked g c t =
    let removals = c.deref.ensures.value ∙ ap (λ (x : RecordValue). x.removals) c.content.view_is in
    let s = g.T.Tree.story c.args.tree.now in
    let s1 = g.T.Tree.story c.remove_all.new.tree in
    asked_both c.args.content.now.removals (map path_of c.args.content.now.placements) s s1 s1 (subst (λ (l : List (List ℕ)). Asked l s s1) removals (c.remove_all.ensures.asked t)) (asked_stays (map path_of c.args.content.now.placements) s1)

pub place_all-requires-clause-apart : goal.place_all-requires-clause-apart
place_all-requires-clause-apart g c p has =
    let placements = c.deref-2.ensures.value ∙ ap (λ (x : RecordValue). x.placements) c.content.view_is in
    placement_outside c.args.content.now p c.requires.free (subst (λ (l : List Placement). Has l p) placements has)

pub place_all-requires-clause-there : goal.place_all-requires-clause-there
place_all-requires-clause-there g c t i lt =
    let removals = c.deref.ensures.value ∙ ap (λ (x : RecordValue). x.removals) c.content.view_is in
    let placements = c.deref-2.ensures.value ∙ ap (λ (x : RecordValue). x.placements) c.content.view_is in
    let within = subst (λ (ps : List Placement). i < length ps) placements lt in
    let named = c.in_ok-paths.ensures.group ∙ ap (λ (x : RecordValue). x.group) c.content.view_is in
    let there = subst (λ (n : ℕ). IsSome ((g.T.Tree.story c.args.tree.now).now.holds (stage_path n i))) (sym named) (c.requires.there t i within) in
    subst (λ (x : Disk). IsSome (x.holds (stage_path c.in_ok-paths.paths.group i))) (sym (c.in_ok-remove_all.ensures.ok t))
    (removed_stays c.deref.result.now (g.T.Tree.story c.args.tree.now).now c.in_ok-paths.paths.group i (λ q has. removal_outside c.args.content.now q c.requires.free (subst (λ (l : List (List ℕ)). Has l q) removals has)) there)

pub returns-in_err-place_all-clause-asked : goal.returns-in_err-place_all-clause-asked
returns-in_err-place_all-clause-asked g c t =
    let removals = c.deref.ensures.value ∙ ap (λ (x : RecordValue). x.removals) c.content.view_is in
    let placements = c.deref-2.ensures.value ∙ ap (λ (x : RecordValue). x.placements) c.content.view_is in
    let s = g.T.Tree.story c.args.tree.now in
    let s1 = g.T.Tree.story c.remove_all.new.tree in
    let s2 = g.T.Tree.story c.place_all.new.tree in
    asked_both c.args.content.now.removals (map path_of c.args.content.now.placements) s s1 s2 (subst (λ (l : List (List ℕ)). Asked l s s1) removals (c.remove_all.ensures.asked t))
    (subst (λ (l : List Placement). Asked (map path_of l) s1 s2) placements (c.place_all.ensures.asked t))

pub returns-clause-asked : goal.returns-clause-asked
returns-clause-asked g c t =
    let removals = c.deref.ensures.value ∙ ap (λ (x : RecordValue). x.removals) c.content.view_is in
    let placements = c.deref-2.ensures.value ∙ ap (λ (x : RecordValue). x.placements) c.content.view_is in
    let s = g.T.Tree.story c.args.tree.now in
    let s1 = g.T.Tree.story c.remove_all.new.tree in
    let s2 = g.T.Tree.story c.place_all.new.tree in
    asked_both c.args.content.now.removals (map path_of c.args.content.now.placements) s s1 s2 (subst (λ (l : List (List ℕ)). Asked l s s1) removals (c.remove_all.ensures.asked t))
    (subst (λ (l : List Placement). Asked (map path_of l) s1 s2) placements (c.place_all.ensures.asked t))
