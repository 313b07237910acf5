use Rattle.std.proofs.Common.{refl}
use Rattle.std.specs.Prelude.{slice_index_or}
use Rattle.merge_site.proofs.Ready.{at_place, not_ready, ready_if}
use Rattle.merge_site.proofs.waiting.is_ready.Goals as goal

pub returns-then-rests-clause-ready : goal.returns-then-rests-clause-ready
returns-then-rests-clause-ready c =
    let xs = c.args.groups.now in
    let y = slice_index_or xs c.args.group c.index-groups-group.result in
    ready_if c.args.core.now xs c.args.group y c.deref.result.now c.are_told.result (at_place xs c.args.group c.index-groups-group.result c.requires.there) (c.if-rests.ensures.rests refl) c.deref.ensures.value c.are_told.ensures

pub returns-then-rests-clause-not : goal.returns-then-rests-clause-not
returns-then-rests-clause-not c =
    let xs = c.args.groups.now in
    let y = slice_index_or xs c.args.group c.index-groups-group.result in
    not_ready c.args.core.now xs c.args.group y c.deref.result.now c.are_told.result (at_place xs c.args.group c.index-groups-group.result c.requires.there) c.deref.ensures.value c.are_told.ensures
