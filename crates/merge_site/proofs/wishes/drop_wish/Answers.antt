use Rattle.std.proofs.Common.{◌≡◌, length}
use Rattle.std.specs.Prelude.{vec_len}
use Rattle.merge_site.proofs.Judged.{wish_popped}
use Rattle.merge_site.proofs.wishes.drop_wish.Goals as goal

pub returns : goal.returns
returns c ls w lt was =
    let size : vec_len c.index_mut-list.result.now ≡ length c.index_mut-list.result.now.items = cc in
    wish_popped c.args.wishes.now.items c.args.group c.index_mut-list.result.now c.pop.new.self ls w c.pop.result (vec_len c.index_mut-list.result.now) (vec_len c.pop.new.self) size c.requires lt c.index_mut-list.ensures.value was c.pop.ensures.items c.pop.ensures.cases
