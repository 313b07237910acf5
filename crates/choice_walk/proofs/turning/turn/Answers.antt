use Rattle.std.proofs.Common.{◌≡◌, ◌∙◌, ◌<◌, ap, arith, length, set}
use Rattle.std.specs.Option.{option_map}
use Rattle.choice_tree.specs.Keys.{offers_in}
use Rattle.choice_tree.specs.Places.{with_decided}
use Rattle.choice_tree.specs.Seen.{places_of}
use Rattle.choice_tree.specs.Views.{value_of}
use Rattle.choice_tree.proofs.Turned.{placed_line, same_offers}
use Rattle.choice_walk.proofs.Unsettled.{still_settled}
use Rattle.choice_walk.proofs.turning.turn.Goals as goal

pub returns-clause-done : goal.returns-clause-done
returns-clause-done c =
    let ps = c.args.places.now.items in
    let less : c.args.line < length ps = let test = c.if-line-len.false in let n = c.len.ensures in omega (arith, test, n) in
    placed_line ps c.args.line c.index-2.result.now c.in_ok-place.place _ less c.index-2.ensures c.in_ok-place.ensures.offer (ap (option_map value_of) c.in_ok-place.ensures.decided)

pub returns-clause-offers : goal.returns-clause-offers
returns-clause-offers c =
    let ps = c.args.places.now.items in
    let less : c.args.line < length ps = let test = c.if-line-len.false in let n = c.len.ensures in omega (arith, test, n) in
    let done : places_of (set ps c.args.line c.in_ok-place.place) ≡ with_decided (places_of ps) c.args.line (option_map value_of c.args.decided) =
    placed_line ps c.args.line c.index-2.result.now c.in_ok-place.place _ less c.index-2.ensures c.in_ok-place.ensures.offer (ap (option_map value_of) c.in_ok-place.ensures.decided) in
    ap offers_in done ∙ same_offers (places_of ps) c.args.line (option_map value_of c.args.decided)

pub returns-clause-settled : goal.returns-clause-settled
returns-clause-settled c =
    let ps = c.args.places.now.items in
    let line = c.args.line in
    let less : line < length ps = let test = c.if-line-len.false in let n = c.len.ensures in omega (arith, test, n) in
    let done : places_of (set ps line c.in_ok-place.place) ≡ with_decided (places_of ps) line (option_map value_of c.args.decided) =
    placed_line ps line c.index-2.result.now c.in_ok-place.place _ less c.index-2.ensures c.in_ok-place.ensures.offer (ap (option_map value_of) c.in_ok-place.ensures.decided) in
    still_settled ps line c.index-3.result.now c.in_ok-place.place (option_map value_of c.args.decided) c.args.leaves.now.lists c.args.texts.now.lists c.args.unsettled.now c.unsettle.new.lines less c.index-3.ensures done c.requires.leaves c.requires.texts c.requires.settled c.unsettle.ensures.kept c.in_ok-unsettle.ensures.come
