use Rattle.std.proofs.Common.{◌≡◌, ◌∙◌, ap, arith, get_or, length, map, sym}
use Rattle.choice_law.specs.Tree.{decided}
use Rattle.choice_law.specs.Universe.{no_offer, offer_at}
use Rattle.choice_tree.specs.Views.{offer_of, universe_of, value_of}
use Rattle.std.specs.Option.{option_map}
use Rattle.std.proofs.lemmas.List.{length-map}
use Rattle.choice_tree.proofs.Numbers.{get_mapped}
use Rattle.choice_tree.proofs.Placed.{placed_more, same_place}
use Rattle.merge_edges.proofs.places.all_places.Goals as goal

pub loop-line-preserved : goal.loop-line-preserved
loop-line-preserved c =
    let u = c.args.universe.now in
    let l = c.loop-line.line in
    let s = c.in_ok-place.place in
    let offers = u.offers.items in
    let same = c.deref-offer-items.ensures.value in
    let long : length (map offer_of offers) ≡ length c.deref-offer-items.result.now = length-map offers offer_of ∙ ap length (sym same) in
    let test = c.loop-line-test.true in
    let offer : offer_of s.offer.now ≡ offer_at (universe_of u) l =
    ap offer_of (c.in_ok-place.ensures.offer ∙ c.offer-item.is)
    ∙ (ap (λ os. offer_of (get_or os l c.offer-item.result)) same
    ∙ sym (get_mapped offer_of offers l c.offer-item.result no_offer (let n = length-map offers offer_of in omega (arith, long, n, test)))) in
    let at_line : option_map value_of s.decided ≡ decided c.args.choice.now l =
    ap (option_map value_of) c.in_ok-place.ensures.decided ∙ c.decided.ensures in
    placed_more u c.args.choice.now c.loop-line.places.items c.push.new.self.items s l (omega (arith, long, test)) (same_place at_line offer) c.in_ok-push.ensures.items c.loop-line.invariant
