use Rattle.std.proofs.Common.{◌≡◌, ◌∙◌, ◌++◌, ap, arith, get_or, length, map, sym}
use Rattle.std.specs.Option.{option_map}
use Rattle.std.proofs.lemmas.List.{length-map}
use Rattle.choice_law.specs.Tree.{decided}
use Rattle.choice_law.specs.Universe.{Value, as_list, no_offer, offer_at}
use Rattle.choice_tree.specs.Lines.{line_place}
use Rattle.choice_tree.specs.Places.{place_at}
use Rattle.choice_tree.specs.Views.{offer_of, universe_of, value_of}
use Rattle.choice_tree.proofs.Numbers.{get_mapped}
use Rattle.choice_tree.proofs.Placed.{same_place}
use Rattle.merge_groups.specs.Changes.{part_in, part_of}
use Rattle.merge_groups.proofs.Gathered.{gathered_more}
use Rattle.merge_groups.proofs.lines.those.Goals as goal

pub loop-line-preserved : goal.loop-line-preserved
loop-line-preserved c =
    let u = c.args.universe.now in
    let l = c.loop-line.line in
    let offers = u.offers.items in
    let same = c.deref-offer-items.ensures.value in
    let long : length (map offer_of offers) ≡ length c.deref-offer-items.result.now = length-map offers offer_of ∙ ap length (sym same) in
    let test = c.loop-line-test.true in
    let offer : offer_of c.offer-item.result ≡ offer_at (universe_of u) l =
    ap offer_of c.offer-item.is
    ∙ (ap (λ os. offer_of (get_or os l c.offer-item.result)) same
    ∙ sym (get_mapped offer_of offers l c.offer-item.result no_offer (let n = length-map offers offer_of in omega (arith, long, n, test)))) in
    let at_line : option_map value_of c.decided.result ≡ decided c.args.choice.now l = c.decided.ensures in
    let place : line_place c.offer-item.result c.decided.result ≡ place_at (universe_of u) c.args.choice.now l = same_place at_line offer in
    let part = c.args.part in
    gathered_more part (universe_of u) c.args.choice.now _ _ l (omega (arith, long, test))
    (c.in_ok-push_part.ensures ∙ ap (λ os. map (λ p. p.now) c.loop-line.out.items ++ as_list os)
    (ap (λ (v : Value). part_of part (offer_of c.offer-item.result) v) c.value-value.ensures ∙ ap (part_in part) place))
    c.loop-line.invariant
