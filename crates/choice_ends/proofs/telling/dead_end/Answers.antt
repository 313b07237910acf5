use denote.Ref.{Bor}
use Rattle.std.proofs.Common.{◌≡◌, ◌∙◌, Some, ap, subst, sym}
use Rattle.std.specs.Option.{option_map}
use Rattle.choice_law.specs.Tree.{Choice}
use Rattle.choice_tree.specs.Open.{first_open, obligation_of}
use Rattle.choice_tree.specs.Views.{universe_of}
use Rattle.choice_tree.specs.declared.universe.Universe.{Universe}
use Rattle.choice_walk.specs.Way.{here}
use Rattle.choice_ends.specs.Ends.{IsLack, picks_of}
use Rattle.choice_ends.proofs.telling.dead_end.Goals as goal

pub lack_of-requires : goal.lack_of-requires
lack_of-requires c =
    let walk = c.in_ok-walk.walk in
    let later = c.first_open.new.self in
    let o = obligation_of c.in-Some.obligation in
    let first : first_open (universe_of walk.universe.now) (here walk.trail.items) ≡ Some o = sym c.in_ok-obligation.ensures.found ∙ ap (option_map obligation_of) c.in-Some.is in
    let over : first_open (universe_of later.universe.now) (here later.trail.items) ≡ first_open (universe_of walk.universe.now) (here later.trail.items) = ap (λ (v : Bor Universe). first_open (universe_of v.now) (here later.trail.items)) c.first_open.ensures.same in
    let way : here later.trail.items ≡ here walk.trail.items = ap (λ v. here v.items) c.first_open.ensures.stays in
    (c.first_open_is_a_pick.ensures (universe_of later.universe.now)).some (here later.trail.items) o
    (over ∙ ap (first_open (universe_of walk.universe.now)) way ∙ first)

pub returns : goal.returns
returns c =
    let u = c.args.universe.now in
    let walk = c.in_ok-walk.walk in
    let later = c.first_open.new.self in
    let o = obligation_of c.in-Some.obligation in
    let lacks = c.in_ok-lacks-in-Some.lacks in
    let first : first_open (universe_of walk.universe.now) (here walk.trail.items) ≡ Some o = sym c.in_ok-obligation.ensures.found ∙ ap (option_map obligation_of) c.in-Some.is in
    let over : later.universe.now ≡ u = ap (λ (v : Bor Universe). v.now) c.first_open.ensures.same ∙ c.in_ok-walk.ensures.over in
    let way : here later.trail.items ≡ c.args.choice.now = ap (λ v. here v.items) c.first_open.ensures.stays ∙ c.in_ok-walk.ensures.there in
    record {
      chosen = c.in_ok-chosen.ensures ∙ ap (picks_of (universe_of u)) c.decisions.ensures;
      obligation = o;
      first =
          ap (first_open (universe_of u)) (sym c.in_ok-walk.ensures.there)
          ∙ ap (λ (v : Universe). first_open (universe_of v) (here walk.trail.items)) (sym c.in_ok-walk.ensures.over)
          ∙ first;
      lacks =
          subst (λ (d : Choice). IsLack (universe_of u) d o lacks) way
          (subst (λ (v : Universe). IsLack (universe_of v) (here later.trail.items) o lacks) over c.in_ok-lacks-in-Some.ensures);
    }
