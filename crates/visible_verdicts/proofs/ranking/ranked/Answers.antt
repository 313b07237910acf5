use Rattle.std.proofs.Common.{◌≡◌, ap, rules, is_lt}
use Rattle.std.proofs.lemmas.List.Sorted.{answers_always, ranks_by}
use Rattle.visible_verdicts.specs.Places.{place_cmp}
use Rattle.visible_verdicts.specs.declared.place.Place.{Place}
use Rattle.visible_verdicts.proofs.Ranked.{place_total}
use Rattle.visible_verdicts.proofs.ranking.ranked.Goals as goal

pub returns-clause-sorted : goal.returns-clause-sorted
returns-clause-sorted c = c.in_ok-sort_by.ensures.sorted (λ f g. is_lt (place_cmp f g)) (ranks_by (place_total c.order_is_that_of_keys.ensures.total) (λ (p : Place). p)) (answers_always _ (λ a r. is_lt r ≡ is_lt (place_cmp a.0.now a.1.0.now)) _ (λ f a r q k. let is : r ≡ place_cmp a.0.now a.1.0.now = search rules in ap is_lt is))
