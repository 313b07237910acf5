-- The asks that are taken, one behind another.
use Rattle.std.proofs.Common.{◌≡◌, ◌∙◌, ◌<◌, ◌≤◌, ◌+◌, ℕ, zero, suc, List, [], ◌∷◌, add-one, ap, arith, drop, get_or, length, refl}
use Rattle.basics.proofs.Lists.{at_drop}
use Rattle.plan_law.specs.Lives.{commit}
use Rattle.plan_lives.proofs.Steps.{drop_end}
use Rattle.plan_check.specs.Asks.{all_asked, asked_value, asks_behind, next_asked, nothing_asked}
use Rattle.plan_check.specs.declared.asked.Asked.{Asked}

pub asked_here : (asks : List Asked) (i : ℕ) (x : Asked) → i < length asks → x ≡ get_or asks i x → asked_value x ≡ next_asked (commit 0) (all_asked (drop i asks))
asked_here asks i x lt is = rw (at_drop asks i x lt is) refl

pub none_asked : (asks : List Asked) (i : ℕ) → length asks ≤ i → nothing_asked ≡ next_asked (commit 0) (all_asked (drop i asks))
none_asked asks i le = rw (drop_end asks i le) refl

by_one : (asks : List Asked) (i : ℕ) → i < length asks → all_asked (drop (suc i) asks) ≡ asks_behind (commit 0) (all_asked (drop i asks))
by_one [] i lt = absurd (omega (arith, lt))
by_one (x ∷ xs) zero lt = refl
by_one (x ∷ xs) (suc i) lt = by_one xs i (omega (arith, lt))

pub behind_here : (asks : List Asked) (i : ℕ) → i < length asks → all_asked (drop (i + 1) asks) ≡ asks_behind (commit 0) (all_asked (drop i asks))
behind_here asks i lt = ap (λ (n : ℕ). all_asked (drop n asks)) (add-one i) ∙ by_one asks i lt

pub behind_none : (asks : List Asked) (i : ℕ) → length asks ≤ i → all_asked (drop i asks) ≡ asks_behind (commit 0) (all_asked (drop i asks))
behind_none asks i le = rw (drop_end asks i le) refl
