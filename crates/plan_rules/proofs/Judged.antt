-- Loops over lives that try a rule.
use Rattle.std.proofs.Common.{◌≡◌, ◌<◌, ◌≤◌, ◌∙◌, ℕ, List, Option, None, ap, arith, drop, get_or, length, sym}
use Rattle.std.proofs.lemmas.List.{get_or-map, length-map}
use Rattle.plan_law.specs.Lives as law
use Rattle.plan_lives.specs.Lives.{life_of, lives_of}
use Rattle.plan_lives.specs.declared.life.Life.{Life}
use Rattle.plan_rules.specs.Places.{IsAt}
use Rattle.plan_rules.specs.Verdicts.{each}
use Rattle.plan_lives.proofs.Steps.{drop_end}

-- what stands at a place of the code's list stands there as a life
pub at_item : (items : List Life) (i : ℕ) (x : Life) → i < length items → x ≡ get_or items i x → IsAt (lives_of items) i (life_of x)
at_item items i x lt is = record {
  within = omega (arith, lt, length-map items life_of);
  is = ap life_of is ∙ sym (get_or-map life_of items i x (life_of x) lt);
}

-- a loop over lives has come to its end
pub at_end : {E : Type 0} (items : List Life) (i : ℕ) (J : law.Life → Option E → Type 0) → length items ≤ i → each (lives_of (drop i items)) J None
at_end items i J le = rw (drop_end items i le) tt
