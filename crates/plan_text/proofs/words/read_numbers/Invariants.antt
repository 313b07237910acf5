use Rattle.std.proofs.Common.{◌≡◌, ◌++◌, ℕ, List, Bor, map, drop}
use Rattle.std.specs.List.{AllByRecursion}
use Rattle.std.specs.Fmt.{decimal}
use Rattle.plan_text.specs.Numbers.{IsNumber}
use Rattle.plan_text.proofs.words.read_numbers.Given as goal

abbrev pub invariant-loop-word : goal.invariant-loop-word
invariant-loop-word l =
    AllByRecursion IsNumber l.numbers.items
    × (map decimal l.numbers.items ++ map {A = Bor (List ℕ)} {B = List ℕ} (λ w. w.now) (drop l.word-index l.words) ≡ map {A = Bor (List ℕ)} {B = List ℕ} (λ w. w.now) l.words)
