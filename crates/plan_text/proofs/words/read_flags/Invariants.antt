use Rattle.std.proofs.Common.{◌≡◌, ◌++◌, ℕ, List, Bor, map, drop}
use Rattle.std.specs.List.{AllByRecursion}
use Rattle.pms_names.specs.Names.{IsName}
use Rattle.pms_names.specs.declared.kind.Kind.TheVariants.{Flag}
use Rattle.plan_text.proofs.words.read_flags.Given as goal

abbrev pub invariant-loop-word : goal.invariant-loop-word
invariant-loop-word l =
    AllByRecursion (IsName Flag) l.flags.items
    × (l.flags.items ++ map {A = Bor (List ℕ)} {B = List ℕ} (λ w. w.now) (drop l.word-index l.words) ≡ map {A = Bor (List ℕ)} {B = List ℕ} (λ w. w.now) l.words)
