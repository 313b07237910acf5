-- The path of a plan, where no slash stands first.
use Rattle.std.proofs.Common.{◌≡◌, ◌≢◌, ℕ, Bool, true, false, List, [], ◌∷◌, ◌==◌, refl, ap, arith}
use Rattle.std.specs.Prelude.{if◌then◌else◌}
use Rattle.std.proofs.lemmas.Bool.Decides.{nat_tests}
use Rattle.emerge_words.specs.Commands.{plan_path}

pub path_stays : (text : List ℕ) → ((rest : List ℕ) → text ≢ 47 ∷ rest) → text ≡ plan_path text
path_stays [] none = refl
path_stays (b ∷ text) none = go (b == 47) refl
  where
    go : (r : Bool) → (b == 47) ≡ r → b ∷ text ≡ (if r then text else b ∷ text)
    go false e = refl
    go true e = absurd (none text (ap (λ x. x ∷ text) (let same : b ≡ 47 = grind (arith, nat_tests, e) in same)))
