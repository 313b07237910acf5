-- What one more item means.
use Rattle.std.proofs.Common.{◌≡◌, ℕ, Bool, true, false, ◌||◌, cond, List, [], ◌∷◌, ◌++◌, refl, ◌∙◌, bytes_eq}
use Rattle.std.proofs.lemmas.List.Folds.{list_any-append}
use Rattle.std.proofs.lemmas.List.Sums.{fold-append}
use Rattle.use_flags.specs.Items.{flag_of, is_on, names_flag, last_is_on}

or_last : (r b : Bool) → (r || (b || false)) ≡ (b || r)
or_last true true = refl
or_last true false = refl
or_last false true = refl
or_last false false = refl

pub names_flag-more : (items : List (List ℕ)) (item flag : List ℕ) → names_flag (items ++ (item ∷ [])) flag ≡ (bytes_eq flag (flag_of item) || names_flag items flag)
names_flag-more items item flag =
    list_any-append (λ one. bytes_eq flag (flag_of one)) items (item ∷ []) ∙ or_last (names_flag items flag) (bytes_eq flag (flag_of item))

pub last_is_on-more : (items : List (List ℕ)) (item flag : List ℕ) → last_is_on (items ++ (item ∷ [])) flag ≡ cond (bytes_eq flag (flag_of item)) (is_on item) (last_is_on items flag)
last_is_on-more items item flag =
    fold-append (λ on one. cond (bytes_eq flag (flag_of one)) (is_on one) on) false items (item ∷ [])
