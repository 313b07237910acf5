-- Which packages go, one key at a time.
use Rattle.std.proofs.Common.{◌≡◌, ◌<◌, ◌+◌, ◌||◌, ◌==◌, Bool, true, false, cond, ℕ, List, [], ◌∷◌, length, take, get_or, refl, sym, ap, ◌∙◌}
use Rattle.std.specs.Ordering.{is_eq, nat_cmp}
use Rattle.std.proofs.lemmas.List.{take_more}
use Rattle.std.proofs.lemmas.List.Folds.{list_any-append}
use Rattle.basics.proofs.Tests.{or-false}
use Rattle.merge_record.specs.declared.record.OwnerKey.{OwnerKey}
use Rattle.owner_book.specs.Rules.{is_dying}
use Rattle.owner_book.proofs.Books.{eq_groups}

pub dying_more : (ks : List OwnerKey) (i : ℕ) (x k : OwnerKey) → i < length ks → is_dying (take (i + 1) ks) k ≡ is_dying (take i ks) k || ((get_or ks i x).number == k.number)
dying_more ks i x k lt =
    ap (λ (l : List OwnerKey). is_dying l k) (take_more ks i x lt)
    ∙ (list_any-append (λ (d : OwnerKey). d.number == k.number) (take i ks) (get_or ks i x ∷ []) ∙ ap (λ (b : Bool). is_dying (take i ks) k || b) (or-false ((get_or ks i x).number == k.number)))

pub dying_step : (n m : ℕ) (a t now new : Bool) → now ≡ a → new ≡ cond (is_eq (nat_cmp n m)) true now → t ≡ a || (n == m) → new ≡ t
dying_step n m a t now new is after both =
    after ∙ (ap (λ (b : Bool). cond b true now) (eq_groups n m) ∙ (ap (λ (x : Bool). cond (n == m) true x) is ∙ (joined (n == m) a ∙ sym both)))
  where
    joined : (b a : Bool) → cond b true a ≡ a || b
    joined true true = refl
    joined true false = refl
    joined false true = refl
    joined false false = refl
