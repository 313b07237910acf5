-- What packages own, one package after another.
use Rattle.std.proofs.Common.{◌≡◌, ◌<◌, ◌+◌, ◌||◌, ◌++◌, ◌∷◌, ◌∙◌, ℕ, Bool, List, [], Option, None, Some, length, take, get_or, append-nil, refl, sym, ap}
use Rattle.std.specs.Prelude.{bytes_eq}
use Rattle.std.proofs.lemmas.Grind.{flat_map-append}
use Rattle.std.proofs.lemmas.List.{take_more}
use Rattle.std.proofs.lemmas.List.Folds.{list_any-append}
use Rattle.merge_record.specs.declared.record.OwnerKey.{OwnerKey}
use Rattle.file_tree.specs.PathSets.{is_in}
use Rattle.owner_book.specs.Book.{Book, is_owner, owner_in, paths_of}
use Rattle.owner_book.specs.Removing.{goes}
use Rattle.owner_book.specs.Rules.{is_dying}
use Rattle.owner_book.proofs.Keys.{dying_more}
use Rattle.merge_site.specs.Booking.{owned_by}

module _ (b : Book) (ks : List OwnerKey) (i : ℕ) (x key : OwnerKey) (lt : i < length ks) (is : key ≡ get_or ks i x)
    (paths new owned : List (List ℕ)) (came : new ≡ paths ++ owned) where
  pub gone_list : owned ≡ paths_of b.owned key → paths ≡ owned_by b (take i ks) → new ≡ owned_by b (take (i + 1) ks)
  gone_list has was =
      came
      ∙ (ap (λ (l : List (List ℕ)). l ++ owned) was
      ∙ (ap (λ (l : List (List ℕ)). owned_by b (take i ks) ++ l) (has ∙ (ap (λ (k : OwnerKey). paths_of b.owned k) is ∙ sym (append-nil (paths_of b.owned (get_or ks i x)))))
      ∙ sym (ap (owned_by b) (take_more ks i x lt) ∙ flat_map-append (λ k. paths_of b.owned k) (take i ks) (get_or ks i x ∷ []))))

  pub gone_more : (q : List ℕ) → is_in owned q ≡ is_owner key (owner_in b.owned q) → is_in paths q ≡ goes (is_dying (take i ks)) (owner_in b.owned q)
      → is_in new q ≡ goes (is_dying (take (i + 1) ks)) (owner_in b.owned q)
  gone_more q has was =
      ap (λ (l : List (List ℕ)). is_in l q) came
      ∙ (list_any-append (λ p. bytes_eq q p) paths owned
      ∙ (ap (λ (c : Bool). c || is_in owned q) was
      ∙ (ap (λ (c : Bool). goes (is_dying (take i ks)) (owner_in b.owned q) || c) (has ∙ ap (λ (k : OwnerKey). is_owner k (owner_in b.owned q)) is)
      ∙ joined (owner_in b.owned q))))
    where
      joined : (o : Option OwnerKey) → (goes (is_dying (take i ks)) o || is_owner (get_or ks i x) o) ≡ goes (is_dying (take (i + 1) ks)) o
      joined None = refl
      joined (Some k) = sym (dying_more ks i x k lt)
