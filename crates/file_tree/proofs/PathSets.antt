-- Which paths stand in a list, as a test and as a fact, and in the keys of a set.
use Rattle.std.proofs.Common.{◌≡◌, ◌||◌, ◌∙◌, ℕ, Bool, true, false, not, cond, List, [], ◌∷◌, ◌++◌, inl, inr, refl, sym, ap}
use Rattle.std.specs.Prelude.{bytes_eq}
use Rattle.std.specs.List.{list_any}
use Rattle.std.specs.BTreeMap.{is_at}
use Rattle.std.specs.Cmp.Lexicographic.{slice_cmp, texts_ties}
use Rattle.std.specs.Ordering.{nat_cmp}
use Rattle.std.proofs.lemmas.Bool.{or_cases, or_left, or_right}
use Rattle.std.proofs.lemmas.Bool.Decides.{same_from_decides}
use Rattle.std.proofs.lemmas.List.Folds.{list_any-append}
use Rattle.std.proofs.lemmas.Slice.Eq.{bytes_eq-Decides}
use Rattle.basics.specs.Members.{Has}
use Rattle.file_tree.specs.PathSets.{HasSame, is_in}

pub has_if_in : (paths : List (List ℕ)) (q : List ℕ) → is_in paths q ≡ true → Has paths q
has_if_in [] q h = absurd cc
has_if_in (p ∷ ps) q h = elim (or_cases (bytes_eq q p) (is_in ps q) h) [ inl e ↦ inl (sym ((bytes_eq-Decides q p).0 e)) | inr k ↦ inr (has_if_in ps q k) ]

pub in_if_has : (paths : List (List ℕ)) (q : List ℕ) → Has paths q → is_in paths q ≡ true
in_if_has [] q h = absurd h
in_if_has (p ∷ ps) q (inl e) = or_left (bytes_eq q p) (is_in ps q) ((bytes_eq-Decides q p).1 (sym e))
in_if_has (p ∷ ps) q (inr h) = or_right (bytes_eq q p) (is_in ps q) (in_if_has ps q h)

pub is_in-append : (xs ys : List (List ℕ)) (q : List ℕ) → is_in (xs ++ ys) q ≡ (is_in xs q || is_in ys q)
is_in-append xs ys q = list_any-append (λ p. bytes_eq q p) xs ys

pub is_in_keys : (keys : List (List ℕ)) (q : List ℕ) → is_in keys q ≡ list_any (is_at (slice_cmp nat_cmp q)) keys
is_in_keys [] q = refl
is_in_keys (p ∷ ps) q = rw (texts_ties q p, is_in_keys ps q) refl

-- the keys of a set with one more
pub taken_more : (p q : List ℕ) (old new : List (List ℕ))
    → list_any (is_at (slice_cmp nat_cmp q)) new ≡ cond (is_at (slice_cmp nat_cmp p) q) true (list_any (is_at (slice_cmp nat_cmp q)) old) → is_in new q ≡ is_in (p ∷ old) q
taken_more p q old new e =
    let at : is_at (slice_cmp nat_cmp p) q ≡ bytes_eq q p = sym (texts_ties p q) ∙ same_from_decides (bytes_eq p q) (bytes_eq q p) (bytes_eq-Decides p q) (λ h. sym ((bytes_eq-Decides q p).0 h), λ h. (bytes_eq-Decides q p).1 (sym h)) in
    is_in_keys new q ∙ e ∙ rw (at, sym (is_in_keys old q)) (cond_or (bytes_eq q p) (is_in old q))
  where
    cond_or : (a b : Bool) → cond a true b ≡ a || b
    cond_or true b = refl
    cond_or false b = refl

pub free_key : (key path : List ℕ) (keys old : List (List ℕ)) (b : Bool) → key ≡ path → keys ≡ old → b ≡ not (list_any (is_at (slice_cmp nat_cmp key)) keys) → b ≡ not (is_in old path)
free_key key path keys old b same_key same e = e ∙ ap not (sym (is_in_keys keys key) ∙ ap (is_in keys) same_key ∙ ap (λ (t : List (List ℕ)). is_in t path) same)

pub taken_key : (key path : List ℕ) (keys old new : List (List ℕ)) → key ≡ path → keys ≡ old
    → ((q : List ℕ) → list_any (is_at (slice_cmp nat_cmp q)) new ≡ cond (is_at (slice_cmp nat_cmp key) q) true (list_any (is_at (slice_cmp nat_cmp q)) keys)) → HasSame new (path ∷ old)
taken_key key path keys old new same_key same e q =
    taken_more key q keys new (e q) ∙ ap (λ (k : List ℕ). is_in (k ∷ keys) q) same_key ∙ ap (λ (t : List (List ℕ)). is_in (path ∷ t) q) same
