-- Paths that are taken one after another.
use Rattle.std.proofs.Common.{◌≡◌, ◌∙◌, ◌++◌, ◌||◌, ◌+◌, ℕ, Bool, true, false, List, [], ◌∷◌, not, inl, inr, refl, ap, append_assoc, subst, sym}
use Rattle.std.specs.Prelude.{bytes_eq}
use Rattle.std.proofs.lemmas.List.Folds.{list_any-append}
use Rattle.std.proofs.Math.Bool.{or_comm}
use Rattle.std.proofs.lemmas.Slice.Eq.{bytes_eq-Decides}
use Rattle.basics.specs.Members.{AreDistinct, Has}
use Rattle.basics.proofs.Membership.{distinct-push, has-append_cases, has-append_left, has-append_right}
use Rattle.basics.proofs.Tests.{or-false}
use Rattle.file_tree.specs.PathSets.{HasSame, is_in}
use Rattle.file_tree.proofs.PathSets.{has_if_in, in_if_has}
use Rattle.run_files.specs.Removing.{AddsFree}

pub in_append : (xs ys : List (List ℕ)) (q : List ℕ) → is_in (xs ++ ys) q ≡ is_in xs q || is_in ys q
in_append xs ys q = list_any-append (λ (p : List ℕ). bytes_eq q p) xs ys

-- a path in front of others stands among them as behind
pub taken_behind : (p : List ℕ) (xs taken : List (List ℕ)) → HasSame taken (p ∷ xs) → HasSame taken (xs ++ p ∷ [])
taken_behind p xs taken same q =
    same q ∙ (or_comm (bytes_eq q p) (is_in xs q) ∙ (ap (λ (b : Bool). is_in xs q || b) (sym (or-false (bytes_eq q p))) ∙ sym (in_append xs (p ∷ []) q)))

-- lists with the same members, with one more
pub taken_more : (p : List ℕ) (xs old new : List (List ℕ)) → HasSame old xs → HasSame new (p ∷ old) → HasSame new (xs ++ p ∷ [])
taken_more p xs old new are more = taken_behind p xs new (λ q. more q ∙ ap (λ (b : Bool). bytes_eq q p || b) (are q))

-- ---- one path more

-- a path that is free is removed, too
pub free_added : (placed done old new taken : List (List ℕ)) (first : List (List ℕ)) (p : List ℕ) → HasSame taken (placed ++ old) → is_in taken p ≡ false → new ≡ old ++ p ∷ [] → AddsFree placed done first old → AddsFree placed (done ++ p ∷ []) first new
free_added placed done old new taken first p are free is adds =
    let out : Has (placed ++ old) p → ⊥ = λ has. cc (in_if_has (placed ++ old) p has, sym (are p), free) in
    record {
      members = λ q. (
        λ has. elim (has-append_cases old (p ∷ []) q (subst (λ (l : List (List ℕ)). Has l q) is has)) [
          | inl before ↦ elim ((adds.members q).0 before) [
            | inl h ↦ inl h
            | inr k ↦ inr (has-append_left done (p ∷ []) q k.0, k.1)
          ]
          | inr last ↦ elim last [
            | inl e ↦ inr (has-append_right done (p ∷ []) q (inl e), λ h. out (subst (λ (x : List ℕ). Has (placed ++ old) x) (sym e) (has-append_left placed old q h)))
            | inr none ↦ absurd none
          ]
        ],
        λ h. subst (λ (l : List (List ℕ)). Has l q) (sym is) (elim h [
          | inl before ↦ has-append_left old (p ∷ []) q ((adds.members q).1 (inl before))
          | inr k ↦ elim (has-append_cases done (p ∷ []) q k.0) [
            | inl seen ↦ has-append_left old (p ∷ []) q ((adds.members q).1 (inr (seen, k.1)))
            | inr last ↦ has-append_right old (p ∷ []) q last
          ]
        ]),
      );
      once = λ distinct. subst (λ (l : List (List ℕ)). AreDistinct l) (sym is) (distinct-push old p (adds.once distinct) (λ h. out (has-append_right placed old p h)));
    }

-- one that is taken is placed or removed already
pub taken_passed : (placed done old taken : List (List ℕ)) (first : List (List ℕ)) (p : List ℕ) → HasSame taken (placed ++ old) → is_in taken p ≡ true → AddsFree placed done first old → AddsFree placed (done ++ p ∷ []) first old
taken_passed placed done old taken first p are there adds =
    let inside : Has (placed ++ old) p = has_if_in (placed ++ old) p (sym (are p) ∙ there) in
    record {
      members = λ q. (
        λ has. elim ((adds.members q).0 has) [
          | inl h ↦ inl h
          | inr k ↦ inr (has-append_left done (p ∷ []) q k.0, k.1)
        ],
        λ h. elim h [
          | inl before ↦ (adds.members q).1 (inl before)
          | inr k ↦ elim (has-append_cases done (p ∷ []) q k.0) [
            | inl seen ↦ (adds.members q).1 (inr (seen, k.1))
            | inr last ↦ elim last [
              | inl e ↦ elim (has-append_cases placed old q (subst (λ (x : List ℕ). Has (placed ++ old) x) e inside)) [
                | inl placed_there ↦ absurd (k.1 placed_there)
                | inr gone ↦ gone
              ]
              | inr none ↦ absurd none
            ]
          ]
        ],
      );
      once = adds.once;
    }

pass : (xs taken : List (List ℕ)) (p q : List ℕ) (b : Bool) → bytes_eq q p ≡ b → is_in taken p ≡ true → is_in taken q ≡ is_in xs q → (b || is_in taken q) ≡ is_in xs q
pass xs taken p q true e there are = sym (subst (λ (x : List ℕ). is_in taken x ≡ true) (sym ((bytes_eq-Decides q p).0 e)) there) ∙ are
pass xs taken p q false e there are = are

-- what is taken stays so
pub still_taken : (xs taken new : List (List ℕ)) (p : List ℕ) → HasSame taken xs → is_in taken p ≡ true → HasSame new (p ∷ taken) → HasSame new xs
still_taken xs taken new p are there more q = more q ∙ pass xs taken p q (bytes_eq q p) refl there (are q)

-- ---- the answer of the set

pub free_from_not : (b : Bool) → not b ≡ true → b ≡ false
free_from_not true e = absurd (cc e)
free_from_not false e = refl

pub taken_from_not : (b : Bool) → not b ≡ false → b ≡ true
taken_from_not true e = refl
taken_from_not false e = absurd (cc e)

pub append_more : (placed old new : List (List ℕ)) (p : List ℕ) → new ≡ old ++ p ∷ [] → placed ++ new ≡ (placed ++ old) ++ p ∷ []
append_more placed old new p is = ap (λ (l : List (List ℕ)). placed ++ l) is ∙ sym (append_assoc placed old (p ∷ []))
