-- Leaves of options, one after the other, and parts of lists.
use Rattle.std.proofs.Common.{◌≡◌, ◌∙◌, ◌++◌, ℕ, zero, suc, List, [], ◌∷◌, Option, None, Some, inl, inr, refl, sym, ap, subst, take}
use Rattle.std.specs.List.{flat_map}
use Rattle.basics.specs.Members.{Has}
use Rattle.basics.proofs.Membership.{has-append_cases}
use Rattle.choice_search.specs.Jumping.{IsPart, nothing, with_it, without}
use Rattle.choice_search.specs.Leaves.{Leaf, dead, dead_before, first_good, good}
use Rattle.choice_search.specs.Visit.{Visit, barren, behind, ending, reached, seen_as}

empty_part : {A : Type 0} (ys : List A) → IsPart [] ys
empty_part [] = nothing
empty_part (y ∷ ys) = without y [] ys (empty_part ys)

longer_part : {A : Type 0} (xs ys zs : List A) → IsPart xs ys → IsPart xs (ys ++ zs)
longer_part xs ys zs nothing = empty_part zs
longer_part xs ys zs (without y xs_ ys_ p) = without y xs (ys_ ++ zs) (longer_part xs ys_ zs p)
longer_part xs ys zs (with_it y xs_ ys_ p) = with_it y xs_ (ys_ ++ zs) (longer_part xs_ ys_ zs p)

both_parts : {A : Type 0} (xs ys vs ws : List A) → IsPart xs ys → IsPart vs ws → IsPart (xs ++ vs) (ys ++ ws)
both_parts xs ys vs ws nothing q = q
both_parts xs ys vs ws (without y xs_ ys_ p) q = without y (xs ++ vs) (ys_ ++ ws) (both_parts xs ys_ vs ws p q)
both_parts xs ys vs ws (with_it y xs_ ys_ p) q = with_it y (xs_ ++ vs) (ys_ ++ ws) (both_parts xs_ ys_ vs ws p q)

-- the first items of a list are items of it
pub has_of_first : {A : Type 0} (n : ℕ) (xs : List A) (x : A) → Has (take n xs) x → Has xs x
has_of_first zero xs x h = absurd h
has_of_first (suc n) [] x h = absurd h
has_of_first (suc n) (y ∷ ys) x (inl e) = inl e
has_of_first (suc n) (y ∷ ys) x (inr h) = inr (has_of_first n ys x h)

module _ {C : Type 0} where
  none_then : (ls ms : List (Leaf C)) → first_good ls ≡ None → first_good (ls ++ ms) ≡ first_good ms
  none_then [] ms e = refl
  none_then (good c ∷ ls) ms e = absurd (let bad : ◌≡◌ {A = Option C} (Some c) None = e in cc bad)
  none_then (dead c ∷ ls) ms e = none_then ls ms e

  none_dead : (ls ms : List (Leaf C)) → first_good ls ≡ None → dead_before (ls ++ ms) ≡ dead_before ls ++ dead_before ms
  none_dead [] ms e = refl
  none_dead (good c ∷ ls) ms e = absurd (let bad : ◌≡◌ {A = Option C} (Some c) None = e in cc bad)
  none_dead (dead c ∷ ls) ms e = ap (λ cs. c ∷ cs) (none_dead ls ms e)

  some_then : (ls ms : List (Leaf C)) (g : C) → first_good ls ≡ Some g → first_good (ls ++ ms) ≡ Some g
  some_then [] ms g e = absurd (let bad : ◌≡◌ {A = Option C} None (Some g) = e in cc bad)
  some_then (good c ∷ ls) ms g e = e
  some_then (dead c ∷ ls) ms g e = some_then ls ms g e

  some_dead : (ls ms : List (Leaf C)) (g : C) → first_good ls ≡ Some g → dead_before (ls ++ ms) ≡ dead_before ls
  some_dead [] ms g e = absurd (let bad : ◌≡◌ {A = Option C} None (Some g) = e in cc bad)
  some_dead (good c ∷ ls) ms g e = refl
  some_dead (dead c ∷ ls) ms g e = ap (λ cs. c ∷ cs) (some_dead ls ms g e)

  pub none_good : (ls : List (Leaf C)) → ((c : C) → ¬ Has ls (good c)) → first_good ls ≡ None
  none_good [] no_good = refl
  none_good (good c ∷ ls) no_good = absurd (no_good c (inl refl))
  none_good (dead c ∷ ls) no_good = none_good ls (λ d h. no_good d (inr h))

  -- a walk ends where it would among these leaves, and meets a part of the dead ones
  pub record IsRight (v : Visit C) (ls : List (Leaf C)) : Type 0 where
    pub first : ending v.end ≡ first_good ls
    pub part : IsPart v.met (dead_before ls)

  pub right_reached : (met : List C) (g : C) (ls ms : List (Leaf C)) → IsRight (seen_as met (reached g)) ls → IsRight (seen_as met (reached g)) (ls ++ ms)
  right_reached met g ls ms r = record {
    first = sym (some_then ls ms g (sym r.first));
    part = subst (λ (ds : List C). IsPart met ds) (sym (some_dead ls ms g (sym r.first))) r.part;
  }

  pub right_jump : (met : List C) (why : List ℕ) (ls ms : List (Leaf C)) → IsRight (seen_as met (barren why)) ls → first_good ms ≡ None → IsRight (seen_as met (barren why)) (ls ++ ms)
  right_jump met why ls ms r e = record {
    first = sym (none_then ls ms (sym r.first) ∙ e);
    part =
        subst (λ (ds : List C). IsPart met ds) (sym (none_dead ls ms (sym r.first)))
        (longer_part met (dead_before ls) (dead_before ms) r.part);
  }

  pub right_next : (met : List C) (why : List ℕ) (v : Visit C) (ls ms : List (Leaf C)) → IsRight (seen_as met (barren why)) ls → IsRight v ms → IsRight (behind met v) (ls ++ ms)
  right_next met why v ls ms r s = record {
    first = s.first ∙ sym (none_then ls ms (sym r.first));
    part =
        subst (λ (ds : List C). IsPart (met ++ v.met) ds) (sym (none_dead ls ms (sym r.first)))
        (both_parts met (dead_before ls) v.met (dead_before ms) r.part s.part);
  }

  pub right_good : (c : C) → IsRight (seen_as [] (reached c)) (good c ∷ [])
  right_good c = record { first = refl; part = nothing }

  pub right_dead : (c : C) (why : List ℕ) → IsRight (seen_as (c ∷ []) (barren why)) (dead c ∷ [])
  right_dead c why = record { first = refl; part = with_it c [] [] nothing }
