-- Marks of lines, decision by decision.
use Rattle.std.proofs.Common.{◌≡◌, ◌≢◌, ◌⊎◌, ◌∙◌, ◌++◌, ◌<◌, ◌≤◌, ◌+◌, ℕ, zero, suc, Bool, true, false, List, [], ◌∷◌, Option, None, Some, ap, arith, get_or, inl, inr, length, refl, set, subst, sym, take}
use Rattle.std.specs.Prelude.{if◌then◌else◌, is_some, nat_eq}
use Rattle.std.specs.Option.{option_map, option_or}
use Rattle.std.proofs.lemmas.Bool.Decides.{eqb_tells}
use Rattle.std.proofs.lemmas.List.{get_or-set_other, get_or-set_same, length-set, map-append, take_more}
use Rattle.choice_law.specs.Tree.{Choice, decided}
use Rattle.choice_law.specs.Universe as universe
use Rattle.choice_tree.specs.Views.{decisions_of, value_of}
use Rattle.choice_tree.specs.declared.value.Decision.{Decision}
use Rattle.choice_tree.specs.declared.value.Value.{Value}
use Rattle.choice_walk.specs.Marks.{AreMarks}

-- what an older decision says of a line of which a newer one speaks, or of another line, is nothing
decided_behind : (c : Choice) (k : ℕ) (v : universe.Value) (l : ℕ) → decided (c ++ (k, v) ∷ []) l ≡ option_or (decided c l) (if nat_eq k l then Some v else None)
decided_behind [] k v l = refl
decided_behind (e ∷ c) k v l = go (nat_eq e.0 l) (decided_behind c k v l)
  where
    go : (b : Bool) → decided (c ++ (k, v) ∷ []) l ≡ option_or (decided c l) (if nat_eq k l then Some v else None) → (if b then Some e.1 else decided (c ++ (k, v) ∷ []) l) ≡ option_or (if b then Some e.1 else decided c l) (if nat_eq k l then Some v else None)
    go true so_far = refl
    go false so_far = so_far

or_none : (o : Option universe.Value) → option_or o None ≡ o
or_none None = refl
or_none (Some x) = refl

or_some : (o : Option Value) (more : Option universe.Value) → is_some o ≡ true → option_or (option_map value_of o) more ≡ option_map value_of o
or_some None more is = absurd (cc is)
or_some (Some x) more is = refl

other_line : (c : Choice) (k : ℕ) (v : universe.Value) (l : ℕ) → nat_eq k l ≡ false → decided (c ++ (k, v) ∷ []) l ≡ decided c l
other_line c k v l other =
    decided_behind c k v l ∙ (ap (λ (b : Bool). option_or (decided c l) (if b then Some v else None)) other ∙ or_none (decided c l))

-- what stands at a place, whatever stands in for none
pub held : {A : Type 0} (xs : List A) (k : ℕ) (x d : A) → k < length xs → x ≡ get_or xs k x → get_or xs k d ≡ x
held [] k x d lt is = absurd (omega (arith, lt))
held (y ∷ xs) zero x d lt is = sym is
held (y ∷ xs) (suc k) x d lt is = held xs k x d (omega (arith, lt)) is

module _ (count : ℕ) (c : Choice) (k : ℕ) (v : Value) (old : List (Option Value)) (are : AreMarks count c old) where
  -- a decision on no line
  pub marked_outside : length old ≤ k → AreMarks count (c ++ (k, value_of v) ∷ []) old
  marked_outside out = record {
    all = are.all;
    each = λ l lt. are.each l lt ∙ sym (other_line c k (value_of v) l (apart l lt (eqb_tells k l)));
  }
    where
      apart : (l : ℕ) → l < count → ((nat_eq k l ≡ true) × (k ≡ l)) ⊎ ((nat_eq k l ≡ false) × (k ≢ l)) → nat_eq k l ≡ false
      apart l lt (inl (e, same)) = let n = are.all in absurd (omega (arith, lt, same, n, out))
      apart l lt (inr (e, other)) = e

  -- .. on one that is marked
  pub marked_before : is_some (get_or old k None) ≡ true → AreMarks count (c ++ (k, value_of v) ∷ []) old
  marked_before is = record {
    all = are.all;
    each = λ l lt. at_line l lt (eqb_tells k l);
  }
    where
      at_line : (l : ℕ) → l < count → ((nat_eq k l ≡ true) × (k ≡ l)) ⊎ ((nat_eq k l ≡ false) × (k ≢ l)) → option_map value_of (get_or old l None) ≡ decided (c ++ (k, value_of v) ∷ []) l
      at_line l lt (inr (e, other)) = are.each l lt ∙ sym (other_line c k (value_of v) l e)
      at_line l lt (inl (e, same)) =
          sym (or_some (get_or old l None) (if nat_eq k l then Some (value_of v) else None) (ap (λ (n : ℕ). is_some (get_or old n None)) (sym same) ∙ is))
          ∙ (ap (λ (o : Option universe.Value). option_or o (if nat_eq k l then Some (value_of v) else None)) (are.each l lt)
          ∙ sym (decided_behind c k (value_of v) l))

  -- .. on one that isn't
  pub marked_now : (new : List (Option Value)) → k < length old → is_some (get_or old k None) ≡ false → new ≡ set old k (Some v) → AreMarks count (c ++ (k, value_of v) ∷ []) new
  marked_now new within free is = record {
    all = ap length is ∙ (length-set old k (Some v) ∙ are.all);
    each = λ l lt. ap (λ (m : List (Option Value)). option_map value_of (get_or m l None)) is ∙ at_line l lt (eqb_tells k l);
  }
    where
      bare : (o : Option Value) → is_some o ≡ false → option_map value_of o ≡ None
      bare None e = refl
      bare (Some x) e = absurd (cc e)

      at_line : (l : ℕ) → l < count → ((nat_eq k l ≡ true) × (k ≡ l)) ⊎ ((nat_eq k l ≡ false) × (k ≢ l)) → option_map value_of (get_or (set old k (Some v)) l None) ≡ decided (c ++ (k, value_of v) ∷ []) l
      at_line l lt (inr (e, other)) =
          ap (option_map value_of) (get_or-set_other old k l (Some v) None (λ same. other (sym same)))
          ∙ (are.each l lt ∙ sym (other_line c k (value_of v) l e))
      at_line l lt (inl (e, same)) =
          let none : decided c l ≡ None = sym (are.each l lt) ∙ (ap (λ (n : ℕ). option_map value_of (get_or old n None)) (sym same) ∙ bare (get_or old k None) free) in
          ap (λ (n : ℕ). option_map value_of (get_or (set old k (Some v)) n None)) (sym same)
          ∙ (ap (option_map value_of) (get_or-set_same old k (Some v) None within)
          ∙ sym (decided_behind c k (value_of v) l
          ∙ (ap (λ (o : Option universe.Value). option_or o (if nat_eq k l then Some (value_of v) else None)) none
          ∙ ap (λ (b : Bool). if b then Some (value_of v) else None) e)))

-- one decision more
pub marks_more : (count : ℕ) (ds : List Decision) (i : ℕ) (d e : Decision) (marks : List (Option Value)) → i < length ds → d ≡ get_or ds i e
    → AreMarks count (decisions_of (take i ds) ++ (d.line, value_of d.value) ∷ []) marks → AreMarks count (decisions_of (take (i + 1) ds)) marks
marks_more count ds i d e marks lt is are =
    let longer : take (i + 1) ds ≡ take i ds ++ d ∷ [] = take_more ds i e lt ∙ ap (λ (x : Decision). take i ds ++ x ∷ []) (sym is) in
    let same : decisions_of (take (i + 1) ds) ≡ decisions_of (take i ds) ++ (d.line, value_of d.value) ∷ [] =
    ap decisions_of longer ∙ map-append (λ (x : Decision). (x.line, value_of x.value)) (take i ds) (d ∷ []) in
    subst (λ (c : Choice). AreMarks count c marks) (sym same) are
