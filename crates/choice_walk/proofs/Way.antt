-- The way of a walk, decision by decision.
use Rattle.std.proofs.Common.{◌≡◌, ◌≢◌, ◌⊎◌, ◌∙◌, ◌<◌, ◌+◌, ◌-◌, ◌++◌, ℕ, Bool, true, false, List, [], ◌∷◌, Option, Some, ap, arith, get_or, inl, inr, length, map, nat_eq, refl, reverse, subst, sym, take}
use Rattle.std.specs.Prelude.{if◌then◌else◌}
use Rattle.std.specs.Option.{option_map}
use Rattle.std.proofs.Math.Seq.{take-append_seam}
use Rattle.std.proofs.lemmas.Bool.Decides.{eqb_tells}
use Rattle.std.proofs.lemmas.List.{length-append, length-map, map-append, reverse-append, take_more}
use Rattle.choice_law.specs.Tree.{Choice, decided}
use Rattle.choice_law.specs.Universe.{Universe, Value, lines}
use Rattle.choice_tree.specs.Places.{Place, no_place, numbers, place_at, places, with_decided}
use Rattle.choice_tree.specs.Seen.{place_of, places_of}
use Rattle.choice_tree.specs.Steps.{decision_as}
use Rattle.choice_tree.specs.Views.{value_of}
use Rattle.choice_tree.specs.declared.place.Place.{Place as ThePlace}
use Rattle.choice_tree.proofs.Numbers.{get_mapped, get_numbered, length_numbers}
use Rattle.choice_tree.proofs.Turned.{placed_after}
use Rattle.choice_walk.specs.Way.{AreBefore, above, begun_of, choice_of, here}
use Rattle.choice_walk.specs.declared.turn.Turn.{Turn}

pub here_more : (trail now : List Turn) (t : Turn) → now ≡ trail ++ t ∷ [] → here now ≡ decision_as t.decision ∷ here trail
here_more trail now t is = ap here is ∙ ap choice_of (reverse-append trail (t ∷ []))

pub above_more : (trail now : List Turn) (t : Turn) → now ≡ trail ++ t ∷ [] → above now ≡ (if t.begins then here trail ∷ above trail else above trail)
above_more trail now t is = ap above is ∙ ap begun_of (reverse-append trail (t ∷ []))

tail_same : {A : Type 0} (x y : A) (xs ys : List A) → ◌≡◌ {A = List A} (x ∷ xs) (y ∷ ys) → (x ≡ y) × (xs ≡ ys)
tail_same x y xs ys e = (cc e, cc e)

-- one decision more that says what was decided before
pub before_more : (u : Universe) (ts : List Turn) (t : Turn) → AreBefore u ts → option_map value_of t.before ≡ decided (choice_of ts) t.decision.line → AreBefore u (t ∷ ts)
before_more u ts t are was s [] older is less =
    let r = tail_same t s ts older is in
    subst (λ (x : Turn). option_map value_of x.before ≡ decided (choice_of older) x.decision.line) r.0
    (subst (λ (xs : List Turn). option_map value_of t.before ≡ decided (choice_of xs) t.decision.line) r.1 was)
before_more u ts t are was s (n ∷ newer) older is less = are s newer older (tail_same t n ts (newer ++ s ∷ older) is).1 less

-- .. or less
pub before_less : (u : Universe) (ts : List Turn) (t : Turn) → AreBefore u (t ∷ ts) → AreBefore u ts
before_less u ts t are s newer older is less = are s (t ∷ newer) older (ap (λ (xs : List Turn). t ∷ xs) is) less

-- a decision says nothing of other lines
pub other_line : (c : Choice) (d : ℕ × Value) (k : ℕ) → k ≢ d.0 → decided (d ∷ c) k ≡ decided c k
other_line c d k other = by_test (eqb_tells d.0 k) where
  by_test : ((nat_eq d.0 k ≡ true) × (d.0 ≡ k)) ⊎ ((nat_eq d.0 k ≡ false) × (d.0 ≢ k)) → decided (d ∷ c) k ≡ decided c k
  by_test (inl r) = absurd (other (sym r.1))
  by_test (inr r) = ap (λ (b : Bool). if b then Some d.1 else decided c k) r.0

pub own_line : (c : Choice) (d : ℕ × Value) → decided (d ∷ c) d.0 ≡ Some d.1
own_line c d = by_test (eqb_tells d.0 d.0) where
  by_test : ((nat_eq d.0 d.0 ≡ true) × (d.0 ≡ d.0)) ⊎ ((nat_eq d.0 d.0 ≡ false) × (d.0 ≢ d.0)) → decided (d ∷ c) d.0 ≡ Some d.1
  by_test (inl r) = ap (λ (b : Bool). if b then Some d.1 else decided c d.0) r.0
  by_test (inr r) = absurd (r.1 refl)

-- the places after a decision
pub gone_on : (u : Universe) (c : Choice) (d : ℕ × Value) → with_decided (places u c) d.0 (Some d.1) ≡ places u (d ∷ c)
gone_on u c d = placed_after u c (d ∷ c) d.0 (Some d.1) (λ less. sym (own_line c d)) (λ k other. sym (other_line c d k other))

-- .. and without it
pub gone_back : (u : Universe) (c : Choice) (d : ℕ × Value) (was : Option Value) → (d.0 < lines u → was ≡ decided c d.0) → with_decided (places u (d ∷ c)) d.0 was ≡ places u c
gone_back u c d was before = placed_after u (d ∷ c) c d.0 was before (λ k other. other_line c d k other)

-- one decision more is looked at
pub newest_more : (trail : List Turn) (i : ℕ) (t e : Turn) (l : ℕ) → i < length trail → t ≡ get_or trail i e → here (take (i + 1) trail) ≡ decision_as t.decision ∷ here (take i trail)
newest_more trail i t e l less is =
    here_more (take i trail) (take (i + 1) trail) t (take_more trail i e less ∙ ap (λ (x : Turn). take i trail ++ x ∷ []) (sym is))

reverse_map : {A B : Type 0} (f : A → B) (xs : List A) → reverse (map f xs) ≡ map f (reverse xs)
reverse_map f [] = refl
reverse_map f (x ∷ xs) =
    reverse-append (f x ∷ []) (map f xs)
    ∙ (ap (λ ys. ys ++ f x ∷ []) (reverse_map f xs)
    ∙ (sym (map-append f (reverse xs) (x ∷ [])) ∙ ap (map f) (sym (reverse-append (x ∷ []) xs))))

-- the decisions themselves, the newest first
pub turned_about : (trail : List Turn) → map decision_as (reverse (map (λ t. t.decision) trail)) ≡ here trail
turned_about trail = ap (map decision_as) (reverse_map (λ (t : Turn). t.decision) trail) ∙ mapped (reverse trail) where
  mapped : (ts : List Turn) → map decision_as (map (λ t. t.decision) ts) ≡ choice_of ts
  mapped [] = refl
  mapped (t ∷ ts) = ap (λ (c : Choice). decision_as t.decision ∷ c) (mapped ts)

-- the newest decision, put behind the others and taken off again
pub pop_pushed : {A : Type 0} (old more new : List A) (t : A) → more ≡ old ++ t ∷ [] → new ≡ take (length more - 1) more → new ≡ old
pop_pushed old more new t pushed popped =
    let longer = ap length pushed ∙ length-append old (t ∷ []) in
    let one_less : length more - 1 ≡ length old = omega (arith, longer) in
    popped ∙ (ap (λ (n : ℕ). take n more) one_less ∙ (ap (take (length old)) pushed ∙ take-append_seam old (t ∷ [])))

-- a decision on the way
pub way_on : (u : Universe) (old new : List Turn) (t : Turn) (ss ts : List Place) → new ≡ old ++ t ∷ [] → ss ≡ places u (here old) → ts ≡ with_decided ss t.decision.line (Some (value_of t.decision.value)) → ts ≡ places u (here new)
way_on u old new t ss ts pushed there done =
    done ∙ (ap (λ (rs : List Place). with_decided rs t.decision.line (Some (value_of t.decision.value))) there
    ∙ (gone_on u (here old) (decision_as t.decision) ∙ ap (places u) (sym (here_more old new t pushed))))

pub before_on : (u : Universe) (old new : List Turn) (t : Turn) → new ≡ old ++ t ∷ [] → AreBefore u (reverse old) → option_map value_of t.before ≡ decided (here old) t.decision.line → AreBefore u (reverse new)
before_on u old new t pushed are was =
    subst (λ (ts : List Turn). AreBefore u ts) (sym (ap reverse pushed ∙ reverse-append old (t ∷ []))) (before_more u (reverse old) t are was)

-- .. and back
pub way_back : (u : Universe) (old new : List Turn) (t : Turn) (ss ts : List Place) → old ≡ new ++ t ∷ [] → ss ≡ places u (here old) → AreBefore u (reverse old) → ts ≡ with_decided ss t.decision.line (option_map value_of t.before) → ts ≡ places u (here new)
way_back u old new t ss ts is there are done =
    let turned : reverse old ≡ t ∷ reverse new = ap reverse is ∙ reverse-append new (t ∷ []) in
    done ∙ (ap (λ (rs : List Place). with_decided rs t.decision.line (option_map value_of t.before)) (there ∙ ap (places u) (here_more new old t is))
    ∙ gone_back u (here new) (decision_as t.decision) (option_map value_of t.before) (λ less. are t [] (reverse new) turned less))

pub before_back : (u : Universe) (old new : List Turn) (t : Turn) → old ≡ new ++ t ∷ [] → AreBefore u (reverse old) → AreBefore u (reverse new)
before_back u old new t is are =
    before_less u (reverse new) t (subst (λ (ts : List Turn). AreBefore u ts) (ap reverse is ∙ reverse-append new (t ∷ [])) are)

-- a decision that doesn't begin a step is none from which one began
pub above_same : (old new : List Turn) (t : Turn) → old ≡ new ++ t ∷ [] → t.begins ≡ false → above old ≡ above new
above_same old new t is goes_on = above_more new old t is ∙ ap (λ (b : Bool). if b then here new ∷ above new else above new) goes_on

-- one that does leads back to where it began
pub above_left : (old new : List Turn) (t : Turn) (c : Choice) (cs : List Choice) → old ≡ new ++ t ∷ [] → t.begins ≡ true → above old ≡ c ∷ cs → (here new ≡ c) × (above new ≡ cs)
above_left old new t c cs is begun e =
    tail_same (here new) c (above new) cs (sym (above_more new old t is ∙ ap (λ (b : Bool). if b then here new ∷ above new else above new) begun) ∙ e)

-- nothing is above the beginning
pub none_above : (trail : List Turn) (c : Choice) (cs : List Choice) → trail ≡ [] → above trail ≡ c ∷ cs → ⊥
none_above trail c cs none e = let bad : ◌≡◌ {A = List Choice} [] (c ∷ cs) = sym (ap above none) ∙ e in cc bad

-- where nothing is decided
pub none_before : (u : Universe) (trail : List Turn) → trail ≡ [] → AreBefore u (reverse trail)
none_before u trail none = subst (λ (ts : List Turn). AreBefore u (reverse ts)) (sym none) empty where
  empty : AreBefore u []
  empty t [] older is less = absurd (let bad : ◌≡◌ {A = List Turn} [] (t ∷ older) = is in cc bad)
  empty t (n ∷ newer) older is less = absurd (let bad : ◌≡◌ {A = List Turn} [] (n ∷ (newer ++ t ∷ older)) = is in cc bad)

-- what the newest decision of a line says, one decision later
pub newest_same : (trail : List Turn) (i : ℕ) (t e : Turn) (l : ℕ) → i < length trail → t ≡ get_or trail i e → t.decision.line ≡ l → Some (value_of t.decision.value) ≡ decided (here (take (i + 1) trail)) l
newest_same trail i t e l less is same =
    subst (λ (k : ℕ). Some (value_of t.decision.value) ≡ decided (here (take (i + 1) trail)) k) same
    (sym (ap (λ (c : Choice). decided c t.decision.line) (newest_more trail i t e l less is) ∙ own_line (here (take i trail)) (decision_as t.decision)))

pub newest_other : (trail : List Turn) (i : ℕ) (t e : Turn) (l : ℕ) (o : Option Value) → i < length trail → t ≡ get_or trail i e → l ≢ t.decision.line → o ≡ decided (here (take i trail)) l → o ≡ decided (here (take (i + 1) trail)) l
newest_other trail i t e l o less is other before =
    before ∙ sym (ap (λ (c : Choice). decided c l) (newest_more trail i t e l less is) ∙ other_line (here (take i trail)) (decision_as t.decision) l other)

pub last_off : {A : Type 0} (old new before : List A) (t : A) → old ≡ before ++ t ∷ [] → new ≡ take (length old - 1) old → old ≡ new ++ t ∷ []
last_off old new before t is popped = is ∙ ap (λ (xs : List _). xs ++ t ∷ []) (sym (pop_pushed before old new t is popped))

-- what a place says is what is decided
pub decided_there : (u : Universe) (c : Choice) (ps : List ThePlace) (l : ℕ) (x : ThePlace) → places_of ps ≡ places u c → l < length ps → x ≡ get_or ps l x → option_map value_of x.decided ≡ decided c l
decided_there u c ps l x there less is =
    let long : length ps ≡ lines u = sym (length-map ps place_of) ∙ (ap length there ∙ (length-map (numbers (lines u) 0) (place_at u c) ∙ length_numbers (lines u) 0)) in
    let same : 0 + l ≡ l = omega arith in
    ap (λ (s : Place). s.decided)
    (ap place_of is
    ∙ (sym (get_mapped place_of ps l x no_place less)
    ∙ (ap (λ (ss : List Place). get_or ss l no_place) there ∙ get_numbered (place_at u c) no_place (lines u) 0 l (omega (arith, less, long)))))
    ∙ ap (decided c) same
