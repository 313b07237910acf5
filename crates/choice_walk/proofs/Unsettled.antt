-- Lines of which nothing is open, while others change.
use Rattle.std.proofs.Common.{◌≡◌, ◌≢◌, ◌∙◌, ◌<◌, ◌≤◌, ◌+◌, ◌⊎◌, ◌++◌, ℕ, Bool, true, false, cond, List, [], ◌∷◌, Option, Some, add-one, ap, arith, get_or, inl, inr, length, refl, set, subst, sym, take}
use Rattle.std.specs.BTreeSet.{BTreeSet, contains}
use Rattle.std.specs.List.{find, list_any}
use Rattle.std.specs.Ordering.{is_eq, is_gt, nat_cmp}
use Rattle.std.specs.declared.cmp.Ordering.{Ordering}
use Rattle.std.specs.declared.cmp.Ordering.TheVariants.{Equal, Greater, Less}
use Rattle.std.proofs.lemmas.Bool.{cases_Bool}
use Rattle.std.proofs.lemmas.List.{get_or-set_other, get_or-set_same, length-map, length-set, take_all, take_more}
use Rattle.std.proofs.lemmas.Map.Lookups.{exact_unsigned}
use Rattle.basics.specs.Members.{Has}
use Rattle.basics.proofs.Membership.{has-append_left, has-append_right}
use Rattle.basics.proofs.Texts.{nat_cmp-greater}
use Rattle.pkg_state.specs.Package.{Package}
use Rattle.choice_law.specs.Universe.{Value}
use Rattle.choice_tree.specs.Keys.{AreKeyed, Lists, offers_in}
use Rattle.choice_tree.specs.Open.{is_open_of, obligations_of}
use Rattle.choice_tree.specs.Places.{Place, no_place, numbers, package_in, with_decided}
use Rattle.choice_tree.specs.Seen.{place_of, places_of}
use Rattle.choice_tree.specs.declared.key.Key.TheVariants.{Leaf, Whole}
use Rattle.choice_tree.specs.declared.place.Place.{Place as ThePlace}
use Rattle.choice_tree.proofs.Numbers.{get_mapped, has_numbers, numbers_last}
use Rattle.choice_walk.specs.Settled.{AreIn, AreKept, AreSettled, IsOut, IsSettled, lines_around}
use Rattle.choice_walk.proofs.Shut.{same_open}
use Rattle.choice_walk.proofs.Unseen.{IsUnseen, unseen}

pub not_both : (b : Bool) → b ≡ true → b ≡ false → ⊥
not_both b on off = let bad : true ≡ false = sym on ∙ off in cc bad

other_false : (b a : Bool) → cond b true a ≡ false → a ≡ false
other_false true a e = absurd (cc e)
other_false false a e = e

-- a line comes to the others
pub kept_by_insert : (k : ℕ) (old new : BTreeSet ℕ) → ((q : ℕ) → contains nat_cmp new q ≡ cond (is_eq (nat_cmp k q)) true (contains nat_cmp old q)) → AreKept old new
kept_by_insert k old new updates l out = other_false (is_eq (nat_cmp k l)) (contains nat_cmp old l) (sym (updates l) ∙ out)

pub kept_same : (old new : BTreeSet ℕ) → new.keys ≡ old.keys → AreKept old new
kept_same old new same l out = ap (λ (ks : List ℕ). list_any (λ k. is_eq (nat_cmp l k)) ks) (sym same) ∙ out

pub kept_both : (one two three : BTreeSet ℕ) → AreKept one two → AreKept two three → AreKept one three
kept_both one two three first second l out = first l (second l out)

-- what is in stays so
pub still_in : (ls : List ℕ) (old new : BTreeSet ℕ) → AreIn ls old → AreKept old new → AreIn ls new
still_in ls old new are kept l h = elim (cases_Bool (contains nat_cmp new l)) [
  | inl on ↦ on
  | inr off ↦ absurd (not_both (contains nat_cmp old l) (are l h) (kept l off))
]

pub one_in : (k : ℕ) (lines : BTreeSet ℕ) → contains nat_cmp lines k ≡ true → AreIn (k ∷ []) lines
one_in k lines on l (inl same) = ap (contains nat_cmp lines) (sym same) ∙ on
one_in k lines on l (inr none) = absurd none

pub none_in : (lines : BTreeSet ℕ) → AreIn [] lines
none_in lines l none = absurd none

pub both_in : (ks ls : List ℕ) (lines : BTreeSet ℕ) → AreIn ks lines → AreIn ls lines → AreIn (ks ++ ls) lines
both_in [] ls lines first second l h = second l h
both_in (k ∷ ks) ls lines first second l (inl same) = first l (inl same)
both_in (k ∷ ks) ls lines first second l (inr h) = both_in ks ls lines (λ m j. first m (inr j)) second l h

-- one line more
pub all_more : (n : ℕ) (old new : BTreeSet ℕ) → AreIn (numbers n 0) old → AreKept old new → AreIn (n ∷ []) new → AreIn (numbers (n + 1) 0) new
all_more n old new are kept come =
    let last : 0 + n ≡ n = omega arith in
    let longer : numbers (n + 1) 0 ≡ numbers n 0 ++ n ∷ [] = ap (λ (m : ℕ). numbers m 0) (add-one n) ∙ (numbers_last n 0 ∙ ap (λ (k : ℕ). numbers n 0 ++ k ∷ []) last) in
    subst (λ (ls : List ℕ). AreIn ls new) (sym longer) (both_in (numbers n 0) (n ∷ []) new (still_in (numbers n 0) old new are kept) come)

pub list_more : (ls : List ℕ) (i k d : ℕ) (old new : BTreeSet ℕ) → i < length ls → k ≡ get_or ls i d → AreIn (take i ls) old → AreKept old new → AreIn (k ∷ []) new → AreIn (take (i + 1) ls) new
list_more ls i k d old new less is are kept come =
    let longer : take (i + 1) ls ≡ take i ls ++ k ∷ [] = take_more ls i d less ∙ ap (λ (l : ℕ). take i ls ++ l ∷ []) (sym is) in
    subst (λ (ks : List ℕ). AreIn ks new) (sym longer) (both_in (take i ls) (k ∷ []) new (still_in (take i ls) old new are kept) come)

pub list_all_in : (ls : List ℕ) (i : ℕ) (lines : BTreeSet ℕ) → length ls ≤ i → AreIn (take i ls) lines → AreIn ls lines
list_all_in ls i lines past are = subst (λ (ks : List ℕ). AreIn ks lines) (take_all i ls past) are

gt_true : (o : Ordering) → o ≡ Greater → is_gt o ≡ true
gt_true o e = ap is_gt e

-- what comes before the first of them isn't among them
pub first_is : (lines : BTreeSet ℕ) (k : ℕ) → ((q : ℕ) → contains nat_cmp lines q ≡ true → is_gt (nat_cmp k q) ≡ false) → (q : ℕ) → q < k → IsOut lines q
first_is lines k least q less = elim (cases_Bool (contains nat_cmp lines q)) [
  | inl on ↦ absurd (not_both (is_gt (nat_cmp k q)) (gt_true (nat_cmp k q) (nat_cmp-greater k q less)) (least q on))
  | inr off ↦ off
]

pub none_are : (lines : BTreeSet ℕ) → lines.keys ≡ [] → (q : ℕ) → IsOut lines q
none_are lines empty q = ap (λ (ks : List ℕ). list_any (λ k. is_eq (nat_cmp q k)) ks) empty

tied : (o : Ordering) → is_eq o ≡ true → o ≡ Equal
tied Less e = absurd (cc e)
tied Equal e = refl
tied Greater e = absurd (cc e)

removed_or : (b a : Bool) → cond b false a ≡ false → (b ≡ true) ⊎ (a ≡ false)
removed_or true a e = inl refl
removed_or false a e = inr e

-- where all lines may have something open, nothing is said
pub none_settled : (ps : List ThePlace) (n : ℕ) (lines : BTreeSet ℕ) → n ≡ length ps → AreIn (numbers n 0) lines → AreSettled ps lines
none_settled ps n lines all are = record {
  each = λ l less out. absurd (not_both (contains nat_cmp lines l) (are l (has_numbers n 0 l (omega arith) (omega (arith, all, less)))) out);
}

-- one line more of which nothing is open
pub settled_more : (ps : List ThePlace) (k : ℕ) (old new : BTreeSet ℕ) → AreSettled ps old → ((q : ℕ) → contains nat_cmp new q ≡ cond (is_eq (nat_cmp k q)) false (contains nat_cmp old q)) → IsSettled (length ps) (places_of ps) k → AreSettled ps new
settled_more ps k old new are updates shut = record {
  each = λ l less out. elim (removed_or (is_eq (nat_cmp k l)) (contains nat_cmp old l) (sym (updates l) ∙ out)) [
    | inl same ↦ subst (λ (n : ℕ). IsSettled (length ps) (places_of ps) n) (exact_unsigned k l (tied (nat_cmp k l) same)) shut
    | inr off ↦ are.each l less off
  ];
}

-- where more lines may have something open, less is said
pub settled_less : (ps : List ThePlace) (old new : BTreeSet ℕ) → AreSettled ps old → AreKept old new → AreSettled ps new
settled_less ps old new are kept = record { each = λ l less out. are.each l less (kept l out) }

-- one line has another place; the lines around what stood and what stands there are among those
-- that may have something open
pub still_settled : (ps : List ThePlace) (m : ℕ) (x s : ThePlace) (d : Option Value) (leaves texts : Lists) (old new : BTreeSet ℕ) → m < length ps → x ≡ get_or ps m x → places_of (set ps m s) ≡ with_decided (places_of ps) m d
    → AreKeyed Leaf (offers_in (places_of ps)) leaves → AreKeyed Whole (offers_in (places_of ps)) texts → AreSettled ps old → AreKept old new
    → AreIn (m ∷ (lines_around leaves texts (place_of x) ++ lines_around leaves texts (place_of s))) new → AreSettled (set ps m s) new
still_settled ps m x s d leaves texts old_lines new_lines less is done are_leaves are_told are kept come =
    let ss = places_of ps in
    let ts = places_of (set ps m s) in
    let old = lines_around leaves texts (place_of x) in
    let new = lines_around leaves texts (place_of s) in
    let set_long : length (set ps m s) ≡ length ps = length-set ps m s in
    let ss_long : length ss ≡ length ps = length-map ps place_of in
    let ts_long : length ts ≡ length (set ps m s) = length-map (set ps m s) place_of in
    let long : length ts ≡ length ss = ts_long ∙ (set_long ∙ sym ss_long) in
    let at_old : get_or ss m no_place ≡ place_of x = get_mapped place_of ps m x no_place less ∙ ap place_of (sym is) in
    let at_new : get_or ts m no_place ≡ place_of s = get_mapped place_of (set ps m s) m s no_place (omega (arith, less, set_long)) ∙ ap place_of (get_or-set_same ps m s s less) in
    let others : (k : ℕ) → k ≢ m → get_or ts k no_place ≡ get_or ss k no_place = λ k off. ap (λ (rs : List Place). get_or rs k no_place) done ∙ get_or-set_other ss m k _ no_place off in
    record {
      each = λ l below out.
          let apart : Has (m ∷ (old ++ new)) l → ⊥ = λ (h : Has (m ∷ (old ++ new)) l). not_both (contains nat_cmp new_lines l) (come l h) out in
          let within : l < length ss = omega (arith, below, set_long, ss_long) in
          let inside : l < length ps = omega (arith, below, set_long) in
          let before : (p : Package) → package_in (get_or ss l no_place) ≡ Some p → IsUnseen p (get_or ss m no_place) = λ p stands.
          unseen ss leaves texts l p (get_or ss m no_place) are_leaves are_told within stands (λ h. apart (inr (has-append_left old new l (subst (λ (t : Place). Has (lines_around leaves texts t) l) at_old h)))) in
          let after : (p : Package) → package_in (get_or ss l no_place) ≡ Some p → IsUnseen p (get_or ts m no_place) = λ p stands.
          unseen ss leaves texts l p (get_or ts m no_place) are_leaves are_told within stands (λ h. apart (inr (has-append_right old new l (subst (λ (t : Place). Has (lines_around leaves texts t) l) at_new h)))) in
          same_open ss ts m l long others (λ same. apart (inl (sym same))) before after (length (set ps m s))
          ∙ (ap (λ (n : ℕ). find (is_open_of ss) (obligations_of n l)) set_long ∙ are.each l inside (kept l out));
    }
