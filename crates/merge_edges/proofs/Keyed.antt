-- What is looked up by names and texts is what is found among all lines.
use Rattle.std.proofs.Common.{◌≡◌, ◌⊎◌, ◌≤◌, ◌∙◌, ◌&&◌, ◌++◌, ℕ, Bool, true, false, cond, List, [], ◌∷◌, Option, None, Some, drop, filter, inl, inr, length, refl, ap, subst, sym}
use Rattle.std.specs.Prelude.{bytes_eq, get_or}
use Rattle.std.specs.List.{list_any}
use Rattle.std.proofs.lemmas.Bool.{and_parts, cases_Bool}
use Rattle.std.proofs.lemmas.List.{append-nil, length-map}
use Rattle.dep_atom.specs.Ids.{id_text}
use Rattle.dep_atom.specs.Match.{value_matches}
use Rattle.dep_atom.specs.Values.{AtomValue}
use Rattle.dep_tree.specs.Truth.{some_match}
use Rattle.pkg_state.specs.Consistent.{facts_of}
use Rattle.pkg_state.specs.Package.{Package}
use Rattle.pkg_state.proofs.Named.{same_package}
use Rattle.choice_law.specs.Universe.{no_offer}
use Rattle.choice_tree.specs.Keys.{AreKeyed, Lists, has_key, lines_at, offers_in, offers_key}
use Rattle.choice_tree.specs.Places.{Place, is_one, numbers, package_in, packages_in}
use Rattle.choice_tree.specs.declared.key.Key.{Key}
use Rattle.choice_tree.specs.declared.key.Key.TheVariants.{Own, Whole}
use Rattle.choice_tree.proofs.Under.{match_keyed, stands_offered}
use Rattle.plan_lives.proofs.Steps.{drop_end}
use Rattle.merge_edges.specs.Found.{Stander, best_among, best_in, hit_lines, is_hit, matched_at, matched_here, place_at, told_lines, with_one}
use Rattle.merge_edges.proofs.Best.{matched_is}

-- what is gathered along a list is all of it, once nothing is left
pub gathered : {A B : Type 0} (f : List A → List B) → f [] ≡ [] → (xs : List A) (i : ℕ) (ys all : List B) → length xs ≤ i → ys ++ f (drop i xs) ≡ f xs → f xs ≡ all → ys ≡ all
gathered {B = B} f none xs i ys all past so is =
    sym (append-nil ys) ∙ (ap (λ (zs : List B). ys ++ zs) (sym (ap f (drop_end xs i past) ∙ none)) ∙ (so ∙ is))

fails : {A : Type 0} (test keep : A → Bool) (x : A) → (test x ≡ true → keep x ≡ true) → keep x ≡ false → test x ≡ false
fails test keep x each off = elim (cases_Bool (test x)) [
  | inl y ↦ absurd (let bad : true ≡ false = sym (each y) ∙ off in cc bad)
  | inr n ↦ n
]

-- of those that are kept the same pass, where only such pass
pub filter_kept : {A : Type 0} (test keep : A → Bool) → ((x : A) → test x ≡ true → keep x ≡ true) → (xs : List A) → filter test (filter keep xs) ≡ filter test xs
filter_kept test keep each [] = refl
filter_kept {A} test keep each (x ∷ xs) = elim (cases_Bool (keep x)) [
  | inl y ↦ ap (λ (b : Bool). filter test (cond b (x ∷ filter keep xs) (filter keep xs))) y
      ∙ ap (λ (ys : List A). cond (test x) (x ∷ ys) ys) (filter_kept test keep each xs)
  | inr n ↦ ap (λ (b : Bool). filter test (cond b (x ∷ filter keep xs) (filter keep xs))) n
      ∙ (filter_kept test keep each xs ∙ sym (ap (λ (b : Bool). cond b (x ∷ filter test xs) (filter test xs)) (fails test keep x (each x) n)))
]

abbrev offers : Key → List ℕ → List Place → ℕ → Bool
offers key text ss l = offers_key key text (get_or (offers_in ss) l no_offer)

module _ (key : Key) (text : List ℕ) (ss : List Place) (lists : Lists) (are : AreKeyed key (offers_in ss) lists) where
  long : length (offers_in ss) ≡ length ss
  long = length-map ss (λ (s : Place). s.offer)

  keyed_are : lines_at lists text ≡ filter (offers key text ss) (numbers (length ss) 0)
  keyed_are = are text ∙ ap (λ (n : ℕ). filter (offers key text ss) (numbers n 0)) long

  -- where only lines that offer it pass, a look at these is enough
  filter_keyed : (test : ℕ → Bool) → ((l : ℕ) → test l ≡ true → offers key text ss l ≡ true) → filter test (lines_at lists text) ≡ filter test (numbers (length ss) 0)
  filter_keyed test each = ap (filter test) keyed_are ∙ filter_kept test (offers key text ss) each (numbers (length ss) 0)

module _ (ss : List Place) (a : AtomValue) (asker : List (List ℕ)) where
  named : (o : Option Package) → is_one (λ p. value_matches a p.facts asker) o ≡ true → is_one (has_key Own a.name.«package») o ≡ true
  named None e = absurd (cc e)
  named (Some p) e = same_package a p.facts asker e

  hit_offered : (l : ℕ) → is_hit ss asker a l ≡ true → offers Own a.name.«package» ss l ≡ true
  hit_offered l e = stands_offered (has_key Own a.name.«package») ss l (named (package_in (place_at ss l)) e)

  matched_hits : (l : ℕ) (x : Stander) → matched_at ss a asker l ≡ Some x → is_hit ss asker a l ≡ true
  matched_hits l x is =
      let m = matched_is ss a asker l x is in
      ap (is_one (λ (p : Package). value_matches a p.facts asker)) m.stands ∙ m.matched

  not_matched : (l : ℕ) → offers Own a.name.«package» ss l ≡ false → matched_at ss a asker l ≡ None
  not_matched l off = by_case (matched_at ss a asker l) refl where
    by_case : (o : Option Stander) → matched_at ss a asker l ≡ o → matched_at ss a asker l ≡ None
    by_case None is = is
    by_case (Some x) is = absurd (let bad : true ≡ false = sym (hit_offered l (matched_hits l x is)) ∙ off in cc bad)

  best_kept : (ls : List ℕ) (best : Option Stander) → best_among ss a asker best (filter (offers Own a.name.«package» ss) ls) ≡ best_among ss a asker best ls
  best_kept [] best = refl
  best_kept (l ∷ ls) best =
      let keep = offers Own a.name.«package» ss in
      elim (cases_Bool (keep l)) [
        | inl y ↦ ap (λ (b : Bool). best_among ss a asker best (cond b (l ∷ filter keep ls) (filter keep ls))) y
            ∙ best_kept ls (with_one best (matched_at ss a asker l))
        | inr n ↦ ap (λ (b : Bool). best_among ss a asker best (cond b (l ∷ filter keep ls) (filter keep ls))) n
            ∙ (best_kept ls best ∙ sym (ap (λ (o : Option Stander). best_among ss a asker (with_one best o) ls) (not_matched l n)))
      ]

  module _ (lists : Lists) (name ls : List ℕ) (are : AreKeyed Own (offers_in ss) lists) (is : name ≡ a.name.«package») (those : ls ≡ lines_at lists name) where
    under : ls ≡ lines_at lists a.name.«package»
    under = those ∙ ap (lines_at lists) is

    pub best_under : best_among ss a asker None ls ≡ best_in ss a asker
    best_under =
        ap (best_among ss a asker None) (under ∙ keyed_are Own a.name.«package» ss lists are)
        ∙ best_kept (numbers (length ss) 0) None

    pub hit_under : filter (is_hit ss asker a) ls ≡ hit_lines ss asker a
    hit_under =
        ap (filter (is_hit ss asker a)) under
        ∙ filter_keyed Own a.name.«package» ss lists are (is_hit ss asker a) hit_offered

    pub both_under : (test : ℕ → Bool) → filter (λ l. test l && is_hit ss asker a l) ls ≡ filter (λ l. test l && is_hit ss asker a l) (numbers (length ss) 0)
    both_under test =
        ap (filter (λ (l : ℕ). test l && is_hit ss asker a l)) under
        ∙ filter_keyed Own a.name.«package» ss lists are (λ (l : ℕ). test l && is_hit ss asker a l) (λ l e. hit_offered l (and_parts (test l) (is_hit ss asker a l) e).1)

-- the same of the lines that are looked up by the texts of their packages
pub told_under : (ss : List Place) (lists : Lists) (text ls : List ℕ) → AreKeyed Whole (offers_in ss) lists → ls ≡ lines_at lists text → filter (λ l. is_one (λ q. bytes_eq text (id_text q.facts.id)) (package_in (place_at ss l))) ls ≡ told_lines ss text
told_under ss lists text ls are those =
    let test : ℕ → Bool = λ (l : ℕ). is_one (λ q. bytes_eq text (id_text q.facts.id)) (package_in (place_at ss l)) in
    ap (filter test) those ∙ filter_keyed Whole text ss lists are test (λ l e. stands_offered (has_key Whole text) ss l e)
