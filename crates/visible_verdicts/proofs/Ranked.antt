-- The order of places is total, and on those of packages it is the order of packages.
use Rattle.std.proofs.Common.{◌≡◌, ◌∙◌, ◌+◌, ◌<◌, ◌≤◌, ℕ, Bool, true, false, cond, List, [], ◌∷◌, ◌++◌, Ordering, length, get_or, ap, arith, filter, refl, sym}
use Rattle.std.specs.Cmp.{IsTotalOrder}
use Rattle.std.specs.Cmp.Lexicographic.{slice_cmp}
use Rattle.std.specs.List.{AllByRecursion, IsDistinct}
use Rattle.std.specs.List.Sorted.{IsSorted, IsStrictlySortedBy}
use Rattle.std.specs.Ordering.{eq_by_cmp, is_eq, nat_cmp, ordering_then}
use Rattle.std.specs.declared.cmp.Ordering.TheVariants.{Equal, Greater, Less}
use Rattle.std.proofs.lemmas.Cmp.{nat_list_cmp_total, on_total, then_total}
use Rattle.std.proofs.lemmas.Map.Keys.{apart_from_distinct, sorted_from_all_adjacent}
use Rattle.std.proofs.lemmas.Map.Text.{is_eq-slice_cmp}
use Rattle.std.proofs.lemmas.Slice.Eq.{bytes_eq-Decides}
use Rattle.basics.proofs.Orderings.{less_if}
use Rattle.pms_grammar.specs.Grammar.{IsVersion, VersionValue, spelling}
use Rattle.pms_version.specs.Keys.{key_cmp}
use Rattle.pms_version.specs.Order.{version_cmp}
use Rattle.dep_atom.specs.Ids.{id_text, version_rank}
use Rattle.dep_atom.specs.Text.{name_text}
use Rattle.dep_atom.proofs.Ranked.{rank_total}
use Rattle.visible_verdicts.specs.Candidates.{cache_path, id_cmp}
use Rattle.visible_verdicts.specs.Places.{IsPlace, ids_of, place_cmp}
use Rattle.visible_verdicts.specs.declared.place.Place.{Place}
use Rattle.visible_verdicts.proofs.Named.{id_text-parts, path_is}

pub place_total : IsTotalOrder key_cmp → IsTotalOrder place_cmp
place_total total =
    then_total (on_total (λ (p : Place). p.name) nat_list_cmp_total)
    (on_total (λ (p : Place). p.id) (rank_total total))

both_eq : (o s : Ordering) → is_eq (ordering_then o s) ≡ true → (is_eq o ≡ true) × (is_eq s ≡ true)
both_eq Less s h = absurd (cc h)
both_eq Equal s h = (refl, h)
both_eq Greater s h = absurd (cc h)

same_text : (a b : List ℕ) → is_eq (slice_cmp nat_cmp a b) ≡ true → a ≡ b
same_text a b h = (bytes_eq-Decides a b).0 (sym (is_eq-slice_cmp a b) ∙ h)

-- places of one rank are those of one path
pub same_place : (p q : Place) → IsPlace p → IsPlace q → eq_by_cmp place_cmp p q ≡ true → cache_path p.id ≡ cache_path q.id
same_place p q is js h =
    let first = both_eq (slice_cmp nat_cmp p.name q.name) (version_rank p.id q.id) h in
    let second = both_eq (key_cmp q.id.version p.id.version) (slice_cmp nat_cmp (spelling p.id.version) (spelling q.id.version)) first.1 in
    let names = sym is.name ∙ (same_text p.name q.name first.0 ∙ js.name) in
    let texts = same_text (spelling p.id.version) (spelling q.id.version) second.1 in
    let same : id_text p.id ≡ id_text q.id =
    id_text-parts p.id ∙ (ap (λ (n : List ℕ). n ++ (45 ∷ spelling p.id.version)) names
    ∙ (ap (λ (v : List ℕ). name_text q.id.name ++ (45 ∷ v)) texts ∙ sym (id_text-parts q.id))) in
    sym (path_is p.id (id_text q.id) (sym same)) ∙ path_is q.id (id_text q.id) (λ i. id_text q.id)

next_less : {A : Type 0} (R : A → A → Ordering) (xs : List A) (d : A) → IsTotalOrder R → IsSorted R xs → IsDistinct (eq_by_cmp R) xs → (k : ℕ) → k + 1 < length xs → R (get_or xs k d) (get_or xs (k + 1) d) ≡ Less
next_less R xs d total sorted apart k h =
    let from : 0 ≤ k = omega arith in
    let lt : k < k + 1 = omega arith in
    less_if (R (get_or xs k d) (get_or xs (k + 1) d)) (R (get_or xs (k + 1) d) (get_or xs k d)) (total.antisymm (get_or xs k d) (get_or xs (k + 1) d)) (sorted k d from h) (apart_from_distinct (eq_by_cmp R) xs k (k + 1) d apart lt h)

-- what is sorted and holds nothing twice rises strictly
pub strictly : {A : Type 0} (R : A → A → Ordering) (xs : List A) → IsTotalOrder R → IsSorted R xs → IsDistinct (eq_by_cmp R) xs → IsStrictlySortedBy R xs
unfolding IsStrictlySortedBy
strictly R [] total sorted apart = tt
strictly R (x ∷ xs) total sorted apart = sorted_from_all_adjacent total (x ∷ xs) x (next_less R (x ∷ xs) x total sorted apart)

-- versions are ordered as their keys are
abbrev pub Keyed : Type 0
Keyed = (a b : VersionValue) → IsVersion a → IsVersion b → version_cmp a b ≡ key_cmp a b

one_less : (p q : Place) → Keyed → IsPlace p → IsPlace q → place_cmp p q ≡ id_cmp p.id q.id
one_less p q keyed is js =
    let texts = slice_cmp nat_cmp (spelling p.id.version) (spelling q.id.version) in
    ap (λ (n : List ℕ). ordering_then (slice_cmp nat_cmp n q.name) (version_rank p.id q.id)) is.name
    ∙ (ap (λ (n : List ℕ). ordering_then (slice_cmp nat_cmp (name_text p.id.name) n) (version_rank p.id q.id)) js.name
    ∙ ap (λ (o : Ordering). ordering_then (slice_cmp nat_cmp (name_text p.id.name) (name_text q.id.name)) (ordering_then o texts)) (sym (keyed q.id.version p.id.version js.is.version.version is.is.version.version)))

all_less : (p : Place) (qs : List Place) → Keyed → IsPlace p → AllByRecursion IsPlace qs → AllByRecursion (λ q. place_cmp p q ≡ Less) qs → AllByRecursion (λ j. id_cmp p.id j ≡ Less) (ids_of qs)
all_less p [] keyed is all h = tt
all_less p (q ∷ qs) keyed is all h = (sym (one_less p q keyed is all.0) ∙ h.0, all_less p qs keyed is all.1 h.1)

-- the packages of places rise as these do
pub ids_rise : (ps : List Place) → Keyed → AllByRecursion IsPlace ps → IsStrictlySortedBy place_cmp ps → IsStrictlySortedBy id_cmp (ids_of ps)
unfolding IsStrictlySortedBy
ids_rise [] keyed all h = tt
ids_rise (p ∷ ps) keyed all h = (all_less p ps keyed all.0 all.1 h.0, ids_rise ps keyed all.1 h.1)

cond_all : {A : Type 0} (P : A → Type 0) (b : Bool) (x : A) (xs : List A) → P x → AllByRecursion P xs → AllByRecursion P (cond b (x ∷ xs) xs)
cond_all P true x xs one all = (one, all)
cond_all P false x xs one all = all

all-filter : {A : Type 0} (P : A → Type 0) (test : A → Bool) (xs : List A) → AllByRecursion P xs → AllByRecursion P (filter test xs)
all-filter P test [] h = tt
all-filter P test (x ∷ xs) h = cond_all P (test x) x (filter test xs) h.0 (all-filter P test xs h.1)

cond_rises : {A : Type 0} (R : A → A → Ordering) (b : Bool) (x : A) (xs : List A) → AllByRecursion (λ y. R x y ≡ Less) xs → IsStrictlySortedBy R xs → IsStrictlySortedBy R (cond b (x ∷ xs) xs)
unfolding IsStrictlySortedBy
cond_rises R true x xs less up = (less, up)
cond_rises R false x xs less up = up

-- and so do some of them
pub some_rise : {A : Type 0} (R : A → A → Ordering) (test : A → Bool) (xs : List A) → IsStrictlySortedBy R xs → IsStrictlySortedBy R (filter test xs)
unfolding IsStrictlySortedBy
some_rise R test [] h = tt
some_rise R test (x ∷ xs) h = cond_rises R (test x) x (filter test xs) (all-filter (λ y. R x y ≡ Less) test xs h.0) (some_rise R test xs h.1)
