-- The places of the paths, path by path.
use Rattle.std.proofs.Common.{◌≡◌, ◌∙◌, ◌+◌, ◌<◌, ℕ, false, List, [], ◌∷◌, ◌++◌, MatchOption, Option, None, Some, length, take, get_or, ap, arith, inl, inr, subst, sym}
use Rattle.std.specs.Cmp.{IsTotalOrder}
use Rattle.std.specs.Cmp.Lexicographic.{slice_cmp}
use Rattle.std.specs.List.{IsDistinct}
use Rattle.std.specs.List.Sorted.{IsStrictlySortedBy}
use Rattle.std.specs.Option.{option_to_list}
use Rattle.std.specs.Ordering.{eq_by_cmp, nat_cmp}
use Rattle.std.proofs.lemmas.Bool.{cases_Bool}
use Rattle.std.proofs.lemmas.Cmp.{eq_by_cmp_equiv, nat_list_cmp_total, tied_itself}
use Rattle.std.proofs.lemmas.List.{append-nil, get_or-take, length-take, map-append, take_more}
use Rattle.std.proofs.lemmas.Map.Keys.{IsDistinct-push, Less-from_sorted}
use Rattle.basics.specs.Members.{Has}
use Rattle.basics.proofs.Membership.{contains-from_has, has-append_cases, has-append_left, has-append_right}
use Rattle.pms_version.specs.Keys.{key_cmp}
use Rattle.dep_atom.specs.declared.package.PackageId.{PackageId}
use Rattle.pkg_state.proofs.Lists.{any_none}
use Rattle.visible_verdicts.specs.Candidates.{cache_path}
use Rattle.visible_verdicts.specs.Places.{ArePlaces, IsNoPlace, IsPlace, IsPlaceAt, ids_of, place_cmp}
use Rattle.visible_verdicts.specs.declared.place.Place.{Place}
use Rattle.visible_verdicts.proofs.Ranked.{place_total, same_place}

pub no_places : ArePlaces [] []
unfolding IsDistinct
no_places = record { each = λ p has. absurd has; found = λ id is has. absurd has; once = tt }

passed_over : (paths : List (List ℕ)) (path : List ℕ) (places : List Place) → IsNoPlace path → ArePlaces paths places → ArePlaces (paths ++ path ∷ []) places
passed_over paths path places none are = record {
  each = λ p has. ((are.each p has).0, has-append_left paths (path ∷ []) (cache_path p.id) (are.each p has).1);
  found = λ id is has. elim (has-append_cases paths (path ∷ []) (cache_path id) has) [
    | inl old ↦ are.found id is old
    | inr new ↦ elim new [ inl e ↦ absurd (none id is e) | inr never ↦ absurd never ]
  ];
  once = are.once;
}

none_alike : (paths : List (List ℕ)) (path : List ℕ) (places : List Place) (p : Place) → ¬ Has paths path → IsPlaceAt path p → ArePlaces paths places → (q : Place) → Has places q → eq_by_cmp place_cmp p q ≡ false
none_alike paths path places p new is are q has = elim (cases_Bool (eq_by_cmp place_cmp p q)) [
  | inl alike ↦ absurd (new (subst (Has paths) (sym (same_place p q is.place (are.each q has).0 alike) ∙ sym is.at_path) (are.each q has).1))
  | inr apart ↦ apart
]

added : (paths : List (List ℕ)) (path : List ℕ) (places : List Place) (p : Place) → IsTotalOrder key_cmp → ¬ Has paths path → IsPlaceAt path p → ArePlaces paths places → ArePlaces (paths ++ path ∷ []) (places ++ p ∷ [])
added paths path places p total new is are = record {
  each = λ q has. elim (has-append_cases places (p ∷ []) q has) [
    | inl old ↦ ((are.each q old).0, has-append_left paths (path ∷ []) (cache_path q.id) (are.each q old).1)
    | inr last ↦ elim last [
      | inl e ↦ subst (λ (x : Place). IsPlace x × Has (paths ++ path ∷ []) (cache_path x.id)) e (is.place, has-append_right paths (path ∷ []) (cache_path p.id) (inl is.at_path))
      | inr never ↦ absurd never
    ]
  ];
  found = λ id js has. subst (λ (ids : List PackageId). Has ids id) (sym (map-append (λ (x : Place). x.id) places (p ∷ []))) (
      elim (has-append_cases paths (path ∷ []) (cache_path id) has) [
        | inl old ↦ has-append_left (ids_of places) (p.id ∷ []) id (are.found id js old)
        | inr last ↦ elim last [
          | inl e ↦ has-append_right (ids_of places) (p.id ∷ []) id (inl (sym (is.only id js e)))
          | inr never ↦ absurd never
        ]
      ]
      );
  once = IsDistinct-push (eq_by_cmp_equiv (place_total total)) places p are.once (any_none (eq_by_cmp place_cmp p) places (none_alike paths path places p new is are));
}

one_more : (paths : List (List ℕ)) (path : List ℕ) (places : List Place) (o : Option Place) → IsTotalOrder key_cmp → ¬ Has paths path → MatchOption o (IsNoPlace path) (IsPlaceAt path) → ArePlaces paths places → ArePlaces (paths ++ path ∷ []) (places ++ option_to_list o)
one_more paths path places None total new is are = subst (ArePlaces (paths ++ path ∷ [])) (sym (append-nil places)) (passed_over paths path places is are)
one_more paths path places (Some p) total new is are = added paths path places p total new is are

-- in a list that rises, an element doesn't stand before its place
not_before : (xs : List (List ℕ)) (i : ℕ) (x : List ℕ) → IsStrictlySortedBy (slice_cmp nat_cmp) xs → i < length xs → x ≡ get_or xs i x → ¬ Has (take i xs) x
not_before xs i x up lt is has =
    let at = contains-from_has (take i xs) x has in
    let below : at.0 < i = omega (arith, length-take i xs, at.1) in
    let there = sym (get_or-take i xs at.0 x below) ∙ at.2 in
    let less = Less-from_sorted (slice_cmp nat_cmp) xs at.0 i x up below lt in
    let itself = tied_itself nat_list_cmp_total x in
    let same = ap (λ (a : List ℕ). slice_cmp nat_cmp a (get_or xs i x)) there ∙ ap (slice_cmp nat_cmp x) (sym is) in
    cc

-- one path more
pub next_place : (paths : List (List ℕ)) (i : ℕ) (path : List ℕ) (places new : List Place) (o : Option Place) → IsTotalOrder key_cmp → IsStrictlySortedBy (slice_cmp nat_cmp) paths → i < length paths → path ≡ get_or paths i path
    → MatchOption o (IsNoPlace path) (IsPlaceAt path) → new ≡ places ++ option_to_list o → ArePlaces (take i paths) places → ArePlaces (take (i + 1) paths) new
next_place paths i path places new o total up lt is at pushed are =
    let longer : take (i + 1) paths ≡ take i paths ++ path ∷ [] = take_more paths i path lt ∙ ap (λ (y : List ℕ). take i paths ++ y ∷ []) (sym is) in
    subst (λ (ps : List (List ℕ)). ArePlaces ps new) (sym longer)
    (subst (ArePlaces (take i paths ++ path ∷ [])) (sym pushed) (one_more (take i paths) path places o total (not_before paths i path up lt is) at are))
