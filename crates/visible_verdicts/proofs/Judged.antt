-- The verdicts on packages, one after the other, and on all candidates.
use Rattle.std.proofs.Common.{◌≡◌, ◌∙◌, ◌↔◌, ◌+◌, ◌<◌, ℕ, Bool, true, false, cond, List, [], ◌∷◌, ◌++◌, MatchOption, Option, None, Some, length, take, get_or, ap, filter, refl, subst, sym}
use Rattle.std.specs.Prelude.{Contains, IsSome, is_some}
use Rattle.std.specs.Cmp.{IsTotalOrder}
use Rattle.std.specs.List.{AllByRecursion, filter_map}
use Rattle.std.specs.List.Sorted.{IsPermutation, IsSorted, IsStrictlySortedBy}
use Rattle.std.specs.Option.{option_to_list}
use Rattle.std.specs.Ordering.{eq_by_cmp}
use Rattle.std.proofs.lemmas.Cmp.{eq_by_cmp_equiv}
use Rattle.std.proofs.lemmas.List.{append-nil, map-append, take_more}
use Rattle.std.proofs.lemmas.List.Elements.{filter-append, filter_map-append}
use Rattle.std.proofs.lemmas.List.Sorted.{IsPermutation-sym}
use Rattle.std.proofs.lemmas.Map.Keys.{IsDistinct-IsPermutation}
use Rattle.basics.specs.Members.{Has}
use Rattle.basics.proofs.Each.{all-push, all_by_has}
use Rattle.basics.proofs.Membership.{has-filter, has-from_contains, has-map, has-map_back}
use Rattle.basics.proofs.Permutations.{has-moved}
use Rattle.pms_version.specs.Keys.{key_cmp}
use Rattle.dep_atom.specs.Ids.{IsId}
use Rattle.dep_atom.specs.declared.package.PackageId.{PackageId}
use Rattle.file_tree.specs.Disk.{Map}
use Rattle.file_tree.specs.Paths.{is_below}
use Rattle.file_tree.specs.ObjectValue.{ObjectValue}
use Rattle.md5_cache.specs.Entries.{CacheEntryValue}
use Rattle.visible_verdicts.specs.Candidates.{AreCandidates, IsJudged, IsVerdict, bytes_of, cache_folder, cache_path, ebuild_text, entry_text, hidden_of, id_cmp, id_of, visible_of}
use Rattle.visible_verdicts.specs.Places.{AreJudged, ArePlaces, IsPlace, IsVerdictOn, has_entry, ids_of, place_cmp}
use Rattle.visible_verdicts.specs.declared.place.Place.{Place}
use Rattle.visible_verdicts.specs.declared.rules.VisibleRules.{VisibleRules}
use Rattle.visible_verdicts.specs.declared.verdict.Hidden.{Hidden}
use Rattle.visible_verdicts.specs.declared.verdict.Verdict.{Verdict}
use Rattle.visible_verdicts.proofs.Named.{in_cache}
use Rattle.visible_verdicts.proofs.Ranked.{Keyed, ids_rise, place_total, some_rise, strictly}

-- what is told of a package with this entry and ebuild is the verdict on it
pub verdict_at : (m : Map) (rules : VisibleRules) (id own : PackageId) (v : Verdict) (bytes text : List ℕ) (ebuild : Option (List ℕ)) → IsId id → own ≡ id → id_of v ≡ own
    → entry_text m id ≡ Some text → bytes ≡ text → ebuild ≡ ebuild_text m id → IsJudged rules own bytes ebuild v → IsVerdictOn m rules id v
verdict_at m rules id own v bytes text ebuild is same of there read built judged =
    let named : id_of v ≡ id = of ∙ same in
    let first = subst (λ (i : PackageId). IsJudged rules i bytes ebuild v) (sym of) judged in
    record {
      named = named;
      is = record {
        is = subst IsId (sym named) is;
        bytes = bytes;
        there = ap (entry_text m) named ∙ (there ∙ ap Some (sym read));
        judged = subst (λ (x : Option (List ℕ)). IsJudged rules (id_of v) bytes x v) (built ∙ ap (ebuild_text m) (sym named)) first;
      };
    }

pub none_judged : (m : Map) (rules : VisibleRules) → AreJudged m rules [] [] []
none_judged m rules = record { verdicts = []; each = tt; those = refl; visible_are = refl; hidden_are = refl }

one_kept : (m : Map) (ids : List PackageId) (id : PackageId) (b : Bool) → has_entry m id ≡ b → filter (has_entry m) (ids ++ id ∷ []) ≡ filter (has_entry m) ids ++ cond b (id ∷ []) []
one_kept m ids id b e = filter-append (has_entry m) ids (id ∷ []) ∙ ap (λ (c : Bool). filter (has_entry m) ids ++ cond c (id ∷ []) []) e

one_judged : (m : Map) (rules : VisibleRules) (ids : List PackageId) (id : PackageId) (visible : List CacheEntryValue) (hidden : List Hidden) (o : Option Verdict) → MatchOption o (entry_text m id ≡ None) (IsVerdictOn m rules id)
    → AreJudged m rules ids visible hidden → AreJudged m rules (ids ++ id ∷ []) (visible ++ filter_map visible_of (option_to_list o)) (hidden ++ filter_map hidden_of (option_to_list o))
one_judged m rules ids id visible hidden None none are = record {
  verdicts = are.verdicts;
  each = are.each;
  those = are.those ∙ sym (one_kept m ids id false (ap is_some none) ∙ append-nil (filter (has_entry m) ids));
  visible_are = append-nil visible ∙ are.visible_are;
  hidden_are = append-nil hidden ∙ are.hidden_are;
}
one_judged m rules ids id visible hidden (Some v) on are =
    let there : has_entry m id ≡ true = ap (has_entry m) (sym on.named) ∙ ap is_some on.is.there in
    record {
      verdicts = are.verdicts ++ v ∷ [];
      each = all-push (IsVerdict m rules) are.verdicts v are.each on.is;
      those =
          map-append id_of are.verdicts (v ∷ [])
          ∙ (ap (λ (l : List PackageId). l ++ id_of v ∷ []) are.those
          ∙ (ap (λ (i : PackageId). filter (has_entry m) ids ++ i ∷ []) on.named ∙ sym (one_kept m ids id true there)));
      visible_are = ap (λ (l : List CacheEntryValue). l ++ filter_map visible_of (v ∷ [])) are.visible_are ∙ sym (filter_map-append visible_of are.verdicts (v ∷ []));
      hidden_are = ap (λ (l : List Hidden). l ++ filter_map hidden_of (v ∷ [])) are.hidden_are ∙ sym (filter_map-append hidden_of are.verdicts (v ∷ []));
    }

-- one place more
pub next_judged : (m n : Map) (rules : VisibleRules) (places : List Place) (i : ℕ) (p : Place) (visible more_visible : List CacheEntryValue) (hidden more_hidden : List Hidden) (o : Option Verdict) → i < length places → p ≡ get_or places i p → n ≡ m
    → MatchOption o (entry_text n p.id ≡ None) (IsVerdictOn n rules p.id) → more_visible ≡ visible ++ filter_map visible_of (option_to_list o) → more_hidden ≡ hidden ++ filter_map hidden_of (option_to_list o)
    → AreJudged m rules (ids_of (take i places)) visible hidden → AreJudged m rules (ids_of (take (i + 1) places)) more_visible more_hidden
next_judged m n rules places i p visible more_visible hidden more_hidden o lt is same on seen unseen are =
    let longer : ids_of (take (i + 1) places) ≡ ids_of (take i places) ++ p.id ∷ [] =
    ap ids_of (take_more places i p lt ∙ ap (λ (y : Place). take i places ++ y ∷ []) (sym is)) ∙ map-append (λ (x : Place). x.id) (take i places) (p ∷ []) in
    let here = subst (λ (x : Map). MatchOption o (entry_text x p.id ≡ None) (IsVerdictOn x rules p.id)) same on in
    let next = one_judged m rules (ids_of (take i places)) p.id visible hidden o here are in
    subst (λ (ids : List PackageId). AreJudged m rules ids more_visible more_hidden) (sym longer)
    (subst (λ (vs : List CacheEntryValue). AreJudged m rules (ids_of (take i places) ++ p.id ∷ []) vs more_hidden) (sym seen)
    (subst (AreJudged m rules (ids_of (take i places) ++ p.id ∷ []) (visible ++ filter_map visible_of (option_to_list o))) (sym unseen) next))

-- places in order are still places
pub all_places : (paths : List (List ℕ)) (found places : List Place) → ArePlaces paths found → IsPermutation found places → AllByRecursion IsPlace places
all_places paths found places are moved = all_by_has IsPlace places (λ p has. (are.each p (has-moved places found p (IsPermutation-sym found places moved) has)).0)

something : (x : Option ObjectValue) → IsSome (bytes_of x) → IsSome x
something None is = absurd (cc is)
something (Some x) is = refl

-- the verdicts on the packages of all entries, in their order, are those on all candidates
pub are_candidates : (m : Map) (rules : VisibleRules) (listed : List (List ℕ)) (found places : List Place) (visible : List CacheEntryValue) (hidden : List Hidden) → IsTotalOrder key_cmp → Keyed
    → ((q : List ℕ) → Contains listed q ↔ ((is_below cache_folder q ≡ true) × IsSome (m q))) → ArePlaces listed found → IsPermutation found places → IsSorted place_cmp places
    → AreJudged m rules (ids_of places) visible hidden → AreCandidates m rules visible hidden
are_candidates m rules listed found places visible hidden total keyed all are moved up judged = record {
  verdicts = judged.verdicts;
  each = judged.each;
  all = λ id candidate.
      let listed_here = has-from_contains listed (cache_path id) ((all (cache_path id)).1 (in_cache id, something (m (cache_path id)) candidate.there)) in
      let back = has-map_back (λ (p : Place). p.id) found id (are.found id candidate.is listed_here) in
      let here = subst (Has (ids_of places)) back.2 (has-map (λ (p : Place). p.id) places back.0 (has-moved found places back.0 moved back.1)) in
      subst (λ (ids : List PackageId). Has ids id) (sym judged.those) (has-filter (has_entry m) (ids_of places) id here candidate.there);
  ordered =
      let rising = strictly place_cmp places (place_total total) up (IsDistinct-IsPermutation (eq_by_cmp place_cmp) (eq_by_cmp_equiv (place_total total)).symm found places moved are.once) in
      subst (IsStrictlySortedBy id_cmp) (sym judged.those) (some_rise id_cmp (has_entry m) (ids_of places) (ids_rise places keyed (all_places listed found places are moved) rising));
  visible_are = judged.visible_are;
  hidden_are = judged.hidden_are;
}
