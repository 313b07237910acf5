-- The first text of a set that is below a path, and the first path with one below it.
use Rattle.std.proofs.Common.{◌≡◌, ◌∙◌, ℕ, Bool, true, false, None, List, [], ◌∷◌, ◌++◌, refl, ap, sym, subst, inl, inr}
use Rattle.std.specs.BTreeSet.{BTreeSet, IsKeyRangeOf, contains}
use Rattle.std.specs.Cmp.Lexicographic.{same_text, texts_ties}
use Rattle.std.specs.Ordering.{is_eq}
use Rattle.std.specs.declared.cmp.Ordering.TheVariants.{Equal}
use Rattle.std.specs.declared.ops.Bound.TheVariants.{Included, Unbounded}
use Rattle.std.proofs.lemmas.Bool.{true≢false}
use Rattle.std.proofs.lemmas.Cmp.{nat_list_cmp_total}
use Rattle.std.proofs.lemmas.Map.Views.{btree_set_contains_iff}
use Rattle.std.proofs.lemmas.Option.{MatchOption-at_none}
use Rattle.basics.specs.Members.{AreDistinct, Has}
use Rattle.basics.proofs.Membership.{contains-from_has, has-append_cases, has-append_right, has-from_contains}
use Rattle.basics.proofs.Texts.{less_one_way, not_less}
use Rattle.pms_names.specs.Flags.{IsRising, byte_order}
use Rattle.file_tree.specs.Paths.{is_below}
use Rattle.owner_book.specs.Near.{IsLast, IsNext}
use Rattle.owner_book.proofs.Order.{at_most_begins, begins_below, folder, none_below_last, none_below_next}
use Rattle.vdb_overlap.specs.Indexes.{IsSeen, PathIndexValue}
use Rattle.vdb_overlap.specs.Overlaps.{AreApart, IsFirst, IsOver, IsUnder, StandsTwice}
use Rattle.vdb_overlap.proofs.Sets.{behind_later, not_greater}

one_text : (x y : List ℕ) → byte_order x y ≡ Equal → x ≡ y
one_text x y e = same_text x y (sym (texts_ties x y ∙ ap is_eq e))

-- a set contains its keys
pub contained : (s : BTreeSet (List ℕ)) (q : List ℕ) → contains byte_order s q ≡ true → Has s.keys q
contained s q h = has-from_contains s.keys q ((btree_set_contains_iff nat_list_cmp_total one_text s q).0 h)

pub key_contained : (s : BTreeSet (List ℕ)) (q : List ℕ) → Has s.keys q → contains byte_order s q ≡ true
key_contained s q h = (btree_set_contains_iff nat_list_cmp_total one_text s q).1 (contains-from_has s.keys q h)

module _ (s : BTreeSet (List ℕ)) (start : List ℕ) (r : List (List ℕ)) (range : IsKeyRangeOf byte_order (Included start) Unbounded s r) where
  next_of : (k : List ℕ) (t : List (List ℕ)) → r ≡ k ∷ t → IsNext (contains byte_order s) start k
  next_of k t e =
      let h : IsKeyRangeOf byte_order (Included start) Unbounded s (k ∷ t) = subst (IsKeyRangeOf byte_order (Included start) Unbounded s) e range in
      record { there = h.1.1; from = h.1.0.0; least = λ q there from. h.2 q (from, tt) there }

  last_of : r ≡ [] → IsLast (contains byte_order s) start
  last_of e = record { none = λ q there from. true≢false (sym there ∙ range.5 e q (from, tt)) }

  module _ (p : List ℕ) (begins : start ≡ folder p) where
    next_from : (k : List ℕ) (t : List (List ℕ)) → r ≡ k ∷ t → IsNext (contains byte_order s) (folder p) k
    next_from k t e = subst (λ (x : List ℕ). IsNext (contains byte_order s) x k) begins (next_of k t e)

    -- what comes next is the first below the path, if it is below
    pub first_under : (k : List ℕ) (t : List (List ℕ)) → r ≡ k ∷ t → is_below p k ≡ true → IsFirst (IsUnder s.keys p) k
    first_under k t e below =
        let next = next_from k t e in
        record {
          is = record { listed = contained s k next.there; below = below };
          least = λ q less under. not_greater k q (next.least q (key_contained s q under.listed) (at_most_begins (folder p) q (begins_below p q under.below))) less;
        }

    -- if it isn't, nothing is
    pub none_under : (k : List ℕ) (t : List (List ℕ)) → r ≡ k ∷ t → is_below p k ≡ false → (q : List ℕ) → Has s.keys q → is_below p q ≡ false
    none_under k t e off q has = none_below_next (contains byte_order s) p k (next_from k t e) off q (key_contained s q has)

    pub none_left : r ≡ [] → (q : List ℕ) → Has s.keys q → is_below p q ≡ false
    none_left e q has = none_below_last (contains byte_order s) p (subst (IsLast (contains byte_order s)) begins (last_of e)) q (key_contained s q has)

module _ (ps : List (List ℕ)) (x : PathIndexValue) (seen : IsSeen ps x) where
  -- of the texts the first with one below it is that of the paths
  pub first_over : (front : List (List ℕ)) (q : List ℕ) (behind : List (List ℕ)) (low : List ℕ) → x.texts ≡ front ++ (q ∷ behind)
      → ((a b : List ℕ) → Has front a → Has x.texts b → is_below a b ≡ false) → IsFirst (IsUnder x.texts q) low → IsFirst (IsOver ps) q × IsFirst (IsUnder ps q) low
  first_over front q behind low is none first = (
    record {
      is = record { listed = (seen.members q).0 (subst (λ (l : List (List ℕ)). Has l q) (sym is) (has-append_right front (q ∷ behind) q (inl refl))); low = low; under = under low first.is };
      least = λ s less over. elim (has-append_cases front (q ∷ behind) s (subst (λ (l : List (List ℕ)). Has l s) is ((seen.members s).1 over.listed))) [
        | inl h ↦ true≢false (sym over.under.below ∙ none s over.low h ((seen.members over.low).1 over.under.listed))
        | inr (inl same) ↦ not_less s q (sym same) less
        | inr (inr later) ↦ less_one_way s q less (behind_later front q behind s (subst IsRising is seen.rising) later)
      ];
    },
    record {
      is = under low first.is;
      least = λ s less h. first.least s less (record { listed = (seen.members s).1 h.listed; below = h.below });
    },
  )
    where
      under : (b : List ℕ) → IsUnder x.texts q b → IsUnder ps q b
      under b h = record { listed = (seen.members b).0 h.listed; below = h.below }

  pub are_apart : AreDistinct ps → ((a b : List ℕ) → Has x.texts a → Has x.texts b → is_below a b ≡ false) → AreApart ps
  are_apart once none = record { once = once; flat = λ q s hq hs. none q s ((seen.members q).1 hq) ((seen.members s).1 hs) }

-- with the next text, none of those so far has one below it
pub none_over_more : (keys front : List (List ℕ)) (q : List ℕ) → ((a b : List ℕ) → Has front a → Has keys b → is_below a b ≡ false) → ((b : List ℕ) → Has keys b → is_below q b ≡ false)
    → (a b : List ℕ) → Has (front ++ q ∷ []) a → Has keys b → is_below a b ≡ false
none_over_more keys front q before here a b ha hb = elim (has-append_cases front (q ∷ []) a ha) [
  | inl h ↦ before a b h hb
  | inr (inl e) ↦ subst (λ (t : List ℕ). is_below t b ≡ false) e (here b hb)
  | inr (inr never) ↦ absurd never
]

pub same_below : (a b x y : List ℕ) (r v : Bool) → x ≡ a → y ≡ b → r ≡ is_below x y → r ≡ v → is_below a b ≡ v
same_below a b x y r v e f is has = ap (λ (t : List ℕ). is_below t b) (sym e) ∙ (ap (λ (t : List ℕ). is_below x t) (sym f) ∙ (sym is ∙ has))

-- where none is known to stand twice, none does
pub distinct_of : (ps : List (List ℕ)) (x : PathIndexValue) → IsSeen ps x → x.twice ≡ None → AreDistinct ps
distinct_of ps x seen e = MatchOption-at_none (AreDistinct ps) (IsFirst (StandsTwice ps)) e seen.twice
