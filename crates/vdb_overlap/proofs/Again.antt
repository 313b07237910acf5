-- What the index knows once one more path is added.
use Rattle.std.proofs.Common.{◌≡◌, ◌⊎◌, ◌∙◌, ℕ, true, List, [], ◌∷◌, ◌++◌, Option, Some, None, MatchOption, refl, sym, subst, inl, inr}
use Rattle.std.specs.BTreeSet.{insert_key}
use Rattle.std.specs.declared.cmp.Ordering.TheVariants.{Less}
use Rattle.basics.specs.Members.{AreDistinct, Has}
use Rattle.basics.proofs.Membership.{has-append_cases, has-append_left, has-append_right}
use Rattle.basics.proofs.Texts.{not_less}
use Rattle.pms_names.specs.Flags.{IsRising, byte_order}
use Rattle.file_tree.specs.Paths.{is_path}
use Rattle.vdb_overlap.specs.Indexes.{ArePaths, IsLesser, IsSeen, PathIndexValue}
use Rattle.vdb_overlap.specs.Overlaps.{IsFirst, StandsTwice}
use Rattle.vdb_overlap.proofs.Sets.{is_there, less_further, was_there}

-- of distinct paths none stands twice
pub none_twice : (ps : List (List ℕ)) (s : List ℕ) → AreDistinct ps → StandsTwice ps s → ⊥
none_twice [] s d h = h
none_twice (p ∷ ps) s d (inl e) = d.0 (subst (λ (x : List ℕ). Has ps x) (sym e.0) e.1)
none_twice (p ∷ ps) s d (inr h) = none_twice ps s d.1 h

module _ (p : List ℕ) where
  distinct_more : (ps : List (List ℕ)) → AreDistinct ps → (Has ps p → ⊥) → AreDistinct (ps ++ p ∷ [])
  distinct_more [] d none = ((λ h. h), tt)
  distinct_more (q ∷ ps) d none = (
    (λ has. elim (has-append_cases ps (p ∷ []) q has) [ inl h ↦ d.0 h | inr (inl e) ↦ none (inl (sym e)) | inr (inr never) ↦ never ]),
    distinct_more ps d.1 (λ h. none (inr h)),
  )

  -- with one more, what stands twice did so, or is the new one
  twice_cases : (ps : List (List ℕ)) (s : List ℕ) → StandsTwice (ps ++ p ∷ []) s → StandsTwice ps s ⊎ (Has ps s × (p ≡ s))
  twice_cases [] s (inl e) = absurd e.1
  twice_cases [] s (inr h) = absurd h
  twice_cases (q ∷ ps) s (inl e) = elim (has-append_cases ps (p ∷ []) s e.1) [ inl h ↦ inl (inl (e.0, h)) | inr (inl same) ↦ inr (inl e.0, same) | inr (inr never) ↦ absurd never ]
  twice_cases (q ∷ ps) s (inr h) = elim (twice_cases ps s h) [ inl k ↦ inl (inr k) | inr k ↦ inr (inr k.0, k.1) ]

  twice_more : (ps : List (List ℕ)) (s : List ℕ) → StandsTwice ps s → StandsTwice (ps ++ p ∷ []) s
  twice_more [] s h = absurd h
  twice_more (q ∷ ps) s (inl e) = inl (e.0, has-append_left ps (p ∷ []) s e.1)
  twice_more (q ∷ ps) s (inr h) = inr (twice_more ps s h)

  twice_now : (ps : List (List ℕ)) → Has ps p → StandsTwice (ps ++ p ∷ []) p
  twice_now [] h = absurd h
  twice_now (q ∷ ps) (inl e) = inl (e, has-append_right ps (p ∷ []) p (inl refl))
  twice_now (q ∷ ps) (inr h) = inr (twice_now ps h)

  -- what is known of a list
  abbrev Known : List (List ℕ) → Option (List ℕ) → Type 0
  Known ps o = MatchOption o (AreDistinct ps) (IsFirst (StandsTwice ps))

  known_new : (ps : List (List ℕ)) (o : Option (List ℕ)) → Known ps o → (Has ps p → ⊥) → Known (ps ++ p ∷ []) o
  known_new ps None d none = distinct_more ps d none
  known_new ps (Some k) f none = record {
    is = twice_more ps k f.is;
    least = λ s less h. elim (twice_cases ps s h) [ inl t ↦ f.least s less t | inr t ↦ none (subst (λ (x : List ℕ). Has ps x) (sym t.1) t.0) ];
  }

  known_again : (ps : List (List ℕ)) (o : Option (List ℕ)) (r : List ℕ) → Known ps o → Has ps p → MatchOption o (r ≡ p) (λ k. IsLesser k p r) → IsFirst (StandsTwice (ps ++ p ∷ [])) r
  known_again ps None r d has e = record {
    is = subst (λ (x : List ℕ). StandsTwice (ps ++ p ∷ []) x) (sym e) (twice_now ps has);
    least = λ s less h. elim (twice_cases ps s h) [ inl t ↦ none_twice ps s d t | inr t ↦ not_less s r (sym t.1 ∙ sym e) less ];
  }
  known_again ps (Some k) r f has l = record {
    is = elim l.one [
      | inl e ↦ subst (λ (x : List ℕ). StandsTwice (ps ++ p ∷ []) x) (sym e) (twice_more ps k f.is)
      | inr e ↦ subst (λ (x : List ℕ). StandsTwice (ps ++ p ∷ []) x) (sym e) (twice_now ps has)
    ];
    least = λ s less h. elim (twice_cases ps s h) [
      | inl t ↦ f.least s (less_further s r k less l.not_a) t
      | inr t ↦ l.not_b (subst (λ (x : List ℕ). byte_order x r ≡ Less) (sym t.1) less)
    ];
  }

  pub seen_new : (ps : List (List ℕ)) (x : PathIndexValue) (keys : List (List ℕ)) → IsSeen ps x → (Has x.texts p → ⊥) → keys ≡ insert_key byte_order x.texts p → IsRising keys → IsSeen (ps ++ p ∷ []) (record { texts = keys; twice = x.twice })
  seen_new ps x keys seen none made rising = record {
    rising = rising;
    members = λ t. (
      λ has. elim (was_there p x.texts t (subst (λ (l : List (List ℕ)). Has l t) made has)) [
        | inl e ↦ has-append_right ps (p ∷ []) t (inl e)
        | inr h ↦ has-append_left ps (p ∷ []) t ((seen.members t).0 h)
      ],
      λ has. subst (λ (l : List (List ℕ)). Has l t) (sym made) (is_there p x.texts t (elim (has-append_cases ps (p ∷ []) t has) [
        | inl h ↦ inr ((seen.members t).1 h)
        | inr (inl e) ↦ inl e
        | inr (inr never) ↦ absurd never
      ])),
    );
    twice = known_new ps x.twice seen.twice (λ h. none ((seen.members p).1 h));
  }

  pub seen_again : (ps : List (List ℕ)) (x : PathIndexValue) (r : List ℕ) → IsSeen ps x → Has x.texts p → MatchOption x.twice (r ≡ p) (λ k. IsLesser k p r) → IsSeen (ps ++ p ∷ []) (record { texts = x.texts; twice = Some r })
  seen_again ps x r seen there lesser = record {
    rising = seen.rising;
    members = λ t. (
      λ has. has-append_left ps (p ∷ []) t ((seen.members t).0 has),
      λ has. elim (has-append_cases ps (p ∷ []) t has) [
        | inl h ↦ (seen.members t).1 h
        | inr (inl e) ↦ subst (λ (y : List ℕ). Has x.texts y) e there
        | inr (inr never) ↦ absurd never
      ],
    );
    twice = known_again ps x.twice r seen.twice ((seen.members p).0 there) lesser;
  }

-- with one more path, the index keeps paths alone
pub paths_more : (p : List ℕ) (x : PathIndexValue) (keys : List (List ℕ)) → ArePaths x → is_path p ≡ true → keys ≡ insert_key byte_order x.texts p → ArePaths (record { texts = keys; twice = x.twice })
paths_more p x keys are path made = record {
  each = λ t has. elim (was_there p x.texts t (subst (λ (l : List (List ℕ)). Has l t) made has)) [
    | inl e ↦ subst (λ (q : List ℕ). is_path q ≡ true) e path
    | inr there ↦ are.each t there
  ];
  again = are.again;
}
