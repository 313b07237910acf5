-- Books stay tidy.
use Rattle.std.proofs.Common.{◌≡◌, ◌⊎◌, ◌∙◌, ◌||◌, ◌==◌, ℕ, Bool, true, false, List, [], Option, Some, None, inl, inr, refl, sym, ap, subst}
use Rattle.std.specs.Prelude.{IsSome, is_some}
use Rattle.std.proofs.lemmas.Bool.{cases_Bool, cases_eq, cond-false, cond-true, eq-eqb, ne_eqb, or_cases, or_left, or_parts}
use Rattle.std.proofs.lemmas.Option.{same_Some}
use Rattle.basics.specs.Members.{Has}
use Rattle.basics.proofs.Tests.{none_is_not_some, some-IsSome}
use Rattle.file_tree.specs.Paths.{is_below}
use Rattle.file_tree.specs.PathSets.{is_in}
use Rattle.merge_record.specs.declared.record.OwnerKey.{OwnerKey}
use Rattle.owner_book.specs.Book.{AreDisjoint, Book, ChangesClaim, HasOwnersOf, HasSettled, IsClaimedBy, IsTaken, ClaimValue, claim_in, has, is_wished, key_in, owner_in}
use Rattle.owner_book.specs.Near.{is_near}
use Rattle.owner_book.specs.Removing.{AreRemovable}
use Rattle.owner_book.specs.Whole.{AreFree}
use Rattle.owner_book.specs.declared.wish.Wish.{Wish}
use Rattle.law_claim.specs.Tidy.{BooksStayTidy, IsTidyBook, OwnedAreFlat, OwnersGo, PlacedAreFlat}
use Rattle.law_claim.proofs.Granted.{free_behind, free_wish, not_below}
use Rattle.law_claim.proofs.Lists.{one_first, wish_if_wished, wished_if_has}

-- ---- paths near one another

near_back : (p q : List ℕ) → is_near q p ≡ false → is_near p q ≡ false
near_back p q e = let both = or_parts (is_below q p) (is_below p q) e in ap (λ (b : Bool). b || is_below q p) both.1 ∙ both.0

not_near : (p : List ℕ) → is_near p p ≡ false
not_near p = ap (λ (b : Bool). b || is_below p p) (not_below p) ∙ not_below p

-- ---- the wish for a path

wish_of : (ws : List Wish) (q : List ℕ) → is_wished ws q ≡ true → (w : Wish) × Has ws w × (w.path ≡ q)
wish_of ws q e = named (key_in ws q) refl
  where
    named : (o : Option OwnerKey) → key_in ws q ≡ o → (w : Wish) × Has ws w × (w.path ≡ q)
    named None none = absurd (none_is_not_some (key_in ws q) none e)
    named (Some k) is = let w = wish_if_wished ws q k is in (w.0, w.1, w.2)

-- ---- the claims of the other groups

module _ (old new : Book) (g : ℕ) (o : Option ClaimValue) (changes : ChangesClaim old new g o) where
  -- the claim of a group is the new one, or one of another group that was there
  which : (h : ℕ) (d : ClaimValue) → claim_in new.claims h ≡ Some d → ((g ≡ h) × (o ≡ Some d)) ⊎ ((g ≡ h → ⊥) × (claim_in old.claims h ≡ Some d))
  which h d is = elim (cases_eq g h) [
    | inl same ↦ inl (same, sym (cond-true (g == h) o (claim_in old.claims h) (eq-eqb g h same)) ∙ (sym (changes h) ∙ is))
    | inr other ↦ inr (other, sym (cond-false (g == h) o (claim_in old.claims h) (ne_eqb g h other)) ∙ (sym (changes h) ∙ is))
  ]

none_some : {A : Type 0} (x : A) → ◌≡◌ {A = Option A} None (Some x) → ⊥
none_some x e = cc e

-- ---- a claim more

module _ (dying : ℕ → OwnerKey → Bool) (old new : Book) (g : ℕ) (c : ClaimValue) (tidy : IsTidyBook dying old) (free : AreFree old (dying g) c.placed) (may : AreRemovable old (dying g) c.removed)
    (owners : HasOwnersOf old new) (changes : ChangesClaim old new g (Some c)) where
  -- no other group has a path of it
  fresh : (q : List ℕ) (h : ℕ) → has c q ≡ true → IsClaimedBy old.claims q h → ⊥
  fresh q h mine other = elim (or_cases (is_wished c.placed q) (is_in c.removed q) mine) [
    | inl wished ↦ (let w = wish_of c.placed q wished in
        (free_wish old (dying g) c.placed free w.0 w.1).1.passed.unclaimed h (subst (λ (p : List ℕ). IsClaimedBy old.claims p h) (sym w.2) other))
    | inr removed ↦ (may q removed).unclaimed h other
  ]

  -- an owner of a path of it goes
  going : (q : List ℕ) (k : OwnerKey) → has c q ≡ true → owner_in old.owned q ≡ Some k → dying g k ≡ true
  going q k mine is = elim (or_cases (is_wished c.placed q) (is_in c.removed q) mine) [
    | inl wished ↦ (let w = wish_of c.placed q wished in
        (free_wish old (dying g) c.placed free w.0 w.1).1.passed.dies k (ap (owner_in old.owned) w.2 ∙ is))
    | inr removed ↦ (let m = may q removed in subst (λ (x : OwnerKey). dying g x ≡ true) (same_Some m.owner k (sym m.owned ∙ is)) m.dies)
  ]

  -- what it places is apart from what was taken before
  apart_before : (p q : List ℕ) → is_wished c.placed p ≡ true → IsTaken old [] q → is_near p q ≡ false
  apart_before p q wished taken =
      let w = wish_of c.placed p wished in
      let f = free_wish old (dying g) c.placed free w.0 w.1 in
      subst (λ (x : List ℕ). is_near x q ≡ false) w.2 (f.1.apart q (elim taken [
        | inl owned ↦ inl owned
        | inr (inl claimed) ↦ inr (inl claimed)
        | inr (inr none) ↦ absurd (cc none)
      ]))

  -- .. and from all else that it places
  apart_within : (p q : List ℕ) → is_wished c.placed p ≡ true → is_wished c.placed q ≡ true → is_near p q ≡ false
  apart_within p q here there =
      let w = wish_of c.placed p here in
      let v = wish_of c.placed q there in
      let both : is_near w.0.path v.0.path ≡ false = elim (one_first c.placed w.0 v.0 w.1 v.1) [
        | inl same ↦ subst (λ (x : Wish). is_near w.0.path x.path ≡ false) same (not_near w.0.path)
        | inr (inl x) ↦ near_back w.0.path v.0.path ((free_behind old (dying g) c.placed free x.before v.0 x.behind).apart w.0.path (inr (inr (wished_if_has x.before w.0 x.earlier))))
        | inr (inr x) ↦ (free_behind old (dying g) c.placed free x.before w.0 x.behind).apart v.0.path (inr (inr (wished_if_has x.before v.0 x.earlier)))
      ] in
      subst (λ (x : List ℕ). is_near x q ≡ false) w.2 (subst (λ (x : List ℕ). is_near w.0.path x ≡ false) v.2 both)

  apart_from : (p q : List ℕ) → is_wished c.placed p ≡ true → has c q ≡ true → is_near p q ≡ false
  apart_from p q here there = elim (or_cases (is_wished c.placed q) (is_in c.removed q) there) [
    | inl wished ↦ apart_within p q here wished
    | inr removed ↦ (let m = may q removed in apart_before p q here (inl (some-IsSome (owner_in old.owned q) m.owner m.owned)))
  ]

  owned_then : (q : List ℕ) → IsSome (owner_in new.owned q) → IsSome (owner_in old.owned q)
  owned_then q is = subst (λ (x : Option OwnerKey). IsSome x) (owners q) is

  -- what is taken was taken before, or the claim has it
  taken_then : (q : List ℕ) → IsTaken new [] q → IsTaken old [] q ⊎ (has c q ≡ true)
  taken_then q (inl owned) = inl (inl (owned_then q owned))
  taken_then q (inr (inl (h, (d, is, mine)))) = elim (which old new g (Some c) changes h d is) [
    | inl (same, e) ↦ inr (subst (λ (x : ClaimValue). has x q ≡ true) (sym (same_Some c d e)) mine)
    | inr (other, e) ↦ inl (inr (inl (h, (d, e, mine))))
  ]
  taken_then q (inr (inr none)) = absurd (cc none)

  disjoint_claimed : AreDisjoint new
  disjoint_claimed h i q (d, d_is, d_has) (e, e_is, e_has) = elim (which old new g (Some c) changes h d d_is) [
    | inl (same, x) ↦ elim (which old new g (Some c) changes i e e_is) [
      | inl (same', y) ↦ sym same ∙ same'
      | inr (other, y) ↦ absurd (fresh q i (subst (λ (z : ClaimValue). has z q ≡ true) (sym (same_Some c d x)) d_has) (e, y, e_has))
    ]
    | inr (other, x) ↦ elim (which old new g (Some c) changes i e e_is) [
      | inl (same', y) ↦ absurd (fresh q h (subst (λ (z : ClaimValue). has z q ≡ true) (sym (same_Some c e y)) e_has) (d, x, d_has))
      | inr (other', y) ↦ tidy.disjoint h i q (d, x, d_has) (e, y, e_has)
    ]
  ]

  mine_claimed : OwnersGo dying new
  mine_claimed h q k (d, is, mine) own =
      let before = sym (owners q) ∙ own in
      elim (which old new g (Some c) changes h d is) [
        | inl (same, e) ↦ subst (λ (x : ℕ). dying x k ≡ true) same (going q k (subst (λ (z : ClaimValue). has z q ≡ true) (sym (same_Some c d e)) mine) before)
        | inr (other, e) ↦ tidy.mine h q k (d, e, mine) before
      ]

  placed_claimed : PlacedAreFlat new
  placed_claimed h d p q is wished taken = elim (which old new g (Some c) changes h d is) [
    | inl (same, e) ↦ (let here : is_wished c.placed p ≡ true = subst (λ (z : ClaimValue). is_wished z.placed p ≡ true) (sym (same_Some c d e)) wished in
        elim (taken_then q taken) [ inl before ↦ apart_before p q here before | inr mine ↦ apart_from p q here mine ])
    | inr (other, e) ↦ elim (taken_then q taken) [
      | inl before ↦ tidy.placed h d p q e wished before
      | inr mine ↦ elim (or_cases (is_wished c.placed q) (is_in c.removed q) mine) [
        | inl placed ↦ near_back p q (apart_before q p placed (inr (inl (h, (d, e, or_left (is_wished d.placed p) (is_in d.removed p) wished)))))
        | inr removed ↦ (let m = may q removed in tidy.placed h d p q e wished (inl (some-IsSome (owner_in old.owned q) m.owner m.owned)))
      ]
    ]
  ]

  claimed_tidy : IsTidyBook dying new
  claimed_tidy = record {
    disjoint = disjoint_claimed;
    mine = mine_claimed;
    owned = λ p q a b. tidy.owned p q (owned_then p a) (owned_then q b);
    placed = placed_claimed;
  }

-- ---- a claim less

module _ (dying : ℕ → OwnerKey → Bool) (old new : Book) (g : ℕ) (tidy : IsTidyBook dying old) (changes : ChangesClaim old new g None) where
  left : (h : ℕ) (d : ClaimValue) → claim_in new.claims h ≡ Some d → (g ≡ h → ⊥) × (claim_in old.claims h ≡ Some d)
  left h d is = elim (which old new g None changes h d is) [
    | inl (same, e) ↦ absurd (none_some d e)
    | inr other ↦ other
  ]

  disjoint_left : AreDisjoint new
  disjoint_left h i q (d, d_is, d_has) (e, e_is, e_has) = tidy.disjoint h i q (d, (left h d d_is).1, d_has) (e, (left i e e_is).1, e_has)

  released_tidy : HasOwnersOf old new → IsTidyBook dying new
  released_tidy owners =
      let owned_then : (q : List ℕ) → IsSome (owner_in new.owned q) → IsSome (owner_in old.owned q) = λ q is. subst (λ (x : Option OwnerKey). IsSome x) (owners q) is in
      record {
        disjoint = disjoint_left;
        mine = λ h q k (d, is, mine) own. tidy.mine h q k (d, (left h d is).1, mine) (sym (owners q) ∙ own);
        owned = λ p q a b. tidy.owned p q (owned_then p a) (owned_then q b);
        placed = λ h d p q is wished taken. tidy.placed h d p q (left h d is).1 wished (elim taken [
          | inl owned ↦ inl (owned_then q owned)
          | inr (inl (i, (e, e_is, e_has))) ↦ inr (inl (i, (e, (left i e e_is).1, e_has)))
          | inr (inr none) ↦ absurd (cc none)
        ]);
      }

  module _ (c : ClaimValue) (was : claim_in old.claims g ≡ Some c) (settles : HasSettled old new c) where
    -- an owned path was owned before and is none of the claim, or the claim places it
    owned_from : (q : List ℕ) (k : OwnerKey) → owner_in new.owned q ≡ Some k → ((has c q ≡ false) × (owner_in old.owned q ≡ Some k)) ⊎ (is_wished c.placed q ≡ true)
    owned_from q k is = elim (cases_Bool (has c q)) [
      | inl mine ↦ inr (ap is_some (sym (cond-true (has c q) (key_in c.placed q) (owner_in old.owned q) mine) ∙ (sym (settles q) ∙ is)))
      | inr other ↦ inl (other, sym (cond-false (has c q) (key_in c.placed q) (owner_in old.owned q) other) ∙ (sym (settles q) ∙ is))
    ]

    some_owner : (q : List ℕ) → IsSome (owner_in new.owned q) → (k : OwnerKey) × (owner_in new.owned q ≡ Some k)
    some_owner q is = named (owner_in new.owned q) refl
      where
        named : (o : Option OwnerKey) → owner_in new.owned q ≡ o → (k : OwnerKey) × (owner_in new.owned q ≡ Some k)
        named None none = absurd (none_is_not_some (owner_in new.owned q) none is)
        named (Some k) e = (k, e)

    claimed_by : (q : List ℕ) → is_wished c.placed q ≡ true → IsClaimedBy old.claims q g
    claimed_by q wished = (c, was, or_left (is_wished c.placed q) (is_in c.removed q) wished)

    -- so it was taken before
    owned_taken : (q : List ℕ) → IsSome (owner_in new.owned q) → IsTaken old [] q
    owned_taken q is = let k = some_owner q is in elim (owned_from q k.0 k.1) [
      | inl (other, before) ↦ inl (some-IsSome (owner_in old.owned q) k.0 before)
      | inr wished ↦ inr (inl (g, claimed_by q wished))
    ]

    flat_settled : OwnedAreFlat new
    flat_settled p q a b = let k = some_owner p a in elim (owned_from p k.0 k.1) [
      | inr wished ↦ tidy.placed g c p q was wished (owned_taken q b)
      | inl (other, before) ↦ (let l = some_owner q b in elim (owned_from q l.0 l.1) [
        | inr wished ↦ near_back p q (tidy.placed g c q p was wished (owned_taken p a))
        | inl (other', before') ↦ tidy.owned p q (some-IsSome (owner_in old.owned p) k.0 before) (some-IsSome (owner_in old.owned q) l.0 before')
      ])
    ]

    mine_settled : OwnersGo dying new
    mine_settled h q k (d, is, mine) own = elim (owned_from q k own) [
      | inl (other, before) ↦ tidy.mine h q k (d, (left h d is).1, mine) before
      | inr wished ↦ absurd ((left h d is).0 (tidy.disjoint g h q (claimed_by q wished) (d, (left h d is).1, mine)))
    ]

    settled_tidy : IsTidyBook dying new
    settled_tidy = record {
      disjoint = disjoint_left;
      mine = mine_settled;
      owned = flat_settled;
      placed = λ h d p q is wished taken. tidy.placed h d p q (left h d is).1 wished (elim taken [
        | inl owned ↦ owned_taken q owned
        | inr (inl (i, (e, e_is, e_has))) ↦ inr (inl (i, (e, (left i e e_is).1, e_has)))
        | inr (inr none) ↦ absurd (cc none)
      ]);
    }

unclaimed_tidy : (dying : ℕ → OwnerKey → Bool) (b : Book) → ((g : ℕ) → claim_in b.claims g ≡ None) → OwnedAreFlat b → IsTidyBook dying b
unclaimed_tidy dying b none flat = record {
  disjoint = λ g h q (c, is, mine) other. absurd (none_some c (sym (none g) ∙ is));
  mine = λ g q k (c, is, mine) own. absurd (none_some c (sym (none g) ∙ is));
  owned = flat;
  placed = λ g c p q is wished taken. absurd (none_some c (sym (none g) ∙ is));
}

pub books_stay_tidy : BooksStayTidy
books_stay_tidy = record {
  begins = unclaimed_tidy;
  claimed = λ dying old new g c tidy free may owners changes. claimed_tidy dying old new g c tidy free may owners changes;
  settled = λ dying old new g c tidy was settles changes. settled_tidy dying old new g tidy changes c was settles;
  released = λ dying old new g tidy owners changes. released_tidy dying old new g tidy changes owners;
}
