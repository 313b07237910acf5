-- What stands under numbers, as the book changes.
use Rattle.std.proofs.Common.{◌≡◌, ◌<◌, ◌+◌, ◌==◌, ◌++◌, ◌∷◌, ◌∙◌, ℕ, Bool, true, false, cond, List, [], length, take, get_or, Option, Some, None, Result, Ok, Err, OnErr, OnOk, refl, sym, ap, subst, is_some, inl, inr}
use Rattle.std.specs.Prelude.{bytes_eq}
use Rattle.std.specs.BTreeSet.{BTreeSet, contains}
use Rattle.std.specs.Option.{option_or}
use Rattle.std.proofs.lemmas.Bool.{false≢true, or_cases}
use Rattle.std.proofs.lemmas.List.{take_more}
use Rattle.std.proofs.lemmas.Map.Views.{exact_unsigned_eq}
use Rattle.std.proofs.lemmas.Option.{same_Some}
use Rattle.std.proofs.lemmas.Slice.Eq.{bytes_eq-Decides}
use Rattle.merge_record.specs.declared.record.OwnerKey.{OwnerKey}
use Rattle.file_tree.specs.PathSets.{is_in}
use Rattle.owner_book.specs.declared.named.Named.{Named}
use Rattle.owner_book.specs.declared.wish.Wish.{Wish}
use Rattle.owner_book.specs.Book.{ClaimValue, claim_in, has, is_owner, key_in, owner_among, settled_owner}
use Rattle.owner_book.specs.Marks.{owned_slot, owner_of}
use Rattle.owner_book.specs.Named.{IsNamed, is_named, key_cmp}
use Rattle.owner_book.specs.Slots.{IndexValue, IsIndex, slot_at}
use Rattle.owner_book.specs.Whole.{IsBook, book_of}
use Rattle.owner_book.proofs.Books.{own}
use Rattle.owner_book.proofs.Lists.{is_in-more, key_in-more}
use Rattle.owner_book.proofs.Views.{Packages, opening_owner, owner_among-push}

abbrev Claims : Type 0
Claims = List (ℕ × ClaimValue)

-- what stood under a number stands there
abbrev pub Stays : Named → Named → Type 0
Stays old new = (n : ℕ) (q : List ℕ) → is_named old n q ≡ true → is_named new n q ≡ true

-- each path that is wished stands under who is to own it
abbrev pub AreNamed : ClaimValue → Named → Type 0
AreNamed c d = (q : List ℕ) (k : OwnerKey) → key_in c.placed q ≡ Some k → is_named d k.number q ≡ true

pub named_more : (es : IndexValue) (cs : Claims) (old new : Named) → Stays old new → IsNamed (book_of es cs) old → IsNamed (book_of es cs) new
named_more es cs old new stays h = record {
  owned = λ q k e. stays k.number q (h.owned q k e);
  placed = λ g c q k e w. stays k.number q (h.placed g c q k e w);
}

-- ---- one more

-- what a set of keys has stays as one comes
pub stays_insert : (test : ℕ × List ℕ → Bool) (old new : BTreeSet (ℕ × List ℕ)) → ((x : ℕ × List ℕ) → contains key_cmp new x ≡ cond (test x) true (contains key_cmp old x))
    → (n : ℕ) (q : List ℕ) → contains key_cmp old (n, q) ≡ true → contains key_cmp new (n, q) ≡ true
stays_insert test old new came n q h = came (n, q) ∙ by (test (n, q)) (contains key_cmp old (n, q)) h
  where
    by : (b x : Bool) → x ≡ true → cond b true x ≡ true
    by true x h = refl
    by false x h = h

pub path_named : (ps : List (List ℕ)) (i : ℕ) (p : List ℕ) (old new : Named) (n : ℕ) → i < length ps → p ≡ get_or ps i p
    → ((q : List ℕ) → is_in (take i ps) q ≡ true → is_named old n q ≡ true) → Stays old new → is_named new n p ≡ true → (q : List ℕ) → is_in (take (i + 1) ps) q ≡ true → is_named new n q ≡ true
path_named ps i p old new n lt is before stays there q h =
    elim (or_cases (is_in (take i ps) q) (bytes_eq p q) (sym (is_in-more ps i p lt is q) ∙ h)) [
      | inl a ↦ stays n q (before q a)
      | inr b ↦ subst (λ (x : List ℕ). is_named new n x ≡ true) ((bytes_eq-Decides p q).0 b) there
    ]

-- the first that has a path, or the one behind it
or_later : (new : Named) (q : List ℕ) (last : OwnerKey) (o : Option OwnerKey) (b : Bool) (k : OwnerKey) → ((x : OwnerKey) → o ≡ Some x → is_named new x.number q ≡ true)
    → (b ≡ true → is_named new last.number q ≡ true) → option_or o (cond b (Some last) None) ≡ Some k → is_named new k.number q ≡ true
or_later new q last None true k before there e = subst (λ (x : OwnerKey). is_named new x.number q ≡ true) (same_Some _ _ e) (there refl)
or_later new q last None false k before there e = absurd (false≢true (ap is_some e))
or_later new q last (Some x) b k before there e = before k e

pub wish_named : (ws : List Wish) (i : ℕ) (w : Wish) (old new : Named) → i < length ws → w ≡ get_or ws i w
    → ((q : List ℕ) (k : OwnerKey) → key_in (take i ws) q ≡ Some k → is_named old k.number q ≡ true) → Stays old new → is_named new w.owner.number w.path ≡ true
    → (q : List ℕ) (k : OwnerKey) → key_in (take (i + 1) ws) q ≡ Some k → is_named new k.number q ≡ true
wish_named ws i w old new lt is before stays there q k e =
    or_later new q w.owner (key_in (take i ws) q) (bytes_eq w.path q) k (λ x h. stays x.number q (before q x h))
    (λ b. subst (λ (x : List ℕ). is_named new w.owner.number x ≡ true) ((bytes_eq-Decides w.path q).0 b) there) (sym (key_in-more ws i w lt is q) ∙ e)

pub package_named : (ps : Packages) (i : ℕ) (p : OwnerKey × Rattle.std.proofs.Common.Vec (List ℕ) Rattle.std.specs.Global.Global) (items : List (List ℕ)) (old new : Named) → i < length ps → p ≡ get_or ps i p → items ≡ p.1.items
    → ((q : List ℕ) (k : OwnerKey) → owner_among (take i ps) q ≡ Some k → is_named old k.number q ≡ true) → Stays old new → ((q : List ℕ) → is_in items q ≡ true → is_named new p.0.number q ≡ true)
    → (q : List ℕ) (k : OwnerKey) → owner_among (take (i + 1) ps) q ≡ Some k → is_named new k.number q ≡ true
package_named ps i p items old new lt is same before stays there q k e =
    or_later new q p.0 (owner_among (take i ps) q) (is_in p.1.items q) k (λ x h. stays x.number q (before q x h))
    (λ b. there q (ap (λ (l : List (List ℕ)). is_in l q) same ∙ b))
    (sym (ap (λ (l : Packages). owner_among l q) (take_more ps i p lt ∙ ap (λ (x : _). take i ps ++ x ∷ []) (sym is)) ∙ owner_among-push (take i ps) p.0 p.1 q) ∙ e)

-- ---- the book

no_claim : (c : ClaimValue) → ¬ (None ≡ Some c)
no_claim c e = false≢true (ap is_some e)

-- a book of installed packages
pub named_opening : (es : IndexValue) (o : List ℕ → Option OwnerKey) (d : Named) → IsIndex es → ((q : List ℕ) → slot_at es q ≡ owned_slot (o q))
    → ((q : List ℕ) (k : OwnerKey) → o q ≡ Some k → is_named d k.number q ≡ true) → IsNamed (book_of es []) d
named_opening es o d index at named = record {
  owned = λ q k e. named q k (sym (opening_owner es o index at q) ∙ e);
  placed = λ g c q k e w. absurd (no_claim c e);
}

module _ (es new : IndexValue) (cs after : Claims) (d : Named) (b : IsBook es cs) (h : IsNamed (book_of es cs) d) (g : ℕ) where
  was : (q : List ℕ) (k : OwnerKey) → owner_of (slot_at es q) ≡ Some k → is_named d k.number q ≡ true
  was q k e = h.owned q k (own es cs b q ∙ e)

  -- a claim more
  pub named_entered : (c : ClaimValue) → IsBook new after → ((q : List ℕ) → owner_of (slot_at new q) ≡ owner_of (slot_at es q))
      → ((i : ℕ) → claim_in after i ≡ cond (g == i) (Some c) (claim_in cs i)) → AreNamed c d → IsNamed (book_of new after) d
  named_entered c b' owners claims wished = record {
    owned = λ q k e. was q k (sym (owners q) ∙ (sym (own new after b' q) ∙ e));
    placed = λ i x q k e w. by i x q k (g == i) (sym (claims i) ∙ e) w;
  }
    where
      by : (i : ℕ) (x : ClaimValue) (q : List ℕ) (k : OwnerKey) (t : Bool) → cond t (Some c) (claim_in cs i) ≡ Some x → key_in x.placed q ≡ Some k → is_named d k.number q ≡ true
      by i x q k true e w = wished q k (subst (λ (y : ClaimValue). key_in y.placed q ≡ Some k) (sym (same_Some _ _ e)) w)
      by i x q k false e w = h.placed i x q k e w

  -- or what was before
  pub book_tried : {X E : Type 0} (r : Result X E) → OnOk r (IsBook new after) → OnErr r (new ≡ es) → OnErr r (after ≡ cs) → IsBook new after
  book_tried (Ok x) b' same_index same_claims = b'
  book_tried (Err f) b' same_index same_claims = subst (λ (i : IndexValue). IsBook i after) (sym same_index) (subst (λ (l : Claims). IsBook es l) (sym same_claims) b)

  pub named_tried : {X E : Type 0} (c : ClaimValue) (r : Result X E) → OnOk r (IsBook new after) → OnOk r ((q : List ℕ) → owner_of (slot_at new q) ≡ owner_of (slot_at es q))
      → OnOk r ((i : ℕ) → claim_in after i ≡ cond (g == i) (Some c) (claim_in cs i)) → OnErr r (new ≡ es) → OnErr r (after ≡ cs) → AreNamed c d → IsNamed (book_of new after) d
  named_tried c (Ok x) b' owners claims same_index same_claims wished = named_entered c b' owners claims wished
  named_tried c (Err f) b' owners claims same_index same_claims wished =
      subst (λ (i : IndexValue). IsNamed (book_of i after) d) (sym same_index) (subst (λ (l : Claims). IsNamed (book_of es l) d) (sym same_claims) h)

  -- a claim less
  pub named_ended : (settles : Bool) → IsBook new after
      → ((c : ClaimValue) → claim_in cs g ≡ Some c → (q : List ℕ) → owner_of (slot_at new q) ≡ cond settles (settled_owner c q (owner_of (slot_at es q))) (owner_of (slot_at es q)))
      → (claim_in cs g ≡ None → new ≡ es) → ((i : ℕ) → claim_in after i ≡ cond (g == i) None (claim_in cs i)) → IsNamed (book_of new after) d
  named_ended settles b' owners none claims = record {
    owned = λ q k e. owned q k (claim_in cs g) refl (sym (own new after b' q) ∙ e);
    placed = λ i x q k e w. by i x q k (g == i) (sym (claims i) ∙ e) w;
  }
    where
      settled : (c : ClaimValue) (q : List ℕ) (k : OwnerKey) → claim_in cs g ≡ Some c → (t : Bool) → cond t (key_in c.placed q) (owner_of (slot_at es q)) ≡ Some k → is_named d k.number q ≡ true
      settled c q k there true e = h.placed g c q k there e
      settled c q k there false e = was q k e

      closed : (c : ClaimValue) (q : List ℕ) (k : OwnerKey) → claim_in cs g ≡ Some c → (t : Bool) → cond t (settled_owner c q (owner_of (slot_at es q))) (owner_of (slot_at es q)) ≡ Some k → is_named d k.number q ≡ true
      closed c q k there true e = settled c q k there (has c q) e
      closed c q k there false e = was q k e

      owned : (q : List ℕ) (k : OwnerKey) (c : Option ClaimValue) → claim_in cs g ≡ c → owner_of (slot_at new q) ≡ Some k → is_named d k.number q ≡ true
      owned q k None there e = was q k (ap (λ (i : IndexValue). owner_of (slot_at i q)) (sym (none there)) ∙ e)
      owned q k (Some c) there e = closed c q k there settles (sym (owners c there q) ∙ e)

      by : (i : ℕ) (x : ClaimValue) (q : List ℕ) (k : OwnerKey) (t : Bool) → cond t None (claim_in cs i) ≡ Some x → key_in x.placed q ≡ Some k → is_named d k.number q ≡ true
      by i x q k true e w = absurd (no_claim x e)
      by i x q k false e w = h.placed i x q k e w

-- what the index gives to a package stands under its number
pub named_owned : (es : IndexValue) (cs : Claims) (d : Named) → IsBook es cs → IsNamed (book_of es cs) d → (k : OwnerKey) (q : List ℕ) → is_owner k (owner_of (slot_at es q)) ≡ true → is_named d k.number q ≡ true
named_owned es cs d b h k q t = by (owner_of (slot_at es q)) refl t
  where
    by : (o : Option OwnerKey) → owner_of (slot_at es q) ≡ o → is_owner k o ≡ true → is_named d k.number q ≡ true
    by None e t = absurd (false≢true t)
    by (Some o) e t = subst (λ (n : ℕ). is_named d n q ≡ true) (sym (exact_unsigned_eq k.number o.number t)) (h.owned q o (own es cs b q ∙ e))
