-- What the index says of a removal, and books with the same look-ups.
use Rattle.std.proofs.Common.{◌≡◌, ◌<◌, ◌+◌, ◌==◌, ℕ, length, Bool, true, cond, List, take, get_or, refl, sym, ap, ◌∙◌, subst, Option, Some, None, not, is_some, inl, inr}
use Rattle.std.specs.Prelude.{bytes_eq}
use Rattle.std.proofs.lemmas.Bool.{and_parts, cases_eq, cond-false, cond-true, eq-eqb, false≢true, ne_eqb, or_cases}
use Rattle.std.proofs.lemmas.Cmp.{nat_cmp_total}
use Rattle.std.proofs.lemmas.Map.Lookups.{exact_unsigned}
use Rattle.std.proofs.lemmas.Slice.Eq.{bytes_eq-Decides}
use Rattle.std.proofs.lemmas.Option.{slice_get_read}
use Rattle.merge_record.specs.declared.record.OwnerKey.{OwnerKey}
use Rattle.file_tree.specs.PathSets.{is_in}
use Rattle.owner_book.specs.declared.index.Slot.{Slot}
use Rattle.owner_book.specs.declared.index.Mark.{Mark}
use Rattle.owner_book.specs.Book.{Book, ChangesClaim, HasOwnersOf, IsClaimedBy, ClaimValue, claim_in, owner_in}
use Rattle.owner_book.specs.Marks.{AreUsed, mark_of, owner_of}
use Rattle.owner_book.specs.Removing.{AreRemovable, IsFirstKept, IsIndexed, MayRemove, goes, is_removable}
use Rattle.owner_book.specs.Slots.{IndexValue, slot_at}
use Rattle.owner_book.specs.Whole.{IsBook, book_of, owned_in}
use Rattle.owner_book.proofs.Books.{claims_on, mark_cases, own}
use Rattle.owner_book.proofs.Lists.{is_in-more}
use Rattle.owner_book.proofs.Sorted.{same_entries}
use Rattle.owner_book.proofs.Taken.{slots_same}
use Rattle.owner_book.proofs.Views.{view_owner, view_unclaimed}

-- ---- what the slot says

module _ (es : IndexValue) (cs : List (ℕ × ClaimValue)) (v : Book) (b : IsBook es cs) (view : book_of es cs ≡ v) (dying : OwnerKey → Bool) (q : List ℕ) where
  marked_claimed : (m : Mark) → mark_of (slot_at es q) ≡ Some m → IsClaimedBy v.claims q m.group
  marked_claimed m e = subst (λ (x : Book). IsClaimedBy x.claims q m.group) view (claims_on es cs b q m.group (m, e, refl))

  claimed_marked : (g : ℕ) → IsClaimedBy v.claims q g → is_some (mark_of (slot_at es q)) ≡ true
  claimed_marked g h =
      let c = subst (λ (x : Book). IsClaimedBy x.claims q g) (sym view) h in
      ap is_some (b.marked g c.0 q c.1 c.2)

  pub removable_if : is_removable dying (slot_at es q) ≡ true → MayRemove v dying q
  removable_if h = by (slot_at es q) refl h
    where
      owned_by : (s : Slot) → slot_at es q ≡ Some s → (o : Option OwnerKey) → s.owner ≡ o → goes dying o ≡ true → not (is_some s.mark) ≡ true → MayRemove v dying q
      owned_by s e None own_is g free = absurd (false≢true g)
      owned_by s e (Some k) own_is g free = record {
        owner = k;
        owned = view_owner es cs v b view q ∙ (ap owner_of e ∙ own_is);
        dies = g;
        unclaimed = λ h c. false≢true (sym (ap not (ap (λ (x : Option Slot). is_some (mark_of x)) (sym e) ∙ claimed_marked h c)) ∙ free);
      }

      by : (s : Option Slot) → slot_at es q ≡ s → is_removable dying s ≡ true → MayRemove v dying q
      by None e h = absurd (false≢true h)
      by (Some s) e h = let both = and_parts (goes dying s.owner) (not (is_some s.mark)) h in owned_by s e s.owner refl both.0 both.1

  pub removable_of : MayRemove v dying q → is_removable dying (slot_at es q) ≡ true
  removable_of may = by (slot_at es q) refl
    where
      owned : owner_of (slot_at es q) ≡ Some may.owner
      owned = sym (view_owner es cs v b view q) ∙ may.owned

      unmarked : mark_of (slot_at es q) ≡ None
      unmarked = view_unclaimed es cs v b view q may.unclaimed

      by : (s : Option Slot) → slot_at es q ≡ s → is_removable dying s ≡ true
      by None e = absurd (false≢true (ap is_some (ap owner_of (sym e) ∙ owned)))
      by (Some s) e =
          let o : s.owner ≡ Some may.owner = ap owner_of (sym e) ∙ owned in
          let m : s.mark ≡ None = ap mark_of (sym e) ∙ unmarked in
          rw (o, m, may.dies) refl

-- one path more that may be removed
pub removable_more : (b : Book) (dying : OwnerKey → Bool) (ps : List (List ℕ)) (i : ℕ) (p : List ℕ) → i < length ps → p ≡ get_or ps i p → MayRemove b dying p → AreRemovable b dying (take i ps) → AreRemovable b dying (take (i + 1) ps)
removable_more b dying ps i p lt is may all q h =
    elim (or_cases (is_in (take i ps) q) (bytes_eq p q) (sym (is_in-more ps i p lt is q) ∙ h)) [
      | inl old ↦ all q old
      | inr new ↦ subst (λ (x : List ℕ). MayRemove b dying x) ((bytes_eq-Decides p q).0 new) may
    ]

-- ---- books with the same look-ups are the same

module _ (es es' : IndexValue) (cs cs' : List (ℕ × ClaimValue)) (b : IsBook es cs) (b' : IsBook es' cs')
    (owners : (q : List ℕ) → owner_in (owned_in es') q ≡ owner_in (owned_in es) q) (claims : (g : ℕ) → claim_in cs' g ≡ claim_in cs g) where
  owner_same : (q : List ℕ) → owner_of (slot_at es' q) ≡ owner_of (slot_at es q)
  owner_same q = sym (own es' cs' b' q) ∙ (owners q ∙ own es cs b q)

  mark_on : (q : List ℕ) (m : Mark) → mark_of (slot_at es q) ≡ Some m → mark_of (slot_at es' q) ≡ mark_of (slot_at es q)
  mark_on q m e =
      let c = b.claimed q m e in
      b'.marked m.group c.0 q (claims m.group ∙ c.1) c.2 ∙ sym (b.marked m.group c.0 q c.1 c.2)

  mark_back : (q : List ℕ) (m : Mark) → mark_of (slot_at es' q) ≡ Some m → mark_of (slot_at es' q) ≡ mark_of (slot_at es q)
  mark_back q m e =
      let c = b'.claimed q m e in
      b'.marked m.group c.0 q c.1 c.2 ∙ sym (b.marked m.group c.0 q (sym (claims m.group) ∙ c.1) c.2)

  mark_same : (q : List ℕ) → mark_of (slot_at es' q) ≡ mark_of (slot_at es q)
  mark_same q = elim (mark_cases (slot_at es q)) [
    | inr m ↦ mark_on q m.0 m.1
    | inl none ↦ (elim (mark_cases (slot_at es' q)) [ inr m ↦ mark_back q m.0 m.1 | inl none' ↦ none' ∙ sym none ])
  ]

  slot_same : (q : List ℕ) → slot_at es' q ≡ slot_at es q
  slot_same q = by (slot_at es' q) (slot_at es q) refl refl (owner_same q) (mark_same q)
    where
      bare : (xs : IndexValue) → AreUsed xs → (s : Slot) → slot_at xs q ≡ Some s → s.owner ≡ None → s.mark ≡ None → ⊥
      bare xs used s e o m = false≢true (sym (rw (o, m) refl) ∙ used.used q s e)

      joined : (s t : Slot) → s.owner ≡ t.owner → s.mark ≡ t.mark → Some s ≡ Some t
      joined s t o m = λ i. Some (record { owner = o i; mark = m i })

      by : (s t : Option Slot) → slot_at es' q ≡ s → slot_at es q ≡ t → owner_of (slot_at es' q) ≡ owner_of (slot_at es q) → mark_of (slot_at es' q) ≡ mark_of (slot_at es q) → slot_at es' q ≡ slot_at es q
      by None None e f o m = e ∙ sym f
      by (Some s) None e f o m = absurd (bare es' b'.used s e (ap owner_of (sym e) ∙ (o ∙ ap owner_of f)) (ap mark_of (sym e) ∙ (m ∙ ap mark_of f)))
      by None (Some t) e f o m = absurd (bare es b.used t f (ap owner_of (sym f) ∙ (sym o ∙ ap owner_of e)) (ap mark_of (sym f) ∙ (sym m ∙ ap mark_of e)))
      by (Some s) (Some t) e f o m = e ∙ (joined s t (ap owner_of (sym e) ∙ (o ∙ ap owner_of f)) (ap mark_of (sym e) ∙ (m ∙ ap mark_of f)) ∙ sym f)

  pub books_same : book_of es' cs' ≡ book_of es cs
  books_same =
      let slots : es' ≡ es = slots_same es' es b'.index b.index slot_same in
      let lists : cs' ≡ cs = same_entries nat_cmp_total exact_unsigned cs' cs b'.groups b.groups claims in
      λ i. book_of (slots i) (lists i)

-- what is left of a claim that is dropped is the book that it came into
pub released_back : (es : IndexValue) (cs : List (ℕ × ClaimValue)) (b : IsBook es cs) (was mid new : Book) (g : ℕ) (c : ClaimValue) → book_of es cs ≡ new → HasOwnersOf mid new → ChangesClaim mid new g None
    → IsIndexed was → claim_in was.claims g ≡ None → HasOwnersOf was mid → ChangesClaim was mid g (Some c) → new ≡ was
released_back es cs b was mid new g c view owners claims indexed none owned claimed =
    sym view ∙ (books_same indexed.slots es indexed.claims cs indexed.fits b
    (λ q. ap (λ (x : Book). owner_in x.owned q) view ∙ (owners q ∙ (owned q ∙ ap (λ (x : Book). owner_in x.owned q) indexed.is)))
    (λ h. ap (λ (x : Book). claim_in x.claims h) view ∙ (claims h ∙ (each h ∙ ap (λ (x : Book). claim_in x.claims h) indexed.is))) ∙ sym indexed.is)
  where
    each : (h : ℕ) → cond (g == h) None (claim_in mid.claims h) ≡ claim_in was.claims h
    each h = elim (cases_eq g h) [
      | inl same ↦ cond-true (g == h) None (claim_in mid.claims h) (eq-eqb g h same) ∙ (sym none ∙ ap (claim_in was.claims) same)
      | inr apart ↦ cond-false (g == h) None (claim_in mid.claims h) (ne_eqb g h apart) ∙ (claimed h ∙ cond-false (g == h) (Some c) (claim_in was.claims h) (ne_eqb g h apart))
    ]

pub indexed_view : (es : IndexValue) (cs : List (ℕ × ClaimValue)) (v : Book) → IsBook es cs → book_of es cs ≡ v → IsIndexed v
indexed_view es cs v b view = record { slots = es; claims = cs; fits = b; is = sym view }

pub first_kept_at : (b : Book) (dying : OwnerKey → Bool) (ps : List (List ℕ)) (i : ℕ) (p q : List ℕ) → i < length ps → p ≡ get_or ps i p → q ≡ p → AreRemovable b dying (take i ps) → (MayRemove b dying p → ⊥) → IsFirstKept b dying ps q
first_kept_at b dying ps i p q lt is same all kept =
    subst (λ (x : List ℕ). IsFirstKept b dying ps x) (sym same) (record { at = i; there = slice_get_read ps (length ps) i p refl lt is; before = all; kept = kept })
