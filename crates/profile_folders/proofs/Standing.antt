-- What stands, by the texts of the code's set, and which texts stand.
use Rattle.std.specs.Prelude.{MatchOption, bytes_eq, fold}
use Rattle.std.specs.List.{list_any}
use Rattle.std.proofs.Common.{◌≡◌, ◌↔◌, ◌≢◌, ◌||◌, ◌∙◌, ◌++◌, ◌⊎◌, ℕ, Bool, Bor, true, false, List, [], ◌∷◌, Option, None, Some, ap, cond, eqb, inl, inr, refl, subst, sym}
use Rattle.std.proofs.lemmas.Bool.{cases_Bool, eqb-true}
use Rattle.std.proofs.lemmas.Slice.Eq.{bytes_eq-Decides}
use Rattle.basics.specs.Members.{AreDistinct, Has}
use Rattle.basics.proofs.Membership.{has-append_cases, has-append_left, has-append_right, has-from_contains}
use Rattle.basics.proofs.Texts.{bytes_eq-same}
use Rattle.indexmap.proofs.CallerLemmas.{Contains-list_any}
use Rattle.indexmap.specs.IndexSet.{insert_key, remove_key}
use Rattle.profile_folders.specs.Stacks.{Stands, hyphen, stacked, taken_back, with_change, with_text}
use Rattle.profile_folders.proofs.Places.{some_one, told}

-- the test of the code's set
abbrev pub same_text : Bor (List ℕ) → Bor (List ℕ) → Bool
same_text q k = bytes_eq q.now k.now

any-told : (q : Bor (List ℕ)) (ks : List (Bor (List ℕ))) → list_any (same_text q) ks ≡ list_any (bytes_eq q.now) (told ks)
any-told q [] = refl
any-told q (k ∷ ks) = ap (λ (b : Bool). bytes_eq q.now k.now || b) (any-told q ks)

told-push : (ks : List (Bor (List ℕ))) (k : Bor (List ℕ)) → told (ks ++ k ∷ []) ≡ told ks ++ k.now ∷ []
told-push [] k = refl
told-push (x ∷ ks) k = ap (λ (t : List (List ℕ)). x.now ∷ t) (told-push ks k)

told-cond : (b : Bool) (ks ls : List (Bor (List ℕ))) → told (cond b ks ls) ≡ cond b (told ks) (told ls)
told-cond true ks ls = refl
told-cond false ks ls = refl

pub told-insert : (ks : List (Bor (List ℕ))) (k : Bor (List ℕ)) → told (insert_key same_text ks k) ≡ insert_key bytes_eq (told ks) k.now
told-insert ks k = told-cond (list_any (same_text k) ks) ks (ks ++ k ∷ []) ∙ (ap (λ (b : Bool). cond b (told ks) (told (ks ++ k ∷ []))) (any-told k ks) ∙ ap (λ (t : List (List ℕ)). cond (list_any (bytes_eq k.now) (told ks)) (told ks) t) (told-push ks k))

pub told-remove : (ks : List (Bor (List ℕ))) (q : List ℕ) → told (remove_key (λ (k : Bor (List ℕ)). bytes_eq q k.now) ks) ≡ remove_key (bytes_eq q) (told ks)
told-remove [] q = refl
told-remove (k ∷ ks) q = told-cond (bytes_eq q k.now) ks (k ∷ remove_key (λ (x : Bor (List ℕ)). bytes_eq q x.now) ks) ∙ ap (λ (t : List (List ℕ)). cond (bytes_eq q k.now) (told ks) (k.now ∷ t)) (told-remove ks q)

pub taken : (text : List ℕ) (r : Option (Bor (List ℕ))) → MatchOption r ((rest : List ℕ) → text ≢ hyphen ∷ rest) (λ x. text ≡ hyphen ∷ x.now) → MatchOption r (taken_back text ≡ None) (λ x. taken_back text ≡ Some x.now)
taken text (Some x) is = ap taken_back is
taken [] None other = refl
taken (b ∷ bytes) None other = elim (cases_Bool (eqb b hyphen)) [
  | inl e ↦ absurd (other bytes (ap (λ (x : ℕ). x ∷ bytes) (eqb-true b hyphen e)))
  | inr e ↦ ap (λ (t : Bool). cond t (Some bytes) None) e
]

or_false : (a b : Bool) → (a || b) ≡ false → b ≡ false
or_false true b e = absurd (cc e)
or_false false b e = e

taken_is : (text item : List ℕ) → taken_back text ≡ Some item → text ≡ hyphen ∷ item
taken_is [] item e = absurd (cc e)
taken_is (b ∷ bytes) item e = elim (cases_Bool (eqb b hyphen)) [
  | inl yes' ↦ (let same : Some bytes ≡ Some item = sym (ap (λ (t : Bool). cond t (Some bytes) None) yes') ∙ e in ap (λ (x : ℕ). x ∷ bytes) (eqb-true b hyphen yes') ∙ ap (λ (l : List ℕ). hyphen ∷ l) (some_one bytes item same))
  | inr other ↦ (let none : None ≡ Some item = sym (ap (λ (t : Bool). cond t (Some bytes) None) other) ∙ e in absurd (cc none))
]

-- the test of a set finds the members of a list
found : (ks : List (List ℕ)) (k : List ℕ) → list_any (bytes_eq k) ks ≡ true → Has ks k
found ks k e = has-from_contains ks k (Contains-list_any bytes_eq (λ x y. (bytes_eq-Decides x y).0) ks k e)

not_found : (ks : List (List ℕ)) (k : List ℕ) → list_any (bytes_eq k) ks ≡ false → ¬ Has ks k
not_found [] k e has = has
not_found (x ∷ ks) k e (inl same) = let t : true ≡ false = sym (ap (λ (b : Bool). b || list_any (bytes_eq k) ks) (ap (bytes_eq k) same ∙ bytes_eq-same k)) ∙ e in absurd (cc t)
not_found (x ∷ ks) k e (inr has) = not_found ks k (or_false (bytes_eq k x) (list_any (bytes_eq k) ks) e) has

insert_by : (b : Bool) (ks : List (List ℕ)) (k x : List ℕ) → Has (cond b ks (ks ++ k ∷ [])) x → Has ks x ⊎ (k ≡ x)
insert_by true ks k x has = inl has
insert_by false ks k x has = elim (has-append_cases ks (k ∷ []) x has) [
  | inl l ↦ inl l
  | inr (inl e) ↦ inr e
  | inr (inr none) ↦ absurd none
]

insert_keeps : (b : Bool) (ks : List (List ℕ)) (k x : List ℕ) → Has ks x → Has (cond b ks (ks ++ k ∷ [])) x
insert_keeps true ks k x has = has
insert_keeps false ks k x has = has-append_left ks (k ∷ []) x has

insert_self : (ks : List (List ℕ)) (k : List ℕ) → Has (insert_key bytes_eq ks k) k
insert_self ks k = elim (cases_Bool (list_any (bytes_eq k) ks)) [
  | inl there ↦ insert_keeps (list_any (bytes_eq k) ks) ks k k (found ks k there)
  | inr other ↦ subst (λ (b : Bool). Has (cond b ks (ks ++ k ∷ [])) k) (sym other) (has-append_right ks (k ∷ []) k (inl refl))
]

distinct_push : (ks : List (List ℕ)) (k : List ℕ) → AreDistinct ks → ¬ Has ks k → AreDistinct (ks ++ k ∷ [])
distinct_push [] k distinct other = (λ none. none, tt)
distinct_push (x ∷ ks) k distinct other = (
  λ has. elim (insert_by false ks k x has) [ inl h ↦ distinct.0 h | inr e ↦ other (inl (sym e)) ],
  distinct_push ks k distinct.1 (λ has. other (inr has)),
)

insert_distinct : (ks : List (List ℕ)) (k : List ℕ) → AreDistinct ks → AreDistinct (insert_key bytes_eq ks k)
insert_distinct ks k distinct = elim (cases_Bool (list_any (bytes_eq k) ks)) [
  | inl there ↦ subst (λ (b : Bool). AreDistinct (cond b ks (ks ++ k ∷ []))) (sym there) distinct
  | inr other ↦ subst (λ (b : Bool). AreDistinct (cond b ks (ks ++ k ∷ []))) (sym other) (distinct_push ks k distinct (not_found ks k other))
]

-- what stands without an item
module _ (q : List ℕ) where
  removed_in : (ks : List (List ℕ)) (x : List ℕ) → Has (remove_key (bytes_eq q) ks) x → Has ks x
  removed_in [] x has = has
  removed_in (k ∷ ks) x has = by_test (bytes_eq q k) has (removed_in ks x)
    where
      by_test : (b : Bool) → Has (cond b ks (k ∷ remove_key (bytes_eq q) ks)) x → (Has (remove_key (bytes_eq q) ks) x → Has ks x) → Has (k ∷ ks) x
      by_test true h rest = inr h
      by_test false (inl e) rest = inl e
      by_test false (inr h) rest = inr (rest h)

  removed_gone : (ks : List (List ℕ)) → AreDistinct ks → ¬ Has (remove_key (bytes_eq q) ks) q
  removed_gone [] distinct has = has
  removed_gone (k ∷ ks) distinct has = elim (cases_Bool (bytes_eq q k)) [
    | inl same ↦ distinct.0 (subst (λ (y : List ℕ). Has ks y) ((bytes_eq-Decides q k).0 same) (subst (λ (b : Bool). Has (cond b ks (k ∷ remove_key (bytes_eq q) ks)) q) same has))
    | inr other ↦ elim (subst (λ (b : Bool). Has (cond b ks (k ∷ remove_key (bytes_eq q) ks)) q) other has) [
      | inl e ↦ (let t : true ≡ false = sym (ap (bytes_eq q) e ∙ bytes_eq-same q) ∙ other in absurd (cc t))
      | inr h ↦ removed_gone ks distinct.1 h
    ]
  ]

  removed_keeps : (ks : List (List ℕ)) (x : List ℕ) → Has ks x → ¬ (q ≡ x) → Has (remove_key (bytes_eq q) ks) x
  removed_keeps [] x has differ = has
  removed_keeps (k ∷ ks) x has differ = elim (cases_Bool (bytes_eq q k)) [
    | inl same ↦ subst (λ (b : Bool). Has (cond b ks (k ∷ remove_key (bytes_eq q) ks)) x) (sym same) (elim has [ inl e ↦ absurd (differ ((bytes_eq-Decides q k).0 same ∙ e)) | inr h ↦ h ])
    | inr other ↦ subst (λ (b : Bool). Has (cond b ks (k ∷ remove_key (bytes_eq q) ks)) x) (sym other) (elim has [ inl e ↦ inl e | inr h ↦ inr (removed_keeps ks x h differ) ])
  ]

  removed_distinct : (ks : List (List ℕ)) → AreDistinct ks → AreDistinct (remove_key (bytes_eq q) ks)
  removed_distinct [] distinct = tt
  removed_distinct (k ∷ ks) distinct = elim (cases_Bool (bytes_eq q k)) [
    | inl same ↦ subst (λ (b : Bool). AreDistinct (cond b ks (k ∷ remove_key (bytes_eq q) ks))) (sym same) distinct.1
    | inr other ↦ subst (λ (b : Bool). AreDistinct (cond b ks (k ∷ remove_key (bytes_eq q) ks))) (sym other) (λ has. distinct.0 (removed_in ks k has), removed_distinct ks distinct.1)
  ]

-- the item that a text takes back is one
one_taken : (text x y : List ℕ) → taken_back text ≡ Some y → text ≡ hyphen ∷ x → y ≡ x
one_taken text x y back is = some_one y x (sym back ∙ ap taken_back is)

module _ (standing : List (List ℕ)) (text x : List ℕ) where
  with_has : AreDistinct standing → (o : Option (List ℕ)) → taken_back text ≡ o → Has (with_change standing text o) x → (Has standing x × (¬ (text ≡ hyphen ∷ x))) ⊎ ((text ≡ x) × (taken_back text ≡ None))
  with_has distinct None back has = elim (insert_by (list_any (bytes_eq text) standing) standing text x has) [
    | inl h ↦ inl (h, λ is. (let none : None ≡ Some x = sym back ∙ ap taken_back is in absurd (cc none)))
    | inr e ↦ inr (e, back)
  ]
  with_has distinct (Some y) back has = inl (removed_in y standing x has, λ is. removed_gone y standing distinct (subst (λ (z : List ℕ). Has (remove_key (bytes_eq y) standing) z) (sym (one_taken text x y back is)) has))

  with_keeps : (o : Option (List ℕ)) → taken_back text ≡ o → Has standing x → ¬ (text ≡ hyphen ∷ x) → Has (with_change standing text o) x
  with_keeps None back has other = insert_keeps (list_any (bytes_eq text) standing) standing text x has
  with_keeps (Some y) back has other = removed_keeps y standing x has (λ e. other (taken_is text y back ∙ ap (λ (l : List ℕ). hyphen ∷ l) e))

with_distinct : (standing : List (List ℕ)) (text : List ℕ) (o : Option (List ℕ)) → AreDistinct standing → AreDistinct (with_change standing text o)
with_distinct standing text None distinct = insert_distinct standing text distinct
with_distinct standing text (Some y) distinct = removed_distinct y standing distinct

pub all_distinct : (texts standing : List (List ℕ)) → AreDistinct standing → AreDistinct (fold with_text standing texts)
all_distinct [] standing distinct = distinct
all_distinct (t ∷ ts) standing distinct = all_distinct ts (with_text standing t) (with_distinct standing t (taken_back t) distinct)

pub stands_or_stood : (texts standing : List (List ℕ)) (x : List ℕ) → AreDistinct standing → Has (fold with_text standing texts) x → (Has standing x × (¬ Has texts (hyphen ∷ x))) ⊎ Stands texts x
stands_or_stood [] standing x distinct has = inl (has, λ none. none)
stands_or_stood (t ∷ ts) standing x distinct has = elim (stands_or_stood ts (with_text standing t) x (with_distinct standing t (taken_back t) distinct) has) [
  | inl stood ↦ elim (with_has standing t x distinct (taken_back t) refl stood.0) [
    | inl before ↦ inl (before.0, λ h. elim h [ inl e ↦ before.1 e | inr r ↦ stood.1 r ])
    | inr new ↦ inr (record { front = []; rest = ts; place = ap (λ (y : List ℕ). y ∷ ts) new.0; adds = ap taken_back (sym new.0) ∙ new.1; stays = stood.1 })
  ]
  | inr st ↦ inr (record { front = t ∷ st.front; rest = st.rest; place = ap (λ (l : List (List ℕ)). t ∷ l) st.place; adds = st.adds; stays = st.stays })
]

still : (texts standing : List (List ℕ)) (x : List ℕ) → Has standing x → ¬ Has texts (hyphen ∷ x) → Has (fold with_text standing texts) x
still [] standing x has stays = has
still (t ∷ ts) standing x has stays = still ts (with_text standing t) x (with_keeps standing t x (taken_back t) refl has (λ e. stays (inl e))) (λ h. stays (inr h))

stands_in : (front rest standing : List (List ℕ)) (x : List ℕ) → taken_back x ≡ None → ¬ Has rest (hyphen ∷ x) → Has (fold with_text standing (front ++ (x ∷ rest))) x
stands_in [] rest standing x adds stays = still rest (with_text standing x) x (subst (λ (o : Option (List ℕ)). Has (with_change standing x o) x) (sym adds) (insert_self standing x)) stays
stands_in (t ∷ front) rest standing x adds stays = stands_in front rest (with_text standing t) x adds stays

-- an item stands exactly where one of the texts adds it and none behind that takes it back
pub stands_exactly : (texts : List (List ℕ)) (x : List ℕ) → Has (stacked texts) x ↔ Stands texts x
stands_exactly texts x = (
  λ has. elim (stands_or_stood texts [] x tt has) [ inl none ↦ absurd none.0 | inr st ↦ st ],
  λ st. subst (λ (l : List (List ℕ)). Has (stacked l) x) (sym st.place) (stands_in st.front st.rest [] x st.adds st.stays),
)
