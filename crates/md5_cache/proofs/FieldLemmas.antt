-- The values of an entry's fields.
use Rattle.std.proofs.Common.{◌≡◌, ◌≢◌, ◌∙◌, ◌+◌, ◌<◌, ◌≤◌, ℕ, suc, Bool, true, false, cond, List, [], ◌∷◌, ◌++◌, Option, Some, None, length, take, drop, get_or, ap, arith, inl, inr, refl, subst, sym}
use Rattle.std.specs.Prelude.{IsTrue, MatchOption, bytes_eq, codes, is_some}
use Rattle.basics.proofs.Each.{all-push}
use Rattle.pms_slot.specs.Reading.{SaysNone}
use Rattle.pms_slot.specs.Slots.{IsSlotValue}
use Rattle.pms_slot.specs.declared.value.SlotValue.{SlotValue}
use Rattle.std.specs.List.{AllByRecursion}
use Rattle.std.proofs.lemmas.Bool.{cases_Bool, cond-false, cond-true, false≢true}
use Rattle.std.proofs.lemmas.Slice.Eq.{bytes_eq-Decides}
use Rattle.std.proofs.lemmas.List.{drop_all, take_all, take_more, take-append-drop}
use Rattle.std.proofs.Math.Seq.{drop-cons}
use Rattle.md5_cache.specs.FieldFaults.{HasNoOther, IsFirstBad, IsOther}
use Rattle.pkg_state.proofs.Editions.{one_eapi}
use Rattle.pkg_state.specs.Eapis.{IsNoEapi, eapi_text}
use Rattle.pkg_state.specs.declared.eapi.Eapi.{Eapi}
use Rattle.md5_cache.specs.Fields.{AreFields, AreFieldsOf, IsGood, IsFieldInForm, IsOfEdition, field_of, first_absent, value_under}
use Rattle.md5_cache.specs.declared.field.Field.{Field as Kind}
use Rattle.md5_cache.specs.declared.pair.Pair.{Pair}

here : (pairs : List Pair) (place : ℕ) (d : Pair) (key : List ℕ) → place < length pairs → value_under (drop place pairs) key ≡ cond (bytes_eq (get_or pairs place d).key key) (Some (get_or pairs place d).value) (value_under (drop (suc place) pairs) key)
here pairs place d key within = ap (λ (l : List Pair). value_under l key) (drop-cons pairs place d within)

pub value_here : (pairs : List Pair) (place : ℕ) (d item : Pair) (key : List ℕ) → place < length pairs → item ≡ get_or pairs place d → value_under (drop place pairs) key ≡ value_under pairs key → bytes_eq item.key key ≡ true → value_under pairs key ≡ Some item.value
value_here pairs place d item key within is before same =
    sym before
    ∙ (here pairs place d key within
    ∙ (cond-true (bytes_eq (get_or pairs place d).key key) (Some (get_or pairs place d).value) (value_under (drop (suc place) pairs) key) (ap (λ (p : Pair). bytes_eq p.key key) (sym is) ∙ same)
    ∙ ap (λ (p : Pair). Some p.value) (sym is)))

pub value_next : (pairs : List Pair) (place : ℕ) (d item : Pair) (key : List ℕ) → place < length pairs → item ≡ get_or pairs place d → value_under (drop place pairs) key ≡ value_under pairs key → bytes_eq item.key key ≡ false → value_under (drop (place + 1) pairs) key ≡ value_under pairs key
value_next pairs place d item key within is before other =
    ap (λ n. value_under (drop n pairs) key) (next place)
    ∙ (sym (cond-false (bytes_eq (get_or pairs place d).key key) (Some (get_or pairs place d).value) (value_under (drop (suc place) pairs) key) (ap (λ (p : Pair). bytes_eq p.key key) (sym is) ∙ other))
    ∙ (sym (here pairs place d key within) ∙ before))
  where
    next : (n : ℕ) → n + 1 ≡ suc n
    next n = omega arith

pub value_none : (pairs : List Pair) (place : ℕ) (key : List ℕ) → length pairs ≤ place → value_under (drop place pairs) key ≡ value_under pairs key → value_under pairs key ≡ None
value_none pairs place key past before = sym before ∙ ap (λ (l : List Pair). value_under l key) (drop_all place pairs past)

pub good_next : (e : Eapi) (pairs : List Pair) (place : ℕ) (d item : Pair) → place < length pairs → item ≡ get_or pairs place d → AllByRecursion (IsGood e) (take place pairs) → IsGood e item → AllByRecursion (IsGood e) (take (place + 1) pairs)
good_next e pairs place d item within is before good =
    subst (AllByRecursion (IsGood e)) (sym (take_more pairs place d within)) (all-push (IsGood e) (take place pairs) (get_or pairs place d) before (subst (IsGood e) is good))

pub bad_here : (e : Eapi) (pairs : List Pair) (place : ℕ) (d item : Pair) → place < length pairs → item ≡ get_or pairs place d → AllByRecursion (IsGood e) (take place pairs) → (IsGood e item → ⊥) → IsFirstBad e pairs item.key
bad_here e pairs place d item within is before bad =
    record {
      front = take place pairs;
      bad = item;
      rest = drop (suc place) pairs;
      place = sym (take-append-drop place pairs) ∙ (ap (λ (l : List Pair). take place pairs ++ l) (drop-cons pairs place d within) ∙ ap (λ (p : Pair). take place pairs ++ (p ∷ drop (suc place) pairs)) (sym is));
      good = before;
      wrong = bad;
      named = refl;
    }

pub all_good : (e : Eapi) (pairs : List Pair) (place : ℕ) → length pairs ≤ place → AllByRecursion (IsGood e) (take place pairs) → AllByRecursion (IsGood e) pairs
all_good e pairs place past before = subst (AllByRecursion (IsGood e)) (take_all place pairs past) before

good_at : (e : Eapi) (front : List Pair) (bad : Pair) (rest : List Pair) → AllByRecursion (IsGood e) (front ++ (bad ∷ rest)) → IsGood e bad
good_at e [] bad rest each = each.0
good_at e (x ∷ front) bad rest each = good_at e front bad rest each.1

same_some : (x y : List ℕ) → Some x ≡ Some y → x ≡ y
same_some x y e = cc

pub no_other : (pairs : List Pair) (text : List ℕ) → AreFields pairs → IsOther pairs text → ⊥
no_other pairs text f o = o.other f.0 (same_some (eapi_text f.0) text (sym f.1.edition ∙ o.there))

three : {A : Type 0} (a b c : Bool) (x y z : A) → a ≡ true → b ≡ true → c ≡ true → cond a (cond b (cond c None (Some x)) (Some y)) (Some z) ≡ None
three true true true x y z e f g = refl
three false b c x y z e f g = absurd (cc e)
three true false c x y z e f g = absurd (cc f)
three true true false x y z e f g = absurd (cc g)

pub all_there : (pairs : List Pair) → AreFields pairs → first_absent pairs ≡ None
all_there pairs f =
    three (is_some (value_under pairs (codes "EAPI"))) (is_some (value_under pairs (codes "SLOT"))) (is_some (value_under pairs (codes "_md5_"))) (codes "_md5_") (codes "SLOT") (codes "EAPI")
    (ap is_some f.1.edition) f.1.slot f.1.digest

pub good_from : (e : Eapi) (item : Pair) (field : Kind) (key value : List ℕ) → field ≡ field_of e key → key ≡ item.key → value ≡ item.value → IsFieldInForm field value → IsGood e item
good_from e item field key value kind keys values form =
    subst (λ (v : List ℕ). IsFieldInForm (field_of e item.key) v) values (subst (λ (f : Kind). IsFieldInForm f value) (kind ∙ ap (field_of e) keys) form)

pub good_to : (e : Eapi) (item : Pair) (field : Kind) (key value : List ℕ) → field ≡ field_of e key → key ≡ item.key → value ≡ item.value → IsGood e item → IsFieldInForm field value
good_to e item field key value kind keys values good =
    subst (λ (f : Kind). IsFieldInForm f value) (sym (kind ∙ ap (field_of e) keys)) (subst (λ (v : List ℕ). IsFieldInForm (field_of e item.key) v) (sym values) good)

pub no_bad : (e : Eapi) (pairs : List Pair) (key : List ℕ) → AllByRecursion (IsGood e) pairs → IsFirstBad e pairs key → ⊥
no_bad e pairs key each bad = bad.wrong (good_at e bad.front bad.bad bad.rest (subst (AllByRecursion (IsGood e)) bad.place each))

three_back : {A : Type 0} (a b c : Bool) (x y z : A) → cond a (cond b (cond c None (Some x)) (Some y)) (Some z) ≡ None → (a ≡ true) × (b ≡ true) × (c ≡ true)
three_back true true true x y z e = (refl, refl, refl)
three_back false b c x y z e = absurd (cc e)
three_back true false c x y z e = absurd (cc e)
three_back true true false x y z e = absurd (cc e)

-- the pairs with all fields there and an edition that is read, where no value is bad in it
pub are_fields : (pairs : List Pair) (e : Eapi) → IsOfEdition pairs e → first_absent pairs ≡ None → AllByRecursion (IsGood e) pairs → AreFieldsOf e pairs
are_fields pairs e is there each =
    let all = three_back (is_some (value_under pairs (codes "EAPI"))) (is_some (value_under pairs (codes "SLOT"))) (is_some (value_under pairs (codes "_md5_"))) (codes "_md5_") (codes "SLOT") (codes "EAPI") there in
    record { edition = is; slot = all.1; digest = all.2; each = each }

no_text : (o : Option (List ℕ)) → is_some o ≡ true → ((e : Eapi) → o ≡ Some (eapi_text e) → ⊥) → ((t : List ℕ) → o ≡ Some t → IsNoEapi t → ⊥) → ⊥
no_text None e none h = absurd (cc e)
no_text (Some t) e none h = h t refl (λ e is. none e (ap (λ (x : List ℕ). Some x) (sym is)))

-- where EAPI is there and no text of another edition, it is that of one which is read
pub edition_there : (pairs : List Pair) → HasNoOther pairs → first_absent pairs ≡ None → ((e : Eapi) → IsOfEdition pairs e → ⊥) → ⊥
edition_there pairs none there no_edition =
    let all = three_back (is_some (value_under pairs (codes "EAPI"))) (is_some (value_under pairs (codes "SLOT"))) (is_some (value_under pairs (codes "_md5_"))) (codes "_md5_") (codes "SLOT") (codes "EAPI") there in
    no_text (value_under pairs (codes "EAPI")) all.0 no_edition (λ t is other. none t (record { there = is; other = other }))

-- an entry has no first bad pair in the edition that it says
pub none_bad : (e : Eapi) (pairs : List Pair) (key : List ℕ) → AreFields pairs → IsOfEdition pairs e → IsFirstBad e pairs key → ⊥
none_bad e pairs key f is bad =
    let same : e ≡ f.0 = one_eapi e f.0 (same_some (eapi_text e) (eapi_text f.0) (sym is ∙ f.1.edition)) in
    no_bad f.0 pairs key f.1.each (subst (λ (x : Eapi). IsFirstBad x pairs key) same bad)

pub slot_told : (o : Option SlotValue) (text value : List ℕ) (b : Bool) → MatchOption o (SaysNone text) (λ v. IsSlotValue text v.slot v.subslot) → text ≡ value → b ≡ is_some o
    → (IsTrue b → (slot : List ℕ) × (subslot : List ℕ) × IsSlotValue value slot subslot) × (((slot : List ℕ) × (subslot : List ℕ) × IsSlotValue value slot subslot) → IsTrue b)
slot_told None text value b h same is =
    ((λ t. absurd (false≢true (sym is ∙ t))), (λ s. absurd (h s.0 s.1 (subst (λ (l : List ℕ). IsSlotValue l s.0 s.1) (sym same) s.2))))
slot_told (Some v) text value b h same is =
    ((λ t. (v.slot, v.subslot, subst (λ (l : List ℕ). IsSlotValue l v.slot v.subslot) same h)), (λ s. is))
