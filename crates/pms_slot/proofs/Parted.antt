-- A value of SLOT is parted at its first slash, in one way.
use Rattle.std.specs.Prelude.{Option, Some, None, bytes_eq, unwrap_or}
use Rattle.std.proofs.Common.{◌≡◌, ◌∙◌, ℕ, suc, ◌+◌, true, false, List, [], ◌∷◌, ◌++◌, length, get_or, take, drop, ◌-◌, refl, sym, ap, subst, inl, inr, arith, add-one}
use Rattle.std.proofs.Math.Seq.{drop-cons, take-length}
use Rattle.std.proofs.lemmas.Bool.{cases_Bool}
use Rattle.std.proofs.lemmas.List.{take-append-drop, length-drop}
use Rattle.std.proofs.lemmas.Slice.Eq.{bytes_eq-Decides}
use Rattle.pms_names.specs.Bytes.{may_contain}
use Rattle.pms_names.specs.Names.{IsName}
use Rattle.pms_names.specs.declared.kind.Kind.TheVariants.{Slot}
use Rattle.pms_slot.specs.Slots.{slot_value, slot_text, IsSlotValue, IsWritten, LacksSlash, IsFirstSlash, Writes}

pub name_lacks : (name : List ℕ) → IsName Slot name → LacksSlash name
name_lacks name is k within e =
    let good : may_contain Slot 47 ≡ true = subst (λ b. may_contain Slot b ≡ true) e (is.spelled.each k within) in
    absurd (let f : false ≡ true = good in cc)

tail_lacks : (b : ℕ) (bytes : List ℕ) → LacksSlash (b ∷ bytes) → LacksSlash bytes
tail_lacks b bytes h k within = h (suc k) (omega (arith, within))

slot_value-cons : (b : ℕ) (slot : List ℕ) (w : Option (List ℕ)) → slot_value (b ∷ slot) w ≡ b ∷ slot_value slot w
slot_value-cons b slot None = refl
slot_value-cons b slot (Some written) = refl

values_without : (w v : Option (List ℕ)) → slot_value [] w ≡ slot_value [] v → w ≡ v
values_without None None e = refl
values_without None (Some t) e = absurd (omega (arith, ap length e))
values_without (Some s) None e = absurd (omega (arith, ap length e))
values_without (Some s) (Some t) e = ap (λ l. Some (drop 1 l)) e

-- no value of an empty slot is one of a slot that begins with something else than a slash
values_apart : (c : ℕ) (cs : List ℕ) (w v : Option (List ℕ)) → LacksSlash (c ∷ cs) → slot_value [] w ≡ slot_value (c ∷ cs) v → ⊥
values_apart c cs None v k e = absurd (omega (arith, ap length (e ∙ slot_value-cons c cs v)))
values_apart c cs (Some s) v k e = k 0 (omega arith) (sym (ap (λ l. get_or l 0 0) (e ∙ slot_value-cons c cs v)))

-- where its slot lacks a slash, a value is put together in one way
pub values_once : (a c : List ℕ) (w v : Option (List ℕ)) → LacksSlash a → LacksSlash c → slot_value a w ≡ slot_value c v → (a ≡ c) × (w ≡ v)
values_once [] [] w v h k e = (refl, values_without w v e)
values_once [] (c ∷ cs) w v h k e = absurd (values_apart c cs w v k e)
values_once (a ∷ as') [] w v h k e = absurd (values_apart a as' v w h (sym e))
values_once (a ∷ as') (c ∷ cs) w v h k e =
    let same : a ∷ slot_value as' w ≡ c ∷ slot_value cs v = sym (slot_value-cons a as' w) ∙ e ∙ slot_value-cons c cs v in
    let rest : (as' ≡ cs) × (w ≡ v) = values_once as' cs w v (tail_lacks a as' h) (tail_lacks c cs k) (ap (drop 1) same) in
    (ap (λ l. a ∷ l) rest.0 ∙ ap (λ l. get_or l 0 0 ∷ cs) same, rest.1)

-- what a text whose slot lacks a slash writes is what it is put together from
pub writes_parts : (front slot : List ℕ) (w v : Option (List ℕ)) → LacksSlash front → Writes (slot_value front w) slot v → IsName Slot front × IsWritten w
writes_parts front slot w v h is =
    let once : (front ≡ slot) × (w ≡ v) = values_once front slot w v h (name_lacks slot is.named) is.spelled in
    (subst (IsName Slot) (sym once.0) is.named, subst IsWritten (sym once.1) is.form)

-- a text writes one slot, and one subslot or none
pub writes_once : (text a c : List ℕ) (w v : Option (List ℕ)) → Writes text a w → Writes text c v → (a ≡ c) × (w ≡ v)
writes_once text a c w v p q = values_once a c w v (name_lacks a p.named) (name_lacks c q.named) (sym p.spelled ∙ q.spelled)

pub one_value : (text a b c d : List ℕ) → IsSlotValue text a b → IsSlotValue text c d → (a ≡ c) × (b ≡ d)
one_value text a b c d p q =
    let once : (a ≡ c) × (p.written ≡ q.written) = values_once a c p.written q.written (name_lacks a p.named) (name_lacks c q.named) (sym p.spelled ∙ q.spelled) in
    (once.0, p.means ∙ ap (λ w. unwrap_or w a) once.1 ∙ ap (unwrap_or q.written) once.0 ∙ sym q.means)

to_the_end : (at : ℕ) (text : List ℕ) → take (length text - at) (drop at text) ≡ drop at text
to_the_end at text = ap (λ n. take n (drop at text)) (sym (length-drop at text)) ∙ take-length (drop at text)

pub first_slash_cuts : (text : List ℕ) (at : ℕ) → IsFirstSlash text at → text ≡ take at text ++ (47 ∷ take (length text - (at + 1)) (drop (at + 1) text))
first_slash_cuts text at first =
    let behind : drop at text ≡ 47 ∷ drop (at + 1) text = drop-cons text at 0 first.within ∙ ap (λ b. b ∷ drop (suc at) text) first.slash ∙ ap (λ n. 47 ∷ drop n text) (sym (add-one at)) in
    sym (take-append-drop at text) ∙ ap (λ r. take at text ++ r) (behind ∙ ap (λ r. 47 ∷ r) (sym (to_the_end (at + 1) text)))

pub printed_says : (slot subslot : List ℕ) → IsName Slot slot → IsName Slot subslot → IsSlotValue (slot_text slot subslot) slot subslot
printed_says slot subslot p q = elim (cases_Bool (bytes_eq slot subslot)) [
  | inl same ↦ record { written = None; named = p; form = tt; spelled = rw same refl; means = sym ((bytes_eq-Decides slot subslot).0 same) }
  | inr apart ↦ record { written = Some subslot; named = p; form = q; spelled = rw apart refl; means = refl }
]
