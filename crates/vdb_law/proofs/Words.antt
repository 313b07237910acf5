-- Names and slots are words: no byte of them is a blank.
use Rattle.std.proofs.Common.{◌≡◌, ◌∙◌, ◌++◌, ◌&&◌, ℕ, arith, true, false, not, List, [], ◌∷◌, inl, inr, refl, ap}
use Rattle.std.specs.Prelude.{bytes_eq, if◌then◌else◌}
use Rattle.std.specs.List.{AllByRecursion}
use Rattle.std.proofs.lemmas.Bool.{cases_Bool}
use Rattle.basics.specs.Blanks.{is_blank}
use Rattle.basics.proofs.Each.{all-append}
use Rattle.pms_names.specs.Names.{IsName}
use Rattle.pms_names.specs.declared.kind.Kind.{Kind}
use Rattle.pms_names.specs.declared.kind.Kind.TheVariants as kinds
use Rattle.dep_atom.proofs.Plain.{ArePlain, plain_differs, plain_name}
use Rattle.dep_group.specs.Words.{is_word}
use Rattle.pms_slot.specs.Slots.{slot_text}

-- no byte of the text is a blank
abbrev AreSolid : List ℕ → Type 0
AreSolid bytes = AllByRecursion (λ b. is_blank b ≡ false) bytes

plain_solid : (bytes : List ℕ) → ArePlain bytes → AreSolid bytes
plain_solid [] h = tt
plain_solid (b ∷ bs) h = (rw (plain_differs b 32 refl h.0, plain_differs b 9 refl h.0, plain_differs b 10 refl h.0, plain_differs b 13 refl h.0) refl, plain_solid bs h.1)

solid_word : (b : ℕ) (bs : List ℕ) → AreSolid (b ∷ bs) → is_word (b ∷ bs) ≡ true
solid_word b [] h = ap not h.0
solid_word b (c ∷ bs) h = ap (λ x. not x && is_word (c ∷ bs)) h.0 ∙ solid_word c bs h.1

name_solid : (kind : Kind) (bytes : List ℕ) → IsName kind bytes → AreSolid bytes
name_solid kind bytes is = plain_solid bytes (plain_name kind bytes is)

pub name_word : (kind : Kind) (bytes : List ℕ) → IsName kind bytes → is_word bytes ≡ true
name_word kind [] is = absurd (omega (arith, is.spelled.sized.some))
name_word kind (b ∷ bs) is = solid_word b bs (name_solid kind (b ∷ bs) is)

pub slot_word : (slot subslot : List ℕ) → IsName kinds.Slot slot → IsName kinds.Slot subslot → is_word (slot_text slot subslot) ≡ true
slot_word [] subslot is also = absurd (omega (arith, is.spelled.sized.some))
slot_word (b ∷ bs) subslot is also =
    let solid = name_solid kinds.Slot (b ∷ bs) is in
    let more = name_solid kinds.Slot subslot also in
    elim (cases_Bool (bytes_eq (b ∷ bs) subslot)) [
      | inl e ↦ (ap (λ x. is_word (if x then b ∷ bs else (b ∷ bs) ++ (47 ∷ subslot))) e ∙ solid_word b bs solid)
      | inr e ↦ (ap (λ x. is_word (if x then b ∷ bs else (b ∷ bs) ++ (47 ∷ subslot))) e ∙ solid_word b (bs ++ (47 ∷ subslot)) (all-append (λ (x : ℕ). is_blank x ≡ false) (b ∷ bs) (47 ∷ subslot) solid (refl, more)))
    ]
