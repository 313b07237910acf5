-- A text that has one word says what the word says.
use Rattle.std.proofs.Common.{◌≡◌, ◌∙◌, ℕ, List, [], get_or, Option, Some, None, MatchOption, Result, Ok, Err, ap, sym, subst}
use Rattle.std.specs.Prelude.{IfOk}
use Rattle.std.specs.declared.alloc.AllocError.{AllocError}
use Rattle.pkg_state.specs.Eapis.{IsNoEapi, eapi_text}
use Rattle.pkg_state.specs.declared.eapi.Eapi.{Eapi}
use Rattle.pms_slot.specs.Reading.{ReadsSlots}
use Rattle.pms_slot.specs.Slots.{IsSlotValue}
use Rattle.pms_slot.specs.declared.value.SlotValue.{SlotValue}
use Rattle.dep_group.specs.Words.{words_of}
use Rattle.vdb_law.specs.Fields.{AreSlots}
use Rattle.vdb_values.specs.Values.{IsAlone, SaysNoEapi, SaysNoSlots}

one_word : (text a b : List ℕ) → IsAlone text a → IsAlone text b → a ≡ b
one_word text a b alone other = ap (λ (l : List (List ℕ)). get_or l 0 []) (sym alone ∙ other)

pub eapi_alone : (text word : List ℕ) (o : Option Eapi) → IsAlone text word → MatchOption o (IsNoEapi word) (λ e. eapi_text e ≡ word) → MatchOption o (SaysNoEapi text) (λ e. IsAlone text (eapi_text e))
eapi_alone text word None alone h = λ e is. h e (one_word text (eapi_text e) word is alone)
eapi_alone text word (Some e) alone h = subst (IsAlone text) (sym h) alone

pub slots_alone : (text word bytes : List ℕ) (r : Result (Option SlotValue) AllocError) → IsAlone text word → bytes ≡ word → ReadsSlots bytes r
    → IfOk r (λ o. MatchOption o (SaysNoSlots text) (λ v. AreSlots (words_of text) v.slot v.subslot))
slots_alone text word bytes (Err e) alone same h = h
slots_alone text word bytes (Ok None) alone same h = λ slot subslot are.
    (let first : are.word ≡ word = one_word text are.word word are.alone alone in
    h slot subslot (subst (λ (w : List ℕ). IsSlotValue w slot subslot) (first ∙ sym same) are.says))
slots_alone text word bytes (Ok (Some v)) alone same h =
    record { word = word; alone = alone; says = subst (λ (w : List ℕ). IsSlotValue w v.slot v.subslot) same h }
