-- Why a text is no atom.
use Rattle.std.proofs.Common.{◌≡◌, ◌∙◌, ℕ, ◌+◌, ◌-◌, ◌<◌, ◌≤◌, ◌⊎◌, inl, inr, arith, length, length-append, Bool, true, false, List, [], ◌∷◌, ◌++◌, get_or, sym, ap, subst}
use Rattle.std.specs.List.{AllByRecursion}
use Rattle.std.proofs.lemmas.Bool.Decides.{nat_tests}
use Rattle.dep_atom.specs.declared.atom.Block.{Block}
use Rattle.dep_atom.specs.declared.atom.Op.{Op}
use Rattle.dep_atom.specs.declared.slot.SlotPart.{SlotPart}
use Rattle.dep_atom.specs.declared.uses.UseDep.{UseDep}
use Rattle.dep_atom.specs.declared.fault.AtomFault.{AtomFault}
use Rattle.dep_atom.specs.declared.fault.AtomFault.TheVariants.{Name, Version, OperatorWithoutVersion, VersionWithoutOperator, BadStar, BadSlot, BadUse, Memory}
use Rattle.dep_atom.specs.Cuts.{is_either, Lacks, Starts, end_text}
use Rattle.dep_atom.specs.Faults.{IsSlotFault, BeginsNoItem, IsNoEnd, before_item, GoesWrong, EndFault, IsUnstarred, NameVersionFault, StarredFault, BodyFault, SlotTextFault, UsesTextFault, IsBodyText, IsSlotText, FirstFault}
use Rattle.dep_atom.specs.Form.{IsSlotForm, IsUseForm}
use Rattle.dep_atom.specs.Reading.{block_at, op_at}
use Rattle.dep_atom.specs.Text.{block_text, op_text, slot_text, opened_text, uses_text}
use Rattle.dep_atom.proofs.Once.{star_end}

pub unstarred : (text front : List ℕ) (star : Bool) → text ≡ front ++ end_text 42 star → (star ≡ false → (f : List ℕ) → text ≡ f ++ (42 ∷ []) → ⊥) → IsUnstarred text front star
unstarred text front star e none = record { whole = e ∙ ap (λ s. front ++ s) (sym (star_end star)); none = none }

pub starred : (may_star : Bool) (front : List ℕ) (star : Bool) (fault : AtomFault) → NameVersionFault front fault → StarredFault may_star front star fault
starred may_star front star Name f = f
starred may_star front star Version f = f
starred may_star front star OperatorWithoutVersion f = f
starred may_star front star VersionWithoutOperator f = absurd f
starred may_star front star BadStar f = absurd f
starred may_star front star BadSlot f = absurd f
starred may_star front star (BadUse k) f = absurd f
starred may_star front star Memory f = tt

pub slot_blame : (text : List ℕ) (fault : AtomFault) → IsSlotFault fault → ((s : SlotPart) → IsSlotForm s → text ≡ slot_text s → fault ≡ Memory) → SlotTextFault text fault
slot_blame text Name is only = absurd is
slot_blame text Version is only = absurd is
slot_blame text OperatorWithoutVersion is only = absurd is
slot_blame text VersionWithoutOperator is only = absurd is
slot_blame text BadStar is only = absurd is
slot_blame text BadSlot is only = λ s form e. absurd (let m = only s form e in cc)
slot_blame text (BadUse k) is only = absurd is
slot_blame text Memory is only = tt

-- behind an item nothing stands but a comma or a closing bracket
pub no_end : (rest : List ℕ) → Starts 44 93 rest → ((more : List ℕ) → rest ≡ 44 ∷ more → ⊥) → ((more : List ℕ) → rest ≡ 93 ∷ more → ⊥) → IsNoEnd rest
no_end [] starts comma bracket = tt
no_end (b ∷ rest) starts comma bracket = absurd (neither b (λ e. comma rest (ap (λ x. x ∷ rest) e)) (λ e. bracket rest (ap (λ x. x ∷ rest) e)) starts)
  where
    neither : (b : ℕ) → (b ≡ 44 → ⊥) → (b ≡ 93 → ⊥) → is_either 44 93 b ≡ true → ⊥
    neither b p q t = grind (arith, nat_tests)

pub end_unmet : (total at : ℕ) (uses rest : List ℕ) (items : List UseDep) → AllByRecursion IsUseForm items → 0 < length items → uses ≡ opened_text items ++ rest → at ≡ total - length rest → IsNoEnd rest → EndFault total uses (BadUse at)
end_unmet total at uses rest items forms some e place none = (rest, place, record { items = items; forms = forms; why = inr (some, e, none) })

within : (uses left : List ℕ) → GoesWrong uses left → length left ≤ length uses
within uses left wrong = cases wrong.why
  where
    cases : ((uses ≡ before_item wrong.items ++ left) × BeginsNoItem left) ⊎ ((0 < length wrong.items) × (uses ≡ opened_text wrong.items ++ left) × IsNoEnd left) → length left ≤ length uses
    cases (inl w) = omega (arith, ap length w.0, length-append (before_item wrong.items) left)
    cases (inr w) = omega (arith, ap length w.1, length-append (opened_text wrong.items) left)

shorter : (whole front behind : List ℕ) → whole ≡ front ++ behind → length behind ≤ length whole
shorter whole front behind e = omega (arith, ap length e, length-append front behind)

-- what stands behind the block, the operator, the package and the slot part
pub ending_within : (text block behind_block op behind_op body behind slot uses : List ℕ) → text ≡ block ++ behind_block → behind_block ≡ op ++ behind_op → behind_op ≡ body ++ behind → behind ≡ slot ++ uses → length uses ≤ length text
ending_within text block behind_block op behind_op body behind slot uses e f g h = omega (arith, shorter text block behind_block e, shorter behind_block op behind_op f, shorter behind_op body behind g, shorter behind slot uses h)

pub uses_blame : (total : ℕ) (text uses : List ℕ) (fault : AtomFault) → total ≡ length text → length uses ≤ length text → EndFault total uses fault → ((us : List UseDep) → AllByRecursion IsUseForm us → uses ≡ uses_text us → fault ≡ Memory) → UsesTextFault text uses fault
uses_blame total text uses Name same ends why only = absurd why
uses_blame total text uses Version same ends why only = absurd why
uses_blame total text uses OperatorWithoutVersion same ends why only = absurd why
uses_blame total text uses VersionWithoutOperator same ends why only = absurd why
uses_blame total text uses BadStar same ends why only = absurd why
uses_blame total text uses BadSlot same ends why only = absurd why
uses_blame total text uses (BadUse k) same ends why only = (λ us forms e. absurd (let m = only us forms e in cc), (why.0, omega (arith, why.1, same, ends, within uses why.0 why.2), why.2))
uses_blame total text uses Memory same ends why only = tt

pub blame : (text bytes behind_block behind_op body behind slot uses : List ℕ) (block : Block) (op : Op) (fault : AtomFault) → bytes ≡ text → bytes ≡ block_text block ++ behind_block → block ≡ block_at (get_or bytes 0 0) (get_or bytes 1 0) → behind_block ≡ op_text op ++ behind_op → op ≡ op_at (get_or behind_block 0 0) (get_or behind_block 1 0) → behind_op ≡ body ++ behind → Lacks 58 91 body → Starts 58 91 behind → behind ≡ slot ++ uses → Lacks 91 91 slot → Starts 91 91 uses → BodyFault op body fault ⊎ (IsBodyText op body × (SlotTextFault slot fault ⊎ (IsSlotText slot × UsesTextFault bytes uses fault))) → FirstFault text fault
blame text bytes behind_block behind_op body behind slot uses block op fault same parts block_told op_parts op_told body_parts lacks starts tail slot_lacks uses_start why =
    let all : behind_block ≡ op_text op ++ (body ++ (slot ++ uses)) = op_parts ∙ ap (λ x. op_text op ++ x) (body_parts ∙ ap (λ x. body ++ x) tail) in
    subst (λ (t : List ℕ). FirstFault t fault) same (record {
      cut = record {
        block = block;
        op = op;
        body = body;
        slot = slot;
        uses = uses;
        whole = parts ∙ ap (λ x. block_text block ++ x) all;
        block_told = block_told;
        op_told = op_told ∙ ap (λ (x : List ℕ). op_at (get_or x 0 0) (get_or x 1 0)) all;
        body_lacks = lacks;
        slot_starts = subst (λ (x : List ℕ). Starts 58 91 x) tail starts;
        slot_lacks = slot_lacks;
        uses_start = uses_start;
      };
      why = why;
    })
