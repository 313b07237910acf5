-- Which fault of a text that is no atom comes first, from left to right.
use Rattle.std.specs.Prelude.{◌≡◌, ℕ, ◌+◌, ◌-◌, ◌<◌, ◌⊎◌, Bool, true, false, List, [], ◌∷◌, ◌++◌, length, slice_index, Option, ⊤}
use Rattle.std.specs.List.{AllByRecursion}
use Rattle.pms_grammar.specs.Grammar.{IsVersionText, VersionValue}
use Rattle.pms_names.specs.declared.name.Name.{Name}
use Rattle.dep_atom.specs.declared.atom.Block.{Block}
use Rattle.dep_atom.specs.declared.atom.Op.{Op}
use Rattle.dep_atom.specs.declared.atom.Op.TheVariants.{Any, Equal}
use Rattle.dep_atom.specs.declared.slot.SlotPart.{SlotPart}
use Rattle.dep_atom.specs.declared.uses.UseDep.{UseDep}
use Rattle.dep_atom.specs.declared.fault.AtomFault.{AtomFault}
use Rattle.dep_atom.specs.declared.fault.AtomFault.TheVariants as faults
use Rattle.dep_atom.specs.Cuts.{Lacks, Starts}
use Rattle.dep_atom.specs.Form.{IsPackageForm, IsSlotForm, IsUseForm}
use Rattle.dep_atom.specs.Naming.{BeginsNumber, IsNameText, IsReadableText, NameThen}
use Rattle.dep_atom.specs.Reading.{block_at, op_at}
use Rattle.dep_atom.specs.Text.{block_text, op_text, name_text, version_part, star_text, slot_text, use_text, opened_text, uses_text}

-- the kinds of faults that reading one part can end in
abbrev pub IsSlotFault : AtomFault → Type 0
IsSlotFault faults.BadSlot = ⊤
IsSlotFault faults.Memory = ⊤
IsSlotFault _ = ⊥

-- the fault of a USE item that begins at `at`
abbrev pub IsUseFaultAt : ℕ → AtomFault → Type 0
IsUseFaultAt at (faults.BadUse k) = k ≡ at
IsUseFaultAt at faults.Memory = ⊤
IsUseFaultAt at _ = ⊥

-- the first fault of what stands in an atom without an operator: a version behind the name, or else
-- the name
abbrev pub PlainFault : List ℕ → AtomFault → Type 0
PlainFault text faults.VersionWithoutOperator = NameThen IsVersionText text
PlainFault text faults.Name = (¬ IsNameText text) × (¬ NameThen IsVersionText text)
PlainFault text faults.Memory = ⊤
PlainFault text _ = ⊥

-- the first fault of what is to be a name, a hyphen and a version: a name stands alone; or what it
-- begins with is no name with a hyphen and a digit; or it is, but no version within the limits
-- stands behind that hyphen
abbrev pub NameVersionFault : List ℕ → AtomFault → Type 0
NameVersionFault text faults.OperatorWithoutVersion = IsNameText text
NameVersionFault text faults.Name = (¬ IsNameText text) × (¬ NameThen BeginsNumber text)
NameVersionFault text faults.Version =
    (¬ IsNameText text) × NameThen BeginsNumber text × (¬ NameThen IsReadableText text)
NameVersionFault text faults.Memory = ⊤
NameVersionFault text _ = ⊥

-- a name and a version stand there, and an asterisk behind them, where none may
pub record HasBadStar (may_star : Bool) (front : List ℕ) (star : Bool) : Type 0 where
  pub versioned : NameThen IsReadableText front
  pub unasked : may_star ≡ false
  pub starred : star ≡ true

-- the same fault, or that of the asterisk
abbrev pub StarredFault : Bool → List ℕ → Bool → AtomFault → Type 0
StarredFault may_star front star faults.BadStar = HasBadStar may_star front star
StarredFault may_star front star fault = NameVersionFault front fault

-- the text without an asterisk at its end, and whether one stood there
pub record IsUnstarred (text front : List ℕ) (star : Bool) : Type 0 where
  pub whole : text ≡ front ++ star_text star
  pub none : star ≡ false → (f : List ℕ) → ¬ (text ≡ f ++ (42 ∷ []))

-- the first fault of what stands behind an operator
pub record VersionedFault (may_star : Bool) (text : List ℕ) (fault : AtomFault) : Type 0 where
  pub front : List ℕ
  pub star : Bool
  pub unstarred : IsUnstarred text front star
  pub why : StarredFault may_star front star fault

-- the first fault of what stands behind this operator
abbrev pub BodyFault : Op → List ℕ → AtomFault → Type 0
BodyFault Any text fault = PlainFault text fault
BodyFault Equal text fault = VersionedFault true text fault
BodyFault _ text fault = VersionedFault false text fault

abbrev pub SlotTextFault : List ℕ → AtomFault → Type 0
SlotTextFault text faults.BadSlot = (s : SlotPart) → IsSlotForm s → ¬ (text ≡ slot_text s)
SlotTextFault text faults.Memory = ⊤
SlotTextFault text _ = ⊥

-- what stands here, up to a comma, a closing bracket or the end, is no USE item
pub record BeginsNoItem (left : List ℕ) : Type 0 where
  pub item : List ℕ
  pub behind : List ℕ
  pub whole : left ≡ item ++ behind
  pub lacks : Lacks 44 93 item
  pub ends : Starts 44 93 behind
  pub none : (u : UseDep) → IsUseForm u → ¬ (item ≡ use_text u)

-- nothing stands here, or a closing bracket with more behind it
abbrev pub IsNoEnd : List ℕ → Type 0
IsNoEnd [] = ⊤
IsNoEnd (b ∷ []) = ⊥
IsNoEnd (b ∷ c ∷ more) = b ≡ 93

-- a USE part up to where its next item begins
abbrev pub before_item : List UseDep → List ℕ
before_item [] = 91 ∷ []
before_item (first ∷ others) = opened_text (first ∷ others) ++ (44 ∷ [])

-- a USE part is in order up to `left`, where an item is to begin and none does, or the list is to
-- end and doesn't
pub record GoesWrong (uses left : List ℕ) : Type 0 where
  pub items : List UseDep
  pub forms : AllByRecursion IsUseForm items
  pub why : ((uses ≡ before_item items ++ left) × BeginsNoItem left)
      ⊎ ((0 < length items) × (uses ≡ opened_text items ++ left) × IsNoEnd left)

-- the fault of the USE item with which the text begins, at `at`
abbrev pub ItemFault : ℕ → List ℕ → AtomFault → Type 0
ItemFault at text (faults.BadUse k) = (k ≡ at) × BeginsNoItem text
ItemFault at text faults.Memory = ⊤
ItemFault at text _ = ⊥

-- the fault of a USE part with which a text of `total` bytes ends
abbrev pub EndFault : ℕ → List ℕ → AtomFault → Type 0
EndFault total uses (faults.BadUse at) =
    (left : List ℕ) × (at ≡ total - length left) × GoesWrong uses left
EndFault total uses faults.Memory = ⊤
EndFault total uses _ = ⊥

-- no USE part is so spelled, and it goes wrong `at` bytes behind the beginning of the whole text
abbrev pub UsesTextFault : List ℕ → List ℕ → AtomFault → Type 0
UsesTextFault text uses (faults.BadUse at) =
    ((us : List UseDep) → AllByRecursion IsUseForm us → ¬ (uses ≡ uses_text us))
    × ((left : List ℕ) × (at + length left ≡ length text) × GoesWrong uses left)
UsesTextFault text uses faults.Memory = ⊤
UsesTextFault text uses _ = ⊥

-- an atom's text as it comes apart: the block and the operator that it begins with, what stands
-- before the first colon or opening bracket, what stands before the first opening bracket behind
-- that, and the rest
pub record Cut (text : List ℕ) : Type 0 where
  pub block : Block
  pub op : Op
  pub body : List ℕ
  pub slot : List ℕ
  pub uses : List ℕ
  pub whole : text ≡ block_text block ++ (op_text op ++ (body ++ (slot ++ uses)))
  pub block_told : block ≡ block_at (slice_index text 0) (slice_index text 1)
  pub op_told : op ≡ op_at (slice_index (op_text op ++ (body ++ (slot ++ uses))) 0)
      (slice_index (op_text op ++ (body ++ (slot ++ uses))) 1)
  pub body_lacks : Lacks 58 91 body
  pub slot_starts : Starts 58 91 (slot ++ uses)
  pub slot_lacks : Lacks 91 91 slot
  pub uses_start : Starts 91 91 uses

-- the text between the operator and the slot part is in order
abbrev pub IsBodyText : Op → List ℕ → Type 0
IsBodyText op text =
    (name : Name) × (version : Option VersionValue) × (star : Bool) ×
    IsPackageForm op name version star
    × (text ≡ name_text name ++ (version_part version ++ star_text star))

abbrev pub IsSlotText : List ℕ → Type 0
IsSlotText text = (s : SlotPart) × IsSlotForm s × (text ≡ slot_text s)

-- the first fault: of the package, then of the slot part, then of the USE part
pub record FirstFault (text : List ℕ) (fault : AtomFault) : Type 0 where
  pub cut : Cut text
  pub why : BodyFault cut.op cut.body fault
      ⊎ (IsBodyText cut.op cut.body × (SlotTextFault cut.slot fault
      ⊎ (IsSlotText cut.slot × UsesTextFault text cut.uses fault)))
