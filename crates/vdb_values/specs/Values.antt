-- What the texts of a record's values say.
use Rattle.std.specs.Prelude.{◌≡◌, ◌||◌, ℕ, Bool, true, false, List, [], ◌∷◌, ⊤, Some, bytes_eq, map, slice_get, take}
use Rattle.std.specs.List.{AllByRecursion}
use Rattle.pms_names.specs.Flags.{IsRising, has}
use Rattle.pms_names.specs.Names.{IsName}
use Rattle.pms_names.specs.declared.kind.Kind.TheVariants as kinds
use Rattle.dep_group.specs.Words.{Spot, place, texts, words, words_of}
use Rattle.use_flags.specs.Items.{flag_of}
use Rattle.dep_tree.specs.Faults.{IsMemory}
use Rattle.dep_tree.specs.Faults as trees
use Rattle.dep_tree.specs.Texts.{Dependencies, Writes}
use Rattle.dep_tree.specs.declared.fault.TreeTextFault.{TreeTextFault}
use Rattle.pkg_state.specs.Eapis.{eapi_text}
use Rattle.pkg_state.specs.declared.eapi.Eapi.{Eapi}
use Rattle.vdb_law.specs.Fields.{AreFlags, AreSlots, bound_of}
use Rattle.vdb_values.specs.declared.fault.FlagFault.{FlagFault}
use Rattle.vdb_values.specs.declared.fault.FlagFault.TheVariants as faults

-- the text writes dependencies that are these, once each equals operator that is bound to no
-- subslot is dropped; `empty` says whether an any-of group without members holds
abbrev pub Needs : Bool → List ℕ → Dependencies → Type 0
Needs empty text needs = (x : Dependencies) × Writes empty text x × (needs ≡ bound_of x)

-- but for want of memory the fault is the text's first one
abbrev pub IsFirstFault : List ℕ → TreeTextFault → Type 0
IsFirstFault text fault = ¬ IsMemory fault → trees.FirstFault text fault

-- the text has this word and no other
abbrev pub IsAlone : List ℕ → List ℕ → Type 0
IsAlone text word = words_of text ≡ word ∷ []

-- the text says no edition that is read
abbrev pub SaysNoEapi : List ℕ → Type 0
SaysNoEapi text = (e : Eapi) → ¬ IsAlone text (eapi_text e)

-- the text says no slot and subslot
abbrev pub SaysNoSlots : List ℕ → Type 0
SaysNoSlots text = (slot subslot : List ℕ) → ¬ AreSlots (words_of text) slot subslot

-- the flag of a word, without the mark of its default where words may have one
abbrev pub flag_in : Bool → List ℕ → List ℕ
flag_in true word = flag_of word
flag_in false word = word

-- the word is one of a flag
abbrev pub IsFlagWord : Bool → List ℕ → Type 0
IsFlagWord marked word = IsName kinds.Flag (flag_in marked word)

-- the set has just the flags of the words
abbrev pub HasFlags : Bool → List Spot → List (List ℕ) → Type 0
HasFlags marked ws set = AreFlags (map (flag_in marked) (texts ws)) set

-- the first word that is none of a flag has this index
pub record IsFirstBad (marked : Bool) (ws : List (List ℕ)) (index : ℕ) : Type 0 where
  pub word : List ℕ
  pub there : slice_get ws index ≡ Some word
  pub bad : ¬ IsFlagWord marked word
  pub before : AllByRecursion (IsFlagWord marked) (take index ws)

-- the fault is the first of the words that is none of a flag, at the place of its first byte;
-- memory may run out on any words
abbrev pub IsFault : Bool → List Spot → FlagFault → Type 0
IsFault marked ws (faults.Word at) =
    (index : ℕ) × IsFirstBad marked (texts ws) index × (at ≡ place ws index)
IsFault marked ws faults.Memory = ⊤

abbrev pub FirstFault : Bool → List ℕ → FlagFault → Type 0
FirstFault marked text fault = IsFault marked (words 0 text) fault

-- the set that was is now with the flag of the word
pub record AddsWord (marked : Bool) (word : List ℕ) (was set : List (List ℕ)) : Type 0 where
  pub good : IsFlagWord marked word
  pub now : (q : List ℕ) → has set q ≡ (bytes_eq q (flag_in marked word) || has was q)
  pub rising : IsRising set
