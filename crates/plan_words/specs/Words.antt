-- The words that tell why a plan is refused: the rule that it breaks, and what it breaks it with.
use Rattle.std.specs.Prelude.{ℕ, List, [], ◌∷◌, Option, None, Some, codes, decimal, map}
use Rattle.dep_atom.specs.Ids.{id_text}
use Rattle.dep_atom.specs.Text.{value_text}
use Rattle.dep_atom.specs.Values.{AtomValue}
use Rattle.dep_atom.specs.declared.package.PackageId.{PackageId}
use Rattle.dep_atom.specs.declared.slot.Bind.{Bind}
use Rattle.pkg_state.specs.Fault.{Fault}
use Rattle.pkg_state.specs.Fault as state
use Rattle.pkg_state.specs.Package.{class_word}
use Rattle.plan_rules.specs.Refusals.{Refusal, Absent, Barred, Binding, Blocked, Build, Final, Line, Occupied, Opening, RequiredUse, Unsafe, Unsatisfied}
use Rattle.plan_text.specs.Words.{slots_word}

-- a leaf, or `-` where none is named
abbrev pub leaf_word : Option AtomValue → List ℕ
leaf_word None = codes "-"
leaf_word (Some a) = value_text a

-- a bind as `slot/subslot`, or `-` where none is there
abbrev pub found_word : Option Bind → List ℕ
found_word None = codes "-"
found_word (Some b) = slots_word b.slot b.subslot

-- the package that is first wrong to begin with
abbrev pub broken_id : Fault → PackageId
broken_id (state.SlotTwice one other) = one
broken_id (state.RequiredUse one) = one
broken_id (state.Blocked one by) = one
broken_id (state.Runtime one missing) = one

-- the rule, and then what it names, in one order for each rule
abbrev pub refusal_words : Refusal → List (List ℕ)
refusal_words (Line line g h) = codes "Line" ∷ line ∷ decimal g ∷ decimal h ∷ []
refusal_words (Absent g id) = codes "Absent" ∷ decimal g ∷ id_text id ∷ []
refusal_words (Occupied g id other) =
    codes "Occupied" ∷ decimal g ∷ id_text id ∷ id_text other ∷ []
refusal_words (Opening fault) = codes "OpeningBroken" ∷ id_text (broken_id fault) ∷ []
refusal_words (RequiredUse id) = codes "RequiredUse" ∷ id_text id ∷ []
refusal_words (Binding id leaf found) =
    codes "Binding" ∷ id_text id ∷ leaf_word leaf ∷ found_word found ∷ []
refusal_words (Unsatisfied g id class leaf) =
    codes "Unsatisfied" ∷ decimal g ∷ id_text id ∷ class_word class ∷ leaf_word leaf ∷ []
refusal_words (Unsafe id class leaf meeting) =
    codes "Unsafe" ∷ id_text id ∷ class_word class ∷ leaf_word leaf ∷ codes "groups"
    ∷ map decimal meeting
refusal_words (Blocked id other) = codes "WeakBlock" ∷ id_text id ∷ id_text other ∷ []
refusal_words (Barred g id other) = codes "StrongBlock" ∷ id_text id ∷ id_text other ∷ []
refusal_words (Build g id class leaf) =
    codes "Build" ∷ decimal g ∷ id_text id ∷ class_word class ∷ leaf_word leaf ∷ []
refusal_words (Final id leaf) = codes "Final" ∷ id_text id ∷ leaf_word leaf ∷ []
