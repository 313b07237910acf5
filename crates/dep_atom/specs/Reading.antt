-- What a text's first bytes, or its last, say of its block, its operator and the kind of a USE
-- item.
use Rattle.std.specs.Prelude.{ℕ, Bool, true, false, ◌==◌, if◌then◌else◌}
use Rattle.dep_atom.specs.declared.atom.Block.{Block}
use Rattle.dep_atom.specs.declared.atom.Block.TheVariants.{No, Weak, Strong}
use Rattle.dep_atom.specs.declared.atom.Op.{Op}
use Rattle.dep_atom.specs.declared.atom.Op.TheVariants.{Any, Less, LessEqual, Equal, Similar, GreaterEqual, Greater}
use Rattle.dep_atom.specs.declared.uses.UseKind.{UseKind}
use Rattle.dep_atom.specs.declared.uses.UseKind.TheVariants.{On, Off, Same, Opposite, OnIfOn, OffIfOff}

-- the block that the first two bytes tell
abbrev pub block_at : ℕ → ℕ → Block
block_at a b = if a == 33 then (if b == 33 then Strong else Weak) else No

-- the operator that the first two bytes tell
abbrev pub op_at : ℕ → ℕ → Op
op_at a b =
    if a == 60 then (if b == 61 then LessEqual else Less)
    else (if a == 62 then (if b == 61 then GreaterEqual else Greater)
    else (if a == 61 then Equal else (if a == 126 then Similar else Any)))

-- `=` ends the item
abbrev pub has_equals : UseKind → Bool
has_equals On = false
has_equals Off = false
has_equals Same = true
has_equals Opposite = true
has_equals OnIfOn = false
has_equals OffIfOff = false

-- `?` ends the item
abbrev pub has_question : UseKind → Bool
has_question On = false
has_question Off = false
has_question Same = false
has_question Opposite = false
has_question OnIfOn = true
has_question OffIfOff = true

-- the kind that the first byte and the two signs at the end tell, of which at most one stands
abbrev pub use_kind_at : ℕ → Bool → Bool → UseKind
use_kind_at a equals question =
    if equals then (if a == 33 then Opposite else Same)
    else (if question then (if a == 33 then OffIfOff else OnIfOn)
    else (if a == 45 then Off else On))
