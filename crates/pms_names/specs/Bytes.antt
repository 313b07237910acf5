-- The bytes of which names are made (PMS 3.1).
use Rattle.std.specs.Prelude.{ℕ, Bool, not, ◌||◌, ◌==◌}
use Rattle.std.specs.Char.{is_ascii_alphanumeric}
use Rattle.pms_names.specs.declared.kind.Kind.{Kind}
use Rattle.pms_names.specs.declared.kind.Kind.TheVariants.{Category, Package, Slot, Flag}

abbrev pub plus : ℕ
plus = 43

abbrev pub hyphen : ℕ
hyphen = 45

abbrev pub full_stop : ℕ
full_stop = 46

abbrev pub at_sign : ℕ
at_sign = 64

abbrev pub underscore : ℕ
underscore = 95

-- letters, digits, and the signs that stand in every kind of name
abbrev pub is_name_byte : ℕ → Bool
is_name_byte b = is_ascii_alphanumeric b || (b == plus || (b == underscore || b == hyphen))

-- the byte may stand in a name of the kind
abbrev pub may_contain : Kind → ℕ → Bool
may_contain Category b = is_name_byte b || b == full_stop
may_contain Package b = is_name_byte b
may_contain Slot b = is_name_byte b || b == full_stop
may_contain Flag b = is_name_byte b || b == at_sign

-- the byte is one with which no name of the kind begins, wherever else it may stand
abbrev pub begins_badly : Kind → ℕ → Bool
begins_badly Category b = b == hyphen || (b == full_stop || b == plus)
begins_badly Package b = b == hyphen || b == plus
begins_badly Slot b = b == hyphen || (b == full_stop || b == plus)
begins_badly Flag b = not (is_ascii_alphanumeric b)
