-- Tests on a byte of an ASCII text.
use Rattle.std.specs.Prelude.{ℕ, Bool, ◌&&◌, nat_le}

-- a digit 0 to 9
abbrev pub is_digit : ℕ → Bool
is_digit b = nat_le 48 b && nat_le b 57

-- a letter a to z
abbrev pub is_lower : ℕ → Bool
is_lower b = nat_le 97 b && nat_le b 122
