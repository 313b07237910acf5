-- The texts that a link of a package may lead to.
use Rattle.std.specs.Prelude.{◌==◌, ◌&&◌, ℕ, Bool, not, List, length, nat_le, nat_lt}
use Rattle.std.specs.List.{list_all}
use Rattle.std.specs.Str.{is_utf8}

-- the greatest length of a target, in bytes
abbrev pub most_bytes : ℕ
most_bytes = 4095

-- a byte that is no newline and no NUL
abbrev pub is_target_byte : ℕ → Bool
is_target_byte b = not (b == 10) && not (b == 0)

-- some bytes and not too many, no newline and no NUL, in UTF-8
abbrev pub is_target : List ℕ → Bool
is_target t = nat_lt 0 (length t) &&
    (nat_le (length t) most_bytes && (list_all is_target_byte t && is_utf8 t))
