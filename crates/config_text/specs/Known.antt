-- The values that are known, under their keys.
use Rattle.std.specs.Prelude.{◌≡◌, ℕ, List, [], Vec, unwrap_or}
use Rattle.std.specs.BTreeMap.{BTreeMap, get_by}
use Rattle.std.specs.Cmp.Lexicographic.{slice_cmp}
use Rattle.std.specs.Global.{Global}
use Rattle.std.specs.Ordering.{nat_cmp}
use Rattle.config_text.specs.Assignments.{last_value}
use Rattle.config_text.specs.declared.assignment.Assignment.{Assignment}

-- the value under a name, or nothing
abbrev pub value_of : BTreeMap (Vec ℕ Global) (List ℕ) → List ℕ → List ℕ
value_of values name = unwrap_or (get_by (λ k. slice_cmp nat_cmp name k.items) values) []

-- under each name stands its last value
abbrev pub Knows : BTreeMap (Vec ℕ Global) (List ℕ) → List Assignment → Type 0
Knows values known = (name : List ℕ) → value_of values name ≡ last_value known name
