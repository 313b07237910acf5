-- The name of an object that has not taken its place yet.
use Rattle.std.specs.Prelude.{ℕ, List, codes}

-- the name that an object has until it is renamed over its target
unfoldable pub spare_name : List ℕ
spare_name = codes ".emerge ->new"
