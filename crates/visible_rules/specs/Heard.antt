-- What is remembered of words about keywords.
use denote.Ref.{Bor}
use Rattle.std.specs.Prelude.{◌≡◌, ℕ, Bool, false, List, Option, None, Some, if◌then◌else◌, is_some, ⊤}
use Rattle.std.specs.BTreeMap.{BTreeMap, get_by}
use Rattle.std.specs.Cmp.Lexicographic.{slice_cmp}
use Rattle.std.specs.List.{find}
use Rattle.std.specs.Option.{option_map, option_or}
use Rattle.std.specs.Ordering.{nat_cmp}
use mathlib.Core.List.{reverse}
use Rattle.visible_rules.specs.Keywords.{is_added, speaks_of}
use Rattle.visible_rules.specs.declared.said.Said.{Said}

-- what one word says of the keyword, if it speaks of it: that it is accepted, or that it isn't
abbrev pub said_by : List ℕ → List ℕ → Option Bool
said_by word keyword = if speaks_of keyword word then Some (is_added word) else None

-- what the last of the words that speaks of the keyword says of it
abbrev pub heard : List (List ℕ) → List ℕ → Option Bool
heard words keyword = option_map is_added (find (speaks_of keyword) (reverse words))

-- what is remembered of the keyword: what was said of it alone, or else that all were taken back
abbrev pub told : Said → List ℕ → Option Bool
told said keyword =
    option_or (get_by (λ k. slice_cmp nat_cmp keyword k.now) said.words)
    (if said.took_all then Some false else None)

-- just what the words say is remembered
abbrev pub Remembers : Said → List (List ℕ) → Type 0
Remembers said words = (keyword : List ℕ) → told said keyword ≡ heard words keyword

-- the text is in the set
abbrev pub is_in : BTreeMap (Bor (List ℕ)) ⊤ → List ℕ → Bool
is_in set text = is_some (get_by (λ k. slice_cmp nat_cmp text k.now) set)
