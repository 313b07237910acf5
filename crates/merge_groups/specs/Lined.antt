-- The lines of a plan's text by which packages are sorted.
use Rattle.std.specs.Prelude.{◌≡◌, ◌++◌, ◌∷◌, ℕ, List, string_bytes}
use Rattle.dep_atom.specs.Ids.{id_text}
use Rattle.pkg_state.specs.Package.{Package}
use Rattle.merge_groups.specs.Order.{text_of}
use Rattle.merge_groups.specs.declared.change.Change.{Change}
use Rattle.merge_groups.specs.declared.order.Lined.{Lined}

-- the text is the line that says this change of the package
abbrev pub IsLined : Change → Lined → Type 0
IsLined change l = string_bytes l.text ≡ text_of change l.pkg.now

-- the beginning of such a line, up to the slot
abbrev pub line_begun : List ℕ → Package → List ℕ
line_begun head p = head ++ (32 ∷ (id_text p.facts.id ++ (58 ∷ p.facts.slot)))
