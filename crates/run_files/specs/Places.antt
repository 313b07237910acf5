-- The places of folders, as they are looked up.
use Rattle.std.specs.Prelude.{◌≡◌, ℕ, List, Option, None, Some, length, if◌then◌else◌}
use Rattle.std.specs.BTreeMap.{get_by_text}
use Rattle.file_tree.specs.PathSets.{is_in}
use Rattle.law_run.specs.Openings.{place_of}
use Rattle.run_files.specs.declared.places.Places.{Places}

-- the first place of a text, if it has one
abbrev pub found_place : List ℕ → List (List ℕ) → Option ℕ
found_place text texts = if is_in texts text then Some (place_of text texts) else None

-- these are the places of these texts
pub record ArePlaces (texts : List (List ℕ)) (x : Places) : Type 0 where
  pub count : x.count ≡ length texts
  pub places : (q : List ℕ) → get_by_text x.places q ≡ found_place q texts
