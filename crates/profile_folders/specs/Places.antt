-- Where a text leads from a folder: by its parts, `..` taking away the part before it (PMS 5.2.1).
use Rattle.std.specs.Prelude.{ℕ, Bool, false, List, [], ◌∷◌, ◌++◌, ◌==◌, ◌||◌, Option, None, Some, bytes_eq, codes, if◌then◌else◌, length, take}
use Rattle.std.specs.List.{join_by, slice_split}
use Rattle.std.specs.Option.{option_and_then}
use Rattle.file_tree.specs.Paths.{is_path}

abbrev pub is_slash : ℕ → Bool
is_slash b = b == 47

-- the parts of a text, some of which may be empty
abbrev pub parts : List ℕ → List (List ℕ)
parts text = slice_split is_slash text

-- a part that leads nowhere else: an empty one, and `.`
abbrev pub is_here : List ℕ → Bool
is_here part = bytes_eq part [] || bytes_eq part (codes ".")

-- the folder around the one of these parts; the top is in none
abbrev pub around : List (List ℕ) → Option (List (List ℕ))
around [] = None
around (part ∷ rest) = Some (take (length rest) (part ∷ rest))

-- the folder to which one part leads
abbrev pub followed : List (List ℕ) → List ℕ → Option (List (List ℕ))
followed folder part =
    if is_here part then Some folder
    else if bytes_eq part (codes "..") then around folder
    else Some (folder ++ part ∷ [])

-- the folder to which all these parts lead; none may lead above the top
abbrev pub led : List (List ℕ) → List (List ℕ) → Option (List (List ℕ))
led folder [] = Some folder
led folder (part ∷ rest) = option_and_then (λ next. led next rest) (followed folder part)

-- the path that the text is
abbrev pub path_of : List ℕ → Option (List ℕ)
path_of text = if is_path text then Some text else None

-- the path that has these parts
abbrev pub path_with : List (List ℕ) → Option (List ℕ)
path_with these = path_of (join_by (λ part. part) (codes "/") these)

-- the path to which the text leads from the folder of these parts
abbrev pub place : List (List ℕ) → List ℕ → Option (List ℕ)
place folder text = option_and_then path_with (led folder (parts text))

-- the text begins at the top
abbrev pub begins_at_top : List ℕ → Bool
begins_at_top [] = false
begins_at_top (b ∷ bytes) = b == 47

-- the path to which a relative text leads from the folder
abbrev pub place_from : List ℕ → List ℕ → Option (List ℕ)
place_from folder text = if begins_at_top text then None else place (parts folder) text

-- the path to which a link at a path leads: from the folder in which the link is, or from the top;
-- an empty target leads nowhere
abbrev pub link_place : List ℕ → List ℕ → Option (List ℕ)
link_place path target =
    if bytes_eq target [] then None
    else if begins_at_top target then place [] target
    else option_and_then (λ folder. place folder target) (around (parts path))
