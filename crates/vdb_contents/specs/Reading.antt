-- What reading CONTENTS line by line gives.
use Rattle.std.specs.Prelude.{◌≡◌, ℕ, true, false, List, ◌++◌, Option, None, Some, map}
use Rattle.basics.specs.Members.{Has}
use Rattle.file_tree.specs.PathSets.{is_in}
use Rattle.vdb_contents.specs.Contents.{IsLine, Line, dir, line_text, obj, owned_by, path_of, sym}
use Rattle.vdb_contents.specs.declared.line.Item.{Item}
use Rattle.vdb_contents.specs.declared.line.Item.TheVariants as items
use Rattle.vdb_contents.specs.declared.owned.Content.TheVariants.{File, Link}
use Rattle.vdb_contents.specs.declared.owned.Owned.{Owned}

-- what a line names
abbrev pub item_of : Line → Item
item_of (obj path digest time) = items.Owned (record { path = path; content = File digest })
item_of (sym path target time) = items.Owned (record { path = path; content = Link target })
item_of (dir path) = items.Folder

-- the text is that of no line
abbrev pub IsNoLine : List ℕ → Type 0
IsNoLine text = (l : Line) → IsLine l → ¬ (text ≡ line_text l)

-- the text is that of a line which names this, or of none
abbrev pub Reads : List ℕ → Option Item → Type 0
Reads text None = IsNoLine text
Reads text (Some item) = (l : Line) × IsLine l × ((text ≡ line_text l) × (item ≡ item_of l))

-- these go behind the owned ones; their paths were free, and are taken now
pub record Adds (more : List Owned) (was : List (List ℕ)) (old : List Owned)
    (taken : List (List ℕ)) (new : List Owned) : Type 0 where
  pub behind : new ≡ old ++ more
  pub free : (o : Owned) → Has more o → is_in was o.path ≡ false
  pub now : (q : List ℕ) → is_in taken q ≡ is_in (map path_of more ++ was) q

-- one of these has a path that is taken
abbrev pub Bars : List Owned → List (List ℕ) → Type 0
Bars more taken = (o : Owned) × Has more o × (is_in taken o.path ≡ true)

-- the text is that of a line, and what it owns is added
abbrev pub Goes : List ℕ → List (List ℕ) → List Owned → List (List ℕ) → List Owned → Type 0
Goes text was old taken new =
    (l : Line) × IsLine l × ((text ≡ line_text l) × Adds (owned_by l) was old taken new)

-- each line that the text may be has a path that is taken
abbrev pub Stops : List ℕ → List (List ℕ) → Type 0
Stops text taken = (l : Line) → IsLine l → text ≡ line_text l → Bars (owned_by l) taken
