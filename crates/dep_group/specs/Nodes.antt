-- How the reading of groups sees the code's openers, leaves and nodes.
use Rattle.std.specs.Prelude.{ℕ, Bool, List, map, reverse, Result}
use Rattle.dep_group.specs.declared.reader.Frame.{Frame}
use Rattle.dep_group.specs.declared.reader.Reader.{Reader}
use Rattle.dep_group.specs.declared.token.GroupFault.{GroupFault}
use Rattle.dep_group.specs.declared.token.Opener.{Opener}
use Rattle.dep_group.specs.declared.token.Token.{Token}
use Rattle.dep_group.specs.Trees.{Tree, is_any_of}
use Rattle.dep_group.specs.Maps.{opener_map}
use Rattle.dep_group.specs.Reading.{Opened, finished, read}

-- an open group, where `kind` says what an opener opens, and `view` which tree a node is
abbrev pub opened : {J K L N : Type 0} → (J → K) → (N → Tree K L) → Frame J N → Opened K L
opened kind view f =
    record { opener = opener_map kind f.opener; at = f.at; before = map view f.before.items }

-- the open groups, the innermost first
abbrev pub stacked : {J K L N : Type 0} → (J → K) → (N → Tree K L) → List (Frame J N) →
    List (Opened K L)
stacked kind view fs = reverse (map (opened kind view) fs)

-- what the tokens give from index `at` on, behind what the reader has read
abbrev pub read_on : {J L N : Type 0} → (J → Opener (List ℕ)) → (N → Tree (Opener (List ℕ)) L) →
    (L → Bool) → Reader J N → List (Token (Opener (List ℕ)) L) → ℕ →
    Result (List (Tree (Opener (List ℕ)) L)) GroupFault
read_on kind view barred r tokens at =
    read is_any_of barred tokens at (opener_map kind r.begun) (stacked kind view r.stack.items)
    (map view r.done.items)

-- what the end of the tokens gives there
abbrev pub finished_here : {J L N : Type 0} → (J → Opener (List ℕ)) →
    (N → Tree (Opener (List ℕ)) L) → Reader J N → ℕ →
    Result (List (Tree (Opener (List ℕ)) L)) GroupFault
finished_here kind view r at =
    finished at (opener_map kind r.begun) (stacked kind view r.stack.items)
    (map view r.done.items)
