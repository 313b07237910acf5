-- Histories of groups: the events of one group, what a turn may add, and when no group begins
-- behind one that was given up.
use Rattle.std.specs.Prelude.{◌≡◌, ◌==◌, ◌⊎◌, ◌++◌, ℕ, Bool, true, false, List, [], ◌∷◌, ⊤, filter}
use Rattle.basics.specs.Members.{Has}
use Rattle.merge_core.specs.Event.{Abandon, Acknowledge, Begin, Claim, CloseGate, Event, OpenGate}
use Rattle.merge_core.specs.Event.{PlacePath, PutRecord, PutStage, PutToken, RemovePath}
use Rattle.merge_core.specs.Event.{SyncClosed, SyncGate, SyncPlaced, SyncSealed, is_abandon}
use Rattle.merge_core.specs.Trail.{Entry}

-- the group whose event it is
abbrev pub group_of : Event → ℕ
group_of (Begin g) = g
group_of (PutStage g p o) = g
group_of (PutRecord g removals) = g
group_of (PutToken g) = g
group_of (SyncSealed g) = g
group_of (Claim g) = g
group_of (OpenGate g) = g
group_of (SyncGate g) = g
group_of (PlacePath g) = g
group_of (RemovePath g) = g
group_of (SyncPlaced g) = g
group_of (CloseGate g) = g
group_of (SyncClosed g) = g
group_of (Acknowledge g) = g
group_of (Abandon g) = g

abbrev pub is_begin : Event → Bool
is_begin (Begin g) = true
is_begin e = false

-- the events of one group, in their order
abbrev pub events_of : ℕ → List Entry → List Entry
events_of g es = filter (λ e. group_of e.0 == g) es

-- the events by which groups were given up
abbrev pub abandons : List Entry → List Entry
abandons es = filter (λ e. is_abandon e.0) es

-- no event of the list begins a group
abbrev pub BeginsNone : List Entry → Type 0
BeginsNone [] = ⊤
BeginsNone (e ∷ es) = (is_begin e.0 ≡ false) × BeginsNone es

-- no group begins behind one that was given up
abbrev pub IsCalm : List Entry → Type 0
IsCalm [] = ⊤
IsCalm (e ∷ es) = (is_abandon e.0 ≡ true → BeginsNone es) × IsCalm es

-- the groups, and the one that the event begins
abbrev pub begun_by : Bool → ℕ → List ℕ → List ℕ
begun_by true g groups = g ∷ groups
begun_by false g groups = groups

-- the groups, and those that the events begin
abbrev pub with_begun : List ℕ → List Entry → List ℕ
with_begun groups [] = groups
with_begun groups (e ∷ es) = begun_by (is_begin e.0) (group_of e.0) (with_begun groups es)

-- a turn makes one event at most: of one of the groups, or one that begins a group without events
abbrev pub MayLeave : List ℕ → List Entry → List Entry → Type 0
MayLeave groups got now =
    (now ≡ got)
    ⊎ ((e : Entry) × (now ≡ got ++ e ∷ [])
    × (Has groups (group_of e.0) ⊎ ((is_begin e.0 ≡ true) × (events_of (group_of e.0) got ≡ []))))

-- where a turn begins a group, none was given up
abbrev pub IsCalmTurn : List Entry → List Entry → Type 0
IsCalmTurn got now =
    (e : Entry) → now ≡ got ++ e ∷ [] → is_begin e.0 ≡ true → abandons got ≡ []

-- the history begins with what was seen, and the rest has no event of these groups
abbrev pub Knows : List ℕ → List Entry → List Entry → Type 0
Knows groups seen log =
    (rest : List Entry) × (log ≡ seen ++ rest)
    × ((g : ℕ) → Has groups g → events_of g rest ≡ [])
