-- The rule of the hall: what holds between any two steps. Word 0 is the next ticket and word 1 the
-- one that is served, each counted on past the end of its word. The slot has the value, or is out
-- with the pass that has the turn.
use Rattle.std.specs.Prelude.{◌≡◌, ◌⊎◌, ◌<◌, ◌≤◌, ◌+◌, ◌%◌, ◌^◌, ℕ, false, ⊤, List, [], ◌∷◌, Option, Some}
use mathlib.Core.Option as maybe
use mathlib.Core.Option.{none, some}
use lib.ListN.{get_elem?}
use Rattle.basics.specs.Members.{Has}
use Rattle.atomic_table.specs.Table.{State}
use Rattle.std.specs.declared.snapshot.Snapshot.{Snapshot}
use Rattle.merge_core.specs.Trail.{Entry}
use Rattle.site_hall.specs.Events.{IsCalm, Knows, events_of}
use Rattle.site_hall.specs.Views.{Stands}
use Rattle.site_hall.specs.declared.views.About.{About}
use Rattle.site_hall.specs.declared.views.Stage.{Stage}
use Rattle.site_hall.specs.declared.views.Stage.TheVariants.{Holding, Idle, Waiting}
use Rattle.site_hall.specs.declared.views.View.{View}

-- how many tickets a pass has
abbrev pub waits : Stage → ℕ
waits Idle = 0
waits (Waiting t) = 1
waits (Holding t got) = 1

-- it is the ticket of a pass
abbrev pub IsTicket : Stage → ℕ → Type 0
IsTicket Idle t = ⊥
IsTicket (Waiting u) t = u ≡ t
IsTicket (Holding u got) t = u ≡ t

-- a ticket that waits is not below the one that is served; one with the turn is the one
abbrev pub InTurn : ℕ → ℕ → List Entry → maybe.Option ℕ → ℕ → Stage → Type 0
InTurn issued served now out j Idle = ⊤
InTurn issued served now out j (Waiting t) = (served ≤ t) × (t < issued)
InTurn issued served now out j (Holding t got) =
    (t ≡ served) × (t < issued) × (got ≡ now) × (out ≡ some j)

-- of each view, added up
abbrev pub total : {A : Type 0} → (A → ℕ) → List A → ℕ
total f [] = 0
total f (x ∷ xs) = f x + total f xs

module _ {S : Type 0} where
  abbrev pub HasTicket : View S → ℕ → Type 0
  HasTicket v t = IsTicket v.stage t

  abbrev pub HasGroup : View S → ℕ → Type 0
  HasGroup v g = Has v.groups g

  abbrev pub parts_of : View S → ℕ
  parts_of v = v.parts

  abbrev pub tickets_of : View S → ℕ
  tickets_of v = waits v.stage

  -- no two views have one number
  abbrev pub Apart : (View S → ℕ → Type 0) → List (View S) → Type 0
  Apart P views =
      (j k : ℕ) (v w : View S) (x : ℕ) → get_elem? views j ≡ some v → get_elem? views k ≡ some w
      → P v x → P w x → j ≡ k

  -- a view fits the history, and what is served
  pub record Fits
      (first : Snapshot S) (issued served : ℕ) (now : List Entry) (out : maybe.Option ℕ) (j : ℕ)
      (v : View S) : Type 0 where
    pub of : 0 < v.parts → v.of ≡ Some first
    pub knows : Knows v.groups v.seen now
    pub standing : (g : ℕ) (es : List Entry) → Stands g es v.known
        → Has v.groups g × (events_of g now ≡ es)
    pub begun : (g : ℕ) → Has v.groups g → ¬ (events_of g now ≡ [])
    pub turn : InTurn issued served now out j v.stage
    pub few : waits v.stage ≤ v.parts
    pub dead : v.parts ≡ 0 → v.groups ≡ []

module _ {S : Type 0} (log : S → List Entry) (Same : S → S → Type 0) where
  -- where the value is: at home with this history, or out with the view that has the turn
  abbrev pub Placed : Snapshot S → List Entry → List (maybe.Option (Option S)) → List (View S) → ℕ
      → maybe.Option ℕ → Type 0
  Placed first now homes views served none =
      (x : S) × (homes ≡ some (Some x) ∷ []) × (log x ≡ now) × Same x first.value
  Placed first now homes views served (some j) =
      (homes ≡ none ∷ [])
      × ((v : View S) × (get_elem? views j ≡ some v) × (v.stage ≡ Holding served now))

  pub record Kept (about : About S) (s : State (Option S) (View S)) : Type 0 where
    pub issued : ℕ
    pub served : ℕ
    pub now : List Entry
    pub out : maybe.Option ℕ
    pub words : s.words ≡ issued % 2 ^ 64 ∷ served % 2 ^ 64 ∷ []
    pub placed : Placed about.first now s.homes s.views served out
    pub each : (j : ℕ) (v : View S) → get_elem? s.views j ≡ some v
        → Fits about.first issued served now out j v
    pub small : about.parts < 2 ^ 32
    pub parts : total parts_of s.views ≡ about.parts
    pub tickets : issued ≡ served + total tickets_of s.views
    pub tickets_apart : Apart HasTicket s.views
    pub groups_apart : Apart HasGroup s.views
    pub covers : (g : ℕ) → (events_of g now ≡ [])
        ⊎ ((j : ℕ) × (v : View S) × (get_elem? s.views j ≡ some v) × Has v.groups g)
    pub calm : about.keep_going ≡ false → IsCalm now
