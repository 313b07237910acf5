-- What a pass knows, and what becomes of it in its turns and where passes are cut or put together.
use Rattle.std.specs.Prelude.{◌≡◌, ◌-◌, ◌+◌, ◌++◌, ℕ, List, [], ◌∷◌, Some, None, drop, length, nat_le}
use Rattle.std.specs.Prelude.{if◌then◌else◌, ⊤}
use Rattle.std.specs.declared.snapshot.Snapshot.{Snapshot}
use Rattle.basics.specs.Members.{Has}
use Rattle.merge_core.specs.Trail.{Entry}
use Rattle.site_hall.specs.Events.{events_of, with_begun}
use Rattle.site_hall.specs.declared.views.Stage.{Stage}
use Rattle.site_hall.specs.declared.views.Stage.TheVariants.{Holding, Idle, Waiting}
use Rattle.site_hall.specs.declared.views.View.{View}

-- the longer of two histories
abbrev pub longer : List Entry → List Entry → List Entry
longer xs ys = if nat_le (length xs) (length ys) then ys else xs

-- the ticket of a pass, where it has one
abbrev pub ticket_of : Stage → ℕ
ticket_of Idle = 0
ticket_of (Waiting t) = t
ticket_of (Holding t got) = t

-- the history of the value that the turn came with
abbrev pub got_of : Stage → List Entry
got_of Idle = []
got_of (Waiting t) = []
got_of (Holding t got) = got

-- the pass has a ticket, and not the turn
abbrev pub IsWaiting : Stage → Type 0
IsWaiting Idle = ⊥
IsWaiting (Waiting t) = ⊤
IsWaiting (Holding t got) = ⊥

-- the pass has the turn
abbrev pub IsHolding : Stage → Type 0
IsHolding Idle = ⊥
IsHolding (Waiting t) = ⊥
IsHolding (Holding t got) = ⊤

-- the group stands in the list with these events
abbrev pub Stands : ℕ → List Entry → List (ℕ × List Entry) → Type 0
Stands g es known = Has known (g, es)

-- each of the groups, with its events
abbrev pub standings : List ℕ → List Entry → List (ℕ × List Entry)
standings [] now = []
standings (g ∷ groups) now = (g, events_of g now) ∷ standings groups now

module _ {S : Type 0} where
  -- the first pass has all parts, and no group
  abbrev pub first_view : Snapshot S → ℕ → View S
  first_view first parts =
      record { of = Some first; parts = parts; groups = []; seen = []; known = []; stage = Idle }

  -- what is left of a pass that gives one part away
  abbrev pub kept_part : View S → View S
  kept_part v = record v { parts = v.parts - 1 }

  -- a pass of one part, which has seen what the other has, and has no group
  abbrev pub given_part : View S → View S
  given_part v =
      record { of = v.of; parts = 1; groups = []; seen = v.seen; known = []; stage = Idle }

  -- a pass with what two had
  abbrev pub joined : View S → View S → View S
  joined v w =
      record {
        of = v.of;
        parts = v.parts + w.parts;
        groups = v.groups ++ w.groups;
        seen = longer v.seen w.seen;
        known = v.known ++ w.known;
        stage = v.stage;
      }

  -- what is left of a pass that was taken in
  abbrev pub spent : View S
  spent = record { of = None; parts = 0; groups = []; seen = []; known = []; stage = Idle }

  -- the groups of a pass once a turn made one history of another
  abbrev pub groups_after : View S → List Entry → List Entry → List ℕ
  groups_after v got now = with_begun v.groups (drop (length got) now)

  -- what a pass knows once a turn made one history of another: it has seen all, and of each of its
  -- groups it knows the events
  abbrev pub after_turn : View S → List Entry → List Entry → View S
  after_turn v got now =
      record v {
        stage = Idle;
        seen = now;
        groups = groups_after v got now;
        known = standings (groups_after v got now) now;
      }

-- a history goes on from what was seen: none of these groups has an event behind that, and of each
-- that is known it has just the events that are known
pub record GoesOn
    (groups : List ℕ) (seen : List Entry) (known : List (ℕ × List Entry)) (now : List Entry) :
    Type 0 where
  pub rest : List Entry
  pub begins : now ≡ seen ++ rest
  pub quiet : (g : ℕ) → Has groups g → events_of g rest ≡ []
  pub same : (g : ℕ) (es : List Entry) → Stands g es known → events_of g now ≡ es

-- a history goes on from what the pass knows
unfoldable pub GoesOnFrom : {S : Type 0} → View S → List Entry → Type 0
GoesOnFrom v now = GoesOn v.groups v.seen v.known now
