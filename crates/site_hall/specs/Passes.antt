-- Halls and their passes, as the calls speak of them.
use Rattle.std.specs.Prelude.{◌≡◌, ◌<◌, ◌%◌, ◌^◌, ℕ, Bool, List, [], ◌∷◌, Some, None}
use Rattle.std.specs.declared.snapshot.Snapshot.{Snapshot}
use Rattle.atomic_table.specs.Seated.{TableId}
use Rattle.merge_core.specs.Trail.{Entry}
use Rattle.site_hall.specs.Views.{IsHolding, IsWaiting, got_of, ticket_of}
use Rattle.site_hall.specs.declared.hall.Hall.{Hall}
use Rattle.site_hall.specs.declared.hall.Pass.{Pass}
use Rattle.site_hall.specs.declared.views.Stage.TheVariants.{Idle}
use Rattle.site_hall.specs.declared.views.View.{View}

module _ {S : Type 0} where
  -- which hall it is
  abbrev pub id_of : Hall S → TableId
  id_of h = h.table.shared.table_id

  -- the value that was put in, as it was then
  abbrev pub opening_of : Hall S → Snapshot S
  opening_of h = h.table.shared.key.first

  -- how many parts the hall has
  abbrev pub parts_of : Hall S → ℕ
  parts_of h = h.table.shared.key.parts

  -- groups may begin behind one that was given up
  abbrev pub keeps_going : Hall S → Bool
  keeps_going h = h.table.shared.key.keep_going

  -- the hall was opened with these
  pub record IsOpened (value : S) (parts : ℕ) (keep_going : Bool) (h : Hall S) : Type 0 where
    pub first : (opening_of h).value ≡ value
    pub count : parts_of h ≡ parts
    pub going : keeps_going h ≡ keep_going

  -- what the pass knows
  abbrev pub view_of : Pass S → View S
  view_of p = p.seat.me.0

  -- the pass is one of the hall
  abbrev pub IsOf : Hall S → Pass S → Type 0
  IsOf h p = (p.seat.table_id ≡ id_of h) × ((view_of p).of ≡ Some (opening_of h))

  -- the history of the value that the pass's turn came with
  abbrev pub got_by : Pass S → List Entry
  got_by p = got_of (view_of p).stage

  -- the pass has no turn, and at least one part
  abbrev pub Rests : Pass S → Type 0
  Rests p = ((view_of p).stage ≡ Idle) × (p.seat.me.1 ≡ []) × (0 < (view_of p).parts)

  -- the pass has the turn
  abbrev pub HasTurn : Pass S → Type 0
  HasTurn p = IsHolding (view_of p).stage × (p.seat.me.1 ≡ (0, None) ∷ []) × (0 < (view_of p).parts)

  -- the pass waits for its turn, and was told this number
  abbrev pub Waits : ℕ → Pass S → Type 0
  Waits mine p =
      IsWaiting (view_of p).stage × (mine ≡ ticket_of (view_of p).stage % 2 ^ 64)
      × (p.seat.me.1 ≡ []) × (0 < (view_of p).parts)

  -- whether the place of the value is in the pass's hands is as it was
  abbrev pub HoldsAsBefore : Pass S → Pass S → Type 0
  HoldsAsBefore old new = new.seat.me.1 ≡ old.seat.me.1

  -- all that the one knows the other knows, whether or not either has a turn
  abbrev pub KnowsAsMuch : View S → View S → Type 0
  KnowsAsMuch old new =
      (new.of ≡ old.of) × (new.parts ≡ old.parts) × (new.groups ≡ old.groups)
      × (new.seen ≡ old.seen) × (new.known ≡ old.known)
