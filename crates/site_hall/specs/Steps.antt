-- What the steps of the hall's table tell the pass that makes them.
use Rattle.std.specs.Prelude.{◌≡◌, ◌≢◌, ◌%◌, ◌^◌, ℕ, List, [], ◌∷◌, Option, Some, IfSome}
use Rattle.atomic_table.specs.Table.{Me, Step}
use Rattle.merge_core.specs.Trail.{Entry}
use Rattle.site_hall.specs.Views.{GoesOnFrom, after_turn, got_of, ticket_of}
use Rattle.site_hall.specs.declared.views.Stage.TheVariants.{Holding, Waiting}
use Rattle.site_hall.specs.declared.views.View.{View}

-- a pass at the table: what it knows, and what it holds of the slots
abbrev pub Seated : Type 0 → Type 0
Seated S = Me (Option S) (View S)

module _ {S : Type 0} where
  abbrev pub waiting : ℕ → View S → View S
  waiting t v = record v { stage = Waiting t }

  abbrev pub holding : ℕ → List Entry → View S → View S
  holding t got v = record v { stage = Holding t got }

  -- the word was the remainder of a ticket, which the pass has now
  abbrev pub took : Step (Option S) → Seated S → ℕ → Seated S → Type 0
  took st m r m' = (t : ℕ) × (m' ≡ (waiting t m.0, m.1)) × (r ≡ t % 2 ^ 64)

module _ {S : Type 0} (log : S → List Entry) (Same : S → S → Type 0) where
  -- the turn has come, with this value
  abbrev pub Got : View S → S → Seated S → Type 0
  Got v x m =
      (m.1 ≡ (0, Some x) ∷ []) × (m.0 ≡ holding (ticket_of v.stage) (log x) v)
      × IfSome v.of (λ f. Same x f.value) × GoesOnFrom v (log x)

  -- where the word is the remainder of the pass's ticket its turn has come; else nothing changed
  abbrev pub looked : Step (Option S) → Seated S → ℕ → Seated S → Type 0
  looked st m r m' =
      (r ≢ ticket_of m.0.stage % 2 ^ 64 → m' ≡ m)
      × (r ≡ ticket_of m.0.stage % 2 ^ 64 → (x : S) × Got m.0 x m')

module _ {S : Type 0} (log : S → List Entry) where
  -- the value that the pass held is back, and the turn is over
  abbrev pub passed : Step (Option S) → Seated S → ℕ → Seated S → Type 0
  passed st m r m' =
      (x : S) → m.1 ≡ (0, Some x) ∷ []
      → (m'.1 ≡ []) × (m'.0 ≡ after_turn m.0 (got_of m.0.stage) (log x))
