-- Turns with images of some kind are turns with whatever images, and so is a run of a plan. No
-- clause can speak of each kind of image, so the laws of such runs ask for no more.
use Rattle.std.proofs.Common.{ℕ, suc, List, [], ◌∷◌, Result, inl, inr}
use Rattle.std.specs.List.{AllZip}
use Rattle.build_pool.specs.declared.orders.Order.{Order}
use Rattle.file_tree.specs.Disk.{Story}
use Rattle.file_tree.specs.declared.objects.Entry.{Entry}
use Rattle.owner_book.specs.Book.{Book}
use Rattle.plan_law.specs.Plans.{Group}
use Rattle.vdb_law.specs.Packages.{Installed}
use Rattle.merge_group.specs.declared.stop.Stop.{Stop}
use Rattle.merge_group.specs.declared.turn.Turn.{Turn}
use Rattle.run_files.specs.declared.newcomer.Newcomer.{Newcomer}
use Rattle.run_turns.specs.Held.{Holdings, holding_all}
use Rattle.run_turns.specs.Plans.{orders_at}
use Rattle.run_turns.specs.Turns.{AreTurns}
use Rattle.run_turns.specs.declared.job.Job.{Job}
use Rattle.run_plan.specs.Runs.{WentFor}
use Rattle.run_sound.specs.Sound.{AnyImage}

module _ (Image : Order → List Entry → Type 0) where
  any_images : (os : List Order) (ns : List Newcomer) → AllZip (λ o n. Image o n.image.items) os ns → AllZip (λ o n. AnyImage o n.image.items) os ns
  any_images [] [] all = tt
  any_images [] (n ∷ ns) all = absurd all
  any_images (o ∷ os) [] all = absurd all
  any_images (o ∷ os) (n ∷ ns) all = (tt, any_images os ns all.1)

  pub any_turns : (ps : List Installed) (plan : List Group) (jobs : List Job) (place : ℕ) (held : Holdings) (ts : List Turn) → AreTurns Image ps plan jobs place held ts → AreTurns AnyImage ps plan jobs place held ts
  any_turns ps plan jobs place held [] are = tt
  any_turns ps plan jobs place held (t ∷ ts) (number, (newcomers, brings, of, later)) = (
    number,
    (
      newcomers,
      record { there = brings.there; brings = brings.brings; images = any_images (orders_at jobs place) newcomers brings.images },
      of,
      any_turns ps plan jobs (suc place) (holding_all newcomers t.packages.items held) ts later,
    ),
  )

  pub went_any : {A : Type 0} (book : Book) (ps : List Installed) (plan : List Group) (jobs : List Job) (old new : Story) (history : List ℕ) (end : Result A Stop) → WentFor Image book ps plan jobs old new history end → WentFor AnyImage book ps plan jobs old new history end
  went_any book ps plan jobs old new history end (inl went) = inl went
  went_any book ps plan jobs old new history end (inr w) = inr (record {
    groups = w.groups;
    turns = w.turns;
    order = w.order;
    opened_for = w.opened_for;
    held = w.held;
    owned = w.owned;
    made = any_turns ps plan jobs 0 w.held w.turns w.made;
    went = w.went;
    cause = w.cause;
  })
