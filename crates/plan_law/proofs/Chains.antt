-- Of lives that are chained through a stretch, one is there at each moment of it.
use Rattle.std.proofs.Common.{◌⊎◌, ℕ, List, inl, inr}
use Rattle.dep_atom.specs.Values.{AtomValue}
use Rattle.pkg_state.specs.Package.{Package}
use Rattle.plan_law.specs.Plans.{Group}
use Rattle.plan_law.specs.Lives.{Life, Stretch}
use Rattle.plan_law.specs.Firm.{Arrives, IsChained, Serves, follows, starts}
use Rattle.plan_law.proofs.Closed.{HasCome, IsAlive, IsWithin, come_before, come_or_not}

module _ (plan : List Group) (start : List Package) (atoms : List AtomValue)
    (asker : List (List ℕ)) (s : Stretch) (done : List ℕ) (w : IsWithin plan done s) where
  abbrev OneServes : Type 0
  OneServes = (x : Life) × Serves plan start atoms asker x × IsAlive done x

  there_or_gone : (x : Life) → Serves plan start atoms asker x → HasCome done x.birth → OneServes ⊎ HasCome done x.death
  there_or_gone x serves born = elim (come_or_not done x.death) [
    | inl gone ↦ inr gone
    | inr stays ↦ inl (x, serves, record { born = born; stays = stays })
  ]

  -- one of those up to this one is there, or it is gone
  arrived : (x : Life) → Arrives plan start atoms asker s x → OneServes ⊎ HasCome done x.death
  arrived x (starts y serves past) = there_or_gone x serves (w.past x.birth past)
  arrived x (follows y z a serves early) = elim (arrived y a) [
    | inl found ↦ inl found
    | inr gone ↦ there_or_gone x serves (come_before plan done w.closed x.birth y.death early gone)
  ]

  pub chained_alive : IsChained plan start asker s atoms → OneServes
  chained_alive c = elim (arrived c.last c.arrives) [
    | inl found ↦ found
    | inr gone ↦ absurd (w.ahead c.last.death c.outlasts gone)
  ]
