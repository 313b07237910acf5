-- Groups that are done, each with all that it waits for, and what has come with them.
use Rattle.std.proofs.Common.{◌≡◌, ◌⊎◌, ◌≤◌, ℕ, List, inl, inr, refl, ap, subst, arith}
use Rattle.basics.specs.Members.{Has}
use Rattle.plan_law.specs.Plans.{Group, Reaches, WaitsForEarlier, before, group_at, itself}
use Rattle.plan_law.specs.Lives.{IsAhead, IsPast, Life, Meets, Moment, Precedes, Stretch, commit, never, opening, stretch_of, until}
use Rattle.basics.proofs.Members.{has_or_not}

abbrev pub IsClosed : List Group → List ℕ → Type 0
IsClosed plan done = (g h : ℕ) → Has done g → Has (group_at plan g).after h → Has done h

-- all that reaches what is done is done
pub reached : (plan : List Group) (done : List ℕ) → IsClosed plan done → (g h : ℕ) → Reaches plan g h → Has done g → Has done h
reached plan done c g h itself d = d
reached plan done c g h (before k i w r) d = c k h (reached plan done c g k r d) w

-- what reaches a group that may come next is that group, or is done
pub reached_before : (plan : List Group) (done : List ℕ) → IsClosed plan done → (g : ℕ) → ((h : ℕ) → Has (group_at plan g).after h → Has done h) → (h : ℕ) → Reaches plan g h → (h ≡ g) ⊎ Has done h
reached_before plan done c g waited h itself = inl refl
reached_before plan done c g waited h (before k i w r) = elim (reached_before plan done c g waited k r) [
  | inl e ↦ inr (waited h (subst (λ (n : ℕ). Has (group_at plan n).after h) e w))
  | inr d ↦ inr (c k h d w)
]

-- a group that reaches another isn't behind it
pub not_behind : (plan : List Group) → WaitsForEarlier plan → (g h : ℕ) → Reaches plan g h → h ≤ g
not_behind plan f g h itself = omega arith
not_behind plan f g h (before k i w r) = let a = not_behind plan f g k r in let b = f k h w in omega (arith, a, b)

abbrev pub HasCome : List ℕ → Moment → Type 0
HasCome done opening = Unit {0}
HasCome done (commit g) = Has done g
HasCome done never = ⊥

pub record IsAlive (done : List ℕ) (x : Life) : Type 0 where
  pub born : HasCome done x.birth
  pub stays : ¬ HasCome done x.death

pub come_or_not : (done : List ℕ) (m : Moment) → HasCome done m ⊎ (¬ HasCome done m)
come_or_not done opening = inl tt
come_or_not done (commit g) = has_or_not done g
come_or_not done never = inr (λ h. h)

pub come_before : (plan : List Group) (done : List ℕ) → IsClosed plan done → (m n : Moment) → Precedes plan m n → HasCome done n → HasCome done m
come_before plan done c opening n p h = tt
come_before plan done c (commit g) opening p h = absurd p
come_before plan done c (commit g) (commit k) p h = reached plan done c k g p h
come_before plan done c (commit g) never p h = absurd h
come_before plan done c never opening p h = absurd p
come_before plan done c never (commit k) p h = absurd p
come_before plan done c never never p h = absurd h

-- what is done is a moment of the stretch
pub record IsWithin (plan : List Group) (done : List ℕ) (s : Stretch) : Type 0 where
  pub closed : IsClosed plan done
  pub past : (m : Moment) → IsPast plan s m → HasCome done m
  pub ahead : (m : Moment) → IsAhead plan s m → ¬ HasCome done m

pub within_life : (plan : List Group) (done : List ℕ) → IsClosed plan done → (x : Life) → IsAlive done x → IsWithin plan done (stretch_of x)
within_life plan done c x a = record {
  closed = c;
  past = λ m p. come_before plan done c m x.birth p a.born;
  ahead = λ m p h. a.stays (come_before plan done c x.death m p h);
}

module _ (plan : List Group) (done : List ℕ) (c : IsClosed plan done) (g : ℕ)
    (waited : (h : ℕ) → Has (group_at plan g).after h → Has done h) (undone : ¬ Has done g) where
  past_group : (m : Moment) → IsPast plan (until g) m → HasCome done m
  past_group opening p = tt
  past_group (commit h) p = elim (reached_before plan done c g waited h p.0) [
    | inl e ↦ absurd (p.1 (ap commit e))
    | inr d ↦ d
  ]
  past_group never p = absurd p.0

  pub within_until : IsWithin plan done (until g)
  within_until = record {
    closed = c;
    past = past_group;
    ahead = λ m p h. undone (come_before plan done c (commit g) m p h);
  }

-- what is there within a stretch meets it
pub alive_meets : (plan : List Group) (done : List ℕ) (s : Stretch) → IsWithin plan done s → (y : Life) → IsAlive done y → Meets plan s y
alive_meets plan done s w y a = record {
  lives_on = λ p. a.stays (w.past y.death p);
  has_come = λ p. w.ahead y.birth p a.born;
}
