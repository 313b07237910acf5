-- Whether lives lead all through a stretch, by what waits and what rests.
use Rattle.std.proofs.Common.{◌≡◌, ◌⊎◌, List, [], ◌∷◌, ◌++◌, inl, inr, refl, subst, arith, length-append}
use Rattle.basics.specs.Members.{Has}
use Rattle.basics.proofs.Membership.{has-append_cases, has-append_left, has-append_right}
use Rattle.plan_law.specs.Plans.{Group}
use Rattle.plan_law.specs.Lives.{IsAhead, IsPast, Life, Moment, Precedes, Stretch}
use Rattle.plan_lives.specs.Chains.{AreJoined, AreParted, Arrives, follows, starts}

pub has-last : {A : Type 0} (xs : List A) (x : A) → Has (xs ++ x ∷ []) x
has-last xs x = has-append_right xs (x ∷ []) x (inl refl)

-- a member of a list with one more at its end
pub has-cases : {A : Type 0} (xs : List A) (y x : A) → Has (xs ++ y ∷ []) x → Has xs x ⊎ (y ≡ x)
has-cases xs y x h = elim (has-append_cases xs (y ∷ []) x h) [
  | inl before ↦ inl before
  | inr now ↦ elim now [ inl e ↦ inr e | inr none ↦ absurd none ]
]

module _ (InTime : Moment → Type 0) (rest : List Life) where
  pub begun : (old : List Life) → AreParted InTime rest rest [] old old
  begun old = record {
    apart = λ z h. absurd h;
    whole = λ z h. inr (inr h);
    inside = λ z h. absurd h;
    todo_inside = λ z h. h;
    from = λ z h. inl h;
    kept = λ z h. h;
    count = omega arith;
  }

  pub moved : (todo others old waiting : List Life) (x : Life) → AreParted InTime rest (x ∷ todo) others old waiting → InTime x.birth → AreParted InTime rest todo others old (waiting ++ x ∷ [])
  moved todo others old waiting x s born = record {
    apart = s.apart;
    whole = λ z h. elim (s.whole z h) [ inl o ↦ inl o | inr k ↦ elim k [ inl w ↦ inr (inl (has-append_left waiting (x ∷ []) z w)) | inr t ↦ elim t [ inl e ↦ inr (inl (subst (λ (y : Life). Has (waiting ++ x ∷ []) y) e (has-last waiting x))) | inr u ↦ inr (inr u) ] ] ];
    inside = s.inside;
    todo_inside = λ z h. s.todo_inside z (inr h);
    from = λ z h. elim (has-cases waiting x z h) [ inl w ↦ s.from z w | inr e ↦ inr (s.todo_inside z (inl e), subst (λ (y : Life). InTime y.birth) e born) ];
    kept = λ z h. has-append_left waiting (x ∷ []) z (s.kept z h);
    count = omega (arith, s.count, length-append waiting (x ∷ []));
  }

  pub left_behind : (todo others old waiting : List Life) (x : Life) → AreParted InTime rest (x ∷ todo) others old waiting → ¬ InTime x.birth → AreParted InTime rest todo (others ++ x ∷ []) old waiting
  left_behind todo others old waiting x s late = record {
    apart = λ z h. elim (has-cases others x z h) [ inl o ↦ s.apart z o | inr e ↦ subst (λ (y : Life). ¬ InTime y.birth) e late ];
    whole = λ z h. elim (s.whole z h) [ inl o ↦ inl (has-append_left others (x ∷ []) z o) | inr k ↦ elim k [ inl w ↦ inr (inl w) | inr t ↦ elim t [ inl e ↦ inl (subst (λ (y : Life). Has (others ++ x ∷ []) y) e (has-last others x)) | inr u ↦ inr (inr u) ] ] ];
    inside = λ z h. elim (has-cases others x z h) [ inl o ↦ s.inside z o | inr e ↦ s.todo_inside z (inl e) ];
    todo_inside = λ z h. s.todo_inside z (inr h);
    from = s.from;
    kept = s.kept;
    count = omega (arith, s.count, length-append others (x ∷ []));
  }

-- a life is done with: it doesn't outlast the stretch, and nothing that rests is there before it goes
abbrev pub IsDone : List Group → Stretch → List Life → Life → Type 0
IsDone plan s rest z = (¬ IsAhead plan s z.death) × ((y : Life) → Has rest y → ¬ Precedes plan y.birth z.death)

pub record AreJoining (plan : List Group) (fits : List Life) (s : Stretch) (rest waiting : List Life) : Type 0 where
  pub arrived : (z : Life) → Has waiting z → Arrives plan fits s z
  pub inside : (z : Life) → Has rest z → Has fits z
  pub apart : (z : Life) → Has rest z → ¬ IsPast plan s z.birth
  pub placed : (z : Life) → Has fits z → Has rest z ⊎ (Has waiting z ⊎ IsDone plan s rest z)

module _ (plan : List Group) (fits : List Life) (s : Stretch) where
  pub joining_begun : (others waiting : List Life) → AreParted (IsPast plan s) fits [] others [] waiting → AreJoining plan fits s others waiting
  joining_begun others waiting p = record {
    arrived = λ z h. elim (p.from z h) [ inl o ↦ absurd o | inr k ↦ starts z k.0 k.1 ];
    inside = p.inside;
    apart = p.apart;
    placed = λ z h. elim (p.whole z h) [ inl o ↦ inl o | inr k ↦ elim k [ inl w ↦ inr (inl w) | inr t ↦ absurd t ] ];
  }

  pub joining_next : (rest waiting others now : List Life) (x : Life) → AreJoining plan fits s rest (waiting ++ x ∷ []) → ¬ IsAhead plan s x.death → AreParted (λ m. Precedes plan m x.death) rest [] others waiting now → AreJoining plan fits s others now
  joining_next rest waiting others now x j ends p = record {
    arrived = λ z h. elim (p.from z h) [ inl o ↦ j.arrived z (has-append_left waiting (x ∷ []) z o) | inr k ↦ follows x z (j.arrived x (has-last waiting x)) (j.inside z k.0) k.1 ];
    inside = λ z h. j.inside z (p.inside z h);
    apart = λ z h. j.apart z (p.inside z h);
    placed = λ z h. elim (j.placed z h) [
      | inl r ↦ elim (p.whole z r) [ inl o ↦ inl o | inr k ↦ elim k [ inl w ↦ inr (inl w) | inr t ↦ absurd t ] ]
      | inr k ↦ elim k [
        | inl w ↦ elim (has-cases waiting x z w) [ inl o ↦ inr (inl (p.kept z o)) | inr e ↦ inr (inr (subst (λ (y : Life). IsDone plan s others y) e (ends, p.apart))) ]
        | inr d ↦ inr (inr (d.0, λ y o. d.1 y (p.inside y o)))
      ]
    ];
  }

  pub arrives_has : (z : Life) → Arrives plan fits s z → Has fits z
  arrives_has z (starts x h r) = h
  arrives_has z (follows x y a h r) = h

  arrives_done : (rest : List Life) → AreJoining plan fits s rest [] → (z : Life) → Arrives plan fits s z → IsDone plan s rest z
  arrives_done rest j z (starts x h r) = elim (j.placed x h) [ inl k ↦ absurd (j.apart x k r) | inr k ↦ elim k [ inl w ↦ absurd w | inr d ↦ d ] ]
  arrives_done rest j z (follows x y a h r) = elim (j.placed y h) [ inl k ↦ absurd ((arrives_done rest j x a).1 y k r) | inr k ↦ elim k [ inl w ↦ absurd w | inr d ↦ d ] ]

  pub not_joined : (rest : List Life) → AreJoining plan fits s rest [] → ¬ AreJoined plan fits s
  not_joined rest j k = (arrives_done rest j k.last k.arrives).0 k.outlasts
