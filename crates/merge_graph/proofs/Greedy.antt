-- Numbers that are given one after another are those of the components in their order.
use Rattle.std.proofs.Common.{◌≡◌, ◌≢◌, ◌∙◌, ◌<◌, ◌≤◌, ◌+◌, ◌⊎◌, ◌++◌, ◌||◌, ℕ, zero, suc, Bool, true, false, cond, List, [], ◌∷◌, None, Option, Some, ap, arith, get_or, inl, inr, length, map, not, refl, replicate, subst, sym}
use Rattle.std.specs.Prelude.{slice_index, unwrap_or}
use Rattle.std.specs.List.{list_all}
use Rattle.std.specs.Option.{is_none, is_some}
use Rattle.std.proofs.lemmas.Bool.{and_cases, and_from, and_parts, cases_Bool, cases_lt, cases_order, cond-false, cond-true, false≢true, not-true, not_from_false, or_cases, or_left, or_parts, or_right}
use Rattle.std.proofs.lemmas.List.{get_or-map, get_or_append_left, get_or_at, length-map, length-replicate, length_push}
use Rattle.basics.specs.Members.{Has}
use Rattle.merge_graph.specs.Certified.{AreCertified}
use Rattle.merge_graph.specs.Closure.{IsClosure, given_to, in_one, lets_come, may_come, reached}
use Rattle.merge_graph.specs.Edges.{AreBetween, AreTogether, Goes, Reaches}
use Rattle.merge_graph.specs.Edges.Reaches.{stays}
use Rattle.merge_graph.specs.declared.edge.Edge.{Edge}
use Rattle.merge_graph.proofs.Checking.{further, joined}
use Rattle.merge_graph.proofs.Counted.{passing, passing_lt}
use Rattle.merge_graph.proofs.Together.{between}

-- the node has no number yet, or a later one
abbrev pub IsLater : ℕ → Option ℕ → Type 0
IsLater j o = (o ≡ None) ⊎ ((i : ℕ) × (o ≡ Some i) × (j < i))

-- what the component waits for has numbers below this one
abbrev pub ReadyAt : List Edge → List (Option ℕ) → ℕ → ℕ → Type 0
ReadyAt es given j x = (y z : ℕ) → AreTogether es x y → Goes es y z → AreTogether es x z ⊎ ((i : ℕ) × (given_to given z ≡ Some i) × (i < j))

-- .. has numbers
abbrev pub ReadyNow : List Edge → List (Option ℕ) → ℕ → Type 0
ReadyNow es given x = (y z : ℕ) → AreTogether es x y → Goes es y z → AreTogether es x z ⊎ ((i : ℕ) × (given_to given z ≡ Some i))

-- numbers of some components, and their first nodes
pub record AreGiven (nodes : ℕ) (es : List Edge) (given : List (Option ℕ)) (firsts : List ℕ) : Type 0 where
  pub all : length given ≡ nodes
  pub same : (x y : ℕ) → x < nodes → y < nodes → AreTogether es x y → given_to given x ≡ given_to given y
  pub first : (j : ℕ) → j < length firsts → (slice_index firsts j < nodes) × (given_to given (slice_index firsts j) ≡ Some j)
  pub known : (x j : ℕ) → x < nodes → given_to given x ≡ Some j → (j < length firsts) × AreTogether es (slice_index firsts j) x × (slice_index firsts j ≤ x)
  pub falls : (x y j : ℕ) → Goes es x y → given_to given x ≡ Some j → (i : ℕ) × (given_to given y ≡ Some i) × (i ≤ j)
  pub least : (x j : ℕ) → x < nodes → j < length firsts → IsLater j (given_to given x) → ReadyAt es given j x → slice_index firsts j < x

some_one : (i j : ℕ) → Some i ≡ Some j → i ≡ j
some_one i j e = cc e

none_some : (o : Option ℕ) (i : ℕ) → o ≡ None → o ≡ Some i → ⊥
none_some o i a b = let bad : None ≡ Some i = sym a ∙ b in cc bad

none_of : (o : Option ℕ) → is_none o ≡ true → o ≡ None
none_of None e = refl
none_of (Some x) e = absurd (cc e)

some_of : (o : Option ℕ) → is_some o ≡ true → (i : ℕ) × (o ≡ Some i)
some_of None e = absurd (cc e)
some_of (Some x) e = (x, refl)

none_if : (o : Option ℕ) → is_some o ≡ false → o ≡ None
none_if None e = refl
none_if (Some x) e = absurd (cc e)

turn : (es : List Edge) (x y : ℕ) → AreTogether es x y → AreTogether es y x
turn es x y t = (t.1, t.0)

link : (es : List Edge) (x y z : ℕ) → AreTogether es x y → AreTogether es y z → AreTogether es x z
link es x y z a b = (joined es a.0 b.0, joined es b.1 a.1)

all_each : {A : Type 0} (p : A → Bool) (xs : List A) (x : A) → list_all p xs ≡ true → Has xs x → p x ≡ true
all_each p [] x on h = absurd h
all_each p (y ∷ ys) x on (inl same) = ap p (sym same) ∙ (and_parts (p y) (list_all p ys) on).0
all_each p (y ∷ ys) x on (inr h) = all_each p ys x (and_parts (p y) (list_all p ys) on).1 h

all_from : {A : Type 0} (p : A → Bool) (xs : List A) → ((x : A) → Has xs x → p x ≡ true) → list_all p xs ≡ true
all_from p [] each = refl
all_from p (y ∷ ys) each = and_from (p y) (list_all p ys) (each y (inl refl)) (all_from p ys (λ x h. each x (inr h)))

all_not : {A : Type 0} (p : A → Bool) (xs : List A) → list_all p xs ≡ false → (x : A) × Has xs x × (p x ≡ false)
all_not p [] off = absurd (cc off)
all_not p (y ∷ ys) off = elim (and_cases (p y) (list_all p ys) off) [
  | inl here ↦ (y, inl refl, here)
  | inr later ↦ (let r = all_not p ys later in (r.0, inr r.1, r.2))
]

none_at : (n x : ℕ) → given_to (replicate n None) x ≡ None
none_at zero x = refl
none_at (suc n) zero = refl
none_at (suc n) (suc x) = none_at n x

pub given_none : (nodes : ℕ) (es : List Edge) (given : List (Option ℕ)) (firsts : List ℕ) → given ≡ replicate nodes None → firsts ≡ [] → AreGiven nodes es given firsts
given_none nodes es given firsts is none =
    let empty : (x : ℕ) → given_to given x ≡ None = λ x. ap (λ (l : List (Option ℕ)). given_to l x) is ∙ none_at nodes x in
    let short : length firsts ≡ 0 = ap length none in
    record {
      all = ap length is ∙ length-replicate nodes None;
      same = λ x y x_in y_in t. empty x ∙ sym (empty y);
      first = λ j less. absurd (omega (arith, less, short));
      known = λ x j x_in some. absurd (none_some (given_to given x) j (empty x) some);
      falls = λ x y j g some. absurd (none_some (given_to given x) j (empty x) some);
      least = λ x j x_in less. absurd (omega (arith, less, short));
    }

module _ (nodes : ℕ) (es : List Edge) (within : AreBetween nodes es) (rows : List (List Bool)) (closed : IsClosure nodes es rows) where
  tog : (x y : ℕ) → x < nodes → y < nodes → in_one rows x y ≡ true → AreTogether es x y
  tog x y x_in y_in on =
      let parts = and_parts (reached rows x y) (reached rows y x) on in
      (closed.sound x y x_in y_in parts.0, closed.sound y x y_in x_in parts.1)

  in_from : (x y : ℕ) → x < nodes → y < nodes → AreTogether es x y → in_one rows x y ≡ true
  in_from x y x_in y_in t = and_from (reached rows x y) (reached rows y x) (closed.complete x y x_in y_in t.0) (closed.complete y x y_in x_in t.1)

  -- a node that may come is ready
  ready_from : (given : List (Option ℕ)) (x : ℕ) → x < nodes → may_come rows es given x ≡ true → ReadyNow es given x
  ready_from given x x_in on y z t g =
      let parts = and_parts (is_none (given_to given x)) (list_all (lets_come rows given x) es) on in
      let e = g.0 in
      let ends = between nodes es within e g.1 in
      let mine : AreTogether es x e.from = subst (λ (n : ℕ). AreTogether es x n) (sym g.2) t in
      let lets = all_each (lets_come rows given x) es e parts.1 g.1 in
      elim (or_cases (not (in_one rows x e.from)) (in_one rows x e.to || is_some (given_to given e.to)) lets) [
        | inl out ↦ absurd (false≢true (sym (not-true (in_one rows x e.from) out) ∙ in_from x e.from x_in ends.0 mine))
        | inr more ↦ (elim (or_cases (in_one rows x e.to) (is_some (given_to given e.to)) more) [
          | inl inside ↦ inl (subst (λ (n : ℕ). AreTogether es x n) g.3 (tog x e.to x_in ends.1 inside))
          | inr some ↦ (let s = some_of (given_to given e.to) some in inr (s.0, ap (given_to given) (sym g.3) ∙ s.1))
        ])
      ]

  may_from : (given : List (Option ℕ)) (x : ℕ) → x < nodes → given_to given x ≡ None → ReadyNow es given x → may_come rows es given x ≡ true
  may_from given x x_in none ready =
      and_from (is_none (given_to given x)) (list_all (lets_come rows given x) es) (ap is_none none)
      (all_from (lets_come rows given x) es (λ e h.
      (let ends = between nodes es within e h in
      elim (cases_Bool (in_one rows x e.from)) [
        | inl mine ↦ or_right (not (in_one rows x e.from)) (in_one rows x e.to || is_some (given_to given e.to)) (elim (ready e.from e.to (tog x e.from x_in ends.0 mine) (e, h, refl, refl)) [
          | inl inside ↦ or_left (in_one rows x e.to) (is_some (given_to given e.to)) (in_from x e.to x_in ends.1 inside)
          | inr some ↦ or_right (in_one rows x e.to) (is_some (given_to given e.to)) (ap is_some some.1)
        ])
        | inr off ↦ or_left (not (in_one rows x e.from)) (in_one rows x e.to || is_some (given_to given e.to)) (not_from_false (in_one rows x e.from) off)
      ])))

  -- what is reached from where an edge leaves a component is less
  fewer : (x : ℕ) (e : Edge) → x < nodes → Has es e → AreTogether es x e.from → (AreTogether es x e.to → ⊥) → passing (λ (b : Bool). b) (get_or rows e.to []) < passing (λ (b : Bool). b) (get_or rows x [])
  fewer x e x_in h mine out =
      let ends = between nodes es within e h in
      let there : Reaches es x e.to = further es mine.0 (e, h, refl, refl) in
      let to_long = closed.long e.to ends.1 in
      let x_long = closed.long x x_in in
      passing_lt (λ (b : Bool). b) false (get_or rows e.to []) (get_or rows x []) (to_long ∙ sym x_long)
      (λ k less on. (let k_in : k < nodes = omega (arith, less, to_long) in closed.complete x k x_in k_in (joined es there (closed.sound e.to k ends.1 k_in on))))
      x (omega (arith, x_in, to_long))
      (elim (cases_Bool (reached rows e.to x)) [
        | inl on ↦ absurd (out (there, closed.sound e.to x ends.1 x_in on))
        | inr off ↦ off
      ])
      (closed.complete x x x_in x_in stays)

  -- where none may come, all have numbers
  all_given : (given : List (Option ℕ)) → length given ≡ nodes → ((y : ℕ) → y < length given → may_come rows es given y ≡ false) → (fuel x : ℕ) → x < nodes → passing (λ (b : Bool). b) (get_or rows x []) < fuel → (o : Option ℕ) → given_to given x ≡ o → (i : ℕ) × (given_to given x ≡ Some i)
  all_given given long none zero x x_in less o is = absurd (omega (arith, less))
  all_given given long none (suc fuel) x x_in less (Some i) is = (i, is)
  all_given given long none (suc fuel) x x_in less None is =
      let stuck = none x (omega (arith, x_in, long)) in
      elim (and_cases (is_none (given_to given x)) (list_all (lets_come rows given x) es) stuck) [
        | inl some ↦ absurd (false≢true (sym some ∙ ap is_none is))
        | inr not_all ↦ (
            let f = all_not (lets_come rows given x) es not_all in
            let e = f.0 in
            let ends = between nodes es within e f.1 in
            let parts = or_parts (not (in_one rows x e.from)) (in_one rows x e.to || is_some (given_to given e.to)) f.2 in
            let more = or_parts (in_one rows x e.to) (is_some (given_to given e.to)) parts.1 in
            let mine : AreTogether es x e.from = elim (cases_Bool (in_one rows x e.from)) [
              | inl on ↦ tog x e.from x_in ends.0 on
              | inr off ↦ absurd (false≢true (sym parts.0 ∙ not_from_false (in_one rows x e.from) off))
            ] in
            let out : AreTogether es x e.to → ⊥ = λ t. false≢true (sym more.0 ∙ in_from x e.to x_in ends.1 t) in
            let less_there = fewer x e x_in f.1 mine out in
            let later = all_given given long none fuel e.to ends.1 (omega (arith, less, less_there)) (given_to given e.to) refl in
            absurd (none_some (given_to given e.to) later.0 (none_if (given_to given e.to) more.1) later.1)
            )
      ]

  module _ (old new : List (Option ℕ)) (firsts : List ℕ) (first : ℕ) (was : AreGiven nodes es old firsts) (first_in : first < length old) (comes : may_come rows es old first ≡ true)
      (leasts : (y : ℕ) → y < first → may_come rows es old y ≡ false) (long : length new ≡ length old)
      (gives : (y : ℕ) → y < length old → given_to new y ≡ cond (in_one rows first y) (Some (length firsts)) (given_to old y)) where
    node_in : first < nodes
    node_in = omega (arith, first_in, was.all)

    unnumbered : given_to old first ≡ None
    unnumbered = none_of (given_to old first) (and_parts (is_none (given_to old first)) (list_all (lets_come rows old first) es) comes).0

    new_in : (y : ℕ) → y < nodes → AreTogether es first y → given_to new y ≡ Some (length firsts)
    new_in y y_in t = gives y (omega (arith, y_in, was.all)) ∙ cond-true (in_one rows first y) (Some (length firsts)) (given_to old y) (in_from first y node_in y_in t)

    cases_in : (y : ℕ) → y < nodes → AreTogether es first y ⊎ ((AreTogether es first y → ⊥) × (given_to new y ≡ given_to old y))
    cases_in y y_in = elim (cases_Bool (in_one rows first y)) [
      | inl on ↦ inl (tog first y node_in y_in on)
      | inr off ↦ inr ((λ t. false≢true (sym off ∙ in_from first y node_in y_in t)), gives y (omega (arith, y_in, was.all)) ∙ cond-false (in_one rows first y) (Some (length firsts)) (given_to old y) off)
    ]

    old_none : (y : ℕ) → y < nodes → AreTogether es first y → given_to old y ≡ None
    old_none y y_in t = sym (was.same first y node_in y_in t) ∙ unnumbered

    -- the number of a node before is its number now
    still : (y i : ℕ) → y < nodes → given_to old y ≡ Some i → given_to new y ≡ Some i
    still y i y_in some = elim (cases_in y y_in) [
      | inl t ↦ absurd (none_some (given_to old y) i (old_none y y_in t) some)
      | inr out ↦ out.1 ∙ some
    ]

    -- .. and one below the new one was its number before
    before : (y i : ℕ) → y < nodes → given_to new y ≡ Some i → i < length firsts → given_to old y ≡ Some i
    before y i y_in some less = elim (cases_in y y_in) [
      | inl t ↦ absurd (let e = some_one i (length firsts) (sym some ∙ new_in y y_in t) in omega (arith, e, less))
      | inr out ↦ sym out.1 ∙ some
    ]

    first_old : (j : ℕ) → j < length firsts → slice_index (firsts ++ first ∷ []) j ≡ slice_index firsts j
    first_old j less = get_or_append_left firsts (first ∷ []) 0 j less

    first_new : slice_index (firsts ++ first ∷ []) (length firsts) ≡ first
    first_new = get_or_at firsts first [] 0 (length firsts) refl

    -- the nodes of the component that comes aren't before its first one
    not_before : (x : ℕ) → x < nodes → AreTogether es first x → first ≤ x
    not_before x x_in t = elim (cases_lt x first) [
      | inl less ↦ (
          let ready : ReadyNow es old x = λ y z u g.
          elim (ready_from old first node_in comes y z (link es first x y t u) g) [
            | inl inside ↦ inl (link es x first z (turn es first x t) inside)
            | inr some ↦ inr some
          ] in
          absurd (false≢true (sym (leasts x less) ∙ may_from old x x_in (old_none x x_in t) ready))
          )
      | inr from ↦ from
    ]

    -- a number more
    pub given_more : AreGiven nodes es new (firsts ++ first ∷ [])
    given_more =
        let k = length firsts in
        let more : length (firsts ++ first ∷ []) ≡ k + 1 = length_push firsts first in
        record {
          all = long ∙ was.all;
          same = λ x y x_in y_in t. elim (cases_in x x_in) [
            | inl in_x ↦ new_in x x_in in_x ∙ sym (new_in y y_in (link es first x y in_x t))
            | inr out_x ↦ (elim (cases_in y y_in) [
              | inl in_y ↦ absurd (out_x.0 (link es first y x in_y (turn es x y t)))
              | inr out_y ↦ out_x.1 ∙ (was.same x y x_in y_in t ∙ sym out_y.1)
            ])
          ];
          first = λ j less. elim (cases_order j k) [
            | inl now ↦ (
                let at : slice_index (firsts ++ first ∷ []) j ≡ first = ap (slice_index (firsts ++ first ∷ [])) now ∙ first_new in
                (subst (λ (n : ℕ). n < nodes) (sym at) node_in, ap (given_to new) at ∙ (new_in first node_in (stays, stays) ∙ ap Some (sym now)))
                )
            | inr (inl prior) ↦ (
                let f = was.first j prior in
                let at = first_old j prior in
                (subst (λ (n : ℕ). n < nodes) (sym at) f.0, ap (given_to new) at ∙ still (slice_index firsts j) j f.0 f.1)
                )
            | inr (inr after) ↦ absurd (omega (arith, less, more, after))
          ];
          known = λ x j x_in some. elim (cases_in x x_in) [
            | inl in_x ↦ (
                let now : j ≡ k = some_one j k (sym some ∙ new_in x x_in in_x) in
                let at : slice_index (firsts ++ first ∷ []) j ≡ first = ap (slice_index (firsts ++ first ∷ [])) now ∙ first_new in
                let low = not_before x x_in in_x in
                let less : j < length (firsts ++ first ∷ []) = omega (arith, now, more) in
                (less, subst (λ (n : ℕ). AreTogether es n x) (sym at) in_x, subst (λ (n : ℕ). n ≤ x) (sym at) low)
                )
            | inr out_x ↦ (
                let w = was.known x j x_in (sym out_x.1 ∙ some) in
                let at = first_old j w.0 in
                let less : j < length (firsts ++ first ∷ []) = omega (arith, w.0, more) in
                (less, subst (λ (n : ℕ). AreTogether es n x) (sym at) w.1, subst (λ (n : ℕ). n ≤ x) (sym at) w.2)
                )
          ];
          falls = λ x y j g some.
              (let ends = between nodes es within g.0 g.1 in
              let x_in : x < nodes = subst (λ (n : ℕ). n < nodes) g.2 ends.0 in
              let y_in : y < nodes = subst (λ (n : ℕ). n < nodes) g.3 ends.1 in
              elim (cases_in x x_in) [
                | inl in_x ↦ (
                    let now : j ≡ k = some_one j k (sym some ∙ new_in x x_in in_x) in
                    elim (ready_from old first node_in comes x y in_x g) [
                      | inl inside ↦ (let le : k ≤ j = omega (arith, now) in (k, new_in y y_in inside, le))
                      | inr has ↦ (let w = was.known y has.0 y_in has.1 in let le : has.0 ≤ j = omega (arith, w.0, now) in (has.0, still y has.0 y_in has.1, le))
                    ]
                    )
                | inr out_x ↦ (let f = was.falls x y j g (sym out_x.1 ∙ some) in (f.0, still y f.0 y_in f.1, f.2))
              ]);
          least = λ x j x_in less later ready. elim (cases_order j k) [
            | inl now ↦ (
                let at : slice_index (firsts ++ first ∷ []) j ≡ first = ap (slice_index (firsts ++ first ∷ [])) now ∙ first_new in
                elim (cases_in x x_in) [
                  | inl in_x ↦ (elim later [
                    | inl none ↦ absurd (none_some (given_to new x) k none (new_in x x_in in_x))
                    | inr past ↦ absurd (let e = some_one past.0 k (sym past.1 ∙ new_in x x_in in_x) in omega (arith, e, past.2, now))
                  ])
                  | inr out_x ↦ (
                      let none : given_to old x ≡ None = elim later [
                        | inl empty ↦ sym out_x.1 ∙ empty
                        | inr past ↦ absurd (let w = was.known x past.0 x_in (sym out_x.1 ∙ past.1) in omega (arith, w.0, past.2, now))
                      ] in
                      let ready_now : ReadyNow es old x = λ y z t g.
                      (let ends = between nodes es within g.0 g.1 in
                      let z_in : z < nodes = subst (λ (n : ℕ). n < nodes) g.3 ends.1 in
                      elim (ready y z t g) [
                        | inl inside ↦ inl inside
                        | inr some ↦ inr (some.0, before z some.0 z_in some.1 (omega (arith, some.2, now)))
                      ]) in
                      let may = may_from old x x_in none ready_now in
                      let apart : x ≢ first = λ e. out_x.0 (subst (λ (n : ℕ). AreTogether es first n) (sym e) (stays, stays)) in
                      subst (λ (n : ℕ). n < x) (sym at) (elim (cases_lt x first) [
                        | inl low ↦ absurd (false≢true (sym (leasts x low) ∙ may))
                        | inr from ↦ omega (arith, from, apart)
                      ])
                      )
                ]
                )
            | inr (inl prior) ↦ (
                let later_old : IsLater j (given_to old x) = elim (cases_in x x_in) [
                  | inl in_x ↦ inl (old_none x x_in in_x)
                  | inr out_x ↦ (elim later [
                    | inl none ↦ inl (sym out_x.1 ∙ none)
                    | inr past ↦ inr (past.0, sym out_x.1 ∙ past.1, past.2)
                  ])
                ] in
                let ready_old : ReadyAt es old j x = λ y z t g.
                (let ends = between nodes es within g.0 g.1 in
                let z_in : z < nodes = subst (λ (n : ℕ). n < nodes) g.3 ends.1 in
                elim (ready y z t g) [
                  | inl inside ↦ inl inside
                  | inr some ↦ inr (some.0, before z some.0 z_in some.1 (omega (arith, some.2, prior)), some.2)
                ]) in
                subst (λ (n : ℕ). n < x) (sym (first_old j prior)) (was.least x j x_in prior later_old ready_old)
                )
            | inr (inr after) ↦ absurd (omega (arith, less, more, after))
          ];
        }

    -- .. and fewer without one
    pub fewer_left : passing is_none new < passing is_none old
    fewer_left = passing_lt is_none None new old long
        (λ k less on. (let k_in : k < nodes = omega (arith, less, long, was.all) in
        elim (cases_in k k_in) [
          | inl in_k ↦ ap is_none (old_none k k_in in_k)
          | inr out ↦ ap is_none (sym out.1) ∙ on
        ]))
        first (omega (arith, first_in, long)) (ap is_none (new_in first node_in (stays, stays))) (ap is_none unnumbered)

  -- when all have numbers, these are the components' in their order
  pub given_all : (given : List (Option ℕ)) (firsts numbers : List ℕ) → AreGiven nodes es given firsts → ((y : ℕ) → y < length given → may_come rows es given y ≡ false)
      → numbers ≡ map (λ o. unwrap_or o 0) given → AreCertified nodes es numbers firsts
  given_all given firsts numbers are none plain =
      let number : (x : ℕ) → x < nodes → given_to given x ≡ Some (slice_index numbers x) = λ x x_in.
      (let g = all_given given are.all none (passing (λ (b : Bool). b) (get_or rows x []) + 1) x x_in (omega arith) (given_to given x) refl in
      let at : slice_index numbers x ≡ g.0 = ap (λ (l : List ℕ). slice_index l x) plain ∙ (get_or-map (λ (o : Option ℕ). unwrap_or o 0) given x None 0 (omega (arith, x_in, are.all)) ∙ ap (λ (o : Option ℕ). unwrap_or o 0) g.1) in
      g.1 ∙ ap Some (sym at)) in
      let long : length numbers ≡ nodes = ap length plain ∙ (length-map given (λ (o : Option ℕ). unwrap_or o 0) ∙ are.all) in
      let in_number : (x j : ℕ) → x < nodes → given_to given x ≡ Some j → slice_index numbers x ≡ j = λ x j x_in some. some_one (slice_index numbers x) j (sym (number x x_in) ∙ some) in
      record {
        numbering = record {
          each = long;
          below = λ x x_in. (are.known x (slice_index numbers x) x_in (number x x_in)).0;
          no_gap = λ k less. (let f = are.first k less in (slice_index firsts k, f.0, in_number (slice_index firsts k) k f.0 f.1));
          components = λ x y x_in y_in. (
            (λ t. some_one (slice_index numbers x) (slice_index numbers y) (sym (number x x_in) ∙ (are.same x y x_in y_in t ∙ number y y_in))),
            (λ same.
                let a = (are.known x (slice_index numbers x) x_in (number x x_in)).1 in
                let b = (are.known y (slice_index numbers y) y_in (number y y_in)).1 in
                link es x (slice_index firsts (slice_index numbers x)) y (turn es (slice_index firsts (slice_index numbers x)) x a) (subst (λ (n : ℕ). AreTogether es (slice_index firsts n) y) (sym same) b)),
          );
          falls = λ x y g.
              (let ends = between nodes es within g.0 g.1 in
              let x_in : x < nodes = subst (λ (n : ℕ). n < nodes) g.2 ends.0 in
              let y_in : y < nodes = subst (λ (n : ℕ). n < nodes) g.3 ends.1 in
              let f = are.falls x y (slice_index numbers x) g (number x x_in) in
              let at = in_number y f.0 y_in f.1 in
              omega (arith, f.2, at));
          smallest = λ x k x_in less ready.
              (let own = are.known x (slice_index numbers x) x_in (number x x_in) in
              let k_in : k < length firsts = omega (arith, less, own.0) in
              let f = are.first k k_in in
              let later : IsLater k (given_to given x) = inr (slice_index numbers x, number x x_in, less) in
              let ready_at : ReadyAt es given k x = λ y z t g.
              (let ends = between nodes es within g.0 g.1 in
              let z_in : z < nodes = subst (λ (n : ℕ). n < nodes) g.3 ends.1 in
              elim (ready y z t g) [
                | inl inside ↦ inl inside
                | inr low ↦ inr (slice_index numbers z, number z z_in, low)
              ]) in
              let low = are.least x k x_in k_in later ready_at in
              (slice_index firsts k, f.0, in_number (slice_index firsts k) k f.0 f.1, low));
        };
        first_nodes = λ x less.
            (let x_in : x < nodes = omega (arith, less, long) in
            let own = are.known x (slice_index numbers x) x_in (number x x_in) in
            (own.0, own.2));
        named = λ k less.
            (let f = are.first k less in
            let node : slice_index firsts k < length numbers = omega (arith, f.0, long) in
            (node, in_number (slice_index firsts k) k f.0 f.1));
      }
