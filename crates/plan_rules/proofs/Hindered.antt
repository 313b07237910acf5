-- What is in the way of packages, and what is where nothing is.
use Rattle.std.proofs.Common.{◌≡◌, ◌⊎◌, ◌∙◌, ◌<◌, ◌≤◌, ◌+◌, ◌-◌, ℕ, Bool, List, [], ◌∷◌, ◌++◌, None, bytes_eq, filter, get_or, inl, inr, length, map, refl, sym, ap, subst, arith}
use Rattle.std.specs.List.{list_any}
use Rattle.std.specs.List.Sorted.{IsSortedBy}
use Rattle.std.proofs.lemmas.Bool.{cases_eq, cases_order, false_from_ne_true}
use Rattle.std.proofs.lemmas.List.{length-append, length-map}
use Rattle.std.proofs.lemmas.List.Elements.{filter-append}
use Rattle.std.proofs.lemmas.List.Sorted.{IsPermutation-sym}
use Rattle.basics.specs.Members.{AreDistinct, Has}
use Rattle.basics.proofs.Lists.{heads, tails}
use Rattle.basics.proofs.Members.{some_passes}
use Rattle.basics.proofs.Membership.{has-at, has-map_back}
use Rattle.basics.proofs.Permutations.{has-moved}
use Rattle.basics.proofs.Tests.{same_tests}
use Rattle.basics.proofs.Texts.{bytes_eq-same, same_text}
use Rattle.pkg_state.specs.Package.{Package, line_of, lines_of}
use Rattle.plan_law.specs.Plans.{Group, group_at}
use Rattle.plan_law.specs.Lives.{ComesBefore, Enters, IsLife, Life, Moment, commit, never, opening}
use Rattle.plan_law.proofs.There.{some_life}
use Rattle.plan_lives.specs.Lives.{life, lives, lives_behind}
use Rattle.plan_lives.proofs.AllLives.{has_lives}
use Rattle.plan_lives.proofs.Clears.{Stands, all_stand, rest_stands, stands_here}
use Rattle.plan_rules.specs.Order.{AreInOrder, is_before, life_key, number_of}
use Rattle.plan_rules.specs.Places.{IsAt, IsOfNoOther}
use Rattle.plan_rules.specs.Refusals.{Refusal as refused}
use Rattle.plan_rules.specs.Rules.{AreDouble, AreOneVersion, AreTwins, Crowds, HasLine, Hinders, room_of, room_rule}
use Rattle.plan_rules.specs.Verdicts.{refuse}
use Rattle.plan_rules.proofs.Sorting.{filter_viewed, none_pass, same_filter}
use Rattle.plan_rules.proofs.Tallies.{any_default, apart_by_key, has_place, last_too, next_too, of_key, one_at_most, one_of_key, two_pass}
use Rattle.plan_rules.proofs.Trying.{from_all, from_passed}

number_comes : (b : Moment) (g : ℕ) → number_of b ≡ g + 1 → b ≡ commit g
number_comes opening g e = absurd (omega (arith, e))
number_comes (commit h) g e = ap commit (let same : h ≡ g = omega (arith, e) in same)
number_comes never g e = absurd (omega (arith, e))

from_zero : (n : ℕ) → 0 + n ≡ n
from_zero n = omega arith

-- what is in the way of no package at another place
pub room_free : (plan : List Group) (all : List Life) (i : ℕ) (x : Life) → IsOfNoOther all i (Hinders plan x) → room_of plan all i x None
room_free plan all i x free = from_all (λ (j : ℕ) (y : Life). refuse ((¬ (j ≡ i)) × Hinders plan x y) (refused.Occupied (number_of x.birth) x.package_is.facts.id y.package_is.facts.id)) all (λ j y lj jy fact. free j y (record { within = lj; is = jy }) fact.0 fact.1)

-- what stands in the order stands in the list
pub within_all : (xs all : List Life) → AreInOrder life_key xs all → (i : ℕ) (x : Life) → IsAt all i x → Has xs x
within_all xs all order i x at_i = has-moved all xs x (IsPermutation-sym xs all order.moved) (has-at all i x at_i.within at_i.is)

-- nothing is in the way of a version that is on no other line, where nothing has its line
pub not_hindered : (plan : List Group) (xs all : List Life) → AreInOrder life_key xs all → (i : ℕ) (x : Life) → ((y : Life) → Has xs y → ¬ AreDouble plan x y) → (b : Moment) → x.birth ≡ b → IsOfNoOther all i (λ y. HasLine plan x y b) → IsOfNoOther all i (Hinders plan x)
not_hindered plan xs all order i x single b is free j y at_j apart h = elim h [
  | inl line ↦ free j y at_j apart (subst (λ (m : Moment). HasLine plan x y m) is line)
  | inr double ↦ single y (within_all xs all order j y at_j) double
]

-- what comes to a line with a group stands beside the others that do
module _ (all : List Life) (up : IsSortedBy (is_before life_key) all) (g i : ℕ) (x : Life) (at_i : IsAt all i x) (e : x.birth ≡ commit g) where
  twin_of : (z : Life) → life_key z ≡ life_key x → AreTwins g x z
  twin_of z same = record {
    comes = number_comes z.birth g (heads (number_of z.birth) (number_of x.birth) (line_of z.package_is.facts) (line_of x.package_is.facts) same ∙ ap number_of e);
    twin = tails (number_of z.birth) (number_of x.birth) (line_of z.package_is.facts) (line_of x.package_is.facts) same;
  }

  same_key : (y : Life) → AreTwins g x y → life_key y ≡ life_key x
  same_key y twins = (λ k. number_of (twins.comes k) ∷ twins.twin k) ∙ sym (ap (λ (b : Moment). number_of b ∷ line_of x.package_is.facts) e)

  pub alone : ((y : Life) → IsAt all (i + 1) y → ¬ AreTwins g x y) → ((j : ℕ) (y : Life) → i ≡ j + 1 → IsAt all j y → ¬ AreTwins g x y) → IsOfNoOther all i (AreTwins g x)
  alone next last j y at_j apart twins = elim (cases_order i j) [
    | inl same ↦ apart (sym same)
    | inr other ↦ elim other [
      | inl less ↦ (let lj = at_j.within in let within : i + 1 < length all = omega (arith, less, lj) in
          next (get_or all (i + 1) x) (record { within = within; is = any_default all (i + 1) x (get_or all (i + 1) x) within })
          (twin_of (get_or all (i + 1) x) (next_too life_key all up i j x y at_i.within at_i.is at_j.within at_j.is (same_key y twins) less)))
      | inr more ↦ (let li = at_i.within in let within : i - 1 < length all = omega (arith, more, li) in
          last (i - 1) (get_or all (i - 1) x) (omega (arith, more)) (record { within = within; is = any_default all (i - 1) x (get_or all (i - 1) x) within })
          (twin_of (get_or all (i - 1) x) (last_too life_key all up i j x y at_i.within at_i.is at_j.within at_j.is (same_key y twins) more)))
    ]
  ]

-- among the lives of a plan those that come to a line with a group are as many as its additions there
module _ (g : ℕ) (line : List ℕ) where
  abbrev key : List ℕ
  key = (g + 1) ∷ line

  abbrev comes : Life → Bool
  comes = of_key life_key key

  abbrev on_line : Package → Bool
  on_line = of_key (λ (p : Package). line_of p.facts) line

  module _ (b : Moment) (rest : List Group) (n : ℕ) where
    as_many : number_of b ≡ g + 1 → (ps : List Package) → length (filter comes (map (life b rest n) ps)) ≡ length (filter on_line ps)
    as_many e ps =
        ap length (filter_viewed (life b rest n) comes ps)
        ∙ (length-map (filter (λ (p : Package). comes (life b rest n p)) ps) (life b rest n)
        ∙ ap length (same_filter (λ (p : Package). comes (life b rest n p)) on_line same ps))
      where
        same : (p : Package) → comes (life b rest n p) ≡ on_line p
        same p = same_tests (comes (life b rest n p)) (on_line p)
            (λ y. ap (bytes_eq line) (sym (tails (g + 1) (number_of b) line (line_of p.facts) (same_text key (life_key (life b rest n p)) y))) ∙ bytes_eq-same line)
            (λ y. ap (λ (k : List ℕ). bytes_eq key k) (λ i. e i ∷ sym (same_text line (line_of p.facts) y) i) ∙ bytes_eq-same key)

    none_of : ¬ (number_of b ≡ g + 1) → (ps : List Package) → length (filter comes (map (life b rest n) ps)) ≡ 0
    none_of apart ps = ap length (none_pass comes (map (life b rest n) ps) (false_from_ne_true (list_any comes (map (life b rest n) ps)) (λ some.
        let x = some_passes comes (map (life b rest n) ps) some in
        let p = has-map_back (life b rest n) ps x.0 x.1 in
        apart (sym (heads (g + 1) (number_of b) line (line_of p.0.facts) (same_text key (life_key (life b rest n p.0)) (ap comes p.2 ∙ x.2)))))))

  joined : (xs ys : List Life) (m n : ℕ) → length (filter comes xs) ≡ m → length (filter comes ys) ≡ n → length (filter comes (xs ++ ys)) ≡ m + n
  joined xs ys m n e h = ap length (filter-append comes xs ys) ∙ (length-append (filter comes xs) (filter comes ys) ∙ (λ i. e i + h i))

  none_behind : (rest : List Group) (n : ℕ) → g < n → length (filter comes (lives_behind rest n)) ≡ 0
  none_behind [] n lt = refl
  none_behind (group ∷ rest) n lt = joined (map (life (commit n) rest (n + 1)) group.additions) (lives_behind rest (n + 1)) 0 0
      (none_of (commit n) rest (n + 1) (λ (e : n + 1 ≡ g + 1). omega (arith, lt, e)) group.additions) (none_behind rest (n + 1) (omega (arith, lt)))

  module _ (plan : List Group) where
    abbrev there : ℕ
    there = length (filter on_line (group_at plan g).additions)

    behind : (rest : List Group) (n : ℕ) → Stands plan n rest → n ≤ g → length (filter comes (lives_behind rest n)) ≡ there
    behind [] n s le = sym (ap (λ (x : Group). length (filter on_line x.additions)) (s g (g - n) (omega (arith, le))))
    behind (group ∷ rest) n s le = elim (cases_eq n g) [
      | inl same ↦ joined (map (life (commit n) rest (n + 1)) group.additions) (lives_behind rest (n + 1)) (length (filter on_line group.additions)) 0
          (as_many (commit n) rest (n + 1) (let e : n + 1 ≡ g + 1 = omega (arith, same) in e) group.additions) (none_behind rest (n + 1) (omega (arith, same)))
          ∙ (let whole : length (filter on_line group.additions) + 0 ≡ length (filter on_line group.additions) = omega arith in
          whole ∙ ap (λ (x : Group). length (filter on_line x.additions)) (sym (stands_here plan n group rest s) ∙ ap (group_at plan) same))
      | inr other ↦ joined (map (life (commit n) rest (n + 1)) group.additions) (lives_behind rest (n + 1)) 0 there
          (none_of (commit n) rest (n + 1) (λ (e : n + 1 ≡ g + 1). other (omega (arith, e))) group.additions)
          (behind rest (n + 1) (rest_stands plan n group rest s) (omega (arith, le, other))) ∙ from_zero there
    ]

    pub many_come : (start : List Package) → length (filter comes (lives plan start)) ≡ there
    many_come start = joined (map (life opening plan 0) start) (lives_behind plan 0) 0 there
        (none_of opening plan 0 (λ (e : 0 ≡ g + 1). omega (arith, e)) start) (behind plan 0 (all_stand plan) (omega arith)) ∙ from_zero there

module _ (plan : List Group) (start : List Package) (all : List Life) (order : AreInOrder life_key (lives plan start) all) where
  lists : (x : Life) → IsLife plan start x → Has all x
  lists x is = has-moved (lives plan start) all x order.moved ((has_lives plan start x).1 is)

  at_life : (i : ℕ) (x : Life) → IsAt all i x → IsLife plan start x
  at_life i x at_i = (has_lives plan start x).0 (within_all (lives plan start) all order i x at_i)

  few_come : (g : ℕ) (line : List ℕ) → length (filter (comes g line) all) ≡ length (filter (on_line g line) (group_at plan g).additions)
  few_come g line = ap length (order.stable (key g line)) ∙ many_come g line plan start

  come_key : (g : ℕ) (x : Life) → x.birth ≡ commit g → life_key x ≡ key g (line_of x.package_is.facts)
  come_key g x e = ap (λ (b : Moment). number_of b ∷ line_of x.package_is.facts) e

  -- an addition of which nothing is twice has no twin
  pub no_twin : ((g : ℕ) → AreDistinct (lines_of (group_at plan g).additions)) → (i : ℕ) (x : Life) (g : ℕ) → IsAt all i x → x.birth ≡ commit g → IsOfNoOther all i (AreTwins g x)
  no_twin single i x g at_i e j y at_j apart twins =
      let line = line_of x.package_is.facts in
      let two : 2 ≤ length (filter (comes g line) all) = two_pass (comes g line) all i j x y at_i.within at_i.is at_j.within at_j.is apart
      (ap (bytes_eq (key g line)) (come_key g x e) ∙ bytes_eq-same (key g line))
      (ap (bytes_eq (key g line)) (come_key g y twins.comes ∙ ap (λ (l : List ℕ). key g l) twins.twin) ∙ bytes_eq-same (key g line)) in
      let same : length (filter (comes g line) all) ≡ length (filter (on_line g line) (group_at plan g).additions) = few_come g line in
      let one : length (filter (on_line g line) (group_at plan g).additions) ≤ 1 = one_of_key (λ (p : Package). line_of p.facts) (group_at plan g).additions (single g) line in
      omega (arith, two, same, one)

  -- nothing is in the way where no rule of an accepted plan is broken
  module _ (vacant : (g : ℕ) (p : Package) (y : Life) → Has (group_at plan g).additions p → IsLife plan start y → ¬ Crowds (group_at plan g) g p y)
      (single : (g : ℕ) → AreDistinct (lines_of (group_at plan g).additions)) (versions : (x y : Life) → IsLife plan start x → IsLife plan start y → ¬ AreOneVersion plan x y) where
    line_free : (i : ℕ) (x : Life) (b : Moment) → x.birth ≡ b → IsAt all i x → IsOfNoOther all i (λ y. HasLine plan x y b)
    line_free i x opening e at_i j y at_j apart h = h
    line_free i x (commit g) e at_i j y at_j apart (inl crowd) =
        vacant g x.package_is y (subst (λ (b : Moment). Enters plan start b x.package_is) e (at_life i x at_i).enters) (at_life j y at_j) crowd
    line_free i x (commit g) e at_i j y at_j apart (inr twins) = no_twin single i x g at_i e j y at_j apart twins
    line_free i x never e at_i j y at_j apart h = h

    pub room_none : room_rule plan all None
    room_none = from_all (room_of plan all) all (λ i x li ix. from_all (λ (j : ℕ) (y : Life). refuse ((¬ (j ≡ i)) × Hinders plan x y) (refused.Occupied (number_of x.birth) x.package_is.facts.id y.package_is.facts.id)) all (λ j y lj jy fact.
        hindered (record { within = li; is = ix }) (record { within = lj; is = jy }) fact.0 fact.1)) where
          hindered : {i j : ℕ} {x y : Life} → IsAt all i x → IsAt all j y → ¬ (j ≡ i) → Hinders plan x y → ⊥
          hindered {i} {j} {x} {y} at_i at_j apart (inl h) = line_free i x x.birth refl at_i j y at_j apart h
          hindered {i} {j} {x} {y} at_i at_j apart (inr h) = versions x y (at_life i x at_i) (at_life j y at_j) h.double

  -- .. and the other way round
  module _ (none : room_rule plan all None) where
    free : (i : ℕ) (x : Life) → IsAt all i x → IsOfNoOther all i (Hinders plan x)
    free i x at_i j y at_j apart h = from_passed (λ (j : ℕ) (y : Life). refuse ((¬ (j ≡ i)) × Hinders plan x y) (refused.Occupied (number_of x.birth) x.package_is.facts.id y.package_is.facts.id)) all
        (from_passed (room_of plan all) all none i x at_i.within at_i.is) j y at_j.within at_j.is (apart, h)

    place_of : (x : Life) → IsLife plan start x → (i : ℕ) × IsAt all i x
    place_of x is = let k = has_place all x (lists x is) in (k.0, record { within = k.1; is = k.2 })

    hindered_at : (g : ℕ) (x y : Life) → x.birth ≡ commit g → Crowds (group_at plan g) g x.package_is y ⊎ AreTwins g x y → Hinders plan x y
    hindered_at g x y e h = inl (subst (λ (b : Moment). HasLine plan x y b) (sym e) h)

    not_the_one : (i j : ℕ) (x y : Life) → IsAt all i x → IsAt all j y → ¬ (y ≡ x) → ¬ (j ≡ i)
    not_the_one i j x y at_i at_j apart e = apart (at_j.is ∙ (ap (λ (n : ℕ). get_or all n y) e ∙ (any_default all i y x at_i.within ∙ sym at_i.is)))

    pub vacant_if : (g : ℕ) (p : Package) (y : Life) → Has (group_at plan g).additions p → IsLife plan start y → ¬ Crowds (group_at plan g) g p y
    vacant_if g p y has is crowd =
        let k = some_life plan start p (commit g) has in
        let x : Life = record { package_is = p; birth = commit g; death = k.0 } in
        let i = place_of x k.1 in
        let j = place_of y is in
        free i.0 x i.1 j.0 y j.1 (not_the_one i.0 j.0 x y i.1 j.1 (λ e. let before : g < g = subst (λ (b : Moment). ComesBefore b g) (ap (λ (z : Life). z.birth) e) crowd.stands.born in omega (arith, before)))
        (inl (inl crowd))

    pub single_if : (g : ℕ) → AreDistinct (lines_of (group_at plan g).additions)
    single_if g = apart_by_key (λ (p : Package). line_of p.facts) (group_at plan g).additions (λ line.
        let same : length (filter (comes g line) all) ≡ length (filter (on_line g line) (group_at plan g).additions) = few_come g line in
        let one : length (filter (comes g line) all) ≤ 1 = one_at_most (comes g line) all (λ i j x y li ix lj jy apart fx fy.
        let kx = same_text (key g line) (life_key x) fx in
        let ky = same_text (key g line) (life_key y) fy in
        let bx = number_comes x.birth g (sym (heads (g + 1) (number_of x.birth) line (line_of x.package_is.facts) kx)) in
        let by_ = number_comes y.birth g (sym (heads (g + 1) (number_of y.birth) line (line_of y.package_is.facts) ky)) in
        let lx = tails (g + 1) (number_of x.birth) line (line_of x.package_is.facts) kx in
        let ly = tails (g + 1) (number_of y.birth) line (line_of y.package_is.facts) ky in
        free i x (record { within = li; is = ix }) j y (record { within = lj; is = jy }) apart (hindered_at g x y bx (inr (record { comes = by_; twin = sym ly ∙ lx })))) in
        let few : length (filter (on_line g line) (group_at plan g).additions) ≤ 1 = omega (arith, same, one) in
        few)

    turned : (x y : Life) → AreOneVersion plan x y → AreOneVersion plan y x
    turned x y o = record {
      meets = record { lives_on = o.meets.has_come; has_come = o.meets.lives_on };
      same = sym o.same;
      apart = λ e. o.apart (sym e);
    }

    doubled : (x y : Life) → IsLife plan start x → IsLife plan start y → ¬ AreDouble plan x y
    doubled x y isx isy d =
        let i = place_of x isx in
        let j = place_of y isy in
        free i.0 x i.1 j.0 y j.1 (not_the_one i.0 j.0 x y i.1 j.1 (λ e. d.double.apart (ap (λ (z : Life). line_of z.package_is.facts) (sym e)))) (inr d)

    is_opening : (b : Moment) → (b ≡ opening) ⊎ (¬ (b ≡ opening))
    is_opening opening = inl refl
    is_opening (commit g) = inr (λ e. cc e)
    is_opening never = inr (λ e. cc e)

    pub versions_if : (x y : Life) → IsLife plan start x → IsLife plan start y → ¬ AreOneVersion plan x y
    versions_if x y isx isy o = elim (is_opening x.birth) [
      | inl e ↦ doubled y x isy isx (record { double = turned x y o; early = λ k. e })
      | inr no_ ↦ doubled x y isx isy (record { double = o; early = λ e. absurd (no_ e) })
    ]
