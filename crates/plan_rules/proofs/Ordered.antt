-- The changes of a plan, and the first two of one line that are unordered.
use denote.Ref.{Bor}
use Rattle.std.proofs.Common.{◌≡◌, ◌⊎◌, ◌<◌, ◌≤◌, ◌+◌, ◌-◌, ◌∙◌, ℕ, Bool, true, false, cond, List, [], ◌∷◌, ◌++◌, Option, None, Some, Vec, Global, bytes_eq, filter, get_or, length, map, inl, inr, refl, sym, ap, subst, arith}
use Rattle.std.specs.BTreeMap.{BTreeMap}
use Rattle.std.specs.Cmp.{IsTotalOrder}
use Rattle.std.specs.Cmp.Lexicographic.{nat_list_cmp_total}
use Rattle.std.specs.Ordering.{is_gt, is_lt, ordering_reverse}
use Rattle.std.specs.declared.cmp.Ordering.{Ordering}
use Rattle.std.specs.declared.cmp.Ordering.TheVariants.{Equal, Greater, Less}
use Rattle.std.proofs.lemmas.Bool.{cases_Bool, cases_order}
use Rattle.std.proofs.lemmas.Cmp.{nat_cmp_total, on_total, then_total, tied_itself, upto}
use Rattle.std.proofs.lemmas.List.{map-append}
use Rattle.std.proofs.lemmas.List.Elements.{filter-append}
use Rattle.std.proofs.lemmas.Slice.Eq.{bytes_eq-Decides}
use Rattle.basics.specs.Members.{Has}
use Rattle.basics.proofs.Membership.{has-append_cases, has-append_left, has-append_right, has-filter, has-filter_back, has-map, has-map_back}
use Rattle.pkg_state.specs.Index.{listed, one_under}
use Rattle.pkg_state.specs.Package.{Package, line_of}
use Rattle.plan_law.specs.Plans.{Group, Reaches, Removal, WaitsForEarlier, clears, group_at, removed_line}
use Rattle.plan_law.specs.Accepted.{Changes}
use Rattle.plan_law.proofs.Cleared.{adding_is_there, clearing_is_there}
use Rattle.plan_law.proofs.Closed.{not_behind}
use Rattle.basics.proofs.Members.{passes_some, some_passes}
use Rattle.plan_lives.specs.Reaching.{AreReaching, has_bit}
use Rattle.plan_lives.proofs.Clears.{Stands, all_stand, rest_stands, stands_here}
use Rattle.plan_rules.specs.Changes.{AreByLine, changes_from, changes_of, earlier, groups_on}
use Rattle.plan_rules.specs.Pairs.{Pair, pair_cmp}
use Rattle.plan_rules.specs.Rules.{AreUnordered, IsFirstUnordered, line_rule}

abbrev pub Changed : Type 0
Changed = List ℕ × ℕ

module _ (plan : List Group) where
  changes_step : (rest : List Group) (n g : ℕ) (line : List ℕ) → Stands plan n rest → n ≤ g → Changes plan g line → Has (changes_from n rest) (line, g)
  changes_step [] n g line s le (inl e) = absurd (let none : clears (group_at plan g) line ≡ false = ap (λ (x : Group). clears x line) (s g (g - n) (omega (arith, le))) in cc (none, e))
  changes_step [] n g line s le (inr p) = absurd (subst (λ (x : Group). Has x.additions p.0) (s g (g - n) (omega (arith, le))) p.1)
  changes_step (group ∷ rest) n g line s le ch = elim (cases_order n g) [
    | inl same ↦ has-append_left (changes_of n group) (changes_from (n + 1) rest) (line, g) (at_group ch same)
    | inr other ↦ elim other [
      | inl less ↦ has-append_right (changes_of n group) (changes_from (n + 1) rest) (line, g) (changes_step rest (n + 1) g line (rest_stands plan n group rest s) (omega (arith, less)) ch)
      | inr more ↦ absurd (omega (arith, le, more))
    ]
  ] where
    at_group : Changes plan g line → n ≡ g → Has (changes_of n group) (line, g)
    at_group (inl e) same =
        let here : group_at plan g ≡ group = ap (group_at plan) (sym same) ∙ stands_here plan n group rest s in
        let r = some_passes (λ (r : Removal). bytes_eq (removed_line r) line) group.removals (ap (λ (x : Group). clears x line) (sym here) ∙ e) in
        has-append_left (map (λ (r : Removal). (removed_line r, n)) group.removals) (map (λ (p : Package). (line_of p.facts, n)) group.additions) (line, g)
        (subst (λ (c : Changed). Has (map (λ (r : Removal). (removed_line r, n)) group.removals) c) (λ i. ((bytes_eq-Decides (removed_line r.0) line).0 r.2 i, same i))
        (has-map (λ (r : Removal). (removed_line r, n)) group.removals r.0 r.1))
    at_group (inr p) same =
        let here : group_at plan g ≡ group = ap (group_at plan) (sym same) ∙ stands_here plan n group rest s in
        has-append_right (map (λ (r : Removal). (removed_line r, n)) group.removals) (map (λ (p : Package). (line_of p.facts, n)) group.additions) (line, g)
        (subst (λ (c : Changed). Has (map (λ (p : Package). (line_of p.facts, n)) group.additions) c) (λ i. (p.2 i, same i))
        (has-map (λ (p : Package). (line_of p.facts, n)) group.additions p.0 (subst (λ (x : Group). Has x.additions p.0) here p.1)))

  changed_step : (rest : List Group) (n g : ℕ) (line : List ℕ) → Stands plan n rest → Has (changes_from n rest) (line, g) → Changes plan g line
  changed_step [] n g line s h = absurd h
  changed_step (group ∷ rest) n g line s h = elim (has-append_cases (changes_of n group) (changes_from (n + 1) rest) (line, g) h) [
    | inr later ↦ changed_step rest (n + 1) g line (rest_stands plan n group rest s) later
    | inl now ↦ elim (has-append_cases (map (λ (r : Removal). (removed_line r, n)) group.removals) (map (λ (p : Package). (line_of p.facts, n)) group.additions) (line, g) now) [
      | inl removed ↦ (
          let k = has-map_back (λ (r : Removal). (removed_line r, n)) group.removals (line, g) removed in
          let is : removed_line k.0 ≡ line = ap (λ (c : Changed). c.0) k.2 in
          let place : n ≡ g = ap (λ (c : Changed). c.1) k.2 in
          inl (ap (λ (x : Group). clears x line) (ap (group_at plan) (sym place) ∙ stands_here plan n group rest s)
          ∙ passes_some (λ (r : Removal). bytes_eq (removed_line r) line) group.removals k.0 k.1 ((bytes_eq-Decides (removed_line k.0) line).1 is)))
      | inr added ↦ (
          let k = has-map_back (λ (p : Package). (line_of p.facts, n)) group.additions (line, g) added in
          let is : line_of k.0.facts ≡ line = ap (λ (c : Changed). c.0) k.2 in
          let place : n ≡ g = ap (λ (c : Changed). c.1) k.2 in
          inr (k.0, subst (λ (x : Group). Has x.additions k.0) (sym (ap (group_at plan) (sym place) ∙ stands_here plan n group rest s)) k.1, is))
    ]
  ]

module _ (plan : List Group) (all : List Changed) (is_all : all ≡ changes_from 0 plan) where
  pub changes_at : (line : List ℕ) (g : ℕ) → Has all (line, g) → Changes plan g line
  changes_at line g h = changed_step plan plan 0 g line (all_stand plan) (subst (λ (cs : List Changed). Has {A = Changed} cs (line, g)) is_all h)

  pub at_changes : (line : List ℕ) (g : ℕ) → Changes plan g line → Has {A = Changed} all (line, g)
  at_changes line g ch = subst (λ (cs : List Changed). Has {A = Changed} cs (line, g)) (sym is_all) (changes_step plan plan 0 g line (all_stand plan) (omega arith) ch)

-- a group that changes a line is there
pub is_there : (plan : List Group) (line : List ℕ) (g : ℕ) → Changes plan g line → g < length plan
is_there plan line g (inl e) = clearing_is_there plan g line e
is_there plan line g (inr p) = adding_is_there plan g p.0 p.1

-- one change more stands under its line
abbrev Lists : Type 0
Lists = BTreeMap (Bor (List ℕ)) (Vec ℕ Global)

one_group : (b : Bool) (c : Changed) → map (λ (x : Changed). x.1) (cond b (c ∷ []) []) ≡ cond b (c.1 ∷ []) []
one_group true c = refl
one_group false c = refl

pub by_line_more : (cs : List Changed) (c : Changed) (line : List ℕ) (old new : Lists) → line ≡ c.0 → AreByLine cs old → ((text : List ℕ) → listed new text ≡ listed old text ++ one_under line text c.1) → AreByLine (cs ++ c ∷ []) new
by_line_more cs c line old new own are put text =
    put text ∙ (ap (λ (gs : List ℕ). gs ++ one_under line text c.1) (are text)
    ∙ (ap (λ (gs : List ℕ). groups_on text cs ++ gs) (ap (λ (l : List ℕ). one_under l text c.1) own ∙ sym (one_group (bytes_eq text c.0) c))
    ∙ (sym (map-append (λ (x : Changed). x.1) (filter (λ (x : Changed). bytes_eq text x.0) cs) (filter (λ (x : Changed). bytes_eq text x.0) (c ∷ [])))
    ∙ ap (map (λ (x : Changed). x.1)) (sym (filter-append (λ (x : Changed). bytes_eq text x.0) cs (c ∷ []))))))

-- the groups under a line are those that change it
pub on_line : (cs : List Changed) (line : List ℕ) (g : ℕ) → Has (groups_on line cs) g → Has {A = Changed} cs (line, g)
on_line cs line g h =
    let k = has-map_back (λ (x : Changed). x.1) (filter (λ (x : Changed). bytes_eq line x.0) cs) g h in
    let m = has-filter_back (λ (x : Changed). bytes_eq line x.0) cs k.0 k.1 in
    subst (λ (x : Changed). Has cs x) (λ i. (sym ((bytes_eq-Decides line k.0.0).0 m.1) i, k.2 i)) m.0

pub under_line : (cs : List Changed) (line : List ℕ) (g : ℕ) → Has {A = Changed} cs (line, g) → Has (groups_on line cs) g
under_line cs line g h = has-map (λ (x : Changed). x.1) (filter (λ (x : Changed). bytes_eq line x.0) cs) (line, g) (has-filter (λ (x : Changed). bytes_eq line x.0) cs (line, g) h ((bytes_eq-Decides line line).1 refl))

-- pairs are in order
abbrev pub pairs_total : IsTotalOrder pair_cmp
pairs_total = then_total (then_total (on_total (λ (p : Pair). p.line) nat_list_cmp_total) (on_total (λ (p : Pair). p.lower) nat_cmp_total)) (on_total (λ (p : Pair). p.higher) nat_cmp_total)

less_not_more : (o : Ordering) → is_lt o ≡ true → is_gt o ≡ false
less_not_more Less e = refl
less_not_more Equal e = refl
less_not_more Greater e = absurd (cc e)

turned : (o p : Ordering) → o ≡ ordering_reverse p → is_lt p ≡ false → is_gt o ≡ false
turned o Less e off = absurd (cc off)
turned o Equal e off = ap is_gt e
turned o Greater e off = ap is_gt e

-- the pairs of these changes
abbrev pub IsSeen : List Changed → Pair → Type 0
IsSeen cs q = Has {A = Changed} cs (q.line, q.lower)

-- .. and those of one change and of these groups
abbrev pub IsSeenWith : List Changed → Changed → List ℕ → Pair → Type 0
IsSeenWith cs c gs q = IsSeen cs q ⊎ ((c ≡ (q.line, q.lower)) × Has gs q.higher)

module _ (plan : List Group) where
  -- the first of the unordered pairs that were seen so far
  abbrev pub IsBest : (Pair → Type 0) → Option Pair → Type 0
  IsBest Seen None = (q : Pair) → Seen q → ¬ AreUnordered plan q
  IsBest Seen (Some p) = AreUnordered plan p × ((q : Pair) → Seen q → AreUnordered plan q → is_gt (pair_cmp p q) ≡ false)

  pub best_of_none : IsBest (λ q. ⊥) None
  best_of_none q seen = absurd seen

  -- what was seen is what counts
  pub best_too : (Seen Also : Pair → Type 0) (o : Option Pair) → ((q : Pair) → Also q → AreUnordered plan q → Seen q) → IsBest Seen o → IsBest Also o
  best_too Seen Also None to best = λ q also u. best q (to q also u) u
  best_too Seen Also (Some p) to best = (best.0, λ q also u. best.1 q (to q also u) u)

  better : (Seen : Pair → Type 0) (p q : Pair) (b : Bool) → is_lt (pair_cmp q p) ≡ b → IsBest Seen (Some p) → AreUnordered plan q → IsBest (λ x. Seen x ⊎ (q ≡ x)) (Some (cond b q p))
  better Seen p q true e best u = (u, rest) where
    below : is_gt (pair_cmp q p) ≡ false
    below = less_not_more (pair_cmp q p) e

    rest : (x : Pair) → Seen x ⊎ (q ≡ x) → AreUnordered plan x → is_gt (pair_cmp q x) ≡ false
    rest x (inl seen) v = upto pairs_total q p x below (best.1 x seen v)
    rest x (inr same) v = ap is_gt (ap (pair_cmp q) (sym same) ∙ tied_itself pairs_total q)
  better Seen p q false e best u = (best.0, rest) where
    rest : (x : Pair) → Seen x ⊎ (q ≡ x) → AreUnordered plan x → is_gt (pair_cmp p x) ≡ false
    rest x (inl seen) v = best.1 x seen v
    rest x (inr same) v = subst (λ (y : Pair). is_gt (pair_cmp p y) ≡ false) same (turned (pair_cmp p q) (pair_cmp q p) (pairs_total.antisymm p q) e)

  -- one unordered pair more
  pub best_more : (Seen : Pair → Type 0) (o : Option Pair) (q : Pair) → IsBest Seen o → AreUnordered plan q → IsBest (λ x. Seen x ⊎ (q ≡ x)) (Some (earlier o q))
  best_more Seen None q best u = (u, rest) where
    rest : (x : Pair) → Seen x ⊎ (q ≡ x) → AreUnordered plan x → is_gt (pair_cmp q x) ≡ false
    rest x (inl seen) v = absurd (best x seen v)
    rest x (inr same) v = ap is_gt (ap (pair_cmp q) (sym same) ∙ tied_itself pairs_total q)
  best_more Seen (Some p) q best u = better Seen p q (is_lt (pair_cmp q p)) refl best u

  -- two groups of a line of which the higher one doesn't reach the lower one
  pub unordered : WaitsForEarlier plan → (line : List ℕ) (g h : ℕ) → Changes plan g line → Changes plan h line → (g < h) × (¬ Reaches plan h g) → AreUnordered plan (record { line = line; lower = g; higher = h })
  unordered f line g h one other apart = record {
    below = apart.0;
    one = one;
    other = other;
    apart = λ r. elim r [ inl a ↦ apart.1 a | inr b ↦ (let back = not_behind plan f g h b in let less = apart.0 in omega (arith, back, less)) ];
  }

  pub not_unordered : (p : Pair) → AreUnordered plan p → (p.lower < p.higher) × (¬ Reaches plan p.higher p.lower)
  not_unordered p u = (u.below, λ r. u.apart (inl r))

  module _ (cs : List Changed) (c : Changed) (gs : List ℕ) (h : ℕ) (o : Option Pair) (best : IsBest (IsSeenWith cs c gs) o) where
    cases : (q : Pair) → IsSeenWith cs c (gs ++ h ∷ []) q → IsSeenWith cs c gs q ⊎ (record { line = c.0; lower = c.1; higher = h } ≡ q)
    cases q (inl seen) = inl (inl seen)
    cases q (inr now) = elim (has-append_cases gs (h ∷ []) q.higher now.1) [
      | inl old ↦ inl (inr (now.0, old))
      | inr new ↦ elim new [ inl e ↦ inr (λ i. record { line = (now.0 i).0; lower = (now.0 i).1; higher = e i }) | inr none ↦ absurd none ]
    ]

    pub with_pair : AreUnordered plan (record { line = c.0; lower = c.1; higher = h }) → IsBest (IsSeenWith cs c (gs ++ h ∷ [])) (Some (earlier o (record { line = c.0; lower = c.1; higher = h })))
    with_pair u = best_too (λ x. IsSeenWith cs c gs x ⊎ (record { line = c.0; lower = c.1; higher = h } ≡ x)) (IsSeenWith cs c (gs ++ h ∷ [])) (Some (earlier o (record { line = c.0; lower = c.1; higher = h })))
        (λ q also v. cases q also) (best_more (IsSeenWith cs c gs) o (record { line = c.0; lower = c.1; higher = h }) best u)

    pub with_none : ¬ AreUnordered plan (record { line = c.0; lower = c.1; higher = h }) → IsBest (IsSeenWith cs c (gs ++ h ∷ [])) o
    with_none off = best_too (IsSeenWith cs c gs) (IsSeenWith cs c (gs ++ h ∷ [])) o to best where
      to : (q : Pair) → IsSeenWith cs c (gs ++ h ∷ []) q → AreUnordered plan q → IsSeenWith cs c gs q
      to q also v = elim (cases q also) [ inl old ↦ old | inr same ↦ absurd (off (subst (AreUnordered plan) (sym same) v)) ]

  module _ (all : List Changed) (is_all : all ≡ changes_from 0 plan) where
    -- all groups of the change's line were gone through
    pub all_with : (cs : List Changed) (c : Changed) (o : Option Pair) → IsBest (IsSeenWith cs c (groups_on c.0 all)) o → IsBest (IsSeen (cs ++ c ∷ [])) o
    all_with cs c o best = best_too (IsSeenWith cs c (groups_on c.0 all)) (IsSeen (cs ++ c ∷ [])) o to best where
      to : (q : Pair) → IsSeen (cs ++ c ∷ []) q → AreUnordered plan q → IsSeenWith cs c (groups_on c.0 all) q
      to q seen u = elim (has-append_cases cs (c ∷ []) (q.line, q.lower) seen) [
        | inl old ↦ inl old
        | inr now ↦ elim now [
          | inl e ↦ inr (e, subst (λ (l : List ℕ). Has (groups_on l all) q.higher) (sym (ap (λ (x : Changed). x.0) e)) (under_line all q.line q.higher (at_changes plan all is_all q.line q.higher u.other)))
          | inr none ↦ absurd none
        ]
      ]

    -- all changes were gone through
    pub first_of_all : (o : Option Pair) → IsBest (IsSeen all) o → IsBest (λ q. Unit {0}) o
    first_of_all o best = best_too (IsSeen all) (λ q. Unit {0}) o (λ q t u. at_changes plan all is_all q.line q.lower u.one) best

  -- there is none: whether one group reaches another is in the table
  pub none_apart : (rows : List (List ℕ)) → AreReaching plan rows → WaitsForEarlier plan → IsBest (λ q. Unit {0}) None → line_rule plan None
  none_apart rows are f best g h line less one other =
      let marks = are.marks h g (is_there plan line h other) (is_there plan line g one) in
      elim (cases_Bool (has_bit (get_or rows h []) g)) [
        | inl y ↦ inl (marks.0 y)
        | inr n ↦ absurd (best (record { line = line; lower = g; higher = h }) tt (unordered f line g h one other (less, λ r. let y = marks.1 r in let off : true ≡ false = sym y ∙ n in cc off)))
      ]

  pub first_apart : (p : Pair) → IsBest (λ q. Unit {0}) (Some p) → IsFirstUnordered plan p
  first_apart p best = record { unordered = best.0; first = λ q u. best.1 q tt u }
