-- Lines and their places among the changes.
use Rattle.std.proofs.Common.{◌≡◌, ◌⊎◌, ◌≢◌, ◌<◌, ◌≤◌, ◌+◌, ◌∙◌, ◌++◌, ◌||◌, ℕ, zero, suc, Bool, true, false, cond, List, [], ◌∷◌, Option, None, Some, filter, inl, inr, length, map, nat_eq, not, refl, ap, arith, subst, sym}
use Rattle.std.specs.Prelude.{slice_get}
use Rattle.std.specs.List.{flat_map}
use Rattle.std.proofs.lemmas.Bool.Decides.{eqb_tells}
use Rattle.basics.specs.Members.{Has}
use Rattle.basics.proofs.Membership.{has-filter_back, has-slice_get}
use Rattle.merge_graph.specs.declared.edge.Edge.{Edge}
use Rattle.choice_law.specs.Tree.{Choice}
use Rattle.choice_law.specs.Universe.{Universe, lines}
use Rattle.choice_tree.specs.Places.{Place, numbers, place_at as placed, places}
use Rattle.choice_tree.proofs.Numbers.{length_numbers}
use Rattle.choice_tree.proofs.Pick.{place_is}
use Rattle.std.proofs.lemmas.List.{length-map}
use Rattle.merge_edges.specs.Changes.{Change, change_on, changed_lines, changes, changes_line}
use Rattle.merge_edges.specs.Found.{all_changes, change_at, change_in, edge_to, is_changed, joined, joins, node_at, nodes_from, place_at}

-- the lines that change, where the first of the places is line j
abbrev pub lines_from : ℕ → List Place → List ℕ
lines_from j [] = []
lines_from j (s ∷ ss) = cond (is_changed s) (j ∷ lines_from (suc j) ss) (lines_from (suc j) ss)

module _ (b : Bool) (k : ℕ) (xs ys : List (Option ℕ)) where
  abbrev told : List (Option ℕ)
  told = cond b (Some k ∷ xs) (None ∷ ys)

first_back : (b : Bool) (k : ℕ) (xs ys : List (Option ℕ)) (i : ℕ) → node_at (told b k xs ys) 0 ≡ Some i → (b ≡ true) × (k ≡ i)
first_back true k xs ys i e = (refl, cc e)
first_back false k xs ys i e = absurd (cc e)

later_back : (b : Bool) (k : ℕ) (xs ys : List (Option ℕ)) (l i : ℕ) → node_at (told b k xs ys) (suc l) ≡ Some i → ((b ≡ true) × (node_at xs l ≡ Some i)) ⊎ ((b ≡ false) × (node_at ys l ≡ Some i))
later_back true k xs ys l i e = inl (refl, e)
later_back false k xs ys l i e = inr (refl, e)

first_told : (b : Bool) (k : ℕ) (xs ys : List (Option ℕ)) → b ≡ true → node_at (told b k xs ys) 0 ≡ Some k
first_told true k xs ys e = refl
first_told false k xs ys e = absurd (cc e)

later_on : (b : Bool) (k : ℕ) (xs ys : List (Option ℕ)) (l : ℕ) (o : Option ℕ) → b ≡ true → node_at xs l ≡ o → node_at (told b k xs ys) (suc l) ≡ o
later_on true k xs ys l o e is = is
later_on false k xs ys l o e is = absurd (cc e)

later_off : (b : Bool) (k : ℕ) (xs ys : List (Option ℕ)) (l : ℕ) (o : Option ℕ) → b ≡ false → node_at ys l ≡ o → node_at (told b k xs ys) (suc l) ≡ o
later_off true k xs ys l o e is = absurd (cc e)
later_off false k xs ys l o e is = is

here_first : (b : Bool) (j : ℕ) (ls : List ℕ) → b ≡ true → slice_get (cond b (j ∷ ls) ls) 0 ≡ Some j
here_first true j ls e = refl
here_first false j ls e = absurd (cc e)

here_on : (b : Bool) (j : ℕ) (ls : List ℕ) (d : ℕ) (o : Option ℕ) → b ≡ true → slice_get ls d ≡ o → slice_get (cond b (j ∷ ls) ls) (suc d) ≡ o
here_on true j ls d o e is = is
here_on false j ls d o e is = absurd (cc e)

here_off : (b : Bool) (j : ℕ) (ls : List ℕ) (d : ℕ) (o : Option ℕ) → b ≡ false → slice_get ls d ≡ o → slice_get (cond b (j ∷ ls) ls) d ≡ o
here_off true j ls d o e is = absurd (cc e)
here_off false j ls d o e is = is

here_back : (b : Bool) (j : ℕ) (ls : List ℕ) (d m : ℕ) → slice_get (cond b (j ∷ ls) ls) d ≡ Some m → ((b ≡ true) × (d ≡ 0) × (j ≡ m)) ⊎ (((b ≡ true) × ((e : ℕ) × (d ≡ suc e) × (slice_get ls e ≡ Some m))) ⊎ ((b ≡ false) × (slice_get ls d ≡ Some m)))
here_back true j ls zero m is = inl (refl, refl, cc is)
here_back true j ls (suc e) m is = inr (inl (refl, (e, refl, is)))
here_back false j ls d m is = inr (inr (refl, is))

-- the line has this place among the changes, of which the first has place k
abbrev pub IsNode : ℕ → ℕ → List Place → ℕ → ℕ → Type 0
IsNode k j ss l i = (d : ℕ) × (i ≡ k + d) × (slice_get (lines_from j ss) d ≡ Some (j + l))

pub node_line : (k j : ℕ) (ss : List Place) (l i : ℕ) → node_at (nodes_from k ss) l ≡ Some i → IsNode k j ss l i
node_line k j [] l i e = absurd (cc e)
node_line k j (s ∷ ss) zero i e =
    let r = first_back (is_changed s) k (nodes_from (suc k) ss) (nodes_from k ss) i e in
    let same = r.1 in
    let at_j : j ≡ j + 0 = omega arith in
    (0, omega (arith, same), here_first (is_changed s) j (lines_from (suc j) ss) r.0 ∙ ap (λ (n : ℕ). Some n) at_j)
node_line k j (s ∷ ss) (suc l) i e = elim (later_back (is_changed s) k (nodes_from (suc k) ss) (nodes_from k ss) l i e) [
  | inl on ↦ (let r = node_line (suc k) (suc j) ss l i on.1 in
      let is = r.1 in
      let next : suc j + l ≡ j + suc l = omega arith in
      (suc r.0, omega (arith, is), here_on (is_changed s) j (lines_from (suc j) ss) r.0 _ on.0 r.2 ∙ ap (λ (n : ℕ). Some n) next))
  | inr off ↦ (let r = node_line k (suc j) ss l i off.1 in
      let next : suc j + l ≡ j + suc l = omega arith in
      (r.0, r.1, here_off (is_changed s) j (lines_from (suc j) ss) r.0 _ off.0 r.2 ∙ ap (λ (n : ℕ). Some n) next))
]

-- .. and the place the line
pub line_node : (k j : ℕ) (ss : List Place) (d m : ℕ) → slice_get (lines_from j ss) d ≡ Some m → (l : ℕ) × (m ≡ j + l) × (node_at (nodes_from k ss) l ≡ Some (k + d))
line_node k j [] d m e = absurd (cc e)
line_node k j (s ∷ ss) d m e = elim (here_back (is_changed s) j (lines_from (suc j) ss) d m e) [
  | inl first ↦ (let none = first.1 in let same = first.2 in
      let at_k : k ≡ k + d = omega (arith, none) in
      (0, omega (arith, same), first_told (is_changed s) k (nodes_from (suc k) ss) (nodes_from k ss) first.0 ∙ ap (λ (n : ℕ). Some n) at_k))
  | inr more ↦ elim more [
    | inl on ↦ (let r = line_node (suc k) (suc j) ss on.1.0 m on.1.2 in
        let past = on.1.1 in let is = r.1 in
        let next : suc k + on.1.0 ≡ k + d = omega (arith, past) in
        (suc r.0, omega (arith, is), later_on (is_changed s) k (nodes_from (suc k) ss) (nodes_from k ss) r.0 _ on.0 r.2 ∙ ap (λ (n : ℕ). Some n) next))
    | inr off ↦ (let r = line_node k (suc j) ss d m off.1 in
        let is = r.1 in
        (suc r.0, omega (arith, is), later_off (is_changed s) k (nodes_from (suc k) ss) (nodes_from k ss) r.0 _ off.0 r.2))
  ]
]

module _ (u : Universe) (c : Choice) where
  lines_are : (n j : ℕ) → lines_from j (map (placed u c) (numbers n j)) ≡ filter (changes_line u c) (numbers n j)
  lines_are zero j = refl
  lines_are (suc n) j = ap (λ (ls : List ℕ). cond (changes_line u c j) (j ∷ ls) ls) (lines_are n (suc j))

  -- a line that changes is the one at its place
  pub node_changes : (l i : ℕ) → node_at (nodes_from 0 (places u c)) l ≡ Some i → slice_get (changed_lines u c) i ≡ Some l
  node_changes l i e =
      let r = node_line 0 0 (places u c) l i e in
      let is : i ≡ r.0 = (let same = r.1 in omega (arith, same)) in
      let at_l : 0 + l ≡ l = omega arith in
      ap (slice_get (changed_lines u c)) is
      ∙ (ap (λ (ls : List ℕ). slice_get ls r.0) (sym (lines_are (lines u) 0)) ∙ (r.2 ∙ ap (λ (n : ℕ). Some n) at_l))

  pub change_node : (l i : ℕ) → slice_get (changed_lines u c) i ≡ Some l → node_at (nodes_from 0 (places u c)) l ≡ Some i
  change_node l i e =
      let r = line_node 0 0 (places u c) i l (ap (λ (ls : List ℕ). slice_get ls i) (lines_are (lines u) 0) ∙ e) in
      let is : l ≡ r.0 = (let same = r.1 in omega (arith, same)) in
      let at_i : 0 + i ≡ i = omega arith in
      ap (node_at (nodes_from 0 (places u c))) is ∙ (r.2 ∙ ap (λ (n : ℕ). Some n) at_i)

  -- the line at a place among the changes does change
  pub line_changes : (i l : ℕ) → slice_get (changed_lines u c) i ≡ Some l → changes_line u c l ≡ true
  line_changes i l e = (has-filter_back (changes_line u c) (numbers (lines u) 0) l (has-slice_get (changed_lines u c) i l e)).1

  change_is : (l : ℕ) → l < lines u → change_at (places u c) l ≡ cond (changes_line u c l) (change_on u c l ∷ []) []
  change_is l less = ap (λ (s : Place). cond (is_changed s) (change_in l s ∷ []) []) (place_is u c l less)

  one_first : (b : Bool) (x : Change) (ls : List ℕ) (l : ℕ) → x ≡ change_on u c l → cond b (x ∷ []) [] ++ map (change_on u c) ls ≡ map (change_on u c) (cond b (l ∷ ls) ls)
  one_first true x ls l e = ap (λ (y : Change). y ∷ map (change_on u c) ls) e
  one_first false x ls l e = refl

  changes_from : (n j : ℕ) → j + n ≤ lines u → flat_map (change_at (places u c)) (numbers n j) ≡ map (change_on u c) (filter (changes_line u c) (numbers n j))
  changes_from zero j within = refl
  changes_from (suc n) j within =
      ap (λ (xs : List Change). xs ++ flat_map (change_at (places u c)) (numbers n (suc j))) (change_is j (omega (arith, within)))
      ∙ (ap (λ (xs : List Change). cond (changes_line u c j) (change_on u c j ∷ []) [] ++ xs) (changes_from n (suc j) (omega (arith, within)))
      ∙ one_first (changes_line u c j) (change_on u c j) (filter (changes_line u c) (numbers n (suc j))) j refl)

  long : length (places u c) ≡ lines u
  long = length-map (numbers (lines u) 0) (placed u c) ∙ length_numbers (lines u) 0

  pub changes_are : all_changes (places u c) ≡ changes u c
  changes_are =
      ap (λ (n : ℕ). flat_map (change_at (places u c)) (numbers n 0)) long
      ∙ changes_from (lines u) 0 (omega arith)

-- an edge between changes is that between their lines
pub record IsJoined (nodes : List (Option ℕ)) (e f : Edge) : Type 0 where
  pub builds : f.builds ≡ e.builds
  pub from : node_at nodes e.from ≡ Some f.from
  pub to : node_at nodes e.to ≡ Some f.to
  pub counts : (e.builds ≡ true) ⊎ (e.from ≢ e.to)

joins_back : (b : Bool) (x y : Option ℕ) (f : Edge) → Has (joins b x y) f → (f.builds ≡ b) × (x ≡ Some f.from) × (y ≡ Some f.to)
joins_back b None y f h = absurd h
joins_back b (Some i) None f h = absurd h
joins_back b (Some i) (Some j) f (inl e) = (ap (λ (g : Edge). g.builds) (sym e), ap (λ (g : Edge). Some g.from) e, ap (λ (g : Edge). Some g.to) e)
joins_back b (Some i) (Some j) f (inr h) = absurd h

guarded : (b d : Bool) (es : List Edge) (f : Edge) → Has (cond (b || d) es []) f → ((b ≡ true) ⊎ (d ≡ true)) × Has es f
guarded true d es f h = (inl refl, h)
guarded false true es f h = (inr refl, h)
guarded false false es f h = absurd h

pub differ : (l m : ℕ) → not (nat_eq l m) ≡ true → l ≢ m
differ l m e = elim (eqb_tells l m) [
  | inl r ↦ absurd (let bad : false ≡ true = sym (ap not r.0) ∙ e in cc bad)
  | inr r ↦ r.1
]

pub joined_back : (nodes : List (Option ℕ)) (e f : Edge) → Has (joined nodes e) f → IsJoined nodes e f
joined_back nodes e f h =
    let r = guarded e.builds (not (nat_eq e.from e.to)) (joins e.builds (node_at nodes e.from) (node_at nodes e.to)) f h in
    let k = joins_back e.builds (node_at nodes e.from) (node_at nodes e.to) f r.1 in
    record {
      builds = k.0;
      from = k.1;
      to = k.2;
      counts = elim r.0 [ inl y ↦ inl y | inr d ↦ inr (differ e.from e.to d) ];
    }

pub unequal : (l m : ℕ) → l ≢ m → not (nat_eq l m) ≡ true
unequal l m apart = elim (eqb_tells l m) [ inl r ↦ absurd (apart r.1) | inr r ↦ ap not r.0 ]

let_through : (b d : Bool) (es : List Edge) (f : Edge) → ((b ≡ true) ⊎ (d ≡ true)) → Has es f → Has (cond (b || d) es []) f
let_through true d es f why h = h
let_through false true es f why h = h
let_through false false es f (inl e) h = absurd (cc e)
let_through false false es f (inr e) h = absurd (cc e)

pub has_joined : (nodes : List (Option ℕ)) (b : Bool) (l m i j : ℕ) → ((b ≡ true) ⊎ (l ≢ m)) → node_at nodes l ≡ Some i → node_at nodes m ≡ Some j → Has (joined nodes (edge_to l b m)) (edge_to i b j)
has_joined nodes b l m i j why from to =
    let both : joins b (node_at nodes l) (node_at nodes m) ≡ edge_to i b j ∷ [] = ap (λ (o : Option ℕ). joins b o (node_at nodes m)) from ∙ ap (joins b (Some i)) to in
    let_through b (not (nat_eq l m)) (joins b (node_at nodes l) (node_at nodes m)) (edge_to i b j)
    (elim why [ inl y ↦ inl y | inr apart ↦ inr (unequal l m apart) ])
    (subst (λ (es : List Edge). Has es (edge_to i b j)) (sym both) (inl refl))
