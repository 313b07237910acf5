-- The edges between changes, from those between lines.
use Rattle.std.proofs.Common.{◌≡◌, ◌↔◌, ◌⊎◌, ◌≢◌, ◌<◌, ◌∙◌, ◌&&◌, ℕ, Bool, true, false, List, [], ◌∷◌, Option, None, Some, suc, zero, arith, inl, inr, length, nat_lt, refl, ap, subst, sym}
use Rattle.std.specs.Prelude.{IsTrue, slice_get}
use Rattle.std.specs.List.{AllByRecursion, flat_map, list_all}
use Rattle.std.proofs.lemmas.Bool.{and_from, lt-ltb}
use Rattle.std.proofs.lemmas.List.{length-map}
use Rattle.std.proofs.lemmas.Option.{slice_get_within}
use Rattle.basics.specs.Members.{Has}
use Rattle.basics.proofs.Membership.{has-flat_map, has-flat_map_back}
use Rattle.merge_graph.specs.Edges.{AreBetween, Builds, Goes, is_between}
use Rattle.merge_graph.specs.declared.edge.Edge.{Edge}
use Rattle.choice_law.specs.Tree.{Choice}
use Rattle.choice_law.specs.Universe.{Universe}
use Rattle.choice_tree.specs.Places.{Place, places}
use Rattle.pkg_state.specs.Package.{Package}
use Rattle.merge_edges.specs.Changes.{change_on, changed_lines, changes, changes_line}
use Rattle.merge_edges.specs.Edges.{AreEdges, Between}
use Rattle.merge_edges.specs.Found.{HasVersion, all_edges, edge_to, joined, nodes_from, place_at}
use Rattle.merge_edges.specs.Waits.{BuildsOn, WaitsFor}
use Rattle.merge_edges.proofs.Numbered.{IsJoined, change_node, has_joined, joined_back, line_changes, node_changes}
use Rattle.merge_edges.proofs.Waited.{Fits, OnlyWaits, builds_found, found_fits, waits_found}

all_from : {A : Type 0} (f : A → Bool) (xs : List A) → ((x : A) → Has xs x → f x ≡ true) → list_all f xs ≡ true
all_from f [] each = refl
all_from f (x ∷ xs) each = and_from (f x) (list_all f xs) (each x (inl refl)) (all_from f xs (λ y h. each y (inr h)))

-- what stands on each line has a version in form, if that is so of all places
pub versions_at : (ss : List Place) → AllByRecursion HasVersion ss → (l : ℕ) → HasVersion (place_at ss l)
versions_at [] all l = λ p e. let bad : ◌≡◌ {A = Option Package} None (Some p) = e in cc bad
versions_at (s ∷ ss) all zero = all.0
versions_at (s ∷ ss) all (suc l) = versions_at ss all.1 l

module _ (u : Universe) (c : Choice) (old : (l : ℕ) → HasVersion (place_at (places u []) l)) (new : (l : ℕ) → HasVersion (place_at (places u c) l)) where
  abbrev nodes : List (Option ℕ)
  nodes = nodes_from 0 (places u c)

  abbrev found : List Edge
  found = all_edges (places u []) (places u c)

  abbrev es : List Edge
  es = flat_map (joined nodes) found

  -- from where an edge comes
  record Comes (f : Edge) : Type 0 where
    line_edge : Edge
    found_is : Has found line_edge
    joins : IsJoined nodes line_edge f

  comes : (f : Edge) → Has es f → Comes f
  comes f h = let r = has-flat_map_back (joined nodes) found f h in record { line_edge = r.0; found_is = r.1; joins = joined_back nodes r.0 f r.2 }

  put : (b : Bool) (l m i j : ℕ) → ((b ≡ true) ⊎ (l ≢ m)) → slice_get (changed_lines u c) i ≡ Some l → slice_get (changed_lines u c) j ≡ Some m → Has found (edge_to l b m) → Has es (edge_to i b j)
  put b l m i j why from to h =
      has-flat_map (joined nodes) found (edge_to l b m) (edge_to i b j) h
      (has_joined nodes b l m i j why (change_node u c l i from) (change_node u c m j to))

  waits_of : (b : Bool) (l m : ℕ) → ((b ≡ true) ⊎ (l ≢ m)) → Fits u c b l m → WaitsFor u c l m
  waits_of true l m why fits = inl fits
  waits_of false l m (inl bad) fits = absurd (cc bad)
  waits_of false l m (inr apart) (inl runs) = inr (apart, inl runs)
  waits_of false l m (inr apart) (inr (inl r)) = inr (apart, inr (inl r.1))
  waits_of false l m (inr apart) (inr (inr r)) = inr (apart, inr (inr r))

  goes_are : (i j : ℕ) → Goes es i j → Between u c (WaitsFor u c) i j
  goes_are i j g =
      let k = comes g.0 g.1 in
      let e = k.line_edge in (
        e.from,
        e.to,
        node_changes u c e.from i (k.joins.from ∙ ap (λ (n : ℕ). Some n) g.2),
        node_changes u c e.to j (k.joins.to ∙ ap (λ (n : ℕ). Some n) g.3),
        waits_of e.builds e.from e.to k.joins.counts (found_fits u c old new e k.found_is),
      )

  are_goes : (i j : ℕ) → Between u c (WaitsFor u c) i j → Goes es i j
  are_goes i j w = by_case w.4 where
    by_case : WaitsFor u c w.0 w.1 → Goes es i j
    by_case (inl builds) = (edge_to i true j, put true w.0 w.1 i j (inl refl) w.2 w.3 (builds_found u c old new w.0 w.1 builds), refl, refl)
    by_case (inr (apart, inl runs)) = (edge_to i false j, put false w.0 w.1 i j (inr apart) w.2 w.3 (waits_found u c old new w.0 w.1 (inl runs)), refl, refl)
    by_case (inr (apart, inr (inl breaks))) =
        (edge_to i false j, put false w.0 w.1 i j (inr apart) w.2 w.3 (waits_found u c old new w.0 w.1 (inr (inl (line_changes u c i w.0 w.2, breaks)))), refl, refl)
    by_case (inr (apart, inr (inr against))) = (edge_to i false j, put false w.0 w.1 i j (inr apart) w.2 w.3 (waits_found u c old new w.0 w.1 (inr (inr against))), refl, refl)

  builds_of : (b : Bool) (l m : ℕ) → b ≡ true → Fits u c b l m → BuildsOn u c l m
  builds_of true l m is fits = fits
  builds_of false l m is fits = absurd (cc is)

  builds_are : (i j : ℕ) → Builds es i j → Between u c (BuildsOn u c) i j
  builds_are i j g =
      let k = comes g.0 g.1 in
      let e = k.line_edge in (
        e.from,
        e.to,
        node_changes u c e.from i (k.joins.from ∙ ap (λ (n : ℕ). Some n) g.3),
        node_changes u c e.to j (k.joins.to ∙ ap (λ (n : ℕ). Some n) g.4),
        builds_of e.builds e.from e.to (sym k.joins.builds ∙ g.2) (found_fits u c old new e k.found_is),
      )

  are_builds : (i j : ℕ) → Between u c (BuildsOn u c) i j → Builds es i j
  are_builds i j w = (edge_to i true j, put true w.0 w.1 i j (inl refl) w.2 w.3 (builds_found u c old new w.0 w.1 w.4), refl, refl, refl)

  -- the edges between the changes are those of the definitions
  pub edges_are : AreEdges u c es
  edges_are = record {
    goes = λ i j. (goes_are i j, are_goes i j);
    builds = λ i j. (builds_are i j, are_builds i j);
  }

  pub edges_between : AreBetween (length (changes u c)) es
  edges_between = all_from (is_between (length (changes u c))) es (λ f h.
      let k = comes f h in
      let long = length-map (changed_lines u c) (change_on u c) in
      let from = slice_get_within (changed_lines u c) f.from k.line_edge.from (node_changes u c k.line_edge.from f.from k.joins.from) in
      let to = slice_get_within (changed_lines u c) f.to k.line_edge.to (node_changes u c k.line_edge.to f.to k.joins.to) in
      let first : f.from < length (changes u c) = omega (arith, from, long) in
      let second : f.to < length (changes u c) = omega (arith, to, long) in
      and_from (nat_lt f.from (length (changes u c))) (nat_lt f.to (length (changes u c))) (lt-ltb f.from (length (changes u c)) first) (lt-ltb f.to (length (changes u c)) second))

-- .. as the code has them
pub made_edges : (u : Universe) (c : Choice) (os ss : List Place) (es : List Edge) → AllByRecursion HasVersion os → AllByRecursion HasVersion ss → os ≡ places u [] → ss ≡ places u c → es ≡ flat_map (joined (nodes_from 0 ss)) (all_edges os ss) → AreEdges u c es × AreBetween (length (changes u c)) es
made_edges u c os ss es old new before after is =
    let there : (l : ℕ) → HasVersion (place_at (places u []) l) = versions_at (places u []) (subst (λ (xs : List Place). AllByRecursion HasVersion xs) before old) in
    let coming : (l : ℕ) → HasVersion (place_at (places u c) l) = versions_at (places u c) (subst (λ (xs : List Place). AllByRecursion HasVersion xs) after new) in
    let same : flat_map (joined (nodes_from 0 (places u c))) (all_edges (places u []) (places u c)) ≡ es =
    ap (λ (xs : List Place). flat_map (joined (nodes_from 0 xs)) (all_edges (places u []) xs)) (sym after)
    ∙ (ap (λ (xs : List Place). flat_map (joined (nodes_from 0 ss)) (all_edges xs ss)) (sym before) ∙ sym is) in
    (subst (AreEdges u c) same (edges_are u c there coming), subst (AreBetween (length (changes u c))) same (edges_between u c there coming))
