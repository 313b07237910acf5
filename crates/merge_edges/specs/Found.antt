-- How the code finds the edges: line by line, as lists. Edges are between lines here, and later on
-- between the changes of these lines.
use Rattle.std.specs.Prelude.{◌≡◌, ℕ, suc, Bool, true, false, ◌&&◌, ◌||◌, ◌++◌, not, List, [], ◌∷◌, Option, None, Some, bytes_eq, filter, get_or, length, map, nat_eq, slice_get, slice_set, if◌then◌else◌}
use Rattle.std.specs.List.{flat_map}
use Rattle.std.specs.Option.{option_map_or}
use Rattle.std.specs.Ordering.{is_gt}
use Rattle.pms_grammar.specs.Grammar.{IsVersion}
use Rattle.pms_version.specs.Order.{version_cmp}
use Rattle.dep_atom.specs.Ids.{id_text}
use Rattle.dep_atom.specs.Match.{value_matches}
use Rattle.dep_atom.specs.Values.{AtomValue}
use Rattle.merge_graph.specs.declared.edge.Edge.{Edge}
use Rattle.pkg_state.specs.Consistent.{facts_of, is_met}
use Rattle.pkg_state.specs.Package.{Package}
use Rattle.pkg_state.specs.declared.class.Class.{Class}
use Rattle.pkg_state.specs.declared.class.Class.TheVariants.{Bdepend, Depend, Idepend, Rdepend}
use Rattle.plan_lives.specs.Keeping.{barring_blocks, running_blocks}
use Rattle.choice_law.specs.Universe.{Offer, Value, absent, is_new, keep, package_of, variant}
use Rattle.choice_tree.specs.Blocks.{blocks_of}
use Rattle.choice_tree.specs.Places.{Place, is_one, no_place, numbers, package_in, packages_in, value_in}
use Rattle.merge_edges.specs.Changes.{Change, is_change}
use Rattle.merge_edges.specs.Needs.{needed_leaves}

abbrev pub place_at : List Place → ℕ → Place
place_at ss l = get_or ss l no_place

-- a package where it stands
pub record Stander : Type 0 where
  pub line : ℕ
  pub package_is : Package

abbrev pub matched_here : AtomValue → List (List ℕ) → ℕ → Option Package → Option Stander
matched_here a asker l None = None
matched_here a asker l (Some p) =
    if value_matches a p.facts asker then Some (record { line = l; package_is = p }) else None

-- what stands on the line, if the atom matches it
abbrev pub matched_at : List Place → AtomValue → List (List ℕ) → ℕ → Option Stander
matched_at ss a asker l = matched_here a asker l (package_in (place_at ss l))

-- the greater version, and of equal ones the one that was found before
abbrev pub better : Option Stander → Stander → Stander
better None y = y
better (Some x) y =
    if is_gt (version_cmp y.package_is.facts.id.version x.package_is.facts.id.version)
    then y else x

abbrev pub with_one : Option Stander → Option Stander → Option Stander
with_one best None = best
with_one best (Some y) = Some (better best y)

-- the best of these lines, where `best` is that of those before them
abbrev pub best_among :
    List Place → AtomValue → List (List ℕ) → Option Stander → List ℕ → Option Stander
best_among ss a asker best [] = best
best_among ss a asker best (l ∷ ls) =
    best_among ss a asker (with_one best (matched_at ss a asker l)) ls

abbrev pub best_in : List Place → AtomValue → List (List ℕ) → Option Stander
best_in ss a asker = best_among ss a asker None (numbers (length ss) 0)

abbrev pub as_line : Option Stander → List ℕ
as_line None = []
as_line (Some x) = x.line ∷ []

-- the lines that the package needs in this class
abbrev pub needed_lines : List Place → Class → Package → List ℕ
needed_lines ss class p =
    flat_map (λ a. as_line (best_in ss a p.facts.enabled))
    (needed_leaves (facts_of (packages_in ss)) class p)

abbrev pub edge_to : ℕ → Bool → ℕ → Edge
edge_to l builds m = record { from = l; to = m; builds = builds }

abbrev pub edges_to : ℕ → Bool → List ℕ → List Edge
edges_to l builds ms = map (edge_to l builds) ms

abbrev pub edge_from : ℕ → ℕ → Edge
edge_from m l = edge_to l false m

abbrev pub edges_from : ℕ → List ℕ → List Edge
edges_from m ls = map (edge_from m) ls

-- a variant comes
abbrev pub arriving : Offer → Value → Option Package
arriving o keep = None
arriving o absent = None
arriving o (variant i) = slice_get o.variants i

abbrev pub comer : Place → Option Package
comer s = arriving s.offer (value_in s)

-- the line changes
abbrev pub is_changed : Place → Bool
is_changed s = is_change s.offer (value_in s)

-- for a class of the build, unless that holds over what is installed
abbrev pub class_edges : List Place → List Place → ℕ → Package → Class → List Edge
class_edges os ss l x class =
    if is_met (facts_of (packages_in os)) class x then []
    else edges_to l true (needed_lines ss class x)

-- for what the package needs
abbrev pub need_edges : List Place → List Place → ℕ → Package → List Edge
need_edges os ss l x =
    class_edges os ss l x Depend
    ++ (class_edges os ss l x Bdepend
    ++ (class_edges os ss l x Idepend ++ edges_to l false (needed_lines ss Rdepend x)))

-- the atom matches what stands on the line
abbrev pub is_hit : List Place → List (List ℕ) → AtomValue → ℕ → Bool
is_hit ss asker a l = is_one (λ p. value_matches a p.facts asker) (package_in (place_at ss l))

-- the lines whose package the atom matches
abbrev pub hit_lines : List Place → List (List ℕ) → AtomValue → List ℕ
hit_lines ss asker a = filter (is_hit ss asker a) (numbers (length ss) 0)

-- .. and whose package comes
abbrev pub hit_comers : List Place → List (List ℕ) → AtomValue → List ℕ
hit_comers ss asker a =
    filter (λ l. is_new (value_in (place_at ss l)) && is_hit ss asker a l)
    (numbers (length ss) 0)

-- the lines whose package has this text
abbrev pub told_lines : List Place → List ℕ → List ℕ
told_lines ss text =
    filter (λ l. is_one (λ q. bytes_eq text (id_text q.facts.id)) (package_in (place_at ss l)))
    (numbers (length ss) 0)

abbrev pub other_lines : ℕ → List ℕ → List ℕ
other_lines l ms = filter (λ m. not (nat_eq l m)) ms

-- for what the package can't stand beside: what its blocks match, and what has its name and version
abbrev pub apart_edges : List Place → ℕ → Package → List Edge
apart_edges os l x =
    flat_map (λ a. edges_to l false (hit_lines os x.facts.enabled a)) (blocks_of true x)
    ++ edges_to l false (told_lines os (id_text x.facts.id))

-- .. and for what bars it
abbrev pub barred_edges : List Place → ℕ → Package → List Edge
barred_edges os l x =
    flat_map (λ a. edges_to l true (other_lines l (hit_lines os x.facts.enabled a)))
    (barring_blocks x)

-- for the blocks of what is installed on the line: what they match waits for it
abbrev pub guarded_edges : List Place → ℕ → Package → List Edge
guarded_edges ss k y =
    flat_map (λ a. edges_from k (hit_comers ss y.facts.enabled a))
    (running_blocks y)

-- what is installed, but with one line as the choice has it
abbrev pub alone_in : List Place → List Place → ℕ → List Place
alone_in os ss l = slice_set os l (place_at ss l)

-- where the change of line `l` alone breaks what is installed on line `k`
abbrev pub breaks_in : List Place → List Place → Package → ℕ → Bool
breaks_in os ss y l =
    is_changed (place_at ss l)
    && not (is_met (facts_of (packages_in (alone_in os ss l))) Rdepend y)

abbrev pub saving_edges : List Place → ℕ → Package → ℕ → List Edge
saving_edges ss k y l =
    if is_changed (place_at ss k) then edge_to l false k ∷ []
    else edges_to l false (needed_lines ss Rdepend y)

abbrev pub broken_edges : List Place → List Place → ℕ → Package → ℕ → List Edge
broken_edges os ss k y l = if breaks_in os ss y l then saving_edges ss k y l else []

-- of what is installed on the line
abbrev pub installed_edges : List Place → List Place → ℕ → Package → List Edge
installed_edges os ss k y =
    flat_map (broken_edges os ss k y) (needed_lines os Rdepend y) ++ guarded_edges ss k y

-- of what comes on the line
abbrev pub comer_edges : List Place → List Place → ℕ → Package → List Edge
comer_edges os ss l x = need_edges os ss l x ++ (apart_edges os l x ++ barred_edges os l x)

abbrev pub line_edges : List Place → List Place → ℕ → List Edge
line_edges os ss l =
    option_map_or (comer_edges os ss l) (comer (place_at ss l)) []
    ++ option_map_or (installed_edges os ss l) (place_at ss l).offer.installed []

abbrev pub all_edges : List Place → List Place → List Edge
all_edges os ss = flat_map (line_edges os ss) (numbers (length ss) 0)

-- the places of the lines among the changes, from this one on
abbrev pub nodes_from : ℕ → List Place → List (Option ℕ)
nodes_from k [] = []
nodes_from k (s ∷ ss) =
    if is_changed s then Some k ∷ nodes_from (suc k) ss else None ∷ nodes_from k ss

abbrev pub node_at : List (Option ℕ) → ℕ → Option ℕ
node_at nodes l = get_or nodes l None

abbrev pub joins : Bool → Option ℕ → Option ℕ → List Edge
joins builds None j = []
joins builds (Some i) None = []
joins builds (Some i) (Some j) = edge_to i builds j ∷ []

-- the edge between the changes of its lines, if both change; one from a line to itself only builds
abbrev pub joined : List (Option ℕ) → Edge → List Edge
joined nodes e =
    if e.builds || not (nat_eq e.from e.to)
    then joins e.builds (node_at nodes e.from) (node_at nodes e.to) else []

-- the change of the line, if it changes
abbrev pub change_in : ℕ → Place → Change
change_in l s =
    record { line = l; old = s.offer.installed; new = package_of s.offer (value_in s) }

abbrev pub change_at : List Place → ℕ → List Change
change_at ss l =
    if is_changed (place_at ss l) then change_in l (place_at ss l) ∷ [] else []

abbrev pub all_changes : List Place → List Change
all_changes ss = flat_map (change_at ss) (numbers (length ss) 0)

-- what stands there has a version in form
abbrev pub HasVersion : Place → Type 0
HasVersion s = (p : Package) → package_in s ≡ Some p → IsVersion p.facts.id.version
