-- The options of a choice for what is open of it, in the order in which they are tried.
use Rattle.std.specs.Prelude.{ℕ, Bool, true, false, not, ◌&&◌, List, [], ◌∷◌, ◌++◌, Option, None, Some, filter, get_or, length, map, nat_eq, nat_lt, if◌then◌else◌}
use Rattle.std.specs.List.{flat_map, list_any}
use Rattle.basics.specs.Members.{Has}
use Rattle.pms_names.specs.Flags.{has}
use Rattle.dep_atom.specs.Match.{value_matches}
use Rattle.dep_atom.specs.Values.{AtomValue}
use Rattle.dep_tree.specs.Grammar.{is_block}
use Rattle.pkg_state.specs.Consistent.{leaves_in}
use Rattle.pkg_state.specs.Package.{Package}
use Rattle.pkg_state.specs.declared.class.Class.{Class}
use Rattle.choice_law.specs.Universe.{Universe, Value, absent, conflicts, keep, variant}
use Rattle.choice_law.specs.Tree.{Choice, IsOption, Obligation, absence, conflict, held, required, tree, wanted}
use Rattle.choice_tree.specs.Candidates.{Candidate, all_free, free_line, if_free, of_line, ranked}
use Rattle.choice_tree.specs.Open.{opposes}
use Rattle.choice_tree.specs.Places.{Place, no_place, numbers, package_in, places}

abbrev pub decision_of : Candidate → ℕ × Value
decision_of x = (x.line, x.value)

-- these candidates, by their ranks
abbrev pub in_order : Bool → List Candidate → List (ℕ × Value)
in_order update xs = map decision_of (ranked update xs)

-- what the atom matches, of all lines that aren't decided
abbrev pub served : Bool → List Place → List (List ℕ) → AtomValue → List (ℕ × Value)
served update ss asker a =
    in_order update (filter (λ x. value_matches a x.is.facts asker) (all_free ss))

-- what is installed may go
abbrev pub leaving : ℕ → Option Package → List (ℕ × Value)
leaving l None = []
leaving l (Some z) = (l, absent) ∷ []

-- another value than it has, if the line isn't decided: a variant, or none
abbrev pub others : Bool → List Place → ℕ → List (ℕ × Value)
others update ss l =
    if_free (get_or ss l no_place).decided
    (in_order update (of_line false l (get_or ss l no_place).offer)
    ++ leaving l (get_or ss l no_place).offer.installed)

-- the leaves of a package that ask for something
abbrev pub needs : Class → Package → List AtomValue
needs class p =
    filter (λ a. not (is_block a)) (leaves_in class p)

-- what serves one of them, leaf by leaf
abbrev pub serving : Bool → List Place → Class → Option Package → List (ℕ × Value)
serving update ss class None = []
serving update ss class (Some p) =
    flat_map (λ a. served update ss p.facts.enabled a) (needs class p)

-- what conflicts with the package that is to go, line by line
abbrev pub ousting : Bool → List Place → Option Package → List (ℕ × Value)
ousting update ss None = []
ousting update ss (Some z) =
    flat_map (λ m. in_order update (filter (λ x. conflicts true x.is z) (free_line false ss m)))
    (numbers (length ss) 0)

abbrev pub same_value : Value → Value → Bool
same_value keep keep = true
same_value keep absent = false
same_value keep (variant j) = false
same_value absent keep = false
same_value absent absent = true
same_value absent (variant j) = false
same_value (variant i) keep = false
same_value (variant i) absent = false
same_value (variant i) (variant j) = nat_eq i j

abbrev pub is_among : (ℕ × Value) → List (ℕ × Value) → Bool
is_among d ds = list_any (λ e. nat_eq e.0 d.0 && same_value e.1 d.1) ds

-- each once, where it is first
abbrev pub once_onto : List (ℕ × Value) → List (ℕ × Value) → List (ℕ × Value)
once_onto out [] = out
once_onto out (d ∷ ds) = once_onto (if is_among d out then out else out ++ d ∷ []) ds

-- the decisions that may be added, in their order
abbrev pub decisions : Bool → List Place → Obligation → List (ℕ × Value)
decisions update ss (wanted a) = served update ss [] a
decisions update ss (required l) = others update ss l
decisions update ss (conflict l m) = others update ss l
decisions update ss (tree l class) =
    once_onto []
    (serving update ss class (package_in (get_or ss l no_place)) ++ others update ss l)
decisions update ss (absence l) = ousting update ss (get_or ss l no_place).offer.installed

-- what may stand on the second line beside what stands on the first one now: what doesn't conflict
-- with that, or nothing
abbrev pub beside : Bool → List Place → ℕ → ℕ → List (ℕ × Value)
beside update ss l m =
    if nat_lt m (length ss)
    then if_free (get_or ss m no_place).decided
    (in_order update (filter (λ x. not (opposes x.is (get_or ss l no_place)))
    (of_line true m (get_or ss m no_place).offer)) ++ (m, absent) ∷ [])
    else []

-- in a conflict the first line may be held as it is, and the second one decided
abbrev pub second_part : Bool → Universe → Choice → Obligation → List Choice
second_part update u c (wanted a) = []
second_part update u c (required l) = []
second_part update u c (conflict l m) =
    map (λ d. d ∷ held u c l) (beside update (places u c) l m)
second_part update u c (tree l class) = []
second_part update u c (absence l) = []

abbrev pub options : Bool → Universe → Choice → Obligation → List Choice
options update u c o =
    map (λ d. d ∷ c) (decisions update (places u c) o) ++ second_part update u c o

-- these are just the options of the laws
abbrev pub OptionsAreThose : Type 0
OptionsAreThose =
    (update : Bool) (u : Universe) (c : Choice) (o : Obligation) (e : Choice) →
    (Has (options update u c o) e → IsOption u c o e)
    × (IsOption u c o e → Has (options update u c o) e)
