-- The tree of choices: decisions on some lines, what is open of them, and how that may be closed.
use Rattle.std.specs.Prelude.{◌≡◌, ◌⊎◌, ◌<◌, ℕ, true, false, List, [], ◌∷◌, Option, None, Some, nat_eq, unwrap_or, if◌then◌else◌}
use Rattle.basics.specs.Members.{Has}
use Rattle.dep_atom.specs.Match.{value_matches}
use Rattle.dep_atom.specs.Values.{AtomValue}
use Rattle.dep_tree.specs.Grammar.{is_block}
use Rattle.pkg_state.specs.Consistent.{facts_of, fits_required, is_met, leaves_in}
use Rattle.pkg_state.specs.Package.{Package}
use Rattle.pkg_state.specs.declared.class.Class.{Class}
use Rattle.choice_law.specs.Universe.{Filling, IsValue, Stands, Universe, Value, absent, as_is, conflicts, counts, is_new, lines, offer_at, package_of, packages}

-- decisions, each of a line
abbrev pub Choice : Type 0
Choice = List (ℕ × Value)

abbrev pub decided : Choice → ℕ → Option Value
decided [] l = None
decided (d ∷ ds) l = if nat_eq d.0 l then Some d.1 else decided ds l

-- the lines that aren't decided stay as they are
abbrev pub filling : Universe → Choice → Filling
filling u c l = unwrap_or (decided c l) (as_is u l)

pub data Obligation : Type 0 where
  wanted : AtomValue → Obligation
  required : ℕ → Obligation
  conflict : ℕ → ℕ → Obligation
  tree : ℕ → Class → Obligation
  absence : ℕ → Obligation

-- the choice leaves this open
abbrev pub IsOpen : Universe → Choice → Obligation → Type 0
IsOpen u c (wanted a) =
    Has u.wanted a × ((l : ℕ) (v : Value) (p : Package) → l < lines u → decided c l ≡ Some v →
    package_of (offer_at u l) v ≡ Some p → value_matches a p.facts [] ≡ false)
IsOpen u c (required l) =
    (p : Package) × Stands u (filling u c) l p × (fits_required p ≡ false)
IsOpen u c (conflict l m) =
    (p : Package) × (q : Package) × Stands u (filling u c) l p × Stands u (filling u c) m q
    × (¬ (l ≡ m)) × (conflicts (is_new (filling u c l)) p q ≡ true)
IsOpen u c (tree l class) =
    (p : Package) × Stands u (filling u c) l p × (counts class (filling u c l) ≡ true)
    × (is_met (facts_of (packages u (filling u c))) class p ≡ false)
IsOpen u c (absence l) =
    (z : Package) × (l < lines u) × (decided c l ≡ Some absent)
    × ((offer_at u l).installed ≡ Some z)
    × ((m : ℕ) (q : Package) → Stands u (filling u c) m q →
    conflicts (is_new (filling u c m)) q z ≡ false)

-- the line, which wasn't decided, may have this value
pub record MayBe (u : Universe) (c : Choice) (l : ℕ) (v : Value) : Type 0 where
  pub there : l < lines u
  pub free : decided c l ≡ None
  pub value : IsValue (offer_at u l) v

-- .. and that is another one than it has
pub record MayChange (u : Universe) (c : Choice) (l : ℕ) (v : Value) : Type 0 where
  pub may : MayBe u c l v
  pub other : ¬ (v ≡ as_is u l)

-- the line stays as it is from now on
abbrev pub held_by : Option Value → Universe → Choice → ℕ → Choice
held_by None u c l = (l, as_is u l) ∷ c
held_by (Some v) u c l = c

abbrev pub held : Universe → Choice → ℕ → Choice
held u c l = held_by (decided c l) u c l

-- the value is a package that the atom matches
pub record Serves (u : Universe) (l : ℕ) (v : Value) (a : AtomValue)
    (asker : List (List ℕ)) : Type 0 where
  pub package_is : Package
  pub is : package_of (offer_at u l) v ≡ Some package_is
  pub matched : value_matches a package_is.facts asker ≡ true

-- the second choice is an option of the first, for what is open there; in which order they are
-- tried is of no account here
abbrev pub IsOption : Universe → Choice → Obligation → Choice → Type 0
IsOption u c (wanted a) e =
    (l : ℕ) × (v : Value) × MayBe u c l v × Serves u l v a [] × (e ≡ (l, v) ∷ c)
IsOption u c (required l) e = (v : Value) × MayChange u c l v × (e ≡ (l, v) ∷ c)
IsOption u c (conflict l m) e =
    ((v : Value) × MayChange u c l v × (e ≡ (l, v) ∷ c))
    ⊎ ((v : Value) × MayBe u c m v
    × ((p q : Package) → Stands u (filling u c) l p → package_of (offer_at u m) v ≡ Some q →
    conflicts (is_new (filling u c l)) p q ≡ false)
    × (e ≡ (m, v) ∷ held u c l))
IsOption u c (tree l class) e =
    ((a : AtomValue) × (p : Package) × (m : ℕ) × (v : Value) × Stands u (filling u c) l p
    × Has (leaves_in class p) a × (is_block a ≡ false)
    × MayBe u c m v × Serves u m v a p.facts.enabled × (e ≡ (m, v) ∷ c))
    ⊎ ((v : Value) × MayChange u c l v × (e ≡ (l, v) ∷ c))
IsOption u c (absence l) e =
    (m : ℕ) × (v : Value) × (q : Package) × (z : Package) × MayBe u c m v × (is_new v ≡ true)
    × (package_of (offer_at u m) v ≡ Some q) × ((offer_at u l).installed ≡ Some z)
    × (conflicts true q z ≡ true) × (e ≡ (m, v) ∷ c)

-- what is taken up next of what is open, where anything is
pub record IsPick (u : Universe) (pick : Choice → Option Obligation) : Type 0 where
  pub some : (c : Choice) (o : Obligation) → pick c ≡ Some o → IsOpen u c o
  pub none : (c : Choice) → pick c ≡ None → (o : Obligation) → ¬ IsOpen u c o

-- a choice of the tree: the root, where nothing is decided, or an option of what is taken up
pub data IsNode (u : Universe) (pick : Choice → Option Obligation) : Choice → Type 0 where
  root : IsNode u pick []
  option : (c e : Choice) (o : Obligation) → IsNode u pick c → pick c ≡ Some o →
      IsOption u c o e → IsNode u pick e

-- a choice of the tree where nothing is open
pub record IsGoodLeaf (u : Universe) (pick : Choice → Option Obligation) (c : Choice) : Type 0 where
  pub node : IsNode u pick c
  pub closed : pick c ≡ None
