-- When packages that are installed side by side are consistent.
use Rattle.std.specs.Prelude.{◌≡◌, ◌&&◌, ◌||◌, Bool, true, false, not, List, bytes_eq, filter, map}
use Rattle.std.specs.List.{list_any}
use Rattle.basics.specs.Members.{AreDistinct, Has}
use Rattle.pms_names.specs.Flags.{has}
use Rattle.dep_atom.specs.declared.package.Facts.{Facts}
use Rattle.dep_atom.specs.Match.{value_matches}
use Rattle.dep_atom.specs.Values.{AtomValue}
use Rattle.dep_tree.specs.Grammar.{is_block}
use Rattle.dep_tree.specs.Truth.{all_met, counted_leaves}
use Rattle.required_use.specs.Truth.{all_fit}
use Rattle.pkg_state.specs.Package.{Package, line_of, lines_of, tree_of}
use Rattle.pkg_state.specs.declared.class.Class.{Class}
use Rattle.pkg_state.specs.declared.class.Class.TheVariants.{Pdepend, Rdepend}

-- what atoms ask of the packages
abbrev pub facts_of : List Package → List Facts
facts_of ps = map (λ p. p.facts) ps

-- what the package needs in this class is there, among packages with these facts
abbrev pub is_met : List Facts → Class → Package → Bool
is_met facts class p = all_met facts p.facts.enabled (tree_of class p)

-- its flags go together
abbrev pub fits_required : Package → Bool
fits_required p = all_fit (has p.facts.enabled) p.required

abbrev pub shares_line : Package → Package → Bool
shares_line p q = bytes_eq (line_of p.facts) (line_of q.facts)

-- the leaves of a class that count
abbrev pub leaves_in : Class → Package → List AtomValue
leaves_in class p = counted_leaves p.facts.enabled (tree_of class p)

-- the blocks among them
abbrev pub blocks_in : Class → Package → List AtomValue
blocks_in class p = filter is_block (leaves_in class p)

-- a block of this class that counts matches the other package
abbrev pub class_blocks : Class → Package → Package → Bool
class_blocks class p q =
    list_any (λ a. is_block a && value_matches a q.facts p.facts.enabled)
    (leaves_in class p)

-- p keeps q out; what stands on its own line it doesn't
abbrev pub blocks : Package → Package → Bool
blocks p q = (class_blocks Rdepend p q || class_blocks Pdepend p q) && not (shares_line p q)

abbrev pub is_blocked : List Package → Package → Bool
is_blocked ps p = list_any (λ q. blocks q p) ps

-- no two packages stand on one line
abbrev pub AreApart : List Package → Type 0
AreApart ps = AreDistinct (lines_of ps)

-- the packages go together: whatever is needed at run time is there, and nothing is blocked
pub record AreConsistent (ps : List Package) : Type 0 where
  pub apart : AreApart ps
  pub required : (p : Package) → Has ps p → fits_required p ≡ true
  pub unblocked : (p q : Package) → Has ps p → Has ps q → blocks q p ≡ false
  pub runtime : (p : Package) → Has ps p → is_met (facts_of ps) Rdepend p ≡ true
