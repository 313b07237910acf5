-- When a filling of all lines is a solution; no search is in it.
use Rattle.std.specs.Prelude.{◌≡◌, ◌<◌, ℕ, true, false, [], Some}
use Rattle.basics.specs.Members.{Has}
use Rattle.dep_atom.specs.Match.{value_matches}
use Rattle.dep_atom.specs.Values.{AtomValue}
use Rattle.pkg_state.specs.Consistent.{facts_of, fits_required, is_met}
use Rattle.pkg_state.specs.Package.{Package}
use Rattle.pkg_state.specs.declared.class.Class.{Class}
use Rattle.choice_law.specs.Universe.{Filling, IsValue, Stands, Universe, absent, conflicts, counts, is_new, lines, offer_at, packages}

pub record IsSolution (u : Universe) (f : Filling) : Type 0 where
  pub values : (l : ℕ) → l < lines u → IsValue (offer_at u l) (f l)
  -- each wanted atom matches a package
  pub wanted : (a : AtomValue) → Has u.wanted a →
      (l : ℕ) × (p : Package) × Stands u f l p × (value_matches a p.facts [] ≡ true)
  -- the flags of each go together
  pub required : (l : ℕ) (p : Package) → Stands u f l p → fits_required p ≡ true
  -- no two conflict
  pub peaceful : (l m : ℕ) (p q : Package) → Stands u f l p → Stands u f m q → ¬ (l ≡ m) →
      conflicts (is_new (f l)) p q ≡ false
  -- what each wants is there: of a new one all that it ever wants
  pub met : (l : ℕ) (p : Package) (class : Class) → Stands u f l p → counts class (f l) ≡ true →
      is_met (facts_of (packages u f)) class p ≡ true
  -- an installed package goes only where one of the packages conflicts with it
  pub cleared : (l : ℕ) (z : Package) → l < lines u → f l ≡ absent →
      (offer_at u l).installed ≡ Some z →
      (m : ℕ) × (q : Package) × Stands u f m q × (conflicts (is_new (f m)) q z ≡ true)
