-- The lines that a package needs, as they are found.
use Rattle.std.proofs.Common.{◌≡◌, ◌↔◌, ◌∙◌, ℕ, List, [], ◌∷◌, Option, None, Some, inl, inr, refl, ap, subst, sym}
use Rattle.basics.specs.Members.{Has}
use Rattle.basics.proofs.Membership.{has-flat_map, has-flat_map_back}
use Rattle.dep_atom.specs.declared.package.Facts.{Facts}
use Rattle.dep_atom.specs.Values.{AtomValue}
use Rattle.pkg_state.specs.Consistent.{facts_of}
use Rattle.pkg_state.specs.Package.{Package}
use Rattle.pkg_state.specs.declared.class.Class.{Class}
use Rattle.choice_law.specs.Tree.{Choice, filling}
use Rattle.choice_law.specs.Universe.{Universe, packages}
use Rattle.choice_tree.specs.Places.{packages_in, places}
use Rattle.choice_tree.proofs.Packages.{packages_are}
use Rattle.merge_edges.specs.Found.{HasVersion, Stander, as_line, best_in, needed_lines, place_at}
use Rattle.merge_edges.specs.Needs.{HasGreatest, NeedsLine, needed_leaves}
use Rattle.merge_edges.proofs.Best.{found_greatest, greatest_found}

as_line_back : (o : Option Stander) (l : ℕ) → Has (as_line o) l → (x : Stander) × (o ≡ Some x) × (x.line ≡ l)
as_line_back None l h = absurd h
as_line_back (Some x) l (inl e) = (x, refl, e)
as_line_back (Some x) l (inr h) = absurd h

has_as_line : (o : Option Stander) (l : ℕ) (x : Stander) → o ≡ Some x → x.line ≡ l → Has (as_line o) l
has_as_line o l x is e = subst (λ (z : Option Stander). Has (as_line z) l) (sym is) (inl e)

module _ (u : Universe) (c : Choice) (versions : (l : ℕ) → HasVersion (place_at (places u c) l)) (class : Class) (p : Package) where
  same_leaves : needed_leaves (facts_of (packages_in (places u c))) class p ≡ needed_leaves (facts_of (packages u (filling u c))) class p
  same_leaves = ap (λ (ps : List Package). needed_leaves (facts_of ps) class p) (sym (packages_are u c))

  needed_is : (l : ℕ) → Has (needed_lines (places u c) class p) l → NeedsLine u c class p l
  needed_is l h =
      let r = has-flat_map_back (λ a. as_line (best_in (places u c) a p.facts.enabled)) (needed_leaves (facts_of (packages_in (places u c))) class p) l h in
      let x = as_line_back (best_in (places u c) r.0 p.facts.enabled) l r.2 in
      record {
        atom_is = r.0;
        needed = subst (λ (as' : List AtomValue). Has as' r.0) same_leaves r.1;
        served = subst (λ (k : ℕ). HasGreatest u c p.facts.enabled r.0 k) x.2 (greatest_found u c r.0 p.facts.enabled versions x.0 x.1);
      }

  is_needed : (l : ℕ) → NeedsLine u c class p l → Has (needed_lines (places u c) class p) l
  is_needed l n =
      let x = found_greatest u c n.atom_is p.facts.enabled versions l n.served in
      has-flat_map (λ a. as_line (best_in (places u c) a p.facts.enabled)) (needed_leaves (facts_of (packages_in (places u c))) class p) n.atom_is l
      (subst (λ (as' : List AtomValue). Has as' n.atom_is) (sym same_leaves) n.needed)
      (has_as_line (best_in (places u c) n.atom_is p.facts.enabled) l x.0 x.1 x.2)

  -- just those lines are found
  pub needed_are : (l : ℕ) → Has (needed_lines (places u c) class p) l ↔ NeedsLine u c class p l
  needed_are l = (needed_is l, is_needed l)
