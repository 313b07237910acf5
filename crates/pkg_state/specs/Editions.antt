-- When what a package needs and asks of its flags is as its edition has it.
use Rattle.std.specs.Prelude.{◌≡◌, false}
use Rattle.dep_group.specs.Trees.{no_trees}
use Rattle.pkg_state.specs.Eapis.{empty_holds, has_class}
use Rattle.pkg_state.specs.Package.{Package, tree_of}
use Rattle.pkg_state.specs.declared.class.Class.{Class}

-- it needs nothing of a class that its edition lacks, and its groups without members hold where
-- those of its edition do
pub record FitsEdition (p : Package) : Type 0 where
  pub lacking : (class : Class) → has_class p.eapi class ≡ false →
      (tree_of class p).groups ≡ no_trees
  pub needs : (class : Class) → (tree_of class p).empty_holds ≡ empty_holds p.eapi
  pub required : p.required.empty_holds ≡ empty_holds p.eapi
