-- Which offered package an addition names, and what it comes as.
use Rattle.std.specs.Prelude.{◌≡◌, ◌⊎◌, ◌||◌, ℕ, true, List, [], ◌∷◌, Option, None, Some}
use Rattle.basics.specs.Members.{Has}
use Rattle.pms_names.specs.Flags.{IsRising, has}
use Rattle.build_pool.specs.declared.orders.Order.{Order}
use Rattle.dep_atom.specs.declared.slot.Bind.{Bind}
use Rattle.pkg_state.specs.Package.{Package, with_flags}
use Rattle.plan_model.specs.Entering.{entered_with}

-- the addition names the package
pub record Names (a : Order) (p : Package) : Type 0 where
  pub id : p.facts.id ≡ a.id
  pub slot : p.facts.slot ≡ a.slot
  pub subslot : p.facts.subslot ≡ a.subslot

-- of the packages the first that the addition names, or none
abbrev pub IsFirst : Order → List Package → Option Package → Type 0
IsFirst a [] found = found ≡ None
IsFirst a (p ∷ ps) found = (Names a p × (found ≡ Some p)) ⊎ ((¬ Names a p) × IsFirst a ps found)

-- just the flags of the text and the implicit ones are on
pub record AreOn (text implicit on : List (List ℕ)) : Type 0 where
  pub rising : IsRising on
  pub members : (flag : List ℕ) → has on flag ≡ (has text flag || has implicit flag)

-- the package with these flags on, as it enters: in RDEPEND its slot operators are bound by these
-- binds, and in the other classes by none
abbrev pub entering : List (List ℕ) → List Bind → Package → Package
entering on binds p =
    record {
      facts = with_flags on p.facts;
      eapi = p.eapi;
      rdepend = entered_with (has on) binds p.rdepend;
      pdepend = entered_with (has on) [] p.pdepend;
      depend = entered_with (has on) [] p.depend;
      bdepend = entered_with (has on) [] p.bdepend;
      idepend = entered_with (has on) [] p.idepend;
      required = p.required;
    }

-- the offered package comes as this with the addition
pub record ComesAs (a : Order) (p q : Package) : Type 0 where
  pub on : List (List ℕ)
  pub flags : AreOn a.enabled p.facts.enabled on
  pub is : q ≡ entering on a.binds p

-- what the addition brings, of the offered packages
pub record Brings (offered : List Package) (a : Order) (q : Package) : Type 0 where
  pub p : Package
  pub first : IsFirst a offered (Some p)
  pub known : (flag : List ℕ) → Has a.enabled flag → has p.facts.iuse flag ≡ true
  pub comes : ComesAs a p q
