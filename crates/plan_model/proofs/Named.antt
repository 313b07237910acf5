-- The first package that an addition names is the first of those of its name.
use denote.Ref.{Bor}
use Rattle.std.proofs.Common.{◌≡◌, ◌∙◌, Bool, List, [], ◌∷◌, Option, Vec, ◌<◌, ◌≤◌, None, Some, ap, bytes_eq, cond, drop, get_or, inl, inr, length, map, refl, subst, sym, true, false, ℕ}
use Rattle.std.proofs.lemmas.Bool.{cases_Bool}
use Rattle.std.proofs.lemmas.List.{drop_all}
use Rattle.basics.proofs.Lists.{at_drop}
use Rattle.std.specs.Global.{Global}
use Rattle.std.specs.BTreeMap.{BTreeMap}
use Rattle.basics.proofs.Texts.{bytes_eq-same}
use Rattle.build_pool.specs.declared.orders.Order.{Order}
use Rattle.dep_atom.specs.declared.package.PackageId.{PackageId}
use Rattle.pkg_state.specs.Index.{AreNamed, listed, those_named}
use Rattle.pkg_state.specs.Package.{Package}
use Rattle.plan_model.specs.Offers.{IsFirst, Names}

-- the packages that borrows lead to
abbrev pub told : List (Bor Package) → List Package
told ps = map (λ (p : Bor Package). p.now) ps

of_name : (a : Order) (p : Package) → Names a p → bytes_eq a.id.name.«package» p.facts.id.name.«package» ≡ true
of_name a p names = subst (λ (i : PackageId). bytes_eq a.id.name.«package» i.name.«package» ≡ true) (sym names.id) (bytes_eq-same a.id.name.«package»)

not_of_name : (a : Order) (p : Package) → bytes_eq a.id.name.«package» p.facts.id.name.«package» ≡ false → ¬ Names a p
not_of_name a p other names = let both : true ≡ false = sym (of_name a p names) ∙ other in absurd (cc both)

pub first_of_name : (a : Order) (ps : List Package) (o : Option Package) → IsFirst a (those_named a.id.name.«package» ps) o → IsFirst a ps o
first_of_name a [] o first = first
first_of_name a (p ∷ ps) o first = elim (cases_Bool (bytes_eq a.id.name.«package» p.facts.id.name.«package»)) [
  | inl e ↦ elim (subst (λ (b : Bool). IsFirst a (cond b (p ∷ those_named a.id.name.«package» ps) (those_named a.id.name.«package» ps)) o) e first) [
    | inl this ↦ inl this
    | inr later ↦ inr (later.0, first_of_name a ps o later.1)
  ]
  | inr e ↦ inr (not_of_name a p e, first_of_name a ps o (subst (λ (b : Bool). IsFirst a (cond b (p ∷ those_named a.id.name.«package» ps) (those_named a.id.name.«package» ps)) o) e first))
]

pub first_under : (ps : List Package) (lists : BTreeMap (Bor (List ℕ)) (Vec (Bor Package) Global)) (a : Order) (name : List ℕ) (items : List (Bor Package)) (o : Option Package)
    → AreNamed ps lists → name ≡ a.id.name.«package» → items ≡ listed lists name → IsFirst a (told items) o → IsFirst a ps o
first_under ps lists a name items o are is those first =
    first_of_name a ps o (subst (λ (l : List Package). IsFirst a l o) (ap told those ∙ (are name ∙ ap (λ (n : List ℕ). those_named n ps) is)) first)

-- where a loop over the packages of a name ends
pub found_at : (a : Order) (items : List (Bor Package)) (i : ℕ) (item : Bor Package) → i < length items → item ≡ get_or items i item → Names a item.now → IsFirst a (told (drop i items)) (Some item.now)
found_at a items i item within is names = rw (at_drop items i item within is) (inl (names, refl))

pub none_left : (a : Order) (items : List (Bor Package)) (i : ℕ) → length items ≤ i → IsFirst a (told (drop i items)) None
none_left a items i past = rw (drop_all i items past) refl
