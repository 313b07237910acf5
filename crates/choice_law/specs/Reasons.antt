-- On which decided lines it rests that something is open, and what is still promised then.
use Rattle.std.specs.Prelude.{◌≡◌, ◌||◌, ◌&&◌, ◌++◌, ℕ, zero, suc, Bool, false, true, List, [], ◌∷◌, None, Some, is_some, nat_eq, if◌then◌else◌}
use Rattle.std.specs.List.{list_any}
use Rattle.std.specs.Option.{option_map_or}
use Rattle.basics.specs.Members.{Has}
use Rattle.dep_atom.specs.Match.{value_matches}
use Rattle.dep_atom.specs.Values.{AtomValue}
use Rattle.dep_atom.specs.declared.package.Facts.{Facts}
use Rattle.pkg_state.specs.Consistent.{facts_of}
use Rattle.pkg_state.specs.Package.{Package}
use Rattle.pkg_state.specs.declared.class.Class.{Class}
use Rattle.choice_law.specs.Universe.{Filling, Offer, Universe, Value, conflicts, lines, offer_at, package_of}
use Rattle.choice_law.specs.Blame.{blamed_in}
use Rattle.choice_law.specs.Possible.{is_hopeless, judged_among}
use Rattle.choice_law.specs.Solutions.{IsSolution}
use Rattle.choice_law.specs.Tree.{Choice, IsOpen, IsOption, Obligation, absence, conflict, decided, filling, required, tree, wanted}
use Rattle.choice_law.specs.Laws.{IsUniverse}

-- some package that may stand on the line passes; the test is told whether it isn't there yet
abbrev pub offers : (Bool → Package → Bool) → Offer → Bool
offers test o = option_map_or (test false) o.installed false || list_any (test true) o.variants

-- .. is matched by the atom, for an asker with these flags
abbrev pub can_match : AtomValue → List (List ℕ) → Offer → Bool
can_match a asker o = offers (λ new p. value_matches a p.facts asker) o

-- .. is matched by a leaf to blame for what the package lacks in this class, among packages with
-- these facts
abbrev pub offers_blamed : List Facts → Class → Package → Offer → Bool
offers_blamed facts class p o =
    list_any (λ a. can_match a p.facts.enabled o) (blamed_in facts class p)

-- .. can't stand beside the package
abbrev pub offers_against : Package → Offer → Bool
offers_against z o = offers (λ new q. conflicts new q z) o

-- that the obligation is open rests on what is decided of the last line, if anything is
abbrev pub rests_on : Universe → Choice → Obligation → ℕ → Bool
rests_on u c (wanted a) k = can_match a [] (offer_at u k)
rests_on u c (required l) k = nat_eq l k
rests_on u c (conflict l m) k = nat_eq l k || nat_eq m k
rests_on u c (tree l class) k =
    nat_eq l k
    || option_map_or
    (λ p. offers_blamed (facts_of (judged_among u c class p)) class p (offer_at u k))
    (package_of (offer_at u l) (filling u c l)) false
rests_on u c (absence l) k =
    nat_eq l k || option_map_or (λ z. offers_against z (offer_at u k))
    (offer_at u l).installed false

-- those of the first numbers that pass, in their order
abbrev pub those_below : (ℕ → Bool) → ℕ → List ℕ
those_below test zero = []
those_below test (suc n) = those_below test n ++ (if test n then n ∷ [] else [])

-- the decided lines on which it rests that the obligation is open, in line order
abbrev pub reason : Universe → Choice → Obligation → List ℕ
reason u c o = those_below (λ k. is_some (decided c k) && rests_on u c o k) (lines u)

-- the filling has what the choice decides of these lines
abbrev pub AgreesOn : List ℕ → Choice → Filling → Type 0
AgreesOn ls c f = (l : ℕ) (v : Value) → Has ls l → decided c l ≡ Some v → f l ≡ v

-- the filling has what the second choice decides of lines that the first doesn't decide
abbrev pub AgreesNew : Choice → Choice → Filling → Type 0
AgreesNew c e f = (l : ℕ) (v : Value) → decided c l ≡ None → decided e l ≡ Some v → f l ≡ v

-- the second choice decides alike what the first decides
abbrev pub Extends : Choice → Choice → Type 0
Extends c e = (l : ℕ) (v : Value) → decided c l ≡ Some v → decided e l ≡ Some v

-- a solution that agrees with a choice on the reason of what is open agrees with some option for
-- it on what that option adds
abbrev pub ReasonsSuffice : Type 0
ReasonsSuffice =
    (u : Universe) (f : Filling) (c : Choice) (o : Obligation) → IsUniverse u →
    IsSolution u f → IsOpen u c o → AgreesOn (reason u c o) c f →
    (e : Choice) × IsOption u c o e × AgreesNew c e f

-- no solution agrees with a hopeless choice on the reason of what is open: it has no good leaf
-- below it, whatever its options are
abbrev pub HopelessChoicesFail : Type 0
HopelessChoicesFail =
    (u : Universe) (f : Filling) (c : Choice) (o : Obligation) → IsUniverse u →
    IsSolution u f → IsOpen u c o → is_hopeless u c o ≡ true → ¬ AgreesOn (reason u c o) c f
