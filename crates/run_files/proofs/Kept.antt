-- The package that is recorded of one that comes.
use Rattle.std.proofs.Common.{◌≡◌, ◌∙◌, ◌||◌, ◌&&◌, ℕ, Bool, true, false, List, [], ◌∷◌, filter, refl, ap, subst, sym}
use Rattle.std.specs.Prelude.{bytes_eq, if◌then◌else◌}
use Rattle.std.proofs.lemmas.List.Kept.{IsStrictlySortedBy-filter}
use Rattle.std.proofs.lemmas.Slice.Eq.{bytes_eq-Decides}
use Rattle.basics.proofs.Each.{all_by_has, all_has}
use Rattle.basics.proofs.Membership.{has-filter_back}
use Rattle.dep_group.specs.Tokens.{IsFlag}
use Rattle.dep_group.specs.Trees.{no_trees}
use Rattle.dep_tree.specs.Texts.{Dependencies}
use Rattle.pms_names.specs.Flags.{IsRising, byte_order, has}
use Rattle.pms_names.proofs.Sets.{one_set}
use Rattle.pkg_state.specs.Editions.{FitsEdition}
use Rattle.pkg_state.specs.Package.{Package, tree_of, with_enabled}
use Rattle.pkg_state.specs.declared.class.Class.{Class}
use Rattle.pkg_state.specs.declared.class.Class.TheVariants.{Bdepend, Depend, Idepend, Pdepend, Rdepend}
use Rattle.vdb_files.specs.Recorded.{AreNamed, IsFlagSet}
use Rattle.law_commit.specs.Lit.{as_recorded}

-- it needs what the package needs
pub same_tree : (p : Package) (class : Class) → tree_of class (as_recorded p) ≡ tree_of class p
same_tree p Bdepend = refl
same_tree p Depend = refl
same_tree p Idepend = refl
same_tree p Pdepend = refl
same_tree p Rdepend = refl

-- .. in its edition
pub same_edition : (p : Package) → FitsEdition p → FitsEdition (as_recorded p)
same_edition p fits = record {
  lacking = λ class lacks. subst (λ (x : Dependencies). x.groups ≡ no_trees) (sym (same_tree p class)) (fits.lacking class lacks);
  needs = λ class. ap (λ (x : Dependencies). x.empty_holds) (same_tree p class) ∙ fits.needs class;
  required = fits.required;
}

kept_set : (test : List ℕ → Bool) (set : List (List ℕ)) → IsFlagSet set → IsFlagSet (filter test set)
kept_set test set is = record {
  rising = IsStrictlySortedBy-filter byte_order test set is.rising;
  names = all_by_has IsFlag (filter test set) (λ q there. all_has IsFlag set q is.names (has-filter_back test set q there).0);
}

pub named_recorded : (p : Package) → AreNamed p.facts → AreNamed (as_recorded p).facts
named_recorded p named = record {
  slot = named.slot;
  subslot = named.subslot;
  known = named.known;
  enabled = kept_set (has p.facts.iuse) p.facts.enabled named.enabled;
}

-- ---- the flags that are kept

has_kept : (test : List ℕ → Bool) (xs : List (List ℕ)) (q : List ℕ) → has (filter test xs) q ≡ (test q && has xs q)
has_kept test [] q = no_more (test q)
  where
    no_more : (b : Bool) → false ≡ (b && false)
    no_more true = refl
    no_more false = refl
has_kept test (x ∷ xs) q = go (has_kept test xs q) (test x) (bytes_eq q x) refl refl
  where
    as_it : bytes_eq q x ≡ true → test q ≡ test x
    as_it same = ap test ((bytes_eq-Decides q x).0 same)

    go : has (filter test xs) q ≡ (test q && has xs q) → (t b : Bool) → test x ≡ t → bytes_eq q x ≡ b
        → has (if t then x ∷ filter test xs else filter test xs) q ≡ (test q && (bytes_eq q x || has xs q))
    go behind true true is same =
        ap (λ (c : Bool). c || has (filter test xs) q) same
        ∙ (sym (ap (λ (c : Bool). c && true) (as_it same ∙ is)) ∙ sym (ap (λ (c : Bool). test q && (c || has xs q)) same))
    go behind true false is same =
        ap (λ (c : Bool). c || has (filter test xs) q) same ∙ (behind ∙ sym (ap (λ (c : Bool). test q && (c || has xs q)) same))
    go behind false true is same =
        behind ∙ (ap (λ (c : Bool). c && has xs q) (as_it same ∙ is)
        ∙ (sym (ap (λ (c : Bool). c && true) (as_it same ∙ is)) ∙ sym (ap (λ (c : Bool). test q && (c || has xs q)) same)))
    go behind false false is same = behind ∙ sym (ap (λ (c : Bool). test q && (c || has xs q)) same)

pub recorded_with : (p : Package) (set : List (List ℕ)) → IsRising p.facts.enabled → IsRising set → ((q : List ℕ) → has set q ≡ (has p.facts.iuse q && has p.facts.enabled q)) → with_enabled set p ≡ as_recorded p
recorded_with p set was is same =
    let kept : set ≡ filter (has p.facts.iuse) p.facts.enabled = one_set set (filter (has p.facts.iuse) p.facts.enabled) is (IsStrictlySortedBy-filter byte_order (has p.facts.iuse) p.facts.enabled was)
    (λ q. same q ∙ sym (has_kept (has p.facts.iuse) p.facts.enabled q)) in
    ap (λ (on : List (List ℕ)). with_enabled on p) kept
