-- The keys of a set of flags: which it has, and that they rise.
use Rattle.std.proofs.Common.{◌≡◌, ◌∙◌, ℕ, Bool, true, false, not, ◌||◌, ◌&&◌, cond, List, [], ◌∷◌, refl, sym, ap, subst, bytes_eq}
use Rattle.std.specs.List.{list_any}
use Rattle.std.specs.List.Sorted.{IsStrictlySortedBy}
use Rattle.std.specs.BTreeMap.{is_at}
use Rattle.std.specs.BTreeSet.{BTreeSet, contains, Updates, UpdatesBy}
use Rattle.std.specs.Cmp.Lexicographic.{texts_ties}
use Rattle.std.specs.Ordering.{is_eq, ordering_then}
use Rattle.std.specs.declared.cmp.Ordering.{Ordering}
use Rattle.std.specs.declared.cmp.Ordering.TheVariants.{Equal}
use Rattle.std.proofs.lemmas.Cmp.{nat_list_eq_equiv}
use Rattle.pms_names.specs.Flags.{has, byte_order, IsRising}
use Rattle.basics.proofs.Texts.{then-Equal}

-- the order of flags, as it comes from their parts
abbrev pub flag_order : List ℕ → List ℕ → Ordering
flag_order x y = ordering_then (byte_order x y) Equal

tied : (x y : List ℕ) → is_at (flag_order x) y ≡ bytes_eq x y
tied x y = ap is_eq (then-Equal (byte_order x y)) ∙ sym (texts_ties x y)

pub contains_has : (keys : List (List ℕ)) (flag : List ℕ) → list_any (is_at (flag_order flag)) keys ≡ has keys flag
contains_has [] flag = refl
contains_has (key ∷ keys) flag = rw (tied flag key, contains_has keys flag) refl

or_that : (b r : Bool) → cond b true r ≡ (b || r)
or_that true r = refl
or_that false r = refl

and_not_that : (b r : Bool) → cond b false r ≡ (not b && r)
and_not_that true r = refl
and_not_that false r = refl

same : (x y : List ℕ) → is_at (flag_order x) y ≡ bytes_eq y x
same x y = tied x y ∙ nat_list_eq_equiv.symm x y

-- a set that was updated at a flag has it exactly where it was to, and the other flags as before
updated : (s n : BTreeSet (List ℕ)) (flag q : List ℕ) (b : Bool) → Updates flag_order s n flag b → has n.keys q ≡ cond (bytes_eq q flag) b (has s.keys q)
updated s n flag q b up = sym (contains_has n.keys q) ∙ up.0 q ∙ ap (λ t. cond t b (contains flag_order s q)) (same flag q) ∙ ap (cond (bytes_eq q flag) b) (contains_has s.keys q)

pub added : (s n : BTreeSet (List ℕ)) (flag q : List ℕ) → Updates flag_order s n flag true → has n.keys q ≡ (bytes_eq q flag || has s.keys q)
added s n flag q up = updated s n flag q true up ∙ or_that (bytes_eq q flag) (has s.keys q)

pub taken : (s n : BTreeSet (List ℕ)) (flag q : List ℕ) → Updates flag_order s n flag false → has n.keys q ≡ (not (bytes_eq q flag) && has s.keys q)
taken s n flag q up = updated s n flag q false up ∙ and_not_that (bytes_eq q flag) (has s.keys q)
