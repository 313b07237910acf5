-- Each option decides a line more, so no way through the tree is longer than there are lines.
use Rattle.std.proofs.Common.{◌≡◌, ◌<◌, ◌+◌, ◌∙◌, ℕ, zero, suc, Bool, true, false, cond, List, [], Option, None, Some, ap, refl, subst, sym, unwrap_or}
use Rattle.std.specs.Option.{option_map}
use Rattle.basics.specs.Members.{Has}
use Rattle.choice_law.specs.Universe.{Universe, Value, lines}
use Rattle.choice_law.specs.Tree.{Choice, Obligation, decided}
use Rattle.choice_law.specs.Possible.{is_hopeless}
use Rattle.choice_law.proofs.Lines.{free_below, is_free}
use Rattle.choice_law.proofs.Steps.{option_fewer}
use Rattle.choice_tree.specs.Open.{first_open}
use Rattle.choice_tree.specs.Options.{options}
use Rattle.choice_tree.proofs.Among.{options_are}
use Rattle.choice_tree.specs.Tree.{OptionsDecideMore, free_before, free_lines, one_if_free, tree_options, tried_for, tried_options}

abbrev IsThere : Option (List Choice) → Type 0
IsThere None = ⊥
IsThere (Some ds) = Unit {0}

same_one : (x : Option Value) → one_if_free x ≡ is_free x
same_one None = refl
same_one (Some v) = refl

same_free : (c : Choice) (n : ℕ) → free_before c n ≡ free_below c n
same_free c zero = refl
same_free c (suc n) = ap (λ (k : ℕ). k + one_if_free (decided c n)) (same_free c n) ∙ ap (λ (k : ℕ). free_below c n + k) (same_one (decided c n))

-- where a choice has such options, something is open of it, and they are the options for that
mapped_some : (f : Obligation → List Choice) (x : Option Obligation) (ds : List Choice) → option_map f x ≡ Some ds → (o : Obligation) × (x ≡ Some o) × (f o ≡ ds)
mapped_some f None ds e = absurd (subst IsThere (sym e) tt)
mapped_some f (Some o) ds e = (o, refl, ap (λ (xs : Option (List Choice)). unwrap_or xs ds) e)

mapped_none : (f : Obligation → List Choice) (x : Option Obligation) → option_map f x ≡ None → x ≡ None
mapped_none f None e = refl
mapped_none f (Some o) e = absurd (subst IsThere e tt)

pub some_open : (update : Bool) (u : Universe) (c : Choice) (ds : List Choice) → tree_options update u c ≡ Some ds → (o : Obligation) × (first_open u c ≡ Some o) × (options update u c o ≡ ds)
some_open update u c ds e = mapped_some (options update u c) (first_open u c) ds e

pub none_open : (update : Bool) (u : Universe) (c : Choice) → tree_options update u c ≡ None → first_open u c ≡ None
none_open update u c e = mapped_none (options update u c) (first_open u c) e

pub some_tried : (update : Bool) (u : Universe) (c : Choice) (ds : List Choice) → tried_options update u c ≡ Some ds → (o : Obligation) × (first_open u c ≡ Some o) × (tried_for update u c o ≡ ds)
some_tried update u c ds e = mapped_some (tried_for update u c) (first_open u c) ds e

pub none_tried : (update : Bool) (u : Universe) (c : Choice) → tried_options update u c ≡ None → first_open u c ≡ None
none_tried update u c e = mapped_none (tried_for update u c) (first_open u c) e

-- what is tried is an option
pub tried_is_option : (update : Bool) (u : Universe) (c : Choice) (o : Obligation) (d : Choice) → Has (tried_for update u c o) d → Has (options update u c o) d
tried_is_option update u c o d h = by_case (is_hopeless u c o) h where
  by_case : (b : Bool) → Has (cond b [] (options update u c o)) d → Has (options update u c o) d
  by_case true h = absurd h
  by_case false h = h

-- where the choice isn't hopeless, each option is tried
pub all_tried : (update : Bool) (u : Universe) (c : Choice) (o : Obligation) → is_hopeless u c o ≡ false → options update u c o ≡ tried_for update u c o
all_tried update u c o hopes = sym (ap (λ (b : Bool). cond b [] (options update u c o)) hopes)

option_smaller : (update : Bool) (u : Universe) (c d : Choice) (o : Obligation) → Has (options update u c o) d → free_lines u d < free_lines u c
option_smaller update u c d o h =
    let less = option_fewer u c o d (options_are update u c o d h) in
    subst (λ (n : ℕ). n < free_lines u c) (sym (same_free d (lines u))) (subst (λ (n : ℕ). free_below d (lines u) < n) (sym (same_free c (lines u))) less)

pub smaller : OptionsDecideMore
smaller update u c d ds e h =
    let o = some_open update u c ds e in
    option_smaller update u c d o.0 (subst (λ (xs : List Choice). Has xs d) (sym o.2) h)

pub tried_smaller : (update : Bool) (u : Universe) (c d : Choice) (ds : List Choice) → tried_options update u c ≡ Some ds → Has ds d → free_lines u d < free_lines u c
tried_smaller update u c d ds e h =
    let o = some_tried update u c ds e in
    option_smaller update u c d o.0 (tried_is_option update u c o.0 d (subst (λ (xs : List Choice). Has xs d) (sym o.2) h))
