-- Which expression is broken first, and that none is exactly where all hold.
use Rattle.std.specs.Prelude.{not, cond, Option, Some, IsNone, IsTrue, ◌↔◌}
use Rattle.std.specs.List.{position, position_from}
use Rattle.std.proofs.Common.{◌≡◌, ℕ, ◌+◌, Bool, true, false, ◌&&◌, List, [], ◌∷◌, refl, ap, sym, ◌∙◌, subst, rules}
use Rattle.std.proofs.lemmas.Iterator.Adapters.{position_from-zero}
use Rattle.dep_group.specs.declared.token.Opener.{Opener}
use Rattle.dep_group.specs.Reading.{list_of}
use Rattle.dep_group.specs.Trees.{Tree, holds, all_hold}
use Rattle.required_use.specs.declared.required.Item.{Item}
use Rattle.required_use.specs.declared.required.Required.{Required}
use Rattle.required_use.specs.Grammar.{kind}
use Rattle.required_use.specs.View.{view, trees_view}

none_step : (b h : Bool) (rest : Option ℕ) (i : ℕ) → IsNone rest ↔ IsTrue h → IsNone (cond (not b) (Some i) rest) ↔ IsTrue (b && h)
none_step true h rest i k = k
none_step false h rest i k = (λ n. absurd (search rules), λ t. absurd (search rules))

none_from : (empty : Bool) (fact : Item → Bool) (has : List ℕ → Bool) (ns : List Required) (i : ℕ) → IsNone (position_from (λ r. not (holds empty kind fact has (view r))) i ns) ↔ IsTrue (all_hold empty kind fact has (trees_view ns))
none_from empty fact has [] i = (λ _. search rules, λ _. search rules)
none_from empty fact has (n ∷ ns) i = none_step (holds empty kind fact has (view n)) (all_hold empty kind fact has (trees_view ns)) _ i (none_from empty fact has ns (i + 1))

pub position-none : (empty : Bool) (fact : Item → Bool) (has : List ℕ → Bool) (ns : List Required) (r : Option ℕ) → r ≡ position (λ n. not (holds empty kind fact has (view n))) ns → IsNone r ↔ IsTrue (all_hold empty kind fact has (trees_view ns))
position-none empty fact has ns r e =
    let P : Option ℕ → Type 0 = λ o. IsNone o ↔ IsTrue (all_hold empty kind fact has (trees_view ns)) in
    subst P (sym e) (subst P (sym (position_from-zero (λ n. not (holds empty kind fact has (view n))) ns)) (none_from empty fact has ns 0))

trees_from : (p : Tree (Opener (List ℕ)) Item → Bool) (ns : List Required) (i : ℕ) → position_from (λ n. p (view n)) i ns ≡ position_from p i (list_of (trees_view ns))
trees_from p [] i = refl
trees_from p (n ∷ ns) i = ap (λ r. cond (p (view n)) (Some i) r) (trees_from p ns (i + 1))

-- the first node that passes is the first tree that does
pub position-trees : (p : Tree (Opener (List ℕ)) Item → Bool) (ns : List Required) → position (λ n. p (view n)) ns ≡ position p (list_of (trees_view ns))
position-trees p ns = position_from-zero (λ n. p (view n)) ns ∙ trees_from p ns 0 ∙ sym (position_from-zero p (list_of (trees_view ns)))
