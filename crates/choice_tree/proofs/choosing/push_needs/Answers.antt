use Rattle.std.proofs.Common.{◌≡◌, ◌∙◌, ◌++◌, ◌∷◌, ◌+◌, List, [], ℕ, ap, arith, drop, filter, map, not, subst, sym}
use Rattle.std.specs.List.{flat_map}
use Rattle.basics.proofs.Lists.{at_drop}
use Rattle.dep_atom.specs.Values.{AtomValue, atom_value}
use Rattle.dep_tree.specs.Grammar.{is_block}
use Rattle.pkg_state.specs.Package.{Package}
use Rattle.choice_tree.specs.Options.{served}
use Rattle.choice_tree.specs.Seen.{places_of}
use Rattle.choice_tree.specs.Views.{decisions_of}
use Rattle.choice_tree.proofs.Gathered.{more_kept}
use Rattle.choice_tree.proofs.choosing.push_needs.Goals as goal

pub loop-atom-preserved : goal.loop-atom-preserved
loop-atom-preserved c =
    let ss = places_of c.args.around.now.places.now in
    let f = λ (a : AtomValue). served c.args.update ss c.args.owner.now.facts.enabled a in
    let keep = λ (a : AtomValue). not (is_block a) in
    let items = c.deref-atom-items.result.now in
    let here = ap (λ xs. map (λ a. atom_value a.now) xs) (at_drop items c.loop-atom.atom-index c.atom-item.result (omega arith) c.atom-item.is) in
    more_kept f keep (atom_value c.atom-item.result.now) (map (λ a. atom_value a.now) (drop (c.loop-atom.atom-index + 1) items))
    (decisions_of c.loop-atom.out.items) (decisions_of c.push_leaf.new.out.items) _
    (subst (λ (flags : List (List ℕ)). decisions_of c.push_leaf.new.out.items ≡ decisions_of c.loop-atom.out.items ++ flat_map (λ (a : AtomValue). served c.args.update ss flags a) (filter keep (atom_value c.atom-item.result.now ∷ [])))
    (ap (λ (p : Package). p.facts.enabled) c.owner.view_is) c.in_ok-push_leaf.ensures)
    (ap (λ (ys : List AtomValue). decisions_of c.loop-atom.out.items ++ flat_map f (filter keep ys)) (sym here) ∙ c.loop-atom.invariant)
