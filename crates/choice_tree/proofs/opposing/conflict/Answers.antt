use Rattle.std.proofs.Common.{◌≡◌, ◌∙◌, ◌||◌, Bool, true, false, List, map, ℕ, ap, bytes_eq, sym}
use Rattle.dep_atom.specs.Ids.{id_text}
use Rattle.dep_atom.specs.Values.{AtomValue, atom_value}
use Rattle.choice_law.specs.Universe.{same_version}
use Rattle.choice_tree.specs.Blocks.{blocks_of, hit}
use Rattle.choice_tree.proofs.Conflicts.{conflicts_are}
use Rattle.choice_tree.proofs.opposing.conflict.Goals as goal

pub returns-then-hits : goal.returns-then-hits
returns-then-hits c =
    let one = c.args.one.now in
    let p = one.owner.now in
    let q = c.args.other.now in
    let found : hit (blocks_of one.is_new p) p q ≡ true =
    ap (λ (bs : List AtomValue). hit bs p q) (sym one.own_blocks ∙ ap (λ bs. map (λ a. atom_value a.now) bs) (sym c.deref.ensures.value)) ∙ (sym c.hits.ensures ∙ c.if-hits.true) in
    c.if-hits.true ∙ (ap (λ (b : Bool). b || same_version p q) (sym found) ∙ conflicts_are p q one.is_new)

pub returns-else-hits : goal.returns-else-hits
returns-else-hits c =
    let one = c.args.one.now in
    let p = one.owner.now in
    let q = c.args.other.now in
    let none : hit (blocks_of one.is_new p) p q ≡ false =
    ap (λ (bs : List AtomValue). hit bs p q) (sym one.own_blocks ∙ ap (λ bs. map (λ a. atom_value a.now) bs) (sym c.deref.ensures.value)) ∙ (sym c.hits.ensures ∙ c.if-hits.false) in
    let same : c.is_same.result ≡ same_version p q =
    c.is_same.ensures ∙ (ap (λ (t : List ℕ). bytes_eq t c.args.text.now) (c.as_str.ensures.value ∙ one.own_text) ∙ ap (bytes_eq (id_text p.facts.id)) c.requires) in
    same ∙ (ap (λ (b : Bool). b || same_version p q) (sym none) ∙ conflicts_are p q one.is_new)
