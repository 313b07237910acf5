use Rattle.std.proofs.Common.{◌∙◌, subst, sym}
use Rattle.dep_atom.specs.Values.{atom_value}
use Rattle.choice_tree.specs.Keys.{AreKeyed}
use Rattle.choice_tree.specs.Seen.{places_of}
use Rattle.choice_tree.specs.declared.key.Key.TheVariants.{Own}
use Rattle.choice_tree.proofs.Under.{match_keyed}
use Rattle.merge_edges.specs.Found.{alone_in}
use Rattle.merge_edges.proofs.Replaced.{alone_offers}
use Rattle.merge_edges.proofs.alone.AlonePresent.some_match.Goals as goal

pub returns : goal.returns
returns c =
    let x = c.args.self.now in
    let os = places_of x.before.now.places.now in
    let ss = places_of x.after.now.places.now in
    let keyed = subst (λ offers. AreKeyed Own offers x.before.now.named.now.lists) (sym (alone_offers os ss x.same_offers x.line)) x.before.now.are_named in
    c.any_hit.ensures
    ∙ match_keyed (alone_in os ss x.line) x.before.now.named.now.lists (atom_value c.args.atom.now) c.args.asker.now c.text.result.now c.lines_named-lines.result.now keyed c.text.ensures.text c.lines_named-lines.ensures
