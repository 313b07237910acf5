use Rattle.std.proofs.Common.{◌∙◌, Some, ap, sym}
use Rattle.std.specs.Option.{option_map}
use Rattle.dep_atom.specs.Values.{atom_value}
use Rattle.visible_set.proofs.OfferLemmas.{line_more}
use Rattle.visible_set.proofs.rules.add_line.Goals as goal

pub returns-in_ok-push : goal.returns-in_ok-push
returns-in_ok-push c before all = line_more c.args.item.now _ before c.args.lines.now.items _ (record {
  atom = ap (option_map atom_value) c.in-Some.is ∙ ap Some (sym c.in_ok-try_clone.ensures);
  words = c.in_ok-copies.ensures ∙ c.deref.ensures.value;
}) c.in_ok-push.ensures.items all
