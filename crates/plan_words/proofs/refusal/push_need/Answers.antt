use Rattle.std.proofs.Common.{◌∷◌, [], string_bytes}
use Rattle.std.specs.Prelude.{decimal}
use Rattle.std.specs.Option.{option_map}
use Rattle.std.proofs.lemmas.Result.{on_ok_weaker}
use Rattle.dep_atom.specs.Ids.{id_text}
use Rattle.dep_atom.specs.Values.{atom_value}
use Rattle.pkg_state.specs.Package.{class_word}
use Rattle.plan_words.specs.Words.{leaf_word}
use Rattle.plan_words.proofs.Joined.{more_words}
use Rattle.plan_words.proofs.refusal.push_need.Goals as goal

pub returns : goal.returns
returns c =
    on_ok_weaker c.push_of_class.result
    (more_words (string_bytes c.args.out.now) (string_bytes c.push_of_group.new.out) (string_bytes c.push_of_class.new.out) (c.args.rule.now ∷ decimal c.args.group ∷ id_text c.args.id.now ∷ [])
    (class_word c.args.class ∷ leaf_word (option_map atom_value c.args.leaf.now) ∷ []) c.in_ok-push_of_group.ensures)
    c.push_of_class.ensures
