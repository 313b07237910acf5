use Rattle.std.proofs.Common.{◌∙◌, None, Some, length, refl, sym}
use Rattle.std.specs.List.{find}
use Rattle.choice_law.specs.Tree.{tree}
use Rattle.choice_tree.specs.Open.{classes, is_open_of}
use Rattle.choice_tree.specs.Seen.{places_of}
use Rattle.choice_walk.proofs.Found.{line_found}
use Rattle.choice_walk.proofs.taking_up.first_of_line.Goals as goal

pub returns-in-Some : goal.returns-in-Some
returns-in-Some c =
    let test = is_open_of (places_of c.args.around.now.places.now) in
    sym (line_found test c.args.line (length c.args.around.now.places.now) (Some c.in-Some.other) (find (λ k. test (tree c.args.line k)) classes)
    (sym c.lacks_flags.ensures ∙ c.if-lacks_flags.false) (sym c.in-Some.is ∙ c.first_conflict.ensures) refl)

pub returns-in-Some-first_unmet : goal.returns-in-Some-first_unmet
returns-in-Some-first_unmet c =
    let test = is_open_of (places_of c.args.around.now.places.now) in
    sym (line_found test c.args.line (length c.args.around.now.places.now) None (Some c.in-Some-first_unmet.class)
    (sym c.lacks_flags.ensures ∙ c.if-lacks_flags.false) (sym c.in_default.is ∙ c.first_conflict.ensures) (sym c.in-Some-first_unmet.is ∙ c.first_unmet.ensures))

pub returns-in-None : goal.returns-in-None
returns-in-None c =
    let test = is_open_of (places_of c.args.around.now.places.now) in
    sym (line_found test c.args.line (length c.args.around.now.places.now) None None
    (sym c.lacks_flags.ensures ∙ c.if-lacks_flags.false) (sym c.in_default.is ∙ c.first_conflict.ensures) (sym c.in-None.is ∙ c.first_unmet.ensures))
