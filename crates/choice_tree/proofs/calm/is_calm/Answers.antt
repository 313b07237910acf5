use Rattle.std.proofs.Common.{◌∙◌, sym}
use Rattle.std.proofs.lemmas.Bool.{not-true}
use Rattle.choice_tree.proofs.Alone.{calm_line}
use Rattle.choice_tree.proofs.calm.is_calm.Goals as goal

pub returns-else-any_other : goal.returns-else-any_other
returns-else-any_other c calm m less =
    let around = c.args.around.now in
    let s = c.in-Some.standing in
    calm_line around.places.now c.args.line c.index-around-line.result s around.told.now.lists c.as_str-text.result.now c.lines_told.result.now c.deref.result.now
    c.requires c.index-around-line.is c.in-Some.is around.are_told c.lines_told.ensures c.as_str-text.ensures.value c.deref.ensures.value
    (sym c.any_other.ensures ∙ c.if-any_other.false) (sym c.hits_any.ensures ∙ not-true c.hits_any.result calm) m less
