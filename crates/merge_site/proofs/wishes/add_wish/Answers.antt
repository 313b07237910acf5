use Rattle.std.proofs.Common.{◌∷◌, ◌++◌, ◌∙◌, [], List, ap}
use Rattle.merge_site.proofs.Judged.{err_then, wish_added, wish_unmade}
use Rattle.merge_site.proofs.wishes.add_wish.Goals as goal

pub returns-in_err-push-clause-err : goal.returns-in_err-push-clause-err
returns-in_err-push-clause-err c =
    err_then c.from_residual-in_err-push.result _ (wish_unmade c.args.wishes.now.items c.args.group c.index_mut-list.result.now c.push.new.self c.requires c.index_mut-list.ensures.value c.in_err-push.ensures.items)

pub returns-clause-ok : goal.returns-clause-ok
returns-clause-ok c =
    wish_added c.args.wishes.now.items c.args.group c.index_mut-list.result.now c.push.new.self (record { path = c.args.path.now; owner = c.args.owner; folder = c.args.folder }) c.requires c.index_mut-list.ensures.value
    (c.in_ok-push.ensures.items ∙ ap (λ (p : List _). c.index_mut-list.result.now.items ++ (record { path = p; owner = c.args.owner; folder = c.args.folder }) ∷ []) c.in_ok-path.ensures)
