use Rattle.std.proofs.Common.{◌∙◌, ◌++◌, ◌∷◌, [], List, ap, sym}
use Rattle.std.proofs.lemmas.Result.{on_ok_weaker}
use Rattle.merge_journal.specs.Group.{Group}
use Rattle.merge_group.specs.Working.{group_in}
use Rattle.merge_group.specs.declared.opening.PathChange.TheVariants as changes
use Rattle.merge_group.proofs.Changed.{same_due}
use Rattle.merge_group.proofs.Worked.{works_then}
use Rattle.merge_group.proofs.merging.commit.Goals as goal

pub returns-in_err-change_paths-clause-works : goal.returns-in_err-change_paths-clause-works
returns-in_err-change_paths-clause-works g c = works_then c.args.group c.args.site.now c.open.new.site c.change_paths.new.site c.open.ensures.works c.change_paths.ensures.paths.works

pub returns-in_err-change_paths-2-clause-works : goal.returns-in_err-change_paths-2-clause-works
returns-in_err-change_paths-2-clause-works g c =
    works_then c.args.group c.args.site.now c.change_paths.new.site c.change_paths-2.new.site
    (works_then c.args.group c.args.site.now c.open.new.site c.change_paths.new.site c.open.ensures.works c.change_paths.ensures.paths.works) c.change_paths-2.ensures.paths.works

pub settle-requires-clause-placed : goal.settle-requires-clause-placed
settle-requires-clause-placed g c =
    c.change_paths-2.ensures.paths.others
    ∙ (c.in_ok-change_paths.ensures.all
    ∙ sym (same_due changes.Place c.args.group c.change_paths.new.site c.change_paths-2.new.site c.change_paths-2.ensures.paths.group))

pub returns-clause-works : goal.returns-clause-works
returns-clause-works g c =
    works_then c.args.group c.args.site.now c.change_paths-2.new.site c.settle.new.site
    (works_then c.args.group c.args.site.now c.change_paths.new.site c.change_paths-2.new.site
    (works_then c.args.group c.args.site.now c.open.new.site c.change_paths.new.site c.open.ensures.works c.change_paths.ensures.paths.works) c.change_paths-2.ensures.paths.works) c.settle.ensures.works

pub returns-clause-settled : goal.returns-clause-settled
returns-clause-settled g c =
    let first = c.change_paths.ensures.paths in
    let second = c.change_paths-2.ensures.paths in
    let order = second.order ∙ (first.order ∙ c.open.ensures.order) in
    let group = second.group ∙ (first.group ∙ c.open.ensures.group) in
    on_ok_weaker c.settle.result
    (λ e. e ∙ (ap (λ (l : List Group). l ++ group_in c.change_paths-2.new.site c.args.group ∷ []) order ∙ ap (λ (x : Group). c.args.site.now.keeping.order ++ x ∷ []) group))
    c.settle.ensures.settled
