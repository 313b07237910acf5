use Rattle.std.proofs.Common.{◌∙◌, ◌++◌, ◌∷◌, [], ap, map, sym}
use Rattle.std.proofs.lemmas.List.{map-append}
use Rattle.std.proofs.lemmas.Result.{err_from_is_err_and}
use Rattle.file_tree.specs.declared.fault.TreeFault.TheVariants as trees
use Rattle.merge_group.specs.Applied.{number}
use Rattle.merge_group.specs.Working.{group_in, is_staged, stood_at}
use Rattle.merge_group.proofs.Rest.{done_shut, ok_if}
use Rattle.merge_group.proofs.Worked.{works_then}
use Rattle.merge_group.specs.Causes.{StopsChanges}
use Rattle.merge_group.specs.Granted.{changes_in}
use Rattle.merge_group.specs.declared.stop.Stop.TheVariants as stops
use Rattle.merge_group.proofs.Caused.{only_err}
use Rattle.merge_group.proofs.running.merge.Goals as goal

pub returns-in_err-build-clause-let_in : goal.returns-in_err-build-clause-let_in
returns-in_err-build-clause-let_in g c t opened = absurd (cc (c.build.ensures.unopened, opened))

pub returns-in_err-commit-clause-works : goal.returns-in_err-commit-clause-works
returns-in_err-commit-clause-works g c = works_then c.args.group c.args.site.now c.build.new.site c.commit.new.site c.build.ensures.works c.commit.ensures.works

pub returns-clause-works : goal.returns-clause-works
returns-clause-works g c =
    works_then c.args.group c.args.site.now c.commit.new.site c.close.new.site (works_then c.args.group c.args.site.now c.build.new.site c.commit.new.site c.build.ensures.works c.commit.ensures.works) c.close.ensures.works

pub returns-in_err-commit-clause-let_in : goal.returns-in_err-commit-clause-let_in
returns-in_err-commit-clause-let_in g c t opened = (c.commit.ensures.group ∙ c.in_ok-build.ensures.group, c.in_ok-build.ensures.let_in t)

pub returns-clause-let_in : goal.returns-clause-let_in
returns-clause-let_in g c t opened = (c.close.ensures.group ∙ (c.commit.ensures.group ∙ c.in_ok-build.ensures.group), c.in_ok-build.ensures.let_in t)

pub returns-clause-history : goal.returns-clause-history
returns-clause-history g c =
    c.add.ensures.items ∙ (ap (λ l. l ++ c.args.group ∷ []) (c.requires.history ∙ ap (map number) (sym c.build.ensures.order))
    ∙ (sym (map-append number c.build.new.site.keeping.order (group_in c.build.new.site c.args.group ∷ [])) ∙ ap (map number) (sym (c.close.ensures.order ∙ c.in_ok-commit.ensures.settled))))

pub returns-clause-shut : goal.returns-clause-shut
returns-clause-shut g c healthy = done_shut c.close.result c.close.new.site c.args.group healthy c.close.ensures.only c.close.ensures.at

pub returns-in_err-commit-clause-cause : goal.returns-in_err-commit-clause-cause
returns-in_err-commit-clause-cause g c =
    let p = err_from_is_err_and c.from_residual-in_err-commit.result c.from_residual-in_err-commit.ensures.1 in
    rw (p.1, p.2, c.in_err-commit.ensures.only) tt

pub returns-clause-cause : goal.returns-clause-cause
returns-clause-cause g c =
    only_err (StopsChanges g.T.Tree.tells (stood_at (g.T.Tree.story c.args.site.now.opened).now.holds c.args.site.now) c.args.site.now.book c.args.site.now.groups (changes_in c.args.removals.items c.args.packages.items) c.args.group) (stops.Tree trees.Failed) tt c.close.result c.close.ensures.only

pub returns-clause-group : goal.returns-clause-group
returns-clause-group g c = ok_if c.close.result (c.close.ensures.group ∙ (c.commit.ensures.group ∙ c.in_ok-build.ensures.group))

pub returns-clause-wishes : goal.returns-clause-wishes
returns-clause-wishes g c =
    let one = c.commit.ensures.works.wishes.mine (ap is_staged c.in_ok-build.ensures.at.phase) in
    let two = c.close.ensures.works.wishes.mine one.0 in
    ok_if c.close.result (two.1 ∙ (one.1 ∙ c.in_ok-build.ensures.wishes))
