use Rattle.std.proofs.Common.{refl, sym}
use Rattle.merge_group.proofs.Drove.{opened_count, through_none}
use Rattle.merge_group.proofs.ends.open_run.Goals as goal

pub returns-in-Ok-clause-under_way : goal.returns-in-Ok-clause-under_way
returns-in-Ok-clause-under_way g c =
    let s = c.in-Ok.site in
    let b = c.args.book in
    let groups = c.args.groups.items in
    record {
      through = through_none g.T.Tree.tells (g.T.Tree.story c.args.tree).now.holds s b groups c.in-Ok.ensures.opened c.promise.ensures.leads;
      count = sym (opened_count s b groups c.in-Ok.ensures.opened);
      merged = refl;
      told = refl;
    }
