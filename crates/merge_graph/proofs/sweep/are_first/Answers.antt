use Rattle.std.proofs.Common.{◌≡◌, ◌∙◌, [], List, ℕ, ap, get_or, map, subst, sym}
use Rattle.basics.specs.Members.{Has}
use Rattle.merge_graph.specs.Rows.{places_of}
use Rattle.merge_graph.proofs.Sweeping.{swept_more}
use Rattle.merge_graph.proofs.sweep.are_first.Goals as goal

pub loop-number-preserved : goal.loop-number-preserved
loop-number-preserved c =
    let at = c.loop-number.number in
    let opened = c.args.opened.now in
    let row : c.row_at.result.now ≡ places_of opened at =
    c.row_at.ensures ∙ (ap (λ rows. get_or (map (λ r. r.items) rows) at []) c.deref.ensures.value ∙ c.in_ok-coming.ensures.row at c.loop-number-test.true) in
    swept_more c.args.firsts.now opened at c.loop-number.ready c.add_all.new.ready c.takes_first.new.ready c.requires.all c.requires.apart c.loop-number-test.true c.loop-number.invariant
    c.add_all.ensures.kept
    (λ k has. c.in_ok-add_all.ensures.come k (subst (λ (l : List ℕ). Has l k) (sym row) has))
    (c.takes_first.ensures.least c.if-not-takes_first.false)
    (c.takes_first.ensures.others c.if-not-takes_first.false)
