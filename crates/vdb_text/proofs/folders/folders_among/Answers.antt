use Rattle.vdb_law.specs.Database.{IsCounted}
use Rattle.vdb_text.specs.Folders.{IsInFolder}
use Rattle.vdb_text.proofs.Listed.{none_more, one_more}
use Rattle.vdb_text.proofs.folders.folders_among.Goals as goal

pub loop-path-preserved-in_default : goal.loop-path-preserved-in_default
loop-path-preserved-in_default c =
    let none : ¬ IsCounted c.path-item.result = c.in_default.ensures in
    none_more c.args.listed.now c.loop-path.path-index c.path-item.result c.loop-path-test.true c.path-item.is none c.loop-path.folders.keys c.loop-path.invariant

pub loop-path-preserved : goal.loop-path-preserved
loop-path-preserved c =
    let category = c.in-Some.category.now in
    let pf = c.in-Some.pf.now in
    let in-folder : IsInFolder category pf c.path-item.result = c.in-Some.ensures in
    one_more c.args.listed.now c.loop-path.path-index c.path-item.result c.loop-path-test.true c.path-item.is category pf c.in_ok-text_of.field-0 in-folder c.in_ok-text_of.ensures c.loop-path.folders.keys c.insert.new.self.keys c.in_ok-insert.ensures.keys c.loop-path.invariant
