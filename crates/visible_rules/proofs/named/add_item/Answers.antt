use Rattle.std.proofs.lemmas.Result.{on_ok_weaker}
use Rattle.pkg_state.specs.Index.{listed}
use Rattle.visible_rules.proofs.Naming.{put_item}
use Rattle.visible_rules.proofs.named.add_item.Goals as goal

pub returns-in-Some : goal.returns-in-Some
returns-in-Some c =
    on_ok_weaker c.add.result
    (λ put name. put_item c.text.result.now name (listed c.args.named.now.lists name) (listed c.add.new.self.lists name) c.args.item c.in-Some.atom c.in-Some.is c.text.ensures.text (put name))
    c.add.ensures
