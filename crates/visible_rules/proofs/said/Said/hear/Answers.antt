use Rattle.std.proofs.Common.{◌∙◌, sym}
use Rattle.std.proofs.lemmas.Result.{on_ok_weaker}
use Rattle.visible_rules.specs.Heard.{told}
use Rattle.visible_rules.proofs.Hearing.{all_taken, one_added, one_taken}
use Rattle.visible_rules.proofs.said.Said.hear.Goals as goal

pub returns-in-Some : goal.returns-in-Some
returns-in-Some c q = all_taken c.args.word.now c.in-Some.taken.now q (told c.args.self.now q) (told c.take_all.new.self q) c.in-Some.ensures (sym c.is_star.ensures ∙ c.if-is_star.true) (c.take_all.ensures q)

pub returns-in-Some-2 : goal.returns-in-Some-2
returns-in-Some-2 c =
    on_ok_weaker c.say.result
    (λ said q. one_taken c.args.word.now c.in-Some.taken.now q (told c.args.self.now q) (told c.say.new.self q) c.in-Some.ensures (sym c.is_star.ensures ∙ c.if-is_star.false) (said q))
    c.say.ensures

pub returns-in-None : goal.returns-in-None
returns-in-None c =
    on_ok_weaker c.say-in-None.result
    (λ said q. one_added c.args.word.now q (told c.args.self.now q) (told c.say-in-None.new.self q) c.in-None.ensures (said q))
    c.say-in-None.ensures
