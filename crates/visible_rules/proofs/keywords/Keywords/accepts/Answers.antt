use Rattle.std.proofs.Common.{subst}
use Rattle.visible_rules.specs.Heard.{Remembers}
use Rattle.visible_rules.specs.Keywords.{KeywordRules, words_for}
use Rattle.visible_rules.proofs.Naming.{heard_under}
use Rattle.visible_rules.proofs.keywords.Keywords.accepts.Goals as goal

pub returns : goal.returns
returns c =
    c.accepts_any.ensures (words_for c.args.self.now c.args.facts.now)
    (subst (λ (k : KeywordRules). Remembers c.in_ok-said.said (words_for k c.args.facts.now)) c.self.view_is
    (heard_under c.in_ok-said.said c.self.inside.bare.now c.self.inside.lines.now c.self.inside.named.lists c.args.facts.now c.self.invariant.1 c.in_ok-said.ensures))
