use Rattle.std.proofs.Common.{◌≡◌, List, ℕ, false, take}
use Rattle.std.specs.List.{list_any}
use Rattle.visible_rules.specs.Heard.{Remembers}
use Rattle.visible_rules.specs.Keywords.{is_accepted}
use Rattle.visible_rules.proofs.keywords.Keywords.accepts_one.Given as goal

abbrev pub invariant-loop-keyword : goal.invariant-loop-keyword
invariant-loop-keyword l = (words : List (List ℕ)) → Remembers l.said words → list_any (is_accepted l.self.standing words) (take l.keyword-index l.keywords) ≡ false
