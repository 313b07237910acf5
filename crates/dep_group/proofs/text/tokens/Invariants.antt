use Rattle.std.proofs.Common.{map, take}
use Rattle.dep_group.specs.Maps.{token_map}
use Rattle.dep_group.specs.Words.{texts}
use Rattle.dep_group.specs.Views.{spot}
use Rattle.dep_group.specs.Tokens.{AreOnlyTokens}
use Rattle.dep_group.proofs.text.tokens.Given as goal

abbrev pub invariant-loop-word : goal.invariant-loop-word
invariant-loop-word g l = AreOnlyTokens g.N.Node.grammar (texts (map spot (take l.word-index l.words))) (map (token_map g.N.Node.kind g.N.Node.said) l.tokens.items)
