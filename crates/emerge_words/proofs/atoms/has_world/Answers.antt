use Rattle.std.proofs.Common.{◌∙◌, ℕ, List, Bor}
use Rattle.clap.proofs.WalkLemmas.{list_any-map}
use Rattle.emerge_words.specs.Named.{is_world}
use Rattle.emerge_words.proofs.atoms.has_world.Goals as goal

pub returns : goal.returns
returns c = c.names_world.ensures ∙ list_any-map is_world (λ (s : Bor (List ℕ)). s.now) c.args.words.now
