use Rattle.std.proofs.Common.{rules}
use Rattle.std.specs.Prelude.{not}
use Rattle.std.proofs.lemmas.Fn.{filter_same}
use Rattle.profile_lines.specs.Stacks.{has_text}
use Rattle.profile_lines.proofs.stack.take_back.Goals as goal

pub returns : goal.returns
returns c = filter_same _ (λ item. not (has_text c.args.text.now item)) _ (λ x b f' k. search rules) _ _ c.retain.ensures.filtered
