use Rattle.std.proofs.Common.{rules}
use Rattle.std.specs.Prelude.{not}
use Rattle.std.proofs.lemmas.Fn.{filter_same}
use Rattle.profile_stack.specs.Files.{is_taken_back}
use Rattle.profile_stack.proofs.taken.keep_others.Goals as goal

pub returns : goal.returns
returns c = filter_same _ (λ item. not (is_taken_back c.args.lines.now item)) _ (λ x b f' k. search rules) _ _ c.retain.ensures.filtered
