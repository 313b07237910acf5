use Rattle.std.proofs.Common.{lit<}
use Rattle.std.proofs.lemmas.Str.Pattern.{strip_prefix_char}
use Rattle.profile_folders.proofs.Standing.{taken}
use Rattle.profile_folders.proofs.stack.taken_back.Goals as goal

pub returns : goal.returns
returns c = taken c.args.text.now c.strip_prefix.result (strip_prefix_char 45 c.args.text.now c.strip_prefix.result c.strip_prefix.ensures.cases (lit< tt))
