use Rattle.std.proofs.Common.{◌∙◌, ap, refl}
use Rattle.profile_lines.specs.Items.{is_signed}
use Rattle.profile_lines.proofs.WordLemmas.{names_packages}
use Rattle.profile_lines.proofs.words.named.Goals as goal

pub returns-clause-found : goal.returns-clause-found
returns-clause-found c = names_packages c.args.first.now c.args.rest.now c.unsigned-word.result.now c.in_ok-atom.atom _ c.unsigned-word.ensures c.in_ok-atom.ensures.found refl (c.is_signed.ensures ∙ ap is_signed c.as_bytes.ensures.value) c.in_ok-text.ensures
