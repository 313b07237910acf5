use Rattle.std.proofs.Common.{◌∙◌, sym}
use Rattle.profile_folders.proofs.Members.{any-from_has, has-from_any}
use Rattle.profile_folders.proofs.folders.has.Goals as goal

pub returns : goal.returns
returns c = (λ yes. has-from_any c.args.paths.now c.args.path.now (sym c.contains.ensures.value ∙ yes), λ has. c.contains.ensures.value ∙ any-from_has c.args.paths.now c.args.path.now has)
