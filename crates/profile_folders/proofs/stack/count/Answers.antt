use Rattle.std.proofs.Common.{◌∙◌, ap, sym}
use Rattle.profile_folders.specs.Stacks.{with_change}
use Rattle.profile_folders.proofs.Places.{told}
use Rattle.profile_folders.proofs.Standing.{told-insert, told-remove}
use Rattle.profile_folders.proofs.stack.count.Goals as goal

pub returns-in-Some : goal.returns-in-Some
returns-in-Some c = ap told c.shift_remove.ensures.keys ∙ (told-remove c.args.standing.now.keys c.in-Some.item.now ∙ ap (with_change (told c.args.standing.now.keys) c.args.text.now) (sym c.in-Some.ensures))

pub returns-in_ok-insert-in-None : goal.returns-in_ok-insert-in-None
returns-in_ok-insert-in-None c = ap told c.in_ok-insert-in-None.ensures.keys ∙ (told-insert c.args.standing.now.keys c.args.text ∙ ap (with_change (told c.args.standing.now.keys) c.args.text.now) (sym c.in-None.ensures))
