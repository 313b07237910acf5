use Rattle.std.proofs.Common.{◌∙◌, inr}
use Rattle.profile_folders.specs.Parents.{LeadsTo}
use Rattle.profile_folders.proofs.Followed.{none_of, nowhere_at, some_of, zip_more}
use Rattle.profile_folders.proofs.parents.parents_in.Goals as goal

pub returns-in-None-clause-fault : goal.returns-in-None-clause-fault
returns-in-None-clause-fault c = inr (c.in_ok-try_clone-in-None.ensures ∙ c.requires.file, inr (nowhere_at c.args.folder.now c.args.bytes.now c.deref-line-items.result.now c.loop-line.line-index c.line-item.result c.loop-line.parents.items (c.deref-line-items.ensures.value ∙ c.in-Ok.ensures.found) c.in-Ok.ensures.utf8 c.loop-line-test.true c.line-item.is c.loop-line.invariant (none_of c.in_ok-parent.field-0 _ _ c.in-None.is c.in_ok-parent.ensures)))

pub loop-line-preserved : goal.loop-line-preserved
loop-line-preserved c = zip_more (LeadsTo c.args.folder.now) c.deref-line-items.result.now c.loop-line.line-index c.line-item.result c.loop-line.parents.items c.push.new.self.items c.in-Some.parent c.loop-line-test.true c.line-item.is c.loop-line.invariant (some_of c.in_ok-parent.field-0 _ _ c.in-Some.parent c.in-Some.is c.in_ok-parent.ensures) c.in_ok-push-in-Some.ensures.items
