use Rattle.std.proofs.Common.{◌∙◌, ap, inl, inr}
use Rattle.profile_folders.proofs.Followed.{zip_more}
use Rattle.profile_lines.specs.Faults.{fault_at}
use Rattle.profile_lines.specs.Items.{IsEntry}
use Rattle.profile_lines.proofs.Lines.{first_bad, in_form_or_not}
use Rattle.profile_lines.proofs.entries.read_entries.Goals as goal

pub loop-line-preserved : goal.loop-line-preserved
loop-line-preserved c = zip_more (IsEntry c.args.form) c.args.lines.now c.loop-line.line-index c.line-item.result c.loop-line.entries.items c.push.new.self.items c.in-Ok.entry c.loop-line-test.true c.line-item.is c.loop-line.invariant c.in-Ok.ensures.found c.in_ok-push-in-Ok.ensures.items

pub returns-in-Err-clause-only : goal.returns-in-Err-clause-only
returns-in-Err-clause-only c those are = elim c.in-Err.ensures.fault [
  | inl memory ↦ c.in_ok-located-in-Err.ensures ∙ ap (fault_at c.line-item.result) memory
  | inr bad ↦ absurd (in_form_or_not c.args.form c.args.lines.now those c.in_ok-located-in-Err.field-0 are (first_bad c.args.form c.args.lines.now c.loop-line.line-index c.line-item.result c.loop-line.entries.items c.loop-line-test.true c.line-item.is c.loop-line.invariant c.in-Err.fault bad c.in_ok-located-in-Err.field-0 c.in_ok-located-in-Err.ensures))
]

pub returns-in-Err-clause-fault : goal.returns-in-Err-clause-fault
returns-in-Err-clause-fault c = elim c.in-Err.ensures.fault [
  | inl memory ↦ inl (c.in_ok-located-in-Err.ensures ∙ ap (fault_at c.line-item.result) memory)
  | inr bad ↦ inr (first_bad c.args.form c.args.lines.now c.loop-line.line-index c.line-item.result c.loop-line.entries.items c.loop-line-test.true c.line-item.is c.loop-line.invariant c.in-Err.fault bad c.in_ok-located-in-Err.field-0 c.in_ok-located-in-Err.ensures)
]
