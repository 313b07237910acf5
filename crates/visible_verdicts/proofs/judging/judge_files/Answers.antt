use Rattle.std.proofs.Common.{◌∙◌, ap, sym}
use Rattle.std.specs.Option.{option_copied}
use Rattle.visible_verdicts.proofs.Reasons.{kept, not_visible, refused}
use Rattle.visible_verdicts.proofs.judging.judge_files.Goals as goal

pub returns-in-Err-clause-reason : goal.returns-in-Err-clause-reason
returns-in-Err-clause-reason c =
    refused c.args.rules.now c.args.id c.args.entry.now (option_copied c.args.ebuild) c.in-Some.ebuild.now c.in-Err.fault c.refusal_of.result (ap option_copied c.in-Some.is) c.in-Err.ensures.fault c.refusal_of.ensures

pub returns-in-Some-2-clause-only : goal.returns-in-Some-2-clause-only
returns-in-Some-2-clause-only c e visible =
    absurd (not_visible c.args.rules.now c.args.id c.args.entry.now (option_copied c.args.ebuild) c.in-Ok.entry e c.in-Some-2.reason c.one_slot_value.ensures.one c.in-Ok.ensures.found (sym c.in_ok-kept_back.ensures ∙ c.in-Some-2.is) visible)

pub returns-in-Some-2-clause-reason : goal.returns-in-Some-2-clause-reason
returns-in-Some-2-clause-reason c =
    kept c.args.rules.now c.args.id c.args.entry.now (option_copied c.args.ebuild) c.in-Ok.entry c.in-Some-2.reason
    (record { text = c.in-Some.ebuild.now; there = ap option_copied c.in-Some.is; entry = c.in-Ok.ensures.form; tells = c.in-Ok.ensures.found })
    (sym c.in_ok-kept_back.ensures ∙ c.in-Some-2.is)
