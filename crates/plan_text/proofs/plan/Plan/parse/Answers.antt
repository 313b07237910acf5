use Rattle.std.proofs.Common.{◌∙◌, ap, refl, sym}
use Rattle.basics.proofs.Texts.{some_bytes}
use Rattle.plan_text.specs.Drafts.{all_groups, current_group, whole_groups}
use Rattle.plan_text.specs.Standing.{may_end}
use Rattle.plan_text.proofs.Reached.{found_if, is_memory, no_bytes, only_if, some_pieces, stopped_at, stopped_last, tells_all, texts}
use Rattle.plan_text.proofs.Whole.{finished, stopped, tail_none, unfinished}
use Rattle.plan_text.proofs.plan.Plan.parse.Goals as goal

pub unreachable-requires : goal.unreachable-requires
unreachable-requires c = some_pieces c.args.text.now (sym c.in_ok-pieces.ensures ∙ ap texts (sym c.deref.ensures.value) ∙ c.in_default.ensures)

pub returns-then-not-is_empty-clause-only : goal.returns-then-not-is_empty-clause-only
returns-then-not-is_empty-clause-only c = λ p is e.
    absurd (tail_none c.args.text.now (texts c.in-Some.lines.now) c.in-Some.tail.now (sym c.in_ok-pieces.ensures ∙ ap texts (sym c.deref.ensures.value) ∙ c.in-Some.ensures)
    (some_bytes c.in-Some.tail.now c.is_empty.result c.is_empty.ensures c.if-not-is_empty.true) p is e)

pub returns-in-Err-clause-only : goal.returns-in-Err-clause-only
returns-in-Err-clause-only c = λ p is e.
    is_memory c.in-Err.fault (λ known.
    (let s = c.in-Err.ensures.fault known in
    stopped c.args.text.now (texts c.in-Some.lines.now) c.in-Some.tail.now s.0 s.1 s.2 s.3 (sym c.in_ok-pieces.ensures ∙ ap texts (sym c.deref.ensures.value) ∙ c.in-Some.ensures) s.4 p is e))

pub returns-then-not-may_end-clause-only : goal.returns-then-not-may_end-clause-only
returns-then-not-may_end-clause-only c = λ p is e.
    (let r = c.in-Ok.ensures.found in
    absurd (unfinished c.args.text.now (texts c.in-Some.lines.now) c.in-Some.tail.now _ r.stands (whole_groups c.in-Ok.read.draft) (current_group c.in-Ok.read.draft) (sym c.in_ok-pieces.ensures ∙ ap texts (sym c.deref.ensures.value) ∙ c.in-Some.ensures) r.to
    (ap may_end r.place ∙ sym c.may_end.ensures ∙ c.if-not-may_end.true) p is e))

pub returns-clause-found : goal.returns-clause-found
returns-clause-found c =
    let r = c.in-Ok.ensures.found in
    found_if c.args.text.now (all_groups (whole_groups c.in-Ok.read.draft) (current_group c.in-Ok.read.draft)) c.finish.result c.finish.ensures.groups
    (finished c.args.text.now (texts c.in-Some.lines.now) c.in-Some.tail.now _ r.stands (whole_groups c.in-Ok.read.draft) (all_groups (whole_groups c.in-Ok.read.draft) (current_group c.in-Ok.read.draft)) (current_group c.in-Ok.read.draft) (sym c.in_ok-pieces.ensures ∙ ap texts (sym c.deref.ensures.value) ∙ c.in-Some.ensures)
    (no_bytes c.in-Some.tail.now c.is_empty.result c.is_empty.ensures c.if-not-is_empty.false) r.to (ap may_end r.place ∙ sym c.may_end.ensures ∙ c.if-not-may_end.false) refl)

pub returns-clause-only : goal.returns-clause-only
returns-clause-only c =
    let r = c.in-Ok.ensures.found in
    only_if c.args.text.now (all_groups (whole_groups c.in-Ok.read.draft) (current_group c.in-Ok.read.draft)) c.finish.result c.finish.ensures.groups c.finish.ensures.err
    (finished c.args.text.now (texts c.in-Some.lines.now) c.in-Some.tail.now _ r.stands (whole_groups c.in-Ok.read.draft) (all_groups (whole_groups c.in-Ok.read.draft) (current_group c.in-Ok.read.draft)) (current_group c.in-Ok.read.draft) (sym c.in_ok-pieces.ensures ∙ ap texts (sym c.deref.ensures.value) ∙ c.in-Some.ensures)
    (no_bytes c.in-Some.tail.now c.is_empty.result c.is_empty.ensures c.if-not-is_empty.false) r.to (ap may_end r.place ∙ sym c.may_end.ensures ∙ c.if-not-may_end.false) refl)

pub returns-in-Err-clause-fault : goal.returns-in-Err-clause-fault
returns-in-Err-clause-fault c = λ known. stopped_at c.args.text.now (texts c.in-Some.lines.now) c.in-Some.tail.now c.in-Err.fault (sym c.in_ok-pieces.ensures ∙ ap texts (sym c.deref.ensures.value) ∙ c.in-Some.ensures) (c.in-Err.ensures.fault known)

pub returns-then-not-is_empty-clause-fault : goal.returns-then-not-is_empty-clause-fault
returns-then-not-is_empty-clause-fault c = λ known.
    (let r = c.in-Ok.ensures.found in
    stopped_last c.args.text.now (texts c.in-Some.lines.now) c.in-Some.tail.now c.fault_at.result r.stands (whole_groups c.in-Ok.read.draft) (current_group c.in-Ok.read.draft) (sym c.in_ok-pieces.ensures ∙ ap texts (sym c.deref.ensures.value) ∙ c.in-Some.ensures) r.to
    (λ none. absurd (some_bytes c.in-Some.tail.now c.is_empty.result c.is_empty.ensures c.if-not-is_empty.true none)) (tells_all c.in-Some.lines.now c.in-Ok.read.groups r.stands.groups c.fault_at.result r.groups c.fault_at.ensures))

pub returns-then-not-may_end-clause-fault : goal.returns-then-not-may_end-clause-fault
returns-then-not-may_end-clause-fault c = λ known.
    (let r = c.in-Ok.ensures.found in
    stopped_last c.args.text.now (texts c.in-Some.lines.now) c.in-Some.tail.now c.fault_at-then-not-may_end.result r.stands (whole_groups c.in-Ok.read.draft) (current_group c.in-Ok.read.draft) (sym c.in_ok-pieces.ensures ∙ ap texts (sym c.deref.ensures.value) ∙ c.in-Some.ensures) r.to
    (λ none. ap may_end r.place ∙ sym c.may_end.ensures ∙ c.if-not-may_end.true) (tells_all c.in-Some.lines.now c.in-Ok.read.groups r.stands.groups c.fault_at-then-not-may_end.result r.groups c.fault_at-then-not-may_end.ensures))
