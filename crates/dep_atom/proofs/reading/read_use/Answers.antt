use Rattle.std.proofs.Common.{◌∙◌, sym}
use Rattle.dep_atom.proofs.Once.{signs_once, one_sign, use_once, otherwise_once, use_same}
use Rattle.dep_atom.proofs.reading.read_use.Goals as goal

pub returns-then-has_question-clause-only : goal.returns-then-has_question-clause-only
returns-then-has_question-clause-only c =
    λ u is e.
    let signs = signs_once c.args.item.now c.take_end-has_equals.result.0.now c.take_end-has_question.result.0.now c.take_end-has_equals.result.1 c.take_end-has_question.result.1 u is c.take_end-has_equals.ensures.parts c.take_end-has_equals.ensures.none c.take_end-has_question.ensures.parts c.take_end-has_question.ensures.none e in
    absurd (one_sign u.kind (sym signs.1 ∙ c.if-has_equals.true) (sym signs.2 ∙ c.if-has_question.true))

pub returns-in_default-clause-only : goal.returns-in_default-clause-only
returns-in_default-clause-only c =
    λ u is e.
    let signs = signs_once c.args.item.now c.take_end-has_equals.result.0.now c.take_end-has_question.result.0.now c.take_end-has_equals.result.1 c.take_end-has_question.result.1 u is c.take_end-has_equals.ensures.parts c.take_end-has_equals.ensures.none c.take_end-has_question.ensures.parts c.take_end-has_question.ensures.none e in
    let once = use_once c.take_end-has_question.result.0.now c.take_kind-kind.result.1.now c.split_before.result.0.now c.split_before.result.1.now c.take_kind-kind.result.0 c.take_end-has_equals.result.1 c.take_end-has_question.result.1 u is signs c.take_kind-kind.ensures.parts c.take_kind-kind.ensures.kind c.split_before.ensures.parts c.split_before.ensures.lacks c.split_before.ensures.starts in
    absurd (c.in_default.ensures u.otherwise once.2)

pub returns-in-Ok-clause-only : goal.returns-in-Ok-clause-only
returns-in-Ok-clause-only c =
    λ u is e.
    let signs = signs_once c.args.item.now c.take_end-has_equals.result.0.now c.take_end-has_question.result.0.now c.take_end-has_equals.result.1 c.take_end-has_question.result.1 u is c.take_end-has_equals.ensures.parts c.take_end-has_equals.ensures.none c.take_end-has_question.ensures.parts c.take_end-has_question.ensures.none e in
    let once = use_once c.take_end-has_question.result.0.now c.take_kind-kind.result.1.now c.split_before.result.0.now c.split_before.result.1.now c.take_kind-kind.result.0 c.take_end-has_equals.result.1 c.take_end-has_question.result.1 u is signs c.take_kind-kind.ensures.parts c.take_kind-kind.ensures.kind c.split_before.ensures.parts c.split_before.ensures.lacks c.split_before.ensures.starts in
    use_same _ _ _ u (c.in-Ok.ensures.found ∙ once.1) once.0 (otherwise_once _ _ (sym c.in-Some.ensures ∙ once.2))

pub returns-in-Err-clause-only : goal.returns-in-Err-clause-only
returns-in-Err-clause-only c =
    λ u is e.
    let signs = signs_once c.args.item.now c.take_end-has_equals.result.0.now c.take_end-has_question.result.0.now c.take_end-has_equals.result.1 c.take_end-has_question.result.1 u is c.take_end-has_equals.ensures.parts c.take_end-has_equals.ensures.none c.take_end-has_question.ensures.parts c.take_end-has_question.ensures.none e in
    let once = use_once c.take_end-has_question.result.0.now c.take_kind-kind.result.1.now c.split_before.result.0.now c.split_before.result.1.now c.take_kind-kind.result.0 c.take_end-has_equals.result.1 c.take_end-has_question.result.1 u is signs c.take_kind-kind.ensures.parts c.take_kind-kind.ensures.kind c.split_before.ensures.parts c.split_before.ensures.lacks c.split_before.ensures.starts in
    c.in-Err.ensures.only (rw once.1 is)
