use Rattle.std.proofs.Common.{◌≡◌, ◌∙◌, ◌++◌, ◌∷◌, [], List, ap, true, false, ℕ}
use Rattle.owner_book.proofs.Order.{folder}
use Rattle.vdb_overlap.proofs.Below.{first_under, none_left, none_under, same_below}
use Rattle.vdb_overlap.proofs.index.first_below.Goals as goal
use Rattle.vdb_overlap.proofs.index.first_below.Goals.{in_default-via-in-Some+else-is_below, in_default-via-in_default}

pub returns-in-Some : goal.returns-in-Some
returns-in-Some c =
    let begins : ◌≡◌ {A = List ℕ} c.from_string-start.result (folder c.args.text.now) = c.from_string-start.ensures ∙ (c.in_ok-format.ensures.ok ∙ ap (λ (t : List ℕ). t ++ (47 ∷ [])) c.as_str-text.ensures) in
    first_under c.args.texts.now c.from_string-start.result c.range.result (c.range.ensures.in_range tt) c.args.text.now begins c.in-Some.next.now c.next.new.self c.in-Some.ensures.steps
    (same_below c.args.text.now c.in-Some.next.now c.as_str-text.result.now c.as_str.result.now c.is_below.result true c.as_str-text.ensures c.as_str.ensures c.is_below.ensures c.if-is_below.true)

pub returns-in_default : goal.returns-in_default
returns-in_default c =
    let begins : ◌≡◌ {A = List ℕ} c.from_string-start.result (folder c.args.text.now) = c.from_string-start.ensures ∙ (c.in_ok-format.ensures.ok ∙ ap (λ (t : List ℕ). t ++ (47 ∷ [])) c.as_str-text.ensures) in
    elim c.in_default.branch [
      | in_default-via-in-Some+else-is_below w ↦ none_under c.args.texts.now c.from_string-start.result c.range.result (c.range.ensures.in_range tt) c.args.text.now begins w.in-Some.next.now c.next.new.self w.in-Some.ensures.steps
          (same_below c.args.text.now w.in-Some.next.now c.as_str-text.result.now w.as_str.result.now w.is_below.result false c.as_str-text.ensures w.as_str.ensures w.is_below.ensures w.if-is_below.false)
      | in_default-via-in_default w ↦ none_left c.args.texts.now c.from_string-start.result c.range.result (c.range.ensures.in_range tt) c.args.text.now begins w.in_default.ensures.steps.0
    ]
