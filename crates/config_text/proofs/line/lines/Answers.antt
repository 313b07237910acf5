use Rattle.std.proofs.Common.{◌∙◌, List, ℕ, Bor, ap, map, sym, append-nil, ◌++◌}
use Rattle.std.specs.List.{slice_split}
use Rattle.config_text.specs.Lines.{is_newline}
use Rattle.config_text.proofs.BadBytes.{no_bad_byte}
use Rattle.config_text.proofs.Counting.{all_left, none_left, with_line, without_line}
use Rattle.config_text.proofs.line.lines.Goals.{then-counts+in_ok-new+in_ok-push, else-counts}
use Rattle.config_text.proofs.line.lines.Goals as goal

pub returns-in-Err-clause-only : goal.returns-in-Err-clause-only
returns-in-Err-clause-only c = λ good. absurd (no_bad_byte c.args.bytes.now c.in-Err.line good c.in-Err.ensures.line)

pub loop-at-init : goal.loop-at-init
loop-at-init c =
    let P = c.deref-piece-items.result.now in
    rw c.new-lines.ensures.items (all_left c.args.bytes.now P (ap (map {A = Bor (List ℕ)} {B = List ℕ} (λ x. x.now)) c.deref-piece-items.ensures.value ∙ c.in_ok-pieces.ensures ∙ ap (slice_split is_newline) c.in-Ok.ensures.text))

pub loop-at-preserved : goal.loop-at-preserved
loop-at-preserved c = elim c.if-counts.branch [
  | then-counts+in_ok-new+in_ok-push w ↦
      with_line c.loop-at.lines.items c.if-counts.lines.items _ c.loop-at.at w.line_number.result c.as_bytes.result.now w.in_ok-new.field-0 c.deref-piece-items.result.now _ c.loop-at-test.true c.as_bytes.ensures.value w.if-counts.ensures w.in_ok-new.ensures w.line_number.ensures (ap (λ v. v.items) w.lines-is ∙ w.in_ok-push.ensures.items) c.loop-at.invariant
  | else-counts w ↦
      without_line c.loop-at.lines.items c.if-counts.lines.items _ c.loop-at.at c.as_bytes.result.now c.deref-piece-items.result.now _ c.loop-at-test.true c.as_bytes.ensures.value w.if-counts.ensures (ap (λ v. v.items) w.lines-is) c.loop-at.invariant
]

pub returns-clause-found : goal.returns-clause-found
returns-clause-found c =
    sym (append-nil c.loop-at.lines.items) ∙ ap (λ ls. c.loop-at.lines.items ++ ls) (sym (none_left c.loop-at.at c.deref-piece-items.result.now c.loop-at-test.false)) ∙ c.loop-at.invariant
