use Rattle.std.proofs.Common.{◌∙◌, List, ℕ, Bor, map, ap, sym}
use Rattle.plan_text.specs.Lines.{head_text}
use Rattle.plan_text.specs.declared.kind.Kind.TheVariants as kinds
use Rattle.plan_text.proofs.Said.{reads_line, reads_line_if}
use Rattle.plan_text.proofs.line.read_line.Goals as goal

pub returns-in-Plan : goal.returns-in-Plan
returns-in-Plan c =
    reads_line c.args.text.now c.in-Some.head.now _ kinds.Plan c.read_plan.result (sym c.in_ok-words.ensures ∙ ap (map {A = Bor (List ℕ)} {B = List ℕ} (λ w. w.now)) (sym c.deref.ensures.value) ∙ c.in-Some.ensures)
    (c.in-Some-of_head.ensures ∙ ap head_text c.in-Plan.is) c.read_plan.ensures

pub returns-in-Group : goal.returns-in-Group
returns-in-Group c =
    reads_line c.args.text.now c.in-Some.head.now _ kinds.Group c.read_group.result (sym c.in_ok-words.ensures ∙ ap (map {A = Bor (List ℕ)} {B = List ℕ} (λ w. w.now)) (sym c.deref.ensures.value) ∙ c.in-Some.ensures)
    (c.in-Some-of_head.ensures ∙ ap head_text c.in-Group.is) c.read_group.ensures

pub returns-in-After : goal.returns-in-After
returns-in-After c =
    reads_line_if c.args.text.now c.in-Some.head.now _ kinds.After c.read_after.result (sym c.in_ok-words.ensures ∙ ap (map {A = Bor (List ℕ)} {B = List ℕ} (λ w. w.now)) (sym c.deref.ensures.value) ∙ c.in-Some.ensures)
    (c.in-Some-of_head.ensures ∙ ap head_text c.in-After.is) c.read_after.ensures

pub returns-in-Remove : goal.returns-in-Remove
returns-in-Remove c =
    reads_line_if c.args.text.now c.in-Some.head.now _ kinds.Remove c.read_remove.result (sym c.in_ok-words.ensures ∙ ap (map {A = Bor (List ℕ)} {B = List ℕ} (λ w. w.now)) (sym c.deref.ensures.value) ∙ c.in-Some.ensures)
    (c.in-Some-of_head.ensures ∙ ap head_text c.in-Remove.is) c.read_remove.ensures

pub returns-in-Add : goal.returns-in-Add
returns-in-Add c =
    reads_line_if c.args.text.now c.in-Some.head.now _ kinds.Add c.read_add.result (sym c.in_ok-words.ensures ∙ ap (map {A = Bor (List ℕ)} {B = List ℕ} (λ w. w.now)) (sym c.deref.ensures.value) ∙ c.in-Some.ensures)
    (c.in-Some-of_head.ensures ∙ ap head_text c.in-Add.is) c.read_add.ensures

pub returns : goal.returns
returns c =
    reads_line_if c.args.text.now c.in-Some.head.now _ kinds.Bind c.read_bound.result (sym c.in_ok-words.ensures ∙ ap (map {A = Bor (List ℕ)} {B = List ℕ} (λ w. w.now)) (sym c.deref.ensures.value) ∙ c.in-Some.ensures)
    (c.in-Some-of_head.ensures ∙ ap head_text c.in-Bind.is) c.read_bound.ensures
