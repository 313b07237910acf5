use Rattle.std.proofs.Common.{◌∙◌, ◌++◌, List, ℕ, ap, inl, length, refl, sym}
use Rattle.emerge_run.proofs.Lines.{all_of_it}
use Rattle.emerge_run.proofs.showing.show_plan.Goals as goal

pub returns-in-Ok-clause-written : goal.returns-in-Ok-clause-written
returns-in-Ok-clause-written g c t =
    let text = c.args.text.now in
    (text, ((length text, sym (all_of_it text)), (λ of. refl), inl refl), c.in-Ok.ensures.ok t ∙ ap (λ (l : List ℕ). g.S.Sink.written c.args.out.now ++ l) c.as_bytes.ensures.value)
