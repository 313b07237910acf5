use Rattle.std.proofs.Common.{rules, ◌≡◌, ◌∙◌, ◌++◌, ◌∷◌, [], ap, arith}
use Rattle.dep_atom.proofs.Opened.{opened_text-step, opened_first, opened_last, use_forms-more, length-more, left_first, left_more, closing, closing_starts, opened, continued}
use Rattle.dep_atom.proofs.Blame.{no_end, end_unmet}
use Rattle.dep_atom.proofs.reading.read_uses.Goals as goal

pub returns-in-Err-clause-only : goal.returns-in-Err-clause-only
returns-in-Err-clause-only c =
    λ us forms e.
    let next = opened us c.in-Some.first.now c.args.text.now forms c.in-Some.ensures e in
    c.in-Err.ensures.only next.item (closing next.others) next.form (closing_starts next.others) next.spelled

pub loop-more-init : goal.loop-more-init
loop-more-init c =
    let items : c.push.new.self.items ≡ c.in-Ok.first.0 ∷ [] = c.in_ok-push.ensures.items ∙ ap (λ l. l ++ (c.in-Ok.first.0 ∷ [])) c.new-uses.ensures.items in
    record {
      some = rw items (omega arith);
      found = rw items (opened_first c.in-Ok.first.0 c.args.text.now c.in-Some.first.now c.in-Ok.first.1.now c.in-Some.ensures c.in-Ok.ensures.found);
      form = rw items (c.in-Ok.ensures.form, tt);
      starts = c.in-Ok.ensures.starts;
      only = λ us forms e.
          let next = opened us c.in-Some.first.now c.args.text.now forms c.in-Some.ensures e in
          left_first us c.in-Some.first.now c.push.new.self.items c.in-Ok.first.1.now c.in-Ok.first.0 next items (c.in-Ok.ensures.only next.item (closing next.others) next.form (closing_starts next.others) next.spelled);
    }

pub loop-more-preserved : goal.loop-more-preserved
loop-more-preserved c =
    let more : c.push-in-Some-take_byte.new.self.items ≡ c.loop-more.uses.items ++ (c.in-Ok-read_first_use.first.0 ∷ []) = c.in_ok-push-2.ensures.items in
    record {
      some = rw more (length-more c.loop-more.uses.items c.in-Ok-read_first_use.first.0);
      found = rw more (opened_text-step c.loop-more.uses.items c.in-Ok-read_first_use.first.0 c.args.text.now c.loop-more.rest.now c.in-Some-take_byte.more.now c.in-Ok-read_first_use.first.1.now c.loop-more.invariant.some c.loop-more.invariant.found c.in-Some-take_byte.ensures c.in-Ok-read_first_use.ensures.found);
      form = rw more (use_forms-more c.loop-more.uses.items c.in-Ok-read_first_use.first.0 c.loop-more.invariant.form c.in-Ok-read_first_use.ensures.form);
      starts = c.in-Ok-read_first_use.ensures.starts;
      only = λ us forms e.
          let left = c.loop-more.invariant.only us forms e in
          let next = continued left.left c.loop-more.rest.now c.in-Some-take_byte.more.now left.forms left.spelled c.in-Some-take_byte.ensures in
          left_more us c.loop-more.uses.items c.push-in-Some-take_byte.new.self.items c.loop-more.rest.now c.in-Some-take_byte.more.now c.in-Ok-read_first_use.first.1.now c.in-Ok-read_first_use.first.0 left next more (c.in-Ok-read_first_use.ensures.only next.item (closing next.others) next.form (closing_starts next.others) next.spelled);
    }

pub returns-then-is_empty-2-clause-found : goal.returns-then-is_empty-2-clause-found
returns-then-is_empty-2-clause-found c = opened_last c.loop-more.uses.items c.args.text.now c.loop-more.rest.now c.in-Some-take_byte-2.end.now c.loop-more.invariant.some c.loop-more.invariant.found c.in-Some-take_byte-2.ensures (search rules)

pub returns-in-Err-read_first_use-clause-only : goal.returns-in-Err-read_first_use-clause-only
returns-in-Err-read_first_use-clause-only c =
    λ us forms e.
    let left = c.loop-more.invariant.only us forms e in
    let next = continued left.left c.loop-more.rest.now c.in-Some-take_byte.more.now left.forms left.spelled c.in-Some-take_byte.ensures in
    c.in-Err-read_first_use.ensures.only next.item (closing next.others) next.form (closing_starts next.others) next.spelled

pub returns-in_default-take_byte-2-clause-fault : goal.returns-in_default-take_byte-2-clause-fault
returns-in_default-take_byte-2-clause-fault c =
    λ starts.
    end_unmet c.args.total c.saturating_sub-at.result c.args.text.now c.loop-more.rest.now c.loop-more.uses.items c.loop-more.invariant.form c.loop-more.invariant.some c.loop-more.invariant.found c.saturating_sub-at.ensures (no_end c.loop-more.rest.now c.loop-more.invariant.starts c.in_default-take_byte.ensures c.in_default-take_byte-2.ensures)
