use Rattle.std.proofs.Common.{◌<◌, arith, length, sym}
use Rattle.choice_tree.specs.Open.{is_open_of, obligation_of}
use Rattle.choice_tree.specs.Seen.{places_of}
use Rattle.choice_walk.proofs.Found.{first_at, first_none}
use Rattle.choice_walk.proofs.Unsettled.{settled_more}
use Rattle.choice_walk.proofs.taking_up.first_of_packages.Goals as goal

pub returns-then-line-around-clause-found : goal.returns-then-line-around-clause-found
returns-then-line-around-clause-found c =
    let ps = c.args.around.now.places.now in
    let past = c.if-line-around.true in
    first_none (is_open_of (places_of ps)) (length ps) (λ k less. c.loop-line.invariant.each k less (c.in-Some.ensures.first k (omega (arith, less, past))))

pub returns-in-Some-first_of_line-clause-found : goal.returns-in-Some-first_of_line-clause-found
returns-in-Some-first_of_line-clause-found c =
    let ps = c.args.around.now.places.now in
    let test = c.if-line-around.false in
    let within : c.in-Some.line < length ps = omega (arith, test) in
    first_at (is_open_of (places_of ps)) (length ps) c.in-Some.line (obligation_of c.in-Some-first_of_line.found) within
    (λ k less. c.loop-line.invariant.each k (omega (arith, less, within)) (c.in-Some.ensures.first k less)) c.in-Some-first_of_line.ensures

pub loop-line-preserved : goal.loop-line-preserved
loop-line-preserved c =
    settled_more c.args.around.now.places.now c.in-Some.line c.loop-line.unsettled c.remove.new.self c.loop-line.invariant c.remove.ensures.updates.0 (sym c.in_default-first_of_line.ensures)

pub returns-clause-found : goal.returns-clause-found
returns-clause-found c =
    let ps = c.args.around.now.places.now in
    first_none (is_open_of (places_of ps)) (length ps) (λ k less. c.loop-line.invariant.each k less (c.in_default.ensures.none k))
