use Rattle.std.proofs.Common.{◌∙◌, ap, sym, refl, Some}
use Rattle.pms_grammar.specs.Grammar.{spelling}
use Rattle.dep_atom.specs.Text.{name_text}
use Rattle.dep_atom.proofs.Blame.{unstarred, starred}
use Rattle.dep_atom.proofs.Named.{joined_once, name_is}
use Rattle.dep_atom.proofs.Once.{version_once, package_same, star_refused}
use Rattle.dep_atom.proofs.reading.read_versioned.Goals as goal

pub returns-in-Ok-None-clause-only : goal.returns-in-Ok-None-clause-only
returns-in-Ok-None-clause-only c =
    λ p is e.
    let once = version_once c.args.text.now c.take_end-star.result.0.now c.take_end-star.result.1 p.name p.version p.star is.named is.readable c.take_end-star.ensures.parts c.take_end-star.ensures.none e in
    let none = rw c.in-Ok-None.field-0-is at c.in-Ok-None.ensures in
    absurd (none (p.name, spelling once.0, is.named, (once.0, once.2, refl), once.3))

pub returns-in-Ok-None-clause-fault : goal.returns-in-Ok-None-clause-fault
returns-in-Ok-None-clause-fault c =
    record {
      front = c.take_end-star.result.0.now;
      star = c.take_end-star.result.1;
      unstarred = unstarred c.args.text.now c.take_end-star.result.0.now c.take_end-star.result.1 c.take_end-star.ensures.parts c.take_end-star.ensures.none;
      why = starred c.args.may_star c.take_end-star.result.0.now c.take_end-star.result.1 c.versioned_fault.result c.versioned_fault.ensures;
    }

pub returns-then-not-may_star-clause-only : goal.returns-then-not-may_star-clause-only
returns-then-not-may_star-clause-only c =
    λ p is e.
    let once = version_once c.args.text.now c.take_end-star.result.0.now c.take_end-star.result.1 p.name p.version p.star is.named is.readable c.take_end-star.ensures.parts c.take_end-star.ensures.none e in
    absurd (star_refused p.star c.args.may_star c.take_end-star.result.1 c.if-star.true c.if-not-may_star.true is.starred once.4)

pub returns-clause-only : goal.returns-clause-only
returns-clause-only c =
    λ p is e.
    let once = version_once c.args.text.now c.take_end-star.result.0.now c.take_end-star.result.1 p.name p.version p.star is.named is.readable c.take_end-star.ensures.parts c.take_end-star.ensures.none e in
    let read = rw c.in-Ok-Some.field-0-is at c.in-Ok-Some.ensures in
    let same = joined_once (name_text c.in-Ok-Some.both.0) (name_text p.name) c.in-Ok-Some.both.1 once.0 read.1 once.2 (sym read.2 ∙ once.3) in
    package_same _ _ _ p (name_is c.in-Ok-Some.both.0 p.name read.0 is.named same.0) (ap Some same.1 ∙ sym once.1) once.4
