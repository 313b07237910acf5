use Rattle.std.proofs.Common.{◌∙◌, sym}
use Rattle.vdb_contents.proofs.Said.{a_link, no_link, no_link_path, no_link_target, no_link_time}
use Rattle.vdb_contents.proofs.line.read_link.Goals as goal

pub returns-in_default : goal.returns-in_default
returns-in_default c = no_link c.args.rest.now c.in_default.ensures

pub returns-then-not-is_time : goal.returns-then-not-is_time
returns-then-not-is_time c =
    no_link_time c.args.rest.now c.in-Some.path.now c.in-Some.target.now c.in-Some.time.now c.in-Some.ensures (sym c.is_time.ensures ∙ c.if-not-is_time.true)

pub returns-in_default-2 : goal.returns-in_default-2
returns-in_default-2 c =
    no_link_target c.args.rest.now c.in-Some.path.now c.in-Some.target.now c.in-Some.time.now c.in-Some.ensures (rw c.in_default-2.is at c.in_ok-target.ensures)

pub returns-in_default-3 : goal.returns-in_default-3
returns-in_default-3 c =
    no_link_path c.args.rest.now c.in-Some.path.now c.in-Some.target.now c.in-Some.time.now c.in-Some.ensures (rw c.in_default-3.is at c.in_ok-path.ensures)

pub returns : goal.returns
returns c =
    a_link c.args.rest.now c.in-Some.path.now c.in-Some.target.now c.in-Some.time.now c.in-Some-3.path c.in-Some-2.target c.in-Some.ensures
    (sym c.is_time.ensures ∙ c.if-not-is_time.false) (rw c.in-Some-2.is at c.in_ok-target.ensures) (rw c.in-Some-3.is at c.in_ok-path.ensures)
