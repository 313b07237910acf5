use Rattle.std.proofs.Common.{true}
use Rattle.config_text.specs.Assignments.{part_value}
use Rattle.config_text.specs.Known.{value_of}
use Rattle.config_text.specs.Values.{IsPart, spell_part}
use Rattle.config_text.proofs.Runs.{double_open, double_run, gives_more, gives_none, nothing_left, part_shorter}
use Rattle.config_text.proofs.value.read_double.Goals as goal

pub loop-rest-init : goal.loop-rest-init
loop-rest-init c = gives_none (IsPart true) spell_part (part_value (value_of c.args.known.now.values)) c.args.text.now c.args.value.now.items

pub returns-in-Some : goal.returns-in-Some
returns-in-Some c = double_run (value_of c.args.known.now.values) c.args.text.now c.loop-rest.rest.now c.in-Some.more.now c.args.value.now.items c.loop-rest.value.items c.loop-rest.invariant c.in-Some.ensures

pub loop-rest-smaller : goal.loop-rest-smaller
loop-rest-smaller c = part_shorter true (value_of c.args.known.now.values) c.loop-rest.rest.now c.in_ok-rest.rest.now c.loop-rest.value.items c.read_part.new.value.items c.in_ok-rest.ensures

pub loop-rest-preserved : goal.loop-rest-preserved
loop-rest-preserved c = gives_more (IsPart true) spell_part (part_value (value_of c.args.known.now.values)) c.args.text.now c.loop-rest.rest.now c.in_ok-rest.rest.now c.args.value.now.items c.loop-rest.value.items c.read_part.new.value.items c.loop-rest.invariant c.in_ok-rest.ensures

pub returns : goal.returns
returns c = double_open (value_of c.args.known.now.values) c.args.text.now c.loop-rest.rest.now c.args.value.now.items c.loop-rest.value.items c.loop-rest.invariant (nothing_left c.loop-rest.rest.now (c.loop-rest-test.ensures))
