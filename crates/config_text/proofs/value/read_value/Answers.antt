use Rattle.config_text.specs.AssignFaults.{IsOpen}
use Rattle.config_text.specs.Assignments.{run_value}
use Rattle.config_text.specs.Known.{value_of}
use Rattle.config_text.specs.Reading.{GivesRun}
use Rattle.config_text.specs.Values.{IsRun, spell_run}
use Rattle.config_text.proofs.Runs.{gives_more, gives_none, none_of, open_value, run_shorter, some_of}
use Rattle.config_text.proofs.value.read_value.Goals as goal

pub loop-value-init : goal.loop-value-init
loop-value-init c = gives_none IsRun spell_run (run_value (value_of c.args.known.now.values)) c.args.text.now c.args.value.now.items

pub loop-value-smaller : goal.loop-value-smaller
loop-value-smaller c =
    run_shorter (value_of c.args.known.now.values) c.loop-value.rest.now c.in-Some.more.now c.loop-value.value.items c.read_run.new.value.items
    (some_of c.in_ok-more.field-0 (IsOpen c.loop-value.rest.now) (λ more. GivesRun (value_of c.args.known.now.values) c.loop-value.rest.now more.now c.loop-value.value.items c.read_run.new.value.items) c.in-Some.more c.in_ok-more.ensures c.in-Some.is)

pub loop-value-preserved : goal.loop-value-preserved
loop-value-preserved c =
    gives_more IsRun spell_run (run_value (value_of c.args.known.now.values)) c.args.text.now c.loop-value.rest.now c.in-Some.more.now c.args.value.now.items c.loop-value.value.items c.read_run.new.value.items c.loop-value.invariant
    (some_of c.in_ok-more.field-0 (IsOpen c.loop-value.rest.now) (λ more. GivesRun (value_of c.args.known.now.values) c.loop-value.rest.now more.now c.loop-value.value.items c.read_run.new.value.items) c.in-Some.more c.in_ok-more.ensures c.in-Some.is)

pub returns-in-None : goal.returns-in-None
returns-in-None c =
    open_value (value_of c.args.known.now.values) c.args.text.now c.loop-value.rest.now c.args.value.now.items c.loop-value.value.items c.loop-value.invariant
    (none_of c.in_ok-more.field-0 (IsOpen c.loop-value.rest.now) (λ more. GivesRun (value_of c.args.known.now.values) c.loop-value.rest.now more.now c.loop-value.value.items c.read_run.new.value.items) c.in_ok-more.ensures c.in-None.is)

pub returns : goal.returns
returns c = (c.loop-value.invariant, c.loop-value-test.ensures)
