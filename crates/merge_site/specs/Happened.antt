-- The events of the log, as code tells them.
use Rattle.std.specs.Prelude.{ℕ}
use Rattle.merge_core.specs.Event.{Claim, Event, PutRecord, PutStage}
use Rattle.merge_core.specs.Steps.{event_of}
use Rattle.merge_site.specs.declared.history.What.{What}
use Rattle.merge_site.specs.declared.history.What.TheVariants as whats

abbrev pub event_told : ℕ → What → Event
event_told g (whats.Step step) = event_of g step
event_told g (whats.Stage placement object) = PutStage g placement.value object.value
event_told g (whats.Record removals) = PutRecord g removals.value.items
event_told g whats.Claim = Claim g
