use Rattle.vdb_values.proofs.Alone.{eapi_alone}
use Rattle.vdb_values.proofs.single.read_eapi.Goals as goal

pub returns-in-Some : goal.returns-in-Some
returns-in-Some c = eapi_alone c.args.text.now c.in-Some.word.now c.from_text.result (rw c.in-Some.is at c.in_ok-word.ensures) c.from_text.ensures
