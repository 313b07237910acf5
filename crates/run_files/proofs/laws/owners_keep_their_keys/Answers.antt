use Rattle.run_files.proofs.PlaceLemmas.{owners_stay}
use Rattle.run_files.proofs.laws.owners_keep_their_keys.Goals as goal

pub returns : goal.returns
returns c = owners_stay
