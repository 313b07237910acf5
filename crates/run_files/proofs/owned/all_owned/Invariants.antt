use Rattle.std.proofs.Common.{◌≡◌, map, take}
use Rattle.merge_fit.specs.Misfits.{AreGood}
use Rattle.law_package.specs.Records.{owned_of}
use Rattle.run_files.proofs.owned.all_owned.Given as goal

abbrev pub invariant-loop-entry : goal.invariant-loop-entry
invariant-loop-entry l = AreGood l.image → l.owned.items ≡ map owned_of (take l.entry-index l.image)
