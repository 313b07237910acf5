use Rattle.profile_folders.proofs.Once.{one_walk}
use Rattle.profile_folders.proofs.law.one_walk.Goals as goal

pub returns : goal.returns
returns c = λ m path xs ys e f. one_walk m path xs ys e f
