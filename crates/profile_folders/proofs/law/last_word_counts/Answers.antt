use Rattle.std.proofs.Common.{[]}
use Rattle.profile_folders.proofs.Standing.{all_distinct, stands_exactly}
use Rattle.profile_folders.proofs.law.last_word_counts.Goals as goal

pub returns-clause-stands : goal.returns-clause-stands
returns-clause-stands c texts item = stands_exactly texts item

pub returns-clause-once : goal.returns-clause-once
returns-clause-once c texts = all_distinct texts [] tt
