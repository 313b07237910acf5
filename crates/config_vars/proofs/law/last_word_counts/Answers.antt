use Rattle.std.proofs.Common.{[]}
use Rattle.profile_folders.proofs.Standing.{all_distinct, stands_exactly}
use Rattle.config_vars.specs.Values.{since_clear, words_said}
use Rattle.config_vars.proofs.Stacking.{behind_clear, uncleared}
use Rattle.config_vars.proofs.law.last_word_counts.Goals as goal

pub returns-clause-stands : goal.returns-clause-stands
returns-clause-stands c key files word = stands_exactly (since_clear (words_said key files)) word

pub returns-clause-once : goal.returns-clause-once
returns-clause-once c key files = all_distinct (since_clear (words_said key files)) [] tt

pub returns-clause-all : goal.returns-clause-all
returns-clause-all c words none = uncleared [] words none

pub returns-clause-behind : goal.returns-clause-behind
returns-clause-behind c front words none = behind_clear front words none
