-- Which requests ask for a plan of what may come, and what they ask.
use Rattle.std.specs.Prelude.{◌≡◌, Bool, false}
use Rattle.emerge_words.specs.declared.request.Command.{Command}
use Rattle.emerge_words.specs.declared.request.Command.TheVariants.{Load, Merge, PlanFile, Unmerge}
use Rattle.emerge_words.specs.declared.request.Request.{Request}
use Rattle.emerge_find.specs.declared.asked.Aim.TheVariants as aims
use Rattle.emerge_find.specs.declared.asked.Asked.{Asked}

-- the command merges what its atoms match, without a repair, or does the plan of a file, or
-- unmerges what its atoms match, and asks this
abbrev pub IsOfMerge : Command → Bool → Asked → Type 0
IsOfMerge (Merge atoms world update repair backtrack flips) pretend asked =
    (repair ≡ false) × (asked ≡ record {
      aim = aims.Atoms atoms world update backtrack flips;
      pretend = pretend;
    })
IsOfMerge (PlanFile path) pretend asked = asked ≡ record { aim = aims.File path; pretend = pretend }
IsOfMerge (Unmerge atoms) pretend asked =
    asked ≡ record { aim = aims.Unmerge atoms; pretend = pretend }
IsOfMerge (Load n) pretend asked = ⊥

-- the request is such a command, and asks this
abbrev pub IsAsked : Request → Asked → Type 0
IsAsked r asked = IsOfMerge r.command r.pretend asked
