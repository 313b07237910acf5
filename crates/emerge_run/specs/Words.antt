-- The words of a run, by what the top call makes of them: what their atoms match is merged, and
-- what else is a command isn't built yet.
use Rattle.std.specs.Prelude.{◌≡◌, ◌≢◌, ⊤, ℕ, false, List}
use Rattle.emerge_words.specs.Requests as words
use Rattle.emerge_words.specs.declared.request.Request.{Request}
use Rattle.emerge_words.specs.declared.request.WordFault.{WordFault}
use Rattle.emerge_words.specs.declared.request.WordFault.TheVariants.{Memory}
use Rattle.emerge_find.specs.Requests.{IsAsked}
use Rattle.emerge_find.specs.declared.asked.Asked.{Asked}
use Rattle.merge_report.specs.declared.status.Part.TheVariants as part
use Rattle.merge_report.specs.declared.status.Status.{Status}
use Rattle.merge_report.specs.declared.status.Status.TheVariants as status

-- the words ask for a merge of what their atoms match, and this of it
pub record IsRequest (texts : List (List ℕ)) (asked : Asked) : Type 0 where
  pub request : Request
  pub read : words.IsRequest texts request
  pub is : IsAsked request asked

-- the words ask for a merge, be it done or only shown
abbrev pub AskForMerge : List (List ℕ) → Type 0
AskForMerge texts = (asked : Asked) × IsRequest texts asked

-- the words ask for a merge that is done
abbrev pub AskToMerge : List (List ℕ) → Type 0
AskToMerge texts = (asked : Asked) × IsRequest texts asked × (asked.pretend ≡ false)

-- the words ask for something else
pub record AskForOther (texts : List (List ℕ)) : Type 0 where
  pub request : Request
  pub read : words.IsRequest texts request
  pub other : (asked : Asked) → ¬ (IsAsked request asked)

-- the words are refused for this, which isn't want of memory
pub record IsUsage (texts : List (List ℕ)) (fault : WordFault) : Type 0 where
  pub refused : words.IsRefusal texts fault
  pub told : fault ≢ Memory

-- how a run ends at its words
abbrev pub EndsAtWords : List (List ℕ) → Status → Type 0
EndsAtWords texts (status.Usage fault) = IsUsage texts fault
EndsAtWords texts (status.NotBuilt part.Command) = AskForOther texts
EndsAtWords texts status.Memory = ⊤
EndsAtWords texts _ = ⊥

-- the words alone make a run end so
abbrev pub IsOfWords : Status → Type 0
IsOfWords (status.Usage fault) = ⊤
IsOfWords (status.NotBuilt part.Command) = ⊤
IsOfWords _ = ⊥
