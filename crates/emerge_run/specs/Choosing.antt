-- What a run finds before it merges anything: of what is asked for in a recovered tree, and of its
-- words in the tree that it is lent, whatever it answers.
use Rattle.std.specs.Prelude.{◌≡◌, ◌⊎◌, ℕ, Bool, List, [], IfErr, IfOk, IsErrOf, IsTrue, MatchResult}
use Rattle.emerge_words.specs.declared.request.WordFault.{WordFault}
use Rattle.file_tree.specs.Disk.{CountsFault, Map}
use Rattle.file_tree.specs.declared.limits.Quantity.{Quantity}
use Rattle.file_tree.specs.declared.traits.Tree.{Ghosts as Tree}
use Rattle.vdb_law.specs.Packages.{Installed}
use Rattle.run_opening.specs.Faults.{HasTooMuch}
use Rattle.emerge_find.specs.declared.asked.Asked.{Asked}
use Rattle.emerge_run.specs.Answers.{IsRefused}
use Rattle.emerge_run.specs.Openings.{AreInstalled, AreInstalledAfter, GivesBack, HasTooMuchAfter, IsUnread}
use Rattle.emerge_run.specs.Outcomes.{EndsEarly, HasRecovered, IsEarly, IsToDo, IsWork}
use Rattle.emerge_run.specs.Tasks.{IsAsked, IsTaskOf, IsWanted}
use Rattle.emerge_run.specs.Words.{AskForMerge, IsOfWords, IsUsage}
use Rattle.emerge_run.specs.declared.choosing.Seen.{Seen}
use Rattle.merge_report.specs.declared.status.Status.TheVariants as status

-- a run that found nothing to do gives back what was installed where it came to read it
pub record GivesBackSeen (tells : Bool) (Such : List Installed → Type 0)
    (TooMuch : Quantity → Type 0) (seen : Seen) : Type 0 where
  pub opening : IsTrue tells → IfErr seen.answer (λ s.
      GivesBack Such TooMuch s seen.opening.items)
  pub unread : IfErr seen.answer (λ s. IsUnread s → seen.opening.items ≡ [])

-- a recovered tree is looked through for what is asked: it was such, it is such, and this was seen
module _ {T : Type 0} (trees : Tree T) (asked : Asked) (old new : T) (seen : Seen) where
  -- what the tree holds
  abbrev held : Map
  held = (trees.story old).now.holds

  -- What is to be done is what is found for what is asked, over the packages that come back. Else
  -- the answer tells why nothing is found, and is never one of the words. A failure was counted.
  pub record AnswersAsked : Type 0 where
    pub found : IsTrue trees.tells →
        IfOk seen.answer (IsWanted held asked seen.opening.items)
    pub pretend : IfOk seen.answer (IsAsked asked)
    pub task : IfOk seen.answer (IsTaskOf trees.tells held seen.opening.items)
    pub ended : IsTrue trees.tells → IfErr seen.answer (IsRefused held asked)
    pub early : IfErr seen.answer IsEarly
    pub no_usage : (f : WordFault) → ¬ IsErrOf seen.answer (status.Usage f)
    pub device : CountsFault (IsErrOf seen.answer status.DeviceFault) (trees.faults old)
        (trees.faults new)

  -- what it answers, that it leaves the tree as it was, and what comes back
  pub record FindsWork : Type 0 where
    pub answer : AnswersAsked
    pub tree : IsTrue trees.tells → trees.story new ≡ trees.story old
    pub back : GivesBackSeen trees.tells (AreInstalled held) (HasTooMuch held) seen

-- a tree is recovered and looked through for what the words choose: it was such, it is such, and
-- this was seen
module _ {T : Type 0} (trees : Tree T) (words : List (List ℕ)) (old new : T) (seen : Seen) where
  -- what the tree held, and what it holds
  abbrev before : Map
  before = (trees.story old).now.holds

  abbrev after : Map
  after = (trees.story new).now.holds

  -- What is to be done is what the words choose in the recovered tree, over the packages that come
  -- back. Else the answer is one of a run that finds no plan; Usage comes only where the words are
  -- refused so, and words that ask for no merge are answered as such. A failure was counted.
  pub record AnswersWords : Type 0 where
    pub found : IsTrue trees.tells → IfOk seen.answer (IsToDo words after seen.opening.items)
    pub task : IfOk seen.answer (IsTaskOf trees.tells after seen.opening.items)
    pub work : IfOk seen.answer (IsWork words trees.tells before)
    pub early : IfErr seen.answer IsEarly
    pub usage : (f : WordFault) → IsErrOf seen.answer (status.Usage f) → IsUsage words f
    pub no_merge : ¬ AskForMerge words →
        IfErr seen.answer (λ s. IsOfWords s ⊎ (s ≡ status.Memory))
    pub device : CountsFault (IsErrOf seen.answer status.DeviceFault) (trees.faults old)
        (trees.faults new)

  -- what it answers, what a crash leaves and the tree holds, and what comes back
  pub record ChoosesWork : Type 0 where
    pub answer : AnswersWords
    pub tree : IsTrue trees.tells → MatchResult seen.answer
        (λ w. HasRecovered (trees.story old) (trees.story new))
        (EndsEarly words (trees.story old) (trees.story new))
    pub back : GivesBackSeen trees.tells (AreInstalledAfter before) (HasTooMuchAfter before)
        seen
