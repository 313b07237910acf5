-- What a run writes, and the number that it ends with.
use Rattle.std.specs.Prelude.{ℕ, List, [], ◌∷◌, ◌++◌, Option, None, Some, codes, length}
use Rattle.std.specs.Prelude.{string_bytes}
use Rattle.std.specs.Fmt.{decimal}
use Rattle.std.specs.List.{flat_map}
use Rattle.dep_atom.specs.Ids.{id_text}
use Rattle.dep_atom.specs.Text.{atom_text}
use Rattle.dep_atom.specs.declared.atom.Atom.{Atom}
use Rattle.dep_atom.specs.declared.package.PackageId.{PackageId}
use Rattle.vdb_text.specs.declared.fault.DatabaseFault.{DatabaseFault}
use Rattle.vdb_text.specs.declared.fault.DatabaseFault.TheVariants as databases
use Rattle.pkg_state.specs.declared.broken.Broken.{Broken}
use Rattle.pkg_state.specs.declared.broken.Broken.TheVariants as broken
use Rattle.pkg_state.specs.Package.{Package}
use Rattle.plan_law.specs.Plans.{Group, Removal}
use Rattle.plan_rules.specs.Refusals.{Refusal, told}
use Rattle.plan_text.specs.Printed.{spaced}
use Rattle.plan_words.specs.Words.{refusal_words}
use Rattle.emerge_choose.specs.declared.reason.NotTaken.{NotTaken}
use Rattle.emerge_choose.specs.declared.reason.Reason.{Reason}
use Rattle.emerge_choose.specs.declared.reason.Reason.TheVariants as reason
use Rattle.emerge_words.specs.declared.request.WordFault.{WordFault}
use Rattle.emerge_words.specs.declared.request.WordFault.TheVariants as words
use Rattle.merge_report.specs.declared.collision.Collision.{Collision}
use Rattle.merge_report.specs.declared.collision.Collision.TheVariants as collisions
use Rattle.merge_report.specs.Shown.{shown}
use Rattle.merge_report.specs.declared.status.Part.{Part}
use Rattle.merge_report.specs.declared.status.Part.TheVariants.{Command, Result}
use Rattle.file_tree.specs.declared.limits.Quantity.{Quantity}
use Rattle.file_tree.specs.declared.limits.Quantity.TheVariants.{Candidates, Groups, Packages, Paths, RecordBytes}
use Rattle.merge_fit.specs.declared.fault.ImageBad.{ImageBad}
use Rattle.merge_fit.specs.declared.fault.ImageBad.TheVariants as bad
use Rattle.recovery.specs.declared.fault.RecoverFault.{RecoverFault}
use Rattle.recovery.specs.declared.fault.RecoverFault.TheVariants as recovery
use Rattle.merge_report.specs.declared.status.Status.{Status}
use Rattle.merge_report.specs.declared.status.Status.TheVariants as status

-- a package that goes, behind a hyphen
abbrev pub gone_text : Removal → List ℕ
gone_text r = codes " -" ++ id_text r.id

-- a package that comes, behind a plus
abbrev pub come_text : Package → List ℕ
come_text p = codes " +" ++ id_text p.facts.id

-- the line of a group of this number: what goes, then what comes
abbrev pub done_line : Group → ℕ → List ℕ
done_line group number =
    codes "done " ++ (decimal number ++ (flat_map gone_text group.removals ++
    (flat_map come_text group.additions ++ (10 ∷ []))))

abbrev pub part_word : Part → List ℕ
part_word Command = codes "Command"
part_word Result = codes "Result"

abbrev pub reason_word : Reason → List ℕ
reason_word reason.NoEbuild = codes "NoEbuild"
reason_word reason.Eapi = codes "Eapi"
reason_word reason.Stale = codes "Stale"
reason_word reason.BadEntry = codes "BadEntry"
reason_word reason.Keyword = codes "Keyword"
reason_word reason.Masked = codes "Masked"
reason_word reason.RequiredUse = codes "RequiredUse"
reason_word reason.NotMatched = codes "NotMatched"

-- a candidate and why it isn't taken, in parentheses behind a space
abbrev pub reason_text : NotTaken → List ℕ
reason_text r = codes " (" ++ (id_text r.id ++ (32 ∷ (reason_word r.reason ++ (41 ∷ []))))

-- the word, or the text of an option, that the words are refused for
abbrev pub usage_word : WordFault → List ℕ
usage_word words.Usage = codes "Usage"
usage_word (words.BadAtom word) = codes "Usage: bad atom " ++ shown (string_bytes word)
usage_word (words.BadNumber word) = codes "Usage: bad number " ++ shown (string_bytes word)
usage_word words.Memory = codes "Usage"

-- the path at which the database is at fault; of a path above another that path
abbrev pub place_of_fault : DatabaseFault → List ℕ
place_of_fault (databases.Name path) = path
place_of_fault (databases.Missing path) = path
place_of_fault (databases.Eapi path) = path
place_of_fault (databases.Text path line) = path
place_of_fault (databases.Dep path at) = path
place_of_fault (databases.OwnedTwice path) = path
place_of_fault (databases.Nested path below) = path
place_of_fault (databases.Limit quantity) = []
place_of_fault (databases.Tree fault) = []

-- the leaf that isn't met, or a hyphen
abbrev pub leaf_text : Option Atom → List ℕ
leaf_text (Some atom) = atom_text atom
leaf_text None = codes "-"

abbrev pub pair_text : PackageId → PackageId → List ℕ
pair_text one other = id_text one ++ (32 ∷ id_text other)

-- what is wrong with the packages, with those that it names
abbrev pub inconsistent_text : Broken → List ℕ
inconsistent_text (broken.Runtime one leaf) =
    codes "Runtime " ++ (id_text one ++ (32 ∷ leaf_text leaf))
inconsistent_text (broken.Blocked one by) = codes "Blocked " ++ pair_text one by
inconsistent_text (broken.RequiredUse one) = codes "RequiredUse " ++ id_text one
inconsistent_text (broken.SlotTwice one other) = codes "SlotTwice " ++ pair_text one other
inconsistent_text broken.Memory = []

-- the rule that a plan breaks, with what it names, each word behind a space; want of memory has no
-- words
abbrev pub refused_text : Option Refusal → List ℕ
refused_text None = []
refused_text (Some refusal) = flat_map spaced (refusal_words refusal)

-- a package behind a space
abbrev pub spaced_id : PackageId → List ℕ
spaced_id id = spaced (id_text id)

-- the group whose record is broken, or the stage
abbrev pub broken_text : RecoverFault → List ℕ
broken_text (recovery.BadRecord g) = decimal g ++ codes " record"
broken_text (recovery.BadStage g i) = decimal g ++ (codes " stage " ++ decimal i)
broken_text fault = []

-- the rule by which a path can't be placed, with what it names
abbrev pub collision_text : Collision → List ℕ
collision_text (collisions.Owned p id) = codes "Owned " ++ (shown p ++ (32 ∷ id_text id))
collision_text (collisions.Claimed p g) = codes "Claimed " ++ (shown p ++ (32 ∷ decimal g))
collision_text (collisions.Ancestor p other) = codes "Ancestor " ++ (shown p ++ (32 ∷ shown other))
collision_text (collisions.Unowned p) = codes "Unowned " ++ shown p

-- what is wrong with an image, and at which path
abbrev pub bad_text : ImageBad → List ℕ
bad_text (bad.Reserved p) = codes "Reserved " ++ shown p
bad_text (bad.Twice p) = codes "Twice " ++ shown p
bad_text (bad.Large p) = codes "Large " ++ shown p
bad_text (bad.Link p) = codes "Link " ++ shown p

abbrev pub quantity_word : Quantity → List ℕ
quantity_word Groups = codes "Groups"
quantity_word Packages = codes "Packages"
quantity_word Candidates = codes "Candidates"
quantity_word Paths = codes "Paths"
quantity_word RecordBytes = codes "RecordBytes"

abbrev pub last_word : Status → List ℕ
last_word (status.Ok groups) = codes "ok " ++ decimal groups
last_word (status.Usage fault) = usage_word fault
last_word (status.BadText path line) = codes "BadText: " ++ (shown path ++ (32 ∷ decimal line))
last_word (status.BadDatabase fault) = codes "BadDatabase: " ++ shown (place_of_fault fault)
last_word (status.Inconsistent fault) = codes "Inconsistent: " ++ inconsistent_text fault
last_word (status.BadJournal fault) = codes "BadJournal: " ++ broken_text fault
last_word (status.NoCandidate atom reasons) =
    codes "NoCandidate: " ++ (atom_text atom ++ flat_map reason_text reasons.items)
last_word (status.NoSolution dead) = codes "NoSolution"
last_word (status.BacktrackLimit refuted dead) =
    codes "BacktrackLimit: " ++ decimal (length refuted.items)
last_word (status.PlanRefused fault) = codes "PlanRefused:" ++ refused_text (told fault)
last_word (status.BuildCycle packages) = codes "BuildCycle:" ++ flat_map spaced_id packages.items
last_word (status.NoOrder fault) = codes "NoOrder:" ++ refused_text (told fault)
last_word (status.Collision c) = codes "Collision: " ++ collision_text c
last_word (status.BadImage b) = codes "BadImage: " ++ bad_text b
last_word (status.BuildFailed id) = codes "BuildFailed: " ++ id_text id
last_word status.DeviceFault = codes "DeviceFault"
last_word status.OutputFault = codes "OutputFault"
last_word (status.Limit quantity) = codes "Limit: " ++ quantity_word quantity
last_word status.Memory = codes "Memory"
last_word (status.NotBuilt what) = codes "NotBuilt: " ++ part_word what

abbrev pub last_line : Status → List ℕ
last_line s = codes "emerge: " ++ (last_word s ++ (10 ∷ []))

-- the number that a program ends with
abbrev pub code_of : Status → ℕ
code_of (status.Ok groups) = 0
code_of (status.Usage fault) = 2
code_of (status.BadText path line) = 3
code_of (status.BadDatabase fault) = 4
code_of (status.BadJournal fault) = 5
code_of (status.Inconsistent fault) = 6
code_of (status.NoCandidate atom reasons) = 7
code_of (status.NoSolution dead) = 8
code_of (status.BacktrackLimit refuted dead) = 9
code_of (status.PlanRefused fault) = 10
code_of (status.BuildCycle packages) = 11
code_of (status.NoOrder fault) = 12
code_of (status.Collision c) = 13
code_of (status.BadImage b) = 14
code_of (status.BuildFailed id) = 15
code_of status.DeviceFault = 16
code_of status.OutputFault = 17
code_of (status.Limit quantity) = 18
code_of status.Memory = 19
code_of (status.NotBuilt what) = 20
