-- The status that a fault of a lower layer becomes.
use Rattle.file_tree.specs.declared.fault.TreeFault.{TreeFault}
use Rattle.file_tree.specs.declared.fault.TreeFault.TheVariants as tree
use Rattle.file_tree.specs.declared.limits.Quantity.TheVariants.{Candidates, Groups}
use Rattle.vdb_text.specs.declared.fault.DatabaseFault.{DatabaseFault}
use Rattle.vdb_text.specs.declared.fault.DatabaseFault.TheVariants as databases
use Rattle.visible_set.specs.declared.fault.OffersFault.{OffersFault}
use Rattle.visible_set.specs.declared.fault.OffersFault.TheVariants as offers
use Rattle.recovery.specs.declared.fault.RecoverFault.{RecoverFault}
use Rattle.recovery.specs.declared.fault.RecoverFault.TheVariants as recovery
use Rattle.emerge_words.specs.declared.request.WordFault.{WordFault}
use Rattle.emerge_words.specs.declared.request.WordFault.TheVariants as words
use Rattle.merge_report.specs.declared.status.Status.{Status}
use Rattle.merge_report.specs.declared.status.Status.TheVariants as status

abbrev pub status_of_tree : TreeFault → Status
status_of_tree tree.Failed = status.DeviceFault
status_of_tree tree.Memory = status.Memory

abbrev pub status_of_recovery : RecoverFault → Status
status_of_recovery (recovery.BadRecord g) = status.BadJournal (recovery.BadRecord g)
status_of_recovery (recovery.BadStage g i) = status.BadJournal (recovery.BadStage g i)
status_of_recovery recovery.Limit = status.Limit Groups
status_of_recovery (recovery.Tree fault) = status_of_tree fault

-- why there are no offers
abbrev pub status_of_offers : OffersFault → Status
status_of_offers (offers.Text path line) = status.BadText path line
status_of_offers offers.Limit = status.Limit Candidates
status_of_offers (offers.Tree fault) = status_of_tree fault

-- why a tree has no database of installed packages
abbrev pub status_of_database : DatabaseFault → Status
status_of_database (databases.Limit quantity) = status.Limit quantity
status_of_database (databases.Tree fault) = status_of_tree fault
status_of_database fault = status.BadDatabase fault

abbrev pub status_of_word : WordFault → Status
status_of_word words.Memory = status.Memory
status_of_word fault = status.Usage fault
