-- What a fault of a plan's text, of its choice or of its file is called.
use Rattle.std.specs.Prelude.{◌≡◌, ℕ, List, Vec}
use Rattle.std.specs.Global.{Global}
use Rattle.file_tree.specs.declared.fault.TreeFault.TheVariants as trees
use Rattle.vdb_law.specs.Packages.{Installed}
use Rattle.visible_set.specs.declared.fault.OffersFault.TheVariants as offers
use Rattle.run_opening.specs.Faults.{device_failed}
use Rattle.plan_text.specs.declared.fault.PlanTextFault.{PlanTextFault}
use Rattle.plan_text.specs.declared.fault.PlanTextFault.TheVariants as texts
use Rattle.emerge_choose.specs.declared.fault.NotChosen.{NotChosen}
use Rattle.emerge_choose.specs.declared.fault.NotChosen.TheVariants as choosing
use Rattle.emerge_find.specs.declared.ends.NoPlan.{NoPlan}
use Rattle.emerge_find.specs.declared.ends.NoPlan.TheVariants.{BacktrackLimit, BuildCycle, Limit, NoCandidate, NoOrder, NoSolution, NotPlanned, Offers, Opening, Refused, Text, Tree}
use Rattle.emerge_find.specs.declared.unfiled.Unfiled.{Unfiled}
use Rattle.emerge_find.specs.declared.unfiled.Unfiled.TheVariants as filing
use Rattle.emerge_find.specs.declared.unmerge.NotUnmerged.{NotUnmerged}
use Rattle.emerge_find.specs.declared.unmerge.NotUnmerged.TheVariants as going
use Rattle.emerge_find.specs.declared.unmade.Unmade.{Unmade}
use Rattle.emerge_find.specs.declared.unmade.Unmade.TheVariants as making

-- the device failed, whichever layer tells it
abbrev pub IsDeviceFailure : NoPlan → Type 0
IsDeviceFailure (Offers fault) = fault ≡ offers.Tree trees.Failed
IsDeviceFailure (Opening fault) = fault ≡ device_failed
IsDeviceFailure (Tree fault) = fault ≡ trees.Failed
IsDeviceFailure e = ⊥

-- a fault of the choice, or of its plan, over these packages
abbrev pub end_with : NotChosen → Vec Installed Global → NoPlan
end_with (choosing.NoCandidate atom reasons) packages = NoCandidate atom reasons packages
end_with (choosing.NoSolution dead) packages = NoSolution dead packages
end_with (choosing.BacktrackLimit refuted dead) packages = BacktrackLimit refuted dead packages
end_with (choosing.BuildCycle cycle) packages = BuildCycle cycle packages
end_with choosing.Limit packages = Limit
end_with (choosing.Unlinked fault) packages = NotPlanned packages
end_with (choosing.NoOrder fault) packages = NoOrder fault packages
end_with choosing.Memory packages = Tree trees.Memory

-- a fault of the text of the file at the path
abbrev pub unread : List ℕ → PlanTextFault → NoPlan
unread path (texts.Number line) = Text path line
unread path (texts.NotBefore line) = Text path line
unread path texts.Limit = Limit
unread path (texts.Line line) = Text path line
unread path texts.Memory = Tree trees.Memory

-- a fault of the plan that stands in the file at the path, over these packages
abbrev pub end_of_file : Unfiled → List ℕ → Vec Installed Global → NoPlan
end_of_file (filing.NoCandidate atom reasons) path packages = NoCandidate atom reasons packages
end_of_file filing.BadFlag path packages = Text path 0
end_of_file (filing.Refused fault) path packages = Refused fault packages
end_of_file filing.Memory path packages = Tree trees.Memory

-- why nothing goes, over these packages
abbrev pub end_of_unmerge : NotUnmerged → Vec Installed Global → NoPlan
end_of_unmerge (going.NoCandidate atom reasons) packages = NoCandidate atom reasons packages
end_of_unmerge (going.Refused fault) packages = Refused fault packages
end_of_unmerge going.Memory packages = Tree trees.Memory

-- why no plan is made of a source, over these packages
abbrev pub end_of : Unmade → Vec Installed Global → NoPlan
end_of (making.Wished fault) packages = end_with fault packages
end_of (making.Filed path fault) packages = end_of_file fault path packages
end_of (making.Unmerged fault) packages = end_of_unmerge fault packages
