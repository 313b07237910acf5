-- Why a run of groups ended, by what a site answered: a fault of the tree is carried over.
use Rattle.merge_site.specs.declared.fault.ClaimStop.{ClaimStop}
use Rattle.merge_site.specs.declared.fault.ClaimStop.TheVariants as claims
use Rattle.merge_site.specs.declared.fault.SiteFault.{SiteFault}
use Rattle.merge_site.specs.declared.fault.SiteFault.TheVariants as sites
use Rattle.merge_site.specs.declared.fault.StageFault.{StageFault}
use Rattle.merge_site.specs.declared.fault.StageFault.TheVariants as stages
use Rattle.merge_group.specs.declared.stop.Stop.{Stop}
use Rattle.merge_group.specs.declared.stop.Stop.TheVariants as stops

abbrev pub stop_of_site : SiteFault → Stop
stop_of_site sites.Limit = stops.Limit
stop_of_site (sites.Tree of) = stops.Tree of

abbrev pub stop_of_stage : StageFault → Stop
stop_of_stage (stages.Image bad) = stops.Image bad
stop_of_stage stages.Limit = stops.Limit
stop_of_stage (stages.Tree of) = stops.Tree of

abbrev pub stop_of_claim : ClaimStop → Stop
stop_of_claim (claims.Tree of) = stops.Tree of
stop_of_claim s = stops.Claim s
