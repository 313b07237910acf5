-- A stop that comes of the tree is none of the sink.
use Rattle.std.proofs.Common.{◌≡◌}
use Rattle.file_tree.specs.declared.fault.TreeFault.{TreeFault}
use Rattle.merge_site.specs.declared.fault.ClaimStop.{ClaimStop}
use Rattle.merge_site.specs.declared.fault.ClaimStop.TheVariants as claims
use Rattle.merge_site.specs.declared.fault.SiteFault.{SiteFault}
use Rattle.merge_site.specs.declared.fault.SiteFault.TheVariants as sites
use Rattle.merge_site.specs.declared.fault.StageFault.{StageFault}
use Rattle.merge_site.specs.declared.fault.StageFault.TheVariants as stages
use Rattle.merge_group.specs.Stops.{stop_of_claim, stop_of_site, stop_of_stage}
use Rattle.merge_group.specs.declared.stop.Stop.TheVariants as stops

pub tree_quiet : (f : TreeFault) → stops.Tree f ≡ stops.Output → ⊥
tree_quiet f e = cc e

pub site_quiet : (f : SiteFault) → stop_of_site f ≡ stops.Output → ⊥
site_quiet (sites.Tree of) e = cc e
site_quiet sites.Limit e = cc e

pub stage_quiet : (f : StageFault) → stop_of_stage f ≡ stops.Output → ⊥
stage_quiet (stages.Tree of) e = cc e
stage_quiet (stages.Image bad) e = cc e
stage_quiet stages.Limit e = cc e

pub claim_quiet : (s : ClaimStop) → stop_of_claim s ≡ stops.Output → ⊥
claim_quiet (claims.Tree of) e = cc e
claim_quiet (claims.Collision c) e = cc e
claim_quiet (claims.Image bad) e = cc e
claim_quiet (claims.Removal p) e = cc e
claim_quiet claims.Overlap e = cc e
claim_quiet claims.Limit e = cc e
