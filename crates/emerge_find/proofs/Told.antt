-- What is told of the plan of a file that isn't accepted, and of one in which packages go.
use Rattle.std.proofs.Common.{◌≡◌, ◌≢◌, ℕ, List, [], ◌∷◌, Some, inl, inr, map, subst, sym}
use Rattle.dep_atom.specs.Values.{AtomValue}
use Rattle.dep_atom.specs.declared.package.PackageId.{PackageId}
use Rattle.pkg_state.specs.Package.{Package}
use Rattle.plan_text.specs.Plans.{GroupValue}
use Rattle.plan_text.specs.declared.plan.Removal.{Removal}
use Rattle.plan_model.specs.Accepting.{Breaks}
use Rattle.plan_model.specs.Faults.{link_rule}
use Rattle.plan_model.specs.declared.fault.LinkFault.{LinkFault}
use Rattle.plan_model.specs.declared.fault.LinkFault.TheVariants as links
use Rattle.plan_model.specs.declared.fault.NotAccepted.{NotAccepted}
use Rattle.plan_model.specs.declared.fault.NotAccepted.TheVariants as accepting
use Rattle.merge_groups.specs.Order.{removal_of}
use Rattle.merge_groups.specs.Single.{groups_of}
use Rattle.emerge_choose.specs.declared.reason.NotTaken.{NotTaken}
use Rattle.emerge_find.specs.Filing.{IsOfLink, IsUnfiled, IsUnoffered}
use Rattle.emerge_find.specs.Unmerges.{BarsUnmerge, IsOfNoAddition, IsToldOf, IsUnmergeOf}
use Rattle.emerge_find.specs.declared.unfiled.Unfiled.{Unfiled}
use Rattle.emerge_find.specs.declared.unfiled.Unfiled.TheVariants.{BadFlag, Memory, NoCandidate, Refused}
use Rattle.emerge_find.specs.declared.unmerge.NotUnmerged.{NotUnmerged}

-- what the first fault of the additions says of a file
module _ (installed offered : List Package) (hidden : List NotTaken) (groups : List GroupValue) where
  lacks : (group : ℕ) (id : PackageId) (e : Unfiled) → IsUnoffered offered hidden id e → link_rule offered groups (Some (links.NoCandidate group id)) → IsUnfiled installed offered hidden groups e
  lacks group id (NoCandidate atom reasons) is first = record { group = group; id = id; first = first; exact = is.0; why = is.1 }
  lacks group id BadFlag is first = absurd is
  lacks group id (Refused fault) is first = absurd is
  lacks group id Memory is first = tt

  pub of_link : (f : LinkFault) (e : Unfiled) → IsOfLink offered hidden f e → (f ≢ links.Memory → link_rule offered groups (Some f)) → IsUnfiled installed offered hidden groups e
  of_link (links.NoCandidate group id) e is rule = lacks group id e is (rule (λ same. cc same))
  of_link (links.BadFlag group id flag) e is rule = subst (IsUnfiled installed offered hidden groups) (sym is) (group, id, flag, rule (λ same. cc same))
  of_link links.Memory e is rule = subst (IsUnfiled installed offered hidden groups) (sym is) tt

-- where nothing comes, no addition is at fault
none_comes : (offered : List Package) (rs : List Removal) (f : LinkFault) → link_rule offered (groups_of rs []) (Some f) → ⊥
none_comes offered [] f rule = rule
none_comes offered (r ∷ rs) f (inl first) = first
none_comes offered (r ∷ rs) f (inr later) = later.1

module _ (installed offered : List Package) (atoms : List AtomValue) (groups : List GroupValue) (is : IsUnmergeOf installed atoms groups) where
  pub no_addition : (f : NotAccepted) → Breaks installed offered groups f → IsOfNoAddition f
  no_addition (accepting.Unlinked fault) breaks = none_comes offered (map removal_of is.unmerge.going) fault (subst (λ (gs : List GroupValue). link_rule offered gs (Some fault)) is.unmerge.is breaks)
  no_addition (accepting.Refused fault) breaks = tt
  no_addition accepting.Memory breaks = tt

  pub bars : (f : NotAccepted) (e : NotUnmerged) → Breaks installed offered groups f → IsToldOf f e → BarsUnmerge installed offered atoms e
  bars (accepting.Unlinked fault) e breaks told = absurd told
  bars (accepting.Refused fault) e breaks told = subst (BarsUnmerge installed offered atoms) (sym told) (groups, is, breaks)
  bars accepting.Memory e breaks told = subst (BarsUnmerge installed offered atoms) (sym told) tt
