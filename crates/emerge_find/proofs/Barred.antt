-- What the faults of a choice and of a plan's file say of an end.
use Rattle.std.proofs.Common.{◌≡◌, ◌≢◌, ℕ, List, map, refl, subst}
use Rattle.std.specs.Prelude.{Vec, ⊤}
use Rattle.std.specs.Global.{Global}
use Rattle.dep_atom.specs.Values.{AtomValue, atom_value}
use Rattle.vdb_law.specs.Packages.{Installed}
use Rattle.plan_text.specs.Plans.{GroupValue, plan_value}
use Rattle.emerge_choose.specs.Wishes.{WishValue, wish_value}
use Rattle.emerge_choose.specs.declared.fault.NotChosen.{NotChosen}
use Rattle.emerge_choose.specs.declared.fault.NotChosen.TheVariants as choosing
use Rattle.emerge_find.specs.Choices.{Choices, IsUnchosen, hidden_of, installed_of, offered_of}
use Rattle.emerge_find.specs.Ends.{end_of, end_of_file, end_of_unmerge, end_with}
use Rattle.emerge_find.specs.Filing.{IsUnfiled}
use Rattle.emerge_find.specs.Lacking.{GivesBack, GroupsLack, UnmergeLacks, WishLacks}
use Rattle.emerge_find.specs.Unmerges.{BarsUnmerge}
use Rattle.emerge_find.specs.Sources.{Ends, IsUnmade}
use Rattle.emerge_find.specs.declared.source.Source.{Source}
use Rattle.emerge_find.specs.declared.source.Source.TheVariants.{Filed, Unmerged, Wished}
use Rattle.emerge_find.specs.declared.unfiled.Unfiled.{Unfiled}
use Rattle.emerge_find.specs.declared.unfiled.Unfiled.TheVariants as filing
use Rattle.emerge_find.specs.declared.unmerge.NotUnmerged.{NotUnmerged}
use Rattle.emerge_find.specs.declared.unmerge.NotUnmerged.TheVariants as going
use Rattle.emerge_find.specs.declared.unmade.Unmade.{Unmade}
use Rattle.emerge_find.specs.declared.unmade.Unmade.TheVariants as making

-- the fault isn't want of memory
abbrev IsReason : NotChosen → Type 0
IsReason choosing.Memory = ⊥
IsReason fault = ⊤

module _ (k : Choices) (ps : Vec Installed Global) (same : ps.items ≡ k.packages) where
  unchosen : (wish : WishValue) (f : NotChosen) → IsReason f → (f ≢ choosing.Memory → IsUnchosen k wish f) → IsUnchosen k wish f
  unchosen wish f reason why = why (λ e. subst IsReason e reason)

  pub of_choice : (wish : WishValue) (f : NotChosen) → (f ≢ choosing.Memory → IsUnchosen k wish f) → WishLacks k wish (end_with f ps) × GivesBack k.packages (end_with f ps)
  of_choice wish (choosing.NoCandidate atom reasons) why = (unchosen wish (choosing.NoCandidate atom reasons) tt why, same)
  of_choice wish (choosing.NoSolution dead) why = (unchosen wish (choosing.NoSolution dead) tt why, same)
  of_choice wish (choosing.BacktrackLimit refuted dead) why = (unchosen wish (choosing.BacktrackLimit refuted dead) tt why, same)
  of_choice wish (choosing.BuildCycle cycle) why = (unchosen wish (choosing.BuildCycle cycle) tt why, same)
  of_choice wish choosing.Limit why = (unchosen wish choosing.Limit tt why, tt)
  of_choice wish (choosing.Unlinked fault) why = ((fault, unchosen wish (choosing.Unlinked fault) tt why), same)
  of_choice wish (choosing.NoOrder fault) why = (unchosen wish (choosing.NoOrder fault) tt why, same)
  of_choice wish choosing.Memory why = (tt, tt)

  pub of_filing : (path : List ℕ) (groups : List GroupValue) (f : Unfiled) → IsUnfiled (installed_of k) (offered_of k) (hidden_of k) groups f → GroupsLack k path groups (end_of_file f path ps) × GivesBack k.packages (end_of_file f path ps)
  of_filing path groups (filing.NoCandidate atom reasons) is = (is, same)
  of_filing path groups filing.BadFlag is = ((refl, refl, is), tt)
  of_filing path groups (filing.Refused fault) is = (is, same)
  of_filing path groups filing.Memory is = (tt, tt)

  pub of_going : (atoms : List AtomValue) (f : NotUnmerged) → BarsUnmerge (installed_of k) (offered_of k) atoms f → UnmergeLacks k atoms (end_of_unmerge f ps) × GivesBack k.packages (end_of_unmerge f ps)
  of_going atoms (going.NoCandidate atom reasons) is = (is, same)
  of_going atoms (going.Refused fault) is = (is, same)
  of_going atoms going.Memory is = (tt, tt)

  -- what keeps a source from a plan is what its end tells
  pub of_source : (source : Source) (f : Unmade) → IsUnmade k source f → Ends k source (end_of f ps)
  of_source (Wished wish) (making.Wished fault) why = of_choice (wish_value wish) fault why
  of_source (Wished wish) (making.Filed file fault) why = absurd why
  of_source (Wished wish) (making.Unmerged fault) why = absurd why
  of_source (Filed path text) (making.Wished fault) why = absurd why
  of_source (Filed path text) (making.Unmerged fault) why = absurd why
  of_source (Unmerged atoms) (making.Wished fault) why = absurd why
  of_source (Unmerged atoms) (making.Filed file fault) why = absurd why
  of_source (Unmerged atoms) (making.Unmerged fault) why = of_going (map atom_value atoms.items) fault why
  of_source (Filed path text) (making.Filed file fault) why =
      subst (λ (p : List ℕ). GroupsLack k p (plan_value text) (end_of_file fault file ps) × GivesBack k.packages (end_of_file fault file ps)) why.0 (of_filing file (plan_value text) fault why.1)
