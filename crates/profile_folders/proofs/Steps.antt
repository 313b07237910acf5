-- How the reading of a profile goes from parent to parent.
use Rattle.std.proofs.Common.{◌≡◌, ◌≤◌, ◌<◌, ◌+◌, ◌++◌, ◌∙◌, ℕ, zero, suc, List, [], ◌∷◌, Option, None, Some, ap, arith, drop, get_or, inl, inr, length, length-append, refl, subst, sym}
use Rattle.std.proofs.lemmas.List.{drop_all, drop_more}
use Rattle.file_tree.specs.Disk.{Map}
use Rattle.profile_folders.specs.Begins.{BeginsAt}
use Rattle.profile_folders.specs.Folders.{MayNotRead, MayRead, Reads, ReadsEach, Walks, most_profiles, with_folder}
use Rattle.profile_folders.specs.Parents.{AreParents, IsParentFault}
use Rattle.profile_folders.specs.declared.fault.ProfileFault.{ProfileFault}
use Rattle.profile_folders.specs.declared.parents.Parent.{Parent}

-- the profile of the folder is read like this, with any depth that is enough
abbrev pub ReadsDeep : Map → List (List ℕ) → List ℕ → List (List ℕ) → List (List ℕ) → Option ProfileFault → Type 0
ReadsDeep m above folder before now fault = (depth : ℕ) → most_profiles ≤ depth + length above → Reads depth m above folder before now fault

-- the parents are read like this, with any depth that is enough
abbrev pub ReadsDeepEach : Map → List (List ℕ) → List Parent → List (List ℕ) → List (List ℕ) → Option ProfileFault → Type 0
ReadsDeepEach m above parents before now fault = (depth : ℕ) → most_profiles ≤ depth + length above → ReadsEach m above (Reads depth m above) parents before now fault

-- whatever the parents that are left come to from now, all of them come to from before
abbrev pub GoesOn : Map → List (List ℕ) → List (List ℕ) → List Parent → List (List ℕ) → List Parent → Type 0
GoesOn m above before parents now left = (end : List (List ℕ)) (fault : Option ProfileFault) → ReadsDeepEach m above left now end fault → ReadsDeepEach m above parents before end fault

module _ (m : Map) (above before : List (List ℕ)) (parents : List Parent) where
  pub goes_first : GoesOn m above before parents before parents
  goes_first end fault each = each

  pub goes_next : (parent : Parent) (rest : List Parent) (now new : List (List ℕ)) → MayRead m above now parent.folder → ReadsDeep m above parent.folder now new None → GoesOn m above before parents now (parent ∷ rest) → GoesOn m above before parents new rest
  goes_next parent rest now new may read on end fault each = on end fault (λ depth enough. inr (may, inr (new, read depth enough, each depth enough)))

  -- reading ends at a parent
  pub stop_at : (parent : Parent) (rest : List Parent) (now : List (List ℕ)) (first : ProfileFault) → MayNotRead m above now parent first → GoesOn m above before parents now (parent ∷ rest) → ReadsDeepEach m above parents before now (Some first)
  stop_at parent rest now first why on = on now (Some first) (λ depth enough. inl (first, why, refl, refl))

  -- reading ends in the profile of a parent
  pub stop_in : (parent : Parent) (rest : List Parent) (now end : List (List ℕ)) (first : ProfileFault) → MayRead m above now parent.folder → ReadsDeep m above parent.folder now end (Some first) → GoesOn m above before parents now (parent ∷ rest) → ReadsDeepEach m above parents before end (Some first)
  stop_in parent rest now end first may read on = on end (Some first) (λ depth enough. inr (may, inl (first, read depth enough, refl)))

  pub goes_last : (now : List (List ℕ)) → GoesOn m above before parents now [] → ReadsDeepEach m above parents before now None
  goes_last now on = on now None (λ depth enough. (refl, refl))

  behind : (i : ℕ) (parent : Parent) → i < length parents → parent ≡ get_or parents i parent → drop i parents ≡ parent ∷ drop (i + 1) parents
  behind i parent lt at = drop_more parents i parent lt ∙ ap (λ (p : Parent). p ∷ drop (i + 1) parents) (sym at)

  module _ (i : ℕ) (parent : Parent) (lt : i < length parents) (at : parent ≡ get_or parents i parent) (now : List (List ℕ)) (on : GoesOn m above before parents now (drop i parents)) (n : Map) (n-is : n ≡ m) (these : List (List ℕ)) (these-are : these ≡ above) (may : MayRead n these now parent.folder) (n' : Map) (n'-is : n' ≡ m) where
    here : GoesOn m above before parents now (parent ∷ drop (i + 1) parents)
    here = subst (GoesOn m above before parents now) (behind i parent lt at) on

    may_here : MayRead m above now parent.folder
    may_here = subst (λ (y : Map). MayRead y above now parent.folder) n-is (subst (λ (a : List (List ℕ)). MayRead n a now parent.folder) these-are may)

    read_here : (new : List (List ℕ)) (fault : Option ProfileFault) → ReadsDeep n' these parent.folder now new fault → ReadsDeep m above parent.folder now new fault
    read_here new fault read = subst (λ (y : Map). ReadsDeep y above parent.folder now new fault) n'-is (subst (λ (a : List (List ℕ)). ReadsDeep n' a parent.folder now new fault) these-are read)

    pub step : (new : List (List ℕ)) → ReadsDeep n' these parent.folder now new None → GoesOn m above before parents new (drop (i + 1) parents)
    step new read = goes_next parent (drop (i + 1) parents) now new may_here (read_here new None read) here

    pub step_in : (end : List (List ℕ)) (first : ProfileFault) → ReadsDeep n' these parent.folder now end (Some first) → ReadsDeepEach m above parents before end (Some first)
    step_in end first read = stop_in parent (drop (i + 1) parents) now end first may_here (read_here end (Some first) read) here

  pub step_at : (i : ℕ) (parent : Parent) → i < length parents → parent ≡ get_or parents i parent → (now : List (List ℕ)) → GoesOn m above before parents now (drop i parents) → (n : Map) → n ≡ m → (these : List (List ℕ)) → these ≡ above → (first : ProfileFault) → MayNotRead n these now parent first → ReadsDeepEach m above parents before now (Some first)
  step_at i parent lt at now on n n-is these these-are first why =
      stop_at parent (drop (i + 1) parents) now first
      (subst (λ (y : Map). MayNotRead y above now parent first) n-is (subst (λ (a : List (List ℕ)). MayNotRead n a now parent first) these-are why))
      (subst (GoesOn m above before parents now) (behind i parent lt at) on)

  pub step_last : (i : ℕ) (now : List (List ℕ)) → length parents ≤ i → GoesOn m above before parents now (drop i parents) → ReadsDeepEach m above parents before now None
  step_last i now past on = goes_last now (subst (GoesOn m above before parents now) (drop_all i parents past) on)

module _ (m : Map) (above : List (List ℕ)) (folder : List ℕ) (before : List (List ℕ)) (room : length above < most_profiles) where
  -- the parents are at fault
  pub misnamed : (first : ProfileFault) → IsParentFault m folder first → ReadsDeep m above folder before before (Some first)
  misnamed first is zero enough = absurd (omega (arith, room, enough))
  misnamed first is (suc depth) enough = inl (first, is, refl, refl)

  -- the parents are read
  pub closed : (parents : List Parent) → AreParents m folder parents → (inner : List (List ℕ)) → inner ≡ above ++ folder ∷ [] → (between : List (List ℕ)) (fault : Option ProfileFault) → ReadsDeepEach m inner parents before between fault → ReadsDeep m above folder before (with_folder between folder fault) fault
  closed parents are inner inner-is between fault each zero enough = absurd (omega (arith, room, enough))
  closed parents are inner inner-is between fault each (suc depth) enough =
      inr (parents, are, (between, subst (λ (a : List (List ℕ)). ReadsDeepEach m a parents before between fault) inner-is each depth (omega (arith, enough, length-append above (folder ∷ []))), refl))

-- a depth that is enough; what it is needn't be worked out
unfoldable enough : (depth : ℕ) × (most_profiles ≤ depth + 0)
enough = (most_profiles, omega arith)

-- the reading of the first profile is that of all
pub walks : (m n : Map) (path folder : List ℕ) (above before now : List (List ℕ)) (fault : Option ProfileFault) → n ≡ m → above ≡ [] → before ≡ [] → BeginsAt m path folder → ReadsDeep n above folder before now fault → Walks m path now fault
walks m n path folder above before now fault n-is above-is before-is at read =
    let in_m : ReadsDeep m [] folder [] now fault = subst (λ (y : Map). ReadsDeep y [] folder [] now fault) n-is (subst (λ (a : List (List ℕ)). ReadsDeep n a folder [] now fault) above-is (subst (λ (b : List (List ℕ)). ReadsDeep n above folder b now fault) before-is read)) in
    inr (folder, at, (enough.0, in_m enough.0 enough.1))
