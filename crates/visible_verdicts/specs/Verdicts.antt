-- Whether a candidate is visible, and the first reason why one isn't (PMS 5.2.4, 7.3.3, 14.3).
use Rattle.std.specs.Prelude.{◌≡◌, ℕ, List, Option, None, Some, if◌then◌else◌, ⊤}
use Rattle.dep_atom.specs.declared.package.PackageId.{PackageId}
use Rattle.md5_cache.specs.Entries.{CacheEntryValue, Tells}
use Rattle.md5_cache.specs.EntryFaults.{FirstEntryFault, IsEntry}
use Rattle.md5_cache.specs.Pairs.{pairs_of}
use Rattle.md5_cache.specs.declared.fault.CacheFault.{CacheFault}
use Rattle.md5_cache.specs.declared.fault.CacheFault.TheVariants as faults
use Rattle.visible_rules.specs.Items.{is_masked}
use Rattle.visible_rules.specs.Keywords.{accepts}
use Rattle.visible_verdicts.specs.declared.reason.Reason.{Reason}
use Rattle.visible_verdicts.specs.declared.reason.Reason.TheVariants.{BadEntry, Eapi, Keyword, Masked, NoEbuild, Stale}
use Rattle.visible_verdicts.specs.declared.reason.Refusal.{Refusal}
use Rattle.visible_verdicts.specs.declared.reason.Refusal.TheVariants.{Hidden, Memory}
use Rattle.visible_verdicts.specs.declared.rules.VisibleRules.{VisibleRules}

-- the ebuild is there, and the text is the entry of it, which tells this of the package
pub record HasEntry (id : PackageId) (bytes : List ℕ) (ebuild : Option (List ℕ))
    (e : CacheEntryValue) : Type 0 where
  pub text : List ℕ
  pub there : ebuild ≡ Some text
  pub entry : IsEntry bytes text
  pub tells : Tells (pairs_of bytes) id e

-- what keeps a package with this entry back: that none of its keywords is accepted, or else that it
-- is masked
abbrev pub kept_back : VisibleRules → CacheEntryValue → Option Reason
kept_back rules e =
    if accepts rules.keywords e.package_is.facts e.keywords then
    if is_masked rules.masks rules.unmasks e.package_is.facts then Some Masked else None
    else Some Keyword

-- the candidate is visible, with this entry
pub record IsVisible (rules : VisibleRules) (id : PackageId) (bytes : List ℕ)
    (ebuild : Option (List ℕ)) (e : CacheEntryValue) : Type 0 where
  pub has : HasEntry id bytes ebuild e
  pub free : kept_back rules e ≡ None

-- what a fault of an entry makes of its candidate
abbrev pub refusal_of : CacheFault → Refusal
refusal_of (faults.Eapi text) = Hidden Eapi
refusal_of (faults.Stale recorded found) = Hidden Stale
refusal_of faults.NotUtf8 = Hidden BadEntry
refusal_of (faults.NoEquals line) = Hidden BadEntry
refusal_of (faults.Repeated key) = Hidden BadEntry
refusal_of (faults.Field key) = Hidden BadEntry
refusal_of faults.Memory = Memory

-- the ebuild is there, and the first fault of the entry is of this kind
pub record HasFault (bytes : List ℕ) (ebuild : Option (List ℕ)) (reason : Reason) : Type 0 where
  pub text : List ℕ
  pub there : ebuild ≡ Some text
  pub fault : CacheFault
  pub first : FirstEntryFault bytes text fault
  pub kind : refusal_of fault ≡ Hidden reason

-- the candidate has an entry, and is kept back for this reason
pub record IsKeptBack (rules : VisibleRules) (id : PackageId) (bytes : List ℕ)
    (ebuild : Option (List ℕ)) (reason : Reason) : Type 0 where
  pub e : CacheEntryValue
  pub has : HasEntry id bytes ebuild e
  pub kept : kept_back rules e ≡ Some reason

-- the first reason why the candidate isn't visible: it has no ebuild, else its entry has a fault,
-- else it is kept back
abbrev pub IsReason : VisibleRules → PackageId → List ℕ → Option (List ℕ) → Reason → Type 0
IsReason rules id bytes ebuild NoEbuild = ebuild ≡ None
IsReason rules id bytes ebuild Eapi = HasFault bytes ebuild Eapi
IsReason rules id bytes ebuild Stale = HasFault bytes ebuild Stale
IsReason rules id bytes ebuild BadEntry = HasFault bytes ebuild BadEntry
IsReason rules id bytes ebuild Keyword = IsKeptBack rules id bytes ebuild Keyword
IsReason rules id bytes ebuild Masked = IsKeptBack rules id bytes ebuild Masked

-- the same of a refusal; memory may run out on any candidate
abbrev pub IsRefused : VisibleRules → PackageId → List ℕ → Option (List ℕ) → Refusal → Type 0
IsRefused rules id bytes ebuild (Hidden reason) = IsReason rules id bytes ebuild reason
IsRefused rules id bytes ebuild Memory = ⊤
