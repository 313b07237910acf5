-- The first reason why a candidate isn't visible.
use Rattle.std.proofs.Common.{◌≡◌, ◌∙◌, ◌⊎◌, ℕ, Bool, true, false, cond, List, Option, None, Some, ap, inl, inr, refl, subst, sym}
use Rattle.dep_atom.specs.declared.package.PackageId.{PackageId}
use Rattle.md5_cache.specs.Entries.{CacheEntryValue, Tells}
use Rattle.md5_cache.specs.EntryFaults.{FirstEntryFault}
use Rattle.md5_cache.specs.Pairs.{pairs_of}
use Rattle.md5_cache.specs.declared.fault.CacheFault.{CacheFault}
use Rattle.md5_cache.specs.declared.fault.CacheFault.TheVariants as faults
use Rattle.visible_rules.specs.Items.{is_masked}
use Rattle.visible_rules.specs.Keywords.{accepts}
use Rattle.visible_verdicts.specs.Verdicts.{HasEntry, IsKeptBack, IsReason, IsRefused, IsVisible, kept_back, refusal_of}
use Rattle.visible_verdicts.specs.declared.reason.Reason.{Reason}
use Rattle.visible_verdicts.specs.declared.reason.Reason.TheVariants.{Keyword, Masked}
use Rattle.visible_verdicts.specs.declared.reason.Refusal.{Refusal}
use Rattle.visible_verdicts.specs.declared.rules.VisibleRules.{VisibleRules}
use Rattle.visible_verdicts.proofs.Alike.{SaysOnce, kept_alike}

by_fault : (rules : VisibleRules) (id : PackageId) (bytes : List ℕ) (ebuild : Option (List ℕ)) (text : List ℕ) (fault : CacheFault) → ebuild ≡ Some text → FirstEntryFault bytes text fault → IsRefused rules id bytes ebuild (refusal_of fault)
by_fault rules id bytes ebuild text faults.NotUtf8 there first = record { text = text; there = there; fault = faults.NotUtf8; first = first; kind = refl }
by_fault rules id bytes ebuild text (faults.NoEquals line) there first = record { text = text; there = there; fault = faults.NoEquals line; first = first; kind = refl }
by_fault rules id bytes ebuild text (faults.Repeated key) there first = record { text = text; there = there; fault = faults.Repeated key; first = first; kind = refl }
by_fault rules id bytes ebuild text (faults.Eapi t) there first = record { text = text; there = there; fault = faults.Eapi t; first = first; kind = refl }
by_fault rules id bytes ebuild text (faults.Field key) there first = record { text = text; there = there; fault = faults.Field key; first = first; kind = refl }
by_fault rules id bytes ebuild text (faults.Stale recorded found) there first = record { text = text; there = there; fault = faults.Stale recorded found; first = first; kind = refl }
by_fault rules id bytes ebuild text faults.Memory there first = tt

-- what a fault of the entry makes of the candidate is right
pub refused : (rules : VisibleRules) (id : PackageId) (bytes : List ℕ) (ebuild : Option (List ℕ)) (text : List ℕ) (fault : CacheFault) (r : Refusal) → ebuild ≡ Some text → FirstEntryFault bytes text fault → r ≡ refusal_of fault → IsRefused rules id bytes ebuild r
refused rules id bytes ebuild text fault r there first is = subst (IsRefused rules id bytes ebuild) (sym is) (by_fault rules id bytes ebuild text fault there first)

two_reasons : (a m : Bool) (reason : Reason) → cond a (cond m (Some Masked) None) (Some Keyword) ≡ Some reason → (reason ≡ Keyword) ⊎ (reason ≡ Masked)
two_reasons true true reason e = inr (cc e)
two_reasons true false reason e = absurd (cc e)
two_reasons false m reason e = inl (cc e)

-- what keeps the entry back is the reason
pub kept : (rules : VisibleRules) (id : PackageId) (bytes : List ℕ) (ebuild : Option (List ℕ)) (e : CacheEntryValue) (reason : Reason) → HasEntry id bytes ebuild e → kept_back rules e ≡ Some reason → IsReason rules id bytes ebuild reason
kept rules id bytes ebuild e reason has is =
    elim (two_reasons (accepts rules.keywords e.package_is.facts e.keywords) (is_masked rules.masks rules.unmasks e.package_is.facts) reason is) [
      | inl same ↦ subst (IsReason rules id bytes ebuild) (sym same) (of Keyword (is ∙ ap Some same))
      | inr same ↦ subst (IsReason rules id bytes ebuild) (sym same) (of Masked (is ∙ ap Some same))
    ] where
      of : (r : Reason) → kept_back rules e ≡ Some r → IsKeptBack rules id bytes ebuild r
      of r that = record { e = e; has = has; kept = that }

-- an entry that is kept back is none of a visible candidate
pub not_visible : (rules : VisibleRules) (id : PackageId) (bytes : List ℕ) (ebuild : Option (List ℕ)) (e d : CacheEntryValue) (reason : Reason) → SaysOnce → Tells (pairs_of bytes) id e → kept_back rules e ≡ Some reason → IsVisible rules id bytes ebuild d → ⊥
not_visible rules id bytes ebuild e d reason once tells is visible =
    let none : Some reason ≡ None = sym is ∙ (kept_alike rules (pairs_of bytes) id e d once tells visible.has.tells ∙ visible.free) in
    cc none
