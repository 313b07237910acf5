-- A candidate is visible or has one reason, never both.
use Rattle.std.proofs.Common.{◌≡◌, ◌∙◌, ◌⊎◌, ℕ, List, Option, None, Some, Result, Ok, Err, ap, inl, inr, refl, subst, sym}
use Rattle.std.specs.Prelude.{IfErr, IfOk, MatchResult, ⊤}
use Rattle.std.proofs.lemmas.Option.{same_Some}
use Rattle.dep_atom.specs.declared.package.PackageId.{PackageId}
use Rattle.md5_cache.specs.Entries.{CacheEntryValue}
use Rattle.md5_cache.specs.EntryFaults.{FirstEntryFault, IsEntry}
use Rattle.md5_cache.specs.FieldFaults.{HasNoOther, IsOther}
use Rattle.md5_cache.specs.Fields.{AreFields}
use Rattle.md5_cache.specs.Pairs.{IsPairsText, entry_lines, keys_of, pairs_of}
use Rattle.md5_cache.specs.declared.fault.CacheFault.{CacheFault}
use Rattle.md5_cache.specs.declared.fault.CacheFault.TheVariants as faults
use Rattle.md5_cache.specs.declared.fault.PairFault.{PairFault}
use Rattle.md5_cache.specs.declared.fault.PairFault.TheVariants as pair_faults
use Rattle.md5_cache.proofs.EntryLemmas.{not_outdated}
use Rattle.md5_cache.proofs.FieldLemmas.{all_there, no_other, none_bad}
use Rattle.md5_cache.proofs.Keys.{no_repeated}
use Rattle.md5_cache.proofs.Lines.{no_line_fault}
use Rattle.visible_verdicts.specs.Verdicts.{HasEntry, HasFault, IsKeptBack, IsReason, IsRefused, IsVisible, refusal_of}
use Rattle.visible_verdicts.specs.declared.reason.Reason.{Reason}
use Rattle.visible_verdicts.specs.declared.reason.Reason.TheVariants.{BadEntry, Eapi, Keyword, Masked, NoEbuild, Stale}
use Rattle.visible_verdicts.specs.declared.reason.Refusal.{Refusal}
use Rattle.visible_verdicts.specs.declared.reason.Refusal.TheVariants.{Hidden, Memory}
use Rattle.visible_verdicts.specs.declared.rules.VisibleRules.{VisibleRules}
use Rattle.visible_verdicts.proofs.Alike.{SaysOnce, kept_alike}

-- what the kinds of faults have in common
record IsOfEapi (bytes : List ℕ) : Type 0 where
  text : IsPairsText bytes
  edition : List ℕ
  other : IsOther (pairs_of bytes) edition

record IsOfStale (bytes ebuild : List ℕ) : Type 0 where
  text : IsPairsText bytes
  fields : AreFields (pairs_of bytes)
  old : ¬ IsEntry bytes ebuild

record IsOfBad (bytes : List ℕ) : Type 0 where
  no_other : IsPairsText bytes → HasNoOther (pairs_of bytes)
  no_fields : IsPairsText bytes → ¬ AreFields (pairs_of bytes)

abbrev Means : List ℕ → List ℕ → Reason → Type 0
Means bytes ebuild NoEbuild = ⊥
Means bytes ebuild Eapi = IsOfEapi bytes
Means bytes ebuild Stale = IsOfStale bytes ebuild
Means bytes ebuild BadEntry = IsOfBad bytes
Means bytes ebuild Keyword = ⊥
Means bytes ebuild Masked = ⊥

abbrev MeansOf : List ℕ → List ℕ → Refusal → Type 0
MeansOf bytes ebuild (Hidden reason) = Means bytes ebuild reason
MeansOf bytes ebuild Memory = ⊤

bad_text : (bytes : List ℕ) → ¬ IsPairsText bytes → IsOfBad bytes
bad_text bytes none = record { no_other = λ t. absurd (none t); no_fields = λ t. absurd (none t) }

some_line : (line : ℕ) → ◌≡◌ {A = PairFault} (pair_faults.NoEquals line) pair_faults.Memory → ⊥
some_line line e = cc e

means : (bytes ebuild : List ℕ) (fault : CacheFault) → FirstEntryFault bytes ebuild fault → MeansOf bytes ebuild (refusal_of fault)
means bytes ebuild faults.NotUtf8 f = bad_text bytes (λ t. f t.utf8)
means bytes ebuild (faults.NoEquals line) f = bad_text bytes (λ t. some_line line (no_line_fault (entry_lines bytes) (pair_faults.NoEquals line) t.split f.1))
means bytes ebuild (faults.Repeated key) f = bad_text bytes (λ t. no_repeated (keys_of (pairs_of bytes)) key t.once f.1.1)
means bytes ebuild (faults.Eapi text) f = record { text = f.0; edition = text; other = f.1 }
means bytes ebuild (faults.Field key) f = record {
  no_other = λ t. f.1.0;
  no_fields = λ t fields. elim f.1.1 [
    | inl e ↦ absurd (let none : None ≡ Some key = sym (all_there (pairs_of bytes) fields) ∙ e in cc none)
    | inr b ↦ none_bad b.1.0 (pairs_of bytes) key fields b.1.1 b.1.2
  ];
}
means bytes ebuild (faults.Stale recorded found) f = record {
  text = f.0;
  fields = f.1.0;
  old = λ is. not_outdated bytes ebuild (pairs_of bytes) (faults.Stale recorded found) is refl (recorded, found, refl, f.1.1);
}
means bytes ebuild faults.Memory f = tt

one_kind : (bytes ebuild : List ℕ) (a b : Reason) → Means bytes ebuild a → Means bytes ebuild b → a ≡ b
one_kind bytes ebuild NoEbuild b f g = absurd f
one_kind bytes ebuild Keyword b f g = absurd f
one_kind bytes ebuild Masked b f g = absurd f
one_kind bytes ebuild Eapi Eapi f g = refl
one_kind bytes ebuild Stale Stale f g = refl
one_kind bytes ebuild BadEntry BadEntry f g = refl
one_kind bytes ebuild Eapi Stale f g = absurd (no_other (pairs_of bytes) f.edition g.fields f.other)
one_kind bytes ebuild Stale Eapi f g = absurd (no_other (pairs_of bytes) g.edition f.fields g.other)
one_kind bytes ebuild Eapi BadEntry f g = absurd (g.no_other f.text f.edition f.other)
one_kind bytes ebuild BadEntry Eapi f g = absurd (f.no_other g.text g.edition g.other)
one_kind bytes ebuild Stale BadEntry f g = absurd (g.no_fields f.text f.fields)
one_kind bytes ebuild BadEntry Stale f g = absurd (f.no_fields g.text g.fields)
one_kind bytes ebuild a NoEbuild f g = absurd g
one_kind bytes ebuild a Keyword f g = absurd g
one_kind bytes ebuild a Masked f g = absurd g

-- an entry has no fault
no_kind : (bytes ebuild : List ℕ) (a : Reason) → IsEntry bytes ebuild → Means bytes ebuild a → ⊥
no_kind bytes ebuild NoEbuild is f = f
no_kind bytes ebuild Eapi is f = no_other (pairs_of bytes) f.edition is.fields f.other
no_kind bytes ebuild Stale is f = f.old is
no_kind bytes ebuild BadEntry is f = f.no_fields is.text is.fields
no_kind bytes ebuild Keyword is f = f
no_kind bytes ebuild Masked is f = f

module _ (rules : VisibleRules) (id : PackageId) (bytes : List ℕ) (ebuild : Option (List ℕ)) where
  fault_means : (a : Reason) (text : List ℕ) → ebuild ≡ Some text → HasFault bytes ebuild a → Means bytes text a
  fault_means a text there h =
      let same : h.text ≡ text = same_Some h.text text (sym h.there ∙ there) in
      subst (λ (t : List ℕ). Means bytes t a) same (subst (MeansOf bytes h.text) h.kind (means bytes h.text h.fault h.first))

  has_no_fault : (e : CacheEntryValue) (a : Reason) → HasEntry id bytes ebuild e → HasFault bytes ebuild a → ⊥
  has_no_fault e a has h = no_kind bytes has.text a has.entry (fault_means a has.text has.there h)

  nothing : (text : List ℕ) → ebuild ≡ None → ebuild ≡ Some text → ⊥
  nothing text none some = let e : None ≡ Some text = sym none ∙ some in cc e

  none_only : (b : Reason) → ebuild ≡ None → IsReason rules id bytes ebuild b → NoEbuild ≡ b
  none_only NoEbuild none g = refl
  none_only Eapi none g = absurd (nothing g.text none g.there)
  none_only Stale none g = absurd (nothing g.text none g.there)
  none_only BadEntry none g = absurd (nothing g.text none g.there)
  none_only Keyword none g = absurd (nothing g.has.text none g.has.there)
  none_only Masked none g = absurd (nothing g.has.text none g.has.there)

  one_fault : (a b : Reason) → HasFault bytes ebuild a → HasFault bytes ebuild b → a ≡ b
  one_fault a b f g = one_kind bytes f.text a b (fault_means a f.text f.there f) (fault_means b f.text f.there g)

  fault_only : (a b : Reason) → HasFault bytes ebuild a → IsReason rules id bytes ebuild b → a ≡ b
  fault_only a NoEbuild f g = absurd (nothing f.text g f.there)
  fault_only a Eapi f g = one_fault a Eapi f g
  fault_only a Stale f g = one_fault a Stale f g
  fault_only a BadEntry f g = one_fault a BadEntry f g
  fault_only a Keyword f g = absurd (has_no_fault g.e a g.has f)
  fault_only a Masked f g = absurd (has_no_fault g.e a g.has f)

  one_kept : SaysOnce → (a b : Reason) → IsKeptBack rules id bytes ebuild a → IsKeptBack rules id bytes ebuild b → a ≡ b
  one_kept once a b f g = same_Some a b (sym f.kept ∙ (kept_alike rules (pairs_of bytes) id f.e g.e once f.has.tells g.has.tells ∙ g.kept))

  kept_only : SaysOnce → (a b : Reason) → IsKeptBack rules id bytes ebuild a → IsReason rules id bytes ebuild b → a ≡ b
  kept_only once a NoEbuild f g = absurd (nothing f.has.text g f.has.there)
  kept_only once a Eapi f g = absurd (has_no_fault f.e Eapi f.has g)
  kept_only once a Stale f g = absurd (has_no_fault f.e Stale f.has g)
  kept_only once a BadEntry f g = absurd (has_no_fault f.e BadEntry f.has g)
  kept_only once a Keyword f g = one_kept once a Keyword f g
  kept_only once a Masked f g = one_kept once a Masked f g

  -- a candidate has one reason at most
  pub one_reason : SaysOnce → (a b : Reason) → IsReason rules id bytes ebuild a → IsReason rules id bytes ebuild b → a ≡ b
  one_reason once NoEbuild b f g = none_only b f g
  one_reason once Eapi b f g = fault_only Eapi b f g
  one_reason once Stale b f g = fault_only Stale b f g
  one_reason once BadEntry b f g = fault_only BadEntry b f g
  one_reason once Keyword b f g = kept_only once Keyword b f g
  one_reason once Masked b f g = kept_only once Masked b f g

  not_kept : SaysOnce → (e : CacheEntryValue) (b : Reason) → IsVisible rules id bytes ebuild e → IsKeptBack rules id bytes ebuild b → ⊥
  not_kept once e b f g =
      let none : None ≡ Some b = sym f.free ∙ (kept_alike rules (pairs_of bytes) id e g.e once f.has.tells g.has.tells ∙ g.kept) in
      cc none

  -- and one that is visible has none
  pub no_reason : SaysOnce → (e : CacheEntryValue) (b : Reason) → IsVisible rules id bytes ebuild e → IsReason rules id bytes ebuild b → ⊥
  no_reason once e NoEbuild f g = nothing f.has.text g f.has.there
  no_reason once e Eapi f g = has_no_fault e Eapi f.has g
  no_reason once e Stale f g = has_no_fault e Stale f.has g
  no_reason once e BadEntry f g = has_no_fault e BadEntry f.has g
  no_reason once e Keyword f g = not_kept once e Keyword f g
  no_reason once e Masked f g = not_kept once e Masked f g

  -- what is answered where there is a reason
  pub told : SaysOnce → (r : Result CacheEntryValue Refusal) → IfOk r (IsVisible rules id bytes ebuild) → IfErr r (IsRefused rules id bytes ebuild) → (reason : Reason) → IsReason rules id bytes ebuild reason
      → MatchResult r (λ _. ⊥) (λ x. (x ≡ Hidden reason) ⊎ (x ≡ Memory))
  told once (Ok e) visible refused reason is = no_reason once e reason visible is
  told once (Err (Hidden other)) visible refused reason is = inl (ap Hidden (one_reason once other reason refused is))
  told once (Err Memory) visible refused reason is = inr refl
