-- The values of pairs of fields are in form.
use Rattle.std.proofs.Common.{◌≡◌, ◌∙◌, ℕ, Bool, true, false, cond, List, [], ◌∷◌, Ok, Option, Result, Some, ap, refl, subst, sym}
use Rattle.std.specs.Prelude.{IsSome, bytes_eq, codes, unwrap_or}
use Rattle.std.specs.List.{AllByRecursion}
use Rattle.std.proofs.lemmas.Slice.Eq.{bytes_eq-Decides}
use Rattle.file_digest.specs.Digests.{IsNoDigestText, WritesDigest}
use Rattle.hex.proofs.HexLemmas.{decode_of-encode_lower}
use Rattle.hex.specs.Hex.{decode_of}
use Rattle.hex.specs.declared.error.FromHexError.{FromHexError}
use Rattle.md5.specs.Md5.{md5}
use Rattle.pms_slot.specs.Reading.{SaysNone}
use Rattle.pms_slot.specs.Slots.{IsSlotValue}
use Rattle.md5_cache.specs.Entries.{value_of}
use Rattle.md5_cache.specs.EntryFaults.{FirstEntryFault, IsEntry, IsOutdated, Records, of_fields}
use Rattle.md5_cache.specs.FieldFaults.{FirstFieldFault}
use Rattle.pkg_state.specs.declared.eapi.Eapi.{Eapi}
use Rattle.md5_cache.specs.Fields.{AreFields, IsGood, IsFieldInForm, field_of, value_under}
use Rattle.md5_cache.specs.Pairs.{IsPairsText, pairs_of}
use Rattle.md5_cache.specs.declared.fault.CacheFault.{CacheFault}
use Rattle.md5_cache.specs.declared.fault.FieldFault.{FieldFault}
use Rattle.md5_cache.specs.declared.fault.FieldFault.TheVariants as faults
use Rattle.md5_cache.specs.declared.field.Field.TheVariants.{Digest, Slot}
use Rattle.md5_cache.specs.declared.pair.Pair.{Pair}

either : (e : Eapi) (b : Bool) (p : Pair) (rest : Option (List ℕ)) (key : List ℕ) → (b ≡ true → p.key ≡ key) → IsGood e p → (IsSome rest → IsFieldInForm (field_of e key) (unwrap_or rest []))
    → IsSome (cond b (Some p.value) rest) → IsFieldInForm (field_of e key) (unwrap_or (cond b (Some p.value) rest) [])
either e true p rest key same good later there = subst (λ (k : List ℕ). IsFieldInForm (field_of e k) p.value) (same refl) good
either e false p rest key same good later there = later there

in_form : (e : Eapi) (pairs : List Pair) (key : List ℕ) → AllByRecursion (IsGood e) pairs → IsSome (value_under pairs key) → IsFieldInForm (field_of e key) (value_of pairs key)
in_form e [] key each there = absurd (cc there)
in_form e (p ∷ pairs) key each there =
    either e (bytes_eq p.key key) p (value_under pairs key) key (λ same. (bytes_eq-Decides p.key key).0 same) each.0 (in_form e pairs key each.1) there

pub slots_are_said : (pairs : List Pair) (text : List ℕ) → AreFields pairs → text ≡ value_of pairs (codes "SLOT") → SaysNone text → ⊥
slots_are_said pairs text (e, f) is none =
    let form : IsFieldInForm Slot (value_of pairs (codes "SLOT")) = in_form e pairs (codes "SLOT") f.each f.slot in
    none form.0 form.1 (subst (λ (t : List ℕ). IsSlotValue t form.0 form.1) (sym is) form.2)

pub digest_is_said : (pairs : List Pair) (text : List ℕ) → AreFields pairs → text ≡ value_of pairs (codes "_md5_") → IsNoDigestText text → ⊥
digest_is_said pairs text (e, f) is none =
    let form : IsFieldInForm Digest (value_of pairs (codes "_md5_")) = in_form e pairs (codes "_md5_") f.each f.digest in
    none form.0 (subst (λ (t : List ℕ). WritesDigest t form.0) (sym is) form.1)

-- a text writes one digest
same_ok : (r : Result (List ℕ) FromHexError) (x y : List ℕ) → r ≡ Ok x → r ≡ Ok y → x ≡ y
same_ok r x y e f = let both : Ok x ≡ Ok y = sym e ∙ f in cc

one_digest : (text a b : List ℕ) → WritesDigest text a → WritesDigest text b → a ≡ b
one_digest text a b x y =
    same_ok (decode_of text) a b (ap decode_of x.spelled ∙ decode_of-encode_lower a x.form.bytes) (ap decode_of y.spelled ∙ decode_of-encode_lower b y.form.bytes)

pub not_outdated : (bytes ebuild : List ℕ) (pairs : List Pair) (fault : CacheFault) → IsEntry bytes ebuild → pairs ≡ pairs_of bytes → IsOutdated pairs ebuild fault → ⊥
not_outdated bytes ebuild pairs fault entry is o =
    let fresh : Records pairs (md5 ebuild) = subst (λ (ps : List Pair). Records ps (md5 ebuild)) (sym is) entry.fresh in
    o.3.other (one_digest (value_of pairs (codes "_md5_")) o.0 (md5 ebuild) o.3.written fresh ∙ sym o.3.right)

pub fields_fault : (bytes ebuild : List ℕ) (pairs : List Pair) (fault : FieldFault) → IsPairsText bytes → pairs ≡ pairs_of bytes → FirstFieldFault pairs fault
    → FirstEntryFault bytes ebuild (of_fields fault)
fields_fault bytes ebuild pairs (faults.Eapi text) utf8 is h = (utf8, subst (λ (ps : List Pair). FirstFieldFault ps (faults.Eapi text)) is h)
fields_fault bytes ebuild pairs (faults.Field key) utf8 is h = (utf8, subst (λ (ps : List Pair). FirstFieldFault ps (faults.Field key)) is h)
fields_fault bytes ebuild pairs faults.Memory utf8 is h = tt
