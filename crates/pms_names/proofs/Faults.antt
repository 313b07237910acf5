-- A text has one first fault.
use Rattle.std.specs.Prelude.{false, true}
use Rattle.std.proofs.Common.{◌≡◌, ℕ, inl, inr, List, slice_index, refl, ap, arith}
use Rattle.std.proofs.lemmas.Bool.{cases_lt}
use Rattle.pms_names.specs.declared.kind.Kind.{Kind}
use Rattle.pms_names.specs.declared.fault.NameFault.{NameFault}
use Rattle.pms_names.specs.declared.fault.NameFault.TheVariants.{Empty, BadChar, BadStart, EndsLikeVersion, TooLong, Memory}
use Rattle.pms_names.specs.Bytes.{may_contain, begins_badly}
use Rattle.pms_names.specs.Names.{AreNameBytes, IsFirstBadByte, IsName, FirstFault}

unlike : {A : Type 0} (kind : Kind) (b : ℕ) → may_contain kind b ≡ true → may_contain kind b ≡ false → A
unlike kind b h k = absurd (cc)

well_begun : {A : Type 0} (kind : Kind) (b : ℕ) → begins_badly kind b ≡ true → begins_badly kind b ≡ false → A
well_begun kind b h k = absurd (cc)

one_bad_byte : (kind : Kind) (bytes : List ℕ) (m n : ℕ) → IsFirstBadByte kind bytes m → IsFirstBadByte kind bytes n → m ≡ n
one_bad_byte kind bytes m n f g = elim (cases_lt m n) [
  | inl below ↦ unlike kind (slice_index bytes m) (g.before m below) f.bad
  | inr from ↦ elim (cases_lt n m) [
    | inl above ↦ unlike kind (slice_index bytes n) (f.before n above) g.bad
    | inr to ↦ omega arith
  ]
]

no_bad_byte : {A : Type 0} (kind : Kind) (bytes : List ℕ) (at : ℕ) → AreNameBytes kind bytes → IsFirstBadByte kind bytes at → A
no_bad_byte kind bytes at each bad = unlike kind (slice_index bytes at) (each at bad.within) bad.bad

pub no_fault : (kind : Kind) (bytes : List ℕ) (a : NameFault) → IsName kind bytes → FirstFault kind bytes a → a ≡ Memory
no_fault kind bytes Empty is f = absurd (omega (arith, f, is.spelled.sized.some))
no_fault kind bytes TooLong is f = absurd (omega (arith, f, is.spelled.sized.short))
no_fault kind bytes BadStart is f = well_begun kind (slice_index bytes 0) f.1 is.spelled.begins
no_fault kind bytes (BadChar at) is f = no_bad_byte kind bytes at is.spelled.each f.2
no_fault kind bytes EndsLikeVersion is f = absurd (is.ends f.1)
no_fault kind bytes Memory is f = refl

pub one_fault : (kind : Kind) (bytes : List ℕ) (a b : NameFault) → FirstFault kind bytes a → FirstFault kind bytes b → (a ≡ Memory → ⊥) → (b ≡ Memory → ⊥) → a ≡ b
one_fault kind bytes Memory b f g p q = absurd (p refl)
one_fault kind bytes a Memory f g p q = absurd (q refl)
one_fault kind bytes Empty Empty f g p q = refl
one_fault kind bytes TooLong TooLong f g p q = refl
one_fault kind bytes BadStart BadStart f g p q = refl
one_fault kind bytes EndsLikeVersion EndsLikeVersion f g p q = refl
one_fault kind bytes (BadChar m) (BadChar n) f g p q = ap BadChar (one_bad_byte kind bytes m n f.2 g.2)
one_fault kind bytes Empty TooLong f g p q = absurd (omega (arith, f, g))
one_fault kind bytes Empty BadStart f g p q = absurd (omega (arith, f, g.0.some))
one_fault kind bytes Empty (BadChar n) f g p q = absurd (omega (arith, f, g.0.some))
one_fault kind bytes Empty EndsLikeVersion f g p q = absurd (omega (arith, f, g.0.sized.some))
one_fault kind bytes TooLong Empty f g p q = absurd (omega (arith, f, g))
one_fault kind bytes TooLong BadStart f g p q = absurd (omega (arith, f, g.0.short))
one_fault kind bytes TooLong (BadChar n) f g p q = absurd (omega (arith, f, g.0.short))
one_fault kind bytes TooLong EndsLikeVersion f g p q = absurd (omega (arith, f, g.0.sized.short))
one_fault kind bytes BadStart Empty f g p q = absurd (omega (arith, g, f.0.some))
one_fault kind bytes BadStart TooLong f g p q = absurd (omega (arith, g, f.0.short))
one_fault kind bytes BadStart (BadChar n) f g p q = well_begun kind (slice_index bytes 0) f.1 g.1
one_fault kind bytes BadStart EndsLikeVersion f g p q = well_begun kind (slice_index bytes 0) f.1 g.0.begins
one_fault kind bytes (BadChar m) Empty f g p q = absurd (omega (arith, g, f.0.some))
one_fault kind bytes (BadChar m) TooLong f g p q = absurd (omega (arith, g, f.0.short))
one_fault kind bytes (BadChar m) BadStart f g p q = well_begun kind (slice_index bytes 0) g.1 f.1
one_fault kind bytes (BadChar m) EndsLikeVersion f g p q = no_bad_byte kind bytes m g.0.each f.2
one_fault kind bytes EndsLikeVersion Empty f g p q = absurd (omega (arith, g, f.0.sized.some))
one_fault kind bytes EndsLikeVersion TooLong f g p q = absurd (omega (arith, g, f.0.sized.short))
one_fault kind bytes EndsLikeVersion BadStart f g p q = well_begun kind (slice_index bytes 0) g.1 f.0.begins
one_fault kind bytes EndsLikeVersion (BadChar n) f g p q = no_bad_byte kind bytes n f.0.each g.2
