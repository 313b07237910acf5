use Rattle.std.proofs.Common.{◌≡◌, Bool, true, false, List, ℕ, inl, inr}
use Rattle.std.specs.Str.{IsUtf8, is_utf8}
use Rattle.std.proofs.lemmas.Bool.{cases_Bool}
use Rattle.std.proofs.lemmas.Str.{IsUtf8-from_is_utf8, is_utf8-from_IsUtf8}
use Rattle.std.proofs.Common.{sym}
use Rattle.file_link.proofs.is_text.Goals as goal

told_not : (bs : List ℕ) → (IsUtf8 bs → ⊥) → false ≡ is_utf8 bs
told_not bs none = elim (cases_Bool (is_utf8 bs)) [ inl e ↦ absurd (none (IsUtf8-from_is_utf8 bs e)) | inr e ↦ sym e ]

pub returns-in-Ok : goal.returns-in-Ok
returns-in-Ok c = sym (is_utf8-from_IsUtf8 c.args.bytes.now c.in-Ok.ensures.cases.1)

pub returns-in-Err : goal.returns-in-Err
returns-in-Err c = told_not c.args.bytes.now c.in-Err.ensures.cases.0
