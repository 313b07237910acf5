-- What writing leaves, and what is known of what was written.
use Rattle.std.proofs.Common.{◌≡◌, ℕ, ◌<◌, ◌^◌, true, cond, List, ◌++◌, length, Result, Ok, Err, is_ok, ap, subst, ◌∙◌, arith}
use Rattle.std.specs.Prelude.{OnOk}
use Rattle.std.specs.Str.{IsUtf8, is_utf8}
use Rattle.std.proofs.lemmas.Str.{is_utf8-from_IsUtf8}
use Rattle.std.proofs.lemmas.Bool.{and_from}
use Rattle.file_tree.specs.Paths.{is_path}
use Rattle.file_tree.specs.Paths.{IsPathText}

-- a text at the end, unless memory ran out
pub appended : {T E : Type 0} (r : Result T E) (old new other text : List ℕ) → new ≡ cond (is_ok r) (old ++ other) old → other ≡ text → OnOk r (new ≡ old ++ text)
appended (Ok x) old new other text e same = e ∙ ap (λ (t : List ℕ). old ++ t) same
appended (Err x) old new other text e same = tt

-- the text of a path is one
pub path_form : (text path : List ℕ) → text ≡ path → IsUtf8 text → is_path path ≡ true → IsPathText path
path_form text path same utf8 form = and_from (is_utf8 path) (is_path path) (is_utf8-from_IsUtf8 path (subst IsUtf8 same utf8)) form

pub text_fits : (text path : List ℕ) → text ≡ path → length path < 256 ^ 2 → length text < 2 ^ 16
text_fits text path same short = omega (arith, ap length same)
