-- The text of an MD5 digest.
use Rattle.std.specs.Prelude.{◌≡◌, ℕ, List, length}
use Rattle.hex.specs.Hex.{IsBytes, encode_lower}

-- 16 bytes
pub record IsDigest (digest : List ℕ) : Type 0 where
  pub long : length digest ≡ 16
  pub bytes : IsBytes digest

-- the text is that of the digest, in lower case
pub record WritesDigest (text digest : List ℕ) : Type 0 where
  pub form : IsDigest digest
  pub spelled : text ≡ encode_lower digest

abbrev pub IsNoDigestText : List ℕ → Type 0
IsNoDigestText text = (digest : List ℕ) → ¬ WritesDigest text digest
