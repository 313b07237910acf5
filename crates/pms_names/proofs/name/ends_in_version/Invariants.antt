use Rattle.std.proofs.Common.{◌≡◌, ℕ, ◌+◌, ◌<◌, drop, slice_index}
use Rattle.pms_grammar.specs.Grammar.{IsVersionText}
use Rattle.pms_names.specs.Bytes.{hyphen}
use Rattle.pms_names.proofs.name.ends_in_version.Given as goal

abbrev pub invariant-loop-i : goal.invariant-loop-i
invariant-loop-i l = (k : ℕ) → k < l.i → slice_index l.bytes k ≡ hyphen → IsVersionText (drop (k + 1) l.bytes) → ⊥
