use Rattle.std.proofs.Common.{◌∙◌, ◌∷◌, [], ◌≡◌, ap, sym, subst, drop, get_or, true}
use Rattle.basics.specs.Bytes.{is_lower}
use Rattle.pms_version.specs.Steps.{HasReadLetter}
use Rattle.pms_version.proofs.Steps.{a_letter, no_letter, short_behind}
use Rattle.pms_version.proofs.reading.read_letter.Goals as goal

pub returns-then-is_lower-clause-letter : goal.returns-then-is_lower-clause-letter
returns-then-is_lower-clause-letter c =
    let bytes = c.args.bytes.now in
    let lower : is_lower (get_or bytes 0 0) ≡ true = ap is_lower (sym c.byte_at-first.ensures) ∙ (sym c.is_lower.ensures ∙ c.if-is_lower.true) in
    let letter : HasReadLetter bytes (c.byte_at-first.result ∷ []) (drop 1 bytes) = subst (λ b. HasReadLetter bytes (b ∷ []) (drop 1 bytes)) (sym c.byte_at-first.ensures) (a_letter bytes lower) in
    subst (λ xs. HasReadLetter bytes (c.byte_at-first.result ∷ []) xs) (sym c.skip.ensures) letter

pub returns-then-is_lower-clause-rest : goal.returns-then-is_lower-clause-rest
returns-then-is_lower-clause-rest c = short_behind 1 c.args.bytes.now c.skip.result.now c.skip.ensures c.requires

pub returns-else-is_lower-clause-letter : goal.returns-else-is_lower-clause-letter
returns-else-is_lower-clause-letter c =
    no_letter c.args.bytes.now (ap is_lower (sym c.byte_at-first.ensures) ∙ (sym c.is_lower.ensures ∙ c.if-is_lower.false))
