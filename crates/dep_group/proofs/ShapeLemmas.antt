-- What the shape of a word says of its bytes.
use Rattle.std.specs.Prelude.{not, if◌then◌else◌}
use Rattle.std.specs.Str.{IsUtf8, IsCharBoundary}
use Rattle.std.proofs.Common.{◌≡◌, ℕ, ◌<◌, ◌∙◌, Bool, true, false, List, [], ◌∷◌, length, get_or, refl, arith}
use Rattle.std.proofs.lemmas.Str.{IsCharBoundary-after_ascii}
use Rattle.std.proofs.lemmas.Bool.{eqb-true, not-false}
use Rattle.dep_group.specs.declared.shape.Shape.TheVariants.{Opens, Closes, Glued, AnyOf, ExactlyOne, AtMostOne, When, Item}
use Rattle.dep_group.specs.Shapes.{IsCondition, shape, asks, denies}

when_chosen : (a b c d e f g n on : Bool) → (if a then Opens else if b then Closes else if c then Glued else if d then AnyOf else if e then ExactlyOne else if f then AtMostOne else if g then When n else Item) ≡ When on → (g ≡ true) × (n ≡ on)
when_chosen true b c d e f g n on h = absurd (cc)
when_chosen false true c d e f g n on h = absurd (cc)
when_chosen false false true d e f g n on h = absurd (cc)
when_chosen false false false true e f g n on h = absurd (cc)
when_chosen false false false false true f g n on h = absurd (cc)
when_chosen false false false false false true g n on h = absurd (cc)
when_chosen false false false false false false true n on h = (refl, cc)
when_chosen false false false false false false false n on h = absurd (cc)

-- a condition ends in a question mark, and begins with an exclamation mark exactly where the flag is to be off
pub shape-when : (brackets : Bool) (word : List ℕ) (on : Bool) → shape brackets word ≡ When on → (asks word ≡ true) × (not (denies word) ≡ on)
shape-when brackets word on h = when_chosen _ _ _ _ _ _ _ _ _ h

-- a word that begins with an exclamation mark may be cut behind it
pub denies-boundary : (word : List ℕ) (on : Bool) → IsUtf8 word → on ≡ false → IsCondition word on → IsCharBoundary word 1
denies-boundary word on utf8 off h =
    let when = shape-when h.0 word on h.1 in
    let first : get_or word 0 0 ≡ 33 = eqb-true (get_or word 0 0) 33 (not-false (denies word) (when.1 ∙ off)) in
    IsCharBoundary-after_ascii word 0 utf8 (long word first) (omega arith)
  where
    long : (w : List ℕ) → get_or w 0 0 ≡ 33 → 0 < length w
    long [] e = absurd (omega arith)
    long (b ∷ w) e = omega arith
