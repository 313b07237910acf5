-- Changes that say of flags what words say of them.
use Rattle.std.proofs.Common.{◌≡◌, ◌∙◌, ◌||◌, ◌&&◌, ℕ, Bool, true, false, cond, not, List, [], ◌∷◌, Option, None, Some, ap, refl, sym}
use Rattle.std.specs.Prelude.{bytes_eq, unwrap_or}
use Rattle.std.specs.Option.{option_map_or}
use Rattle.std.proofs.lemmas.List.Sums.{fold-append}
use Rattle.std.proofs.lemmas.Slice.Eq.{bytes_eq-Decides}
use Rattle.basics.proofs.Texts.{bytes_eq-same}
use Rattle.pms_names.specs.Flags.{has}
use Rattle.use_flags.specs.Changes.{changed, has_after}
use Rattle.use_flags.specs.declared.change.Change.{Change}
use Rattle.visible_offers.specs.Layers.{change_said, change_to, changes_by}
use Rattle.visible_offers.specs.Words.{after_words, said}
use Rattle.visible_offers.specs.declared.word.FlagWord.{FlagWord}

-- the change of a flag puts it where it is to be
put : (q : List ℕ) (on had : Bool) → changed q had (change_to q on) ≡ on
put q true had = ap (λ (b : Bool). b || had) (bytes_eq-same q)
put q false had = ap (λ (b : Bool). not b && had) (bytes_eq-same q)

-- and leaves another one
left : (q f : List ℕ) (on had : Bool) → bytes_eq q f ≡ false → changed q had (change_to f on) ≡ had
left q f true had other = ap (λ (b : Bool). b || had) other
left q f false had other = ap (λ (b : Bool). not b && had) other

abbrev changes_if : Option Bool → List ℕ → List Change
changes_if s f = option_map_or (λ (on : Bool). change_to f on ∷ []) s []

put_if : (s : Option Bool) (q : List ℕ) (had : Bool) → has_after (changes_if s q) q had ≡ unwrap_or s had
put_if None q had = refl
put_if (Some on) q had = put q on had

left_if : (s : Option Bool) (q f : List ℕ) (had : Bool) → bytes_eq q f ≡ false → has_after (changes_if s f) q had ≡ had
left_if None q f had other = refl
left_if (Some on) q f had other = left q f on had other

twice : (s : Option Bool) (had : Bool) → unwrap_or s (unwrap_or s had) ≡ unwrap_or s had
twice None had = refl
twice (Some on) had = refl

both_same : (b : Bool) (x y : Bool) → x ≡ y → cond b x y ≡ y
both_same true x y same = same
both_same false x y same = refl

module _ (words : List FlagWord) (q : List ℕ) where
  -- what all these changes make of a flag
  pub said_after : (known : List (List ℕ)) (had : Bool) → has_after (changes_by words known) q had ≡ cond (has known q) (after_words words q had) had
  said_after [] had = refl
  said_after (f ∷ fs) had =
      fold-append (changed q) had (change_said words f) (changes_by words fs)
      ∙ (said_after fs (has_after (change_said words f) q had)
      ∙ by_flag (bytes_eq q f) refl)
    where
      by_flag : (b : Bool) → bytes_eq q f ≡ b → cond (has fs q) (after_words words q (has_after (change_said words f) q had)) (has_after (change_said words f) q had) ≡ cond (b || has fs q) (after_words words q had) had
      by_flag true same =
          let own : f ≡ q = sym ((bytes_eq-Decides q f).0 same) in
          let now : has_after (change_said words f) q had ≡ after_words words q had = ap (λ (g : List ℕ). has_after (changes_if (said words g) g) q had) own ∙ put_if (said words q) q had in
          ap (λ (b : Bool). cond (has fs q) (after_words words q b) b) now ∙ both_same (has fs q) _ _ (twice (said words q) had)
      by_flag false other = ap (λ (b : Bool). cond (has fs q) (after_words words q b) b) (left_if (said words f) q f had other)

  pub said_of_known : (known : List (List ℕ)) (changes : List Change) → changes ≡ changes_by words known → has known q ≡ true → (had : Bool) → has_after changes q had ≡ after_words words q had
  said_of_known known changes are knows had =
      ap (λ (cs : List Change). has_after cs q had) are
      ∙ (said_after known had
      ∙ ap (λ (b : Bool). cond b (after_words words q had) had) knows)
