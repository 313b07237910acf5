-- One more text in a set of texts.
use denote.Ref.{Bor}
use Rattle.std.proofs.Common.{◌≡◌, ◌∙◌, ◌||◌, ℕ, Bool, true, false, cond, List, Option, Some, ap, refl}
use Rattle.std.specs.Prelude.{bytes_eq, is_some}
use Rattle.std.specs.BTreeMap.{BTreeMap, get_by}
use Rattle.std.specs.Cmp.Lexicographic.{slice_cmp}
use Rattle.std.specs.Ordering.{nat_cmp}
use Rattle.basics.proofs.Texts.{bytes_eq-swap}
use Rattle.visible_rules.specs.Heard.{is_in}

abbrev found : BTreeMap (Bor (List ℕ)) (Unit {0}) → List ℕ → Option (Unit {0})
found set q = get_by (λ k. slice_cmp nat_cmp q k.now) set

either : (b : Bool) (o : Option (Unit {0})) → is_some (cond b (Some tt) o) ≡ (is_some o || (b || false))
either true o = last (is_some o) where
  last : (b : Bool) → true ≡ (b || true)
  last true = refl
  last false = refl
either false o = last (is_some o) where
  last : (b : Bool) → b ≡ (b || false)
  last true = refl
  last false = refl

pub put_text : (text : List ℕ) (old new : BTreeMap (Bor (List ℕ)) (Unit {0})) (q : List ℕ) → found new q ≡ cond (bytes_eq text q) (Some tt) (found old q) → is_in new q ≡ (is_in old q || (bytes_eq q text || false))
put_text text old new q after =
    ap is_some after ∙ (either (bytes_eq text q) (found old q) ∙ ap (λ (b : Bool). is_in old q || (b || false)) (bytes_eq-swap text q))
