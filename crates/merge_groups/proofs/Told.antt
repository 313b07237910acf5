-- The texts of groups, one after another.
use Rattle.std.proofs.Common.{◌≡◌, ◌∙◌, ◌<◌, ◌+◌, ◌++◌, ℕ, List, [], ◌∷◌, ap, arith, get_or, inl, inr, length, subst, sym}
use Rattle.std.specs.List.{AllByRecursion}
use Rattle.std.proofs.lemmas.Bool.{cases_order}
use Rattle.std.proofs.lemmas.List.{get_or_append_left, get_or_at, length_push}
use Rattle.basics.proofs.Each.{all-push}
use Rattle.pkg_state.specs.Package.{Package}
use Rattle.plan_law.specs.Plans.{Group, group_at}
use Rattle.plan_text.specs.Plans.{GroupValue}
use Rattle.merge_groups.specs.Formed.{AreWords}
use Rattle.merge_groups.specs.Written.{IsGroupText, no_text}

-- the texts of the first so many groups, whose words are in form
pub record AreFirst (plan : List Group) (start : List Package) (n : ℕ) (texts : List GroupValue) : Type 0 where
  pub each : length texts ≡ n
  pub group : (g : ℕ) → g < n → IsGroupText plan start g (group_at plan g) (get_or texts g no_text)
  pub words : AllByRecursion AreWords texts

pub first_more : (plan : List Group) (start : List Package) (n : ℕ) (texts : List GroupValue) (t : GroupValue) → AreFirst plan start n texts → IsGroupText plan start n (group_at plan n) t → AreWords t → AreFirst plan start (n + 1) (texts ++ t ∷ [])
first_more plan start n texts t are is words = record {
  each = length_push texts t ∙ ap (λ (m : ℕ). m + 1) are.each;
  group = λ g less. elim (cases_order g n) [
    | inl same ↦ subst (λ (x : GroupValue). IsGroupText plan start g (group_at plan g) x) (sym (get_or_at texts t [] no_text g (are.each ∙ sym same)))
        (subst (λ (m : ℕ). IsGroupText plan start m (group_at plan m) t) (sym same) is)
    | inr (inl below) ↦ subst (λ (x : GroupValue). IsGroupText plan start g (group_at plan g) x) (sym (get_or_append_left texts (t ∷ []) no_text g (omega (arith, below, are.each)))) (are.group g below)
    | inr (inr above) ↦ absurd (omega (arith, less, above))
  ];
  words = all-push AreWords texts t are.words words;
}
