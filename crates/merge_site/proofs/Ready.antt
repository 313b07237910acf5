-- Which groups may begin.
use Rattle.std.proofs.Common.{◌≡◌, ◌<◌, ◌≤◌, ◌∷◌, ◌∙◌, ℕ, zero, suc, Bool, false, List, [], Some, ap, refl, sym, length, arith}
use Rattle.std.specs.Prelude.{IsTrue, slice_get, slice_index_or}
use Rattle.std.proofs.lemmas.Option.{slice_get_within}
use Rattle.merge_core.specs.CoreValue.{CoreValue}
use Rattle.merge_core.specs.Phase.{Idle}
use Rattle.merge_site.specs.declared.group.SiteGroup.{SiteGroup}
use Rattle.merge_site.specs.Waiting.{IsReady, are_told, phase_in}

-- what stands at a place of a list
pub at_place : (xs : List SiteGroup) (g : ℕ) (d : SiteGroup) → g < length xs → slice_get xs g ≡ Some (slice_index_or xs g d)
at_place [] g d less = absurd (omega arith)
at_place (x ∷ xs) zero d less = refl
at_place (x ∷ xs) (suc g) d less = at_place xs g d (omega arith)

pub ready_if : (k : CoreValue) (xs : List SiteGroup) (g : ℕ) (y : SiteGroup) (hs : List ℕ) (told : Bool) → slice_get xs g ≡ Some y → phase_in k g ≡ Idle → hs ≡ y.after.items → told ≡ are_told k hs → IsTrue told → IsReady k xs g
ready_if k xs g y hs told there rests after same all = record {
  group = y;
  there = there;
  rests = rests;
  told = ap (are_told k) (sym after) ∙ (sym same ∙ all);
}

pub not_ready : (k : CoreValue) (xs : List SiteGroup) (g : ℕ) (y : SiteGroup) (hs : List ℕ) (told : Bool) → slice_get xs g ≡ Some y → hs ≡ y.after.items → told ≡ are_told k hs → told ≡ false → IsReady k xs g → ⊥
not_ready k xs g y hs told there after same fails ready =
    let here : y ≡ ready.group = cc (sym there ∙ ready.there) in
    let all = ap (are_told k) (after ∙ ap (λ (x : SiteGroup). x.after.items) here) ∙ ready.told in
    absurd (cc (sym fails ∙ (same ∙ all)))

-- none is ready where none of the groups that there are is
pub none_ready : (k : CoreValue) (xs : List SiteGroup) (n : ℕ) → length xs ≤ n → ((h : ℕ) → h < n → IsReady k xs h → ⊥) → (g : ℕ) → IsReady k xs g → ⊥
none_ready k xs n all none g ready =
    let less = slice_get_within xs g ready.group ready.there in
    none g (omega (arith, less, all)) ready
