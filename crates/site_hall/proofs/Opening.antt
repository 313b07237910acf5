-- The rule holds of a hall that was just opened.
use Rattle.std.proofs.Common.{◌≡◌, ◌<◌, ◌^◌, ℕ, zero, suc, List, [], ◌∷◌, Option, Some, inl, refl, sym, ap, subst, ◌∙◌, arith}
use mathlib.Core.Option as maybe
use mathlib.Core.Option.{none, some, some-injective, some-ne-none}
use lib.ListN.{get_elem?}
use Rattle.merge_core.specs.Trail.{Entry}
use Rattle.site_hall.specs.declared.views.About.{About}
use Rattle.site_hall.specs.declared.views.View.{View}
use Rattle.std.specs.Prelude.{map}
use Rattle.atomic_table.specs.Table.{opening}
use Rattle.site_hall.specs.Rule.{Fits, Kept}
use Rattle.site_hall.specs.Views.{first_view}

module _ {A : Type 0} where
  only_place : (a b : A) (j : ℕ) → get_elem? (a ∷ []) j ≡ some b → (j ≡ 0) × (a ≡ b)
  only_place a b zero e = (refl, some-injective a b e)
  only_place a b (suc j) e = absurd (some-ne-none b (sym e))

module _ {S : Type 0} (log : S → List Entry) (Same : S → S → Type 0) (about : About S) (x : S) where
  fits_first : (j : ℕ) → Fits about.first 0 0 [] maybe.none j (first_view about.first about.parts)
  fits_first j = record {
    of = λ _. refl;
    knows = ([], refl, λ g has. absurd has);
    standing = λ g es st. absurd st;
    begun = λ g has. absurd has;
    turn = tt;
    few = omega arith;
    dead = λ no_part. refl;
  }

  pub opens : (items : List (Option S)) → items ≡ Some x ∷ [] → about.parts < 2 ^ 32 → log x ≡ [] → Same x about.first.value
      → Kept log Same about (opening (0 ∷ 0 ∷ []) items (first_view about.first about.parts))
  opens items are small empty same = record {
    issued = 0;
    served = 0;
    now = [];
    out = maybe.none;
    words = refl;
    placed = (x, ap (λ l. map maybe.some l) are, empty, same);
    each = λ j u here. let p = only_place (first_view about.first about.parts) u j here in subst (λ (y : View S). Fits about.first 0 0 [] maybe.none j y) p.1 (fits_first j);
    small = small;
    parts = omega arith;
    tickets = refl;
    tickets_apart = λ j m a b y ea eb pa pb. (only_place (first_view about.first about.parts) a j ea).0 ∙ sym (only_place (first_view about.first about.parts) b m eb).0;
    groups_apart = λ j m a b y ea eb pa pb. (only_place (first_view about.first about.parts) a j ea).0 ∙ sym (only_place (first_view about.first about.parts) b m eb).0;
    covers = λ g. inl refl;
    calm = λ stops. tt;
  }
