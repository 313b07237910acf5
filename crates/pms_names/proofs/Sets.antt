-- Sets of flags: rising lists with the same flags are one.
use Rattle.std.proofs.Common.{◌≡◌, ◌∙◌, ℕ, Bool, List, ap, sym}
use Rattle.std.specs.Prelude.{bytes_eq}
use Rattle.std.specs.BTreeMap.{is_at}
use Rattle.std.specs.List.{list_any}
use Rattle.std.proofs.lemmas.Cmp.{nat_list_cmp_total}
use Rattle.std.proofs.lemmas.Map.Lookups.{btree_set_from_contains, exact_bytes}
use Rattle.std.proofs.lemmas.Map.Text.{is_eq-slice_cmp}
use Rattle.pms_names.specs.Flags.{IsRising, byte_order, has}

pub same_test : (q : List ℕ) → ◌≡◌ {A = List ℕ → Bool} (is_at (byte_order q)) (bytes_eq q)
same_test q i k = is_eq-slice_cmp q k i

pub one_set : (xs ys : List (List ℕ)) → IsRising xs → IsRising ys → ((q : List ℕ) → has xs q ≡ has ys q) → xs ≡ ys
one_set xs ys rx ry same =
    btree_set_from_contains nat_list_cmp_total (record { keys = xs }) (record { keys = ys }) rx ry
    (λ q. ap (λ (f : List ℕ → Bool). list_any f xs) (same_test q) ∙ (same q ∙ sym (ap (λ (f : List ℕ → Bool). list_any f ys) (same_test q)))) exact_bytes
