-- What is found has the shape of its text, and its groups wait for earlier ones alone.
use Rattle.std.proofs.Common.{◌≡◌, ◌-◌, ◌+◌, ◌<◌, ◌&&◌, ℕ, zero, true, List, [], ◌∷◌, ap, arith, inl, inr, length, refl, subst, suc}
use Rattle.std.specs.Prelude.{nat_lt}
use Rattle.std.specs.List.{AllZip}
use Rattle.std.proofs.lemmas.Bool.{and_parts, ltb-true}
use Rattle.pkg_state.specs.Package.{Package}
use Rattle.basics.specs.Members.{Has}
use Rattle.basics.proofs.Membership.{has-map_back}
use Rattle.plan_law.specs.Plans.{Group, WaitsForEarlier, group_at}
use Rattle.plan_model.specs.Linked.{IsLinked, IsLinkedGroup}
use Rattle.plan_text.specs.Numbers.{rise_between}
use Rattle.plan_text.specs.Plans.{GroupValue, plan_value}
use Rattle.plan_text.specs.Texts.{AreGroups, IsPlan}
use Rattle.emerge_choose.specs.Wishes.{WishValue}
use Rattle.emerge_choose.specs.declared.chosen.Chosen.{Chosen}
use Rattle.emerge_find.specs.Choices.{Choices, IsChosenOf, offered_of}
use Rattle.emerge_find.specs.Shapes.{HaveAsMany, IsInShape}

as_many : {A B : Type 0} (R : A → B → Type 0) (xs : List A) (ys : List B) → AllZip R xs ys → length xs ≡ length ys
as_many R [] [] zip = refl
as_many R [] (y ∷ ys) zip = absurd zip
as_many R (x ∷ xs) [] zip = absurd zip
as_many R (x ∷ xs) (y ∷ ys) zip = ap suc (as_many R xs ys zip.1)

alike : (offered : List Package) (text : List GroupValue) (plan : List Group) → IsLinked offered text plan → AllZip HaveAsMany text plan
alike offered [] [] zip = tt
alike offered [] (g ∷ gs) zip = absurd zip
alike offered (t ∷ ts) [] zip = absurd zip
alike offered (t ∷ ts) (g ∷ gs) zip = (as_many _ t.additions g.additions zip.0.additions, alike offered ts gs zip.1)

pub shape_of : (offered : List Package) (chosen : Chosen) → IsPlan (plan_value chosen.text) → IsLinked offered (plan_value chosen.text) chosen.plan → IsInShape chosen
shape_of offered chosen form linked = record { form = form; alike = alike offered _ _ linked }

pub wish_shape : (k : Choices) (wish : WishValue) (chosen : Chosen) → IsChosenOf k wish chosen → IsInShape chosen
wish_shape k wish chosen is = shape_of (offered_of k) chosen is.holds.of_universe.form is.holds.good.stands.linked

-- ---- the order of the groups

between : (low high n : ℕ) (ns : List ℕ) → rise_between low high ns ≡ true → Has ns n → (low < n) × (n < high)
between low high n [] rises has = absurd has
between low high n (m ∷ ns) rises (inl e) =
    let ends = and_parts (nat_lt low m) (nat_lt m high) (and_parts (nat_lt low m && nat_lt m high) (rise_between m high ns) rises).0 in
    subst (λ (x : ℕ). (low < x) × (x < high)) e (ltb-true low m ends.0, ltb-true m high ends.1)
between low high n (m ∷ ns) rises (inr has) =
    let both = and_parts (nat_lt low m && nat_lt m high) (rise_between m high ns) rises in
    let l : low < m = ltb-true low m (and_parts (nat_lt low m) (nat_lt m high) both.0).0 in
    let b = between m high n ns both.1 has in
    let k : m < n = b.0 in
    (omega (arith, l, k), b.1)

group_earlier : (offered : List Package) (n : ℕ) (t : GroupValue) (g : Group) → rise_between 0 n t.after ≡ true → IsLinkedGroup offered t g → (h : ℕ) → Has g.after h → h + 1 < n
group_earlier offered n t g rises linked h has =
    let from = has-map_back (λ (x : ℕ). x - 1) t.after h (subst (λ (after : List ℕ). Has after h) linked.after has) in
    let ends = between 0 n from.0 t.after rises from.1 in
    let low : 0 < from.0 = ends.0 in
    let high : from.0 < n = ends.1 in
    let is : from.0 - 1 ≡ h = from.2 in
    omega (arith, low, high, is)

earlier : (offered : List Package) (n : ℕ) (text : List GroupValue) (plan : List Group) → AreGroups n text → IsLinked offered text plan → (i h : ℕ) → Has (group_at plan i).after h → h + 1 < n + i
earlier offered n [] [] are zip i h has = absurd has
earlier offered n [] (g ∷ gs) are zip i h has = absurd zip
earlier offered n (t ∷ ts) [] are zip i h has = absurd zip
earlier offered n (t ∷ ts) (g ∷ gs) are zip zero h has = let k = group_earlier offered n t g are.0.earlier zip.0 h has in omega (arith, k)
earlier offered n (t ∷ ts) (g ∷ gs) are zip (suc i) h has = let k = earlier offered (n + 1) ts gs are.1 zip.1 i h has in omega (arith, k)

pub in_order : (offered : List Package) (text : List GroupValue) (plan : List Group) → IsPlan text → IsLinked offered text plan → WaitsForEarlier plan
in_order offered text plan form linked = λ i h has. let k = earlier offered 1 text plan form.groups linked i h has in omega (arith, k)
