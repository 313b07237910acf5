-- The plan of a text in form is in form.
use Rattle.std.proofs.Common.{◌≡◌, ◌<◌, ◌≤◌, ◌+◌, ◌-◌, ◌&&◌, ℕ, zero, suc, true, List, [], ◌∷◌, length, map, subst, inl, inr, arith}
use Rattle.std.specs.Prelude.{nat_lt}
use Rattle.std.proofs.lemmas.Bool.{and_parts, ltb-true}
use Rattle.basics.specs.Members.{Has}
use Rattle.basics.proofs.Membership.{has-map_back}
use Rattle.pkg_state.specs.Package.{Package}
use Rattle.plan_law.specs.Plans as law
use Rattle.plan_law.specs.Plans.{group_at}
use Rattle.plan_text.specs.Numbers.{rise_between}
use Rattle.plan_text.specs.Plans.{GroupValue}
use Rattle.plan_text.specs.Texts.{AreGroups, IsPlan}
use Rattle.basics.specs.Limits.{most_groups}
use Rattle.plan_lives.specs.Form.{IsPlanInForm}
use Rattle.plan_model.specs.Linked.{IsLinked, IsLinkedGroup}
use Rattle.plan_model.proofs.Pairs.{zip_length}

-- the numbers are above the one and below the other
between : (low high : ℕ) (ns : List ℕ) (m : ℕ) → rise_between low high ns ≡ true → Has ns m → (low < m) × (m < high)
between low high [] m h has = absurd has
between low high (n ∷ ns) m h (inl e) =
    let ends_of = and_parts (nat_lt low n) (nat_lt n high) (and_parts (nat_lt low n && nat_lt n high) (rise_between n high ns) h).0 in
    subst (λ (k : ℕ). (low < k) × (k < high)) e (ltb-true low n ends_of.0, ltb-true n high ends_of.1)
between low high (n ∷ ns) m h (inr has) =
    let parts = and_parts (nat_lt low n && nat_lt n high) (rise_between n high ns) h in
    let ends_of = and_parts (nat_lt low n) (nat_lt n high) parts.0 in
    let l : low < n = ltb-true low n ends_of.0 in
    let later = between n high ns m parts.1 has in
    (omega (arith, l, later.0), later.1)

waits : (n : ℕ) (ns after : List ℕ) (h : ℕ) → rise_between 0 n ns ≡ true → after ≡ map (λ m. m - 1) ns → Has after h → h + 1 < n
waits n ns after h rises is has =
    let back = has-map_back (λ m. m - 1) ns h (subst (λ (l : List ℕ). Has l h) is has) in
    let bounds = between 0 n ns back.0 rises back.1 in
    omega (arith, bounds.0, bounds.1, back.2)

-- the group at a place waits for earlier ones, where the first has the number
earlier : (offered : List Package) (n : ℕ) (text : List GroupValue) (plan : List law.Group) → AreGroups n text → IsLinked offered text plan → (g h : ℕ) → Has (group_at plan g).after h → h + 1 < n + g
earlier offered n [] [] form linked zero h has = absurd has
earlier offered n [] [] form linked (suc g) h has = absurd has
earlier offered n [] (x ∷ plan) form linked g h has = absurd linked
earlier offered n (t ∷ text) [] form linked g h has = absurd linked
earlier offered n (t ∷ text) (x ∷ plan) form linked zero h has =
    let lt : h + 1 < n = waits n t.after x.after h form.0.earlier linked.0.after has in
    omega (arith, lt)
earlier offered n (t ∷ text) (x ∷ plan) form linked (suc g) h has =
    let lt : h + 1 < n + 1 + g = earlier offered (n + 1) text plan form.1 linked.1 g h has in
    omega (arith, lt)

pub linked_form : (offered : List Package) (text : List GroupValue) (plan : List law.Group) → IsPlan text → IsLinked offered text plan → IsPlanInForm plan
linked_form offered text plan form linked =
    let same : length plan ≡ length text = zip_length (IsLinkedGroup offered) text plan linked in
    let few : length text ≤ most_groups = form.few in
    record {
      few = omega (arith, same, few);
      earlier = λ g h has. (let lt : h + 1 < 1 + g = earlier offered 1 text plan form.groups linked g h has in omega (arith, lt));
    }
