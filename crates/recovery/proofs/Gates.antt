-- What is found at the gates of a map.
use Rattle.std.proofs.Common.{◌≡◌, ◌<◌, ◌≤◌, ◌^◌, ℕ, suc, inl, inr, [], ◌∷◌, Bool, true, not, length, List, Option, None, Some, Result, Ok, refl, sym, ap, subst, ◌∙◌, arith}
use Rattle.std.specs.Prelude.{◌↔◌, IsSome, filter}
use Rattle.basics.specs.Members.{Has}
use Rattle.file_tree.specs.Disk.{Map, Story}
use Rattle.file_tree.specs.ObjectValue.{ObjectValue}
use Rattle.merge_record.specs.RecordValue.{RecordValue}
use Rattle.merge_journal.specs.Judging.{Misses, judged_all, judged_open}
use Rattle.merge_journal.specs.Names.{gate_path}
use Rattle.merge_journal.specs.Open.{IsRising, is_open, open_groups}
use Rattle.merge_journal.proofs.Opened.{Opens, open_groups_only, same_list}
use Rattle.merge_journal.specs.declared.fault.JudgeFault.{JudgeFault}
use Rattle.merge_journal.specs.declared.fault.JudgeFault.TheVariants as judge_faults
use Rattle.recovery.specs.Faults.{judge_fault}
use Rattle.recovery.specs.Found.{AreGates, AreOdd, HasTooManyGates, IsFound}
use Rattle.recovery.specs.Promise.{IsFaultOf}
use Rattle.recovery.specs.declared.limits.TheConstants.{MOST_GATES}
use Rattle.recovery.proofs.Lists.{rising_filter}
use Rattle.std.proofs.lemmas.Bool.{not-true, not_from_false}
use Rattle.basics.proofs.Membership.{has-filter_back, has-filter}
use Rattle.basics.proofs.Tests.{none_is_not_some}

abbrev pub opens_in : Map → ℕ → Bool
opens_in a h = is_open (a (gate_path h))

abbrev pub odd_in : Map → ℕ → Bool
odd_in a h = not (is_open (a (gate_path h)))

-- an open gate holds an object
some_if_open : (x : Option ObjectValue) → is_open x ≡ true → IsSome x
some_if_open None e = absurd cc
some_if_open (Some o) e = refl

pub opened_groups : (a : Map) (gs : List ℕ) → AreGates a gs → filter (opens_in a) gs ≡ open_groups a
opened_groups a gs gates = open_groups_only a (filter (opens_in a) gs) (rising_filter (opens_in a) gs gates.rising) each
  where
    each : (h : ℕ) → Has (filter (opens_in a) gs) h ↔ Opens a (2 ^ 32) h
    each h = (
      λ has. let k = has-filter_back (opens_in a) gs h has in (((gates.has h).0 k.0).0, k.1),
      λ o. has-filter (opens_in a) gs h ((gates.has h).1 (o.0, some_if_open (a (gate_path h)) o.1)) o.1,
    )

pub odd_groups : (a : Map) (gs : List ℕ) → AreGates a gs → AreOdd a (filter (odd_in a) gs)
odd_groups a gs gates h = (
  λ has.
      let k = has-filter_back (odd_in a) gs h has in
      let b = (gates.has h).0 k.0 in
      record { small = b.0; some = b.1; odd = not-true (is_open (a (gate_path h))) k.1 },
  λ o. has-filter (odd_in a) gs h ((gates.has h).1 (o.small, o.some)) (not_from_false (is_open (a (gate_path h))) o.odd),
)

-- the gates of a map are one list
pub few_gates : (a : Map) (gs : List ℕ) → AreGates a gs → length gs ≤ MOST_GATES → HasTooManyGates a → ⊥
few_gates a gs gates few many =
    let same = same_list gs many.0 gates.rising many.1.rising (λ g has. (many.1.has g).1 ((gates.has g).0 has)) (λ g has. (gates.has g).1 ((many.1.has g).0 has)) in
    absurd (omega (arith, few, many.2, ap (λ (l : List ℕ). length l) same))

-- a rising list of members of another one is no longer
rising_shorter : (xs ys : List ℕ) → IsRising xs → IsRising ys → ((g : ℕ) → Has xs g → Has ys g) → length xs ≤ length ys
rising_shorter [] ys rx ry to = omega arith
rising_shorter (x ∷ xs) [] rx ry to = absurd (to x (inl refl))
rising_shorter (x ∷ xs) (y ∷ ys) rx ry to = elim (to x (inl refl)) [
  | inl same ↦ both (length xs) (length ys) (rising_shorter xs ys rx.1 ry.1 (λ g has. behind g (omega (arith, rx.0 g has, same)) (to g (inr has))))
  | inr later ↦ up (length (x ∷ xs)) (length ys) (rising_shorter (x ∷ xs) ys rx ry.1 (λ g has. behind g (past g has (ry.0 x later)) (to g has)))
]
  where
    both : (m n : ℕ) → m ≤ n → suc m ≤ suc n
    both m n le = omega (arith, le)

    up : (m n : ℕ) → m ≤ n → m ≤ suc n
    up m n le = omega (arith, le)

    behind : (g : ℕ) → y < g → Has (y ∷ ys) g → Has ys g
    behind g less (inl e) = absurd (omega (arith, less, e))
    behind g less (inr has) = has

    past : (g : ℕ) → Has (x ∷ xs) g → y < x → y < g
    past g (inl e) less = omega (arith, less, e)
    past g (inr has) less = omega (arith, less, rx.0 g has)

-- a map all of whose gates are among these few hasn't too many
pub gates_within : (c : Map) (gs : List ℕ) → IsRising gs → length gs ≤ MOST_GATES → ((g : ℕ) → g < 2 ^ 32 → IsSome (c (gate_path g)) → Has gs g) → HasTooManyGates c → ⊥
gates_within c gs rising few within many =
    let less = rising_shorter many.0 gs many.1.rising rising (λ g has. let k = (many.1.has g).0 has in within g k.0 k.1) in
    absurd (omega (arith, few, many.2, less))

-- nor has one that has no gate more than another one
pub fewer_gates : (a c : Map) (gs : List ℕ) → AreGates a gs → length gs ≤ MOST_GATES → ((g : ℕ) → g < 2 ^ 32 → a (gate_path g) ≡ None → c (gate_path g) ≡ None) → HasTooManyGates c → ⊥
fewer_gates a c gs gates few none = gates_within c gs gates.rising few (λ g small some. (gates.has g).1 (small, there g small some (a (gate_path g)) refl))
  where
    there : (g : ℕ) → g < 2 ^ 32 → IsSome (c (gate_path g)) → (x : Option ObjectValue) → a (gate_path g) ≡ x → IsSome (a (gate_path g))
    there g small some None e = absurd (none_is_not_some (c (gate_path g)) (none g small e) some)
    there g small some (Some o) e = subst IsSome (sym e) refl

judged_opened : (a : Map) → judged_all a [] (open_groups a) ≡ judged_open a
unfolding judged_open
judged_opened a = refl

pub all_opened : (a : Map) (os : List ℕ) → os ≡ open_groups a → judged_all a [] os ≡ judged_open a
all_opened a os is = ap (judged_all a []) is ∙ judged_opened a

-- the fault that the judge tells
pub judge_fault_is : (a : Map) (e : JudgeFault) → (HasTooManyGates a → ⊥) → Misses e (judged_open a) → IsFaultOf (judge_fault e) a
judge_fault_is a (judge_faults.BadRecord g) few is = (few, is)
judge_fault_is a (judge_faults.BadStage g i) few is = (few, is)
judge_fault_is a (judge_faults.Tree of) few is = tt

-- ---- over a story that stays

opened_are : (s t : Story) (gs gs' os : List ℕ) → t ≡ s → AreGates s.now.holds gs → gs' ≡ gs → os ≡ filter (opens_in t.now.holds) gs' → os ≡ open_groups s.now.holds
opened_are s t gs gs' os same gates list is =
    is ∙ (ap (λ (x : Story). filter (opens_in x.now.holds) gs') same ∙ (ap (filter (opens_in s.now.holds)) list ∙ opened_groups s.now.holds gs gates))

judged_same : (s u : Story) (os' os : List ℕ) → u ≡ s → os' ≡ os → os ≡ open_groups s.now.holds → judged_all u.now.holds [] os' ≡ judged_open s.now.holds
judged_same s u os' os same list is = ap (λ (x : Story). judged_all x.now.holds [] os') same ∙ all_opened s.now.holds os' (list ∙ is)

pub found_if_judged : (s t u : Story) (gs gs' os os' odd : List ℕ) (rs : List RecordValue) → t ≡ s → u ≡ t → AreGates s.now.holds gs → length gs ≤ MOST_GATES → gs' ≡ gs → os' ≡ os
    → os ≡ filter (opens_in t.now.holds) gs' → odd ≡ filter (odd_in t.now.holds) gs' → judged_all u.now.holds [] os' ≡ Ok rs
    → IsFound s.now.holds (record { opened = os; records = rs; gates = gs; odd = odd })
found_if_judged s t u gs gs' os os' odd rs same same' gates few list opened os_is odd_is judged_is = record {
  opened = opened_are s t gs gs' os same gates list os_is;
  records = sym (judged_same s u os' os (same' ∙ same) opened (opened_are s t gs gs' os same gates list os_is)) ∙ judged_is;
  gates = gates;
  few = few;
  odd = subst (λ (l : List ℕ). AreOdd s.now.holds l) (sym (odd_is ∙ (ap (λ (x : Story). filter (odd_in x.now.holds) gs') same ∙ ap (filter (odd_in s.now.holds)) list))) (odd_groups s.now.holds gs gates);
}

pub fault_judged : (s t u : Story) (gs gs' os os' : List ℕ) (e : JudgeFault) → t ≡ s → u ≡ t → AreGates s.now.holds gs → length gs ≤ MOST_GATES → gs' ≡ gs → os' ≡ os
    → os ≡ filter (opens_in t.now.holds) gs' → Misses e (judged_all u.now.holds [] os') → IsFaultOf (judge_fault e) s.now.holds
fault_judged s t u gs gs' os os' e same same' gates few list opened os_is misses =
    judge_fault_is s.now.holds e (few_gates s.now.holds gs gates few)
    (subst (λ (v : Result (List RecordValue) JudgeFault). Misses e v) (judged_same s u os' os (same' ∙ same) opened (opened_are s t gs gs' os same gates list os_is)) misses)
