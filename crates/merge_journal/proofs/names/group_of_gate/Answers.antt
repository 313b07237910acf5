use Rattle.std.proofs.Common.{◌≡◌, ◌∙◌, ℕ, List, ap, arith, sym, length, take, drop}
use Rattle.std.proofs.lemmas.Slice.Eq.{bytes_eq-Decides}
use Rattle.merge_journal.specs.Names.{gate_path, part_name}
use Rattle.merge_journal.specs.Names.Part.{Gate}
use Rattle.merge_journal.proofs.Naming.{digits_at, named_long}
use Rattle.merge_journal.proofs.names.group_of_gate.Goals as goal

pub returns-then-text-lt29 : goal.returns-then-text-lt29
returns-then-text-lt29 c g lt e =
    let long = named_long g (part_name Gate) in
    let same : length c.as_bytes-text.result.now ≡ length (gate_path g) = ap length (c.as_bytes-text.ensures.value ∙ (c.text.ensures.text ∙ e)) in
    omega (arith, same, long, c.if-text-lt29.true)

pub returns-in_default : goal.returns-in_default
returns-in_default c g lt e =
    let same = c.as_bytes-text.ensures.value ∙ (c.text.ensures.text ∙ e) in
    let some = c.number_in.ensures g lt (ap (λ (t : List ℕ). take 8 (drop 21 t)) same ∙ digits_at g (part_name Gate)) in
    c.in_default.not-Some g some

pub returns : goal.returns
returns c g lt e =
    let same = c.as_bytes-text.ensures.value ∙ (c.text.ensures.text ∙ e) in
    let some = c.number_in.ensures g lt (ap (λ (t : List ℕ). take 8 (drop 21 t)) same ∙ digits_at g (part_name Gate)) in
    let named : c.in-Some.group ≡ g = cc (c.in-Some.is, some) in
    let here : c.in_ok-gate.gate ≡ c.args.path.now = c.in_ok-gate.ensures ∙ (ap gate_path named ∙ sym e) in
    absurd (cc (c.eq.ensures, c.if-eq.false, (bytes_eq-Decides c.in_ok-gate.gate c.args.path.now).1 here))
