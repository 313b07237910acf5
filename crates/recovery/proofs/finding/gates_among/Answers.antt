use Rattle.std.proofs.Common.{ℕ, ◌≡◌, ◌<◌, ◌^◌, arith, length}
use Rattle.merge_journal.specs.Names.{gate_path}
use Rattle.recovery.proofs.Lists.{gathered_end, gathered_more, gathered_pass, gathered_start, not_found}
use Rattle.recovery.proofs.finding.gates_among.Goals as goal
use Rattle.recovery.proofs.finding.gates_among.Goals.{in-Some+in_ok-push, in_default}

pub loop-path-init : goal.loop-path-init
loop-path-init c = rw c.new-groups.ensures.items (gathered_start c.args.paths.now)

pub loop-path-preserved : goal.loop-path-preserved
loop-path-preserved c =
    let lt : c.loop-path.path-index < length c.args.paths.now = omega arith in
    elim c.match-branch-2.branch [
      | in-Some+in_ok-push w ↦
          let told = c.in_ok-group.ensures in
          let found = rw w.in-Some.is at told in
          rw (w.groups-is, w.in_ok-push.ensures.items)
          (gathered_more c.args.paths.now c.loop-path.path-index w.in-Some.group c.path-item.result c.loop-path.groups.items c.requires lt c.path-item.is found.0 found.1 c.loop-path.invariant)
      | in_default w ↦
          let told = c.in_ok-group.ensures in
          let none : (h : ℕ) → h < 2 ^ 32 → c.path-item.result ≡ gate_path h → ⊥ = not_found c.in_ok-group.field-0 ((h : ℕ) → h < 2 ^ 32 → c.path-item.result ≡ gate_path h → ⊥) (λ h. (h < 2 ^ 32) × (c.path-item.result ≡ gate_path h)) w.in_default.not-Some told in
          rw w.groups-is (gathered_pass c.args.paths.now c.loop-path.path-index c.path-item.result c.loop-path.groups.items lt c.path-item.is none c.loop-path.invariant)
    ]

pub returns-clause-gates : goal.returns-clause-gates
returns-clause-gates c = gathered_end c.args.paths.now c.loop-path.path-index c.loop-path.groups.items c.loop-path-test.false c.loop-path.invariant

pub returns-clause-distinct : goal.returns-clause-distinct
returns-clause-distinct c = c.loop-path.invariant.once
