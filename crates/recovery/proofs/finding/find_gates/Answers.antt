use Rattle.std.proofs.Common.{◌≡◌, ◌∙◌, ℕ, List, ap, subst, sym, true}
use Rattle.basics.specs.Members.{Has}
use Rattle.file_tree.specs.Paths.{is_below}
use Rattle.merge_journal.specs.Names.{gate_path}
use Rattle.merge_journal.specs.Names.Part.{Gate}
use Rattle.merge_core.proofs.Paths.{file_below}
use Rattle.recovery.proofs.Lists.{distinct_if_sorted}
use Rattle.recovery.proofs.finding.find_gates.Goals as goal
use Rattle.basics.proofs.Membership.{has-from_contains, contains-from_has}

pub gates_among-requires : goal.gates_among-requires
gates_among-requires g c = rw c.deref.ensures.value (distinct_if_sorted c.in_ok-paths.paths.items c.in_ok-paths.ensures.rising)

pub returns-clause-gates : goal.returns-clause-gates
returns-clause-gates g c t = record {
  rising = c.in_ok-rising.ensures.rising;
  has = λ h.
      let moved = c.in_ok-rising.ensures.same h in
      let listed = c.in_ok-groups.ensures.gates h in
      let told = c.in_ok-paths.ensures.answer t (gate_path h) in
      let below : is_below c.in_ok-jobs.jobs (gate_path h) ≡ true = ap (λ (j : List ℕ). is_below j (gate_path h)) c.in_ok-jobs.ensures ∙ file_below h Gate in (
        λ has.
            let b = listed.0 (moved.0 has) in
            (b.0, (told.0 (contains-from_has c.in_ok-paths.paths.items (gate_path h) (subst (λ (l : List (List ℕ)). Has l (gate_path h)) c.deref.ensures.value b.1))).1),
        λ b. moved.1 (listed.1 (b.0, subst (λ (l : List (List ℕ)). Has l (gate_path h)) (sym c.deref.ensures.value) (has-from_contains c.in_ok-paths.paths.items (gate_path h) (told.1 (below, b.1))))),
      );
}
