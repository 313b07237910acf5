use Rattle.std.proofs.Common.{◌≡◌, ◌∙◌, ◌≤◌, ℕ, length, subst}
use Rattle.std.specs.Prelude.{vec_len}
use Rattle.std.proofs.lemmas.Result.{err_from_is_err_and}
use Rattle.recovery.proofs.Gates.{fault_judged, found_if_judged}
use Rattle.recovery.specs.declared.limits.TheConstants.{MOST_GATES}
use Rattle.recovery.proofs.finding.read_journal.Goals as goal

pub returns-in_err-records-clause-refused : goal.returns-in_err-records-clause-refused
returns-in_err-records-clause-refused g c t =
    let s = g.T.Tree.story c.args.tree.now in
    let s1 = g.T.Tree.story c.find_gates.new.tree in
    let s2 = g.T.Tree.story c.parted.new.tree in
    let all : vec_len c.in_ok-gates.gates ≡ length c.in_ok-gates.gates.items = cc in
    let few : length c.in_ok-gates.gates.items ≤ MOST_GATES = subst (λ (n : ℕ). n ≤ MOST_GATES) (c.len.ensures ∙ all) c.if-len-gt-MOST_GATES.false in
    let p = err_from_is_err_and c.from_residual-in_err-records.result c.from_residual-in_err-records.ensures.1 in
    rw (p.1, p.2) (fault_judged s s1 s2 c.in_ok-gates.gates.items c.deref.result.now c.in_ok-opened.opened.items c.deref-2.result.now _
    (c.find_gates.ensures.same t) (c.parted.ensures.same t) (c.in_ok-gates.ensures.gates t) few c.deref.ensures.value c.deref-2.ensures.value (c.in_ok-opened.ensures.open t) (c.in_err-records.ensures.answer t))

pub returns-clause-found : goal.returns-clause-found
returns-clause-found g c t =
    let s = g.T.Tree.story c.args.tree.now in
    let s1 = g.T.Tree.story c.find_gates.new.tree in
    let s2 = g.T.Tree.story c.parted.new.tree in
    let all : vec_len c.in_ok-gates.gates ≡ length c.in_ok-gates.gates.items = cc in
    let few : length c.in_ok-gates.gates.items ≤ MOST_GATES = subst (λ (n : ℕ). n ≤ MOST_GATES) (c.len.ensures ∙ all) c.if-len-gt-MOST_GATES.false in
    found_if_judged s s1 s2 c.in_ok-gates.gates.items c.deref.result.now c.in_ok-opened.opened.items c.deref-2.result.now c.in_ok-opened.odd.items c.in_ok-records.records.items
    (c.find_gates.ensures.same t) (c.parted.ensures.same t) (c.in_ok-gates.ensures.gates t) few c.deref.ensures.value c.deref-2.ensures.value (c.in_ok-opened.ensures.open t) (c.in_ok-opened.ensures.odd t) (c.in_ok-records.ensures.answer t)
