use Rattle.std.proofs.Common.{◌≡◌, ◌∙◌, ◌<◌, Bool, List, Option, Some, ap, arith, cond, false, length, map, subst, sym, true, ℕ}
use Rattle.std.specs.Prelude.{unwrap_or}
use Rattle.merge_graph.specs.Closure.{given_to, in_one, may_come}
use Rattle.merge_graph.specs.declared.edge.Edge.{Edge}
use Rattle.merge_graph.proofs.Greedy.{AreGiven, fewer_left, given_all, given_more}
use Rattle.merge_graph.proofs.giving.give_all.Goals as goal
use Rattle.merge_graph.proofs.giving.give_all.Goals.{In_ok-push}

-- what was found in copies of the lists holds of the lists
module _ (es : List Edge) (read rows : List (List Bool)) (given old : List (Option ℕ)) (at_rows : read ≡ rows) (at_given : given ≡ old) where
  one_comes : (x : ℕ) (b : Bool) → may_come read es given x ≡ b → may_come rows es old x ≡ b
  one_comes x b is = subst (λ (r : List (List Bool)). may_come r es old x ≡ b) at_rows (subst (λ (g : List (Option ℕ)). may_come read es g x ≡ b) at_given is)

gives_as : (rows read : List (List Bool)) (old new : List (Option ℕ)) (first count number : ℕ) → read ≡ rows → number ≡ count
    → ((y : ℕ) → y < length old → given_to new y ≡ cond (in_one read first y) (Some number) (given_to old y)) → (y : ℕ) → y < length old → given_to new y ≡ cond (in_one rows first y) (Some count) (given_to old y)
gives_as rows read old new first count number at_rows at_count is y less =
    is y less ∙ (ap (λ (r : List (List Bool)). cond (in_one r first y) (Some number) (given_to old y)) at_rows ∙ ap (λ (n : ℕ). cond (in_one rows first y) (Some n) (given_to old y)) at_count)

module _ (c : In_ok-push) where
  within : c.in-Some.first < length c.loop-first.given.items
  within = subst (λ (g : List (Option ℕ)). c.in-Some.first < length g) c.deref-in-loop-first.ensures.value c.in-Some.ensures.within

  comes : may_come (map (λ r. r.items) c.in_ok-rows.rows.items) c.args.edges.now c.loop-first.given.items c.in-Some.first ≡ true
  comes = one_comes c.args.edges.now _ _ _ _ (ap (map (λ r. r.items)) c.deref.ensures.value) c.deref-in-loop-first.ensures.value c.in-Some.first true c.in-Some.ensures.comes

  least : (y : ℕ) → y < c.in-Some.first → may_come (map (λ r. r.items) c.in_ok-rows.rows.items) c.args.edges.now c.loop-first.given.items y ≡ false
  least y less = one_comes c.args.edges.now _ _ _ _ (ap (map (λ r. r.items)) c.deref.ensures.value) c.deref-in-loop-first.ensures.value y false (c.in-Some.ensures.least y less)

  gives : (y : ℕ) → y < length c.loop-first.given.items → given_to c.give.new.given.items y ≡ cond (in_one (map (λ r. r.items) c.in_ok-rows.rows.items) c.in-Some.first y) (Some (length c.loop-first.firsts.items)) (given_to c.loop-first.given.items y)
  gives = gives_as _ _ c.loop-first.given.items c.give.new.given.items c.in-Some.first (length c.loop-first.firsts.items) c.len.result (ap (map (λ r. r.items)) c.deref-in-Some.ensures.value) (omega (arith, c.loop-first.firsts.ok.0, c.len.ensures)) c.give.ensures.each

pub loop-first-smaller : goal.loop-first-smaller
loop-first-smaller c =
    let old = c.loop-first.given.items in
    let new = c.give.new.given.items in
    fewer_left c.args.nodes c.args.edges.now c.requires (map (λ r. r.items) c.in_ok-rows.rows.items) c.in_ok-rows.ensures old new c.loop-first.firsts.items c.in-Some.first c.loop-first.invariant (within c) (comes c) (least c) c.give.ensures.all (gives c)

pub loop-first-preserved : goal.loop-first-preserved
loop-first-preserved c =
    let old = c.loop-first.given.items in
    let new = c.give.new.given.items in
    let more = given_more c.args.nodes c.args.edges.now c.requires (map (λ r. r.items) c.in_ok-rows.rows.items) c.in_ok-rows.ensures old new c.loop-first.firsts.items c.in-Some.first c.loop-first.invariant (within c) (comes c) (least c) c.give.ensures.all (gives c) in
    subst (λ (l : List ℕ). AreGiven c.args.nodes c.args.edges.now new l) (sym c.in_ok-push.ensures.items) more

pub returns : goal.returns
returns c =
    let given = c.loop-first.given.items in
    let none : (y : ℕ) → y < length given → may_come (map (λ r. r.items) c.in_ok-rows.rows.items) c.args.edges.now given y ≡ false = λ y less.
    one_comes c.args.edges.now _ _ _ _ (ap (map (λ r. r.items)) c.deref.ensures.value) c.deref-in-loop-first.ensures.value y false (c.in_default.ensures.none y (subst (λ (g : List (Option ℕ)). y < length g) (sym c.deref-in-loop-first.ensures.value) less)) in
    given_all c.args.nodes c.args.edges.now c.requires (map (λ r. r.items) c.in_ok-rows.rows.items) c.in_ok-rows.ensures given c.loop-first.firsts.items c.in_ok-numbers.numbers.items c.loop-first.invariant none
    (c.in_ok-numbers.ensures ∙ ap (map (λ o. unwrap_or o 0)) c.deref-2.ensures.value)
