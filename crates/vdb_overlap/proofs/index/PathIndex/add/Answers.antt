use Rattle.std.proofs.Common.{◌≡◌, ◌∙◌, ◌++◌, ◌∷◌, [], List, MatchOption, Option, subst, sym, ℕ}
use Rattle.std.proofs.lemmas.Bool.{true≢false}
use Rattle.std.specs.BTreeSet.{insert_key}
use Rattle.basics.specs.Members.{Has}
use Rattle.pms_names.specs.Flags.{byte_order}
use Rattle.vdb_overlap.specs.Indexes.{IsLesser, IsSeen, PathIndexValue}
use Rattle.vdb_overlap.proofs.Again.{paths_more, seen_again, seen_new}
use Rattle.vdb_overlap.proofs.Below.{contained, key_contained}
use Rattle.vdb_overlap.proofs.index.PathIndex.add.Goals as goal
use Rattle.vdb_overlap.proofs.index.PathIndex.add.Goals.{in-Some-1, in-None-1}

pub returns-then-contains-clause-seen : goal.returns-then-contains-clause-seen
returns-then-contains-clause-seen c ps seen =
    let x : PathIndexValue = record { texts = c.self.inside.texts.keys; twice = c.self.inside.twice } in
    let p : List ℕ = c.args.path.now in
    let r : List ℕ = c.lesser.result in
    let text : ◌≡◌ {A = List ℕ} c.in_ok-text.text p = c.in_ok-text.ensures ∙ c.text.ensures.text in
    let there = subst (λ (q : List ℕ). Has c.self.inside.texts.keys q) text (contained c.self.inside.texts c.in_ok-text.text (sym c.contains.ensures ∙ c.if-contains.true)) in
    let lesser = subst (λ (o : Option (List ℕ)). MatchOption o (r ≡ p) (λ k. IsLesser k p r)) c.take-known.ensures.value
    (subst (λ (q : List ℕ). MatchOption c.take-known.result (r ≡ q) (λ k. IsLesser k q r)) text c.lesser.ensures) in
    let all = seen_again p ps x r (subst (IsSeen ps) (sym c.self.view_is) seen) there lesser in
    elim c.match-self.branch [
      | in-Some-1 w ↦ subst (IsSeen (ps ++ p ∷ [])) (sym w.self-is) all
      | in-None-1 w ↦ subst (IsSeen (ps ++ p ∷ [])) (sym w.self-is) all
    ]

pub returns-in_ok-insert-clause-seen : goal.returns-in_ok-insert-clause-seen
returns-in_ok-insert-clause-seen c ps seen =
    let x : PathIndexValue = record { texts = c.self.inside.texts.keys; twice = c.self.inside.twice } in
    let p : List ℕ = c.args.path.now in
    let text : ◌≡◌ {A = List ℕ} c.in_ok-text.text p = c.in_ok-text.ensures ∙ c.text.ensures.text in
    let none = subst (λ (q : List ℕ). Has x.texts q → ⊥) text (λ h. true≢false (sym (key_contained c.self.inside.texts c.in_ok-text.text h) ∙ (sym c.contains.ensures ∙ c.if-contains.false))) in
    let made = subst (λ (q : List ℕ). ◌≡◌ {A = List (List ℕ)} c.insert.new.self.keys (insert_key byte_order x.texts q)) text c.in_ok-insert.ensures.keys in
    seen_new p ps x c.insert.new.self.keys (subst (IsSeen ps) (sym c.self.view_is) seen) none made c.in_ok-insert.ensures.ordered

pub invariant_of-self-in_ok-insert : goal.invariant_of-self-in_ok-insert
invariant_of-self-in_ok-insert c =
    let x : PathIndexValue = record { texts = c.self.inside.texts.keys; twice = c.self.inside.twice } in
    let text : ◌≡◌ {A = List ℕ} c.in_ok-text.text c.args.path.now = c.in_ok-text.ensures ∙ c.text.ensures.text in
    let made = subst (λ (q : List ℕ). ◌≡◌ {A = List (List ℕ)} c.insert.new.self.keys (insert_key byte_order x.texts q)) text c.in_ok-insert.ensures.keys in
    paths_more c.args.path.now x c.insert.new.self.keys c.self.invariant c.text.ensures.form made
