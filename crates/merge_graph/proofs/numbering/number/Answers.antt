use Rattle.std.proofs.Common.{◌≡◌, ◌∙◌, List, None, Option, Some, ap, arith, length, subst, sym, ℕ}
use Rattle.std.specs.Prelude.{slice_index}
use Rattle.merge_graph.specs.Certified.{IsFirstInside}
use Rattle.merge_graph.specs.Numbering.{IsBuildCycle, IsNumbering}
use Rattle.merge_graph.specs.Rows.{places_of}
use Rattle.merge_graph.specs.declared.edge.Edge.{Edge}
use Rattle.merge_graph.proofs.Building.{cycle, no_cycle}
use Rattle.merge_graph.proofs.numbering.number.Goals as goal

found : (numbers firsts a b : List ℕ) (es : List Edge) (o : Option ℕ) → a ≡ numbers → b ≡ firsts → IsFirstInside a b es o → IsFirstInside numbers firsts es o
found numbers firsts a b es o same_a same_b is =
    subst (λ (l : List ℕ). IsFirstInside l firsts es o) same_a (subst (λ (l : List ℕ). IsFirstInside a l es o) same_b is)

pub returns-in_ok-cycle-in-Some : goal.returns-in_ok-cycle-in-Some
returns-in_ok-cycle-in-Some c =
    let numbers = c.in_ok-guess.guess.numbers.items in
    let firsts = c.in_ok-guess.guess.firsts.items in
    let x = c.in-Some.first in
    let is : IsFirstInside numbers firsts c.args.edges.now (Some x) = found numbers firsts _ _ c.args.edges.now (Some x) c.deref.ensures.value c.deref-2.ensures.value c.in-Some.ensures in
    let number : c.number_at.result ≡ slice_index numbers x = c.number_at.ensures ∙ ap (λ (l : List ℕ). slice_index l x) c.deref-in-Some-2.ensures.value in
    let items : c.in_ok-cycle-in-Some.cycle.items ≡ places_of numbers (slice_index numbers x) =
    c.in_ok-cycle-in-Some.ensures ∙ (ap (λ (l : List ℕ). places_of l c.number_at.result) c.deref-in-Some.ensures.value ∙ ap (places_of numbers) number) in
    subst (λ (l : List ℕ). IsBuildCycle c.args.nodes c.args.edges.now l) (sym items)
    (cycle c.args.nodes c.args.edges.now numbers firsts c.requires c.in_ok-guess.ensures x is)

pub returns-in-None : goal.returns-in-None
returns-in-None c =
    let numbers = c.in_ok-guess.guess.numbers.items in
    let firsts = c.in_ok-guess.guess.firsts.items in
    let is : IsFirstInside numbers firsts c.args.edges.now None = found numbers firsts _ _ c.args.edges.now None c.deref.ensures.value c.deref-2.ensures.value c.in-None.ensures in
    let count : length firsts ≡ c.len-count.result = omega (arith, c.in_ok-guess.guess.firsts.ok.0, c.len-count.ensures) in (
      no_cycle c.args.nodes c.args.edges.now numbers firsts c.requires c.in_ok-guess.ensures is,
      subst (λ (n : ℕ). IsNumbering c.args.nodes c.args.edges.now n numbers) count c.in_ok-guess.ensures.numbering,
    )
