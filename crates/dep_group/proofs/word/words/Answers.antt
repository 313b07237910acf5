use Rattle.std.proofs.Common.{arith, ap, ◌∙◌, map}
use Rattle.dep_group.specs.Views.{spot}
use Rattle.dep_group.proofs.WordLemmas.{HasRead-start, HasRead-blank, HasRead-letter, HasRead-end}
use Rattle.dep_group.proofs.word.words.Goals as goal
use Rattle.dep_group.proofs.word.words.Goals.{then-is_blank+in_ok-push_word, else-is_blank}

pub loop-i-init : goal.loop-i-init
loop-i-init c = rw c.new-found.ensures.items (HasRead-start c.args.text.now c.utf8.text)

pub loop-i-preserved : goal.loop-i-preserved
loop-i-preserved c = elim c.if-is_blank.branch [
  | then-is_blank+in_ok-push_word w ↦ HasRead-blank _ _ _ _ _ _ c.utf8.text (omega arith) (cc) (ap (λ v. map spot v.items) w.found-is ∙ w.in_ok-push_word.ensures) w.start-is c.loop-i.invariant
  | else-is_blank w ↦ HasRead-letter _ _ _ _ _ _ (cc) (ap (λ v. map spot v.items) w.found-is) w.start-is c.loop-i.invariant
]

pub returns : goal.returns
returns c =
    c.in_ok-push_word-2.ensures
    ∙ HasRead-end c.args.text.now (map spot c.loop-i.found.items) c.loop-i.start c.loop-i.i (omega arith) (omega arith) c.loop-i.invariant
