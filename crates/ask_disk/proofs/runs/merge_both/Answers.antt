use Rattle.std.proofs.Common.{[], ◌∷◌, ◌∙◌, inl, inr, subst, sym}
use Rattle.std.specs.Prelude.{true}
use Rattle.merge_group.specs.Runs.{IsUnderWay}
use Rattle.tree_mem.specs.MemTree.{mem_story}
use Rattle.ask_disk.proofs.runs.merge_both.Goals as goal

pub merge_next-requires-clause-begun : goal.merge_next-requires-clause-begun
merge_next-requires-clause-begun c = ([], (λ has. absurd has), c.requires.begun)

pub merge_next-requires-2-clause-begun : goal.merge_next-requires-2-clause-begun
merge_next-requires-2-clause-begun c =
    let first = c.args.first in
    let b = c.merge_next.new.site in
    let under = c.in_ok-merge_next.ensures.merged [] (λ has. absurd has) c.requires.begun in (
      first ∷ [],
      (λ has. elim has [ inl same ↦ absurd (cc (sym c.requires.first ∙ (same ∙ c.requires.second))) | inr none ↦ absurd none ]),
      subst (λ t. IsUnderWay true (mem_story t).now.holds (first ∷ []) c.merge_next.new.history.items c.merge_next.new.acknowledged.items b) (sym c.merge_next.ensures.same.opened) under,
    )

pub merge_next-requires-2-clause-room : goal.merge_next-requires-2-clause-room
merge_next-requires-2-clause-room c = c.merge_next.ensures.left 1 c.requires.room

pub merge_next-requires-2-clause-more : goal.merge_next-requires-2-clause-more
merge_next-requires-2-clause-more c = c.merge_next.ensures.more 1 c.requires.more
