use Rattle.std.proofs.Common.{rules, ◌≡◌, ◌∙◌, ◌++◌, ◌∷◌, []}
use Rattle.merge_image.proofs.Built.{taken_more}
use Rattle.merge_image.proofs.images.entries_of.Goals as goal

pub loop-index-preserved : goal.loop-index-preserved
loop-index-preserved g c =
    let pushed : c.push.new.self.items ≡ c.loop-index.entries.items ++ c.in_ok-entry.entry ∷ [] = search rules in (
      c.in_ok-entry.ensures.same_started ∙ c.loop-index.invariant.0,
      c.in_ok-entry.ensures.same_number ∙ c.loop-index.invariant.1,
      c.in_ok-entry.ensures.same_told ∙ c.loop-index.invariant.2,
      c.in_ok-entry.ensures.same_image ∙ c.loop-index.invariant.3,
      (λ t. taken_more c.loop-index.entries.items c.push.new.self.items (g.B.Builder.image c.loop-index.builder) (g.B.Builder.image c.args.builder.now) c.loop-index.index c.in_ok-entry.entry (c.loop-index.invariant.4 t) c.loop-index.invariant.3 (c.in_ok-entry.ensures.entry t) pushed),
      search rules,
    )
