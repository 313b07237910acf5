use Rattle.std.proofs.Common.{inl, inr, refl, sym, ◌∙◌}
use Rattle.basics.proofs.Texts.{less_one_way, not_less}
use Rattle.vdb_overlap.proofs.Sets.{if_less, not_less_if}
use Rattle.vdb_overlap.proofs.index.lesser.Goals as goal

pub returns-then-lt : goal.returns-then-lt
returns-then-lt c =
    let less = if_less c.args.text c.in-Some.known (sym c.lt.ensures ∙ c.if-lt.true) in
    rw c.in-Some.is (record {
      one = inr refl;
      not_a = λ more. less_one_way c.args.text c.in-Some.known less more;
      not_b = not_less c.args.text c.args.text refl;
    })

pub returns-else-lt : goal.returns-else-lt
returns-else-lt c =
    rw c.in-Some.is (record {
      one = inl refl;
      not_a = not_less c.in-Some.known c.in-Some.known refl;
      not_b = not_less_if c.args.text c.in-Some.known (sym c.lt.ensures ∙ c.if-lt.false);
    })
