use Rattle.std.proofs.Common.{◌≡◌, ◌∙◌, ◌∷◌, ap, sym}
use Rattle.std.specs.BTreeSet.{insert_key}
use Rattle.pms_names.specs.Flags.{byte_order}
use Rattle.law_commit.specs.Lit.{lit_flags}
use Rattle.law_commit.proofs.Lit.{set_put}
use Rattle.run_opening.proofs.lighting.add_flags.Goals as goal

pub loop-flag-preserved : goal.loop-flag-preserved
loop-flag-preserved c =
    let inv = c.loop-flag.invariant in
    let on = c.loop-flag.on in
    let rest = c.next.new.self in
    let flag = c.in_ok-try_clone.field-0 in
    let put : c.insert.new.self ≡ insert_key byte_order on flag = set_put on c.insert.new.self flag inv.1 c.in_ok-_new.ensures.rising c.in_ok-_new.ensures.ok in
    let first : c.loop-flag.flag-iterator ≡ flag ∷ rest = c.in-Some.ensures.steps ∙ ap (λ k. k ∷ rest) (sym c.in_ok-try_clone.ensures) in
    (ap (lit_flags rest) put ∙ (ap (λ l. lit_flags l on) (sym first) ∙ inv.0), c.in_ok-_new.ensures.rising)
