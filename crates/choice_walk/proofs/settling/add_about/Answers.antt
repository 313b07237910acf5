use Rattle.std.proofs.Common.{◌∙◌, ℕ, List, ap, subst}
use Rattle.dep_atom.specs.Ids.{id_text}
use Rattle.pkg_state.specs.Package.{Package}
use Rattle.choice_tree.specs.Keys.{lines_at}
use Rattle.choice_walk.specs.Settled.{AreIn}
use Rattle.choice_walk.proofs.Unsettled.{both_in, still_in}
use Rattle.choice_walk.proofs.settling.add_about.Goals as goal

pub returns-clause-come : goal.returns-clause-come
returns-clause-come c =
    let p = c.args.owner.now in
    let named = lines_at c.args.leaves.now.lists p.facts.id.name.«package» in
    let told = lines_at c.args.texts.now.lists (id_text p.facts.id) in
    let middle = c.add_all.new.lines in
    let end = c.add_all-2.new.lines in
    let first : AreIn named middle =
    subst (λ (ls : List ℕ). AreIn ls middle) (c.get.ensures ∙ ap (lines_at c.args.leaves.now.lists) (c.text.ensures.text ∙ ap (λ (q : Package). q.facts.id.name.«package») c.owner.view_is)) c.in_ok-add_all.ensures.come in
    let second : AreIn told end =
    subst (λ (ls : List ℕ). AreIn ls end) (c.get-2.ensures ∙ ap (lines_at c.args.texts.now.lists) c.requires) c.in_ok-add_all-2.ensures.come in
    both_in named told end (still_in named middle end first c.add_all-2.ensures.kept) second
