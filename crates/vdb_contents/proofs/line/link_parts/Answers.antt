use Rattle.std.proofs.Common.{◌∷◌, [], None, Some}
use Rattle.std.proofs.lemmas.Bool.Decides.{Decides-eqb}
use Rattle.std.proofs.lemmas.Slice.Eq.{strip_prefix_is}
use Rattle.vdb_contents.proofs.Said.{link_cut, no_arrow_cut, no_space_cut}
use Rattle.vdb_contents.proofs.line.link_parts.Goals as goal

pub returns-in_err-path : goal.returns-in_err-path
returns-in_err-path c =
    rw c.from_residual-in_err-path.ensures (no_arrow_cut c.args.rest.now c.in_ok-front.front.now c.in_ok-front.time.now c.in_ok-front.ensures c.in_err-path.ensures)

pub returns-in_err-target : goal.returns-in_err-target
returns-in_err-target c =
    rw c.from_residual-in_err-target.ensures
    (no_space_cut c.args.rest.now c.in_ok-front.front.now c.in_ok-path.path.now c.in_ok-path.behind.now c.in_ok-front.time.now c.in_ok-front.ensures c.in_ok-path.ensures
    (strip_prefix_is Decides-eqb c.in_ok-path.behind.now (32 ∷ []) None c.in_err-target.ensures.cases))

pub returns : goal.returns
returns c =
    link_cut c.args.rest.now c.in_ok-front.front.now c.in_ok-path.path.now c.in_ok-path.behind.now c.in_ok-target.target.now c.in_ok-front.time.now c.in_ok-front.ensures c.in_ok-path.ensures
    (strip_prefix_is Decides-eqb c.in_ok-path.behind.now (32 ∷ []) (Some c.in_ok-target.target) c.in_ok-target.ensures.cases)
