use Rattle.std.proofs.Common.{◌∙◌, sym}
use Rattle.dep_atom.specs.Text.{use_text}
use Rattle.dep_atom.proofs.Cuts.{cut_once}
use Rattle.dep_atom.proofs.Once.{use_lacks}
use Rattle.dep_atom.proofs.reading.read_first_use.Goals as goal

pub returns-in-Ok-clause-only : goal.returns-in-Ok-clause-only
returns-in-Ok-clause-only c =
    λ u rest is starts e.
    let once = cut_once 44 93 c.split_before.result.0.now c.split_before.result.1.now (use_text u) rest c.split_before.ensures.lacks (use_lacks u is) c.split_before.ensures.starts starts (sym c.split_before.ensures.parts ∙ e) in
    (c.in-Ok.ensures.only u is once.0, once.1)

pub returns-in-Err-clause-only : goal.returns-in-Err-clause-only
returns-in-Err-clause-only c =
    λ u rest is starts e.
    let once = cut_once 44 93 c.split_before.result.0.now c.split_before.result.1.now (use_text u) rest c.split_before.ensures.lacks (use_lacks u is) c.split_before.ensures.starts starts (sym c.split_before.ensures.parts ∙ e) in
    c.in-Err.ensures.only u is once.0
