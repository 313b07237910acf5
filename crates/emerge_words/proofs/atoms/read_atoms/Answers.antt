use Rattle.std.proofs.Common.{◌≡◌, ◌∙◌, ◌++◌, [], ap, rules, true, ℕ, List, Bor, map, slice_index_or}
use Rattle.std.proofs.lemmas.Result.{err_from_is_err_and}
use Rattle.dep_atom.specs.Text.{atom_text}
use Rattle.emerge_words.specs.Named.{is_kept}
use Rattle.emerge_words.proofs.Named.{fault_here, kept_here}
use Rattle.emerge_words.proofs.atoms.read_atoms.Goals as goal

pub returns-in_err-read_atom-clause-fault : goal.returns-in_err-read_atom-clause-fault
returns-in_err-read_atom-clause-fault c =
    let words = c.args.words.now in
    let i = c.loop-word.word-index in
    let none : Bor (List ℕ) = record { ref_ptr = (0, 0); now = [] } in
    let kept : is_kept c.args.may_name_world (slice_index_or words i none).now ≡ true = search rules in
    let atoms = c.loop-word.atoms.items in
    let p = err_from_is_err_and c.from_residual.result c.from_residual.ensures.1 in
    let here = kept_here c.args.may_name_world words i none c.loop-word-test.true kept in
    let cut = c.loop-word.invariant.0 ∙ ap (λ (ws : List (List ℕ)). map atom_text atoms ++ ws) here in
    rw (p.1, p.2) (fault_here _ atoms _ _ c.in_err-read_atom.field-0.0 cut c.loop-word.invariant.1 c.in_err-read_atom.ensures.fault)
