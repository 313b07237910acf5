use Rattle.std.proofs.Common.{◌≡◌, ◌∙◌, ℕ, List, Option, ap, length}
use Rattle.std.specs.Prelude.{unwrap_or}
use Rattle.std.specs.BTreeMap.{get_by_text}
use Rattle.dep_atom.specs.Ids.{id_text}
use Rattle.law_run.specs.Openings.{key_at}
use Rattle.run_files.proofs.PlaceLemmas.{found_or_end}
use Rattle.run_files.proofs.places.Places.key.Goals as goal
use Rattle.run_files.proofs.places.Places.key.Goals.{in-Some, in-None}

pub returns : goal.returns
returns c texts are =
    let m = c.args.self.now.places in
    let t : List ℕ = id_text c.args.id.now in
    let text : c.as_str.result.now ≡ t = c.as_str.ensures.value ∙ c.in_ok-folder.ensures in
    let found = ap (get_by_text m) text ∙ are.places t in
    let or_end = λ (o : Option ℕ). unwrap_or o (length texts) in
    elim c.match-get.branch [
      | in-Some w ↦ ap key_at (w.number-is ∙ (ap or_end (w.in-Some.ensures.value ∙ found) ∙ found_or_end t texts))
      | in-None w ↦ ap key_at (w.number-is ∙ (are.count ∙ (ap or_end (w.in-None.ensures.value ∙ found) ∙ found_or_end t texts)))
    ]
