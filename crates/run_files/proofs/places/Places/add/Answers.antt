use Rattle.std.proofs.Common.{◌≡◌, ◌∙◌, ◌++◌, ◌∷◌, ◌+◌, ℕ, List, [], Some, ap, cond, length, sym}
use Rattle.std.specs.Prelude.{bytes_eq, is_some, string_bytes}
use Rattle.std.specs.BTreeMap.{get_by_text}
use Rattle.std.proofs.lemmas.List.{length_push}
use Rattle.std.proofs.lemmas.Map.Text.{btree_map_updates_text}
use Rattle.dep_atom.specs.Ids.{id_text}
use Rattle.file_tree.specs.PathSets.{is_in}
use Rattle.run_files.specs.declared.places.Places.{Places}
use Rattle.run_files.proofs.PlaceLemmas.{found_again, found_new, is_found}
use Rattle.run_files.proofs.places.Places.add.Goals as goal
use Rattle.run_files.proofs.places.Places.add.Goals.{then-not-contains_key+in_ok-insert, else-not-contains_key}

pub returns : goal.returns
returns c texts are =
    let old = c.args.self.now.places in
    let t : List ℕ = id_text c.args.id.now in
    let text : c.as_str.result.now ≡ t = c.as_str.ensures.value ∙ c.in_ok-folder.ensures in
    let known : c.contains_key.result ≡ is_in texts t = c.contains_key.ensures ∙ (ap is_some (ap (get_by_text old) text ∙ are.places t) ∙ is_found t texts) in
    let count : c.in-Some.count ≡ length (texts ++ t ∷ []) = c.in-Some.ensures.1 ∙ (ap (λ (n : ℕ). n + 1) are.count ∙ sym (length_push texts t)) in
    record {
      count = count;
      places = λ q. elim c.if-not-contains_key.branch [
        | then-not-contains_key+in_ok-insert w ↦ (
            let fresh = w.insert.new.self in
            let bytes = string_bytes c.in_ok-folder.folder in
            let changed = btree_map_updates_text bytes old fresh (Some c.args.self.now.count) w.in_ok-insert.ensures.updates q in
            let mine = changed
            ∙ (ap (λ (b : List ℕ). cond (bytes_eq b q) (Some c.args.self.now.count) (get_by_text old q)) c.in_ok-folder.ensures
            ∙ ap (λ (n : ℕ). cond (bytes_eq t q) (Some n) (get_by_text old q)) are.count) in
            ap (λ (x : Places). get_by_text x.places q) w.self-is ∙ found_new q t texts (get_by_text old q) (get_by_text fresh q) (sym known ∙ w.if-not-contains_key.true) (are.places q) mine)
        | else-not-contains_key w ↦ ap (λ (x : Places). get_by_text x.places q) w.self-is ∙ (are.places q ∙ found_again q t texts (sym known ∙ w.if-not-contains_key.false))
      ];
    }
