use Rattle.std.proofs.Common.{◌≡◌, ◌∙◌, List, ℕ}
use Rattle.std.proofs.lemmas.Result.{IfOk-weaker}
use Rattle.vdb_record.specs.Texts.{folder_texts}
use Rattle.vdb_record.specs.Views.{texts_in}
use Rattle.vdb_law.specs.Database.{folder}
use Rattle.vdb_text.specs.Telling.{texts_at}
use Rattle.vdb_text.proofs.Files.{own_texts}
use Rattle.vdb_text.proofs.Placed.{file_paths}
use Rattle.vdb_text.proofs.texts.read_folder.Goals as goal

pub returns-clause-texts : goal.returns-clause-texts
returns-clause-texts g c t =
    let m = (g.T.Tree.story c.args.tree.now).now.holds in
    let text : List ℕ = c.as_str.result.now in
    let id = c.args.id.now in
    IfOk-weaker c.read_texts.result (λ r. texts_in r ≡ texts_at m text) (λ r. texts_in r ≡ folder_texts (folder m id))
    (λ r e. e ∙ own_texts m id text (c.as_str.ensures.value ∙ c.in_ok-folder.ensures)) (c.read_texts.ensures.texts t)

pub read_texts-requires : goal.read_texts-requires
read_texts-requires g c = file_paths c.args.id.now c.as_str.result.now c.id_is_one.ensures (c.as_str.ensures.value ∙ c.in_ok-folder.ensures)
