use Rattle.std.proofs.Common.{◌≡◌, ◌⊎◌, ◌∙◌, List, ap, inl, inr, subst, sym, true, ℕ}
use Rattle.std.proofs.lemmas.Option.{MatchOption-at_some}
use Rattle.std.proofs.lemmas.Result.{IfErr-weaker, IfOk-weaker}
use Rattle.dep_atom.specs.Ids.{IsIdOf, IsNoId}
use Rattle.dep_atom.specs.declared.package.PackageId.{PackageId}
use Rattle.file_tree.specs.Paths.{is_path}
use Rattle.file_tree.specs.declared.fault.TreeFault.TheVariants as trees
use Rattle.vdb_record.specs.Faults.{FirstFault}
use Rattle.vdb_record.specs.Texts.{Tell}
use Rattle.vdb_record.specs.Views.{texts_in}
use Rattle.vdb_record.specs.declared.fault.RecordFault.{RecordFault}
use Rattle.vdb_text.specs.Faults.{FolderFault, located}
use Rattle.vdb_text.specs.Machine.{IsOfMachine}
use Rattle.vdb_text.specs.Telling.{Tells, folder_path, texts_at}
use Rattle.vdb_text.specs.declared.fault.DatabaseFault.TheVariants.{Tree}
use Rattle.vdb_text.proofs.Placed.{file_paths}
use Rattle.vdb_text.proofs.Record.{bad_record, of_machine, tells, told_by}
use Rattle.vdb_text.proofs.package.read_package.Goals as goal

pub returns-clause-found : goal.returns-clause-found
returns-clause-found g c t =
    let m = (g.T.Tree.story c.args.tree.now).now.holds in
    let text : List ℕ = c.args.folder.now in
    let spelled : List ℕ = c.as_str-folder.result.now in
    let same : spelled ≡ text = c.as_str-folder.ensures in
    let id : PackageId = c.in-Some.id in
    let owner : IsIdOf text id = subst (λ (s : List ℕ). IsIdOf s id) same (MatchOption-at_some (IsNoId spelled) (IsIdOf spelled) id c.in-Some.is c.in_ok-id.ensures) in
    let texts = texts_in c.in_ok-texts.texts in
    let are = c.in_ok-texts.ensures.texts t ∙ ap (λ (s : List ℕ). texts_at m s) same in
    IfOk-weaker c.package_in.result (Tell texts id) (Tells m text) (tells m text id owner texts are) c.package_in.ensures.found

pub returns-clause-only : goal.returns-clause-only
returns-clause-only g c t p h =
    let m = (g.T.Tree.story c.args.tree.now).now.holds in
    let text : List ℕ = c.args.folder.now in
    let spelled : List ℕ = c.as_str-folder.result.now in
    let same : spelled ≡ text = c.as_str-folder.ensures in
    let id : PackageId = c.in-Some.id in
    let owner : IsIdOf text id = subst (λ (s : List ℕ). IsIdOf s id) same (MatchOption-at_some (IsNoId spelled) (IsIdOf spelled) id c.in-Some.is c.in_ok-id.ensures) in
    let texts = texts_in c.in_ok-texts.texts in
    let are = c.in_ok-texts.ensures.texts t ∙ ap (λ (s : List ℕ). texts_at m s) same in
    of_machine c.package_in.result (λ r. r ≡ p) (c.package_in.ensures.only p (told_by m text id owner texts are p h))

pub returns-clause-fault : goal.returns-clause-fault
returns-clause-fault g c t =
    let m = (g.T.Tree.story c.args.tree.now).now.holds in
    let text : List ℕ = c.args.folder.now in
    let spelled : List ℕ = c.as_str-folder.result.now in
    let same : spelled ≡ text = c.as_str-folder.ensures in
    let id : PackageId = c.in-Some.id in
    let owner : IsIdOf text id = subst (λ (s : List ℕ). IsIdOf s id) same (MatchOption-at_some (IsNoId spelled) (IsIdOf spelled) id c.in-Some.is c.in_ok-id.ensures) in
    let texts = texts_in c.in_ok-texts.texts in
    let are = c.in_ok-texts.ensures.texts t ∙ ap (λ (s : List ℕ). texts_at m s) same in
    IfErr-weaker c.package_in.result (λ e. (e ≡ Tree trees.Memory) ⊎ ((f : RecordFault) × FirstFault texts f × (e ≡ located spelled f))) (λ e. IsOfMachine e ⊎ FolderFault m text e)
    (λ e h. elim h [
      | inl memory ↦ inl (trees.Memory, memory)
      | inr f ↦ inr (bad_record m text id owner texts are f.0 e f.1 (f.2 ∙ ap (λ (s : List ℕ). located s f.0) same))
    ])
    c.package_in.ensures.fault

pub read_texts-requires : goal.read_texts-requires
read_texts-requires g c =
    let spelled : List ℕ = c.as_str-folder.result.now in
    let id : PackageId = c.in-Some.id in
    let owner : IsIdOf spelled id = MatchOption-at_some (IsNoId spelled) (IsIdOf spelled) id c.in-Some.is c.in_ok-id.ensures in
    file_paths id spelled owner.is owner.named

pub package_in-requires : goal.package_in-requires
package_in-requires g c =
    let spelled : List ℕ = c.as_str-folder.result.now in
    let id : PackageId = c.in-Some.id in
    let owner : IsIdOf spelled id = MatchOption-at_some (IsNoId spelled) (IsIdOf spelled) id c.in-Some.is c.in_ok-id.ensures in
    file_paths id spelled owner.is owner.named

pub folder_path-requires : goal.folder_path-requires
folder_path-requires g c = subst (λ (t : List ℕ). is_path (folder_path t) ≡ true) (sym c.as_str-folder.ensures) c.requires
