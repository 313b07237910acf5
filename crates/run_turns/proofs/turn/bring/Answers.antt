use Rattle.std.proofs.Common.{◌≡◌, ◌∙◌, ◌++◌, ℕ, List, ap, map, sym}
use Rattle.std.proofs.lemmas.List.{map-append}
use Rattle.file_tree.specs.declared.objects.Entry.{Entry}
use Rattle.merge_group.specs.Working.{all_in}
use Rattle.merge_fit.specs.Images.{path_of}
use Rattle.run_files.specs.Keys.{folder_of}
use Rattle.run_files.specs.declared.newcomer.Newcomer.{Newcomer}
use Rattle.run_turns.specs.Held.{holding, holdings_of}
use Rattle.run_turns.proofs.turn.bring.Goals as goal

pub returns-clause-files : goal.returns-clause-files
returns-clause-files c ps coming are = c.in_ok-files.ensures ps coming are

pub returns-clause-held : goal.returns-clause-held
returns-clause-held c q =
    let f = c.in_ok-files.files in
    let old = holdings_of c.args.held.now in
    let paths : List (List ℕ) = c.add_entries-2.new.paths.items in
    let image : c.add_entries.new.paths.items ≡ map path_of f.image.items =
    c.in_ok-add_entries.ensures ∙ (ap (λ (l : List (List ℕ)). l ++ map path_of c.deref.result.now) c.new-paths.ensures.items ∙ ap (map path_of) c.deref.ensures.value) in
    let all : paths ≡ map path_of (all_in f) =
    c.in_ok-add_entries-2.ensures
    ∙ (ap (λ (l : List (List ℕ)). l ++ map path_of c.deref-2.result.now) image
    ∙ (ap (λ (l : List Entry). map path_of f.image.items ++ map path_of l) c.deref-2.ensures.value ∙ sym (map-append path_of f.image.items f.folder.items))) in
    c.in_ok-hold.ensures q
    ∙ (ap (λ (b : List ℕ). holding b paths old q) (c.in_ok-folder.ensures ∙ ap (λ (n : Newcomer). folder_of n.pkg) c.newcomer.view_is)
    ∙ ap (λ (l : List (List ℕ)). holding (folder_of c.args.newcomer.pkg) l old q) all)
