use Rattle.std.proofs.Common.{◌≡◌, List, subst, true, ℕ}
use Rattle.std.specs.Prelude.{◌↔◌}
use Rattle.std.specs.List.{AllByRecursion}
use Rattle.basics.specs.Members.{Has}
use Rattle.file_tree.specs.Disk.{Lists}
use Rattle.file_tree.specs.Paths.{is_path}
use Rattle.file_tree.specs.Fixed.{database_path}
use Rattle.vdb_text.specs.Folders.{IsAmong}
use Rattle.vdb_text.proofs.Listed.{folders_of_map}
use Rattle.vdb_text.proofs.Placed.{are_at_paths}
use Rattle.vdb_text.proofs.folders.list_folders.Goals as goal

pub returns-clause-folders : goal.returns-clause-folders
returns-clause-folders g c t =
    let m = (g.T.Tree.story c.args.tree.now).now.holds in
    let paths = c.in_ok-listed.listed.items in
    let texts = c.in_ok-folders_among.field-0.items in
    let lists : Lists m database_path paths = subst (λ (p : List ℕ). Lists m p paths) c.in_ok-database.ensures (c.in_ok-listed.ensures.answer t) in
    let members = subst (λ (ps : List (List ℕ)). (x : List ℕ) → Has texts x ↔ IsAmong ps x) c.deref-2.ensures.value c.in_ok-folders_among.ensures.members in
    record { rising = c.in_ok-folders_among.ensures.rising; members = folders_of_map m paths lists texts members }

pub returns-clause-paths : goal.returns-clause-paths
returns-clause-paths g c =
    let paths : List (List ℕ) = c.in_ok-listed.listed.items in
    let texts : List (List ℕ) = c.in_ok-folders_among.field-0.items in
    let all = subst (AllByRecursion (λ p. is_path p ≡ true)) c.deref.ensures.value c.are_paths.ensures in
    are_at_paths paths texts all (λ t has. subst (λ (ps : List (List ℕ)). IsAmong ps t) c.deref-2.ensures.value ((c.in_ok-folders_among.ensures.members t).0 has))
