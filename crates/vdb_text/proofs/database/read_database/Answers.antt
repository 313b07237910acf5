use Rattle.std.proofs.Common.{◌≡◌, ◌⊎◌, List, inl, inr, subst, sym}
use Rattle.std.proofs.lemmas.Result.{IfErr-weaker}
use Rattle.file_tree.specs.Disk.{Map}
use Rattle.file_tree.specs.declared.fault.TreeFault.TheVariants as trees
use Rattle.vdb_law.specs.Database.{IsDatabase}
use Rattle.vdb_law.specs.Packages.{Installed}
use Rattle.vdb_overlap.specs.Overlaps.{IsFirstOverlap}
use Rattle.vdb_overlap.specs.declared.overlap.Overlap.{Overlap}
use Rattle.vdb_text.specs.Faults.{FirstFault, Overlaps, overlap_fault}
use Rattle.vdb_text.specs.Limits.{AreWithin}
use Rattle.vdb_text.specs.Machine.{IsOfMachine}
use Rattle.vdb_text.specs.Owned.{all_paths}
use Rattle.vdb_text.specs.declared.fault.DatabaseFault.TheVariants.{Tree}
use Rattle.vdb_text.proofs.Tidy.{overlaps_of, tidy_only}
use Rattle.vdb_text.proofs.database.read_database.Goals as goal

pub returns-in-None-clause-only : goal.returns-in-None-clause-only
returns-in-None-clause-only g c t ps db tidy =
    tidy_only (λ v. v.items) c.tidy.result c.in_ok-packages.packages.items ps (g.T.Tree.story c.args.tree.now).now.holds db tidy (c.in_ok-packages.ensures.only t ps db) c.tidy.ensures.same c.tidy.ensures.fault

pub returns-in-None-clause-fault : goal.returns-in-None-clause-fault
returns-in-None-clause-fault g c t =
    let m : Map = (g.T.Tree.story c.args.tree.now).now.holds in
    let ps : List Installed = c.in_ok-packages.packages.items in
    let db : IsDatabase m ps = c.in_ok-packages.ensures.found t in
    let within : AreWithin ps = subst AreWithin c.deref.ensures.value c.in-None.ensures in
    IfErr-weaker c.tidy.result (λ e. (e ≡ Tree trees.Memory) ⊎ ((o : Overlap) × IsFirstOverlap (all_paths ps) o × (e ≡ overlap_fault o))) (λ e. IsOfMachine e ⊎ FirstFault m e)
    (λ e h. elim h [
      | inl memory ↦ inl (trees.Memory, memory)
      | inr o ↦ inr (inr (inr (record { packages = ps; database = db; within = within; overlaps = subst (Overlaps ps) (sym o.2) (overlaps_of m ps db o.0 o.1) })))
    ])
    c.tidy.ensures.fault
