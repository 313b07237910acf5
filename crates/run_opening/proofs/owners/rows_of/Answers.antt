use Rattle.std.proofs.Common.{◌≡◌, ◌∙◌, List, Vec, Global, ap, arith, rules, subst, ℕ}
use Rattle.std.specs.Prelude.{◌↔◌}
use Rattle.basics.specs.Members.{Has}
use Rattle.file_tree.specs.Disk.{Map, Story}
use Rattle.merge_record.specs.declared.record.OwnerKey.{OwnerKey}
use Rattle.vdb_law.specs.Packages.{Installed}
use Rattle.vdb_law.specs.Step.{Owns}
use Rattle.law_run.specs.Openings.{key_at}
use Rattle.run_opening.proofs.Owned.{rows_more}
use Rattle.run_opening.proofs.owners.rows_of.Goals as goal

pub loop-place-preserved : goal.loop-place-preserved
loop-place-preserved g c =
    let m : Map = (g.T.Tree.story c.args.tree.now).now.holds in
    let inv = c.loop-place.invariant in
    let i : ℕ = c.loop-place.place in
    let p : Installed = c.index-packages-place.result in
    let paths : Vec (List ℕ) Global = c.in_ok-paths.paths in
    let row : OwnerKey × Vec (List ℕ) Global = (record { number = c.in_ok-number.number }, paths) in
    let number : c.in_ok-number.number ≡ i = search rules in (
      λ t.
          let same = ap (λ (s : Story). s.now.holds) (inv.1 t) in
          rows_more m c.args.packages.now i p c.loop-place.rows.items c.push.new.self.items row c.loop-place-test.true c.index-packages-place.is (inv.0 t)
          (record { keyed = ap key_at number; owned = λ q. subst (λ (y : Map). Has paths.items q ↔ Owns y p q) same (c.in_ok-paths.ensures.owned t q) })
          c.in_ok-push.ensures.items,
      λ t. c.in_ok-paths.ensures.same t ∙ inv.1 t,
      omega (arith, c.in_ok-paths.ensures.faults.later, inv.2),
    )
