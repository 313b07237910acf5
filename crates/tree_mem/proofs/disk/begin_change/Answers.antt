use Rattle.std.proofs.Common.{◌≡◌, ◌∙◌, ℕ, Bool, cond, true, List, ap}
use Rattle.std.proofs.lemmas.Map.Text.{is_eq-slice_cmp}
use Rattle.std.specs.BTreeMap.{is_at}
use Rattle.tree_mem.specs.Items.{path_cmp}
use Rattle.tree_mem.specs.Record.{is_among}
use Rattle.tree_mem.proofs.disk.begin_change.Goals as goal

pub returns-clause-touched : goal.returns-clause-touched
returns-clause-touched c q =
    let old = c.args.touched.now.keys in
    let adds : (q : List ℕ) → is_among c.insert.new.self.keys q ≡ cond (is_at (path_cmp c.args.path.now) q) true (is_among old q)
    = rw c.in_ok-try_clone.ensures at c.in_ok-is_new.ensures.updates.0 in
    adds q ∙ ap (λ (b : Bool). cond b true (is_among old q)) (is_eq-slice_cmp c.args.path.now q)
