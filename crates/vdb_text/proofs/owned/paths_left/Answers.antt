use Rattle.std.proofs.Common.{◌≡◌, ◌+◌, ◌≤◌, ◌∙◌, List, ap, arith, length, sym, take, ℕ, get_or, rules}
use Rattle.std.proofs.lemmas.List.Folds.{length-flat_map-take}
use Rattle.std.proofs.lemmas.List.{length-map}
use Rattle.vdb_contents.specs.Contents.{path_of}
use Rattle.vdb_law.specs.Packages.{Installed, paths}
use Rattle.vdb_text.specs.Owned.{all_paths}
use Rattle.vdb_text.proofs.owned.paths_left.Goals as goal

pub returns-in_default : goal.returns-in_default
returns-in_default c =
    let ps : List Installed = c.args.packages.now in
    let i : ℕ = c.loop-package.package-index in
    let x : Installed = c.package-item.result in
    let own : length (paths x) ≡ length x.owned = length-map x.owned path_of in
    let more : length (all_paths (take i ps)) + length (paths (get_or ps i x)) ≤ length (all_paths ps) = length-flat_map-take paths ps i x c.loop-package-test.true in
    let here : length (paths (get_or ps i x)) ≡ length x.owned = ap (λ (p : Installed). length (paths p)) (sym c.package-item.is) ∙ own in
    let fits : ¬ (c.len.result ≤ c.loop-package.left) = c.in_default.ensures in
    let len : c.len.result ≡ length x.owned = search rules in
    omega (arith, c.loop-package.invariant, more, here, fits, len)
