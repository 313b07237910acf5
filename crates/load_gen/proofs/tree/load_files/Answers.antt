use Rattle.std.proofs.Common.{◌≡◌, ◌∙◌, List, [], ◌∷◌, ◌++◌, ap, append_assoc}
use Rattle.tree_mem.specs.Items.{Item}
use Rattle.load_gen.specs.Loads.{ebuild_file, entry_file, profile_file}
use Rattle.load_gen.proofs.Numbers.{flat_more}
use Rattle.load_gen.proofs.tree.load_files.Goals as goal

pub loop-number-preserved : goal.loop-number-preserved
loop-number-preserved c =
    let n = c.loop-number.number in
    let files : List Item = c.loop-number.files.items in
    let ebuild : Item = c.in_ok-ebuild_file.field-0 in
    let entry : Item = c.in_ok-entry_file.field-0 in
    let second : c.push-in-loop-number-2.new.self.items ≡ (files ++ ebuild ∷ []) ++ entry ∷ [] = c.in_ok-push-3.ensures.items ∙ ap (λ (l : List Item). l ++ entry ∷ []) c.in_ok-push-2.ensures.items in
    second
    ∙ (append_assoc files (ebuild ∷ []) (entry ∷ [])
    ∙ (ap (λ (e : Item). files ++ e ∷ entry ∷ []) c.in_ok-ebuild_file.ensures
    ∙ (ap (λ (e : Item). files ++ ebuild_file n ∷ e ∷ []) c.in_ok-entry_file.ensures
    ∙ flat_more profile_file (λ i. ebuild_file i ∷ entry_file c.args.count i ∷ []) files n c.loop-number.invariant)))
