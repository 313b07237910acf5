use Rattle.std.proofs.Common.{◌∙◌, ◌++◌, List, ap, lit<, sym, ℕ}
use Rattle.std.proofs.lemmas.Str.Pattern.{strip_prefix_char}
use Rattle.file_tree.proofs.Below.{behind_folder}
use Rattle.file_tree.proofs.paths.Path.behind.Goals as goal

pub returns : goal.returns
returns c =
    let front = c.in_ok-rest.ensures.cases in
    let begins = sym c.text.ensures.text ∙ front.1.1 ∙ ap (λ (t : List ℕ). c.args.folder.now ++ t) (sym front.2) in
    behind_folder c.args.self.now c.args.folder.now c.in_ok-rest.rest.now begins c.strip_prefix-2.result
    (strip_prefix_char 47 c.in_ok-rest.rest.now c.strip_prefix-2.result c.strip_prefix-2.ensures.cases (lit< tt))
