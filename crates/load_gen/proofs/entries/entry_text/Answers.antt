use Rattle.std.proofs.Common.{◌∙◌, ℕ, List, ◌++◌, ap, append_assoc}
use Rattle.std.specs.Prelude.{codes}
use Rattle.load_gen.specs.Loads.{built_on, need_line, needed_by}
use Rattle.load_gen.proofs.entries.entry_text.Goals as goal

pub returns : goal.returns
returns c =
    let head = codes "EAPI=8\nKEYWORDS=amd64\n" in
    let tail = codes "SLOT=0\n_md5_=d41d8cd98f00b204e9800998ecf8427e\n" in
    let build = need_line (codes "DEPEND") (built_on c.args.number) in
    let run = need_line (codes "RDEPEND") (needed_by c.args.count c.args.number) in
    let first = c.in_ok-text.ensures ∙ ap (need_line (codes "DEPEND")) c.built_on.ensures in
    let second = c.as_str.ensures.value ∙ (c.in_ok-run.ensures ∙ ap (need_line (codes "RDEPEND")) c.needed_by.ensures) in
    c.in_ok-push_str-3.ensures.bytes
    ∙ (ap (λ (l : List ℕ). l ++ tail) (c.in_ok-push_str-2.ensures.bytes
    ∙ (ap (λ (l : List ℕ). l ++ c.as_str.result.now) (c.in_ok-push_str.ensures.bytes ∙ ap (λ (l : List ℕ). l ++ head) first)
    ∙ ap (λ (l : List ℕ). (build ++ head) ++ l) second))
    ∙ (append_assoc (build ++ head) run tail ∙ append_assoc build head (run ++ tail)))
