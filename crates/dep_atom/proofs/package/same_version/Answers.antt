use Rattle.std.proofs.Common.{◌≡◌, ◌∙◌, ◌∷◌, [], List, ℕ, ap, sym}
use Rattle.std.proofs.lemmas.Slice.Eq.{bytes_eq-Decides}
use Rattle.dep_atom.proofs.Named.{joined_once}
use Rattle.pms_grammar.specs.Grammar.{spelling}
use Rattle.dep_atom.proofs.package.same_version.Goals as goal

pub returns : goal.returns
returns c =
    let a = c.args.a.now in
    let b = c.args.b.now in (
      (λ t. let e : spelling a ≡ spelling b = sym c.text.ensures.text ∙ ((bytes_eq-Decides c.text.result.now c.text-2.result.now).0 (sym c.eq.ensures ∙ t) ∙ c.text-2.ensures.text) in
          (joined_once [] [] a b c.text.ensures.form c.text-2.ensures.form (ap (λ (s : List ℕ). 45 ∷ s) e)).1),
      (λ e. c.eq.ensures ∙ (bytes_eq-Decides c.text.result.now c.text-2.result.now).1 (c.text.ensures.text ∙ (ap spelling e ∙ sym c.text-2.ensures.text))),
    )
