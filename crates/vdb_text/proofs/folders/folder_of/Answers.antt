use Rattle.std.proofs.Common.{◌≡◌, ◌∙◌, ◌++◌, ◌∷◌, List, Some, None, ap, lit<, sym, ℕ}
use Rattle.std.specs.Prelude.{codes}
use Rattle.std.proofs.lemmas.Str.Pattern.{split_parts}
use Rattle.vdb_text.proofs.Cuts.{at_category, at_name, counted_by, left_out, no_slash_if}
use Rattle.vdb_text.proofs.folders.folder_of.Goals as goal

pub returns-in_err-rest : goal.returns-in_err-rest
returns-in_err-rest c =
    rw c.from_residual.ensures (λ is. c.in_err-rest.ensures (is.category ++ (47 ∷ (is.pf ++ (47 ∷ is.name)))) is.is)

pub returns-in_err-category : goal.returns-in_err-category
returns-in_err-category c =
    let begins : c.args.path.now ≡ codes "var/db/pkg/" ++ c.in_ok-rest.rest.now = c.in_ok-rest.ensures in
    rw c.from_residual-in_err-category.ensures (λ is. at_category c.args.path.now c.in_ok-rest.rest.now begins is None c.in_err-category.ensures.cases)

pub returns-in_err-pf : goal.returns-in_err-pf
returns-in_err-pf c =
    let begins : c.args.path.now ≡ codes "var/db/pkg/" ++ c.in_ok-rest.rest.now = c.in_ok-rest.ensures in
    rw c.from_residual-in_err-pf.ensures
    (λ is.
    let category = at_category c.args.path.now c.in_ok-rest.rest.now begins is (Some (c.in_ok-category.category, c.in_ok-category.behind)) c.in_ok-category.ensures.cases in
    at_name c.args.path.now c.in_ok-rest.rest.now begins is c.in_ok-category.behind.now None category.1 c.in_err-pf.ensures.cases)

pub returns-then-is_left_out : goal.returns-then-is_left_out
returns-then-is_left_out c = λ is.
    let begins : c.args.path.now ≡ codes "var/db/pkg/" ++ c.in_ok-rest.rest.now = c.in_ok-rest.ensures in
    let category = at_category c.args.path.now c.in_ok-rest.rest.now begins is (Some (c.in_ok-category.category, c.in_ok-category.behind)) c.in_ok-category.ensures.cases in
    let pf = at_name c.args.path.now c.in_ok-rest.rest.now begins is c.in_ok-category.behind.now (Some (c.in_ok-pf.pf, c.in_ok-pf.field-0-1)) category.1 c.in_ok-pf.ensures.cases in
    left_out c.in_ok-category.category.now c.in_ok-pf.pf.now c.args.path.now is category.0 pf.0 (sym c.is_left_out.ensures ∙ c.if-is_left_out.true)

pub returns : goal.returns
returns c =
    let begins : c.args.path.now ≡ codes "var/db/pkg/" ++ c.in_ok-rest.rest.now = c.in_ok-rest.ensures in
    let first = split_parts 47 c.in_ok-rest.rest.now (Some (c.in_ok-category.category, c.in_ok-category.behind)) c.in_ok-category.ensures.cases (lit< tt) in
    let second = split_parts 47 c.in_ok-category.behind.now (Some (c.in_ok-pf.pf, c.in_ok-pf.field-0-1)) c.in_ok-pf.ensures.cases (lit< tt) in
    let whole = begins ∙ ap (λ (t : List ℕ). codes "var/db/pkg/" ++ t) (first.0 ∙ ap (λ (t : List ℕ). c.in_ok-category.category.now ++ (47 ∷ t)) second.0) in
    record {
      counted = counted_by c.in_ok-category.category.now c.in_ok-pf.pf.now c.in_ok-pf.field-0-1.now c.args.path.now whole (no_slash_if c.in_ok-category.category.now first.1) (no_slash_if c.in_ok-pf.pf.now second.1) (sym c.is_left_out.ensures ∙ c.if-is_left_out.false);
      only = λ is.
          let category = at_category c.args.path.now c.in_ok-rest.rest.now begins is (Some (c.in_ok-category.category, c.in_ok-category.behind)) c.in_ok-category.ensures.cases in
          let pf = at_name c.args.path.now c.in_ok-rest.rest.now begins is c.in_ok-category.behind.now (Some (c.in_ok-pf.pf, c.in_ok-pf.field-0-1)) category.1 c.in_ok-pf.ensures.cases in
          (sym category.0, sym pf.0);
    }
