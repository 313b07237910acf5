use Rattle.std.proofs.Common.{◌≡◌, ◌∙◌, ap, inl, inr, map}
use Rattle.std.proofs.lemmas.Result.{IfErr-weaker, IfOk-weaker, err_from_is_err_and}
use Rattle.file_tree.specs.Disk.{Map, Story}
use Rattle.file_tree.specs.declared.fault.TreeFault.TheVariants as trees
use Rattle.visible_set.specs.Configured.{IsSetup, Setup, file_value, setup_of}
use Rattle.visible_set.proofs.OfferLemmas.{are_offers, is_behind}
use Rattle.visible_set.proofs.reading.read_offers.Goals as goal

pub returns-clause-found : goal.returns-clause-found
returns-clause-found g c t =
    let m : Map = (g.T.Tree.story c.args.tree.now).now.holds in
    let n : Map = (g.T.Tree.story c.read_config.new.tree).now.holds in
    let n-is : n ≡ m = ap (λ (s : Story). s.now.holds) (c.in_ok-config.ensures.same t) in
    let s : Setup = setup_of c.in_ok-config.config c.deref.result.now in
    let is : IsSetup m s = record { read = c.in_ok-config.ensures.found t; files = ap (map file_value) c.deref.ensures.value ∙ c.in_ok-files.ensures } in
    IfOk-weaker c.offers_by.result _ _ (λ o offers. are_offers m n n-is s is c.args.flips o.implicit o.candidates.items o.hidden.items offers) (c.offers_by.ensures.found t)

pub returns-clause-only : goal.returns-clause-only
returns-clause-only g c t k read =
    let m : Map = (g.T.Tree.story c.args.tree.now).now.holds in
    let n : Map = (g.T.Tree.story c.read_config.new.tree).now.holds in
    let n-is : n ≡ m = ap (λ (s : Story). s.now.holds) (c.in_ok-config.ensures.same t) in
    let s : Setup = setup_of c.in_ok-config.config c.deref.result.now in
    let is : IsSetup m s = record { read = c.in_ok-config.ensures.found t; files = ap (map file_value) c.deref.ensures.value ∙ c.in_ok-files.ensures } in
    IfErr-weaker c.offers_by.result _ _ (λ e why. elim why [
      | inl machine ↦ inl machine
      | inr held ↦ inr (is_behind m n n-is s is e held)
    ]) (c.offers_by.ensures.fault t)

pub returns-clause-fault : goal.returns-clause-fault
returns-clause-fault g c t =
    let m : Map = (g.T.Tree.story c.args.tree.now).now.holds in
    let n : Map = (g.T.Tree.story c.read_config.new.tree).now.holds in
    let n-is : n ≡ m = ap (λ (s : Story). s.now.holds) (c.in_ok-config.ensures.same t) in
    let s : Setup = setup_of c.in_ok-config.config c.deref.result.now in
    let is : IsSetup m s = record { read = c.in_ok-config.ensures.found t; files = ap (map file_value) c.deref.ensures.value ∙ c.in_ok-files.ensures } in
    IfErr-weaker c.offers_by.result _ _ (λ e why. elim why [
      | inl machine ↦ inl machine
      | inr held ↦ inr (inr (is_behind m n n-is s is e held))
    ]) (c.offers_by.ensures.fault t)

pub returns-in_err-config-clause-only : goal.returns-in_err-config-clause-only
returns-in_err-config-clause-only g c t k read =
    let q = err_from_is_err_and c.from_residual.result c.from_residual.ensures.1 in
    rw (q.1, q.2) (inl (c.in_err-config.ensures.only t k read))

pub returns-in_err-config-clause-fault : goal.returns-in_err-config-clause-fault
returns-in_err-config-clause-fault g c t =
    let q = err_from_is_err_and c.from_residual.result c.from_residual.ensures.1 in
    rw (q.1, q.2) (elim (c.in_err-config.ensures.fault t) [
      | inl machine ↦ inl machine
      | inr unread ↦ inr (inl unread)
    ])

pub returns-in_err-files-clause-only : goal.returns-in_err-files-clause-only
returns-in_err-files-clause-only g c t k read =
    let q = err_from_is_err_and c.from_residual-in_err-files.result c.from_residual-in_err-files.ensures.1 in
    rw q.1 (inl (trees.Memory, q.2))

pub returns-in_err-files-clause-fault : goal.returns-in_err-files-clause-fault
returns-in_err-files-clause-fault g c t =
    let q = err_from_is_err_and c.from_residual-in_err-files.result c.from_residual-in_err-files.ensures.1 in
    rw q.1 (inl (trees.Memory, q.2))
