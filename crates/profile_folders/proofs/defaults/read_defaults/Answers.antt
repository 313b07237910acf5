use Rattle.std.proofs.Common.{◌≡◌, ◌⊎◌, ◌∙◌, List, Some, [], ap, subst, sym, ℕ}
use Rattle.std.specs.Prelude.{codes}
use Rattle.file_tree.specs.Disk.{Map}
use Rattle.profile_folders.specs.Defaults.{AreSet, IsFaultOf, defaults_text}
use Rattle.profile_folders.specs.Machine.{IsOfMachine}
use Rattle.profile_folders.specs.Places.{path_of}
use Rattle.profile_folders.specs.Texts.{file_in, text_fault}
use Rattle.profile_folders.proofs.Followed.{none_of, some_of}
use Rattle.profile_folders.proofs.Variables.{is_itself, its_fault, its_text, no_text, none_set, one_set, only_memory}
use Rattle.profile_folders.proofs.defaults.read_defaults.Goals as goal

pub returns-in_default-clause-found : goal.returns-in_default-clause-found
returns-in_default-clause-found g c t =
    let m : Map = (g.T.Tree.story c.args.tree.now).now.holds in
    let empty : defaults_text m c.args.folder.now ≡ [] = no_text m _ (none_of c.in_ok-file.field-0 _ _ c.in_default.is c.in_ok-file.ensures) in
    rw c.new.ensures.items (subst (λ (x : List ℕ). AreSet x c.args.known.now []) (sym empty) (none_set c.args.known.now))

pub returns-in_default-clause-only : goal.returns-in_default-clause-only
returns-in_default-clause-only g c t those are =
    let m : Map = (g.T.Tree.story c.args.tree.now).now.holds in
    let empty : defaults_text m c.args.folder.now ≡ [] = no_text m _ (none_of c.in_ok-file.field-0 _ _ c.in_default.is c.in_ok-file.ensures) in
    c.new.ensures.items ∙ one_set [] c.args.known.now [] those (none_set c.args.known.now) (subst (λ (x : List ℕ). AreSet x c.args.known.now those) empty are)

pub returns-in-Ok-clause-found : goal.returns-in-Ok-clause-found
returns-in-Ok-clause-found g c t =
    let m : Map = (g.T.Tree.story c.args.tree.now).now.holds in
    let text : defaults_text m c.args.folder.now ≡ c.deref.result.now = its_text m _ c.in-Some.file c.deref.result.now (some_of c.in_ok-file.field-0 _ _ c.in-Some.file c.in-Some.is c.in_ok-file.ensures) (c.deref.ensures.value ∙ c.in_ok-bytes.ensures.text t) in
    subst (λ (x : List ℕ). AreSet x c.args.known.now c.in-Ok.found.items) (sym text) (record { utf8 = c.in-Ok.ensures.utf8; says = c.in-Ok.ensures.found })

pub returns-in-Ok-clause-only : goal.returns-in-Ok-clause-only
returns-in-Ok-clause-only g c t those are =
    let m : Map = (g.T.Tree.story c.args.tree.now).now.holds in
    let text : defaults_text m c.args.folder.now ≡ c.deref.result.now = its_text m _ c.in-Some.file c.deref.result.now (some_of c.in_ok-file.field-0 _ _ c.in-Some.file c.in-Some.is c.in_ok-file.ensures) (c.deref.ensures.value ∙ c.in_ok-bytes.ensures.text t) in
    let set = subst (λ (x : List ℕ). AreSet x c.args.known.now those) text are in
    c.in-Ok.ensures.only those set.utf8 set.says

pub returns-clause-only : goal.returns-clause-only
returns-clause-only g c t those are =
    let m : Map = (g.T.Tree.story c.args.tree.now).now.holds in
    let text : defaults_text m c.args.folder.now ≡ c.deref.result.now = its_text m _ c.in-Some.file c.deref.result.now (some_of c.in_ok-file.field-0 _ _ c.in-Some.file c.in-Some.is c.in_ok-file.ensures) (c.deref.ensures.value ∙ c.in_ok-bytes.ensures.text t) in
    let set = subst (λ (x : List ℕ). AreSet x c.args.known.now those) text are in
    only_memory c.in-Some.file c.in-Err.fault c.in_ok-located-in-Err.field-0 (c.in-Err.ensures.only those set.utf8 set.says) c.in_ok-located-in-Err.ensures

pub returns-clause-fault : goal.returns-clause-fault
returns-clause-fault g c t =
    let m : Map = (g.T.Tree.story c.args.tree.now).now.holds in
    let place : path_of (file_in c.args.folder.now (codes "make.defaults")) ≡ Some c.in-Some.file = some_of c.in_ok-file.field-0 _ _ c.in-Some.file c.in-Some.is c.in_ok-file.ensures in
    let text : defaults_text m c.args.folder.now ≡ c.deref.result.now = its_text m _ c.in-Some.file c.deref.result.now place (c.deref.ensures.value ∙ c.in_ok-bytes.ensures.text t) in
    let e = c.in_ok-located-in-Err.field-0 in
    let named : c.in-Some.file ≡ file_in c.args.folder.now (codes "make.defaults") = is_itself _ c.in-Some.file place in
    subst (λ (x : List ℕ). IsOfMachine e ⊎ IsFaultOf (file_in c.args.folder.now (codes "make.defaults")) x e) (sym text)
    (its_fault _ c.deref.result.now c.in-Err.fault e c.in-Err.ensures.fault (c.in_ok-located-in-Err.ensures ∙ ap (λ (f : List ℕ). text_fault f c.in-Err.fault) named))
