use Rattle.std.proofs.Common.{◌≡◌, ◌<◌, ◌++◌, ◌∙◌, ℕ, List, [], ap, arith, drop, length, refl, subst, suc, sym, true}
use Rattle.std.proofs.lemmas.List.{flat_map_more}
use Rattle.std.proofs.lemmas.Iterator.Adapters.{YieldsList-from_vec}
use Rattle.std.proofs.lemmas.Iterator.Consumers.{YieldsList-turn}
use Rattle.std.proofs.lemmas.Result.{err_from_is_err_and}
use Rattle.basics.proofs.Each.{all-append}
use Rattle.file_tree.specs.declared.objects.Entry.{Entry}
use Rattle.merge_fit.specs.Images.{is_good}
use Rattle.merge_fit.specs.Misfits.{AreGood}
use Rattle.owner_book.specs.declared.wish.Wish.{Wish}
use Rattle.merge_group.specs.Granted.{wishes_in}
use Rattle.merge_group.specs.Working.{HasStaged, all_in, all_of, standing_at}
use Rattle.merge_group.proofs.Caused.{front_push, packages_stop}
use Rattle.merge_group.proofs.Left.{split_at}
use Rattle.merge_group.proofs.Worked.{works_start, works_then}
use Rattle.merge_group.proofs.staging.stage_packages.Goals as goal

pub loop-files-init : goal.loop-files-init
loop-files-init g c = (works_start c.args.group c.args.site.now, refl, c.requires.at, c.requires.staged, refl, omega arith, tt, refl, c.requires.unwished, refl)

pub stage_files-requires-clause-row : goal.stage_files-requires-clause-row
stage_files-requires-clause-row g c = subst (λ (n : ℕ). c.args.group < n) (sym c.loop-files.invariant.9) c.requires.row

pub loop-files-preserved : goal.loop-files-preserved
loop-files-preserved g c =
    let all = c.args.packages.items in
    let ps = c.loop-files.yielded in
    let f = c.in-Some.files in
    let i = c.loop-files.invariant in
    let long : c.into_iter-files-iterator.result.rest.len ≡ length all = cc in
    let known = YieldsList-from_vec all c.into_iter-files-iterator.ensures.into_iter_gives.0 long in
    let y = YieldsList-turn known ps _ c.loop-files.yielded_by c.next.result c.next.new.self f c.in-Some.is c.next.ensures.steps in
    let e = c.stage_files.ensures in
    let o = c.in_ok-stage_files.ensures in
    let b = c.stage_files.new.site in
    let staged = flat_map_more all_in [] ps f in (
      works_then c.args.group c.args.site.now c.loop-files.site b i.0 e.works,
      e.order ∙ i.1,
      o.at,
      subst (λ (l : List Entry). HasStaged l (standing_at b c.args.group)) staged (o.staged (all_of ps) i.3),
      e.sink ∙ i.4,
      omega (arith, i.5, e.faults.later),
      subst (λ (l : List Entry). AreGood l) staged (all-append (λ x. is_good x ≡ true) (all_of ps) (all_in f) i.6 o.good),
      front_push all ps f i.7 y.0 y.1,
      o.wishes ∙ (ap (λ (l : List Wish). l ++ wishes_in f) i.8 ∙ flat_map_more wishes_in [] ps f),
      o.rows ∙ i.9,
    )

pub returns-in_err-stage_files-clause-works : goal.returns-in_err-stage_files-clause-works
returns-in_err-stage_files-clause-works g c =
    works_then c.args.group c.args.site.now c.loop-files.site c.stage_files.new.site c.loop-files.invariant.0 c.stage_files.ensures.works

pub returns-in_err-stage_files-clause-cause : goal.returns-in_err-stage_files-clause-cause
returns-in_err-stage_files-clause-cause g c =
    let all = c.args.packages.items in
    let ps = c.loop-files.yielded in
    let f = c.in-Some.files in
    let i = c.loop-files.invariant in
    let long : c.into_iter-files-iterator.result.rest.len ≡ length all = cc in
    let known = YieldsList-from_vec all c.into_iter-files-iterator.ensures.into_iter_gives.0 long in
    let y = YieldsList-turn known ps _ c.loop-files.yielded_by c.next.result c.next.new.self f c.in-Some.is c.next.ensures.steps in
    let p = err_from_is_err_and c.from_residual.result c.from_residual.ensures.1 in
    rw (p.1, p.2) (packages_stop ps (drop (suc (length ps)) all) all f _ (split_at all ps f i.7 y.0 y.1) i.6 (c.in_err-stage_files.ensures.cause (all_of ps) i.3))
