use Rattle.std.proofs.Common.{◌≡◌, ◌∙◌, ℕ, List, Err, ap, arith, subst, sym}
use Rattle.std.proofs.lemmas.Result.{IfErr-weaker, IfOk-weaker, err_from_is_err_and}
use Rattle.file_tree.specs.Disk.{Map, Story}
use Rattle.vdb_law.specs.Packages.{Installed}
use Rattle.law_run.specs.Openings.{AreOwners, HasOpening}
use Rattle.visible_set.specs.Offers.{AreOffers}
use Rattle.run_opening.specs.Faults as opens
use Rattle.emerge_find.specs.Choices.{choices_of, flips_of}
use Rattle.emerge_find.specs.Refusals.{HasOffers}
use Rattle.emerge_find.specs.Sources.{HasNoSource, IsSource}
use Rattle.emerge_find.proofs.Aimed.{can_aim, found_of, no_failure, of_end, of_source, read_of_end, read_of_source}
use Rattle.emerge_find.proofs.Whole.{are_choices, owners_kept, unclaimed_kept}
use Rattle.emerge_find.proofs.finding.find_plan.Goals as goal

pub returns-in_err-offers-clause-refused : goal.returns-in_err-offers-clause-refused
returns-in_err-offers-clause-refused g c t =
    let p = err_from_is_err_and c.from_residual.result c.from_residual.ensures.1 in
    rw (p.1, p.2) (c.in_err-offers.ensures.fault t)

pub returns-in_err-offers-clause-read : goal.returns-in_err-offers-clause-read
returns-in_err-offers-clause-read g c t = λ config read.
    let p = err_from_is_err_and c.from_residual.result c.from_residual.ensures.1 in
    rw (p.1, p.2) (c.in_err-offers.ensures.only t config read)

pub returns-in_err-offers-clause-faults : goal.returns-in_err-offers-clause-faults
returns-in_err-offers-clause-faults g c =
    let p = err_from_is_err_and c.from_residual.result c.from_residual.ensures.1 in
    let counts = c.in_err-offers.ensures.faults in
    rw (p.1, p.2) (record { later = counts.later; rose = λ fails. counts.rose (ap Err fails) })

pub returns-in_err-source-clause-refused : goal.returns-in_err-source-clause-refused
returns-in_err-source-clause-refused g c t =
    let p = err_from_is_err_and c.from_residual-in_err-source.result c.from_residual-in_err-source.ensures.1 in
    let m : Map = (g.T.Tree.story c.args.tree.now).now.holds in
    let back : (g.T.Tree.story c.read_offers.new.tree).now.holds ≡ m = ap (λ (s : Story). s.now.holds) (c.in_ok-offers.ensures.same t) in
    let o = c.in_ok-offers.offers in
    let has : HasOffers m (flips_of c.args.asked.aim) = record { implicit = o.implicit; candidates = o.candidates.items; hidden = o.hidden.items; are = subst (λ (n : ℕ). AreOffers m n o.implicit o.candidates.items o.hidden.items) c.flips_of.ensures (c.in_ok-offers.ensures.found t) } in
    let fault = c.in_err-source.field-0.0 in
    rw (p.1, p.2) (of_source m c.args.asked has fault (subst (λ (y : Map). HasNoSource y c.args.asked.aim fault) back (c.in_err-source.ensures.refused t)))

pub returns-in_err-source-clause-read : goal.returns-in_err-source-clause-read
returns-in_err-source-clause-read g c t = λ config read.
    let p = err_from_is_err_and c.from_residual-in_err-source.result c.from_residual-in_err-source.ensures.1 in
    let m : Map = (g.T.Tree.story c.args.tree.now).now.holds in
    let n : Map = (g.T.Tree.story c.read_offers.new.tree).now.holds in
    rw (p.1, p.2) (read_of_source m n c.args.asked.aim c.in_err-source.field-0.0 (c.in_err-source.ensures.refused t))

pub returns-in_err-opening-clause-refused : goal.returns-in_err-opening-clause-refused
returns-in_err-opening-clause-refused g c t =
    let p = err_from_is_err_and c.from_residual-in_err-opening.result c.from_residual-in_err-opening.ensures.1 in
    let m : Map = (g.T.Tree.story c.args.tree.now).now.holds in
    let first : (g.T.Tree.story c.read_offers.new.tree).now.holds ≡ m = ap (λ (s : Story). s.now.holds) (c.in_ok-offers.ensures.same t) in
    let back : (g.T.Tree.story c.source_of.new.tree).now.holds ≡ m = ap (λ (s : Story). s.now.holds) (c.in_ok-source.ensures.same t) ∙ first in
    let o = c.in_ok-offers.offers in
    let aim = c.args.asked.aim in
    let aimed = can_aim m aim c.in_ok-source.source (subst (λ (y : Map). IsSource y aim c.in_ok-source.source) first (c.in_ok-source.ensures.found t)) in
    let fault = c.in_err-opening.field-0.0 in
    rw (p.1, p.2) (record {
      implicit = o.implicit;
      candidates = o.candidates.items;
      hidden = o.hidden.items;
      offers = subst (λ (n : ℕ). AreOffers m n o.implicit o.candidates.items o.hidden.items) c.flips_of.ensures (c.in_ok-offers.ensures.found t);
      aimed = aimed;
      refused = subst (λ (y : Map). opens.Refuses o.implicit y fault) back (c.in_err-opening.ensures.refused t);
      none = λ ps has. c.in_err-opening.ensures.only t ps (subst (λ (y : Map). HasOpening o.implicit y ps) (sym back) has);
    })

pub returns-in_err-opening-clause-read : goal.returns-in_err-opening-clause-read
returns-in_err-opening-clause-read g c t = λ config read.
    let p = err_from_is_err_and c.from_residual-in_err-opening.result c.from_residual-in_err-opening.ensures.1 in
    rw (p.1, p.2) tt

pub returns-clause-found : goal.returns-clause-found
returns-clause-found g c t =
    let m : Map = (g.T.Tree.story c.args.tree.now).now.holds in
    let first : (g.T.Tree.story c.read_offers.new.tree).now.holds ≡ m = ap (λ (s : Story). s.now.holds) (c.in_ok-offers.ensures.same t) in
    let n : Map = (g.T.Tree.story c.source_of.new.tree).now.holds in
    let back : n ≡ m = ap (λ (s : Story). s.now.holds) (c.in_ok-source.ensures.same t) ∙ first in
    let o = c.in_ok-offers.offers in
    let aim = c.args.asked.aim in
    let s = c.in_ok-source.source in
    let is = subst (λ (y : Map). IsSource y aim s) first (c.in_ok-source.ensures.found t) in
    let ps : List Installed = c.in_ok-opening.opening.packages.items in
    let k = choices_of o.implicit ps o.candidates.items o.hidden.items in
    let are = are_choices m n (flips_of aim) o.implicit ps o.candidates.items o.hidden.items back (subst (λ (n : ℕ). AreOffers m n o.implicit o.candidates.items o.hidden.items) c.flips_of.ensures (c.in_ok-offers.ensures.found t)) (c.in_ok-opening.ensures.found t) c.in_ok-opening.ensures.within (c.in_ok-opening.ensures.only t) in
    IfOk-weaker c.plan_over.result _ _ (λ f made. found_of m c.args.asked k are s is f made) c.plan_over.ensures.found

pub returns-clause-refused : goal.returns-clause-refused
returns-clause-refused g c t =
    let m : Map = (g.T.Tree.story c.args.tree.now).now.holds in
    let first : (g.T.Tree.story c.read_offers.new.tree).now.holds ≡ m = ap (λ (s : Story). s.now.holds) (c.in_ok-offers.ensures.same t) in
    let n : Map = (g.T.Tree.story c.source_of.new.tree).now.holds in
    let back : n ≡ m = ap (λ (s : Story). s.now.holds) (c.in_ok-source.ensures.same t) ∙ first in
    let o = c.in_ok-offers.offers in
    let aim = c.args.asked.aim in
    let s = c.in_ok-source.source in
    let is = subst (λ (y : Map). IsSource y aim s) first (c.in_ok-source.ensures.found t) in
    let ps : List Installed = c.in_ok-opening.opening.packages.items in
    let k = choices_of o.implicit ps o.candidates.items o.hidden.items in
    let are = are_choices m n (flips_of aim) o.implicit ps o.candidates.items o.hidden.items back (subst (λ (n : ℕ). AreOffers m n o.implicit o.candidates.items o.hidden.items) c.flips_of.ensures (c.in_ok-offers.ensures.found t)) (c.in_ok-opening.ensures.found t) c.in_ok-opening.ensures.within (c.in_ok-opening.ensures.only t) in
    IfErr-weaker c.plan_over.result _ _ (λ e end. of_end m c.args.asked k are s is e end) c.plan_over.ensures.refused

pub returns-clause-read : goal.returns-clause-read
returns-clause-read g c t = λ config read.
    let m : Map = (g.T.Tree.story c.args.tree.now).now.holds in
    let o = c.in_ok-offers.offers in
    let k = choices_of o.implicit c.in_ok-opening.opening.packages.items o.candidates.items o.hidden.items in
    IfErr-weaker c.plan_over.result _ _ (λ e end. read_of_end m k c.in_ok-source.source e end) c.plan_over.ensures.refused

pub returns-clause-faults : goal.returns-clause-faults
returns-clause-faults g c =
    let o = c.in_ok-offers.offers in
    let k = choices_of o.implicit c.in_ok-opening.opening.packages.items o.candidates.items o.hidden.items in
    record {
      later = omega (arith, c.in_ok-offers.ensures.faults.later, c.in_ok-source.ensures.faults.later, c.in_ok-opening.ensures.faults.later);
      rose = λ fails. absurd (no_failure k c.in_ok-source.source c.plan_over.result c.plan_over.ensures.refused fails);
    }

pub returns-clause-owners : goal.returns-clause-owners
returns-clause-owners g c t =
    let m : Map = (g.T.Tree.story c.args.tree.now).now.holds in
    let n : Map = (g.T.Tree.story c.source_of.new.tree).now.holds in
    let back : n ≡ m = ap (λ (s : Story). s.now.holds) (c.in_ok-source.ensures.same t) ∙ ap (λ (s : Story). s.now.holds) (c.in_ok-offers.ensures.same t) in
    let o = c.in_ok-opening.opening in
    owners_kept m c.plan_over.result o c.plan_over.ensures.packages c.plan_over.ensures.book
    (subst (λ (y : Map). AreOwners y o.packages.items o.book) back (c.in_ok-opening.ensures.owners t))

pub returns-clause-unclaimed : goal.returns-clause-unclaimed
returns-clause-unclaimed g c = unclaimed_kept c.plan_over.result c.in_ok-opening.opening c.plan_over.ensures.book c.in_ok-opening.ensures.unclaimed
