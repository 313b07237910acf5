use Rattle.std.proofs.Common.{◌≡◌, ◌∙◌, List, ap, inl, refl, subst, sym}
use Rattle.std.proofs.lemmas.Result.{err_from_is_err_and}
use Rattle.file_tree.specs.Disk.{Map, Story}
use Rattle.file_tree.specs.declared.fault.TreeFault.TheVariants as trees
use Rattle.owner_book.specs.Book.{Book}
use Rattle.pkg_state.specs.Consistent.{AreApart}
use Rattle.vdb_law.specs.Database.{IsDatabase, IsTidy}
use Rattle.vdb_law.specs.Packages.{Installed}
use Rattle.law_commit.specs.Lit.{packages_of}
use Rattle.law_run.specs.Openings.{AreOwners}
use Rattle.run_opening.proofs.Crowded.{refused_crowded}
use Rattle.run_opening.proofs.Judged.{in_place, refused_database}
use Rattle.run_opening.proofs.repairing.read_repairable.Goals as goal

pub returns-in_err-found-clause-only : goal.returns-in_err-found-clause-only
returns-in_err-found-clause-only g c t ps o =
    let p = err_from_is_err_and c.from_residual.result c.from_residual.ensures.1 in
    rw (p.1, p.2) (in_place ps c.in_err-found.field-0.0 (c.in_err-found.ensures.only t ps o.database o.tidy))

pub returns-in_err-found-clause-refused : goal.returns-in_err-found-clause-refused
returns-in_err-found-clause-refused g c t =
    let p = err_from_is_err_and c.from_residual.result c.from_residual.ensures.1 in
    let m : Map = (g.T.Tree.story c.args.tree.now).now.holds in
    rw (p.1, p.2) (refused_database c.args.implicit.now m c.in_err-found.field-0.0 (c.in_err-found.ensures.fault t))

pub returns-in_err-packages-clause-only : goal.returns-in_err-packages-clause-only
returns-in_err-packages-clause-only g c t ps o =
    let p = err_from_is_err_and c.from_residual-in_err-packages.result c.from_residual-in_err-packages.ensures.1 in
    let same : c.in_ok-found.found.items ≡ ps = c.in_ok-found.ensures.only t ps o.database o.tidy in
    let fit : AreApart (packages_of c.args.implicit.now c.in_ok-found.found.items) = subst (λ (l : List Installed). AreApart (packages_of c.args.implicit.now l)) (sym same) o.apart in
    rw (p.1, p.2) (inl (trees.Memory, c.in_err-packages.ensures.fine fit))

pub returns-in_err-packages-clause-refused : goal.returns-in_err-packages-clause-refused
returns-in_err-packages-clause-refused g c t =
    let p = err_from_is_err_and c.from_residual-in_err-packages.result c.from_residual-in_err-packages.ensures.1 in
    let m : Map = (g.T.Tree.story c.args.tree.now).now.holds in
    rw (p.1, p.2) (refused_crowded c.args.implicit.now m c.in_ok-found.found.items c.in_err-packages.field-0.0 (c.in_ok-found.ensures.found t) c.in_ok-found.ensures.within c.in_ok-found.ensures.tidy c.in_err-packages.ensures.crowded)

pub returns-in_err-book-clause-only : goal.returns-in_err-book-clause-only
returns-in_err-book-clause-only g c t ps o =
    let p = err_from_is_err_and c.from_residual-in_err-book.result c.from_residual-in_err-book.ensures.1 in
    rw (p.1, p.2) (inl (c.in_err-book.field-0.0, refl))

pub returns-in_err-book-clause-refused : goal.returns-in_err-book-clause-refused
returns-in_err-book-clause-refused g c t =
    let p = err_from_is_err_and c.from_residual-in_err-book.result c.from_residual-in_err-book.ensures.1 in
    rw (p.1, p.2) tt

pub returns-clause-found : goal.returns-clause-found
returns-clause-found g c t =
    let m : Map = (g.T.Tree.story c.args.tree.now).now.holds in
    let same = c.in_ok-packages.ensures.same in
    record {
      database = subst (IsDatabase m) (sym same) (c.in_ok-found.ensures.found t);
      tidy = subst IsTidy (sym same) c.in_ok-found.ensures.tidy;
      apart = c.in_ok-packages.ensures.apart;
    }

pub returns-clause-owners : goal.returns-clause-owners
returns-clause-owners g c t =
    let m : Map = (g.T.Tree.story c.args.tree.now).now.holds in
    let n : Map = (g.T.Tree.story c.read_database.new.tree).now.holds in
    let book : Book = c.in_ok-book.book in
    let back : n ≡ m = ap (λ (s : Story). s.now.holds) (c.in_ok-found.ensures.same t) in
    let listed : List Installed = c.deref.result.now in
    let all : listed ≡ c.in_ok-found.found.items = c.deref.ensures.value ∙ c.in_ok-packages.ensures.same in
    let db : IsDatabase n listed = subst (IsDatabase n) (sym all) (subst (λ (y : Map). IsDatabase y c.in_ok-found.found.items) (sym back) (c.in_ok-found.ensures.found t)) in
    let tidy : IsTidy listed = subst IsTidy (sym all) c.in_ok-found.ensures.tidy in
    subst (λ (l : List Installed). AreOwners m l book) c.deref.ensures.value (subst (λ (y : Map). AreOwners y listed book) back (c.in_ok-book.ensures.owners t db tidy))

pub returns-clause-only : goal.returns-clause-only
returns-clause-only g c t ps o = c.in_ok-packages.ensures.same ∙ c.in_ok-found.ensures.only t ps o.database o.tidy
