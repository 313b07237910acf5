use Rattle.std.proofs.Common.{◌∙◌, List, sym, ap, ℕ}
use Rattle.file_tree.specs.PathSets.{is_in}
use Rattle.owner_book.specs.Book.{Book, is_owner, paths_of}
use Rattle.owner_book.proofs.Naming.{named_owned}
use Rattle.owner_book.proofs.Under.{given_have, given_is}
use Rattle.owner_book.proofs.Views.{view_owner}
use Rattle.owner_book.proofs.book.OwnerBook.paths_of.Goals as goal

pub returns-clause-paths : goal.returns-clause-paths
returns-clause-paths c =
    let named = named_owned c.self.inside.index c.self.inside.claims.entries c.self.inside.named c.self.invariant.0 c.self.invariant.1 c.args.owner in
    c.in_ok-paths.ensures
    ∙ (given_is c.self.inside.index c.len-order.ensures.index c.self.inside.named c.len-rising.ensures.ordered c.args.owner named
    ∙ ap (λ (v : Book). paths_of v.owned c.args.owner) c.self.view_is)

pub returns-clause-owned : goal.returns-clause-owned
returns-clause-owned c = λ q.
    let named = named_owned c.self.inside.index c.self.inside.claims.entries c.self.inside.named c.self.invariant.0 c.self.invariant.1 c.args.owner in
    ap (λ (l : List (List ℕ)). is_in l q) c.in_ok-paths.ensures
    ∙ (given_have c.self.inside.index c.len-order.ensures.index c.self.inside.named c.len-rising.ensures.ordered c.args.owner named q
    ∙ ap (is_owner c.args.owner) (sym (view_owner c.self.inside.index c.self.inside.claims.entries c.args.self.now c.self.invariant.0 c.self.view_is q)))
