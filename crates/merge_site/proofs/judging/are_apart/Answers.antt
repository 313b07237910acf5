use Rattle.std.proofs.Common.{◌≡◌, ◌∙◌, [], List, ℕ, Bool, ap, false, map, subst, sym, true}
use Rattle.std.specs.Prelude.{IfOk}
use Rattle.merge_journal.specs.Judging.{are_free}
use Rattle.merge_journal.proofs.Free.{first_stops, on_true, second_decides}
use Rattle.owner_book.specs.Book.{path_of}
use Rattle.merge_site.specs.Claiming.{record_paths}
use Rattle.merge_site.proofs.judging.are_apart.Goals as goal

pub returns-then-not-branch : goal.returns-then-not-branch
returns-then-not-branch c =
    let none : are_free c.new-taken.result c.args.removals.now ≡ false = cc (c.in_ok-take_paths.ensures.free, c.if-not-branch.true) in
    sym (first_stops [] c.args.removals.now (map path_of c.args.wishes.now) (subst (λ (l : List (List ℕ)). are_free l c.args.removals.now ≡ false) c.new-taken.ensures none))

pub returns : goal.returns
returns c =
    let ok : c.in_ok-take_paths.field-0 ≡ true = cc (c.if-not-branch.false) in
    let all : are_free c.new-taken.result c.args.removals.now ≡ true = cc (c.in_ok-take_paths.ensures.free, c.if-not-branch.false) in
    let decides = second_decides c.new-taken.result c.take_paths.new.taken c.args.removals.now (map path_of c.args.wishes.now) (on_true c.in_ok-take_paths.field-0 _ ok c.in_ok-take_paths.ensures.taken) all in
    subst (λ (x : Bool). IfOk c.take_wishes.result (λ b. b ≡ x)) (sym decides ∙ ap (λ (l : List (List ℕ)). are_free l (record_paths c.args.removals.now c.args.wishes.now)) c.new-taken.ensures) c.take_wishes.ensures
