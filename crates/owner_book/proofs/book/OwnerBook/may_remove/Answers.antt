use Rattle.std.proofs.Common.{◌≡◌, ◌∙◌, Some, None, ap, sym}
use Rattle.std.specs.Option.{option_copied}
use Rattle.std.proofs.lemmas.Bool.{false≢true}
use Rattle.owner_book.specs.Going.{is_among}
use Rattle.owner_book.specs.Removing.{is_removable}
use Rattle.owner_book.specs.Slots.{slot_at}
use Rattle.owner_book.proofs.Removed.{removable_if, removable_of}
use Rattle.owner_book.proofs.book.OwnerBook.may_remove.Goals as goal

pub returns-in-Some-clause-may : goal.returns-in-Some-clause-may
returns-in-Some-clause-may c h =
    let slot : Some c.in-Some.slot.now ≡ slot_at c.self.inside.index c.as_bytes.result.now = sym (ap option_copied c.in-Some.is) ∙ c.get.ensures.slot in
    let text : c.as_bytes.result.now ≡ c.args.path.now = c.as_bytes.ensures.value ∙ c.text.ensures.text in
    let at : Some c.in-Some.slot.now ≡ slot_at c.self.inside.index c.args.path.now = slot ∙ ap (slot_at c.self.inside.index) text in
    removable_if c.self.inside.index c.self.inside.claims.entries c.args.self.now c.self.invariant.0 c.self.view_is (is_among c.args.dying.now) c.args.path.now
    (sym (ap (is_removable (is_among c.args.dying.now)) at) ∙ (sym c.is_removable.ensures ∙ h))

pub returns-in-Some-clause-not : goal.returns-in-Some-clause-not
returns-in-Some-clause-not c h may =
    let slot : Some c.in-Some.slot.now ≡ slot_at c.self.inside.index c.as_bytes.result.now = sym (ap option_copied c.in-Some.is) ∙ c.get.ensures.slot in
    let text : c.as_bytes.result.now ≡ c.args.path.now = c.as_bytes.ensures.value ∙ c.text.ensures.text in
    let at : Some c.in-Some.slot.now ≡ slot_at c.self.inside.index c.args.path.now = slot ∙ ap (slot_at c.self.inside.index) text in
    false≢true (sym h ∙ (c.is_removable.ensures ∙ (ap (is_removable (is_among c.args.dying.now)) at
    ∙ removable_of c.self.inside.index c.self.inside.claims.entries c.args.self.now c.self.invariant.0 c.self.view_is (is_among c.args.dying.now) c.args.path.now may)))

pub returns-in-None-clause-not : goal.returns-in-None-clause-not
returns-in-None-clause-not c h may =
    let slot : None ≡ slot_at c.self.inside.index c.as_bytes.result.now = sym (ap option_copied c.in-None.is) ∙ c.get.ensures.slot in
    let text : c.as_bytes.result.now ≡ c.args.path.now = c.as_bytes.ensures.value ∙ c.text.ensures.text in
    let at : None ≡ slot_at c.self.inside.index c.args.path.now = slot ∙ ap (slot_at c.self.inside.index) text in
    false≢true (ap (is_removable (is_among c.args.dying.now)) at
    ∙ removable_of c.self.inside.index c.self.inside.claims.entries c.args.self.now c.self.invariant.0 c.self.view_is (is_among c.args.dying.now) c.args.path.now may)
