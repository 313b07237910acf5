use Rattle.std.proofs.Common.{◌∙◌, sym, subst}
use Rattle.std.specs.Str.{IsUtf8}
use Rattle.config_text.specs.Known.{value_of}
use Rattle.config_text.proofs.Items.{assigns, both_texts, closed_value, value_is_text}
use Rattle.config_text.proofs.Wholes.{key_is_text}
use Rattle.config_text.proofs.assignment.read_assignment.Goals as goal

pub copy-requires : goal.copy-requires
copy-requires c = key_is_text c.in-Some.key.now c.in-Some.ensures.named

pub copy-requires-in-Closed : goal.copy-requires-in-Closed
copy-requires-in-Closed c =
    let named = value_of c.args.known.now.values in
    let closed = closed_value named c.in-Some.rest.now c.new-value.result.items c.read_value.new.value.items c.in_ok-quote.field-0 c.in-Closed.behind c.new-value.ensures.items c.in_ok-quote.ensures c.in-Closed.is in
    subst IsUtf8 (sym c.deref.ensures.value)
    (both_texts named c.in-Some.rest.now c.in-Closed.behind.now c.read_value.new.value.items (value_is_text c.args.text.now c.in-Some.key.now c.in-Some.rest.now c.requires.utf8 c.in-Some.ensures) closed.0 closed.1).0

pub returns-clause-found : goal.returns-clause-found
returns-clause-found c =
    let named = value_of c.args.known.now.values in
    let closed = closed_value named c.in-Some.rest.now c.new-value.result.items c.read_value.new.value.items c.in_ok-quote.field-0 c.in-Closed.behind c.new-value.ensures.items c.in_ok-quote.ensures c.in-Closed.is in
    assigns named c.args.line c.args.text.now c.in-Some.key.now c.in-Some.rest.now c.in-Closed.behind.now c.read_value.new.value.items c.in_ok-key-in-Closed.key c.in_ok-value-in-Closed.value c.requires.utf8 c.in-Some.ensures closed.0 closed.1
    c.in_ok-key-in-Closed.ensures (c.in_ok-value-in-Closed.ensures ∙ c.deref.ensures.value)
