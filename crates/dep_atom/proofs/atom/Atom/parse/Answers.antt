use Rattle.std.proofs.Common.{inl, inr}
use Rattle.dep_atom.proofs.Blame.{blame, slot_blame, uses_blame, ending_within}
use Rattle.std.proofs.Common.{◌≡◌, ◌∙◌, ap, sym, length}
use Rattle.dep_atom.specs.Values.{AtomValue}
use Rattle.dep_atom.specs.declared.reading.Package.{Package}
use Rattle.dep_atom.specs.Text.{block_text, op_text, name_text, version_part, star_text, slot_text, uses_text}
use Rattle.dep_atom.proofs.Whole.{begins_once, ends_as_once, package_form_of, joined}
use Rattle.dep_atom.proofs.atom.Atom.parse.Goals as goal

abbrev package_of : AtomValue → Package
package_of a = record { name = a.name; version = a.version; star = a.star }

pub returns-in-Err-clause-only : goal.returns-in-Err-clause-only
returns-in-Err-clause-only c =
    λ a is e.
    let begins = begins_once c.as_bytes.result.now c.take_block-block.result.1.now c.take_op-op.result.1.now c.split_before.result.0.now c.split_before.result.1.now c.take_block-block.result.0 c.take_op-op.result.0 a is c.take_block-block.ensures.parts c.take_block-block.ensures.block c.take_op-op.ensures.parts c.take_op-op.ensures.op c.split_before.ensures.parts c.split_before.ensures.lacks c.split_before.ensures.starts (c.as_bytes.ensures.value ∙ e) in
    c.in-Err.ensures.only (package_of a) (package_form_of c.take_op-op.result.0 a is begins.same_op) begins.same_body

pub returns-in-Err-read_slot-clause-only : goal.returns-in-Err-read_slot-clause-only
returns-in-Err-read_slot-clause-only c =
    λ a is e.
    let begins = begins_once c.as_bytes.result.now c.take_block-block.result.1.now c.take_op-op.result.1.now c.split_before.result.0.now c.split_before.result.1.now c.take_block-block.result.0 c.take_op-op.result.0 a is c.take_block-block.ensures.parts c.take_block-block.ensures.block c.take_op-op.ensures.parts c.take_op-op.ensures.op c.split_before.ensures.parts c.split_before.ensures.lacks c.split_before.ensures.starts (c.as_bytes.ensures.value ∙ e) in
    let ends = ends_as_once c.split_before.result.1.now c.split_before-2.result.0.now c.split_before-2.result.1.now a is c.split_before-2.ensures.parts c.split_before-2.ensures.lacks c.split_before-2.ensures.starts begins.same_ending in
    c.in-Err-read_slot.ensures.only a.slot is.slot_form ends.0

pub returns-in-Err-read_uses-clause-only : goal.returns-in-Err-read_uses-clause-only
returns-in-Err-read_uses-clause-only c =
    λ a is e.
    let begins = begins_once c.as_bytes.result.now c.take_block-block.result.1.now c.take_op-op.result.1.now c.split_before.result.0.now c.split_before.result.1.now c.take_block-block.result.0 c.take_op-op.result.0 a is c.take_block-block.ensures.parts c.take_block-block.ensures.block c.take_op-op.ensures.parts c.take_op-op.ensures.op c.split_before.ensures.parts c.split_before.ensures.lacks c.split_before.ensures.starts (c.as_bytes.ensures.value ∙ e) in
    let ends = ends_as_once c.split_before.result.1.now c.split_before-2.result.0.now c.split_before-2.result.1.now a is c.split_before-2.ensures.parts c.split_before-2.ensures.lacks c.split_before-2.ensures.starts begins.same_ending in
    c.in-Err-read_uses.ensures.only a.uses is.use_forms ends.1

pub returns-clause-found : goal.returns-clause-found
returns-clause-found c =
    sym c.as_bytes.ensures.value ∙ joined c.as_bytes.result.now (block_text c.take_block-block.result.0) c.take_block-block.result.1.now (op_text c.take_op-op.result.0) c.take_op-op.result.1.now c.split_before.result.0.now c.split_before.result.1.now (name_text c.in-Ok.package.name) (version_part c.in-Ok.package.version) (star_text c.in-Ok.package.star) c.split_before-2.result.0.now (slot_text c.in-Ok-read_slot.slot) c.split_before-2.result.1.now (uses_text c.in-Ok-read_uses.uses.items) c.take_block-block.ensures.parts c.take_op-op.ensures.parts c.split_before.ensures.parts c.in-Ok.ensures.found c.split_before-2.ensures.parts c.in-Ok-read_slot.ensures.found c.in-Ok-read_uses.ensures.found

pub returns-clause-only : goal.returns-clause-only
returns-clause-only c =
    λ a is e.
    let begins = begins_once c.as_bytes.result.now c.take_block-block.result.1.now c.take_op-op.result.1.now c.split_before.result.0.now c.split_before.result.1.now c.take_block-block.result.0 c.take_op-op.result.0 a is c.take_block-block.ensures.parts c.take_block-block.ensures.block c.take_op-op.ensures.parts c.take_op-op.ensures.op c.split_before.ensures.parts c.split_before.ensures.lacks c.split_before.ensures.starts (c.as_bytes.ensures.value ∙ e) in
    let ends = ends_as_once c.split_before.result.1.now c.split_before-2.result.0.now c.split_before-2.result.1.now a is c.split_before-2.ensures.parts c.split_before-2.ensures.lacks c.split_before-2.ensures.starts begins.same_ending in
    let same : c.in-Ok.package ≡ package_of a = c.in-Ok.ensures.only (package_of a) (package_form_of c.take_op-op.result.0 a is begins.same_op) begins.same_body in
    λ i.
    record {
      block = begins.same_block i;
      op = begins.same_op i;
      name = ap (λ (x : Package). x.name) same i;
      version = ap (λ (x : Package). x.version) same i;
      star = ap (λ (x : Package). x.star) same i;
      slot = c.in-Ok-read_slot.ensures.only a.slot is.slot_form ends.0 i;
      uses = c.in-Ok-read_uses.ensures.only a.uses is.use_forms ends.1 i;
    }

pub returns-in-Err-clause-fault : goal.returns-in-Err-clause-fault
returns-in-Err-clause-fault c = blame c.args.text.now c.as_bytes.result.now c.take_block-block.result.1.now c.take_op-op.result.1.now c.split_before.result.0.now c.split_before.result.1.now c.split_before-2.result.0.now c.split_before-2.result.1.now c.take_block-block.result.0 c.take_op-op.result.0 c.in-Err.fault c.as_bytes.ensures.value c.take_block-block.ensures.parts c.take_block-block.ensures.block c.take_op-op.ensures.parts c.take_op-op.ensures.op c.split_before.ensures.parts c.split_before.ensures.lacks c.split_before.ensures.starts c.split_before-2.ensures.parts c.split_before-2.ensures.lacks c.split_before-2.ensures.starts (inl c.in-Err.ensures.fault)

pub returns-in-Err-read_slot-clause-fault : goal.returns-in-Err-read_slot-clause-fault
returns-in-Err-read_slot-clause-fault c = blame c.args.text.now c.as_bytes.result.now c.take_block-block.result.1.now c.take_op-op.result.1.now c.split_before.result.0.now c.split_before.result.1.now c.split_before-2.result.0.now c.split_before-2.result.1.now c.take_block-block.result.0 c.take_op-op.result.0 c.in-Err-read_slot.fault c.as_bytes.ensures.value c.take_block-block.ensures.parts c.take_block-block.ensures.block c.take_op-op.ensures.parts c.take_op-op.ensures.op c.split_before.ensures.parts c.split_before.ensures.lacks c.split_before.ensures.starts c.split_before-2.ensures.parts c.split_before-2.ensures.lacks c.split_before-2.ensures.starts (inr ((c.in-Ok.package.name, c.in-Ok.package.version, c.in-Ok.package.star, c.in-Ok.ensures.form, c.in-Ok.ensures.found), inl (slot_blame c.split_before-2.result.0.now c.in-Err-read_slot.fault c.in-Err-read_slot.ensures.fault c.in-Err-read_slot.ensures.only)))

pub returns-in-Err-read_uses-clause-fault : goal.returns-in-Err-read_uses-clause-fault
returns-in-Err-read_uses-clause-fault c = blame c.args.text.now c.as_bytes.result.now c.take_block-block.result.1.now c.take_op-op.result.1.now c.split_before.result.0.now c.split_before.result.1.now c.split_before-2.result.0.now c.split_before-2.result.1.now c.take_block-block.result.0 c.take_op-op.result.0 c.in-Err-read_uses.fault c.as_bytes.ensures.value c.take_block-block.ensures.parts c.take_block-block.ensures.block c.take_op-op.ensures.parts c.take_op-op.ensures.op c.split_before.ensures.parts c.split_before.ensures.lacks c.split_before.ensures.starts c.split_before-2.ensures.parts c.split_before-2.ensures.lacks c.split_before-2.ensures.starts (inr ((c.in-Ok.package.name, c.in-Ok.package.version, c.in-Ok.package.star, c.in-Ok.ensures.form, c.in-Ok.ensures.found), inr ((c.in-Ok-read_slot.slot, c.in-Ok-read_slot.ensures.form, c.in-Ok-read_slot.ensures.found), uses_blame (length c.args.text.now) c.as_bytes.result.now c.split_before-2.result.1.now c.in-Err-read_uses.fault (ap length (sym c.as_bytes.ensures.value)) (ending_within c.as_bytes.result.now (block_text c.take_block-block.result.0) c.take_block-block.result.1.now (op_text c.take_op-op.result.0) c.take_op-op.result.1.now c.split_before.result.0.now c.split_before.result.1.now c.split_before-2.result.0.now c.split_before-2.result.1.now c.take_block-block.ensures.parts c.take_op-op.ensures.parts c.split_before.ensures.parts c.split_before-2.ensures.parts) (c.in-Err-read_uses.ensures.fault c.split_before-2.ensures.starts) c.in-Err-read_uses.ensures.only)))
