use Rattle.std.proofs.Common.{◌∙◌, sym}
use Rattle.vdb_contents.proofs.Said.{a_file, no_file, no_file_digest, no_file_path, no_file_time}
use Rattle.vdb_contents.proofs.line.read_file.Goals as goal

pub returns-in_default : goal.returns-in_default
returns-in_default c = no_file c.args.rest.now c.in_default.ensures

pub returns-then-not-is_time : goal.returns-then-not-is_time
returns-then-not-is_time c =
    no_file_time c.args.rest.now c.in-Some.path.now c.in-Some.digits.now c.in-Some.time.now c.in-Some.ensures (sym c.is_time.ensures ∙ c.if-not-is_time.true)

pub returns-in_default-digest_from : goal.returns-in_default-digest_from
returns-in_default-digest_from c =
    no_file_digest c.args.rest.now c.in-Some.path.now c.in-Some.digits.now c.in-Some.time.now c.in-Some.ensures c.in_default-digest_from.ensures

pub returns-in_default-2 : goal.returns-in_default-2
returns-in_default-2 c =
    no_file_path c.args.rest.now c.in-Some.path.now c.in-Some.digits.now c.in-Some.time.now c.in-Some.ensures (rw c.in_default-2.is at c.in_ok-path.ensures)

pub returns : goal.returns
returns c =
    a_file c.args.rest.now c.in-Some.path.now c.in-Some.digits.now c.in-Some.time.now c.in-Some-digest_from.md5 c.in-Some-2.path c.in-Some.ensures
    (sym c.is_time.ensures ∙ c.if-not-is_time.false) c.in-Some-digest_from.ensures (rw c.in-Some-2.is at c.in_ok-path.ensures)
