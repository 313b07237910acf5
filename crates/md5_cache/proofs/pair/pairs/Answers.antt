use Rattle.std.proofs.Common.{◌≡◌, ◌∙◌, ap, map, subst, sym}
use Rattle.std.specs.List.{AllByRecursion}
use Rattle.basics.specs.Members.{AreDistinct}
use Rattle.config_text.proofs.BadBytes.{no_bad_byte}
use Rattle.config_text.proofs.Runs.{some_of}
use Rattle.md5_cache.specs.PairFaults.{IsFirstRepeated}
use Rattle.md5_cache.specs.Pairs.{HasEquals, entry_lines, keys_of, pair_of, pairs_of}
use Rattle.md5_cache.proofs.Keys.{no_repeated}
use Rattle.md5_cache.proofs.Lines.{no_line_fault, now_of}
use Rattle.md5_cache.proofs.pair.pairs.Goals as goal

pub returns-in-Err-clause-only : goal.returns-in-Err-clause-only
returns-in-Err-clause-only c = λ f. absurd (no_bad_byte c.args.bytes.now c.in-Err.field-0 f.utf8 c.in-Err.ensures.line)

pub returns-in-Err-clause-fault : goal.returns-in-Err-clause-fault
returns-in-Err-clause-fault c = λ u. no_bad_byte c.args.bytes.now c.in-Err.field-0 u c.in-Err.ensures.line

pub returns-in-Err-read_lines-clause-only : goal.returns-in-Err-read_lines-clause-only
returns-in-Err-read_lines-clause-only c = λ f.
    let lines : now_of c.deref.result.now ≡ entry_lines c.args.bytes.now = ap now_of c.deref.ensures.value ∙ (c.in_ok-lines.ensures ∙ ap entry_lines c.in-Ok.ensures.text) in
    no_line_fault (now_of c.deref.result.now) c.in-Err-read_lines.fault (subst (AllByRecursion HasEquals) (sym lines) f.split) c.in-Err-read_lines.ensures.fault

pub returns-in-Some-clause-only : goal.returns-in-Some-clause-only
returns-in-Some-clause-only c = λ f.
    let lines : now_of c.deref.result.now ≡ entry_lines c.args.bytes.now = ap now_of c.deref.ensures.value ∙ (c.in_ok-lines.ensures ∙ ap entry_lines c.in-Ok.ensures.text) in
    let pairs : c.deref-2.result.now ≡ pairs_of c.args.bytes.now = c.deref-2.ensures.value ∙ (c.in-Ok-read_lines.ensures.found ∙ ap (map pair_of) lines) in
    absurd
    (no_repeated (keys_of c.deref-2.result.now) c.in-Some.key.now (subst AreDistinct (ap keys_of (sym pairs)) f.once)
    (some_of c.in_ok-key.field-0 (AreDistinct (keys_of c.deref-2.result.now)) (λ key. IsFirstRepeated (keys_of c.deref-2.result.now) key.now) c.in-Some.key c.in_ok-key.ensures c.in-Some.is))
