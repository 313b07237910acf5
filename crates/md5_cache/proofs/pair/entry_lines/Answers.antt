use Rattle.std.proofs.Common.{◌∙◌, ap, sym}
use Rattle.std.proofs.lemmas.List.{nil_from_length}
use Rattle.md5_cache.proofs.Lines.{lines_cut, lines_full, lines_none}
use Rattle.md5_cache.proofs.pair.entry_lines.Goals.{in-Some+then-not-is_empty+in_ok-push, in-Some+else-not-is_empty, in_default}
use Rattle.md5_cache.proofs.pair.entry_lines.Goals as goal

pub returns : goal.returns
returns c = elim c.match-pop.branch [
  | in-Some+then-not-is_empty+in_ok-push w ↦ lines_full c.in_ok-lines.lines.items c.pop.new.self.items c.match-pop.lines.items w.in-Some.last _ c.in_ok-lines.ensures w.in-Some.ensures.items w.if-not-is_empty.ensures (ap (λ v. v.items) w.lines-is ∙ w.in_ok-push.ensures.items)
  | in-Some+else-not-is_empty w ↦ lines_cut c.in_ok-lines.lines.items c.pop.new.self.items c.match-pop.lines.items w.in-Some.last _ c.in_ok-lines.ensures w.in-Some.ensures.items w.if-not-is_empty.ensures (ap (λ v. v.items) w.lines-is)
  | in_default w ↦ lines_none c.in_ok-lines.lines.items c.match-pop.lines.items _ c.in_ok-lines.ensures (nil_from_length c.in_ok-lines.lines.items (sym c.in_ok-lines.lines.ok.0 ∙ w.in_default.ensures.cases.0)) (ap (λ v. v.items) w.lines-is ∙ nil_from_length c.pop.new.self.items (sym c.pop.new.self.ok.0 ∙ w.in_default.ensures.cases.1))
]
