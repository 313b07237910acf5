use Rattle.std.proofs.Common.{◌∙◌, Bool, None, Option, Some, ap, cond, false}
use Rattle.std.specs.BTreeMap.{get_by}
use Rattle.std.specs.Cmp.Lexicographic.{slice_cmp}
use Rattle.std.specs.Option.{option_or}
use Rattle.std.specs.Ordering.{nat_cmp}
use Rattle.std.specs.Prelude.{bytes_eq}
use Rattle.std.proofs.lemmas.Map.Text.{btree_map_updates_str}
use Rattle.visible_rules.proofs.Hearing.{or_cond}
use Rattle.visible_rules.proofs.said.Said.say.Goals as goal

pub returns : goal.returns
returns c q =
    let rest = cond c.args.self.now.took_all (Some false) None in
    ap (λ (o : Option Bool). option_or o rest) (btree_map_updates_str c.args.keyword.now c.args.self.now.words c.insert.new.self (Some c.args.accepted) c.in_ok-insert.ensures.updates q)
    ∙ or_cond (bytes_eq c.args.keyword.now q) c.args.accepted (get_by (λ k. slice_cmp nat_cmp q k.now) c.args.self.now.words) rest
