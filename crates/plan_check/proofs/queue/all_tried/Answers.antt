use Rattle.std.proofs.Common.{◌≡◌, ◌∙◌, ◌+◌, ◌++◌, ◌∷◌, List, [], append-nil, ap, arith, drop, length, map, subst, sym}
use Rattle.std.specs.Option.{option_map}
use Rattle.std.proofs.lemmas.List.{map-append}
use Rattle.basics.specs.Limits.{most_groups}
use Rattle.basics.specs.Members.{Has}
use Rattle.plan_law.specs.Lives as law
use Rattle.plan_lives.specs.Index.{plan_of, start_of}
use Rattle.plan_lives.specs.Lives.{life_of, lives_of, moment_of}
use Rattle.plan_lives.proofs.Keyed.{item_at}
use Rattle.plan_lives.proofs.Steps.{drop_end, within_more}
use Rattle.plan_lives.proofs.Within.{lives_within}
use Rattle.plan_check.specs.Asks.{AskedValue, all_asked, asking, asks_behind, next_asked, what_asked}
use Rattle.plan_check.specs.Turns.{tried_value}
use Rattle.plan_check.proofs.Binds.{asked_more}
use Rattle.plan_check.proofs.queue.all_tried.Goals as goal

pub with_turn-requires : goal.with_turn-requires
with_turn-requires c =
    let index = c.args.index.now in
    let x = c.life-item.result in
    within_more (length (plan_of index)) most_groups c.requires.reach_is.form.few (moment_of x.birth)
    (lives_within (plan_of index) (start_of index) (life_of x) (subst (λ (xs : List law.Life). Has xs (life_of x)) c.requires.lives_are (item_at index.lives.now c.loop-life.life-index x (omega arith) c.life-item.is))).0

pub loop-life-preserved : goal.loop-life-preserved
loop-life-preserved c =
    let items = c.args.index.now.lives.now in
    let asks = c.args.asks.now in
    let i = c.loop-life.life-index in
    let x = c.life-item.result in
    let old = c.loop-life.all.items in
    let new = c.push.new.self.items in
    let t = c.in_ok-with_turn.field-0 in
    let left = all_asked (drop c.loop-life.taken asks) in
    let whole = asking (lives_of items) (all_asked asks) in
    let asked : what_asked (option_map (λ a. a.now) t.asked) ≡ next_asked (life_of x).birth left = ap (λ a. what_asked (option_map (λ b. b.now) a)) c.in_ok-with_turn.ensures.asked ∙ c.next_asked-asked.ensures in
    let own : tried_value t ≡ (life_of x, next_asked (life_of x).birth left) = λ j. (c.in_ok-with_turn.ensures.life j, asked j) in
    let more : map tried_value new ≡ map tried_value old ++ tried_value t ∷ [] = ap (map tried_value) c.in_ok-push.ensures.items ∙ map-append tried_value old (t ∷ []) in
    subst (λ (w : List AskedValue). map tried_value new ++ asking (lives_of (drop (i + 1) items)) w ≡ whole) (sym c.taken_behind-taken.ensures)
    (subst (λ (done : List (law.Life × AskedValue)). done ++ asking (lives_of (drop (i + 1) items)) (asks_behind (life_of x).birth left) ≡ whole) (sym more)
    (asked_more items i x left (map tried_value old) whole (tried_value t) (omega arith) c.life-item.is own c.loop-life.invariant))

pub returns : goal.returns
returns c =
    let items = c.args.index.now.lives.now in
    let asks = c.args.asks.now in
    let left = all_asked (drop c.loop-life.taken asks) in
    let all = map tried_value c.loop-life.all.items in
    let end : asking (lives_of (drop c.loop-life.life-index items)) left ≡ [] = ap (λ is. asking (lives_of is) left) (drop_end items c.loop-life.life-index (omega arith)) in
    sym (append-nil all) ∙ (ap (λ (ys : List (law.Life × AskedValue)). all ++ ys) (sym end) ∙ (c.loop-life.invariant ∙ ap (λ (xs : List law.Life). asking xs (all_asked asks)) c.requires.lives_are))
