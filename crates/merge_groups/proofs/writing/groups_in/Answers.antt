use Rattle.std.proofs.Common.{◌≡◌, ◌∙◌, ◌+◌, List, ap, arith, map, subst, sym}
use Rattle.std.proofs.lemmas.List.{get_or_default, map_push}
use Rattle.basics.specs.Members.{Has}
use Rattle.plan_law.specs.Plans.{Group, group_at, no_group}
use Rattle.plan_lives.specs.Index.{plan_of, start_of}
use Rattle.plan_text.specs.Plans.{GroupValue, group_value}
use Rattle.merge_groups.specs.Written.{IsGroupText}
use Rattle.merge_groups.proofs.Told.{AreFirst, first_more}
use Rattle.merge_groups.proofs.writing.groups_in.Goals as goal

pub group_in-requires-clause-few : goal.group_in-requires-clause-few
group_in-requires-clause-few c =
    let groups = c.args.groups.now in
    let g = c.loop-g.g in
    let here : c.index-groups-g.result ≡ group_at groups g = c.index-groups-g.is ∙ get_or_default groups g c.index-groups-g.result no_group (omega arith) in
    let few = c.requires.form.few in
    λ h has. (let below = c.requires.form.earlier g h (subst (λ (x : Group). Has x.after h) here has) in omega (arith, below, few))

pub loop-g-preserved : goal.loop-g-preserved
loop-g-preserved c =
    let index = c.args.index.now in
    let plan = plan_of index in
    let start = start_of index in
    let groups = c.args.groups.now in
    let g = c.loop-g.g in
    let t = c.in_ok-group_in.field-0 in
    let here : c.index-groups-g.result ≡ group_at groups g = c.index-groups-g.is ∙ get_or_default groups g c.index-groups-g.result no_group (omega arith) in
    let at_plan : c.index-groups-g.result ≡ group_at plan g = here ∙ ap (λ (gs : List Group). group_at gs g) c.requires.groups in
    let now = ap (map group_value) c.in_ok-push.ensures.items ∙ map_push group_value c.loop-g.texts.items t in
    subst (λ (l : List GroupValue). AreFirst plan start (g + 1) l) (sym now)
    (first_more plan start g (map group_value c.loop-g.texts.items) (group_value t) c.loop-g.invariant
    (subst (λ (x : Group). IsGroupText plan start g x (group_value t)) at_plan c.in_ok-group_in.ensures.is) c.in_ok-group_in.ensures.form)
