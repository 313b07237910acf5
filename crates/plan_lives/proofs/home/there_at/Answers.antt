use Rattle.std.proofs.Common.{◌≡◌, ◌∙◌, ◌++◌, ◌∷◌, ◌+◌, List, [], ap, arith, map, subst, sym, take, true, false}
use Rattle.std.proofs.lemmas.List.{map-append, take_all, take_more}
use Rattle.basics.specs.Members.{Has}
use Rattle.pkg_state.specs.Package.{Package}
use Rattle.plan_law.specs.Lives as law
use Rattle.plan_lives.specs.Home.{IsThereAt}
use Rattle.plan_lives.specs.Index.{plan_of, start_of}
use Rattle.plan_lives.specs.Lives.{life_of, lives_of, moment_of}
use Rattle.plan_lives.specs.declared.life.Life.{Life}
use Rattle.plan_lives.proofs.Picked.{ArePicked, picked_lives, picked_more, picked_not}
use Rattle.plan_lives.proofs.Keyed.{item_at}
use Rattle.plan_lives.proofs.Within.{lives_within}
use Rattle.plan_lives.proofs.home.there_at.Goals as goal
use Rattle.plan_lives.proofs.home.there_at.Goals.{then-is_there_at+in_ok-push, else-is_there_at}

pub is_there_at-requires-clause-birth : goal.is_there_at-requires-clause-birth
is_there_at-requires-clause-birth c = (lives_within (plan_of c.args.index.now) (start_of c.args.index.now) (life_of c.x-item.result) (subst (λ (xs : List law.Life). Has xs (life_of c.x-item.result)) c.requires.is.lives_are (item_at c.args.index.now.lives.now c.loop-x.x-index c.x-item.result (omega arith) c.x-item.is))).0

pub is_there_at-requires-clause-death : goal.is_there_at-requires-clause-death
is_there_at-requires-clause-death c = (lives_within (plan_of c.args.index.now) (start_of c.args.index.now) (life_of c.x-item.result) (subst (λ (xs : List law.Life). Has xs (life_of c.x-item.result)) c.requires.is.lives_are (item_at c.args.index.now.lives.now c.loop-x.x-index c.x-item.result (omega arith) c.x-item.is))).1

pub loop-x-preserved : goal.loop-x-preserved
loop-x-preserved c =
    let P : law.Life → Type 0 = IsThereAt (plan_of c.args.index.now) (moment_of c.args.moment) in
    let items = c.args.index.now.lives.now in
    let i = c.loop-x.x-index in
    let x = c.x-item.result in
    let ps = map (λ p. p.now) c.loop-x.found.items in
    let more : lives_of (take (i + 1) items) ≡ lives_of (take i items) ++ life_of x ∷ [] =
    ap lives_of (take_more items i x (omega arith) ∙ ap (λ (y : Life). take i items ++ y ∷ []) (sym c.x-item.is)) ∙ map-append life_of (take i items) (x ∷ []) in
    subst (λ (xs : List law.Life). ArePicked P xs (map (λ p. p.now) c.if-is_there_at.found.items)) (sym more) (elim c.if-is_there_at.branch [
      | then-is_there_at+in_ok-push w ↦ subst (λ (qs : List Package). ArePicked P (lives_of (take i items) ++ life_of x ∷ []) qs)
          (sym (ap (λ v. map (λ p. p.now) v.items) w.found-is ∙ (ap (map (λ p. p.now)) w.in_ok-push.ensures.items ∙ map-append (λ p. p.now) c.loop-x.found.items (x.pkg ∷ []))))
          (picked_more P (lives_of (take i items)) ps (life_of x) c.loop-x.invariant (c.is_there_at.ensures.0 w.if-is_there_at.true))
      | else-is_there_at w ↦ subst (λ v. ArePicked P (lives_of (take i items) ++ life_of x ∷ []) (map (λ p. p.now) v.items)) (sym w.found-is)
          (picked_not P (lives_of (take i items)) ps (life_of x) c.loop-x.invariant (λ there. let y = c.is_there_at.ensures.1 there in let n = w.if-is_there_at.false in let off : true ≡ false = sym y ∙ n in cc off))
    ])

pub returns : goal.returns
returns c =
    let P : law.Life → Type 0 = IsThereAt (plan_of c.args.index.now) (moment_of c.args.moment) in
    let ps = map (λ p. p.now) c.loop-x.found.items in
    picked_lives P (plan_of c.args.index.now) (start_of c.args.index.now) ps
    (subst (λ (xs : List law.Life). ArePicked P xs ps) (ap lives_of (take_all c.loop-x.x-index c.args.index.now.lives.now (omega arith)) ∙ c.requires.is.lives_are) c.loop-x.invariant)
