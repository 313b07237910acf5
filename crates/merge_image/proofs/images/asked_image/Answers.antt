use Rattle.std.specs.Prelude.{Contains, MatchOption}
use Rattle.std.proofs.lemmas.List.Elements.{Contains-push}
use Rattle.merge_image.specs.Images.{HasMany, IsTold}
use Rattle.merge_image.proofs.Built.{beside_answer, lent_back, pool_rose, same_length, tell_alike}
use Rattle.merge_image.proofs.images.asked_image.Goals as goal

pub returns-clause-image : goal.returns-clause-image
returns-clause-image g c =
    beside_answer c.taken_image-answer.result c.in-Some.builder (Contains c.args.pool.now.resting)
    (λ b r. MatchOption r (HasMany g.B.Builder.tells (g.B.Builder.told b c.args.order.now)) (λ v. IsTold g.B.Builder.tells (g.B.Builder.told b c.args.order.now) v.items))
    (rw c.in-Some.ensures.some.0 (Contains-push c.lend.new.self.resting c.in-Some.builder))
    c.taken_image-answer.ensures.image

pub returns-clause-alike : goal.returns-clause-alike
returns-clause-alike g c =
    tell_alike g.B.Builder.told c.args.pool.now.resting c.lend.new.self.resting c.take_back.new.self.resting c.in-Some.builder c.taken_image-answer.new.builder c.in-Some.ensures.some.0 c.take_back.ensures.resting c.taken_image-answer.ensures.same_told

pub returns-clause-resting : goal.returns-clause-resting
returns-clause-resting g c = same_length c.args.pool.now.resting c.lend.new.self.resting c.take_back.new.self.resting c.in-Some.builder c.taken_image-answer.new.builder c.in-Some.ensures.some.0 c.take_back.ensures.resting

pub returns-clause-rose : goal.returns-clause-rose
returns-clause-rose g c e =
    pool_rose g.B.Builder.number g.B.Builder.faults c.args.pool.now c.lend.new.self c.take_back.new.self c.args.pool.now.lent c.in-Some.builder c.taken_image-answer.new.builder
    c.in-Some.ensures.some.1 c.taken_image-answer.ensures.same_number c.lend.ensures.faults c.take_back.ensures.resting c.take_back.ensures.rose (c.taken_image-answer.ensures.cause e)

pub returns-clause-lent : goal.returns-clause-lent
returns-clause-lent g c =
    lent_back g.B.Builder.number c.args.pool.now.lent c.lend.new.self.lent c.take_back.new.self.lent c.in-Some.builder c.taken_image-answer.new.builder (g.B.Builder.faults c.in-Some.builder)
    c.in-Some.ensures.some.1 c.taken_image-answer.ensures.same_number c.take_back.ensures.lent
