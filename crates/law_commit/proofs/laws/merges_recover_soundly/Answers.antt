use Rattle.law_commit.proofs.laws.merges_recover_soundly.Goals as goal

pub returns : goal.returns
returns c flags plan change opening ps old new es planned rest happens waits merges grants =
    c.crashes_recover_soundly.ensures.moments flags plan change opening ps old new es planned rest happens waits merges
    (c.good_claims_suffice.ensures flags plan change opening ps old new es planned rest happens merges grants)
