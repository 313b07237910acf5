use Rattle.plan_words.proofs.refusal.push_refusal.Goals as goal

pub returns-in-Unsatisfied : goal.returns-in-Unsatisfied
returns-in-Unsatisfied c = rw c.in-Unsatisfied.is c.push_need.ensures

pub returns-in-Build : goal.returns-in-Build
returns-in-Build c = rw c.in-Build.is c.push_need-in-Build.ensures

pub returns-in-Barred : goal.returns-in-Barred
returns-in-Barred c = rw c.in-Barred.is c.push_two-in-Barred.ensures
