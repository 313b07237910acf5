use Rattle.plan_words.proofs.refusal.push_opening.Goals as goal

pub returns-in-Runtime : goal.returns-in-Runtime
returns-in-Runtime c = rw c.in-Runtime.is c.push_one.ensures

pub returns-in-Blocked : goal.returns-in-Blocked
returns-in-Blocked c = rw c.in-Blocked.is c.push_one-in-Blocked.ensures

pub returns-in-RequiredUse : goal.returns-in-RequiredUse
returns-in-RequiredUse c = rw c.in-RequiredUse.is c.push_one-in-RequiredUse.ensures

pub returns-in-SlotTwice : goal.returns-in-SlotTwice
returns-in-SlotTwice c = rw c.in-SlotTwice.is c.push_one-in-SlotTwice.ensures
