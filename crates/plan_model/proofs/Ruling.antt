-- What the rules of linking say, one addition after another.
use Rattle.std.proofs.Common.{◌≡◌, ◌∙◌, ℕ, true, List, [], ◌∷◌, Option, None, Some, refl, sym, subst, inl, inr}
use Rattle.std.specs.Prelude.{◌≢◌, Result, Ok, Err, IfErr, IfSome}
use Rattle.std.proofs.lemmas.Option.{none-some}
use Rattle.std.proofs.lemmas.Bool.{true_from_ne_false}
use Rattle.basics.specs.Members.{Has}
use Rattle.pms_names.specs.Flags.{has}
use Rattle.build_pool.specs.declared.orders.Order.{Order}
use Rattle.pkg_state.specs.Package.{Package}
use Rattle.plan_text.specs.Plans.{GroupValue}
use Rattle.plan_rules.specs.Verdicts.{each}
use Rattle.plan_rules.proofs.Trying.{IsClear, each_clear, each_passed, from_clear}
use Rattle.plan_model.specs.Faults.{Says, addition_rule, flag_rule, found_rule, group_rule, link_rule}
use Rattle.plan_model.specs.Offers.{IsFirst}
use Rattle.plan_model.specs.declared.fault.LinkFault.{LinkFault}
use Rattle.plan_model.specs.declared.fault.LinkFault.TheVariants as faults

-- at most one package is the first
pub first_once : (a : Order) (ps : List Package) (o r : Option Package) → IsFirst a ps o → IsFirst a ps r → o ≡ r
first_once a [] o r h k = h ∙ sym k
first_once a (p ∷ ps) o r (inl h) (inl k) = h.1 ∙ sym k.1
first_once a (p ∷ ps) o r (inl h) (inr k) = absurd (k.0 h.0)
first_once a (p ∷ ps) o r (inr h) (inl k) = absurd (h.0 k.0)
first_once a (p ∷ ps) o r (inr h) (inr k) = first_once a ps o r h.1 k.1

found_clear : (g : ℕ) (a : Order) (o : Option Package) → IsClear (found_rule g a o)
found_clear g a None e passed h = none-some _ passed
found_clear g a (Some p) e passed h = each_clear a.enabled (flag_rule g a p) (λ flag f ok no. ok no.0) e passed h

addition_clear : (offered : List Package) (g : ℕ) (a : Order) → IsClear (addition_rule offered g a)
addition_clear offered g a e passed h = found_clear g a h.0 e (subst (λ (o : Option Package). found_rule g a o None) (first_once a offered passed.0 h.0 passed.1 h.1) passed.2) h.2

pub link_clear : (offered : List Package) (text : List GroupValue) → IsClear (link_rule offered text)
link_clear offered text = from_clear 0 text (group_rule offered) (λ g t. each_clear t.additions (addition_rule offered g) (λ a. addition_clear offered g a))

-- where all is well nothing is left but want of memory
pub fault_if : (J : Option LinkFault → Type 0) → IsClear J → J None → (e : LinkFault) → (e ≢ faults.Memory → J (Some e)) → e ≡ faults.Memory
fault_if J clear ok (faults.NoCandidate g id) h = absurd (clear (faults.NoCandidate g id) ok (h (λ e. absurd (cc e))))
fault_if J clear ok (faults.BadFlag g id flag) h = absurd (clear (faults.BadFlag g id flag) ok (h (λ e. absurd (cc e))))
fault_if J clear ok faults.Memory h = refl

pub fine_if : {T : Type 0} (J : Option LinkFault → Type 0) (r : Result T LinkFault) → IsClear J → Says J r → J None → IfErr r (λ e. e ≡ faults.Memory)
fine_if J (Ok x) clear says ok = tt
fine_if J (Err e) clear says ok = fault_if J clear ok e says

-- a flag that no rule refuses is known
pub all_known : (g : ℕ) (a : Order) (p : Package) → each a.enabled (flag_rule g a p) None → (flag : List ℕ) → Has a.enabled flag → has p.facts.iuse flag ≡ true
all_known g a p passed flag there = true_from_ne_false (has p.facts.iuse flag) (each_passed a.enabled (flag_rule g a p) passed flag there)

-- the addition's package is found, and its flags are judged
pub says_found : {T : Type 0} (offered : List Package) (g : ℕ) (a : Order) (p : Package) (r : Result T LinkFault) → IsFirst a offered (Some p) → Says (each a.enabled (flag_rule g a p)) r → Says (addition_rule offered g a) r
says_found offered g a p (Ok x) first says = (Some p, first, says)
says_found offered g a p (Err e) first says = λ other. (Some p, first, says other)
