-- No solution agrees with a hopeless choice on the reason of what is open.
use Rattle.std.proofs.Common.{◌≡◌, ◌&&◌, ◌∙◌, ℕ, Bool, true, false, not, List, Option, None, Some, is_some, refl, sym, ap, subst}
use Rattle.std.specs.Option.{option_map_or}
use Rattle.std.proofs.lemmas.Bool.{and_parts}
use Rattle.basics.specs.Members.{Has}
use Rattle.pkg_state.specs.Consistent.{facts_of, is_met}
use Rattle.pkg_state.specs.Package.{Package}
use Rattle.pkg_state.specs.declared.class.Class.{Class}
use Rattle.choice_law.specs.Laws.{IsUniverse}
use Rattle.choice_law.specs.Possible.{is_hopeless, may_be_met}
use Rattle.choice_law.specs.Reasons.{AgreesOn, HopelessChoicesFail, reason}
use Rattle.choice_law.specs.Solutions.{IsSolution}
use Rattle.choice_law.specs.Tree.{Choice, IsOpen, Obligation, absence, conflict, decided, filling, required, tree, wanted}
use Rattle.choice_law.specs.Universe.{Filling, Universe, Value, counts, offer_at, package_of}
use Rattle.choice_law.proofs.Lacking.{mended, own_rests, rests_there}
use Rattle.choice_law.proofs.Lines.{filling_decided}
use Rattle.choice_law.proofs.Possible.{judged_fails, judged_possible, value_possible}
use Rattle.choice_law.proofs.Reasons.{in_reason}

is_there : (x : Option Value) → is_some x ≡ true → (v : Value) × (x ≡ Some v)
is_there None e = absurd (cc e)
is_there (Some v) e = (v, refl)

is_false : (b : Bool) → not b ≡ true → b ≡ false
is_false true e = absurd (cc e)
is_false false e = refl

module _ (u : Universe) (f : Filling) (c : Choice) (form : IsUniverse u) (s : IsSolution u f) where
  unmet : (l : ℕ) (class : Class) → IsOpen u c (tree l class) → is_hopeless u c (tree l class) ≡ true → ¬ AgreesOn (reason u c (tree l class)) c f
  unmet l class open_now hopeless agrees =
      let p = open_now.0 in
      let here = open_now.1 in
      let fails : Option Package → Bool = λ y. option_map_or (λ q. not (may_be_met u c class q)) y false in
      let both = and_parts (is_some (decided c l)) (fails (package_of (offer_at u l) (filling u c l))) hopeless in
      let own = is_there (decided c l) both.0 in
      let never = is_false (may_be_met u c class p) (sym (ap fails here.is) ∙ both.1) in
      -- the solution has the package on its line
      let same : f l ≡ filling u c l = agrees l own.0 (in_reason u c (tree l class) l own.0 here.there own.1 (own_rests u c l class)) own.1 ∙ sym (filling_decided u c l own.0 own.1) in
      let met = s.met l p class (record { there = here.there; is = ap (λ (v : Value). package_of (offer_at u l) v) same ∙ here.is }) (ap (counts class) same ∙ open_now.2) in
      let x = mended u f c class p (form l (filling u c l) p class here.is) met (judged_fails u c class p open_now.3) in
      let rests = rests_there u f c class p l here.is x in
      -- what it has to serve the leaf may yet stand
      let may = value_possible u c x.line (f x.line) x.one x.stands.there x.stands.is (λ w d. sym (agrees x.line w (in_reason u c (tree l class) x.line w x.stands.there d rests) d)) in
      x.not_judged (subst (λ (ps : List Package). Has ps x.one) (sym (judged_possible u c class p never)) may)

  none_agrees : (o : Obligation) → IsOpen u c o → is_hopeless u c o ≡ true → ¬ AgreesOn (reason u c o) c f
  none_agrees (wanted a) open_now hopeless agrees = cc hopeless
  none_agrees (required l) open_now hopeless agrees = cc hopeless
  none_agrees (conflict l m) open_now hopeless agrees = cc hopeless
  none_agrees (tree l class) open_now hopeless agrees = unmet l class open_now hopeless agrees
  none_agrees (absence l) open_now hopeless agrees = cc hopeless

pub hopeless_fail : HopelessChoicesFail
hopeless_fail u f c o form s open_now hopeless agrees = none_agrees u f c form s o open_now hopeless agrees
