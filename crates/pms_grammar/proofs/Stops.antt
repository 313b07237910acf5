-- Where the recogniser is nowhere, and which texts begin versions.
use Rattle.std.specs.Prelude.{Bool, true, false, not, Option, Some, None, IfNone, IfSome, IsTrue, ◌↔◌}
use Rattle.std.specs.Option.{is_some}
use Rattle.std.proofs.Common.{◌≡◌, ◌∙◌, ℕ, ◌+◌, ◌<◌, ◌≤◌, inl, inr, List, [], ◌∷◌, ◌++◌, length, take, drop, get_or, refl, sym, ap, subst, take_all, arith}
use Rattle.std.proofs.lemmas.Bool.{cases_lt}
use Rattle.std.proofs.lemmas.List.{take_more, take-append-drop}
use Rattle.std.proofs.Math.Seq.{take-length}
use Rattle.pms_grammar.specs.Grammar.{IsVersionText, BeginsVersion, StopsAt}
use Rattle.pms_grammar.specs.declared.place.Place.{Place}
use Rattle.pms_grammar.specs.declared.place.Place.TheVariants.{Number, MoreNumber, Letter, Underscore, GotA, GotAl, GotAlp, GotAlph, GotB, GotBe, GotBet, GotR, GotP, GotPr, Suffix, Hyphen, HyphenR, Revision, Nowhere}
use Rattle.pms_grammar.specs.Machine.{next, run, may_end, is_nowhere}
use Rattle.pms_grammar.proofs.Accept.{run-append, accepted}
use Rattle.pms_grammar.proofs.Complete.{completed}

pub text_accepted : (bs : List ℕ) → IsVersionText bs → may_end (run Number bs) ≡ true
text_accepted bs (p, v, e) = ap (λ xs. may_end (run Number xs)) e ∙ accepted p v

pub text_completed : (bs : List ℕ) → may_end (run Number bs) ≡ true → IsVersionText bs
text_completed bs h = completed Number bs h

pub run-nowhere : (bs : List ℕ) → run Nowhere bs ≡ Nowhere
run-nowhere [] = refl
run-nowhere (b ∷ bs) = run-nowhere bs

pub nowhere_from_test : (q : Place) → is_nowhere q ≡ true → q ≡ Nowhere
nowhere_from_test Nowhere h = refl
nowhere_from_test Number h = cc
nowhere_from_test MoreNumber h = cc
nowhere_from_test Letter h = cc
nowhere_from_test Underscore h = cc
nowhere_from_test GotA h = cc
nowhere_from_test GotAl h = cc
nowhere_from_test GotAlp h = cc
nowhere_from_test GotAlph h = cc
nowhere_from_test GotB h = cc
nowhere_from_test GotBe h = cc
nowhere_from_test GotBet h = cc
nowhere_from_test GotR h = cc
nowhere_from_test GotP h = cc
nowhere_from_test GotPr h = cc
nowhere_from_test Suffix h = cc
nowhere_from_test Hyphen h = cc
nowhere_from_test HyphenR h = cc
nowhere_from_test Revision h = cc

-- bytes that end a version from a place
ending : Place → List ℕ
ending Number = 48 ∷ []
ending Underscore = 112 ∷ []
ending GotA = 108 ∷ 112 ∷ 104 ∷ 97 ∷ []
ending GotAl = 112 ∷ 104 ∷ 97 ∷ []
ending GotAlp = 104 ∷ 97 ∷ []
ending GotAlph = 97 ∷ []
ending GotB = 101 ∷ 116 ∷ 97 ∷ []
ending GotBe = 116 ∷ 97 ∷ []
ending GotBet = 97 ∷ []
ending GotR = 99 ∷ []
ending GotPr = 101 ∷ []
ending Hyphen = 114 ∷ 48 ∷ []
ending HyphenR = 48 ∷ []
ending _ = []

run-ending : (q : Place) → is_nowhere q ≡ false → may_end (run q (ending q)) ≡ true
unfolding ending
run-ending Number h = refl
run-ending MoreNumber h = refl
run-ending Letter h = refl
run-ending Underscore h = refl
run-ending GotA h = refl
run-ending GotAl h = refl
run-ending GotAlp h = refl
run-ending GotAlph h = refl
run-ending GotB h = refl
run-ending GotBe h = refl
run-ending GotBet h = refl
run-ending GotR h = refl
run-ending GotP h = refl
run-ending GotPr h = refl
run-ending Suffix h = refl
run-ending Hyphen h = refl
run-ending HyphenR h = refl
run-ending Revision h = refl
run-ending Nowhere h = absurd (cc)

pub begins_somewhere : (bs : List ℕ) → is_nowhere (run Number bs) ≡ false → BeginsVersion bs
begins_somewhere bs h = (
  ending (run Number bs),
  completed Number (bs ++ ending (run Number bs)) (ap may_end (run-append Number bs (ending (run Number bs))) ∙ run-ending (run Number bs) h),
)

pub nowhere_begins_none : (bs : List ℕ) → run Number bs ≡ Nowhere → BeginsVersion bs → ⊥
nowhere_begins_none bs h (rest, text) =
    let yes : may_end (run Number (bs ++ rest)) ≡ true = text_accepted (bs ++ rest) text in
    let there : run Number (bs ++ rest) ≡ Nowhere = run-append Number bs rest ∙ (ap (λ q. run q rest) h ∙ run-nowhere rest) in
    let no : may_end (run Number (bs ++ rest)) ≡ false = ap may_end there in
    cc

pub run-more : (bs : List ℕ) (i : ℕ) → i < length bs → run Number (take (i + 1) bs) ≡ next (run Number (take i bs)) (get_or bs i 0)
run-more bs i h = ap (λ xs. run Number xs) (take_more bs i 0 h) ∙ run-append Number (take i bs) (get_or bs i 0 ∷ [])

pub stops_inside : (bs : List ℕ) (i : ℕ) → i < length bs → is_nowhere (run Number (take i bs)) ≡ false → is_nowhere (next (run Number (take i bs)) (get_or bs i 0)) ≡ true → StopsAt bs i
stops_inside bs i h before here = record {
  in_range = omega arith;
  begins = begins_somewhere (take i bs) before;
  stops = λ _. nowhere_begins_none (take (i + 1) bs) (run-more bs i h ∙ nowhere_from_test (next (run Number (take i bs)) (get_or bs i 0)) here);
  short = λ e. absurd (omega arith);
}

pub stops_at_end : (bs : List ℕ) → is_nowhere (run Number bs) ≡ false → may_end (run Number bs) ≡ false → StopsAt bs (length bs)
stops_at_end bs before h = record {
  in_range = omega arith;
  begins = rw take-length (begins_somewhere bs before);
  stops = λ l. absurd (omega arith);
  short = λ _ text. let yes : may_end (run Number bs) ≡ true = text_accepted bs text in cc;
}

pub run-whole : (bs : List ℕ) (i : ℕ) → length bs ≤ i → run Number (take i bs) ≡ run Number bs
run-whole bs i h = ap (λ xs. run Number xs) (take_all i bs h)

pub stops_no_version : (bs : List ℕ) (at : ℕ) → StopsAt bs at → IsVersionText bs → ⊥
stops_no_version bs at stop text = elim (cases_lt at (length bs)) [
  | inl inside ↦ stop.stops inside (drop (at + 1) bs, subst IsVersionText (sym (take-append-drop (at + 1) bs)) text)
  | inr end ↦ let in_range : at ≤ length bs = stop.in_range in let at_end : at ≡ length bs = omega arith in stop.short at_end text
]

pub tells : (bs : List ℕ) (stop : Option ℕ) (answer : Bool) → IfNone stop (IsVersionText bs) → IfSome stop (StopsAt bs) → is_some stop ≡ not answer → IsTrue answer ↔ IsVersionText bs
tells bs None true none some e = (λ _. none, λ _. refl)
tells bs None false none some e = absurd (cc)
tells bs (Some at) true none some e = absurd (cc)
tells bs (Some at) false none some e = (λ t. absurd (cc), λ text. absurd (stops_no_version bs at some text))
