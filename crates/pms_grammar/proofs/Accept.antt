-- The recogniser accepts the text of each version.
use Rattle.std.specs.Prelude.{true, false, ◌==◌}
use Rattle.std.specs.List.{AllByRecursion, flat_map}
use Rattle.std.proofs.Common.{◌≡◌, ◌∙◌, ℕ, List, [], ◌∷◌, ◌++◌, ◌≤◌, refl, sym, ap, subst, arith}
use Rattle.std.proofs.lemmas.List.Sums.{fold-append}
use Rattle.basics.specs.Bytes.{is_digit, is_lower}
use Rattle.pms_grammar.specs.Grammar.{AreDigits, IsInteger, IsLetter, SuffixKind, SuffixValue, VersionValue, IsVersion, word, spell_number, spell_suffix, spell_revision, spell_ending, spelling}
use Rattle.pms_grammar.specs.Grammar.SuffixKind.{Alpha, Beta, Pre, Rc, P}
use Rattle.pms_grammar.specs.declared.place.Place.{Place}
use Rattle.pms_grammar.specs.declared.place.Place.TheVariants.{Number, MoreNumber, Letter, Underscore, GotP, Suffix, Hyphen, HyphenR, Revision}
use Rattle.pms_grammar.proofs.Bytes.{lower_range, above_is_no_digit, tests_apart}
use Rattle.pms_grammar.specs.Machine.{next, run, may_end}

pub run-append : (q : Place) (xs ys : List ℕ) → run q (xs ++ ys) ≡ run (run q xs) ys
run-append q xs ys = fold-append next q xs ys

-- a version may end at the place, and a suffix or a revision may follow
pub record IsOpen (q : Place) : Type 0 where
  pub ends : may_end q ≡ true
  pub suffix : next q 95 ≡ Underscore
  pub hyphen : next q 45 ≡ Hyphen

pub run-digits : (q : Place) → ((d : ℕ) → is_digit d ≡ true → next q d ≡ q) → (ds : List ℕ) → AreDigits ds → run q ds ≡ q
run-digits q stays [] h = refl
run-digits q stays (d ∷ ds) h = ap (λ p. run p ds) (stays d h.0) ∙ run-digits q stays ds h.1

digit_in_number : (d : ℕ) → is_digit d ≡ true → next MoreNumber d ≡ MoreNumber
digit_in_number d h = rw h

digit_in_suffix : (d : ℕ) → is_digit d ≡ true → next Suffix d ≡ Suffix
digit_in_suffix d h = rw h

digit_in_revision : (d : ℕ) → is_digit d ≡ true → next Revision d ≡ Revision
digit_in_revision d h = rw h

run-integer : (ds : List ℕ) → IsInteger ds → run Number ds ≡ MoreNumber
run-integer [] h = absurd h
run-integer (d ∷ ds) h =
    let first : next Number d ≡ MoreNumber = rw h.0 in
    ap (λ p. run p ds) first ∙ run-digits MoreNumber digit_in_number ds h.1

run-more : (more : List (List ℕ)) → AllByRecursion IsInteger more → run MoreNumber (flat_map spell_number more) ≡ MoreNumber
run-more [] h = refl
run-more (ds ∷ more) h =
    run-append Number ds (flat_map spell_number more) ∙ (ap (λ p. run p (flat_map spell_number more)) (run-integer ds h.0) ∙ run-more more h.1)

open_MoreNumber : IsOpen MoreNumber
open_MoreNumber = record { ends = refl; suffix = refl; hyphen = refl }

open_Letter : IsOpen Letter
open_Letter = record { ends = refl; suffix = refl; hyphen = refl }

open_Suffix : IsOpen Suffix
open_Suffix = record { ends = refl; suffix = refl; hyphen = refl }

open_GotP : IsOpen GotP
open_GotP = record { ends = refl; suffix = refl; hyphen = refl }

-- a lowercase letter is no digit and no dot
lower_is_letter : (b : ℕ) → is_lower b ≡ true → next MoreNumber b ≡ Letter
lower_is_letter b h =
    let range : (97 ≤ b) × (b ≤ 122) = lower_range b h in
    let no_digit : is_digit b ≡ false = above_is_no_digit b (omega arith) in
    let no_dot : (b == 46) ≡ false = tests_apart b 46 (omega arith) in
    rw (no_digit, no_dot, h)

run-letter : (letter : List ℕ) → IsLetter letter → IsOpen (run MoreNumber letter)
run-letter [] h = open_MoreNumber
run-letter (b ∷ []) h = subst IsOpen (sym (lower_is_letter b h)) open_Letter
run-letter (b ∷ c ∷ bs) h = absurd h

run-suffix_digits : (ds : List ℕ) → AreDigits ds → IsOpen (run Suffix ds)
run-suffix_digits ds h = subst IsOpen (sym (run-digits Suffix digit_in_suffix ds h)) open_Suffix

run-p_digits : (ds : List ℕ) → AreDigits ds → IsOpen (run GotP ds)
run-p_digits [] h = open_GotP
run-p_digits (d ∷ ds) h =
    let first : next GotP d ≡ Suffix = rw h.0 in
    subst (λ p. IsOpen (run p ds)) (sym first) (run-suffix_digits ds h.1)

run-word : (k : SuffixKind) (ds : List ℕ) → AreDigits ds → IsOpen (run Underscore (word k ++ ds))
run-word Alpha ds h = run-suffix_digits ds h
run-word Beta ds h = run-suffix_digits ds h
run-word Pre ds h = run-suffix_digits ds h
run-word Rc ds h = run-suffix_digits ds h
run-word P ds h = run-p_digits ds h

run-suffixes : (q : Place) (ss : List SuffixValue) → IsOpen q → AllByRecursion (λ (s : SuffixValue). AreDigits s.digits) ss → IsOpen (run q (flat_map spell_suffix ss))
run-suffixes q [] o h = o
run-suffixes q (s ∷ ss) o h =
    let one : IsOpen (run q (spell_suffix s)) = subst (λ p. IsOpen (run p (word s.kind ++ s.digits))) (sym o.suffix) (run-word s.kind s.digits h.0) in
    subst IsOpen (sym (run-append q (spell_suffix s) (flat_map spell_suffix ss))) (run-suffixes (run q (spell_suffix s)) ss one h.1)

run-revision : (q : Place) (ds : List ℕ) → IsOpen q → AreDigits ds → may_end (run q (spell_revision ds)) ≡ true
run-revision q [] o h = o.ends
run-revision q (d ∷ ds) o h =
    let first : next HyphenR d ≡ Revision = rw h.0 in
    ap (λ p. may_end (run p (114 ∷ d ∷ ds))) o.hyphen ∙ (ap (λ p. may_end (run p ds)) first ∙ ap may_end (run-digits Revision digit_in_revision ds h.1))

run-ending : (q : Place) (ss : List SuffixValue) (r : List ℕ) → IsOpen q → AllByRecursion (λ (s : SuffixValue). AreDigits s.digits) ss → AreDigits r → may_end (run q (spell_ending ss r)) ≡ true
run-ending q ss r o h k = ap may_end (run-append q (flat_map spell_suffix ss) (spell_revision r)) ∙ run-revision (run q (flat_map spell_suffix ss)) r (run-suffixes q ss o h) k

pub accepted : (p : VersionValue) → IsVersion p → may_end (run Number (spelling p)) ≡ true
accepted p v =
    let ending : List ℕ = spell_ending p.suffixes p.revision in
    let behind : List ℕ = p.letter ++ ending in
    ap may_end (run-append Number p.first (flat_map spell_number p.more ++ behind))
    ∙ (ap (λ q. may_end (run q (flat_map spell_number p.more ++ behind))) (run-integer p.first v.first)
    ∙ (ap may_end (run-append MoreNumber (flat_map spell_number p.more) behind)
    ∙ (ap (λ q. may_end (run q behind)) (run-more p.more v.more)
    ∙ (ap may_end (run-append MoreNumber p.letter ending)
    ∙ run-ending (run MoreNumber p.letter) p.suffixes p.revision (run-letter p.letter v.letter) v.suffixes v.revision))))
