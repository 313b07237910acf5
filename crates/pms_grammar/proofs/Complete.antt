-- What the recogniser accepts from a place is the rest of a version.
use Rattle.std.specs.Prelude.{Bool, true, false, ◌==◌, if◌then◌else◌}
use Rattle.std.specs.List.{AllByRecursion, flat_map}
use Rattle.std.proofs.Common.{◌≡◌, ◌∙◌, ◌⊎◌, inl, inr, ℕ, List, [], ◌∷◌, ◌++◌, refl, sym, ap, subst, append_assoc}
use Rattle.std.proofs.lemmas.Bool.{eqb-true}
use Rattle.basics.specs.Bytes.{is_digit, is_lower}
use Rattle.pms_grammar.specs.Grammar.{AreDigits, IsInteger, IsLetter, SuffixKind, SuffixValue, IsVersionText, word, spell_number, spell_suffix, spell_revision, spell_ending}
use Rattle.pms_grammar.specs.Grammar.SuffixKind.{Alpha, Beta, Pre, Rc, P}
use Rattle.pms_grammar.specs.declared.place.Place.{Place}
use Rattle.pms_grammar.specs.declared.place.Place.TheVariants.{Number, MoreNumber, Letter, Underscore, GotA, GotAl, GotAlp, GotAlph, GotB, GotBe, GotBet, GotR, GotP, GotPr, Suffix, Hyphen, HyphenR, Revision, Nowhere}
use Rattle.pms_grammar.specs.Machine.{next, next_part, behind_number, behind_p, expect, start_word, run, may_end}

-- the suffixes and the revision that are left
pub record Ending (bytes : List ℕ) : Type 0 where
  pub suffixes : List SuffixValue
  pub revision : List ℕ
  pub each : AllByRecursion (λ (s : SuffixValue). AreDigits s.digits) suffixes
  pub digits : AreDigits revision
  pub spelled : bytes ≡ spell_ending suffixes revision

-- what is left of a suffix's word, its integer, and what follows
pub record InSuffix (left : List ℕ) (bytes : List ℕ) : Type 0 where
  pub digits : List ℕ
  pub behind : List ℕ
  pub each : AreDigits digits
  pub ending : Ending behind
  pub spelled : bytes ≡ left ++ (digits ++ behind)

-- what is left of a number, and what follows
pub record InNumber (bytes : List ℕ) : Type 0 where
  pub digits : List ℕ
  pub more : List (List ℕ)
  pub letter : List ℕ
  pub behind : List ℕ
  pub each : AreDigits digits
  pub numbers : AllByRecursion IsInteger more
  pub one : IsLetter letter
  pub ending : Ending behind
  pub spelled : bytes ≡ digits ++ (flat_map spell_number more ++ (letter ++ behind))

-- "r" and an integer
pub record InRevision (bytes : List ℕ) : Type 0 where
  pub digits : List ℕ
  pub integer : IsInteger digits
  pub spelled : bytes ≡ 114 ∷ digits

abbrev pub Rest : Place → List ℕ → Type 0
Rest Number bs = IsVersionText bs
Rest MoreNumber bs = InNumber bs
Rest Letter bs = Ending bs
Rest Underscore bs = (k : SuffixKind) × InSuffix (word k) bs
Rest GotA bs = InSuffix (108 ∷ 112 ∷ 104 ∷ 97 ∷ []) bs
Rest GotAl bs = InSuffix (112 ∷ 104 ∷ 97 ∷ []) bs
Rest GotAlp bs = InSuffix (104 ∷ 97 ∷ []) bs
Rest GotAlph bs = InSuffix (97 ∷ []) bs
Rest GotB bs = InSuffix (101 ∷ 116 ∷ 97 ∷ []) bs
Rest GotBe bs = InSuffix (116 ∷ 97 ∷ []) bs
Rest GotBet bs = InSuffix (97 ∷ []) bs
Rest GotR bs = InSuffix (99 ∷ []) bs
Rest GotP bs = InSuffix [] bs ⊎ InSuffix (114 ∷ 101 ∷ []) bs
Rest GotPr bs = InSuffix (101 ∷ []) bs
Rest Suffix bs = InSuffix [] bs
Rest Hyphen bs = InRevision bs
Rest HyphenR bs = IsInteger bs
Rest Revision bs = AreDigits bs
Rest Nowhere bs = ⊥

-- a choice by a test
if_cases : (t : Bool) (x y : Place) (bs : List ℕ) (G : Type 0) → (t ≡ true → Rest x bs → G) → (t ≡ false → Rest y bs → G) → Rest (if t then x else y) bs → G
if_cases true x y bs G f g r = f refl r
if_cases false x y bs G f g r = g refl r

at_byte : (b k : ℕ) (bs xs : List ℕ) → (b == k) ≡ true → bs ≡ xs → b ∷ bs ≡ k ∷ xs
at_byte b k bs xs t e = let same : b ≡ k = eqb-true b k t in cc

no_suffix : (bs : List ℕ) → bs ≡ [] → Ending bs
no_suffix bs e = record { suffixes = []; revision = []; each = tt; digits = tt; spelled = e }

-- a byte of a word
word_begun : (want : ℕ) (left : List ℕ) (b : ℕ) (bs : List ℕ) → (b == want) ≡ true → InSuffix left bs → InSuffix (want ∷ left) (b ∷ bs)
word_begun want left b bs t s = record {
  digits = s.digits;
  behind = s.behind;
  each = s.each;
  ending = s.ending;
  spelled = at_byte b want bs (left ++ (s.digits ++ s.behind)) t s.spelled;
}

-- the byte of a word that alone may follow
step_expect : (want : ℕ) (to : Place) (left : List ℕ) (b : ℕ) (bs : List ℕ) → (Rest to bs → InSuffix left bs) → Rest (expect want to b) bs → InSuffix (want ∷ left) (b ∷ bs)
step_expect want to left b bs f r =
    if_cases (b == want) to Nowhere bs (InSuffix (want ∷ left) (b ∷ bs))
    (λ t q. word_begun want left b bs t (f q))
    (λ t q. absurd q)
    r

digit_of_suffix : (b : ℕ) (bs : List ℕ) → is_digit b ≡ true → InSuffix [] bs → InSuffix [] (b ∷ bs)
digit_of_suffix b bs t s = record { digits = b ∷ s.digits; behind = s.behind; each = (t, s.each); ending = s.ending; spelled = ap (λ xs. b ∷ xs) s.spelled }

suffix_ends : (bs : List ℕ) → Ending bs → InSuffix [] bs
suffix_ends bs e = record { digits = []; behind = bs; each = tt; ending = e; spelled = refl }

joined_suffix : (w d f r bs behind : List ℕ) → bs ≡ w ++ (d ++ behind) → behind ≡ f ++ r → bs ≡ ((w ++ d) ++ f) ++ r
joined_suffix w d f r bs behind e k = simp append_assoc (e ∙ ap (λ xs. w ++ (d ++ xs)) k)

-- an underscore before a suffix
one_more_suffix : (bs : List ℕ) (k : SuffixKind) → InSuffix (word k) bs → Ending (95 ∷ bs)
one_more_suffix bs k s = record {
  suffixes = record { kind = k; digits = s.digits } ∷ s.ending.suffixes;
  revision = s.ending.revision;
  each = (s.each, s.ending.each);
  digits = s.ending.digits;
  spelled = ap (λ xs. 95 ∷ xs) (joined_suffix (word k) s.digits (flat_map spell_suffix s.ending.suffixes) (spell_revision s.ending.revision) bs s.behind s.spelled s.ending.spelled);
}

-- a hyphen before "r" and an integer
revision_ends : (bs : List ℕ) (ds : List ℕ) → IsInteger ds → bs ≡ 114 ∷ ds → Ending (45 ∷ bs)
revision_ends bs [] i e = absurd i
revision_ends bs (d ∷ ds) i e = record { suffixes = []; revision = d ∷ ds; each = tt; digits = i; spelled = ap (λ xs. 45 ∷ xs) e }

step_next_part : (b : ℕ) (bs : List ℕ) → Rest (next_part b) bs → Ending (b ∷ bs)
step_next_part b bs r =
    if_cases (b == 95) Underscore (if b == 45 then Hyphen else Nowhere) bs (Ending (b ∷ bs))
    (λ t q. subst (λ c. Ending (c ∷ bs)) (sym (eqb-true b 95 t)) (one_more_suffix bs q.0 q.1))
    (λ t q. if_cases (b == 45) Hyphen Nowhere bs (Ending (b ∷ bs))
    (λ u v. subst (λ c. Ending (c ∷ bs)) (sym (eqb-true b 45 u)) (revision_ends bs v.digits v.integer v.spelled))
    (λ u v. absurd v)
    q)
    r

step_start_word : (b : ℕ) (bs : List ℕ) → Rest (start_word b) bs → Rest Underscore (b ∷ bs)
step_start_word b bs r =
    if_cases (b == 97) GotA (if b == 98 then GotB else (if b == 114 then GotR else expect 112 GotP b)) bs (Rest Underscore (b ∷ bs))
    (λ t q. (Alpha, word_begun 97 (108 ∷ 112 ∷ 104 ∷ 97 ∷ []) b bs t q))
    (λ t q. if_cases (b == 98) GotB (if b == 114 then GotR else expect 112 GotP b) bs (Rest Underscore (b ∷ bs))
    (λ u v. (Beta, word_begun 98 (101 ∷ 116 ∷ 97 ∷ []) b bs u v))
    (λ u v. if_cases (b == 114) GotR (expect 112 GotP b) bs (Rest Underscore (b ∷ bs))
    (λ x y. (Rc, word_begun 114 (99 ∷ []) b bs x y))
    (λ x y. if_cases (b == 112) GotP Nowhere bs (Rest Underscore (b ∷ bs))
    (λ z w. elim w [ inl l ↦ (P, word_begun 112 [] b bs z l) | inr l ↦ (Pre, word_begun 112 (114 ∷ 101 ∷ []) b bs z l) ])
    (λ z w. absurd w)
    y)
    v)
    q)
    r

joined_number : (d m l e bs : List ℕ) → bs ≡ d ++ (m ++ (l ++ e)) → 46 ∷ bs ≡ (46 ∷ d ++ m) ++ (l ++ e)
joined_number d m l e bs h = ap (λ xs. 46 ∷ xs) (h ∙ sym (append_assoc d m (l ++ e)))

-- a dot before a number
number_behind_dot : (b : ℕ) (bs : List ℕ) → (b == 46) ≡ true → IsVersionText bs → InNumber (b ∷ bs)
number_behind_dot b bs t (p, v, e) = record {
  digits = [];
  more = p.first ∷ p.more;
  letter = p.letter;
  behind = spell_ending p.suffixes p.revision;
  each = tt;
  numbers = (v.first, v.more);
  one = v.letter;
  ending = record { suffixes = p.suffixes; revision = p.revision; each = v.suffixes; digits = v.revision; spelled = refl };
  spelled = at_byte b 46 bs bs t refl ∙ joined_number p.first (flat_map spell_number p.more) p.letter (spell_ending p.suffixes p.revision) bs e;
}

step_behind_number : (b : ℕ) (bs : List ℕ) → Rest (behind_number b) bs → InNumber (b ∷ bs)
step_behind_number b bs r =
    if_cases (b == 46) Number (if is_lower b then Letter else next_part b) bs (InNumber (b ∷ bs))
    (λ t q. number_behind_dot b bs t q)
    (λ t q. if_cases (is_lower b) Letter (next_part b) bs (InNumber (b ∷ bs))
    (λ u v. record { digits = []; more = []; letter = b ∷ []; behind = bs; each = tt; numbers = tt; one = u; ending = v; spelled = refl })
    (λ u v. record { digits = []; more = []; letter = []; behind = b ∷ bs; each = tt; numbers = tt; one = tt; ending = step_next_part b bs v; spelled = refl })
    q)
    r

step_number : (b : ℕ) (bs : List ℕ) → is_digit b ≡ true → InNumber bs → IsVersionText (b ∷ bs)
step_number b bs t n =
    let e : bs ≡ n.digits ++ (flat_map spell_number n.more ++ (n.letter ++ spell_ending n.ending.suffixes n.ending.revision)) =
    n.spelled ∙ ap (λ xs. n.digits ++ (flat_map spell_number n.more ++ (n.letter ++ xs))) n.ending.spelled in (
      record { first = b ∷ n.digits; more = n.more; letter = n.letter; suffixes = n.ending.suffixes; revision = n.ending.revision },
      record { first = (t, n.each); more = n.numbers; letter = n.one; suffixes = n.ending.each; revision = n.ending.digits },
      ap (λ xs. b ∷ xs) e,
    )

step_behind_p : (b : ℕ) (bs : List ℕ) → Rest (behind_p b) bs → Rest GotP (b ∷ bs)
step_behind_p b bs r =
    if_cases (b == 114) GotPr (next_part b) bs (Rest GotP (b ∷ bs))
    (λ t q. inr (word_begun 114 (101 ∷ []) b bs t q))
    (λ t q. inl (suffix_ends (b ∷ bs) (step_next_part b bs q)))
    r

step : (q : Place) (b : ℕ) (bs : List ℕ) → Rest (next q b) bs → Rest q (b ∷ bs)
step Number b bs r = if_cases (is_digit b) MoreNumber Nowhere bs (Rest Number (b ∷ bs)) (λ t q. step_number b bs t q) (λ t q. absurd q) r
step MoreNumber b bs r =
    if_cases (is_digit b) MoreNumber (behind_number b) bs (InNumber (b ∷ bs))
    (λ t n. record {
      digits = b ∷ n.digits;
      more = n.more;
      letter = n.letter;
      behind = n.behind;
      each = (t, n.each);
      numbers = n.numbers;
      one = n.one;
      ending = n.ending;
      spelled = ap (λ xs. b ∷ xs) n.spelled;
    })
    (λ t q. step_behind_number b bs q)
    r
step Letter b bs r = step_next_part b bs r
step Underscore b bs r = step_start_word b bs r
step GotA b bs r = step_expect 108 GotAl (112 ∷ 104 ∷ 97 ∷ []) b bs (λ s. s) r
step GotAl b bs r = step_expect 112 GotAlp (104 ∷ 97 ∷ []) b bs (λ s. s) r
step GotAlp b bs r = step_expect 104 GotAlph (97 ∷ []) b bs (λ s. s) r
step GotAlph b bs r = step_expect 97 Suffix [] b bs (λ s. s) r
step GotB b bs r = step_expect 101 GotBe (116 ∷ 97 ∷ []) b bs (λ s. s) r
step GotBe b bs r = step_expect 116 GotBet (97 ∷ []) b bs (λ s. s) r
step GotBet b bs r = step_expect 97 Suffix [] b bs (λ s. s) r
step GotR b bs r = step_expect 99 Suffix [] b bs (λ s. s) r
step GotP b bs r = if_cases (is_digit b) Suffix (behind_p b) bs (Rest GotP (b ∷ bs)) (λ t q. inl (digit_of_suffix b bs t q)) (λ t q. step_behind_p b bs q) r
step GotPr b bs r = step_expect 101 Suffix [] b bs (λ s. s) r
step Suffix b bs r = if_cases (is_digit b) Suffix (next_part b) bs (InSuffix [] (b ∷ bs)) (λ t q. digit_of_suffix b bs t q) (λ t q. suffix_ends (b ∷ bs) (step_next_part b bs q)) r
step Hyphen b bs r =
    if_cases (b == 114) HyphenR Nowhere bs (InRevision (b ∷ bs))
    (λ t q. record { digits = bs; integer = q; spelled = at_byte b 114 bs bs t refl })
    (λ t q. absurd q)
    r
step HyphenR b bs r = if_cases (is_digit b) Revision Nowhere bs (IsInteger (b ∷ bs)) (λ t q. (t, q)) (λ t q. absurd q) r
step Revision b bs r = if_cases (is_digit b) Revision Nowhere bs (AreDigits (b ∷ bs)) (λ t q. (t, q)) (λ t q. absurd q) r
step Nowhere b bs r = r

at_end : (q : Place) → may_end q ≡ true → Rest q []
at_end MoreNumber h = record { digits = []; more = []; letter = []; behind = []; each = tt; numbers = tt; one = tt; ending = no_suffix [] refl; spelled = refl }
at_end Letter h = no_suffix [] refl
at_end GotP h = inl (suffix_ends [] (no_suffix [] refl))
at_end Suffix h = suffix_ends [] (no_suffix [] refl)
at_end Revision h = tt
at_end Number h = absurd (cc)
at_end Underscore h = absurd (cc)
at_end GotA h = absurd (cc)
at_end GotAl h = absurd (cc)
at_end GotAlp h = absurd (cc)
at_end GotAlph h = absurd (cc)
at_end GotB h = absurd (cc)
at_end GotBe h = absurd (cc)
at_end GotBet h = absurd (cc)
at_end GotR h = absurd (cc)
at_end GotPr h = absurd (cc)
at_end Hyphen h = absurd (cc)
at_end HyphenR h = absurd (cc)
at_end Nowhere h = absurd (cc)

pub completed : (q : Place) (bs : List ℕ) → may_end (run q bs) ≡ true → Rest q bs
completed q [] h = at_end q h
completed q (b ∷ bs) h = step q b bs (completed (next q b) bs h)
