-- One text, one version: how a spelling comes apart.
use Rattle.std.specs.Prelude.{true, false, ◌==◌, ◌≤◌}
use Rattle.std.specs.List.{AllByRecursion, flat_map}
use Rattle.std.proofs.Common.{◌≡◌, ◌∙◌, ◌⊎◌, inl, inr, ℕ, List, [], ◌∷◌, ◌++◌, drop, get_or, refl, sym, ap, subst, append_assoc, append-nil, arith}
use Rattle.std.proofs.lemmas.List.{append_cancel_left}
use Rattle.basics.specs.Bytes.{is_digit, is_lower}
use Rattle.basics.proofs.Lists.{heads_differ}
use Rattle.pms_grammar.specs.Grammar.{AreDigits, IsInteger, IsLetter, SuffixKind, SuffixValue, VersionValue, IsVersion, IsVersionText, kind_at, word, spell_number, spell_suffix, spell_revision, spell_ending, spelling}
use Rattle.pms_grammar.specs.Grammar.SuffixKind.{Alpha, Beta, Pre, Rc, P}
use Rattle.pms_grammar.specs.declared.place.Place.{Place}
use Rattle.pms_grammar.specs.declared.place.Place.TheVariants.{Number, MoreNumber, Letter, Underscore, GotA, GotAl, GotAlp, GotAlph, GotB, GotBe, GotBet, GotR, GotP, GotPr, Suffix, Hyphen, HyphenR, Revision, Nowhere}
use Rattle.pms_grammar.specs.Machine.{next, run, may_end}
use Rattle.pms_grammar.proofs.Accept.{run-append}
use Rattle.pms_grammar.proofs.Bytes.{digit_range, lower_range, above_is_no_digit, below_is_no_digit, tests_below}
use Rattle.pms_grammar.proofs.Stops.{run-nowhere, text_accepted}

-- no digit, no dot: what may stand behind the numbers
unfoldable pub Behind : ℕ → Type 0
Behind h = (h ≤ 45) ⊎ (95 ≤ h)

-- no digit and no letter: what may stand behind a letter or a suffix
unfoldable pub BehindSuffix : ℕ → Type 0
BehindSuffix h = (h ≤ 45) ⊎ (h ≡ 95)

pub behind_suffix : (ss : List SuffixValue) (r : List ℕ) → BehindSuffix (get_or (spell_ending ss r) 0 0)
unfolding BehindSuffix
behind_suffix [] [] = inl (omega arith)
behind_suffix [] (d ∷ r) = inl (omega arith)
behind_suffix (s ∷ ss) r = inr refl

pub behind_numbers : (l : List ℕ) (ss : List SuffixValue) (r : List ℕ) → IsLetter l → Behind (get_or (l ++ spell_ending ss r) 0 0)
unfolding Behind BehindSuffix
behind_numbers [] ss r h = elim (behind_suffix ss r) [ inl k ↦ inl k | inr k ↦ inr (omega arith) ]
behind_numbers (b ∷ []) ss r h = let range : (97 ≤ b) × (b ≤ 122) = lower_range b h in inr (omega arith)
behind_numbers (b ∷ c ∷ bs) ss r h = absurd h

pub behind_is_no_digit : (h : ℕ) → Behind h → is_digit h ≡ false
unfolding Behind
behind_is_no_digit h b = elim b [ inl k ↦ below_is_no_digit h (omega arith) | inr k ↦ above_is_no_digit h (omega arith) ]

pub suffix_is_no_digit : (h : ℕ) → BehindSuffix h → is_digit h ≡ false
unfolding BehindSuffix
suffix_is_no_digit h b = elim b [ inl k ↦ below_is_no_digit h (omega arith) | inr k ↦ above_is_no_digit h (omega arith) ]

pub behind_number : (more : List (List ℕ)) (l : List ℕ) (ss : List SuffixValue) (r : List ℕ) → IsLetter l → is_digit (get_or (flat_map spell_number more ++ (l ++ spell_ending ss r)) 0 0) ≡ false
behind_number [] l ss r h = behind_is_no_digit (get_or (l ++ spell_ending ss r) 0 0) (behind_numbers l ss r h)
behind_number (ds ∷ more) l ss r h = refl

contrary : (x : ℕ) → is_digit x ≡ false → is_digit x ≡ true → ⊥
contrary x f t = cc

-- digits end at the first byte that is none
pub digits_apart : (a b r s : List ℕ) → AreDigits a → AreDigits b → is_digit (get_or r 0 0) ≡ false → is_digit (get_or s 0 0) ≡ false → a ++ r ≡ b ++ s → (a ≡ b) × (r ≡ s)
digits_apart [] [] r s h k m n e = (refl, e)
digits_apart [] (b ∷ bs) r s h k m n e = let head : get_or r 0 0 ≡ b = ap (λ xs. get_or xs 0 0) e in absurd (contrary b (subst (λ x. is_digit x ≡ false) head m) k.0)
digits_apart (a ∷ as') [] r s h k m n e = let head : a ≡ get_or s 0 0 = ap (λ xs. get_or xs 0 0) e in absurd (contrary a (subst (λ x. is_digit x ≡ false) (sym head) n) h.0)
digits_apart (a ∷ as') (b ∷ bs) r s h k m n e =
    let heads : a ≡ b = cc in
    let tails : as' ++ r ≡ bs ++ s = cc in
    let rest : (as' ≡ bs) × (r ≡ s) = digits_apart as' bs r s h.1 k.1 m n tails in
    (ap (λ x. x ∷ as') heads ∙ ap (λ xs. b ∷ xs) rest.0, rest.1)

not_r : (x : ℕ) → BehindSuffix x → (x == 114) ≡ false
unfolding BehindSuffix
not_r x b = elim b [ inl k ↦ tests_below x 114 (omega arith) | inr k ↦ tests_below x 114 (omega arith) ]

-- the word's first two bytes tell the kind
pub kind_at-word : (k : SuffixKind) (ds : List ℕ) (ss : List SuffixValue) (r : List ℕ) → AreDigits ds → kind_at (word k ++ (ds ++ spell_ending ss r)) ≡ k
kind_at-word Alpha ds ss r h = refl
kind_at-word Beta ds ss r h = refl
kind_at-word Pre ds ss r h = refl
kind_at-word Rc ds ss r h = refl
kind_at-word P [] ss r h =
    let other : (get_or (spell_ending ss r) 0 0 == 114) ≡ false = not_r (get_or (spell_ending ss r) 0 0) (behind_suffix ss r) in
    rw other
kind_at-word P (d ∷ ds) ss r h =
    let range : (48 ≤ d) × (d ≤ 57) = digit_range d h.0 in
    let other : (d == 114) ≡ false = tests_below d 114 (omega arith) in
    rw other

one_revision : (r q : List ℕ) → spell_revision r ≡ spell_revision q → r ≡ q
one_revision [] [] e = refl
one_revision [] (d ∷ ds) e = absurd (cc)
one_revision (d ∷ ds) [] e = absurd (cc)
one_revision (d ∷ ds) (c ∷ cs) e = ap (λ l. drop 2 l) e

no_suffix_here : (r : List ℕ) (xs : List ℕ) → spell_revision r ≡ 95 ∷ xs → ⊥
no_suffix_here [] xs e = cc
no_suffix_here (d ∷ ds) xs e = heads_differ 45 95 (114 ∷ d ∷ ds) xs (λ n. omega arith) e

pub shift_suffix : (w d f r : List ℕ) → ((w ++ d) ++ f) ++ r ≡ w ++ (d ++ (f ++ r))
shift_suffix w d f r = simp append_assoc

pub one_ending : (ss ts : List SuffixValue) (r q : List ℕ) → AllByRecursion (λ (s : SuffixValue). AreDigits s.digits) ss → AllByRecursion (λ (s : SuffixValue). AreDigits s.digits) ts → spell_ending ss r ≡ spell_ending ts q → (ss ≡ ts) × (r ≡ q)
one_ending [] [] r q h k e = (refl, one_revision r q e)
one_ending [] (t ∷ ts) r q h k e = absurd (no_suffix_here r ((word t.kind ++ t.digits) ++ flat_map spell_suffix ts ++ spell_revision q) e)
one_ending (s ∷ ss) [] r q h k e = absurd (no_suffix_here q ((word s.kind ++ s.digits) ++ flat_map spell_suffix ss ++ spell_revision r) (sym e))
one_ending (s ∷ ss) (t ∷ ts) r q h k e =
    let behind : word s.kind ++ (s.digits ++ spell_ending ss r) ≡ word t.kind ++ (t.digits ++ spell_ending ts q) =
    sym (shift_suffix (word s.kind) s.digits (flat_map spell_suffix ss) (spell_revision r)) ∙ (ap (λ l. drop 1 l) e ∙ shift_suffix (word t.kind) t.digits (flat_map spell_suffix ts) (spell_revision q)) in
    let kinds : s.kind ≡ t.kind =
    sym (kind_at-word s.kind s.digits ss r h.0) ∙ (ap kind_at behind ∙ kind_at-word t.kind t.digits ts q k.0) in
    let left : s.digits ++ spell_ending ss r ≡ t.digits ++ spell_ending ts q =
    append_cancel_left (word t.kind) (s.digits ++ spell_ending ss r) (t.digits ++ spell_ending ts q) (ap (λ w. word w ++ (s.digits ++ spell_ending ss r)) (sym kinds) ∙ behind) in
    let apart : (s.digits ≡ t.digits) × (spell_ending ss r ≡ spell_ending ts q) =
    digits_apart s.digits t.digits (spell_ending ss r) (spell_ending ts q) h.0 k.0 (suffix_is_no_digit (get_or (spell_ending ss r) 0 0) (behind_suffix ss r)) (suffix_is_no_digit (get_or (spell_ending ts q) 0 0) (behind_suffix ts q)) left in
    let rest : (ss ≡ ts) × (r ≡ q) = one_ending ss ts r q h.1 k.1 apart.1 in
    let same : s ≡ t = ap (λ w. record { kind = w; digits = s.digits }) kinds ∙ ap (λ ds. record { kind = t.kind; digits = ds }) apart.0 in
    (ap (λ x. x ∷ ss) same ∙ ap (λ l. t ∷ l) rest.0, rest.1)

letter_is_no_suffix : (b : ℕ) (bs : List ℕ) (ss : List SuffixValue) (r : List ℕ) → is_lower b ≡ true → spell_ending ss r ≡ b ∷ bs → ⊥
unfolding BehindSuffix
letter_is_no_suffix b bs ss r h e =
    let range : (97 ≤ b) × (b ≤ 122) = lower_range b h in
    apart (subst BehindSuffix (ap (λ l. get_or l 0 0) e) (behind_suffix ss r)) range.0
  where
    apart : BehindSuffix b → 97 ≤ b → ⊥
    apart x l = elim x [ inl k ↦ omega arith | inr k ↦ omega arith ]

one_letter : (l m : List ℕ) (ss ts : List SuffixValue) (r q : List ℕ) → IsLetter l → IsLetter m → l ++ spell_ending ss r ≡ m ++ spell_ending ts q → (l ≡ m) × (spell_ending ss r ≡ spell_ending ts q)
one_letter [] [] ss ts r q h k e = (refl, e)
one_letter [] (b ∷ []) ss ts r q h k e = absurd (letter_is_no_suffix b (spell_ending ts q) ss r k e)
one_letter (b ∷ []) [] ss ts r q h k e = absurd (letter_is_no_suffix b (spell_ending ss r) ts q h (sym e))
one_letter (b ∷ []) (c ∷ []) ss ts r q h k e = (ap (λ xs. get_or xs 0 0 ∷ []) e, ap (λ xs. drop 1 xs) e)
one_letter (b ∷ c ∷ bs) m ss ts r q h k e = absurd h
one_letter [] (b ∷ c ∷ bs) ss ts r q h k e = absurd k
one_letter (a ∷ []) (b ∷ c ∷ bs) ss ts r q h k e = absurd k

no_dot_here : (xs bs : List ℕ) → Behind (get_or xs 0 0) → xs ≡ 46 ∷ bs → ⊥
unfolding Behind
no_dot_here xs bs h e =
    let head : get_or xs 0 0 ≡ 46 = ap (λ l. get_or l 0 0) e in
    elim h [ inl k ↦ omega arith | inr k ↦ omega arith ]

pub all_digits : (ds : List ℕ) → IsInteger ds → AreDigits ds
all_digits [] h = absurd h
all_digits (d ∷ ds) h = h

one_list_of_numbers : (more less : List (List ℕ)) (l m : List ℕ) (ss ts : List SuffixValue) (r q : List ℕ) → AllByRecursion IsInteger more → AllByRecursion IsInteger less → IsLetter l → IsLetter m → flat_map spell_number more ++ (l ++ spell_ending ss r) ≡ flat_map spell_number less ++ (m ++ spell_ending ts q) → (more ≡ less) × (l ++ spell_ending ss r ≡ m ++ spell_ending ts q)
one_list_of_numbers [] [] l m ss ts r q h k a b e = (refl, e)
one_list_of_numbers [] (ds ∷ less) l m ss ts r q h k a b e = absurd (no_dot_here (l ++ spell_ending ss r) (ds ++ flat_map spell_number less ++ (m ++ spell_ending ts q)) (behind_numbers l ss r a) e)
one_list_of_numbers (ds ∷ more) [] l m ss ts r q h k a b e = absurd (no_dot_here (m ++ spell_ending ts q) (ds ++ flat_map spell_number more ++ (l ++ spell_ending ss r)) (behind_numbers m ts q b) (sym e))
one_list_of_numbers (ds ∷ more) (es ∷ less) l m ss ts r q h k a b e =
    let left : ds ++ (flat_map spell_number more ++ (l ++ spell_ending ss r)) ≡ es ++ (flat_map spell_number less ++ (m ++ spell_ending ts q)) =
    sym (append_assoc ds (flat_map spell_number more) (l ++ spell_ending ss r)) ∙ (ap (λ xs. drop 1 xs) e ∙ append_assoc es (flat_map spell_number less) (m ++ spell_ending ts q)) in
    let apart : (ds ≡ es) × (flat_map spell_number more ++ (l ++ spell_ending ss r) ≡ flat_map spell_number less ++ (m ++ spell_ending ts q)) =
    digits_apart ds es (flat_map spell_number more ++ (l ++ spell_ending ss r)) (flat_map spell_number less ++ (m ++ spell_ending ts q)) (all_digits ds h.0) (all_digits es k.0) (behind_number more l ss r a) (behind_number less m ts q b) left in
    let rest : (more ≡ less) × (l ++ spell_ending ss r ≡ m ++ spell_ending ts q) = one_list_of_numbers more less l m ss ts r q h.1 k.1 a b apart.1 in
    (ap (λ x. x ∷ more) apart.0 ∙ ap (λ xs. es ∷ xs) rest.0, rest.1)

pub spelled_once : (p q : VersionValue) → IsVersion p → IsVersion q → spelling p ≡ spelling q → p ≡ q
spelled_once p q h k e =
    let numbers : (p.first ≡ q.first) × (flat_map spell_number p.more ++ (p.letter ++ spell_ending p.suffixes p.revision) ≡ flat_map spell_number q.more ++ (q.letter ++ spell_ending q.suffixes q.revision)) =
    digits_apart p.first q.first (flat_map spell_number p.more ++ (p.letter ++ spell_ending p.suffixes p.revision)) (flat_map spell_number q.more ++ (q.letter ++ spell_ending q.suffixes q.revision)) (all_digits p.first h.first) (all_digits q.first k.first) (behind_number p.more p.letter p.suffixes p.revision h.letter) (behind_number q.more q.letter q.suffixes q.revision k.letter) e in
    let more : (p.more ≡ q.more) × (p.letter ++ spell_ending p.suffixes p.revision ≡ q.letter ++ spell_ending q.suffixes q.revision) =
    one_list_of_numbers p.more q.more p.letter q.letter p.suffixes q.suffixes p.revision q.revision h.more k.more h.letter k.letter numbers.1 in
    let letters : (p.letter ≡ q.letter) × (spell_ending p.suffixes p.revision ≡ spell_ending q.suffixes q.revision) =
    one_letter p.letter q.letter p.suffixes q.suffixes p.revision q.revision h.letter k.letter more.1 in
    let ends : (p.suffixes ≡ q.suffixes) × (p.revision ≡ q.revision) = one_ending p.suffixes q.suffixes p.revision q.revision h.suffixes k.suffixes letters.1 in
    ap (λ x. record { first = x; more = p.more; letter = p.letter; suffixes = p.suffixes; revision = p.revision }) numbers.0
    ∙ (ap (λ x. record { first = q.first; more = x; letter = p.letter; suffixes = p.suffixes; revision = p.revision }) more.0
    ∙ (ap (λ x. record { first = q.first; more = q.more; letter = x; suffixes = p.suffixes; revision = p.revision }) letters.0
    ∙ (ap (λ x. record { first = q.first; more = q.more; letter = q.letter; suffixes = x; revision = p.revision }) ends.0
    ∙ ap (λ x. record { first = q.first; more = q.more; letter = q.letter; suffixes = q.suffixes; revision = x }) ends.1)))

-- behind a hyphen inside a version stands no digit
behind_hyphen : (q : Place) → (next q 45 ≡ Hyphen) ⊎ (next q 45 ≡ Nowhere)
behind_hyphen Number = inr refl
behind_hyphen MoreNumber = inl refl
behind_hyphen Letter = inl refl
behind_hyphen Underscore = inr refl
behind_hyphen GotA = inr refl
behind_hyphen GotAl = inr refl
behind_hyphen GotAlp = inr refl
behind_hyphen GotAlph = inr refl
behind_hyphen GotB = inr refl
behind_hyphen GotBe = inr refl
behind_hyphen GotBet = inr refl
behind_hyphen GotR = inr refl
behind_hyphen GotP = inl refl
behind_hyphen GotPr = inr refl
behind_hyphen Suffix = inl refl
behind_hyphen Hyphen = inr refl
behind_hyphen HyphenR = inr refl
behind_hyphen Revision = inr refl
behind_hyphen Nowhere = inr refl

digit_behind_hyphen : (q : Place) (d : ℕ) → is_digit d ≡ true → next (next q 45) d ≡ Nowhere
digit_behind_hyphen q d h =
    let range : (48 ≤ d) × (d ≤ 57) = digit_range d h in
    let no : (d == 114) ≡ false = tests_below d 114 (omega arith) in
    let stuck : next Hyphen d ≡ Nowhere = rw no in
    elim (behind_hyphen q) [ inl e ↦ ap (λ p. next p d) e ∙ stuck | inr e ↦ ap (λ p. next p d) e ]

begins_with_digit : (p : VersionValue) → IsVersion p → (d : ℕ) × (rest : List ℕ) × (is_digit d ≡ true) × (spelling p ≡ d ∷ rest)
begins_with_digit p v = digit_first p.first (flat_map spell_number p.more ++ (p.letter ++ spell_ending p.suffixes p.revision)) v.first
  where
    digit_first : (ds behind : List ℕ) → IsInteger ds → (d : ℕ) × (rest : List ℕ) × (is_digit d ≡ true) × (ds ++ behind ≡ d ∷ rest)
    digit_first [] behind h = absurd h
    digit_first (d ∷ ds) behind h = (d, ds ++ behind, h.0, refl)

no_version_inside : (front w : List ℕ) → IsVersionText (front ++ (45 ∷ w)) → IsVersionText w → ⊥
no_version_inside front w whole (p, v, e) =
    let first : (d : ℕ) × (rest : List ℕ) × (is_digit d ≡ true) × (spelling p ≡ d ∷ rest) = begins_with_digit p v in
    let yes : may_end (run Number (front ++ (45 ∷ w))) ≡ true = text_accepted (front ++ (45 ∷ w)) whole in
    let there : run Number (front ++ (45 ∷ w)) ≡ Nowhere =
    run-append Number front (45 ∷ w) ∙ (ap (λ xs. run (run Number front) (45 ∷ xs)) (e ∙ first.3)
    ∙ (ap (λ q. run q first.1) (digit_behind_hyphen (run Number front) first.0 first.2) ∙ run-nowhere first.1)) in
    let no : may_end (run Number (front ++ (45 ∷ w))) ≡ false = ap may_end there in
    absurd (cc)

-- two ways to cut a list
overlap : (p q x y : List ℕ) → p ++ x ≡ q ++ y → ((m : List ℕ) × (q ≡ p ++ m) × (x ≡ m ++ y)) ⊎ ((m : List ℕ) × (p ≡ q ++ m) × (y ≡ m ++ x))
overlap [] q x y e = inl (q, refl, e)
overlap (a ∷ p) [] x y e = inr (a ∷ p, refl, sym e)
overlap (a ∷ p) (b ∷ q) x y e =
    let heads : a ≡ b = cc in
    let tails : p ++ x ≡ q ++ y = cc in
    elim (overlap p q x y tails) [
      | inl m ↦ inl (m.0, ap (λ c. c ∷ q) (sym heads) ∙ ap (λ l. a ∷ l) m.1, m.2)
      | inr m ↦ inr (m.0, ap (λ c. c ∷ p) heads ∙ ap (λ l. b ∷ l) m.1, m.2)
    ]

same_cut : (p q m v w : List ℕ) → IsVersionText v → IsVersionText w → q ≡ p ++ m → 45 ∷ v ≡ m ++ (45 ∷ w) → (p ≡ q) × (v ≡ w)
same_cut p q [] v w h k e f = (sym (e ∙ append-nil p), ap (λ xs. drop 1 xs) f)
same_cut p q (c ∷ m) v w h k e f =
    let inside : v ≡ m ++ (45 ∷ w) = ap (λ xs. drop 1 xs) f in
    absurd (no_version_inside m w (subst IsVersionText inside h) k)

pub cut_once : (p q v w : List ℕ) → IsVersionText v → IsVersionText w → p ++ (45 ∷ v) ≡ q ++ (45 ∷ w) → (p ≡ q) × (v ≡ w)
cut_once p q v w h k e = elim (overlap p q (45 ∷ v) (45 ∷ w) e) [
  | inl m ↦ same_cut p q m.0 v w h k m.1 m.2
  | inr m ↦ let back : (q ≡ p) × (w ≡ v) = same_cut q p m.0 w v k h m.1 m.2 in (sym back.0, sym back.1)
]
