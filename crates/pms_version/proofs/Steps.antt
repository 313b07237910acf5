-- The steps of reading.
use Rattle.std.specs.Prelude.{true, false}
use Rattle.std.specs.List.{AllByRecursion, flat_map}
use Rattle.std.proofs.Common.{◌≡◌, ◌∙◌, ℕ, ◌+◌, ◌<◌, ◌≤◌, inl, inr, List, [], ◌∷◌, ◌++◌, length, drop, get_or, refl, sym, ap, subst, arith, append_assoc, append-nil, length-append, length-drop, ◌-◌}
use Rattle.std.proofs.lemmas.List.{drop-drop}
use Rattle.std.proofs.lemmas.Bool.{both_ways}
use Rattle.pms_grammar.proofs.Bytes.{below_is_no_lower}
use Rattle.pms_grammar.proofs.Unique.{Behind, BehindSuffix, behind_suffix, behind_numbers, behind_number, suffix_is_no_digit, behind_is_no_digit, digits_apart, kind_at-word, all_digits, shift_suffix}
use Rattle.basics.specs.Bytes.{is_digit, is_lower}
use Rattle.pms_grammar.specs.Grammar.{AreDigits, IsInteger, IsLetter, SuffixKind, SuffixValue, VersionValue, IsVersion, kind_at, word, spell_number, spell_suffix, spell_revision, spell_ending, spelling}
use Rattle.pms_grammar.specs.Grammar.SuffixKind.{Alpha, Beta, Pre, Rc, P}
use Rattle.pms_version.specs.Limits.{digit_count, HasShortNumbers, IsReadable}
use Rattle.pms_version.specs.Steps.{AreSuffixes, EndsNumbers, ReadsNumbers, HasReadNumbers, HasReadLetter, ReadsSuffixes, HasReadSuffixes}

-- limits

digit_count-front : (front back : List ℕ) → AreDigits front → length front ≤ digit_count (front ++ back)
digit_count-front [] back h = omega arith
digit_count-front (d ∷ ds) back h =
    let more : length ds ≤ digit_count (ds ++ back) = digit_count-front ds back h.1 in
    rw h.0 (omega arith)

pub digits_are_short : (bytes front back : List ℕ) → bytes ≡ front ++ back → AreDigits front → HasShortNumbers bytes → length front ≤ 38
digits_are_short bytes front back e h k =
    let some : length front ≤ digit_count bytes = subst (λ xs. length front ≤ digit_count xs) (sym e) (digit_count-front front back h) in
    let most : digit_count bytes ≤ 38 = k 0 in
    omega arith

pub short_behind : (n : ℕ) (bytes rest : List ℕ) → rest ≡ drop n bytes → HasShortNumbers bytes → HasShortNumbers rest
short_behind n bytes rest e h k = subst (λ xs. digit_count xs ≤ 38) (sym (ap (drop k) e ∙ drop-drop k n bytes)) (h (n + k))

-- the letter

suffix_is_no_letter : (h : ℕ) → BehindSuffix h → is_lower h ≡ false
unfolding BehindSuffix
suffix_is_no_letter h b = elim b [ inl k ↦ below_is_no_lower h (omega arith) | inr k ↦ below_is_no_lower h (omega arith) ]

pub a_letter : (bytes : List ℕ) → is_lower (get_or bytes 0 0) ≡ true → HasReadLetter bytes (get_or bytes 0 0 ∷ []) (drop 1 bytes)
a_letter bytes h [] ss r l k m e = absurd (both_ways (is_lower (get_or bytes 0 0)) (ap (λ xs. is_lower (get_or xs 0 0)) e ∙ suffix_is_no_letter (get_or (spell_ending ss r) 0 0) (behind_suffix ss r)) h)
a_letter bytes h (b ∷ []) ss r l k m e = (ap (λ xs. get_or xs 0 0 ∷ []) e, ap (λ xs. drop 1 xs) e)
a_letter bytes h (b ∷ c ∷ bs) ss r l k m e = absurd l

pub no_letter : (bytes : List ℕ) → is_lower (get_or bytes 0 0) ≡ false → HasReadLetter bytes [] bytes
no_letter bytes h [] ss r l k m e = (refl, e)
no_letter bytes h (b ∷ []) ss r l k m e = absurd (both_ways (is_lower b) (sym (ap (λ xs. is_lower (get_or xs 0 0)) e) ∙ h) l)
no_letter bytes h (b ∷ c ∷ bs) ss r l k m e = absurd l

-- the numbers behind dots

pub numbers_begin : (bytes : List ℕ) → ReadsNumbers bytes [] bytes
numbers_begin bytes ns after h k e = (ns, refl, h, e)

no_digit_behind : (ns : List (List ℕ)) (after : List ℕ) → EndsNumbers after → is_digit (get_or (flat_map spell_number ns ++ after) 0 0) ≡ false
no_digit_behind [] after h = h.no_digit
no_digit_behind (n ∷ ns) after h = refl

next_number : (digits rest behind after : List ℕ) (ns : List (List ℕ)) → get_or behind 0 0 ≡ 46 → AreDigits digits → drop 1 behind ≡ digits ++ rest → is_digit (get_or rest 0 0) ≡ false → AllByRecursion IsInteger ns → EndsNumbers after → behind ≡ flat_map spell_number ns ++ after →
    (more : List (List ℕ)) × (ns ≡ digits ∷ more) × AllByRecursion IsInteger more × (rest ≡ flat_map spell_number more ++ after)
next_number digits rest behind after [] dot d e f h k s = absurd (k.no_dot (sym (ap (λ xs. get_or xs 0 0) s) ∙ dot))
next_number digits rest behind after (n ∷ ns) dot d e f h k s =
    let joined : digits ++ rest ≡ n ++ (flat_map spell_number ns ++ after) = sym e ∙ (ap (λ xs. drop 1 xs) s ∙ append_assoc n (flat_map spell_number ns) after) in
    let apart : (digits ≡ n) × (rest ≡ flat_map spell_number ns ++ after) = digits_apart digits n rest (flat_map spell_number ns ++ after) d (all_digits n h.0) f (no_digit_behind ns after k) joined in
    (ns, ap (λ x. x ∷ ns) (sym apart.0), h.1, apart.1)

pub number_read : (bytes behind digits rest : List ℕ) (done : List (List ℕ)) → ReadsNumbers bytes done behind → get_or behind 0 0 ≡ 46 → AreDigits digits → drop 1 behind ≡ digits ++ rest → is_digit (get_or rest 0 0) ≡ false → ReadsNumbers bytes (done ++ digits ∷ []) rest
number_read bytes behind digits rest done reads dot d e f ns after h k s =
    let left : (more : List (List ℕ)) × (ns ≡ done ++ more) × AllByRecursion IsInteger more × (behind ≡ flat_map spell_number more ++ after) = reads ns after h k s in
    let one : (more : List (List ℕ)) × (left.0 ≡ digits ∷ more) × AllByRecursion IsInteger more × (rest ≡ flat_map spell_number more ++ after) = next_number digits rest behind after left.0 dot d e f left.2 k left.3 in
    (one.0, left.1 ∙ (ap (λ xs. done ++ xs) one.1 ∙ sym (append_assoc done (digits ∷ []) one.0)), one.2, one.3)

numbers_over : (behind after : List ℕ) (ns : List (List ℕ)) → (get_or behind 0 0 ≡ 46 → ⊥) → behind ≡ flat_map spell_number ns ++ after → (ns ≡ []) × (behind ≡ after)
numbers_over behind after [] dot s = (refl, s)
numbers_over behind after (n ∷ ns) dot s = absurd (dot (ap (λ xs. get_or xs 0 0) s))

pub numbers_end : (bytes behind : List ℕ) (done : List (List ℕ)) → ReadsNumbers bytes done behind → (get_or behind 0 0 ≡ 46 → ⊥) → HasReadNumbers bytes done behind
numbers_end bytes behind done reads dot ns after h k s =
    let left : (more : List (List ℕ)) × (ns ≡ done ++ more) × AllByRecursion IsInteger more × (behind ≡ flat_map spell_number more ++ after) = reads ns after h k s in
    let over : (left.0 ≡ []) × (behind ≡ after) = numbers_over behind after left.0 dot left.3 in
    (sym (left.1 ∙ (ap (λ xs. done ++ xs) over.0 ∙ append-nil done)), over.1)

-- the suffixes

pub suffixes_begin : (bytes : List ℕ) → ReadsSuffixes bytes [] bytes
suffixes_begin bytes ss r h k e = (ss, refl, h, e)

no_underscore : (r : List ℕ) → get_or (spell_revision r) 0 0 ≡ 95 → ⊥
no_underscore [] e = omega arith
no_underscore (d ∷ ds) e = omega arith

drop-word : (k : SuffixKind) (xs : List ℕ) → drop (length (word k)) (word k ++ xs) ≡ xs
drop-word Alpha xs = refl
drop-word Beta xs = refl
drop-word Pre xs = refl
drop-word Rc xs = refl
drop-word P xs = refl

next_suffix : (kind : SuffixKind) (digits rest behind : List ℕ) (ss : List SuffixValue) (r : List ℕ) → get_or behind 0 0 ≡ 95 → kind ≡ kind_at (drop 1 behind) → AreDigits digits → drop (length (word kind)) (drop 1 behind) ≡ digits ++ rest → is_digit (get_or rest 0 0) ≡ false → AreSuffixes ss → behind ≡ spell_ending ss r →
    (more : List SuffixValue) × (ss ≡ record { kind = kind; digits = digits } ∷ more) × AreSuffixes more × (rest ≡ spell_ending more r)
next_suffix kind digits rest behind [] r under w d e f h s = absurd (no_underscore r (sym (ap (λ xs. get_or xs 0 0) s) ∙ under))
next_suffix kind digits rest behind (t ∷ ts) r under w d e f h s =
    let tail : drop 1 behind ≡ word t.kind ++ (t.digits ++ spell_ending ts r) = ap (λ xs. drop 1 xs) s ∙ shift_suffix (word t.kind) t.digits (flat_map spell_suffix ts) (spell_revision r) in
    let kinds : kind ≡ t.kind = w ∙ (ap kind_at tail ∙ kind_at-word t.kind t.digits ts r h.0) in
    let joined : digits ++ rest ≡ t.digits ++ spell_ending ts r =
    sym e ∙ (ap (λ xs. drop (length (word kind)) xs) tail ∙ (ap (λ q. drop (length (word q)) (word t.kind ++ (t.digits ++ spell_ending ts r))) kinds ∙ drop-word t.kind (t.digits ++ spell_ending ts r))) in
    let apart : (digits ≡ t.digits) × (rest ≡ spell_ending ts r) =
    digits_apart digits t.digits rest (spell_ending ts r) d h.0 f (suffix_is_no_digit (get_or (spell_ending ts r) 0 0) (behind_suffix ts r)) joined in
    let same : t ≡ record { kind = kind; digits = digits } = ap (λ q. record { kind = q; digits = t.digits }) (sym kinds) ∙ ap (λ ds. record { kind = kind; digits = ds }) (sym apart.0) in
    (ts, ap (λ x. x ∷ ts) same, h.1, apart.1)

pub suffix_read : (bytes behind digits rest : List ℕ) (kind : SuffixKind) (done : List SuffixValue) → ReadsSuffixes bytes done behind → get_or behind 0 0 ≡ 95 → kind ≡ kind_at (drop 1 behind) → AreDigits digits → drop (length (word kind)) (drop 1 behind) ≡ digits ++ rest → is_digit (get_or rest 0 0) ≡ false → ReadsSuffixes bytes (done ++ record { kind = kind; digits = digits } ∷ []) rest
suffix_read bytes behind digits rest kind done reads under w d e f ss r h k s =
    let left : (more : List SuffixValue) × (ss ≡ done ++ more) × AreSuffixes more × (behind ≡ spell_ending more r) = reads ss r h k s in
    let one : (more : List SuffixValue) × (left.0 ≡ record { kind = kind; digits = digits } ∷ more) × AreSuffixes more × (rest ≡ spell_ending more r) = next_suffix kind digits rest behind left.0 r under w d e f left.2 left.3 in
    (one.0, left.1 ∙ (ap (λ xs. done ++ xs) one.1 ∙ sym (append_assoc done (record { kind = kind; digits = digits } ∷ []) one.0)), one.2, one.3)

suffixes_over : (behind : List ℕ) (ss : List SuffixValue) (r : List ℕ) → (get_or behind 0 0 ≡ 95 → ⊥) → behind ≡ spell_ending ss r → (ss ≡ []) × (behind ≡ spell_ending [] r)
suffixes_over behind [] r under s = (refl, s)
suffixes_over behind (t ∷ ts) r under s = absurd (under (ap (λ xs. get_or xs 0 0) s))

pub suffixes_end : (bytes behind : List ℕ) (done : List SuffixValue) → ReadsSuffixes bytes done behind → (get_or behind 0 0 ≡ 95 → ⊥) → HasReadSuffixes bytes done behind
suffixes_end bytes behind done reads under ss r h k s =
    let left : (more : List SuffixValue) × (ss ≡ done ++ more) × AreSuffixes more × (behind ≡ spell_ending more r) = reads ss r h k s in
    let over : (left.0 ≡ []) × (behind ≡ spell_ending [] r) = suffixes_over behind left.0 r under left.3 in
    (sym (left.1 ∙ (ap (λ xs. done ++ xs) over.0 ∙ append-nil done)), over.1)

-- the revision

pub revision_read : (bytes digits rest r : List ℕ) → AreDigits digits → drop 2 bytes ≡ digits ++ rest → is_digit (get_or rest 0 0) ≡ false → AreDigits r → bytes ≡ spell_revision r → digits ≡ r
revision_read bytes digits rest [] d e f h s =
    (digits_apart digits [] rest [] d tt f refl (sym e ∙ ap (λ xs. drop 2 xs) s)).0
revision_read bytes digits rest (c ∷ cs) d e f h s =
    (digits_apart digits (c ∷ cs) rest [] d h f refl (sym e ∙ (ap (λ xs. drop 2 xs) s ∙ sym (append-nil (c ∷ cs))))).0

-- all parts

no_dot_at : (h : ℕ) → Behind h → h ≡ 46 → ⊥
unfolding Behind
no_dot_at h b e = elim b [ inl k ↦ omega arith | inr k ↦ omega arith ]

behind_ends : (l : List ℕ) (ss : List SuffixValue) (r : List ℕ) → IsLetter l → EndsNumbers (l ++ spell_ending ss r)
behind_ends l ss r h = record {
  no_digit = behind_is_no_digit (get_or (l ++ spell_ending ss r) 0 0) (behind_numbers l ss r h);
  no_dot = no_dot_at (get_or (l ++ spell_ending ss r) 0 0) (behind_numbers l ss r h);
}

pub all_read : (p : VersionValue) (text first behind : List ℕ) (more : List (List ℕ)) (behind_more letter behind_letter : List ℕ) (suffixes : List SuffixValue) (behind_suffixes revision : List ℕ) → IsVersion p → text ≡ spelling p → AreDigits first → text ≡ first ++ behind → is_digit (get_or behind 0 0) ≡ false → HasReadNumbers behind more behind_more → HasReadLetter behind_more letter behind_letter → HasReadSuffixes behind_letter suffixes behind_suffixes → ((r : List ℕ) → AreDigits r → behind_suffixes ≡ spell_revision r → revision ≡ r) → record { first = first; more = more; letter = letter; suffixes = suffixes; revision = revision } ≡ p
all_read p text first behind more behind_more letter behind_letter suffixes behind_suffixes revision v e d whole f numbers one ends last =
    let starts : (first ≡ p.first) × (behind ≡ flat_map spell_number p.more ++ (p.letter ++ spell_ending p.suffixes p.revision)) =
    digits_apart first p.first behind (flat_map spell_number p.more ++ (p.letter ++ spell_ending p.suffixes p.revision)) d (all_digits p.first v.first) f (behind_number p.more p.letter p.suffixes p.revision v.letter) (sym whole ∙ e) in
    let ns : (more ≡ p.more) × (behind_more ≡ p.letter ++ spell_ending p.suffixes p.revision) = numbers p.more (p.letter ++ spell_ending p.suffixes p.revision) v.more (behind_ends p.letter p.suffixes p.revision v.letter) starts.1 in
    let l : (letter ≡ p.letter) × (behind_letter ≡ spell_ending p.suffixes p.revision) = one p.letter p.suffixes p.revision v.letter v.suffixes v.revision ns.1 in
    let ss : (suffixes ≡ p.suffixes) × (behind_suffixes ≡ spell_ending [] p.revision) = ends p.suffixes p.revision v.suffixes v.revision l.1 in
    let r : revision ≡ p.revision = last p.revision v.revision ss.1 in
    ap (λ x. record { first = x; more = more; letter = letter; suffixes = suffixes; revision = revision }) starts.0
    ∙ (ap (λ x. record { first = p.first; more = x; letter = letter; suffixes = suffixes; revision = revision }) ns.0
    ∙ (ap (λ x. record { first = p.first; more = p.more; letter = x; suffixes = suffixes; revision = revision }) l.0
    ∙ (ap (λ x. record { first = p.first; more = p.more; letter = p.letter; suffixes = x; revision = revision }) ss.0
    ∙ ap (λ x. record { first = p.first; more = p.more; letter = p.letter; suffixes = p.suffixes; revision = x }) r)))

pub shorter_behind : (n : ℕ) (behind digits rest : List ℕ) → get_or behind 0 0 ≡ 95 → drop n (drop 1 behind) ≡ digits ++ rest → length rest < length behind
shorter_behind n [] digits rest h e = absurd (omega arith)
shorter_behind n (b ∷ bs) digits rest h e =
    let lengths : length (drop n bs) ≡ length digits + length rest = ap length e ∙ length-append digits rest in
    let cut : length (drop n bs) ≡ length bs - n = length-drop n bs in
    omega arith

pub readable_text : (p : VersionValue) (text : List ℕ) → IsVersion p → text ≡ spelling p → length text ≤ 255 → HasShortNumbers text → IsReadable p
readable_text p text v e l s = record { version = v; short = subst (λ xs. length xs ≤ 255) e l; numbers = subst HasShortNumbers e s }
