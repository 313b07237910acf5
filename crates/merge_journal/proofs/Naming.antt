-- No two files of the journal have one name.
use Rattle.std.proofs.Common.{◌≡◌, ◌<◌, ◌^◌, ℕ, true, List, [], ◌∷◌, ◌++◌, length, take, drop, get_or, Result, Ok, refl, sym, ap, ◌∙◌, arith}
use Rattle.std.proofs.lemmas.List.{append-nil, take_at, drop_at, length-append}
use Rattle.byteorder.specs.Endian.{big_number, big_bytes}
use Rattle.byteorder.specs.Numbers.{big_number-reads_back}
use Rattle.hex.specs.Hex.{decode_of, decode_sized, lower_digits}
use Rattle.hex.specs.declared.error.FromHexError.{FromHexError}
use Rattle.hex.proofs.HexLemmas.{decode_of-encode_lower, decode_sized-encode_lower, length-encode_with}
use Rattle.file_tree.specs.Paths.{is_below}
use Rattle.merge_journal.specs.Names.{Part, Gate, Changes, Token, Stage, IsPart, digits, folder, named, part_name, part_path}
use Rattle.file_tree.specs.Fixed.{jobs}
use Rattle.merge_record.specs.Spelling.{number_text}
use Rattle.merge_record.proofs.Numbers.{IsBytes-number_text, length-number_text}

number_text-injective : (k m n : ℕ) → m < 256 ^ k → n < 256 ^ k → number_text k m ≡ number_text k n → m ≡ n
unfolding number_text
number_text-injective k m n lm ln e =
    let reads = λ (x : ℕ). λ (lt : x < 256 ^ k). ap (big_number k) (sym (append-nil (big_bytes k x))) ∙ big_number-reads_back k x [] lt in
    sym (reads m lm) ∙ ap (big_number k) e ∙ reads n ln

decoded : List ℕ → Result (List ℕ) FromHexError
decoded xs = Ok xs

same_bytes : (xs ys : List ℕ) → decoded xs ≡ decoded ys → xs ≡ ys
unfolding decoded
same_bytes xs ys e = cc

pub digits-injective : (m n : ℕ) → m < 2 ^ 32 → n < 2 ^ 32 → digits m ≡ digits n → m ≡ n
unfolding digits decoded
digits-injective m n lm ln e =
    let reads = λ (x : ℕ). decode_of-encode_lower (number_text 4 x) (IsBytes-number_text 4 x) in
    let texts : decoded (number_text 4 m) ≡ decoded (number_text 4 n) = sym (reads m) ∙ ap decode_of e ∙ reads n in
    number_text-injective 4 m n (omega arith) (omega arith) (same_bytes _ _ texts)

pub length-digits : (n : ℕ) → length (digits n) ≡ 8
unfolding digits
length-digits n = omega (arith, length-encode_with lower_digits (number_text 4 n), length-number_text 4 n)

pub length-folder : (group : ℕ) → length (folder group) ≡ 29
unfolding folder
length-folder group = omega (arith, length-append jobs (47 ∷ digits group), length-digits group)

-- fronts of one length are equal where the wholes are, and so are the rests
same_parts : (k : ℕ) (a b x y : List ℕ) → length a ≡ k → length b ≡ k → a ++ x ≡ b ++ y → (a ≡ b) × (x ≡ y)
same_parts k a b x y la lb e = (
  sym (take_at a x k la) ∙ ap (take k) e ∙ take_at b y k lb,
  sym (drop_at a x k la) ∙ ap (drop k) e ∙ drop_at b y k lb,
)

folder-injective : (g h : ℕ) → g < 2 ^ 32 → h < 2 ^ 32 → folder g ≡ folder h → g ≡ h
unfolding folder
folder-injective g h lg lh e = digits-injective g h lg lh (ap (drop 21) e)

pub named-injective : (g h : ℕ) (a b : List ℕ) → g < 2 ^ 32 → h < 2 ^ 32 → named g a ≡ named h b → (g ≡ h) × (a ≡ b)
unfolding named
named-injective g h a b lg lh e =
    let both = same_parts 29 (folder g) (folder h) (47 ∷ a) (47 ∷ b) (length-folder g) (length-folder h) e in
    (folder-injective g h lg lh both.0, ap (drop 1) both.1)

first_byte : (x y : List ℕ) → x ≡ y → get_or x 0 0 ≡ get_or y 0 0
first_byte x y e = ap (λ (t : List ℕ). get_or t 0 0) e

part_name-injective : (p q : Part) → IsPart p → IsPart q → part_name p ≡ part_name q → p ≡ q
part_name-injective Gate Gate hp hq e = refl
part_name-injective Gate Changes hp hq e = absurd (let h : 103 ≡ 114 = first_byte _ _ e in omega arith)
part_name-injective Gate Token hp hq e = absurd (let h : 103 ≡ 116 = first_byte _ _ e in omega arith)
part_name-injective Gate (Stage j) hp hq e = absurd (let h : 103 ≡ 115 = first_byte _ _ e in omega arith)
part_name-injective Changes Gate hp hq e = absurd (let h : 114 ≡ 103 = first_byte _ _ e in omega arith)
part_name-injective Changes Changes hp hq e = refl
part_name-injective Changes Token hp hq e = absurd (let h : 114 ≡ 116 = first_byte _ _ e in omega arith)
part_name-injective Changes (Stage j) hp hq e = absurd (let h : 114 ≡ 115 = first_byte _ _ e in omega arith)
part_name-injective Token Gate hp hq e = absurd (let h : 116 ≡ 103 = first_byte _ _ e in omega arith)
part_name-injective Token Changes hp hq e = absurd (let h : 116 ≡ 114 = first_byte _ _ e in omega arith)
part_name-injective Token Token hp hq e = refl
part_name-injective Token (Stage j) hp hq e = absurd (let h : 116 ≡ 115 = first_byte _ _ e in omega arith)
part_name-injective (Stage i) Gate hp hq e = absurd (let h : 115 ≡ 103 = first_byte _ _ e in omega arith)
part_name-injective (Stage i) Changes hp hq e = absurd (let h : 115 ≡ 114 = first_byte _ _ e in omega arith)
part_name-injective (Stage i) Token hp hq e = absurd (let h : 115 ≡ 116 = first_byte _ _ e in omega arith)
part_name-injective (Stage i) (Stage j) hp hq e = ap Stage (digits-injective i j hp hq (ap (drop 6) e))

pub part_path-injective : (g h : ℕ) (p q : Part) → g < 2 ^ 32 → h < 2 ^ 32 → IsPart p → IsPart q → part_path g p ≡ part_path h q → (g ≡ h) × (p ≡ q)
part_path-injective g h p q lg lh hp hq e =
    let both = named-injective g h (part_name p) (part_name q) lg lh e in
    (both.0, part_name-injective p q hp hq both.1)

pub named-below : (g : ℕ) (name : List ℕ) → is_below jobs (named g name) ≡ true
unfolding named folder
named-below g name = refl

-- the digits of a number are read as that number
pub digits_decoded : (n : ℕ) (text : List ℕ) → text ≡ digits n → decode_sized text 4 ≡ Ok (number_text 4 n)
unfolding digits
digits_decoded n text e = ap (λ (t : List ℕ). decode_sized t 4) e ∙ decode_sized-encode_lower (number_text 4 n) 4 (length-number_text 4 n) (IsBytes-number_text 4 n)

pub number_read : (n : ℕ) → n < 2 ^ 32 → big_number 4 (number_text 4 n) ≡ n
unfolding number_text
number_read n lt = ap (big_number 4) (sym (append-nil (big_bytes 4 n))) ∙ big_number-reads_back 4 n [] lt

-- where the digits of a group stand in its paths
pub digits_at : (g : ℕ) (name : List ℕ) → take 8 (drop 21 (named g name)) ≡ digits g
unfolding named folder
digits_at g name = take_at (digits g) (47 ∷ name) 8 (length-digits g)

pub named_long : (g : ℕ) (name : List ℕ) → 29 < length (named g name)
unfolding named
named_long g name = omega (arith, length-append (folder g) (47 ∷ name), length-folder g)
