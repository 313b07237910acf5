-- The lines of CONTENTS: what is written is read back, and a text says one list.
use Rattle.std.proofs.Common.{◌≡◌, ◌∙◌, ◌||◌, ◌&&◌, ◌<◌, ◌==◌, ◌/◌, ◌%◌, ℕ, zero, suc, Bool, true, false, cond, List, [], ◌∷◌, ◌++◌, length, get_or, drop, take, map, Option, Some, Result, Ok, refl, ap, sym, subst, inl, inr, arith, append_assoc}
use Rattle.std.specs.Prelude.{⊤, codes, slice_get, nat_eq, nat_le, nat_lt}
use Rattle.std.specs.List.{AllByRecursion, list_any, list_all, starts_with}
use Rattle.std.proofs.lemmas.Bool.{and_parts, cases_eq, cases_lt, or_from, or_parts}
use Rattle.std.proofs.lemmas.Bool.Decides.{nat_tests}
use Rattle.std.proofs.lemmas.List.{append_cancel_left, map-append, take-take}
use Rattle.hex.specs.Hex.{encode_lower, encode_with, decode_of, lower_digits}
use Rattle.hex.proofs.HexLemmas.{decode_of-encode_lower}
use Rattle.basics.specs.Bytes.{is_digit}
use Rattle.basics.specs.Members.{AreDistinct, Has}
use Rattle.basics.proofs.Membership.{has-append_left, has-append_right, has-map}
use Rattle.basics.proofs.Lists.{heads_and_tails}
use Rattle.file_tree.specs.Paths.{bad_char_at, bad_part_at, begins_badly, is_path}
use Rattle.file_tree.proofs.Grammar.{form_of_path}
use Rattle.std.specs.Str.{is_utf8}
use Rattle.file_link.specs.Targets.{is_target, is_target_byte, most_bytes}
use Rattle.file_tree.specs.Paths.{IsPathText}
use Rattle.vdb_contents.specs.Contents.{AreLines, GoodHasNoFault, OneFault, ContentsAreReadBack, OneContents, IsContent, IsFaultyLine, IsLine, IsOwnable, Line, Repeats, before_lines, contents_text, dir, is_dropped, is_time, line_of, line_text, lines, obj, owned_by, owned_in, sym as link_line, path_of, unless_dropped, written_line}
use Rattle.vdb_contents.specs.Cuts.{HasNoSpace}
use Rattle.vdb_contents.specs.declared.owned.Content.{Content}
use Rattle.vdb_contents.specs.declared.owned.Content.TheVariants.{File, Link}
use Rattle.vdb_contents.specs.declared.owned.Owned.{Owned}

-- no arrow begins anywhere in the text
abbrev pub LacksArrow : List ℕ → Type 0
LacksArrow [] = ⊤
LacksArrow (b ∷ bs) = (starts_with nat_eq (b ∷ bs) (32 ∷ 45 ∷ 62 ∷ []) ≡ false) × LacksArrow bs

is_newline : ℕ → Bool
is_newline b = b == 10

abbrev pub IsOneLine : List ℕ → Type 0
IsOneLine l = list_any (λ b. b == 10) l ≡ false

-- a line, a newline, and the rest
pub lines_ended : (l rest : List ℕ) → IsOneLine l → lines (l ++ (10 ∷ rest)) ≡ l ∷ lines rest
lines_ended [] rest h = refl
lines_ended (b ∷ l) rest h =
    let both = or_parts (b == 10) (list_any (λ c. c == 10) l) h in
    ap (λ (x : Bool). cond x ([] ∷ lines (l ++ (10 ∷ rest))) (before_lines b (lines (l ++ (10 ∷ rest))))) both.0
    ∙ ap (before_lines b) (lines_ended l rest both.1)

lines_of_written : (os : List Owned) → AllByRecursion (λ o. IsOneLine (line_text (written_line o))) os → lines (contents_text os) ≡ map line_text (map written_line os)
lines_of_written [] h = refl
lines_of_written (o ∷ os) h =
    let l : List ℕ = line_text (written_line o) in
    ap lines (append_assoc l (10 ∷ []) (contents_text os)) ∙ (lines_ended l (contents_text os) h.0 ∙ ap (λ (ls : List (List ℕ)). l ∷ ls) (lines_of_written os h.1))

one_line-append : (a b : List ℕ) → IsOneLine a → IsOneLine b → IsOneLine (a ++ b)
one_line-append [] b h k = k
one_line-append (x ∷ a) b h k =
    let both = or_parts (x == 10) (list_any (λ c. c == 10) a) h in
    or_from (x == 10) (list_any (λ c. c == 10) (a ++ b)) both.0 (one_line-append a b both.1 k)

digit_lacks : (b : ℕ) → is_digit b ≡ true → ((b == 10) ≡ false) × ((b == 32) ≡ false)
digit_lacks b h = (grind (arith, nat_tests), grind (arith, nat_tests))

pub digits_lack : (t : List ℕ) → list_all is_digit t ≡ true → IsOneLine t × HasNoSpace t
digits_lack [] h = (refl, refl)
digits_lack (b ∷ t) h =
    let both = and_parts (is_digit b) (list_all is_digit t) h in
    let here = digit_lacks b both.0 in
    let later = digits_lack t both.1 in
    (or_from (b == 10) (list_any (λ c. c == 10) t) here.0 later.0, or_from (b == 32) (list_any (λ c. c == 32) t) here.1 later.1)

pub time_lacks : (t : List ℕ) → is_time t ≡ true → IsOneLine t × HasNoSpace t
time_lacks t is = digits_lack t (and_parts (nat_lt 0 (length t)) (list_all is_digit t) is).1

pub has_space : (b u : List ℕ) → HasNoSpace (b ++ (32 ∷ u)) → ⊥
has_space [] u h = cc h
has_space (x ∷ b) u h = has_space b u (or_parts (x == 32) (list_any (λ c. c == 32) (b ++ (32 ∷ u))) h).1

-- what stands behind the last space
pub cut_last : (a b t u : List ℕ) → HasNoSpace t → HasNoSpace u → a ++ (32 ∷ t) ≡ b ++ (32 ∷ u) → (a ≡ b) × (t ≡ u)
cut_last [] [] t u h k e = (refl, ap (drop 1) e)
cut_last [] (x ∷ b) t u h k e = absurd (has_space b u (subst HasNoSpace (ap (drop 1) e) h))
cut_last (x ∷ a) [] t u h k e = absurd (has_space a t (subst HasNoSpace (sym (ap (drop 1) e)) k))
cut_last (x ∷ a) (y ∷ b) t u h k e =
    let rest = cut_last a b t u h k (ap (drop 1) e) in
    let first : x ≡ y = ap (λ (l : List ℕ). get_or l 0 0) e in
    (ap (λ (z : ℕ). z ∷ a) first ∙ ap (λ (l : List ℕ). y ∷ l) rest.0, rest.1)

arrow : List ℕ → List ℕ
arrow t = 32 ∷ 45 ∷ 62 ∷ 32 ∷ t

-- no arrow stands across the end of a text that lacks one
no_arrow_in : (x : ℕ) (q t u : List ℕ) → LacksArrow (x ∷ q) → 32 ∷ 45 ∷ 62 ∷ 32 ∷ t ≡ (x ∷ q) ++ (32 ∷ 45 ∷ 62 ∷ 32 ∷ u) → ⊥
no_arrow_in x [] t u h e = let f : 45 ≡ 32 = ap (λ (l : List ℕ). get_or l 1 0) e in absurd (omega (arith, f))
no_arrow_in x (y ∷ []) t u h e = let f : 62 ≡ 32 = ap (λ (l : List ℕ). get_or l 2 0) e in absurd (omega (arith, f))
no_arrow_in x (y ∷ z ∷ q) t u h e =
    let a : 32 ≡ x = ap (λ (l : List ℕ). get_or l 0 0) e in
    let b : 45 ≡ y = ap (λ (l : List ℕ). get_or l 1 0) e in
    let c : 62 ≡ z = ap (λ (l : List ℕ). get_or l 2 0) e in
    let there : starts_with nat_eq (x ∷ y ∷ z ∷ q) (32 ∷ 45 ∷ 62 ∷ []) ≡ true =
    subst (λ (n : ℕ). starts_with nat_eq (n ∷ y ∷ z ∷ q) (32 ∷ 45 ∷ 62 ∷ []) ≡ true) a
    (subst (λ (n : ℕ). starts_with nat_eq (32 ∷ n ∷ z ∷ q) (32 ∷ 45 ∷ 62 ∷ []) ≡ true) b
    (subst (λ (n : ℕ). starts_with nat_eq (32 ∷ 45 ∷ n ∷ q) (32 ∷ 45 ∷ 62 ∷ []) ≡ true) c refl)) in
    cc (h.0, there)

-- what stands before the first arrow
pub cut_arrow : (p q t u : List ℕ) → LacksArrow p → LacksArrow q → p ++ (32 ∷ 45 ∷ 62 ∷ 32 ∷ t) ≡ q ++ (32 ∷ 45 ∷ 62 ∷ 32 ∷ u) → (p ≡ q) × (t ≡ u)
cut_arrow [] [] t u h k e = (refl, ap (drop 4) e)
cut_arrow [] (x ∷ q) t u h k e = absurd (no_arrow_in x q t u k e)
cut_arrow (x ∷ p) [] t u h k e = absurd (no_arrow_in x p u t h (sym e))
cut_arrow (x ∷ p) (y ∷ q) t u h k e =
    let rest = cut_arrow p q t u h.1 k.1 (ap (drop 1) e) in
    let first : x ≡ y = ap (λ (l : List ℕ). get_or l 0 0) e in
    (ap (λ (z : ℕ). z ∷ p) first ∙ ap (λ (l : List ℕ). y ∷ l) rest.0, rest.1)

not_eqb : (b : ℕ) → (b ≡ 10 → ⊥) → (b == 10) ≡ false
not_eqb b ne = grind (arith, nat_tests)

-- the bytes that a path lacks, by recursion
good_at : (bs : List ℕ) → ((k : ℕ) → k < length bs → begins_badly (drop k bs) ≡ false) → LacksArrow bs × IsOneLine bs
good_at [] h = (tt, refl)
good_at (b ∷ bs) h =
    let here = or_parts (starts_with nat_eq (b ∷ bs) (10 ∷ [])) (starts_with nat_eq (b ∷ bs) (0 ∷ []) || starts_with nat_eq (b ∷ bs) (32 ∷ 45 ∷ 62 ∷ [])) (h 0 (omega arith)) in
    let rest = good_at bs (λ k lt. h (suc k) (omega (arith, lt))) in
    let none = (or_parts (starts_with nat_eq (b ∷ bs) (0 ∷ [])) (starts_with nat_eq (b ∷ bs) (32 ∷ 45 ∷ 62 ∷ [])) here.1).1 in
    ((none, rest.0), or_from (b == 10) (list_any (λ c. c == 10) bs) (first_not b bs here.0) rest.1) where
      first_not : (b : ℕ) (bs : List ℕ) → starts_with nat_eq (b ∷ bs) (10 ∷ []) ≡ false → (b == 10) ≡ false
      first_not b bs h = elim (cases_eq b 10) [ inl e ↦ absurd (cc (subst (λ (n : ℕ). starts_with nat_eq (n ∷ bs) (10 ∷ []) ≡ true) (sym e) refl, h)) | inr ne ↦ not_eqb b ne ]

pub path_lacks : (p : List ℕ) → IsPathText p → LacksArrow p × IsOneLine p
path_lacks p is =
    let form = form_of_path p (and_parts (is_utf8 p) (is_path p) is).1 in
    good_at p (λ k lt. (or_parts (bad_part_at p k) (bad_char_at p k) (form.good k (omega (arith, lt)))).1)

-- a digit of a table is no newline and no space, where the table has none
table_lacks : (t : List ℕ) (n : ℕ) → IsOneLine t → HasNoSpace t → ((get_or t n 0 == 10) ≡ false) × ((get_or t n 0 == 32) ≡ false)
table_lacks [] n h k = (refl, refl)
table_lacks (b ∷ t) zero h k = ((or_parts (b == 10) (list_any (λ c. c == 10) t) h).0, (or_parts (b == 32) (list_any (λ c. c == 32) t) k).0)
table_lacks (b ∷ t) (suc n) h k = table_lacks t n (or_parts (b == 10) (list_any (λ c. c == 10) t) h).1 (or_parts (b == 32) (list_any (λ c. c == 32) t) k).1

pub hex_lacks : (d : List ℕ) → IsOneLine (encode_lower d) × HasNoSpace (encode_lower d)
unfolding encode_with
hex_lacks [] = (refl, refl)
hex_lacks (b ∷ d) =
    let high = table_lacks lower_digits (b / 16) refl refl in
    let low = table_lacks lower_digits (b % 16) refl refl in
    let rest = hex_lacks d in
    let x : ℕ = get_or lower_digits (b / 16) 0 in
    let y : ℕ = get_or lower_digits (b % 16) 0 in (
      or_from (x == 10) ((y == 10) || list_any (λ c. c == 10) (encode_lower d)) high.0 (or_from (y == 10) (list_any (λ c. c == 10) (encode_lower d)) low.0 rest.0),
      or_from (x == 32) ((y == 32) || list_any (λ c. c == 32) (encode_lower d)) high.1 (or_from (y == 32) (list_any (λ c. c == 32) (encode_lower d)) low.1 rest.1),
    )

no_newline : (b : ℕ) → is_target_byte b ≡ true → (b == 10) ≡ false
no_newline b h = grind (arith, nat_tests)

bytes_lack : (t : List ℕ) → list_all is_target_byte t ≡ true → IsOneLine t
bytes_lack [] h = refl
bytes_lack (b ∷ t) h =
    let both = and_parts (is_target_byte b) (list_all is_target_byte t) h in
    or_from (b == 10) (list_any (λ c. c == 10) t) (no_newline b both.0) (bytes_lack t both.1)

target_lacks : (t : List ℕ) → is_target t ≡ true → IsOneLine t
target_lacks t h =
    let behind = (and_parts (nat_lt 0 (length t)) (nat_le (length t) most_bytes && (list_all is_target_byte t && is_utf8 t)) h).1 in
    let clean = (and_parts (nat_le (length t) most_bytes) (list_all is_target_byte t && is_utf8 t) behind).1 in
    bytes_lack t (and_parts (list_all is_target_byte t) (is_utf8 t) clean).0

pub target_is_text : (t : List ℕ) → is_target t ≡ true → is_utf8 t ≡ true
target_is_text t h =
    let behind = (and_parts (nat_lt 0 (length t)) (nat_le (length t) most_bytes && (list_all is_target_byte t && is_utf8 t)) h).1 in
    let clean = (and_parts (nat_le (length t) most_bytes) (list_all is_target_byte t && is_utf8 t) behind).1 in
    (and_parts (list_all is_target_byte t) (is_utf8 t) clean).1

-- no line has a newline in it
line_is_one : (l : Line) → IsLine l → IsOneLine (line_text l)
line_is_one (obj path digest time) is =
    one_line-append (codes "obj /") (path ++ (32 ∷ (encode_lower digest ++ (32 ∷ time)))) refl
    (one_line-append path (32 ∷ (encode_lower digest ++ (32 ∷ time))) (path_lacks path is.0).1
    (one_line-append (encode_lower digest) (32 ∷ time) (hex_lacks digest).0 (time_lacks time is.1.1).0))
line_is_one (link_line path target time) is =
    one_line-append (codes "sym /") (path ++ (codes " -> " ++ (target ++ (32 ∷ time)))) refl
    (one_line-append path (codes " -> " ++ (target ++ (32 ∷ time))) (path_lacks path is.0).1
    (one_line-append target (32 ∷ time) (target_lacks target is.1.0) (time_lacks time is.1.1).0))
line_is_one (dir path) is = one_line-append (codes "dir /") path refl (path_lacks path is).1

line_good : (path : List ℕ) (c : Content) → IsPathText path → IsContent c → IsLine (line_of path c)
line_good path (File digest) is good = (is, (good, refl))
line_good path (Link target) is good = (is, (good, refl))

owned_again : (path : List ℕ) (c : Content) → is_dropped path ≡ false → owned_by (line_of path c) ≡ record { path = path; content = c } ∷ []
owned_again path (File digest) free = let o : Owned = record { path = path; content = File digest } in ap (λ (b : Bool). cond b [] (o ∷ [])) free
owned_again path (Link target) free = let o : Owned = record { path = path; content = Link target } in ap (λ (b : Bool). cond b [] (o ∷ [])) free

all_owned_again : (os : List Owned) → AllByRecursion IsOwnable os → owned_in (map written_line os) ≡ os
all_owned_again [] h = refl
all_owned_again (o ∷ os) h =
    ap (λ (xs : List Owned). xs ++ owned_in (map written_line os)) (owned_again o.path o.content h.0.free) ∙ ap (λ (xs : List Owned). o ∷ xs) (all_owned_again os h.1)

all_good : (os : List Owned) → AllByRecursion IsOwnable os → AllByRecursion IsLine (map written_line os)
all_good [] h = tt
all_good (o ∷ os) h = (line_good o.path o.content h.0.path h.0.content, all_good os h.1)

all_one : (os : List Owned) → AllByRecursion IsOwnable os → AllByRecursion (λ o. IsOneLine (line_text (written_line o))) os
all_one [] h = tt
all_one (o ∷ os) h = (line_is_one (written_line o) (line_good o.path o.content h.0.path h.0.content), all_one os h.1)

pub read_back : ContentsAreReadBack
read_back os good once =
    let again = all_owned_again os good in
    let are : AreLines (lines (contents_text os)) (map written_line os) = record {
      spelled = lines_of_written os (all_one os good);
      form = all_good os good;
      once = subst (λ (xs : List Owned). AreDistinct (map path_of xs)) (sym again) once;
    } in
    record { ls = map written_line os; are = are; means = sym again }

-- a line's text says one line
pub line_once : (l k : Line) → IsLine l → IsLine k → line_text l ≡ line_text k → owned_by l ≡ owned_by k
line_once (obj p d t) (obj q e u) a b same =
    let rest = append_cancel_left (codes "obj /") (p ++ (32 ∷ (encode_lower d ++ (32 ∷ t)))) (q ++ (32 ∷ (encode_lower e ++ (32 ∷ u)))) same in
    let ends = cut_last (p ++ (32 ∷ encode_lower d)) (q ++ (32 ∷ encode_lower e)) t u (time_lacks t a.1.1).1 (time_lacks u b.1.1).1
    (append_assoc p (32 ∷ encode_lower d) (32 ∷ t) ∙ rest ∙ sym (append_assoc q (32 ∷ encode_lower e) (32 ∷ u))) in
    let middles = cut_last p q (encode_lower d) (encode_lower e) (hex_lacks d).1 (hex_lacks e).1 ends.0 in
    let digests : d ≡ e = (let f : ◌≡◌ {A = Result (List ℕ) _} (Ok d) (Ok e) = sym (decode_of-encode_lower d a.1.0.bytes) ∙ ap decode_of middles.1 ∙ decode_of-encode_lower e b.1.0.bytes in cc) in
    ap (λ (path : List ℕ). unless_dropped (record { path = path; content = File d })) middles.0 ∙ ap (λ (x : List ℕ). unless_dropped (record { path = q; content = File x })) digests
line_once (link_line p d t) (link_line q e u) a b same =
    let rest = append_cancel_left (codes "sym /") (p ++ (codes " -> " ++ (d ++ (32 ∷ t)))) (q ++ (codes " -> " ++ (e ++ (32 ∷ u)))) same in
    let fronts = cut_arrow p q (d ++ (32 ∷ t)) (e ++ (32 ∷ u)) (path_lacks p a.0).0 (path_lacks q b.0).0 rest in
    let ends = cut_last d e t u (time_lacks t a.1.1).1 (time_lacks u b.1.1).1 fronts.1 in
    ap (λ (path : List ℕ). unless_dropped (record { path = path; content = Link d })) fronts.0 ∙ ap (λ (x : List ℕ). unless_dropped (record { path = q; content = Link x })) ends.0
line_once (dir p) (dir q) a b same = refl
line_once (obj p d t) (link_line q e u) a b same = let f : 111 ≡ 115 = ap (λ (l : List ℕ). get_or l 0 0) same in absurd (omega (arith, f))
line_once (obj p d t) (dir q) a b same = let f : 111 ≡ 100 = ap (λ (l : List ℕ). get_or l 0 0) same in absurd (omega (arith, f))
line_once (link_line p d t) (obj q e u) a b same = let f : 115 ≡ 111 = ap (λ (l : List ℕ). get_or l 0 0) same in absurd (omega (arith, f))
line_once (link_line p d t) (dir q) a b same = let f : 115 ≡ 100 = ap (λ (l : List ℕ). get_or l 0 0) same in absurd (omega (arith, f))
line_once (dir p) (obj q e u) a b same = let f : 100 ≡ 111 = ap (λ (l : List ℕ). get_or l 0 0) same in absurd (omega (arith, f))
line_once (dir p) (link_line q e u) a b same = let f : 100 ≡ 115 = ap (λ (l : List ℕ). get_or l 0 0) same in absurd (omega (arith, f))

lines_once : (ls ks : List Line) → AllByRecursion IsLine ls → AllByRecursion IsLine ks → map line_text ls ≡ map line_text ks → owned_in ls ≡ owned_in ks
lines_once [] [] a b e = refl
lines_once [] (k ∷ ks) a b e = absurd (let f : [] ≡ map line_text (k ∷ ks) = e in cc)
lines_once (l ∷ ls) [] a b e = absurd (let f : map line_text (l ∷ ls) ≡ [] = e in cc)
lines_once (l ∷ ls) (k ∷ ks) a b e =
    let both = heads_and_tails (line_text l) (line_text k) (map line_text ls) (map line_text ks) e in
    ap (λ (xs : List Owned). xs ++ owned_in ls) (line_once l k a.0 b.0 both.0) ∙ ap (λ (xs : List Owned). owned_by k ++ xs) (lines_once ls ks a.1 b.1 both.1)

pub one_contents : OneContents
one_contents text a b x y = x.means ∙ lines_once x.ls y.ls x.are.form y.are.form (sym x.are.spelled ∙ y.are.spelled) ∙ sym y.means

-- where the lines up to one are good, it repeats no path
split_good : (ls : List Line) (texts : List (List ℕ)) (at : ℕ) (x : List ℕ) → texts ≡ map line_text ls → AllByRecursion IsLine ls → slice_get texts at ≡ Some x
    → (l : Line) × (front : List Line) × (back : List Line) × (ls ≡ front ++ (l ∷ back)) × (IsLine l × ((x ≡ line_text l) × ((take at texts ≡ map line_text front) × AllByRecursion IsLine front)))
split_good [] [] at x e good there = absurd (cc there)
split_good [] (t ∷ texts) at x e good there = absurd (let f : t ∷ texts ≡ [] = e in cc)
split_good (l ∷ ls) [] at x e good there = absurd (cc there)
split_good (l ∷ ls) (t ∷ texts) zero x e good there =
    let heads = heads_and_tails t (line_text l) texts (map line_text ls) e in
    let same : t ≡ x = (let f : ◌≡◌ {A = Option (List ℕ)} (Some t) (Some x) = there in cc) in
    (l, [], ls, refl, (good.0, (sym same ∙ heads.0, (refl, tt))))
split_good (l ∷ ls) (t ∷ texts) (suc at) x e good there =
    let heads = heads_and_tails t (line_text l) texts (map line_text ls) e in
    let rest = split_good ls texts at x heads.1 good.1 there in (
      rest.0,
      l ∷ rest.1,
      rest.2,
      ap (λ (xs : List Line). l ∷ xs) rest.3,
      (rest.4.0, (rest.4.1.0, (ap (λ (y : List ℕ). y ∷ take at texts) heads.0 ∙ ap (λ (xs : List (List ℕ)). line_text l ∷ xs) rest.4.1.1.0, (good.0, rest.4.1.1.1)))),
    )

pub owned_in-append : (a b : List Line) → owned_in (a ++ b) ≡ owned_in a ++ owned_in b
owned_in-append [] b = refl
owned_in-append (l ∷ a) b = ap (λ (xs : List Owned). owned_by l ++ xs) (owned_in-append a b) ∙ sym (append_assoc (owned_by l) (owned_in a) (owned_in b))

not_again : (xs ys : List (List ℕ)) (p : List ℕ) → AreDistinct (xs ++ ys) → Has xs p → Has ys p → ⊥
not_again [] ys p once a b = a
not_again (x ∷ xs) ys p once (inl e) b = once.0 (subst (λ (q : List ℕ). Has (xs ++ ys) q) (sym e) (has-append_right xs ys p b))
not_again (x ∷ xs) ys p once (inr a) b = not_again xs ys p once.1 a b

repeats_not : (front back : List Line) (l : Line) → AreDistinct (map path_of (owned_in (front ++ (l ∷ back)))) → Repeats front l → ⊥
repeats_not front back l once r =
    let parts : map path_of (owned_in (front ++ (l ∷ back))) ≡ map path_of (owned_in front) ++ map path_of (owned_in (l ∷ back)) =
    ap (map path_of) (owned_in-append front (l ∷ back)) ∙ map-append path_of (owned_in front) (owned_in (l ∷ back)) in
    not_again (map path_of (owned_in front)) (map path_of (owned_in (l ∷ back))) r.0.path
    (subst (λ (ps : List (List ℕ)). AreDistinct ps) parts once) r.2
    (has-map path_of (owned_in (l ∷ back)) r.0 (has-append_left (owned_by l) (owned_in back) r.0 r.1))

good_at_none : (texts : List (List ℕ)) (ls : List Line) (at : ℕ) → AreLines texts ls → IsFaultyLine texts at → ⊥
good_at_none texts ls at are fault =
    let cut = split_good ls texts at fault.here are.spelled are.form fault.there in
    let r : Repeats fault.before cut.0 = fault.bad cut.0 cut.4.0 cut.4.1.0 in
    let same : owned_in fault.before ≡ owned_in cut.1 = lines_once fault.before cut.1 fault.good.form cut.4.1.1.1 (sym fault.good.spelled ∙ cut.4.1.1.0) in
    repeats_not cut.1 cut.2 cut.0 (subst (λ (ks : List Line). AreDistinct (map path_of (owned_in ks))) cut.3 are.once)
    (r.0, r.1, subst (λ (os : List Owned). Has (map path_of os) r.0.path) same r.2)

pub good_has_no_fault : GoodHasNoFault
good_has_no_fault text owned at is fault = good_at_none (lines text) is.ls at is.are fault

get_take : (i j : ℕ) (xs : List (List ℕ)) → i < j → slice_get (take j xs) i ≡ slice_get xs i
get_take i zero xs lt = absurd (omega (arith, lt))
get_take i (suc j) [] lt = refl
get_take zero (suc j) (x ∷ xs) lt = refl
get_take (suc i) (suc j) (x ∷ xs) lt = get_take i j xs (omega (arith, lt))

-- a line before the first faulty one is not faulty
earlier_good : (texts : List (List ℕ)) (i j : ℕ) → i < j → IsFaultyLine texts i → IsFaultyLine texts j → ⊥
earlier_good texts i j lt a b =
    good_at_none (take j texts) b.before i b.good (record {
      before = a.before;
      good = subst (λ (ts : List (List ℕ)). AreLines ts a.before) (sym (take-take i j texts (omega (arith, lt)))) a.good;
      here = a.here;
      there = get_take i j texts lt ∙ a.there;
      bad = a.bad;
    })

pub one_fault : OneFault
one_fault texts i j a b = elim (cases_lt i j) [
  | inl lt ↦ absurd (earlier_good texts i j lt a b)
  | inr ge ↦ elim (cases_lt j i) [ inl lt ↦ absurd (earlier_good texts j i lt b a) | inr le ↦ omega (arith, ge, le) ]
]
