-- The order of versions is the order of their keys.
use Rattle.std.specs.Prelude.{Bool, true, false, ◌==◌, if◌then◌else◌, map}
use Rattle.std.specs.List.{AllByRecursion}
use Rattle.std.specs.Ordering.{nat_cmp, ordering_then, ordering_reverse}
use Rattle.std.specs.declared.cmp.Ordering.{Ordering}
use Rattle.std.specs.declared.cmp.Ordering.TheVariants.{Less, Equal, Greater}
use Rattle.std.specs.Cmp.{IsTotalOrder}
use Rattle.std.specs.Cmp.Lexicographic.{slice_cmp}
use Rattle.std.proofs.Common.{◌≡◌, ◌∙◌, ℕ, ◌<◌, ◌≤◌, inl, inr, List, [], ◌∷◌, refl, sym, ap, subst, arith}
use Rattle.std.proofs.lemmas.Bool.{cases_Bool, eqb-true, eqb-false}
use Rattle.std.proofs.lemmas.Bool.Decides.{nat_tests}
use Rattle.std.proofs.lemmas.Cmp.{then_total, on_total, lists_total, nat_cmp_total, nat_list_cmp_total, tied_itself}
use Rattle.pms_grammar.proofs.Bytes.{digit_range}
use Rattle.basics.specs.Bytes.{is_digit}
use Rattle.pms_grammar.specs.Grammar.{IsInteger, SuffixKind, SuffixValue, VersionValue, IsVersion}
use Rattle.pms_grammar.specs.Grammar.SuffixKind.{Alpha, Beta, Pre, Rc, P}
use Rattle.pms_version.specs.Order.{is_empty, decimal, integer_cmp, trim_zeros, later_number_cmp, rank, suffixes_cmp, version_cmp}
use Rattle.pms_version.specs.Keys.{later_key, suffix_key, key_cmp}
use Rattle.basics.proofs.Texts.{then-Equal, nat_cmp-greater}

then-then : (a b c : Ordering) → ordering_then (ordering_then a b) c ≡ ordering_then a (ordering_then b c)
then-then Less b c = refl
then-then Equal b c = refl
then-then Greater b c = refl

nat_less : (a b : ℕ) → a < b → nat_cmp a b ≡ Less
nat_less a b h = grind (arith, nat_tests)

-- what begins with a zero stands below what does not
zero_below : (trimmed : Bool) (xs : List ℕ) (y : ℕ) (ys : List ℕ) → 48 < y → slice_cmp nat_cmp (if trimmed then [] else 48 ∷ xs) (y ∷ ys) ≡ Less
zero_below true xs y ys h = refl
zero_below false xs y ys h = ap (λ o. ordering_then o (slice_cmp nat_cmp xs ys)) (nat_less 48 y h)

zero_above : (trimmed : Bool) (xs : List ℕ) (x : ℕ) (ys : List ℕ) → 48 < x → slice_cmp nat_cmp (x ∷ xs) (if trimmed then [] else 48 ∷ ys) ≡ Greater
zero_above true xs x ys h = refl
zero_above false xs x ys h = ap (λ o. ordering_then o (slice_cmp nat_cmp xs ys)) (nat_cmp-greater x 48 h)

Keyed : List ℕ → List ℕ → Type 0
Keyed a b = later_number_cmp a b ≡ slice_cmp nat_cmp (later_key a) (later_key b)

zero_and_zero : (xs ys : List ℕ) → Keyed (48 ∷ xs) (48 ∷ ys)
unfolding Keyed
zero_and_zero xs ys = refl

zero_and_other : (xs : List ℕ) (y : ℕ) (ys : List ℕ) → (y == 48) ≡ false → 48 < y → Keyed (48 ∷ xs) (y ∷ ys)
unfolding Keyed
zero_and_other xs y ys e h = rw e (zero_below (is_empty (trim_zeros xs)) (trim_zeros xs) y (trim_zeros ys) h)

other_and_zero : (x : ℕ) (xs ys : List ℕ) → (x == 48) ≡ false → 48 < x → Keyed (x ∷ xs) (48 ∷ ys)
unfolding Keyed
other_and_zero x xs ys e h = rw e (zero_above (is_empty (trim_zeros ys)) (trim_zeros xs) x (trim_zeros ys) h)

other_and_other : (x : ℕ) (xs : List ℕ) (y : ℕ) (ys : List ℕ) → (x == 48) ≡ false → (y == 48) ≡ false → Keyed (x ∷ xs) (y ∷ ys)
unfolding Keyed
other_and_other x xs y ys e f = rw (e, f) (sym (then-Equal (integer_cmp (x ∷ xs) (y ∷ ys))))

above_zero : (d : ℕ) → is_digit d ≡ true → (d == 48) ≡ false → 48 < d
above_zero d h e = let range : (48 ≤ d) × (d ≤ 57) = digit_range d h in let ne : d ≡ 48 → ⊥ = eqb-false d 48 e in omega arith

keyed_digits : (x : ℕ) (xs : List ℕ) (y : ℕ) (ys : List ℕ) → is_digit x ≡ true → is_digit y ≡ true → Keyed (x ∷ xs) (y ∷ ys)
keyed_digits x xs y ys h k =
    elim (cases_Bool (x == 48)) [
      | inl e ↦ subst (λ z. Keyed (z ∷ xs) (y ∷ ys)) (sym (eqb-true x 48 e)) (elim (cases_Bool (y == 48)) [
        | inl f ↦ subst (λ z. Keyed (48 ∷ xs) (z ∷ ys)) (sym (eqb-true y 48 f)) (zero_and_zero xs ys)
        | inr f ↦ zero_and_other xs y ys f (above_zero y k f)
      ])
      | inr e ↦ elim (cases_Bool (y == 48)) [
        | inl f ↦ subst (λ z. Keyed (x ∷ xs) (z ∷ ys)) (sym (eqb-true y 48 f)) (other_and_zero x xs ys e (above_zero x h e))
        | inr f ↦ other_and_other x xs y ys e f
      ]
    ]

pub later_keyed : (a b : List ℕ) → IsInteger a → IsInteger b → later_number_cmp a b ≡ slice_cmp nat_cmp (later_key a) (later_key b)
unfolding Keyed
later_keyed [] b h k = absurd h
later_keyed (x ∷ xs) [] h k = absurd k
later_keyed (x ∷ xs) (y ∷ ys) h k = keyed_digits x xs y ys h.0 k.0

more_keyed : (as' bs : List (List ℕ)) → AllByRecursion IsInteger as' → AllByRecursion IsInteger bs → slice_cmp later_number_cmp as' bs ≡ slice_cmp (slice_cmp nat_cmp) (map later_key as') (map later_key bs)
more_keyed [] [] h k = refl
more_keyed [] (b ∷ bs) h k = refl
more_keyed (a ∷ as') [] h k = refl
more_keyed (a ∷ as') (b ∷ bs) h k = ap (λ o. ordering_then o (slice_cmp later_number_cmp as' bs)) (later_keyed a b h.0 k.0) ∙ ap (ordering_then (slice_cmp nat_cmp (later_key a) (later_key b))) (more_keyed as' bs h.1 k.1)

suffixes_keyed : (as' bs : List SuffixValue) → suffixes_cmp as' bs ≡ slice_cmp nat_cmp (suffix_key as') (suffix_key bs)
suffixes_keyed [] [] = refl
suffixes_keyed [] (b ∷ bs) = none_first b.kind
  where
    none_first : (k : SuffixKind) → nat_cmp 4 (rank k) ≡ ordering_then (nat_cmp 4 (rank k)) Less
    none_first Alpha = refl
    none_first Beta = refl
    none_first Pre = refl
    none_first Rc = refl
    none_first P = refl
suffixes_keyed (a ∷ as') [] = none_last a.kind
  where
    none_last : (k : SuffixKind) → nat_cmp (rank k) 4 ≡ ordering_then (nat_cmp (rank k) 4) Greater
    none_last Alpha = refl
    none_last Beta = refl
    none_last Pre = refl
    none_last Rc = refl
    none_last P = refl
suffixes_keyed (a ∷ as') (b ∷ bs) =
    then-then (nat_cmp (rank a.kind) (rank b.kind)) (integer_cmp a.digits b.digits) (suffixes_cmp as' bs)
    ∙ ap (λ o. ordering_then (nat_cmp (rank a.kind) (rank b.kind)) (ordering_then (integer_cmp a.digits b.digits) o)) (suffixes_keyed as' bs)

pub version_keyed : (a b : VersionValue) → IsVersion a → IsVersion b → version_cmp a b ≡ key_cmp a b
version_keyed a b h k = rw (more_keyed a.more b.more h.more k.more, suffixes_keyed a.suffixes b.suffixes)

pub key_cmp_total : IsTotalOrder key_cmp
key_cmp_total =
    let first = on_total (λ (p : VersionValue). decimal p.first) nat_cmp_total in
    let more = on_total (λ (p : VersionValue). map later_key p.more) (lists_total nat_list_cmp_total) in
    let letter = on_total (λ (p : VersionValue). p.letter) nat_list_cmp_total in
    let suffixes = on_total (λ (p : VersionValue). suffix_key p.suffixes) nat_list_cmp_total in
    let revision = on_total (λ (p : VersionValue). decimal p.revision) nat_cmp_total in
    then_total (then_total (then_total (then_total first more) letter) suffixes) revision

pub same_itself : (a : VersionValue) → IsVersion a → version_cmp a a ≡ Equal
same_itself a h = version_keyed a a h h ∙ tied_itself key_cmp_total a

pub turned_round : (a b : VersionValue) → IsVersion a → IsVersion b → version_cmp b a ≡ ordering_reverse (version_cmp a b)
turned_round a b h k = version_keyed b a k h ∙ (key_cmp_total.antisymm b a ∙ ap ordering_reverse (sym (version_keyed a b h k)))

pub rises_on : (a b c : VersionValue) → IsVersion a → IsVersion b → IsVersion c → version_cmp a b ≡ Less → version_cmp b c ≡ Less → version_cmp a c ≡ Less
rises_on a b c h k l e f = version_keyed a c h l ∙ key_cmp_total.trans a b c (sym (version_keyed a b h k) ∙ e) (sym (version_keyed b c k l) ∙ f)

pub equals_alike : (a b c : VersionValue) → IsVersion a → IsVersion b → IsVersion c → version_cmp a b ≡ Equal → version_cmp a c ≡ version_cmp b c
equals_alike a b c h k l e = version_keyed a c h l ∙ (key_cmp_total.congr a b c (sym (version_keyed a b h k) ∙ e) ∙ sym (version_keyed b c k l))
