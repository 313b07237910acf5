-- The bytes of which names and versions are made, and those that they lack.
use Rattle.std.proofs.Common.{◌≡◌, ◌∙◌, ℕ, zero, suc, ◌<◌, ◌==◌, true, false, List, [], ◌∷◌, ◌++◌, refl, arith}
use Rattle.std.specs.List.{AllByRecursion, flat_map}
use Rattle.std.specs.Str.{IsAscii}
use Rattle.std.proofs.lemmas.Bool.Decides.{nat_tests}
use Rattle.std.proofs.lemmas.List.Folds.{list_any-append}
use Rattle.basics.specs.Bytes.{is_digit, is_lower}
use Rattle.pms_grammar.specs.Grammar.{AreDigits, IsInteger, IsLetter, SuffixKind, SuffixValue, VersionValue, IsVersion, word, spell_number, spell_suffix, spell_revision, spell_ending, spelling}
use Rattle.pms_grammar.specs.Grammar.SuffixKind.{Alpha, Beta, Pre, Rc, P}
use Rattle.pms_names.specs.declared.kind.Kind.{Kind}
use Rattle.pms_names.specs.declared.kind.Kind.TheVariants.{Category, Package, Slot, Flag}
use Rattle.pms_names.specs.Bytes.{may_contain}
use Rattle.pms_names.specs.Names.{AreNameBytes, IsName}
use Rattle.dep_atom.specs.Cuts.{is_either, Lacks, is_plain}

abbrev pub ArePlain : List ℕ → Type 0
ArePlain bytes = AllByRecursion (λ b. is_plain b ≡ true) bytes

pub plain-append : (xs ys : List ℕ) → ArePlain xs → ArePlain ys → ArePlain (xs ++ ys)
plain-append [] ys h k = k
plain-append (x ∷ xs) ys h k = (h.0, plain-append xs ys h.1 k)

plain_contained : (kind : Kind) (b : ℕ) → may_contain kind b ≡ true → is_plain b ≡ true
plain_contained Category b h = grind (arith, nat_tests)
plain_contained Package b h = grind (arith, nat_tests)
plain_contained Slot b h = grind (arith, nat_tests)
plain_contained Flag b h = grind (arith, nat_tests)

plain_from_bytes : (kind : Kind) (bytes : List ℕ) → AreNameBytes kind bytes → ArePlain bytes
plain_from_bytes kind [] h = tt
plain_from_bytes kind (b ∷ bytes) h = (plain_contained kind b (h 0 (omega arith)), plain_from_bytes kind bytes (λ k within. h (suc k) (omega (arith, within))))

pub plain_name : (kind : Kind) (bytes : List ℕ) → IsName kind bytes → ArePlain bytes
plain_name kind bytes is = plain_from_bytes kind bytes is.spelled.each

plain_digit : (b : ℕ) → is_digit b ≡ true → is_plain b ≡ true
plain_digit b h = grind (arith, nat_tests)

plain_lower : (b : ℕ) → is_lower b ≡ true → is_plain b ≡ true
plain_lower b h = grind (arith, nat_tests)

plain_digits : (ds : List ℕ) → AreDigits ds → ArePlain ds
plain_digits [] h = tt
plain_digits (d ∷ ds) h = (plain_digit d h.0, plain_digits ds h.1)

plain_integer : (ds : List ℕ) → IsInteger ds → ArePlain ds
plain_integer [] h = tt
plain_integer (d ∷ ds) h = (plain_digit d h.0, plain_digits ds h.1)

plain_more : (more : List (List ℕ)) → AllByRecursion IsInteger more → ArePlain (flat_map spell_number more)
plain_more [] h = tt
plain_more (ds ∷ more) h = (refl, plain-append ds (flat_map spell_number more) (plain_integer ds h.0) (plain_more more h.1))

plain_letter : (l : List ℕ) → IsLetter l → ArePlain l
plain_letter [] h = tt
plain_letter (b ∷ []) h = (plain_lower b h, tt)
plain_letter (b ∷ c ∷ bs) h = absurd h

plain_word : (kind : SuffixKind) → ArePlain (word kind)
plain_word Alpha = (refl, (refl, (refl, (refl, (refl, tt)))))
plain_word Beta = (refl, (refl, (refl, (refl, tt))))
plain_word Pre = (refl, (refl, (refl, tt)))
plain_word Rc = (refl, (refl, tt))
plain_word P = (refl, tt)

plain_suffixes : (ss : List SuffixValue) → AllByRecursion (λ (s : SuffixValue). AreDigits s.digits) ss → ArePlain (flat_map spell_suffix ss)
plain_suffixes [] h = tt
plain_suffixes (s ∷ ss) h = plain-append (spell_suffix s) (flat_map spell_suffix ss) (refl, plain-append (word s.kind) s.digits (plain_word s.kind) (plain_digits s.digits h.0)) (plain_suffixes ss h.1)

plain_revision : (r : List ℕ) → AreDigits r → ArePlain (spell_revision r)
plain_revision [] h = tt
plain_revision (d ∷ ds) h = (refl, (refl, (plain_digit d h.0, plain_digits ds h.1)))

pub plain_version : (p : VersionValue) → IsVersion p → ArePlain (spelling p)
plain_version p is =
    plain-append p.first (flat_map spell_number p.more ++ (p.letter ++ spell_ending p.suffixes p.revision)) (plain_integer p.first is.first)
    (plain-append (flat_map spell_number p.more) (p.letter ++ spell_ending p.suffixes p.revision) (plain_more p.more is.more)
    (plain-append p.letter (spell_ending p.suffixes p.revision) (plain_letter p.letter is.letter)
    (plain-append (flat_map spell_suffix p.suffixes) (spell_revision p.revision) (plain_suffixes p.suffixes is.suffixes) (plain_revision p.revision is.revision))))

plain_is_ascii : (b : ℕ) → is_plain b ≡ true → b < 128
plain_is_ascii b h = grind (arith, nat_tests)

pub plain-ascii : (xs : List ℕ) → ArePlain xs → IsAscii xs
plain-ascii [] h i = omega arith
plain-ascii (x ∷ xs) h zero = plain_is_ascii x h.0
plain-ascii (x ∷ xs) h (suc i) = plain-ascii xs h.1 i

pub plain_differs : (b x : ℕ) → is_plain x ≡ false → is_plain b ≡ true → (b == x) ≡ false
plain_differs b x f t = grind (arith, nat_tests)

neither : (b x y : ℕ) → is_plain x ≡ false → is_plain y ≡ false → is_plain b ≡ true → is_either x y b ≡ false
neither b x y f g t = rw (plain_differs b x f t, plain_differs b y g t) refl

pub lacks_plain : (x y : ℕ) (bytes : List ℕ) → is_plain x ≡ false → is_plain y ≡ false → ArePlain bytes → Lacks x y bytes
lacks_plain x y [] f g h = refl
lacks_plain x y (b ∷ bytes) f g h = rw (neither b x y f g h.0) (lacks_plain x y bytes f g h.1)

pub lacks-append : (x y : ℕ) (a b : List ℕ) → Lacks x y a → Lacks x y b → Lacks x y (a ++ b)
lacks-append x y a b h k = list_any-append (is_either x y) a b ∙ rw (h, k) refl
