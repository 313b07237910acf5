-- The words of a text that is written are those that it was written from.
use Rattle.std.proofs.Common.{◌≡◌, ◌∙◌, ◌++◌, ◌&&◌, ◌||◌, ◌==◌, ◌+◌, ℕ, arith, true, false, Bool, List, [], ◌∷◌, refl, ap, map, subst, sym}
use Rattle.std.specs.Prelude.{if◌then◌else◌}
use Rattle.std.specs.List.{AllByRecursion, list_all}
use Rattle.std.proofs.lemmas.Bool.Decides.{nat_tests}
use Rattle.basics.specs.Blanks.{is_blank}
use Rattle.basics.proofs.Each.{all_has}
use Rattle.pms_names.specs.Bytes.{begins_badly}
use Rattle.pms_names.specs.Names.{IsName}
use Rattle.pms_names.specs.declared.kind.Kind.TheVariants as kinds
use Rattle.dep_group.specs.Tokens.{IsFlag, IsInForm, tree_words}
use Rattle.dep_group.specs.Words.{Spot, begins_word, is_word, spaced, texts, with_letter, words, words_of}
use Rattle.dep_group.proofs.WordLemmas.{words-word, words_of-spaced}
use Rattle.dep_tree.specs.Grammar as dependencies
use Rattle.dep_group.specs.Trees.{no_trees}
use Rattle.dep_tree.specs.Texts.{AtomTrees, Dependencies}
use Rattle.dep_tree.specs.Texts as dependency_texts
use Rattle.required_use.specs.Grammar as expressions
use Rattle.required_use.specs.Texts.{Expressions}
use Rattle.required_use.specs.Texts as expression_texts
use Rattle.pms_slot.specs.Slots.{slot_text}
use Rattle.pms_slot.proofs.Parted.{printed_says}
use Rattle.use_flags.specs.Items.{flag_of, hyphen, plus}
use Rattle.pkg_state.specs.Eapis.{eapi_text, has_class}
use Rattle.pkg_state.specs.declared.class.Class.{Class}
use Rattle.pkg_state.specs.declared.eapi.Eapi.{Eapi}
use Rattle.pkg_state.specs.declared.eapi.Eapi.TheVariants.{Five, Six, Seven, Eight}
use Rattle.vdb_law.specs.Fields.{AreFlags, AreSlots, needs_text}
use Rattle.vdb_law.proofs.Words.{name_word, slot_word}
use Rattle.vdb_files.specs.Written.{with_newline}
use Rattle.vdb_files.specs.Recorded.{IsFlagSet}

-- ---- a newline at the end

begins_ended : (bs : List ℕ) → begins_word (bs ++ (10 ∷ [])) ≡ begins_word bs
begins_ended [] = refl
begins_ended (b ∷ bs) = refl

words_ended : (at : ℕ) (bs : List ℕ) → words at (bs ++ (10 ∷ [])) ≡ words at bs
words_ended at [] = refl
words_ended at (b ∷ bs) =
    ap (λ (begins : Bool). if is_blank b then words (at + 1) (bs ++ (10 ∷ [])) else with_letter at b begins (words (at + 1) (bs ++ (10 ∷ [])))) (begins_ended bs)
    ∙ ap (λ (ws : List Spot). if is_blank b then ws else with_letter at b (begins_word bs) ws) (words_ended (at + 1) bs)

words_newline : (text : List ℕ) → words_of (with_newline text) ≡ words_of text
words_newline [] = refl
words_newline (b ∷ bs) = ap texts (words_ended 0 (b ∷ bs))

-- words with a space between each two and a newline behind are read back
words_written : (ws : List (List ℕ)) → list_all is_word ws ≡ true → words_of (with_newline (spaced ws)) ≡ ws
words_written ws h = words_newline (spaced ws) ∙ words_of-spaced ws h

-- ---- EAPI

pub eapi_said : (e : Eapi) → words_of (with_newline (eapi_text e)) ≡ eapi_text e ∷ []
eapi_said Five = refl
eapi_said Six = refl
eapi_said Seven = refl
eapi_said Eight = refl

-- ---- SLOT

pub slots_said : (slot subslot : List ℕ) → IsName kinds.Slot slot → IsName kinds.Slot subslot → AreSlots (words_of (with_newline (slot_text slot subslot))) slot subslot
slots_said slot subslot is also = record {
  word = slot_text slot subslot;
  alone = words_newline (slot_text slot subslot) ∙ ap texts (words-word 0 (slot_text slot subslot) (slot_word slot subslot is also));
  says = printed_says slot subslot is also;
}

-- ---- USE and IUSE

flag_words : (ws : List (List ℕ)) → AllByRecursion IsFlag ws → list_all is_word ws ≡ true
flag_words [] all = refl
flag_words (w ∷ ws) all = ap (λ b. b && list_all is_word ws) (name_word kinds.Flag w all.0) ∙ flag_words ws all.1

no_mark : (b : ℕ) → begins_badly kinds.Flag b ≡ false → (b == plus || b == hyphen) ≡ false
no_mark b h = grind (arith, nat_tests)

unmarked : (w : List ℕ) → IsFlag w → flag_of w ≡ w
unmarked [] is = refl
unmarked (b ∷ bs) is = ap (λ (x : Bool). if x then bs else b ∷ bs) (no_mark b is.spelled.begins)

all_unmarked : (ws : List (List ℕ)) → AllByRecursion IsFlag ws → map flag_of ws ≡ ws
all_unmarked [] all = refl
all_unmarked (w ∷ ws) all =
    ap (λ (v : List ℕ). v ∷ map flag_of ws) (unmarked w all.0) ∙ ap (λ (vs : List (List ℕ)). w ∷ vs) (all_unmarked ws all.1)

own_flags : (set : List (List ℕ)) → IsFlagSet set → AreFlags set set
own_flags set is = record { rising = is.rising; each = λ flag has. all_has IsFlag set flag is.names has; members = λ flag. (λ h. h, λ h. h) }

pub flags_said : (set : List (List ℕ)) → IsFlagSet set → AreFlags (words_of (with_newline (spaced set))) set
flags_said set is =
    subst (λ (ws : List (List ℕ)). AreFlags ws set) (sym (words_written set (flag_words set is.names))) (own_flags set is)

pub known_said : (set : List (List ℕ)) → IsFlagSet set → AreFlags (map flag_of (words_of (with_newline (spaced set)))) set
known_said set is =
    subst (λ (ws : List (List ℕ)). AreFlags ws set) (sym (ap (map flag_of) (words_written set (flag_words set is.names)) ∙ all_unmarked set is.names)) (own_flags set is)

-- ---- trees

-- what is written of a class is what is read of it
nothing_written : (e : Eapi) (class : Class) (x : Dependencies) → (has_class e class ≡ false → x.groups ≡ no_trees) → needs_text e class (with_newline (dependency_texts.text_of x)) ≡ with_newline (dependency_texts.text_of x)
nothing_written e class x lacking = go (has_class e class) lacking
  where
    go : (b : Bool) → (b ≡ false → x.groups ≡ no_trees) → (if b then with_newline (dependency_texts.text_of x) else []) ≡ with_newline (dependency_texts.text_of x)
    go true none = refl
    go false none = ap (λ (ts : AtomTrees). with_newline (spaced (tree_words dependencies.grammar ts))) (sym (none refl))

pub needs_said : (e : Eapi) (class : Class) (x : Dependencies) → IsInForm dependencies.grammar dependencies.is_block x.groups → (has_class e class ≡ false → x.groups ≡ no_trees)
    → dependency_texts.WritesAtoms (needs_text e class (with_newline (dependency_texts.text_of x))) x.groups
needs_said e class x form lacking =
    subst (λ (text : List ℕ). dependency_texts.WritesAtoms text x.groups) (sym (nothing_written e class x lacking)) (form, words_written (tree_words dependencies.grammar x.groups) form.words)

pub required_said : (x : Expressions) → IsInForm expressions.grammar expressions.never x.groups → expression_texts.WritesItems (with_newline (expression_texts.text_of x)) x.groups
required_said x form = (form, words_written (tree_words expressions.grammar x.groups) form.words)
