-- Texts whose words are of ASCII, and atoms as such words.
use Rattle.std.proofs.Common.{◌≡◌, ◌<◌, ◌+◌, ℕ, zero, suc, Bool, true, false, List, [], ◌∷◌, ◌++◌, Option, Some, None, refl, arith}
use Rattle.std.specs.Prelude.{nat_lt, if◌then◌else◌}
use Rattle.std.specs.List.{AllByRecursion, flat_map}
use Rattle.std.specs.Str.{IsAscii, IsUtf8}
use Rattle.std.proofs.lemmas.Bool.Decides.{nat_tests}
use Rattle.std.proofs.lemmas.Str.{IsUtf8-from_ascii}
use Rattle.basics.specs.Blanks.{is_blank}
use Rattle.pms_grammar.specs.Grammar.{VersionValue, spelling}
use Rattle.pms_names.specs.Names.{IsName}
use Rattle.pms_names.specs.declared.kind.Kind.{Kind}
use Rattle.pms_names.specs.declared.kind.Kind.TheVariants as kinds
use Rattle.pms_version.specs.Limits.{IsReadable}
use Rattle.dep_atom.specs.Atoms.{IsAtomValue}
use Rattle.dep_atom.specs.Cuts.{is_plain}
use Rattle.dep_atom.specs.Form.{IsSlotForm, IsSubslotForm, IsUseForm, IsVersionForm}
use Rattle.dep_atom.specs.Text.{after_flag, before_flag, block_text, equals_text, further_use_text, name_text, op_text, otherwise_text, slot_text, star_text, subslot_text, use_text, uses_text, value_text, version_part}
use Rattle.dep_atom.specs.Values.{AtomValue}
use Rattle.dep_atom.specs.declared.atom.Block.{Block}
use Rattle.dep_atom.specs.declared.atom.Block.TheVariants.{No, Weak, Strong}
use Rattle.dep_atom.specs.declared.atom.Op.{Op}
use Rattle.dep_atom.specs.declared.atom.Op.TheVariants.{Any, Less, LessEqual, Equal, Similar, GreaterEqual, Greater}
use Rattle.dep_atom.specs.declared.slot.SlotPart.{SlotPart}
use Rattle.dep_atom.specs.declared.slot.SlotPart.TheVariants.{Free, Star, Equals, Given}
use Rattle.dep_atom.specs.declared.uses.UseKind.{UseKind}
use Rattle.dep_atom.specs.declared.uses.UseKind.TheVariants.{On, Off, Same, Opposite, OnIfOn, OffIfOff}
use Rattle.dep_atom.specs.declared.uses.UseDep.{UseDep}
use Rattle.dep_atom.proofs.Plain.{ArePlain, plain_name, plain_version}
use Rattle.dep_group.specs.Words.{Spot, begins_word, texts, with_letter, words}

abbrev pub is_small : ℕ → Bool
is_small b = nat_lt b 128

abbrev pub AreSmall : List ℕ → Type 0
AreSmall bytes = AllByRecursion (λ b. is_small b ≡ true) bytes

pub small-append : (xs ys : List ℕ) → AreSmall xs → AreSmall ys → AreSmall (xs ++ ys)
small-append [] ys h k = k
small-append (x ∷ xs) ys h k = (h.0, small-append xs ys h.1 k)

small_below : (b : ℕ) → is_small b ≡ true → b < 128
small_below b h = grind (arith, nat_tests)

small_ascii : (xs : List ℕ) → AreSmall xs → IsAscii xs
small_ascii [] h i = omega arith
small_ascii (x ∷ xs) h zero = small_below x h.0
small_ascii (x ∷ xs) h (suc i) = small_ascii xs h.1 i

small_blank : (b : ℕ) → is_blank b ≡ true → is_small b ≡ true
small_blank b h = grind (arith, nat_tests)

small_letter : (at b : ℕ) (begins : Bool) (ws : List Spot) → AllByRecursion AreSmall (texts (with_letter at b begins ws)) → (is_small b ≡ true) × AllByRecursion AreSmall (texts ws)
small_letter at' b true [] h = (h.0.0, tt)
small_letter at' b true (w ∷ ws) h = (h.0.0, (h.0.1, h.1))
small_letter at' b false ws h = (h.0.0, h.1)

small_first : (blank : Bool) (from b : ℕ) (bs : List ℕ) → is_blank b ≡ blank
    → AllByRecursion AreSmall (texts (if blank then words (from + 1) bs else with_letter from b (begins_word bs) (words (from + 1) bs)))
    → (is_small b ≡ true) × AllByRecursion AreSmall (texts (words (from + 1) bs))
small_first true from b bs e h = (small_blank b e, h)
small_first false from b bs e h = small_letter from b (begins_word bs) (words (from + 1) bs) h

-- a text whose words are of ASCII is
small_text : (from : ℕ) (text : List ℕ) → AllByRecursion AreSmall (texts (words from text)) → AreSmall text
small_text from [] h = tt
small_text from (b ∷ bs) h =
    let first = small_first (is_blank b) from b bs refl h in
    (first.0, small_text (from + 1) bs first.1)

pub utf8_words : (text : List ℕ) → AllByRecursion AreSmall (texts (words 0 text)) → IsUtf8 text
utf8_words text h = IsUtf8-from_ascii text (small_ascii text (small_text 0 text h))

small_plain_byte : (b : ℕ) → is_plain b ≡ true → is_small b ≡ true
small_plain_byte b h = grind (arith, nat_tests)

small_plain : (bytes : List ℕ) → ArePlain bytes → AreSmall bytes
small_plain [] h = tt
small_plain (b ∷ bytes) h = (small_plain_byte b h.0, small_plain bytes h.1)

pub small_name : (kind : Kind) (bytes : List ℕ) → IsName kind bytes → AreSmall bytes
small_name kind bytes is = small_plain bytes (plain_name kind bytes is)

small_version : (p : VersionValue) → IsReadable p → AreSmall (spelling p)
small_version p is = small_plain (spelling p) (plain_version p is.version)

small_block : (b : Block) → AreSmall (block_text b)
small_block No = tt
small_block Weak = (refl, tt)
small_block Strong = (refl, (refl, tt))

small_op : (o : Op) → AreSmall (op_text o)
small_op Any = tt
small_op Less = (refl, tt)
small_op LessEqual = (refl, (refl, tt))
small_op Equal = (refl, tt)
small_op Similar = (refl, tt)
small_op GreaterEqual = (refl, (refl, tt))
small_op Greater = (refl, tt)

small_part : (o : Op) (v : Option VersionValue) (star : Bool) → IsVersionForm o v star → AreSmall (version_part v)
small_part o None star h = tt
small_part Any (Some v) star h = absurd h
small_part Equal (Some v) star h = (refl, small_version v h)
small_part Less (Some v) star h = (refl, small_version v h.0)
small_part LessEqual (Some v) star h = (refl, small_version v h.0)
small_part Similar (Some v) star h = (refl, small_version v h.0)
small_part GreaterEqual (Some v) star h = (refl, small_version v h.0)
small_part Greater (Some v) star h = (refl, small_version v h.0)

small_star : (b : Bool) → AreSmall (star_text b)
small_star true = (refl, tt)
small_star false = tt

small_equals : (b : Bool) → AreSmall (equals_text b)
small_equals true = (refl, tt)
small_equals false = tt

small_subslot : (s : Option (List ℕ)) → IsSubslotForm s → AreSmall (subslot_text s)
small_subslot None h = tt
small_subslot (Some s) h = (refl, small_name kinds.Slot s h)

small_slot : (s : SlotPart) → IsSlotForm s → AreSmall (slot_text s)
small_slot Free h = tt
small_slot Star h = (refl, (refl, tt))
small_slot Equals h = (refl, (refl, tt))
small_slot (Given slot subslot equals) h =
    (refl, small-append slot (subslot_text subslot ++ equals_text equals) (small_name kinds.Slot slot h.0) (small-append (subslot_text subslot) (equals_text equals) (small_subslot subslot h.1) (small_equals equals)))

small_before : (k : UseKind) → AreSmall (before_flag k)
small_before On = tt
small_before Off = (refl, tt)
small_before Same = tt
small_before Opposite = (refl, tt)
small_before OnIfOn = tt
small_before OffIfOff = (refl, tt)

small_after : (k : UseKind) → AreSmall (after_flag k)
small_after On = tt
small_after Off = tt
small_after Same = (refl, tt)
small_after Opposite = (refl, tt)
small_after OnIfOn = (refl, tt)
small_after OffIfOff = (refl, tt)

small_otherwise : (o : Option Bool) → AreSmall (otherwise_text o)
small_otherwise None = tt
small_otherwise (Some true) = (refl, (refl, (refl, tt)))
small_otherwise (Some false) = (refl, (refl, (refl, tt)))

small_use : (u : UseDep) → IsUseForm u → AreSmall (use_text u)
small_use u h =
    small-append (before_flag u.kind) (u.flag ++ (otherwise_text u.otherwise ++ after_flag u.kind)) (small_before u.kind)
    (small-append u.flag (otherwise_text u.otherwise ++ after_flag u.kind) (small_name kinds.Flag u.flag h)
    (small-append (otherwise_text u.otherwise) (after_flag u.kind) (small_otherwise u.otherwise) (small_after u.kind)))

small_further : (us : List UseDep) → AllByRecursion IsUseForm us → AreSmall (flat_map further_use_text us)
small_further [] h = tt
small_further (u ∷ us) h = (refl, small-append (use_text u) (flat_map further_use_text us) (small_use u h.0) (small_further us h.1))

small_uses : (us : List UseDep) → AllByRecursion IsUseForm us → AreSmall (uses_text us)
small_uses [] h = tt
small_uses (u ∷ us) h =
    (refl, small-append (use_text u) (flat_map further_use_text us ++ (93 ∷ [])) (small_use u h.0) (small-append (flat_map further_use_text us) (93 ∷ []) (small_further us h.1) (refl, tt)))

pub small_atom : (a : AtomValue) → IsAtomValue a → AreSmall (value_text a)
small_atom a is =
    let name = small-append a.name.category (47 ∷ a.name.«package») (small_name kinds.Category a.name.category is.package_form.named.category) (refl, small_name kinds.Package a.name.«package» is.package_form.named.«package») in
    let uses = small-append (slot_text a.slot) (uses_text a.uses) (small_slot a.slot is.slot_form) (small_uses a.uses is.use_forms) in
    let starred = small-append (star_text a.star) (slot_text a.slot ++ uses_text a.uses) (small_star a.star) uses in
    let versioned = small-append (version_part a.version) (star_text a.star ++ (slot_text a.slot ++ uses_text a.uses)) (small_part a.op a.version a.star is.package_form.versioned) starred in
    let named = small-append (name_text a.name) (version_part a.version ++ (star_text a.star ++ (slot_text a.slot ++ uses_text a.uses))) name versioned in
    small-append (block_text a.block) (op_text a.op ++ (name_text a.name ++ (version_part a.version ++ (star_text a.star ++ (slot_text a.slot ++ uses_text a.uses))))) (small_block a.block)
    (small-append (op_text a.op) (name_text a.name ++ (version_part a.version ++ (star_text a.star ++ (slot_text a.slot ++ uses_text a.uses)))) (small_op a.op) named)
