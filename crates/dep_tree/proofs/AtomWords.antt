-- An atom is one word, and is read as no other part of a tree; so is a condition on a flag.
use Rattle.std.specs.Prelude.{not, bytes_eq, if◌then◌else◌, Option, Some, None}
use Rattle.std.specs.List.{AllByRecursion, flat_map, list_any}
use Rattle.std.proofs.Common.{◌≡◌, ◌∙◌, ℕ, zero, suc, ◌-◌, ◌<◌, ◌==◌, ◌&&◌, ◌||◌, Bool, true, false, List, [], ◌∷◌, ◌++◌, length, get_or, refl, sym, ap, arith, append_assoc}
use Rattle.std.proofs.lemmas.Bool.Decides.{nat_tests}
use Rattle.std.proofs.lemmas.Grind.{common_steps}
use Rattle.std.proofs.lemmas.List.Folds.{list_any-append}
use Rattle.std.proofs.lemmas.Slice.Eq.{bytes_eq-Decides}
use Rattle.pms_grammar.specs.Grammar.{VersionValue, spelling}
use Rattle.pms_names.specs.Names.{IsName}
use Rattle.pms_names.specs.declared.kind.Kind.TheVariants as kinds
use Rattle.pms_names.specs.declared.name.Name.{Name}
use Rattle.dep_atom.specs.declared.atom.Block.{Block}
use Rattle.dep_atom.specs.declared.atom.Block.TheVariants.{No, Weak, Strong}
use Rattle.dep_atom.specs.declared.atom.Op.{Op}
use Rattle.dep_atom.specs.declared.atom.Op.TheVariants.{Any, Less, LessEqual, Equal, Similar, GreaterEqual, Greater}
use Rattle.dep_atom.specs.declared.slot.SlotPart.{SlotPart}
use Rattle.dep_atom.specs.declared.slot.SlotPart.TheVariants.{Free, Star, Equals, Given}
use Rattle.dep_atom.specs.declared.uses.UseKind.{UseKind}
use Rattle.dep_atom.specs.declared.uses.UseKind.TheVariants.{On, Off, Same, Opposite, OnIfOn, OffIfOff}
use Rattle.dep_atom.specs.declared.uses.UseDep.{UseDep}
use Rattle.dep_atom.specs.Atoms.{IsAtomValue}
use Rattle.dep_atom.specs.Cuts.{is_plain}
use Rattle.dep_atom.specs.Form.{IsNameForm, IsSubslotForm, IsSlotForm, IsUseForm, IsVersionForm}
use Rattle.dep_atom.specs.Text.{block_text, op_text, name_text, version_part, star_text, subslot_text, equals_text, slot_text, before_flag, after_flag, otherwise_text, use_text, further_use_text, uses_text, value_text}
use Rattle.dep_atom.specs.Values.{AtomValue}
use Rattle.dep_atom.proofs.Plain.{ArePlain, plain_name, plain_version, plain_differs}
use Rattle.dep_group.specs.declared.shape.Shape.TheVariants as shapes
use Rattle.dep_group.specs.Shapes.{asks, condition, denies, has_parenthesis, is_parenthesis, question_mark, shape}
use Rattle.dep_group.specs.Words.{is_word}
use Rattle.dep_group.proofs.FormLemmas.{IsWritten}
use Rattle.dep_group.proofs.OnceLemmas.{OneMark}
use Rattle.dep_group.specs.Tokens.{IsFlag}
use Rattle.dep_tree.specs.Grammar.{blocks, grammar, is_block}
use Rattle.std.proofs.lemmas.Bool.{and_parts, both_ways, not-true, or_right}
use Rattle.basics.specs.Blanks.{is_blank}

abbrev Are : (ℕ → Bool) → List ℕ → Type 0
Are p bytes = AllByRecursion (λ b. p b ≡ true) bytes

are-append : (p : ℕ → Bool) (xs ys : List ℕ) → Are p xs → Are p ys → Are p (xs ++ ys)
are-append p [] ys h k = k
are-append p (x ∷ xs) ys h k = (h.0, are-append p xs ys h.1 k)

abbrev is_letter : ℕ → Bool
is_letter b = not (is_blank b)

-- what stands in an atom outside its brackets, and inside them
abbrev is_outer : ℕ → Bool
is_outer b = is_letter b && (not (is_parenthesis b) && (not (b == 91) && not (b == 63)))

abbrev is_inner : ℕ → Bool
is_inner b = is_letter b && not (b == 93)

outer_plain : (bytes : List ℕ) → ArePlain bytes → Are is_outer bytes
outer_plain [] h = tt
outer_plain (b ∷ bytes) h =
    (rw (plain_differs b 32 refl h.0, plain_differs b 9 refl h.0, plain_differs b 10 refl h.0, plain_differs b 13 refl h.0, plain_differs b 40 refl h.0, plain_differs b 41 refl h.0, plain_differs b 91 refl h.0, plain_differs b 63 refl h.0) refl, outer_plain bytes h.1)

inner_plain : (bytes : List ℕ) → ArePlain bytes → Are is_inner bytes
inner_plain [] h = tt
inner_plain (b ∷ bytes) h = (rw (plain_differs b 32 refl h.0, plain_differs b 9 refl h.0, plain_differs b 10 refl h.0, plain_differs b 13 refl h.0, plain_differs b 93 refl h.0) refl, inner_plain bytes h.1)

block_outer : (b : Block) → Are is_outer (block_text b)
block_outer No = tt
block_outer Weak = (refl, tt)
block_outer Strong = (refl, (refl, tt))

op_outer : (o : Op) → Are is_outer (op_text o)
op_outer Any = tt
op_outer Less = (refl, tt)
op_outer LessEqual = (refl, (refl, tt))
op_outer Equal = (refl, tt)
op_outer Similar = (refl, tt)
op_outer GreaterEqual = (refl, (refl, tt))
op_outer Greater = (refl, tt)

name_outer : (n : Name) → IsNameForm n → Are is_outer (name_text n)
name_outer n h = are-append is_outer n.category (47 ∷ n.«package») (outer_plain n.category (plain_name kinds.Category n.category h.category)) (refl, outer_plain n.«package» (plain_name kinds.Package n.«package» h.«package»))

version_outer : (op : Op) (version : Option VersionValue) (star : Bool) → IsVersionForm op version star → Are is_outer (version_part version)
version_outer op None star h = tt
version_outer Any (Some v) star h = absurd h
version_outer Equal (Some v) star h = (refl, outer_plain (spelling v) (plain_version v h.version))
version_outer Less (Some v) star h = (refl, outer_plain (spelling v) (plain_version v h.0.version))
version_outer LessEqual (Some v) star h = (refl, outer_plain (spelling v) (plain_version v h.0.version))
version_outer Similar (Some v) star h = (refl, outer_plain (spelling v) (plain_version v h.0.version))
version_outer GreaterEqual (Some v) star h = (refl, outer_plain (spelling v) (plain_version v h.0.version))
version_outer Greater (Some v) star h = (refl, outer_plain (spelling v) (plain_version v h.0.version))

star_outer : (star : Bool) → Are is_outer (star_text star)
star_outer true = (refl, tt)
star_outer false = tt

subslot_outer : (s : Option (List ℕ)) → IsSubslotForm s → Are is_outer (subslot_text s)
subslot_outer None h = tt
subslot_outer (Some s) h = (refl, outer_plain s (plain_name kinds.Slot s h))

equals_outer : (equals : Bool) → Are is_outer (equals_text equals)
equals_outer true = (refl, tt)
equals_outer false = tt

slot_outer : (s : SlotPart) → IsSlotForm s → Are is_outer (slot_text s)
slot_outer Free h = tt
slot_outer Star h = (refl, (refl, tt))
slot_outer Equals h = (refl, (refl, tt))
slot_outer (Given slot subslot equals) h =
    (refl, are-append is_outer slot (subslot_text subslot ++ equals_text equals) (outer_plain slot (plain_name kinds.Slot slot h.0)) (are-append is_outer (subslot_text subslot) (equals_text equals) (subslot_outer subslot h.1) (equals_outer equals)))

before_inner : (kind : UseKind) → Are is_inner (before_flag kind)
before_inner On = tt
before_inner Off = (refl, tt)
before_inner Same = tt
before_inner Opposite = (refl, tt)
before_inner OnIfOn = tt
before_inner OffIfOff = (refl, tt)

after_inner : (kind : UseKind) → Are is_inner (after_flag kind)
after_inner On = tt
after_inner Off = tt
after_inner Same = (refl, tt)
after_inner Opposite = (refl, tt)
after_inner OnIfOn = (refl, tt)
after_inner OffIfOff = (refl, tt)

otherwise_inner : (o : Option Bool) → Are is_inner (otherwise_text o)
otherwise_inner None = tt
otherwise_inner (Some true) = (refl, (refl, (refl, tt)))
otherwise_inner (Some false) = (refl, (refl, (refl, tt)))

use_inner : (u : UseDep) → IsUseForm u → Are is_inner (use_text u)
use_inner u h =
    are-append is_inner (before_flag u.kind) (u.flag ++ (otherwise_text u.otherwise ++ after_flag u.kind)) (before_inner u.kind)
    (are-append is_inner u.flag (otherwise_text u.otherwise ++ after_flag u.kind) (inner_plain u.flag (plain_name kinds.Flag u.flag h))
    (are-append is_inner (otherwise_text u.otherwise) (after_flag u.kind) (otherwise_inner u.otherwise) (after_inner u.kind)))

others_inner : (us : List UseDep) → AllByRecursion IsUseForm us → Are is_inner (flat_map further_use_text us)
others_inner [] h = tt
others_inner (u ∷ us) h = are-append is_inner (further_use_text u) (flat_map further_use_text us) (refl, use_inner u h.0) (others_inner us h.1)

-- what stands before the brackets
abbrev front : AtomValue → List ℕ
front a = block_text a.block ++ (op_text a.op ++ (name_text a.name ++ (version_part a.version ++ (star_text a.star ++ slot_text a.slot))))

front_outer : (a : AtomValue) → IsAtomValue a → Are is_outer (front a)
front_outer a h =
    are-append is_outer (block_text a.block) (op_text a.op ++ (name_text a.name ++ (version_part a.version ++ (star_text a.star ++ slot_text a.slot)))) (block_outer a.block)
    (are-append is_outer (op_text a.op) (name_text a.name ++ (version_part a.version ++ (star_text a.star ++ slot_text a.slot))) (op_outer a.op)
    (are-append is_outer (name_text a.name) (version_part a.version ++ (star_text a.star ++ slot_text a.slot)) (name_outer a.name h.package_form.named)
    (are-append is_outer (version_part a.version) (star_text a.star ++ slot_text a.slot) (version_outer a.op a.version a.star h.package_form.versioned)
    (are-append is_outer (star_text a.star) (slot_text a.slot) (star_outer a.star) (slot_outer a.slot h.slot_form)))))

regroup : (b o n v s l u : List ℕ) → b ++ (o ++ (n ++ (v ++ (s ++ (l ++ u))))) ≡ (b ++ (o ++ (n ++ (v ++ (s ++ l))))) ++ u
regroup b o n v s l u =
    ap (λ r. b ++ (o ++ (n ++ (v ++ r)))) (sym (append_assoc s l u))
    ∙ ap (λ r. b ++ (o ++ (n ++ r))) (sym (append_assoc v (s ++ l) u))
    ∙ ap (λ r. b ++ (o ++ r)) (sym (append_assoc n (v ++ (s ++ l)) u))
    ∙ ap (λ r. b ++ r) (sym (append_assoc o (n ++ (v ++ (s ++ l))) u))
    ∙ sym (append_assoc b (o ++ (n ++ (v ++ (s ++ l)))) u)

parted : (a : AtomValue) → value_text a ≡ front a ++ uses_text a.uses
parted a = regroup (block_text a.block) (op_text a.op) (name_text a.name) (version_part a.version) (star_text a.star) (slot_text a.slot) (uses_text a.uses)

outer_no_parenthesis : (b : ℕ) → is_outer b ≡ true → is_parenthesis b ≡ false
outer_no_parenthesis b h = not-true (is_parenthesis b) (and_parts _ _ (and_parts _ _ h).1).0

outer_no_bracket : (b : ℕ) → is_outer b ≡ true → (b == 91) ≡ false
outer_no_bracket b h = not-true (b == 91) (and_parts _ _ (and_parts _ _ (and_parts _ _ h).1).1).0

outer_no_question : (b : ℕ) → is_outer b ≡ true → (b == 63) ≡ false
outer_no_question b h = not-true (b == 63) (and_parts (not (b == 91)) (not (b == 63)) (and_parts (not (is_parenthesis b)) (not (b == 91) && not (b == 63)) (and_parts (is_letter b) (not (is_parenthesis b) && (not (b == 91) && not (b == 63))) h).1).1).1

outside : (xs ys : List ℕ) → Are is_outer xs → has_parenthesis false (xs ++ ys) ≡ has_parenthesis false ys
outside [] ys h = refl
outside (x ∷ xs) ys h = rw (outer_no_parenthesis x h.0, outer_no_bracket x h.0) (outside xs ys h.1)

inside : (xs ys : List ℕ) → Are is_inner xs → has_parenthesis true (xs ++ ys) ≡ has_parenthesis true ys
inside [] ys h = refl
inside (x ∷ xs) ys h = ap (λ b. has_parenthesis b (xs ++ ys)) (or_right (x == 91) (not (x == 93)) (and_parts _ _ h.0).1) ∙ inside xs ys h.1

uses_quiet : (us : List UseDep) → AllByRecursion IsUseForm us → has_parenthesis false (uses_text us) ≡ false
uses_quiet [] h = refl
uses_quiet (u ∷ us) h = inside (use_text u) (flat_map further_use_text us ++ (93 ∷ [])) (use_inner u h.0) ∙ inside (flat_map further_use_text us) (93 ∷ []) (others_inner us h.1)

get-end : (xs : List ℕ) (b : ℕ) → get_or (xs ++ b ∷ []) (length xs) 0 ≡ b
get-end [] b = refl
get-end (x ∷ xs) b = get-end xs b

asks-end : (xs : List ℕ) (b : ℕ) → asks (xs ++ b ∷ []) ≡ (b == 63)
asks-end xs b =
    let last : length (xs ++ b ∷ []) - 1 ≡ length xs = grind (arith, common_steps) in
    ap (λ n. get_or (xs ++ b ∷ []) n 0 == 63) last ∙ ap (λ c. c == 63) (get-end xs b)

no_question : (bytes : List ℕ) (k : ℕ) → Are is_outer bytes → (get_or bytes k 0 == 63) ≡ false
no_question [] k h = refl
no_question (b ∷ bytes) zero h = outer_no_question b h.0
no_question (b ∷ bytes) (suc k) h = no_question bytes k h.1

-- an atom ends in no question mark
uses_ask : (xs : List ℕ) (us : List UseDep) → Are is_outer xs → asks (xs ++ uses_text us) ≡ false
uses_ask xs [] h = no_question (xs ++ []) (length (xs ++ []) - 1) (are-append is_outer xs [] h tt)
uses_ask xs (u ∷ us) h =
    ap asks (ap (λ r. xs ++ (91 ∷ r)) (sym (append_assoc (use_text u) (flat_map further_use_text us) (93 ∷ []))) ∙ sym (append_assoc xs (91 ∷ (use_text u ++ flat_map further_use_text us)) (93 ∷ [])))
    ∙ asks-end (xs ++ (91 ∷ (use_text u ++ flat_map further_use_text us))) 93

abbrev HasPlain : List ℕ → Type 0
HasPlain bytes = list_any is_plain bytes ≡ true

plain_left : (xs ys : List ℕ) → HasPlain xs → HasPlain (xs ++ ys)
plain_left xs ys h = list_any-append is_plain xs ys ∙ ap (λ b. b || list_any is_plain ys) h

plain_right : (xs ys : List ℕ) → HasPlain ys → HasPlain (xs ++ ys)
plain_right xs ys h = list_any-append is_plain xs ys ∙ or_right (list_any is_plain xs) (list_any is_plain ys) h

some_plain : (bytes : List ℕ) → 0 < length bytes → ArePlain bytes → HasPlain bytes
some_plain [] some h = absurd (omega (arith, some))
some_plain (b ∷ bytes) some h = ap (λ r. r || list_any is_plain bytes) h.0

name_plain : (kind : _) (bytes : List ℕ) → IsName kind bytes → HasPlain bytes
name_plain kind bytes h = some_plain bytes h.spelled.sized.some (plain_name kind bytes h)

-- no word without a plain byte is this one
not_one : (w c : List ℕ) → HasPlain w → list_any is_plain c ≡ false → bytes_eq w c ≡ false
not_one w c h k = go (bytes_eq w c) refl
  where
    go : (r : Bool) → bytes_eq w c ≡ r → bytes_eq w c ≡ false
    go false e = e
    go true e = let d = bytes_eq-Decides w c in absurd (both_ways (list_any is_plain w) (ap (list_any is_plain) (d.0 e) ∙ k) h)

item_chosen : (a b c d e f g n : Bool) → a ≡ false → b ≡ false → c ≡ false → d ≡ false → e ≡ false → f ≡ false → g ≡ false → (if a then shapes.Opens else if b then shapes.Closes else if c then shapes.Glued else if d then shapes.AnyOf else if e then shapes.ExactlyOne else if f then shapes.AtMostOne else if g then shapes.When n else shapes.Item) ≡ shapes.Item
item_chosen a b c d e f g n ha hb hc hd he hf hg = rw (ha, hb, hc, hd, he, hf, hg) refl

when_chosen : (a b c d e f g n on : Bool) → a ≡ false → b ≡ false → c ≡ false → d ≡ false → e ≡ false → f ≡ false → g ≡ true → n ≡ on → (if a then shapes.Opens else if b then shapes.Closes else if c then shapes.Glued else if d then shapes.AnyOf else if e then shapes.ExactlyOne else if f then shapes.AtMostOne else if g then shapes.When n else shapes.Item) ≡ shapes.When on
when_chosen a b c d e f g n on ha hb hc hd he hf hg hn = rw (ha, hb, hc, hd, he, hf, hg, hn) refl

item : (w : List ℕ) → HasPlain w → has_parenthesis false w ≡ false → asks w ≡ false → shape true w ≡ shapes.Item
item w h quiet ask = item_chosen _ _ _ _ _ _ _ _ (not_one w (40 ∷ []) h refl) (not_one w (41 ∷ []) h refl) quiet (not_one w (124 ∷ 124 ∷ []) h refl) (not_one w (94 ∷ 94 ∷ []) h refl) (not_one w (63 ∷ 63 ∷ []) h refl) ask

asking : (w : List ℕ) (on : Bool) → HasPlain w → has_parenthesis false w ≡ false → asks w ≡ true → not (denies w) ≡ on → shape true w ≡ shapes.When on
asking w on h quiet ask deny = when_chosen _ _ _ _ _ _ _ _ on (not_one w (40 ∷ []) h refl) (not_one w (41 ∷ []) h refl) quiet (not_one w (124 ∷ 124 ∷ []) h refl) (not_one w (94 ∷ 94 ∷ []) h refl) (not_one w (63 ∷ 63 ∷ []) h refl) ask deny

value_plain : (a : AtomValue) → IsAtomValue a → HasPlain (value_text a)
value_plain a h =
    let others = version_part a.version ++ (star_text a.star ++ (slot_text a.slot ++ uses_text a.uses)) in
    plain_right (block_text a.block) (op_text a.op ++ (name_text a.name ++ others))
    (plain_right (op_text a.op) (name_text a.name ++ others)
    (plain_left (name_text a.name) others (plain_left a.name.category (47 ∷ a.name.«package») (name_plain kinds.Category a.name.category h.package_form.named.category))))

atom_shape : (a : AtomValue) → IsAtomValue a → shape true (value_text a) ≡ shapes.Item
atom_shape a h =
    item (value_text a) (value_plain a h)
    (ap (has_parenthesis false) (parted a) ∙ outside (front a) (uses_text a.uses) (front_outer a h) ∙ uses_quiet a.uses h.use_forms)
    (ap asks (parted a) ∙ uses_ask (front a) a.uses (front_outer a h))

outer_letters : (bytes : List ℕ) → Are is_outer bytes → Are is_letter bytes
outer_letters [] h = tt
outer_letters (b ∷ bytes) h = ((and_parts _ _ h.0).0, outer_letters bytes h.1)

inner_letters : (bytes : List ℕ) → Are is_inner bytes → Are is_letter bytes
inner_letters [] h = tt
inner_letters (b ∷ bytes) h = ((and_parts _ _ h.0).0, inner_letters bytes h.1)

uses_letters : (us : List UseDep) → AllByRecursion IsUseForm us → Are is_letter (uses_text us)
uses_letters [] h = tt
uses_letters (u ∷ us) h = (
  refl,
  are-append is_letter (use_text u) (flat_map further_use_text us ++ (93 ∷ [])) (inner_letters (use_text u) (use_inner u h.0))
      (are-append is_letter (flat_map further_use_text us) (93 ∷ []) (inner_letters (flat_map further_use_text us) (others_inner us h.1)) (refl, tt)),
)

letters_word : (b : ℕ) (bytes : List ℕ) → Are is_letter (b ∷ bytes) → is_word (b ∷ bytes) ≡ true
letters_word b [] h = h.0
letters_word b (c ∷ bytes) h = ap (λ r. r && is_word (c ∷ bytes)) h.0 ∙ letters_word c bytes h.1

some_word : (bytes : List ℕ) → HasPlain bytes → Are is_letter bytes → is_word bytes ≡ true
some_word [] h k = absurd (cc)
some_word (b ∷ bytes) h k = letters_word b bytes k

atom_word : (a : AtomValue) → IsAtomValue a → is_word (value_text a) ≡ true
atom_word a h =
    ap is_word (parted a)
    ∙ some_word (front a ++ uses_text a.uses) (ap (list_any is_plain) (sym (parted a)) ∙ value_plain a h)
    (are-append is_letter (front a) (uses_text a.uses) (outer_letters (front a) (front_outer a h)) (uses_letters a.uses h.use_forms))

flag_outer : (flag : List ℕ) → IsFlag flag → Are is_outer flag
flag_outer flag h = outer_plain flag (plain_name kinds.Flag flag h)

-- a flag does not begin with an exclamation mark
flag_denies : (flag rest : List ℕ) → ArePlain flag → HasPlain flag → denies (flag ++ rest) ≡ false
flag_denies [] rest h k = absurd (cc)
flag_denies (b ∷ flag) rest h k = plain_differs b 33 refl h.0

condition_shape : (flag : List ℕ) (on : Bool) → IsFlag flag → shape true (condition flag on) ≡ shapes.When on
condition_shape flag true h =
    let plain = name_plain kinds.Flag flag h in
    asking (flag ++ question_mark ∷ []) true (plain_left flag (question_mark ∷ []) plain) (outside flag (question_mark ∷ []) (flag_outer flag h)) (asks-end flag question_mark) (ap not (flag_denies flag (question_mark ∷ []) (plain_name kinds.Flag flag h) plain))
condition_shape flag false h =
    let plain = name_plain kinds.Flag flag h in
    asking (33 ∷ (flag ++ question_mark ∷ [])) false (plain_right (33 ∷ []) (flag ++ question_mark ∷ []) (plain_left flag (question_mark ∷ []) plain)) (outside flag (question_mark ∷ []) (flag_outer flag h)) (asks-end (33 ∷ flag) question_mark) refl

condition_word : (flag : List ℕ) (on : Bool) → IsFlag flag → is_word (condition flag on) ≡ true
condition_word flag true h =
    some_word (flag ++ question_mark ∷ []) (plain_left flag (question_mark ∷ []) (name_plain kinds.Flag flag h)) (are-append is_letter flag (question_mark ∷ []) (outer_letters flag (flag_outer flag h)) (refl, tt))
condition_word flag false h = letters_word 33 (flag ++ question_mark ∷ []) (refl, are-append is_letter flag (question_mark ∷ []) (outer_letters flag (flag_outer flag h)) (refl, tt))

-- atoms and conditions on flags are words of their shapes
pub is_written : IsWritten grammar
is_written = record { leaf_shape = atom_shape; leaf_word = atom_word; condition_shape = condition_shape; condition_word = condition_word }

block_denies : (block : Block) (rest : List ℕ) → denies rest ≡ false → denies (block_text block ++ rest) ≡ blocks block
block_denies No rest h = h
block_denies Weak rest h = refl
block_denies Strong rest h = refl

op_denies : (op : Op) (rest : List ℕ) → denies rest ≡ false → denies (op_text op ++ rest) ≡ false
op_denies Any rest h = h
op_denies Less rest h = refl
op_denies LessEqual rest h = refl
op_denies Equal rest h = refl
op_denies Similar rest h = refl
op_denies GreaterEqual rest h = refl
op_denies Greater rest h = refl

-- an exclamation mark tells a block
block_told : (a : AtomValue) → IsAtomValue a → denies (value_text a) ≡ is_block a
block_told a h =
    let others = version_part a.version ++ (star_text a.star ++ (slot_text a.slot ++ uses_text a.uses)) in
    let category = h.package_form.named.category in
    block_denies a.block (op_text a.op ++ (name_text a.name ++ others))
    (op_denies a.op (name_text a.name ++ others)
    (ap denies (append_assoc a.name.category (47 ∷ a.name.«package») others)
    ∙ flag_denies a.name.category ((47 ∷ a.name.«package») ++ others) (plain_name kinds.Category a.name.category category) (name_plain kinds.Category a.name.category category)))

-- atoms with one text are blocks alike
pub blocks_alike : OneMark grammar is_block
blocks_alike a b h k e = sym (block_told a h) ∙ ap denies e ∙ block_told b k
