-- The text of no atom has one first fault.
use Rattle.std.proofs.Common.{◌≡◌, ◌∙◌, ◌⊎◌, ℕ, ◌+◌, inl, inr, Bool, true, false, List, [], ◌∷◌, ◌++◌, Option, Some, None, length, get_or, refl, sym, ap, subst, arith, append-nil}
use Rattle.std.specs.List.{AllByRecursion}
use Rattle.std.proofs.lemmas.List.{append_cancel_left, append_cancel_right}
use Rattle.pms_grammar.specs.Grammar.{IsVersionText, VersionValue, spelling}
use Rattle.pms_version.specs.Limits.{IsReadable}
use Rattle.pms_names.specs.declared.name.Name.{Name as FullName}
use Rattle.dep_atom.specs.declared.atom.Op.{Op}
use Rattle.dep_atom.specs.declared.atom.Op.TheVariants.{Any, Less, LessEqual, Equal, Similar, GreaterEqual, Greater}
use Rattle.dep_atom.specs.declared.atom.Block.{Block}
use Rattle.dep_atom.specs.declared.uses.UseDep.{UseDep}
use Rattle.dep_atom.specs.declared.fault.AtomFault.{AtomFault}
use Rattle.dep_atom.specs.declared.fault.AtomFault.TheVariants.{Name, Version, OperatorWithoutVersion, VersionWithoutOperator, BadStar, BadSlot, BadUse, Memory}
use Rattle.dep_atom.specs.Atoms.{IsAtomValue}
use Rattle.dep_atom.specs.Faults.{PlainFault, IsUnstarred, StarredFault, VersionedFault, BodyFault, SlotTextFault, UsesTextFault, Cut, IsBodyText, IsSlotText, FirstFault}
use Rattle.dep_atom.specs.Form.{IsNameForm, IsUseForm, IsVersionForm}
use Rattle.dep_atom.specs.Naming.{BeginsNumber, IsNameText, IsReadableText, NameThen}
use Rattle.dep_atom.specs.Reading.{op_at}
use Rattle.dep_atom.specs.Text.{block_text, op_text, name_text, version_part, star_text, uses_text, value_text}
use Rattle.dep_atom.specs.Values.{AtomValue}
use Rattle.dep_atom.proofs.Cuts.{cut_once}
use Rattle.dep_atom.proofs.Named.{is_version, no_name_version, to_number, weaken}
use Rattle.dep_atom.proofs.Once.{star_end, version_once}
use Rattle.dep_atom.proofs.Whole.{begins_once, ends_as_once, package_form_of}
use Rattle.dep_atom.proofs.Wrong.{wrong_once}

plain_once : (text : List ℕ) (a b : AtomFault) → PlainFault text a → PlainFault text b → (a ≡ Memory → ⊥) → (b ≡ Memory → ⊥) → a ≡ b
plain_once text Memory b f g p q = absurd (p refl)
plain_once text a Memory f g p q = absurd (q refl)
plain_once text Name Name f g p q = refl
plain_once text VersionWithoutOperator VersionWithoutOperator f g p q = refl
plain_once text Name VersionWithoutOperator f g p q = absurd (f.1 g)
plain_once text VersionWithoutOperator Name f g p q = absurd (g.1 f)
plain_once text Version b f g p q = absurd f
plain_once text OperatorWithoutVersion b f g p q = absurd f
plain_once text BadStar b f g p q = absurd f
plain_once text BadSlot b f g p q = absurd f
plain_once text (BadUse m) b f g p q = absurd f
plain_once text a Version f g p q = absurd g
plain_once text a OperatorWithoutVersion f g p q = absurd g
plain_once text a BadStar f g p q = absurd g
plain_once text a BadSlot f g p q = absurd g
plain_once text a (BadUse n) f g p q = absurd g

plain_none : (text : List ℕ) (a : AtomFault) → IsNameText text → PlainFault text a → a ≡ Memory
plain_none text Name is f = absurd (f.0 is)
plain_none text VersionWithoutOperator is f = absurd (no_name_version text is f)
plain_none text Version is f = absurd f
plain_none text OperatorWithoutVersion is f = absurd f
plain_none text BadStar is f = absurd f
plain_none text BadSlot is f = absurd f
plain_none text (BadUse m) is f = absurd f
plain_none text Memory is f = refl

-- a name and a readable version are no name alone, and a name with a number
not_alone : (text : List ℕ) → NameThen IsReadableText text → IsNameText text → ⊥
not_alone text t is = no_name_version text is (weaken IsReadableText IsVersionText text is_version t)

numbered : (text : List ℕ) → NameThen IsReadableText text → NameThen BeginsNumber text
numbered text t = weaken IsReadableText BeginsNumber text to_number t

starred_once : (may : Bool) (text : List ℕ) (star : Bool) (a b : AtomFault) → StarredFault may text star a → StarredFault may text star b → (a ≡ Memory → ⊥) → (b ≡ Memory → ⊥) → a ≡ b
starred_once may text star Memory b f g p q = absurd (p refl)
starred_once may text star a Memory f g p q = absurd (q refl)
starred_once may text star OperatorWithoutVersion OperatorWithoutVersion f g p q = refl
starred_once may text star Version Version f g p q = refl
starred_once may text star Name Name f g p q = refl
starred_once may text star BadStar BadStar f g p q = refl
starred_once may text star OperatorWithoutVersion Version f g p q = absurd (g.0 f)
starred_once may text star OperatorWithoutVersion Name f g p q = absurd (g.0 f)
starred_once may text star OperatorWithoutVersion BadStar f g p q = absurd (not_alone text g.versioned f)
starred_once may text star Version OperatorWithoutVersion f g p q = absurd (f.0 g)
starred_once may text star Version Name f g p q = absurd (g.1 f.1)
starred_once may text star Version BadStar f g p q = absurd (f.2 g.versioned)
starred_once may text star Name OperatorWithoutVersion f g p q = absurd (f.0 g)
starred_once may text star Name Version f g p q = absurd (f.1 g.1)
starred_once may text star Name BadStar f g p q = absurd (f.1 (numbered text g.versioned))
starred_once may text star BadStar OperatorWithoutVersion f g p q = absurd (not_alone text f.versioned g)
starred_once may text star BadStar Version f g p q = absurd (g.2 f.versioned)
starred_once may text star BadStar Name f g p q = absurd (g.1 (numbered text f.versioned))
starred_once may text star VersionWithoutOperator b f g p q = absurd f
starred_once may text star BadSlot b f g p q = absurd f
starred_once may text star (BadUse m) b f g p q = absurd f
starred_once may text star a VersionWithoutOperator f g p q = absurd g
starred_once may text star a BadSlot f g p q = absurd g
starred_once may text star a (BadUse n) f g p q = absurd g

-- a name, a version and an asterisk only where it may stand are in order
starred_none : (may : Bool) (text : List ℕ) (star : Bool) (a : AtomFault) → NameThen IsReadableText text → (may ≡ false → star ≡ false) → StarredFault may text star a → a ≡ Memory
starred_none may text star OperatorWithoutVersion is starred f = absurd (not_alone text is f)
starred_none may text star Version is starred f = absurd (f.2 is)
starred_none may text star Name is starred f = absurd (f.1 (numbered text is))
starred_none may text star BadStar is starred f = let no : star ≡ false = starred f.unasked in let yes : star ≡ true = f.starred in absurd (cc)
starred_none may text star VersionWithoutOperator is starred f = absurd f
starred_none may text star BadSlot is starred f = absurd f
starred_none may text star (BadUse m) is starred f = absurd f
starred_none may text star Memory is starred f = refl

unstarred_once : (text front other : List ℕ) (p q : Bool) → IsUnstarred text front p → IsUnstarred text other q → (front ≡ other) × (p ≡ q)
unstarred_once text front other true true f g = (append_cancel_right front other (42 ∷ []) (sym f.whole ∙ g.whole), refl)
unstarred_once text front other false false f g = (sym (append-nil front) ∙ sym f.whole ∙ g.whole ∙ append-nil other, refl)
unstarred_once text front other true false f g = absurd (g.none refl front f.whole)
unstarred_once text front other false true f g = absurd (f.none refl other g.whole)

versioned_once : (may : Bool) (text : List ℕ) (a b : AtomFault) → VersionedFault may text a → VersionedFault may text b → (a ≡ Memory → ⊥) → (b ≡ Memory → ⊥) → a ≡ b
versioned_once may text a b f g p q =
    let same = unstarred_once text g.front f.front g.star f.star g.unstarred f.unstarred in
    starred_once may f.front f.star a b f.why (subst (λ s. StarredFault may f.front s b) same.1 (subst (λ l. StarredFault may l g.star b) same.0 g.why)) p q

versioned_none : (may : Bool) (text : List ℕ) (a : AtomFault) (n : FullName) (v : VersionValue) (star : Bool) → IsNameForm n → IsReadable v → (may ≡ false → star ≡ false) → text ≡ name_text n ++ (version_part (Some v) ++ star_text star) → VersionedFault may text a → a ≡ Memory
versioned_none may text a n v star named readable starred e f =
    let once = version_once text f.front f.star n (Some v) star named readable (f.unstarred.whole ∙ ap (λ s. f.front ++ s) (star_end f.star)) f.unstarred.none e in
    starred_none may f.front f.star a (n, spelling once.0, named, (once.0, once.2, refl), once.3) (λ no. once.4 ∙ starred no) f.why

body_once : (op : Op) (text : List ℕ) (a b : AtomFault) → BodyFault op text a → BodyFault op text b → (a ≡ Memory → ⊥) → (b ≡ Memory → ⊥) → a ≡ b
body_once Any text a b f g p q = plain_once text a b f g p q
body_once Equal text a b f g p q = versioned_once true text a b f g p q
body_once Less text a b f g p q = versioned_once false text a b f g p q
body_once LessEqual text a b f g p q = versioned_once false text a b f g p q
body_once Similar text a b f g p q = versioned_once false text a b f g p q
body_once GreaterEqual text a b f g p q = versioned_once false text a b f g p q
body_once Greater text a b f g p q = versioned_once false text a b f g p q

true_is_false : {A : Type 0} → true ≡ false → A
true_is_false e = absurd (cc)

body_none : (op : Op) (text : List ℕ) (a : AtomFault) → IsBodyText op text → BodyFault op text a → a ≡ Memory
body_none op text a is f = of op is.1 is.3.versioned is.4 f
  where
    of : (o : Op) (version : Option VersionValue) → IsVersionForm o version is.2 → text ≡ name_text is.0 ++ (version_part version ++ star_text is.2) → BodyFault o text a → a ≡ Memory
    of Any None form e g = plain_none text a (is.0, is.3.named, e ∙ ap (λ s. name_text is.0 ++ star_text s) form ∙ append-nil (name_text is.0)) g
    of Any (Some v) form e g = absurd form
    of Equal None form e g = absurd form
    of Equal (Some v) form e g = versioned_none true text a is.0 v is.2 is.3.named form (λ no. true_is_false no) e g
    of Less None form e g = absurd form
    of Less (Some v) form e g = versioned_none false text a is.0 v is.2 is.3.named form.0 (λ _. form.1) e g
    of LessEqual None form e g = absurd form
    of LessEqual (Some v) form e g = versioned_none false text a is.0 v is.2 is.3.named form.0 (λ _. form.1) e g
    of Similar None form e g = absurd form
    of Similar (Some v) form e g = versioned_none false text a is.0 v is.2 is.3.named form.0 (λ _. form.1) e g
    of GreaterEqual None form e g = absurd form
    of GreaterEqual (Some v) form e g = versioned_none false text a is.0 v is.2 is.3.named form.0 (λ _. form.1) e g
    of Greater None form e g = absurd form
    of Greater (Some v) form e g = versioned_none false text a is.0 v is.2 is.3.named form.0 (λ _. form.1) e g

slot_once : (text : List ℕ) (a b : AtomFault) → SlotTextFault text a → SlotTextFault text b → (a ≡ Memory → ⊥) → (b ≡ Memory → ⊥) → a ≡ b
slot_once text Memory b f g p q = absurd (p refl)
slot_once text a Memory f g p q = absurd (q refl)
slot_once text BadSlot BadSlot f g p q = refl
slot_once text Name b f g p q = absurd f
slot_once text Version b f g p q = absurd f
slot_once text OperatorWithoutVersion b f g p q = absurd f
slot_once text VersionWithoutOperator b f g p q = absurd f
slot_once text BadStar b f g p q = absurd f
slot_once text (BadUse m) b f g p q = absurd f
slot_once text a Name f g p q = absurd g
slot_once text a Version f g p q = absurd g
slot_once text a OperatorWithoutVersion f g p q = absurd g
slot_once text a VersionWithoutOperator f g p q = absurd g
slot_once text a BadStar f g p q = absurd g
slot_once text a (BadUse n) f g p q = absurd g

slot_none : (text : List ℕ) (a : AtomFault) → IsSlotText text → SlotTextFault text a → a ≡ Memory
slot_none text BadSlot is f = absurd (f is.0 is.1 is.2)
slot_none text Name is f = absurd f
slot_none text Version is f = absurd f
slot_none text OperatorWithoutVersion is f = absurd f
slot_none text VersionWithoutOperator is f = absurd f
slot_none text BadStar is f = absurd f
slot_none text (BadUse m) is f = absurd f
slot_none text Memory is f = refl

uses_once : (text uses : List ℕ) (a b : AtomFault) → UsesTextFault text uses a → UsesTextFault text uses b → (a ≡ Memory → ⊥) → (b ≡ Memory → ⊥) → a ≡ b
uses_once text uses Memory b f g p q = absurd (p refl)
uses_once text uses a Memory f g p q = absurd (q refl)
uses_once text uses (BadUse m) (BadUse n) f g p q =
    let same : length f.1.0 ≡ length g.1.0 = ap length (wrong_once uses f.1.0 g.1.0 f.1.2 g.1.2) in
    let place : m ≡ n = omega (arith, f.1.1, g.1.1) in
    ap BadUse place
uses_once text uses Name b f g p q = absurd f
uses_once text uses Version b f g p q = absurd f
uses_once text uses OperatorWithoutVersion b f g p q = absurd f
uses_once text uses VersionWithoutOperator b f g p q = absurd f
uses_once text uses BadStar b f g p q = absurd f
uses_once text uses BadSlot b f g p q = absurd f
uses_once text uses a Name f g p q = absurd g
uses_once text uses a Version f g p q = absurd g
uses_once text uses a OperatorWithoutVersion f g p q = absurd g
uses_once text uses a VersionWithoutOperator f g p q = absurd g
uses_once text uses a BadStar f g p q = absurd g
uses_once text uses a BadSlot f g p q = absurd g

uses_none : (text uses : List ℕ) (a : AtomFault) (us : List UseDep) → AllByRecursion IsUseForm us → uses ≡ uses_text us → UsesTextFault text uses a → a ≡ Memory
uses_none text uses (BadUse m) us forms e f = absurd (f.0 us forms e)
uses_none text uses Name us forms e f = absurd f
uses_none text uses Version us forms e f = absurd f
uses_none text uses OperatorWithoutVersion us forms e f = absurd f
uses_none text uses VersionWithoutOperator us forms e f = absurd f
uses_none text uses BadStar us forms e f = absurd f
uses_none text uses BadSlot us forms e f = absurd f
uses_none text uses Memory us forms e f = refl

-- what stands behind the block, and behind the operator
abbrev pub behind_op : (text : List ℕ) → Cut text → List ℕ
behind_op text c = c.body ++ (c.slot ++ c.uses)

abbrev pub behind_block : (text : List ℕ) → Cut text → List ℕ
behind_block text c = op_text c.op ++ behind_op text c

pub record SameCut (text : List ℕ) (c d : Cut text) : Type 0 where
  pub op : c.op ≡ d.op
  pub body : c.body ≡ d.body
  pub slot : c.slot ≡ d.slot
  pub uses : c.uses ≡ d.uses

same_cut : (text : List ℕ) (c d : Cut text) → SameCut text c d
same_cut text c d =
    let block : d.block ≡ c.block = d.block_told ∙ sym c.block_told in
    let one : behind_block text c ≡ behind_block text d = append_cancel_left (block_text c.block) (behind_block text c) (behind_block text d) (sym c.whole ∙ d.whole ∙ ap (λ (b : Block). block_text b ++ behind_block text d) block) in
    let op : c.op ≡ d.op = c.op_told ∙ ap (λ (x : List ℕ). op_at (get_or x 0 0) (get_or x 1 0)) one ∙ sym d.op_told in
    let two : behind_op text c ≡ behind_op text d = append_cancel_left (op_text c.op) (behind_op text c) (behind_op text d) (one ∙ ap (λ (o : Op). op_text o ++ behind_op text d) (sym op)) in
    let three = cut_once 58 91 c.body (c.slot ++ c.uses) d.body (d.slot ++ d.uses) c.body_lacks d.body_lacks c.slot_starts d.slot_starts two in
    let four = cut_once 91 91 c.slot c.uses d.slot d.uses c.slot_lacks d.slot_lacks c.uses_start d.uses_start three.1 in
    record { op = op; body = three.0; slot = four.0; uses = four.1 }

abbrev pub Because : List ℕ → Op → List ℕ → List ℕ → List ℕ → AtomFault → Type 0
Because text op body slot uses fault = BodyFault op body fault ⊎ (IsBodyText op body × (SlotTextFault slot fault ⊎ (IsSlotText slot × UsesTextFault text uses fault)))

behind_once : (text slot uses : List ℕ) (a b : AtomFault) → SlotTextFault slot a ⊎ (IsSlotText slot × UsesTextFault text uses a) → SlotTextFault slot b ⊎ (IsSlotText slot × UsesTextFault text uses b) → (a ≡ Memory → ⊥) → (b ≡ Memory → ⊥) → a ≡ b
behind_once text slot uses a b (inl f) (inl g) p q = slot_once slot a b f g p q
behind_once text slot uses a b (inl f) (inr g) p q = absurd (p (slot_none slot a g.0 f))
behind_once text slot uses a b (inr f) (inl g) p q = absurd (q (slot_none slot b f.0 g))
behind_once text slot uses a b (inr f) (inr g) p q = uses_once text uses a b f.1 g.1 p q

because_once : (text : List ℕ) (op : Op) (body slot uses : List ℕ) (a b : AtomFault) → Because text op body slot uses a → Because text op body slot uses b → (a ≡ Memory → ⊥) → (b ≡ Memory → ⊥) → a ≡ b
because_once text op body slot uses a b (inl f) (inl g) p q = body_once op body a b f g p q
because_once text op body slot uses a b (inl f) (inr g) p q = absurd (p (body_none op body a g.0 f))
because_once text op body slot uses a b (inr f) (inl g) p q = absurd (q (body_none op body b f.0 g))
because_once text op body slot uses a b (inr f) (inr g) p q = behind_once text slot uses a b f.1 g.1 p q

moved : (text : List ℕ) (c d : Cut text) (fault : AtomFault) → SameCut text c d → Because text c.op c.body c.slot c.uses fault → Because text d.op d.body d.slot d.uses fault
moved text c d fault same why =
    let one : Because text d.op c.body c.slot c.uses fault = subst (λ (o : Op). Because text o c.body c.slot c.uses fault) same.op why in
    let two : Because text d.op d.body c.slot c.uses fault = subst (λ (l : List ℕ). Because text d.op l c.slot c.uses fault) same.body one in
    let three : Because text d.op d.body d.slot c.uses fault = subst (λ (l : List ℕ). Because text d.op d.body l c.uses fault) same.slot two in
    subst (λ (l : List ℕ). Because text d.op d.body d.slot l fault) same.uses three

pub one_atom_fault : (text : List ℕ) (a b : AtomFault) → FirstFault text a → FirstFault text b → (a ≡ Memory → ⊥) → (b ≡ Memory → ⊥) → a ≡ b
one_atom_fault text a b f g p q = because_once text f.cut.op f.cut.body f.cut.slot f.cut.uses a b f.why (moved text g.cut f.cut b (same_cut text g.cut f.cut) g.why) p q

pub no_atom_fault : (text : List ℕ) (a : AtomFault) (atom : AtomValue) → IsAtomValue atom → text ≡ value_text atom → FirstFault text a → a ≡ Memory
no_atom_fault text a atom is e f =
    let c : Cut text = f.cut in
    let begins = begins_once text (behind_block text c) (behind_op text c) c.body (c.slot ++ c.uses) c.block c.op atom is c.whole c.block_told refl c.op_told refl c.body_lacks c.slot_starts e in
    let ends = ends_as_once (c.slot ++ c.uses) c.slot c.uses atom is refl c.slot_lacks c.uses_start begins.same_ending in
    elim f.why [
      | inl w ↦ body_none c.op c.body a (atom.name, atom.version, atom.star, package_form_of c.op atom is begins.same_op, begins.same_body) w
      | inr w ↦ elim w.1 [
        | inl s ↦ slot_none c.slot a (atom.slot, is.slot_form, ends.0) s
        | inr u ↦ uses_none text c.uses a atom.uses is.use_forms ends.1 u.1
      ]
    ]
