-- A whole atom comes apart in one way.
use Rattle.std.proofs.Common.{◌≡◌, ◌∙◌, ℕ, ◌<◌, Bool, true, false, List, [], ◌∷◌, ◌++◌, Option, Some, None, length, get_or, refl, sym, ap, subst, arith, append_assoc}
use Rattle.pms_grammar.specs.Grammar.{VersionValue, spelling}
use Rattle.pms_names.specs.declared.kind.Kind.TheVariants as kinds
use Rattle.pms_names.specs.declared.name.Name.{Name}
use Rattle.dep_atom.specs.Values.{AtomValue}
use Rattle.dep_atom.specs.declared.atom.Op.{Op}
use Rattle.dep_atom.specs.declared.atom.Op.TheVariants.{Any, Less, LessEqual, Equal, Similar, GreaterEqual, Greater}
use Rattle.dep_atom.specs.declared.atom.Block.{Block}
use Rattle.dep_atom.specs.declared.slot.SlotPart.{SlotPart}
use Rattle.dep_atom.specs.declared.slot.SlotPart.TheVariants.{Free, Star, Equals, Given}
use Rattle.dep_atom.specs.declared.uses.UseDep.{UseDep}
use Rattle.dep_atom.specs.Atoms.{IsAtomValue}
use Rattle.dep_atom.specs.Cuts.{is_plain, Lacks, Starts}
use Rattle.dep_atom.specs.Reading.{block_at, op_at}
use Rattle.dep_atom.specs.Form.{IsNameForm, IsPackageForm, IsSlotForm, IsVersionForm}
use Rattle.dep_atom.specs.Text.{block_text, op_text, name_text, version_part, star_text, subslot_text, equals_text, slot_text, uses_text, value_text}
use Rattle.dep_atom.proofs.Cuts.{cut_once}
use Rattle.dep_atom.proofs.Once.{name_lacks, subslot_lacks}
use Rattle.dep_atom.proofs.Parts.{block_once, op_once, op_is_no_block}
use Rattle.dep_atom.proofs.Plain.{plain_name, plain_version, lacks_plain, lacks-append, ArePlain}

head_plain : (bytes rest : List ℕ) → 0 < length bytes → ArePlain bytes → is_plain (get_or (bytes ++ rest) 0 0) ≡ true
head_plain [] rest some plain = absurd (omega (arith, some))
head_plain (b ∷ bytes) rest some plain = plain.0

pub name_head : (name : Name) (rest : List ℕ) → IsNameForm name → is_plain (get_or (name_text name ++ rest) 0 0) ≡ true
name_head name rest is =
    rw (append_assoc name.category (47 ∷ name.«package») rest) (head_plain name.category (47 ∷ (name.«package» ++ rest)) is.category.spelled.sized.some (plain_name kinds.Category name.category is.category))

version_lacks : (op : Op) (version : Option VersionValue) (star : Bool) → IsVersionForm op version star → Lacks 58 91 (version_part version)
version_lacks op None star is = refl
version_lacks Any (Some v) star is = absurd is
version_lacks Equal (Some v) star is = lacks_plain 58 91 (spelling v) refl refl (plain_version v is.version)
version_lacks Less (Some v) star is = lacks_plain 58 91 (spelling v) refl refl (plain_version v is.0.version)
version_lacks LessEqual (Some v) star is = lacks_plain 58 91 (spelling v) refl refl (plain_version v is.0.version)
version_lacks Similar (Some v) star is = lacks_plain 58 91 (spelling v) refl refl (plain_version v is.0.version)
version_lacks GreaterEqual (Some v) star is = lacks_plain 58 91 (spelling v) refl refl (plain_version v is.0.version)
version_lacks Greater (Some v) star is = lacks_plain 58 91 (spelling v) refl refl (plain_version v is.0.version)

star_lacks : (star : Bool) → Lacks 58 91 (star_text star)
star_lacks true = refl
star_lacks false = refl

equals_lacks : (equals : Bool) → Lacks 91 91 (equals_text equals)
equals_lacks true = refl
equals_lacks false = refl

slot_lacks : (slot : SlotPart) → IsSlotForm slot → Lacks 91 91 (slot_text slot)
slot_lacks Free is = refl
slot_lacks Star is = refl
slot_lacks Equals is = refl
slot_lacks (Given slot subslot equals) is = lacks-append 91 91 slot (subslot_text subslot ++ equals_text equals) (lacks_plain 91 91 slot refl refl (plain_name kinds.Slot slot is.0)) (lacks-append 91 91 (subslot_text subslot) (equals_text equals) (subslot_lacks 91 91 subslot refl refl refl is.1) (equals_lacks equals))

uses_start : (uses : List UseDep) → Starts 91 91 (uses_text uses)
uses_start [] = tt
uses_start (u ∷ uses) = refl

rest_starts : (slot : SlotPart) (uses : List UseDep) → Starts 58 91 (slot_text slot ++ uses_text uses)
rest_starts Free [] = tt
rest_starts Free (u ∷ uses) = refl
rest_starts Star uses = refl
rest_starts Equals uses = refl
rest_starts (Given slot subslot equals) uses = refl

-- what stands between the operator and the slot part
abbrev pub body_text : AtomValue → List ℕ
body_text a = name_text a.name ++ (version_part a.version ++ star_text a.star)

regroup : (n v s r : List ℕ) → n ++ (v ++ (s ++ r)) ≡ (n ++ (v ++ s)) ++ r
regroup n v s r = ap (λ l. n ++ l) (sym (append_assoc v s r)) ∙ sym (append_assoc n (v ++ s) r)

-- what stands behind it
abbrev pub ending : AtomValue → List ℕ
ending a = slot_text a.slot ++ uses_text a.uses

pub record BeginsAs (a : AtomValue) (block : Block) (op : Op) (body behind : List ℕ) : Type 0 where
  pub same_block : block ≡ a.block
  pub same_op : op ≡ a.op
  pub same_body : body ≡ body_text a
  pub same_ending : behind ≡ ending a

pub begins_once : (text behind_block behind_op body behind : List ℕ) (block : Block) (op : Op) (a : AtomValue) → IsAtomValue a → text ≡ block_text block ++ behind_block → block ≡ block_at (get_or text 0 0) (get_or text 1 0) → behind_block ≡ op_text op ++ behind_op → op ≡ op_at (get_or behind_block 0 0) (get_or behind_block 1 0) → behind_op ≡ body ++ behind → Lacks 58 91 body → Starts 58 91 behind → text ≡ value_text a → BeginsAs a block op body behind
begins_once text behind_block behind_op body behind block op a is block_parts block_told op_parts op_told parts lacks starts e =
    let named : List ℕ = name_text a.name ++ (version_part a.version ++ (star_text a.star ++ ending a)) in
    let head : is_plain (get_or named 0 0) ≡ true = name_head a.name (version_part a.version ++ (star_text a.star ++ ending a)) is.package_form.named in
    let one = block_once text behind_block (op_text a.op ++ named) block a.block block_parts block_told (op_is_no_block a.op named head) e in
    let two = op_once behind_block behind_op named op a.op op_parts op_told head one.1 in
    let whole : Lacks 58 91 (body_text a) = lacks-append 58 91 (name_text a.name) (version_part a.version ++ star_text a.star) (name_lacks 58 91 a.name refl refl refl is.package_form.named) (lacks-append 58 91 (version_part a.version) (star_text a.star) (version_lacks a.op a.version a.star is.package_form.versioned) (star_lacks a.star)) in
    let three = cut_once 58 91 body behind (body_text a) (ending a) lacks whole starts (rest_starts a.slot a.uses) (sym parts ∙ two.1 ∙ regroup (name_text a.name) (version_part a.version) (star_text a.star) (ending a)) in
    record { same_block = one.0; same_op = two.0; same_body = three.0; same_ending = three.1 }

pub ends_as_once : (behind slot uses : List ℕ) (a : AtomValue) → IsAtomValue a → behind ≡ slot ++ uses → Lacks 91 91 slot → Starts 91 91 uses → behind ≡ ending a → (slot ≡ slot_text a.slot) × (uses ≡ uses_text a.uses)
ends_as_once behind slot uses a is parts lacks starts e = cut_once 91 91 slot uses (slot_text a.slot) (uses_text a.uses) lacks (slot_lacks a.slot is.slot_form) starts (uses_start a.uses) (sym parts ∙ e)

pub package_form_of : (op : Op) (a : AtomValue) → IsAtomValue a → op ≡ a.op → IsPackageForm op a.name a.version a.star
package_form_of op a is e = subst (λ (o : Op). IsPackageForm o a.name a.version a.star) (sym e) is.package_form

pub joined : (text b behind_block o behind_op body behind n v s slot slot' uses uses' : List ℕ) → text ≡ b ++ behind_block → behind_block ≡ o ++ behind_op → behind_op ≡ body ++ behind → body ≡ n ++ (v ++ s) → behind ≡ slot ++ uses → slot ≡ slot' → uses ≡ uses' → text ≡ b ++ (o ++ (n ++ (v ++ (s ++ (slot' ++ uses')))))
joined text b behind_block o behind_op body behind n v s slot slot' uses uses' e f g h k l m =
    e ∙ ap (λ x. b ++ x) (f ∙ ap (λ x. o ++ x) (g ∙ ap (λ x. x ++ behind) h ∙ ap (λ x. (n ++ (v ++ s)) ++ x) (k ∙ ap (λ x. x ++ uses) l ∙ ap (λ x. slot' ++ x) m) ∙ sym (regroup n v s (slot' ++ uses'))))
