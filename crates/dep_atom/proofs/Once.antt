-- What is spelled comes apart in one way.
use Rattle.std.proofs.Common.{◌≡◌, ◌∙◌, ℕ, Bool, true, false, List, [], ◌∷◌, ◌++◌, Option, Some, None, ◌==◌, length, get_or, refl, sym, ap, arith, append_assoc, append-nil}
use Rattle.std.proofs.lemmas.Bool.Decides.{nat_tests}
use Rattle.pms_grammar.specs.Grammar.{VersionValue, spelling}
use Rattle.pms_version.specs.Limits.{IsReadable}
use Rattle.pms_names.specs.declared.kind.Kind.TheVariants as kinds
use Rattle.pms_names.specs.Bytes.{begins_badly}
use Rattle.pms_names.specs.Names.{IsName}
use Rattle.pms_names.specs.declared.name.Name.{Name}
use Rattle.dep_atom.specs.declared.uses.UseKind.{UseKind}
use Rattle.dep_atom.specs.declared.uses.UseKind.TheVariants.{On, Off, Same, Opposite, OnIfOn, OffIfOff}
use Rattle.dep_atom.specs.declared.uses.UseDep.{UseDep}
use Rattle.dep_atom.specs.declared.reading.Package.{Package}
use Rattle.dep_atom.specs.Cuts.{is_either, is_plain, Lacks, Starts, end_text}
use Rattle.dep_atom.specs.Reading.{use_kind_at, has_equals, has_question}
use Rattle.dep_atom.specs.Form.{IsNameForm, IsSubslotForm, IsReadableOption}
use Rattle.dep_atom.specs.Text.{name_text, version_part, star_text, subslot_text, equals_text, before_flag, after_flag, otherwise_text, use_text}
use Rattle.dep_atom.proofs.Cuts.{cut_once, ends_once}
use Rattle.dep_atom.proofs.Parts.{kind_once}
use Rattle.dep_atom.proofs.Plain.{plain_name, plain_version, lacks_plain, lacks-append}
use Rattle.pms_slot.specs.Slots.{IsWritten, Writes, slot_value}

pub name_once : (text category rest : List ℕ) (n : Name) → IsNameForm n → text ≡ category ++ rest → Lacks 47 47 category → Starts 47 47 rest → text ≡ name_text n → (category ≡ n.category) × (rest ≡ 47 ∷ n.«package»)
name_once text category rest n is e lacks starts k = cut_once 47 47 category rest n.category (47 ∷ n.«package») lacks (lacks_plain 47 47 n.category refl refl (plain_name kinds.Category n.category is.category)) starts refl (sym e ∙ k)

pub name_same : (category package' : List ℕ) (n : Name) → category ≡ n.category → package' ≡ n.«package» → ◌≡◌ {A = Name} (record { category = category; «package» = package' }) n
name_same category package' n a b =
    let one : ◌≡◌ {A = Name} (record { category = category; «package» = package' }) (record { category = n.category; «package» = package' }) = ap (λ (x : List ℕ). let r : Name = record { category = x; «package» = package' } in r) a in
    let two : ◌≡◌ {A = Name} (record { category = n.category; «package» = package' }) n = ap (λ (x : List ℕ). let r : Name = record { category = n.category; «package» = x } in r) b in
    one ∙ two

-- a name lacks the bytes that none contains and that are no slash
pub name_lacks : (x y : ℕ) (n : Name) → is_plain x ≡ false → is_plain y ≡ false → is_either x y 47 ≡ false → IsNameForm n → Lacks x y (name_text n)
name_lacks x y n p q slash is =
    lacks-append x y n.category (47 ∷ n.«package») (lacks_plain x y n.category p q (plain_name kinds.Category n.category is.category)) (rw slash (lacks_plain x y n.«package» p q (plain_name kinds.Package n.«package» is.«package»)))

readable_some : (o : Option VersionValue) → IsReadableOption o → (v : VersionValue) × (o ≡ Some v) × IsReadable v
readable_some None h = absurd h
readable_some (Some v) h = (v, refl, h)

pub star_end : (b : Bool) → star_text b ≡ end_text 42 b
star_end true = refl
star_end false = refl

equals_end : (b : Bool) → equals_text b ≡ end_text 61 b
equals_end true = refl
equals_end false = refl

pub version_once : (text front : List ℕ) (p : Bool) (name : Name) (version : Option VersionValue) (star : Bool) → IsNameForm name → IsReadableOption version → text ≡ front ++ end_text 42 p → (p ≡ false → (f : List ℕ) → text ≡ f ++ (42 ∷ []) → ⊥) → text ≡ name_text name ++ (version_part version ++ star_text star) → (v : VersionValue) × (version ≡ Some v) × IsReadable v × (front ≡ name_text name ++ (45 ∷ spelling v)) × (p ≡ star)
version_once text front p name version star named readable e none k =
    let some = readable_some version readable in
    let v : VersionValue = some.0 in
    let whole : text ≡ (name_text name ++ (45 ∷ spelling v)) ++ end_text 42 star = k ∙ ap (λ o. name_text name ++ (version_part o ++ star_text star)) some.1 ∙ sym (append_assoc (name_text name) (45 ∷ spelling v) (star_text star)) ∙ ap (λ s. (name_text name ++ (45 ∷ spelling v)) ++ s) (star_end star) in
    let lacks : Lacks 42 42 (name_text name ++ (45 ∷ spelling v)) = lacks-append 42 42 (name_text name) (45 ∷ spelling v) (name_lacks 42 42 name refl refl refl named) (lacks_plain 42 42 (spelling v) refl refl (plain_version v some.2.version)) in
    let once = ends_once 42 text front (name_text name ++ (45 ∷ spelling v)) p star e none lacks whole in
    (v, some.1, some.2, once.0, once.1)

pub subslot_lacks : (x y : ℕ) (s : Option (List ℕ)) → is_plain x ≡ false → is_plain y ≡ false → is_either x y 47 ≡ false → IsSubslotForm s → Lacks x y (subslot_text s)
subslot_lacks x y None p q slash is = refl
subslot_lacks x y (Some s) p q slash is = rw slash (lacks_plain x y s p q (plain_name kinds.Slot s is))

joined : (slot : List ℕ) (s : Option (List ℕ)) → slot_value slot s ≡ slot ++ subslot_text s
joined slot None = sym (append-nil slot)
joined slot (Some s) = refl

written : (s : Option (List ℕ)) → IsSubslotForm s → IsWritten s
written None is = tt
written (Some s) is = is

-- what stands before the equals sign writes the slot and the subslot
pub slot_once : (text front : List ℕ) (p : Bool) (slot : List ℕ) (subslot : Option (List ℕ)) (equals : Bool) → IsName kinds.Slot slot → IsSubslotForm subslot → text ≡ front ++ end_text 61 p → (p ≡ false → (f : List ℕ) → text ≡ f ++ (61 ∷ []) → ⊥) → text ≡ slot ++ (subslot_text subslot ++ equals_text equals) → Writes front slot subslot × (p ≡ equals)
slot_once text front p slot subslot equals named sub e none k =
    let whole : text ≡ (slot ++ subslot_text subslot) ++ end_text 61 equals = k ∙ sym (append_assoc slot (subslot_text subslot) (equals_text equals)) ∙ ap (λ s. (slot ++ subslot_text subslot) ++ s) (equals_end equals) in
    let plain = plain_name kinds.Slot slot named in
    let ends = ends_once 61 text front (slot ++ subslot_text subslot) p equals e none (lacks-append 61 61 slot (subslot_text subslot) (lacks_plain 61 61 slot refl refl plain) (subslot_lacks 61 61 subslot refl refl refl sub)) whole in
    (record { named = named; form = written subslot sub; spelled = ends.0 ∙ sym (joined slot subslot) }, ends.1)

-- an item without the signs at its end
abbrev pub use_front : UseDep → List ℕ
use_front u = before_flag u.kind ++ (u.flag ++ otherwise_text u.otherwise)

after_parts : (kind : UseKind) → after_flag kind ≡ end_text 63 (has_question kind) ++ end_text 61 (has_equals kind)
after_parts On = refl
after_parts Off = refl
after_parts Same = refl
after_parts Opposite = refl
after_parts OnIfOn = refl
after_parts OffIfOff = refl

regroup : (b f o x y : List ℕ) → b ++ (f ++ (o ++ (x ++ y))) ≡ ((b ++ (f ++ o)) ++ x) ++ y
regroup b f o x y = sym (append_assoc (b ++ (f ++ o)) x y ∙ append_assoc b (f ++ o) (x ++ y) ∙ ap (λ l. b ++ l) (append_assoc f o (x ++ y)))

use_text_parts : (u : UseDep) → use_text u ≡ (use_front u ++ end_text 63 (has_question u.kind)) ++ end_text 61 (has_equals u.kind)
use_text_parts u = ap (λ a. before_flag u.kind ++ (u.flag ++ (otherwise_text u.otherwise ++ a))) (after_parts u.kind) ∙ regroup (before_flag u.kind) u.flag (otherwise_text u.otherwise) (end_text 63 (has_question u.kind)) (end_text 61 (has_equals u.kind))

before_lacks_61 : (kind : UseKind) → Lacks 61 61 (before_flag kind)
before_lacks_61 On = refl
before_lacks_61 Off = refl
before_lacks_61 Same = refl
before_lacks_61 Opposite = refl
before_lacks_61 OnIfOn = refl
before_lacks_61 OffIfOff = refl

before_lacks_63 : (kind : UseKind) → Lacks 63 63 (before_flag kind)
before_lacks_63 On = refl
before_lacks_63 Off = refl
before_lacks_63 Same = refl
before_lacks_63 Opposite = refl
before_lacks_63 OnIfOn = refl
before_lacks_63 OffIfOff = refl

otherwise_lacks_61 : (o : Option Bool) → Lacks 61 61 (otherwise_text o)
otherwise_lacks_61 None = refl
otherwise_lacks_61 (Some true) = refl
otherwise_lacks_61 (Some false) = refl

otherwise_lacks_63 : (o : Option Bool) → Lacks 63 63 (otherwise_text o)
otherwise_lacks_63 None = refl
otherwise_lacks_63 (Some true) = refl
otherwise_lacks_63 (Some false) = refl

question_lacks : (b : Bool) → Lacks 61 61 (end_text 63 b)
question_lacks true = refl
question_lacks false = refl

front_lacks : (x : ℕ) (u : UseDep) → is_plain x ≡ false → IsName kinds.Flag u.flag → Lacks x x (before_flag u.kind) → Lacks x x (otherwise_text u.otherwise) → Lacks x x (use_front u)
front_lacks x u p is b o = lacks-append x x (before_flag u.kind) (u.flag ++ otherwise_text u.otherwise) b (lacks-append x x u.flag (otherwise_text u.otherwise) (lacks_plain x x u.flag p p (plain_name kinds.Flag u.flag is)) o)

pub signs_once : (item first front : List ℕ) (p q : Bool) (u : UseDep) → IsName kinds.Flag u.flag → item ≡ first ++ end_text 61 p → (p ≡ false → (f : List ℕ) → item ≡ f ++ (61 ∷ []) → ⊥) → first ≡ front ++ end_text 63 q → (q ≡ false → (f : List ℕ) → first ≡ f ++ (63 ∷ []) → ⊥) → item ≡ use_text u → (front ≡ use_front u) × (p ≡ has_equals u.kind) × (q ≡ has_question u.kind)
signs_once item first front p q u is e none d nothing k =
    let one = ends_once 61 item first (use_front u ++ end_text 63 (has_question u.kind)) p (has_equals u.kind) e none (lacks-append 61 61 (use_front u) (end_text 63 (has_question u.kind)) (front_lacks 61 u refl is (before_lacks_61 u.kind) (otherwise_lacks_61 u.otherwise)) (question_lacks (has_question u.kind))) (k ∙ use_text_parts u) in
    let two = ends_once 63 first front (use_front u) q (has_question u.kind) d nothing (front_lacks 63 u refl is (before_lacks_63 u.kind) (otherwise_lacks_63 u.otherwise)) one.0 in
    (two.0, one.1, two.1)

pub one_sign : (kind : UseKind) → has_equals kind ≡ true → has_question kind ≡ true → ⊥
one_sign On h k = cc
one_sign Off h k = cc
one_sign Same h k = cc
one_sign Opposite h k = cc
one_sign OnIfOn h k = cc
one_sign OffIfOff h k = cc

well_begun : (b x : ℕ) → is_plain x ≡ false → begins_badly kinds.Flag b ≡ false → (b == x) ≡ false
well_begun b x p h = grind (arith, nat_tests)

no_hyphen : (b : ℕ) → begins_badly kinds.Flag b ≡ false → (b == 45) ≡ false
no_hyphen b h = grind (arith, nat_tests)

flag_head : (flag rest : List ℕ) → IsName kinds.Flag flag → ((get_or (flag ++ rest) 0 0 == 33) ≡ false) × ((get_or (flag ++ rest) 0 0 == 45) ≡ false)
flag_head [] rest is = absurd (omega (arith, is.spelled.sized.some))
flag_head (b ∷ flag) rest is = (well_begun b 33 refl is.spelled.begins, no_hyphen b is.spelled.begins)

otherwise_starts : (o : Option Bool) → Starts 40 40 (otherwise_text o)
otherwise_starts None = tt
otherwise_starts (Some true) = refl
otherwise_starts (Some false) = refl

pub use_once : (front rest flag tail : List ℕ) (got : UseKind) (p q : Bool) (u : UseDep) → IsName kinds.Flag u.flag → (front ≡ use_front u) × (p ≡ has_equals u.kind) × (q ≡ has_question u.kind) → front ≡ before_flag got ++ rest → got ≡ use_kind_at (get_or front 0 0) p q → rest ≡ flag ++ tail → Lacks 40 40 flag → Starts 40 40 tail → (got ≡ u.kind) × (flag ≡ u.flag) × (tail ≡ otherwise_text u.otherwise)
use_once front rest flag tail got p q u is signs parts told cut lacks starts =
    let head = flag_head u.flag (otherwise_text u.otherwise) is in
    let same : got ≡ use_kind_at (get_or front 0 0) (has_equals u.kind) (has_question u.kind) = told ∙ ap (λ b. use_kind_at (get_or front 0 0) b q) signs.1 ∙ ap (λ b. use_kind_at (get_or front 0 0) (has_equals u.kind) b) signs.2 in
    let kind = kind_once front rest (u.flag ++ otherwise_text u.otherwise) got u.kind parts same head.0 head.1 signs.0 in
    let flags = cut_once 40 40 flag tail u.flag (otherwise_text u.otherwise) lacks (lacks_plain 40 40 u.flag refl refl (plain_name kinds.Flag u.flag is)) starts (otherwise_starts u.otherwise) (sym cut ∙ kind.1) in
    (kind.0, flags.0, flags.1)

pub otherwise_once : (o r : Option Bool) → otherwise_text o ≡ otherwise_text r → o ≡ r
otherwise_once None None e = refl
otherwise_once None (Some true) e = absurd (omega (arith, ap length e))
otherwise_once None (Some false) e = absurd (omega (arith, ap length e))
otherwise_once (Some true) None e = absurd (omega (arith, ap length e))
otherwise_once (Some false) None e = absurd (omega (arith, ap length e))
otherwise_once (Some true) (Some true) e = refl
otherwise_once (Some true) (Some false) e = absurd (omega (arith, ap (λ l. get_or l 1 0) e))
otherwise_once (Some false) (Some true) e = absurd (omega (arith, ap (λ l. get_or l 1 0) e))
otherwise_once (Some false) (Some false) e = refl

pub use_same : (flag : List ℕ) (kind : UseKind) (otherwise : Option Bool) (u : UseDep) → flag ≡ u.flag → kind ≡ u.kind → otherwise ≡ u.otherwise → ◌≡◌ {A = UseDep} (record { flag = flag; kind = kind; otherwise = otherwise }) u
use_same flag kind otherwise u a b c =
    let one : ◌≡◌ {A = UseDep} (record { flag = flag; kind = kind; otherwise = otherwise }) (record { flag = u.flag; kind = kind; otherwise = otherwise }) = ap (λ (x : List ℕ). let r : UseDep = record { flag = x; kind = kind; otherwise = otherwise } in r) a in
    let two : ◌≡◌ {A = UseDep} (record { flag = u.flag; kind = kind; otherwise = otherwise }) (record { flag = u.flag; kind = u.kind; otherwise = otherwise }) = ap (λ (x : UseKind). let r : UseDep = record { flag = u.flag; kind = x; otherwise = otherwise } in r) b in
    let three : ◌≡◌ {A = UseDep} (record { flag = u.flag; kind = u.kind; otherwise = otherwise }) u = ap (λ (x : Option Bool). let r : UseDep = record { flag = u.flag; kind = u.kind; otherwise = x } in r) c in
    one ∙ two ∙ three

pub star_refused : (star may p : Bool) → p ≡ true → may ≡ false → (may ≡ false → star ≡ false) → p ≡ star → ⊥
star_refused star may p t f none e = let s : star ≡ false = none f in cc

pub package_same : (name : Name) (version : Option VersionValue) (star : Bool) (p : Package) → name ≡ p.name → version ≡ p.version → star ≡ p.star → ◌≡◌ {A = Package} (record { name = name; version = version; star = star }) p
package_same name version star p a b c =
    let one : ◌≡◌ {A = Package} (record { name = name; version = version; star = star }) (record { name = p.name; version = version; star = star }) = ap (λ (x : Name). let r : Package = record { name = x; version = version; star = star } in r) a in
    let two : ◌≡◌ {A = Package} (record { name = p.name; version = version; star = star }) (record { name = p.name; version = p.version; star = star }) = ap (λ (x : Option VersionValue). let r : Package = record { name = p.name; version = x; star = star } in r) b in
    let three : ◌≡◌ {A = Package} (record { name = p.name; version = p.version; star = star }) p = ap (λ (x : Bool). let r : Package = record { name = p.name; version = p.version; star = x } in r) c in
    one ∙ two ∙ three

-- a whole item holds no comma and no bracket
pub use_lacks : (u : UseDep) → IsName kinds.Flag u.flag → Lacks 44 93 (use_text u)
use_lacks u is = lacks-append 44 93 (before_flag u.kind) (u.flag ++ (otherwise_text u.otherwise ++ after_flag u.kind)) (before u.kind) (lacks-append 44 93 u.flag (otherwise_text u.otherwise ++ after_flag u.kind) (lacks_plain 44 93 u.flag refl refl (plain_name kinds.Flag u.flag is)) (lacks-append 44 93 (otherwise_text u.otherwise) (after_flag u.kind) (otherwise u.otherwise) (after u.kind)))
  where
    before : (kind : UseKind) → Lacks 44 93 (before_flag kind)
    before On = refl
    before Off = refl
    before Same = refl
    before Opposite = refl
    before OnIfOn = refl
    before OffIfOff = refl

    after : (kind : UseKind) → Lacks 44 93 (after_flag kind)
    after On = refl
    after Off = refl
    after Same = refl
    after Opposite = refl
    after OnIfOn = refl
    after OffIfOff = refl

    otherwise : (o : Option Bool) → Lacks 44 93 (otherwise_text o)
    otherwise None = refl
    otherwise (Some true) = refl
    otherwise (Some false) = refl
