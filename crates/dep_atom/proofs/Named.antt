-- Names, and what stands behind them: read at the first slash, and at a hyphen.
use Rattle.std.proofs.Common.{◌≡◌, ◌∙◌, ℕ, ◌+◌, ◌<◌, true, List, [], ◌∷◌, ◌++◌, length, get_or, take, drop, refl, sym, ap, subst, arith, length-append, append_assoc}
use Rattle.std.specs.List.{flat_map}
use Rattle.std.proofs.Math.Seq.{take-append_seam, drop-append_seam}
use Rattle.std.proofs.lemmas.List.{drop-drop, get_or-drop}
use Rattle.basics.specs.Bytes.{is_digit}
use Rattle.pms_grammar.specs.Grammar.{IsInteger, IsVersionText, VersionValue, spell_number, spell_ending, spelling}
use Rattle.pms_grammar.proofs.Unique.{cut_once as apart, spelled_once}
use Rattle.pms_version.specs.Limits.{IsReadable}
use Rattle.pms_names.specs.Names.{IsName}
use Rattle.pms_names.specs.declared.kind.Kind.TheVariants as kinds
use Rattle.pms_names.specs.declared.name.Name.{Name}
use Rattle.dep_atom.specs.Cuts.{Lacks, Starts}
use Rattle.dep_atom.specs.Form.{IsNameForm}
use Rattle.dep_atom.specs.Ids.{PartsAt}
use Rattle.dep_atom.specs.Naming.{BeginsNumber, HasNoCategory, IsInCategory, IsNameText, IsNumberAt, IsReadableText, NameThen, PackageThen}
use Rattle.dep_atom.specs.Text.{name_text}
use Rattle.dep_atom.proofs.Cuts.{cut_once}
use Rattle.dep_atom.proofs.Joined.{parts_at_seam, parts_are, cut_at}
use Rattle.dep_atom.proofs.Once.{name_same}
use Rattle.dep_atom.proofs.Plain.{plain_name, lacks_plain}

-- a text that begins with a category comes apart at its first slash
behind_once : (text category rest : List ℕ) (n : Name) (more : List ℕ) → IsInCategory text category rest → IsNameForm n → text ≡ n.category ++ (47 ∷ more) → (category ≡ n.category) × (rest ≡ more)
behind_once text category rest n more is form e =
    let once = cut_once 47 47 category (47 ∷ rest) n.category (47 ∷ more) (lacks_plain 47 47 category refl refl (plain_name kinds.Category category is.named)) (lacks_plain 47 47 n.category refl refl (plain_name kinds.Category n.category form.category)) refl refl (sym is.whole ∙ e) in
    (once.0, ap (drop 1) once.1)

-- what stands before the first slash is the category, where the text begins with one
pub category_once : (text front back category rest : List ℕ) → text ≡ front ++ back → Lacks 47 47 front → Starts 47 47 back → IsInCategory text category rest → front ≡ category
category_once text front back category rest parts lacks starts is = (cut_once 47 47 front back category (47 ∷ rest) lacks (lacks_plain 47 47 category refl refl (plain_name kinds.Category category is.named)) starts refl (sym parts ∙ is.whole)).0

-- a name is written in one way
pub name_is : (m n : Name) → IsNameForm m → IsNameForm n → name_text m ≡ name_text n → m ≡ n
name_is m n is form e =
    let once = behind_once (name_text m) m.category m.«package» n n.«package» (record { named = is.category; whole = refl }) form e in
    name_same m.category m.«package» n once.0 once.1

pub name_in : (text category rest : List ℕ) → IsInCategory text category rest → IsName kinds.Package rest → IsNameText text
name_in text category rest is named = (record { category = category; «package» = rest }, record { category = is.named; «package» = named }, is.whole)

pub package_of : (text category rest : List ℕ) → IsInCategory text category rest → IsNameText text → IsName kinds.Package rest
package_of text category rest is name = subst (λ l. IsName kinds.Package l) (sym (behind_once text category rest name.0 name.0.«package» is name.1 name.2).1) name.1.«package»

pub no_name : (text : List ℕ) → HasNoCategory text → IsNameText text → ⊥
no_name text none name = none name.0.category name.0.«package» (record { named = name.1.category; whole = name.2 })

pub then_in : (P : List ℕ → Type 0) (text category rest : List ℕ) → IsInCategory text category rest → PackageThen P rest → NameThen P text
then_in P text category rest is behind =
    (record { category = category; «package» = behind.0 }, behind.1, record { category = is.named; «package» = behind.2 }, behind.3, is.whole ∙ ap (λ l. category ++ (47 ∷ l)) behind.4 ∙ sym (append_assoc category (47 ∷ behind.0) (45 ∷ behind.1)))

-- what stands behind the slash of a name with more behind it
apart_at_slash : (P : List ℕ → Type 0) (text : List ℕ) (t : NameThen P text) → text ≡ t.0.category ++ (47 ∷ (t.0.«package» ++ (45 ∷ t.1)))
apart_at_slash P text t = t.4 ∙ append_assoc t.0.category (47 ∷ t.0.«package») (45 ∷ t.1)

pub then_of : (P : List ℕ → Type 0) (text category rest : List ℕ) → IsInCategory text category rest → NameThen P text → PackageThen P rest
then_of P text category rest is t =
    let once = behind_once text category rest t.0 (t.0.«package» ++ (45 ∷ t.1)) is t.2 (apart_at_slash P text t) in
    (t.0.«package», t.1, t.2.«package», t.3, once.1)

pub no_then : (P : List ℕ → Type 0) (text : List ℕ) → HasNoCategory text → NameThen P text → ⊥
no_then P text none t = none t.0.category (t.0.«package» ++ (45 ∷ t.1)) (record { named = t.2.category; whole = apart_at_slash P text t })

-- a readable version is one, and each begins with a digit
pub is_version : (text : List ℕ) → IsReadableText text → IsVersionText text
is_version text t = (t.0, t.1.version, t.2)

pub begins_number : (text : List ℕ) → IsVersionText text → BeginsNumber text
begins_number text t = subst BeginsNumber (sym t.2) (first t.0.first (flat_map spell_number t.0.more ++ (t.0.letter ++ spell_ending t.0.suffixes t.0.revision)) t.1.first)
  where
    first : (ds rest : List ℕ) → IsInteger ds → is_digit (get_or (ds ++ rest) 0 0) ≡ true
    first [] rest is = absurd is
    first (d ∷ ds) rest is = is.0

pub weaken : (P Q : List ℕ → Type 0) (text : List ℕ) → ((t : List ℕ) → P t → Q t) → NameThen P text → NameThen Q text
weaken P Q text on t = (t.0, t.1, t.2, on t.1 t.3, t.4)

pub weaken_package : (P Q : List ℕ → Type 0) (text : List ℕ) → ((t : List ℕ) → P t → Q t) → PackageThen P text → PackageThen Q text
weaken_package P Q text on t = (t.0, t.1, t.2, on t.1 t.3, t.4)

pub to_number : (text : List ℕ) → IsReadableText text → BeginsNumber text
to_number text t = begins_number text (is_version text t)

-- no package's name ends in a hyphen and a version
pub no_package_version : (text : List ℕ) → IsName kinds.Package text → PackageThen IsVersionText text → ⊥
no_package_version text named t =
    let at = parts_at_seam t.0 t.1 text t.3 t.4 in
    named.ends (length t.0, at.within, at.hyphen, at.version)

pub no_name_version : (text : List ℕ) → IsNameText text → NameThen IsVersionText text → ⊥
no_name_version text name t =
    let is : IsInCategory text name.0.category name.0.«package» = record { named = name.1.category; whole = name.2 } in
    no_package_version name.0.«package» name.1.«package» (then_of IsVersionText text name.0.category name.0.«package» is t)

-- a hyphen before a version is the one at which the text parts
pub then_at : (P : List ℕ → Type 0) (text : List ℕ) (at : ℕ) → ((t : List ℕ) → P t → IsVersionText t) → PartsAt text at → (t : PackageThen P text) → (take at text ≡ t.0) × (drop (at + 1) text ≡ t.1)
then_at P text at on parts t = parts_are apart text at t.0 t.1 parts (on t.1 t.3) t.4

pub then_seam : (P : List ℕ → Type 0) (text : List ℕ) → ((t : List ℕ) → P t → IsVersionText t) → (t : PackageThen P text) → PartsAt text (length t.0)
then_seam P text on t = parts_at_seam t.0 t.1 text (on t.1 t.3) t.4

-- what a readable version and the text before its hyphen make together comes apart in one way
pub joined_once : (p q : List ℕ) (v w : VersionValue) → IsReadable v → IsReadable w → p ++ (45 ∷ spelling v) ≡ q ++ (45 ∷ spelling w) → (p ≡ q) × (v ≡ w)
joined_once p q v w f g e =
    let once = apart p q (spelling v) (spelling w) (v, f.version, refl) (w, g.version, refl) e in
    (once.0, spelled_once v w f.version g.version once.1)

-- a package's name and a number, by the place of the hyphen between them
pub number_from : (text : List ℕ) (at : ℕ) → IsNumberAt text at → PackageThen BeginsNumber text
number_from text at is = (take at text, drop (at + 1) text, is.named, is.number, cut_at text at is.within is.hyphen)

pub number_at : (text : List ℕ) (t : PackageThen BeginsNumber text) → IsNumberAt text (length t.0)
number_at text t =
    let d : drop (length t.0) text ≡ 45 ∷ t.1 = ap (drop (length t.0)) t.4 ∙ drop-append_seam t.0 (45 ∷ t.1) in
    record {
      within = omega (arith, ap length t.4, length-append t.0 (45 ∷ t.1));
      hyphen = ap (λ n. get_or text n 0) (omega arith) ∙ sym (get_or-drop (length t.0) text 0 0) ∙ ap (λ r. get_or r 0 0) d;
      number = subst BeginsNumber (sym (sym (drop-drop 1 (length t.0) text) ∙ ap (drop 1) d)) t.3;
      named = subst (λ l. IsName kinds.Package l) (sym (ap (take (length t.0)) t.4 ∙ take-append_seam t.0 (45 ∷ t.1))) t.2;
    }
