-- A name and a version joined by a hyphen, and parted again.
use Rattle.std.proofs.Common.{◌≡◌, ℕ, suc, ◌+◌, ◌<◌, List, ◌∷◌, ◌++◌, length, get_or, take, drop, sym, ◌∙◌, ap, subst, arith, length-append, add-one}
use Rattle.std.proofs.Math.Seq.{drop-append_seam, drop-cons}
use Rattle.std.proofs.lemmas.List.{take-append-drop, drop-drop, get_or-drop}
use Rattle.pms_grammar.specs.Grammar.{IsVersionText, VersionValue}
use Rattle.dep_atom.specs.declared.package.PackageId.{PackageId}
use Rattle.dep_atom.specs.Ids.{PartsAt}

-- what a hyphen parts is what it joins
pub cut_at : (bytes : List ℕ) (at : ℕ) → at < length bytes → get_or bytes at 0 ≡ 45 → bytes ≡ take at bytes ++ (45 ∷ drop (at + 1) bytes)
cut_at bytes at within hyphen =
    let e : drop at bytes ≡ 45 ∷ drop (at + 1) bytes = drop-cons bytes at 0 within ∙ ap (λ b. b ∷ drop (suc at) bytes) hyphen ∙ ap (λ n. 45 ∷ drop n bytes) (sym (add-one at)) in
    sym (take-append-drop at bytes) ∙ ap (λ r. take at bytes ++ r) e

pub parts_at_seam : (p v bytes : List ℕ) → IsVersionText v → bytes ≡ p ++ (45 ∷ v) → PartsAt bytes (length p)
parts_at_seam p v bytes is e =
    let d : drop (length p) bytes ≡ 45 ∷ v = ap (drop (length p)) e ∙ drop-append_seam p (45 ∷ v) in
    record {
      within = omega (arith, ap length e, length-append p (45 ∷ v));
      hyphen = ap (λ n. get_or bytes n 0) (omega arith) ∙ sym (get_or-drop (length p) bytes 0 0) ∙ ap (λ r. get_or r 0 0) d;
      version = subst IsVersionText (sym (sym (drop-drop 1 (length p) bytes) ∙ ap (drop 1) d)) is;
    }

abbrev pub ComesApart : Type 0
ComesApart = (p q v w : List ℕ) → IsVersionText v → IsVersionText w → p ++ (45 ∷ v) ≡ q ++ (45 ∷ w) → (p ≡ q) × (v ≡ w)

pub parts_are : ComesApart → (bytes : List ℕ) (at : ℕ) (p v : List ℕ) → PartsAt bytes at → IsVersionText v → bytes ≡ p ++ (45 ∷ v) → (take at bytes ≡ p) × (drop (at + 1) bytes ≡ v)
parts_are apart bytes at p v parts is e = apart (take at bytes) p (drop (at + 1) bytes) v parts.version is (sym (cut_at bytes at parts.within parts.hyphen) ∙ e)

pub id_same : (category name : List ℕ) (version : VersionValue) (id : PackageId) → category ≡ id.name.category → name ≡ id.name.«package» → version ≡ id.version → ◌≡◌ {A = PackageId} (record { name = record { category = category; «package» = name }; version = version }) id
id_same category name version id ec en ev =
    let one : ◌≡◌ {A = PackageId} (record { name = record { category = category; «package» = name }; version = version }) (record { name = record { category = id.name.category; «package» = name }; version = version }) = ap (λ (x : List ℕ). let r : PackageId = record { name = record { category = x; «package» = name }; version = version } in r) ec in
    let two : ◌≡◌ {A = PackageId} (record { name = record { category = id.name.category; «package» = name }; version = version }) (record { name = record { category = id.name.category; «package» = id.name.«package» }; version = version }) = ap (λ (x : List ℕ). let r : PackageId = record { name = record { category = id.name.category; «package» = x }; version = version } in r) en in
    let three : ◌≡◌ {A = PackageId} (record { name = record { category = id.name.category; «package» = id.name.«package» }; version = version }) id = ap (λ (x : VersionValue). let r : PackageId = record { name = id.name; version = x } in r) ev in
    one ∙ two ∙ three
