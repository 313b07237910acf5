-- A text is cut at its first colon or slash in one way, and names and versions have neither.
use denote.Ref.{Bor}
use Rattle.std.proofs.Common.{◌≡◌, ◌∙◌, ◌<◌, ℕ, zero, suc, false, true, Option, None, Some, List, [], ◌∷◌, ◌++◌, refl, sym, ap, arith}
use Rattle.std.proofs.lemmas.Str.Pattern.{IsSplitOnceResult, split_after, split_parts}
use Rattle.pms_names.specs.Names.{IsName}
use Rattle.pms_names.specs.declared.kind.Kind.{Kind}
use Rattle.dep_atom.specs.Cuts.{is_plain}
use Rattle.dep_atom.proofs.Plain.{ArePlain, plain-append, plain_name, plain_version}
use Rattle.dep_atom.specs.Ids.{IsId, id_text, name_and_version}
use Rattle.dep_atom.specs.declared.package.PackageId.{PackageId}
use Rattle.pms_grammar.specs.Grammar.{spelling}
use Rattle.plan_text.specs.Spelled.{Lacks, SplitsAt}

pub splits_at : (c : ℕ) (bs : List ℕ) (r : Option (Bor (List ℕ) × Bor (List ℕ))) → IsSplitOnceResult c bs r → c < 128 → SplitsAt c bs r
splits_at c bs None h low = λ front back lacks e. split_after c bs front back None h low e lacks
splits_at c bs (Some x) h low = ((split_parts c bs (Some x) h low).0, λ front back lacks e. split_after c bs front back (Some x) h low e lacks)

differs : (b x : ℕ) → is_plain x ≡ false → is_plain b ≡ true → b ≡ x → ⊥
differs b x f t e = absurd (let g : true ≡ false = sym t ∙ ap is_plain e ∙ f in cc)

pub lacks_if_plain : (x : ℕ) (bytes : List ℕ) → is_plain x ≡ false → ArePlain bytes → Lacks x bytes
lacks_if_plain x [] f h i lt = absurd (omega (arith, lt))
lacks_if_plain x (b ∷ bytes) f h zero lt = differs b x f h.0
lacks_if_plain x (b ∷ bytes) f h (suc i) lt = lacks_if_plain x bytes f h.1 i (omega (arith, lt))

pub lacks-append : (x : ℕ) (a b : List ℕ) → Lacks x a → Lacks x b → Lacks x (a ++ b)
lacks-append x [] b h k i lt = k i lt
lacks-append x (y ∷ a) b h k zero lt = h 0 (omega arith)
lacks-append x (y ∷ a) b h k (suc i) lt = lacks-append x a b (λ j l. h (suc j) (omega (arith, l))) k i (omega (arith, lt))

pub lacks-cons : (x y : ℕ) (b : List ℕ) → (y ≡ x → ⊥) → Lacks x b → Lacks x (y ∷ b)
lacks-cons x y b h k zero lt = h
lacks-cons x y b h k (suc i) lt = k i (omega (arith, lt))

pub name_lacks : (kind : Kind) (x : ℕ) (name : List ℕ) → is_plain x ≡ false → IsName kind name → Lacks x name
name_lacks kind x name f is = lacks_if_plain x name f (plain_name kind name is)

pub pf_lacks : (x : ℕ) (id : PackageId) → is_plain x ≡ false → IsId id → Lacks x (name_and_version id)
pf_lacks x id f is =
    lacks_if_plain x (name_and_version id) f
    (plain-append id.name.«package» (45 ∷ spelling id.version) (plain_name _ id.name.«package» is.«package») (refl, plain_version id.version is.version.version))

pub id_lacks : (x : ℕ) (id : PackageId) → is_plain x ≡ false → (◌≡◌ {A = ℕ} 47 x → ⊥) → IsId id → Lacks x (id_text id)
id_lacks x id f apart is =
    lacks-append x id.name.category (47 ∷ name_and_version id) (name_lacks _ x id.name.category f is.category) (lacks-cons x 47 (name_and_version id) apart (pf_lacks x id f is))

-- a slash is no colon
pub colon_apart : ◌≡◌ {A = ℕ} 47 58 → ⊥
colon_apart e = omega (arith, e)
