-- The text of a package is cut at its slash.
use denote.Ref.{Bor}
use Rattle.std.proofs.Common.{◌≡◌, ◌∙◌, ◌<◌, ◌||◌, ◌==◌, ℕ, Bool, false, true, Option, MatchOption, List, length, get_or, eq-eqb, lit<, refl, sym}
use Rattle.std.proofs.lemmas.Bool.{true≢false}
use Rattle.std.proofs.lemmas.List.Folds.{list_any_at}
use Rattle.std.proofs.lemmas.Str.Pattern.{IsSplitOnceResult, split_after}
use Rattle.pms_names.specs.declared.kind.Kind.TheVariants.{Category}
use Rattle.dep_atom.specs.Cuts.{Lacks, is_either}
use Rattle.dep_atom.specs.Ids.{IsId, id_text, name_and_version}
use Rattle.dep_atom.specs.declared.package.PackageId.{PackageId}
use Rattle.dep_atom.proofs.Plain.{lacks_plain, plain_name}

both_same : (b : Bool) → b ≡ true → (b || b) ≡ true
both_same true e = refl
both_same false e = absurd (cc e)

no_slash : (id : PackageId) → IsId id → (i : ℕ) → i < length id.name.category → get_or id.name.category i 0 ≡ 47 → ⊥
no_slash id is i lt e =
    let lacks : Lacks 47 47 id.name.category = lacks_plain 47 47 id.name.category refl refl (plain_name Category id.name.category is.category) in
    true≢false (sym (list_any_at (is_either 47 47) id.name.category i 0 lt (both_same (get_or id.name.category i 0 == 47) (eq-eqb (get_or id.name.category i 0) 47 e))) ∙ lacks)

-- the text of a package is cut at its slash into the category and the rest
pub at_slash : (text : List ℕ) (id : PackageId) → IsId id → text ≡ id_text id → (r : Option (Bor (List ℕ) × Bor (List ℕ))) → IsSplitOnceResult 47 text r
    → MatchOption r ⊥ (λ x. (x.0.now ≡ id.name.category) × (x.1.now ≡ name_and_version id))
at_slash text id is e r clause = split_after 47 text id.name.category (name_and_version id) r clause (lit< tt) e (no_slash id is)
