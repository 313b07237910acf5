-- One more item under a name.
use denote.Ref.{Bor}
use Rattle.std.proofs.Common.{◌≡◌, ◌∙◌, ℕ, Bool, true, false, cond, List, [], ◌∷◌, ◌++◌, Option, Some, None, ap, sym, inl, inr}
use Rattle.std.specs.Prelude.{Vec, bytes_eq}
use Rattle.std.specs.Global.{Global}
use Rattle.std.specs.BTreeMap.{BTreeMap, get_by}
use Rattle.std.specs.Cmp.Lexicographic.{slice_cmp}
use Rattle.std.specs.Option.{option_map_or}
use Rattle.std.specs.Ordering.{nat_cmp}
use Rattle.std.proofs.lemmas.Bool.{cases_Bool}
use Rattle.std.proofs.lemmas.List.{append-nil}
use Rattle.std.proofs.lemmas.Slice.Eq.{bytes_eq-Decides}
use Rattle.pkg_state.specs.Index.{listed, one_under}

abbrev pub found : {T : Type 0} → BTreeMap (Bor (List ℕ)) (Vec T Global) → List ℕ → Option (Vec T Global)
found lists name = get_by (λ k. slice_cmp nat_cmp name k.now) lists

abbrev pub Changes : {T : Type 0} → List ℕ → BTreeMap (Bor (List ℕ)) (Vec T Global) → BTreeMap (Bor (List ℕ)) (Vec T Global) → Option (Vec T Global) → Type 0
Changes name old new w = (q : List ℕ) → found new q ≡ cond (bytes_eq name q) w (found old q)

abbrev pub items_of : {T : Type 0} → Option (Vec T Global) → List T
items_of o = option_map_or (λ v. v.items) o []

pub put_under : {T : Type 0} (name : List ℕ) (old mid new : BTreeMap (Bor (List ℕ)) (Vec T Global)) (list pushed : Vec T Global) (item : T)
    → list.items ≡ listed old name → pushed.items ≡ list.items ++ item ∷ [] → Changes name old mid None → Changes name mid new (Some pushed)
    → (other : List ℕ) → listed new other ≡ listed old other ++ one_under name other item
put_under {T} name old mid new list pushed item is push first second other = elim (cases_Bool (bytes_eq name other)) [
  | inl y ↦ (
      let same : name ≡ other = (bytes_eq-Decides name other).0 y in
      let back : bytes_eq other name ≡ true = (bytes_eq-Decides other name).1 (sym same) in
      ap items_of (second other) ∙ (ap (λ (b : Bool). items_of (cond b (Some pushed) (found mid other))) y
      ∙ (push ∙ (ap (λ (l : List T). l ++ item ∷ []) (is ∙ ap (listed old) same)
      ∙ sym (ap (λ (b : Bool). listed old other ++ cond b (item ∷ []) []) back)))))
  | inr n ↦ (
      let back : bytes_eq other name ≡ false = elim (cases_Bool (bytes_eq other name)) [
        | inl e ↦ absurd (let r : true ≡ false = sym ((bytes_eq-Decides name other).1 (sym ((bytes_eq-Decides other name).0 e))) ∙ n in cc r)
        | inr e ↦ e
      ] in
      ap items_of (second other) ∙ (ap (λ (b : Bool). items_of (cond b (Some pushed) (found mid other))) n
      ∙ (ap items_of (first other) ∙ (ap (λ (b : Bool). items_of (cond b None (found old other))) n
      ∙ (sym (append-nil (listed old other)) ∙ sym (ap (λ (b : Bool). listed old other ++ cond b (item ∷ []) []) back))))))
]
