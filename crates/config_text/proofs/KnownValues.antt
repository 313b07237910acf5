-- One more value that is known.
use Rattle.std.proofs.Common.{◌≡◌, ◌∙◌, ◌+◌, ◌<◌, ℕ, Bool, true, false, cond, List, [], ◌∷◌, ◌++◌, length, take, get_or, Option, Some, ap, inl, inr, refl, sym, subst}
use Rattle.std.specs.Prelude.{Vec, bytes_eq, unwrap_or}
use Rattle.std.specs.BTreeMap.{BTreeMap, get_by, is_at}
use Rattle.std.specs.Cmp.{eq_by_cmp_equiv}
use Rattle.std.specs.Cmp.Lexicographic.{slice_cmp, nat_list_cmp_total}
use Rattle.std.specs.Global.{Global}
use Rattle.std.specs.Map.{KeepsOthers, lookup}
use Rattle.std.specs.Ordering.{nat_cmp, eq_by_cmp}
use Rattle.std.proofs.lemmas.Bool.{cases_Bool, cond-true, cond-false}
use Rattle.std.proofs.lemmas.List.{take_more}
use Rattle.std.proofs.lemmas.List.Sums.{fold-append}
use Rattle.std.proofs.lemmas.Slice.Eq.{bytes_eq-Decides}
use Rattle.basics.proofs.Texts.{other_is_not}
use Rattle.basics.proofs.Keys.{other_keys}
use Rattle.config_text.specs.Assignments.{last_value}
use Rattle.config_text.specs.Known.{Knows}
use Rattle.config_text.specs.declared.assignment.Assignment.{Assignment}

abbrev pub Values : Type 0
Values = BTreeMap (Vec ℕ Global) (List ℕ)

abbrev pub found : Values → List ℕ → Option (List ℕ)
found values q = get_by (λ k. slice_cmp nat_cmp q k.items) values

-- one key has changed
pub changed : (key : List ℕ) (w : Option (List ℕ)) (old new : Values)
    → found new key ≡ w
    → KeepsOthers (eq_by_cmp (λ x y. slice_cmp nat_cmp x.items y.items)) (is_at (λ k. slice_cmp nat_cmp key k.items)) old.entries new.entries
    → (q : List ℕ) → found new q ≡ cond (bytes_eq key q) w (found old q)
changed key w old new here keeps q =
    elim (cases_Bool (bytes_eq key q)) [
      | inl e ↦ subst (λ l. found new l ≡ w) ((bytes_eq-Decides key q).0 e) here ∙ sym (cond-true (bytes_eq key q) w (found old q) e)
      | inr e ↦
          other_keys _ _ old.entries new.entries keeps (is_at (λ k. slice_cmp nat_cmp q k.items)) (λ x y. (eq_by_cmp_equiv nat_list_cmp_total).congr q x.items y.items) (λ k. other_is_not key q k.items e)
          ∙ sym (cond-false (bytes_eq key q) w (found old q) e)
    ]

value_in : (b : Bool) (v : List ℕ) (o : Option (List ℕ)) → unwrap_or (cond b (Some v) o) [] ≡ cond b v (unwrap_or o [])
value_in true v o = refl
value_in false v o = refl

pub knows_more : (old new : Values) (key stored : List ℕ) (a : Assignment) → key ≡ a.key → stored ≡ a.value → ((q : List ℕ) → found new q ≡ cond (bytes_eq key q) (Some stored) (found old q))
    → (known : List Assignment) → Knows old known → Knows new (known ++ (a ∷ []))
knows_more old new key stored a keys values after known before name =
    ap (λ o. unwrap_or o []) (after name)
    ∙ (value_in (bytes_eq key name) stored (found old name)
    ∙ (ap (λ v. cond (bytes_eq key name) stored v) (before name)
    ∙ (ap (λ k. cond (bytes_eq k name) stored (last_value known name)) keys
    ∙ (ap (λ v. cond (bytes_eq a.key name) v (last_value known name)) values
    ∙ sym (fold-append (λ value b. cond (bytes_eq b.key name) b.value value) [] known (a ∷ []))))))

pub knows_next : (values : Values) (before : List Assignment) (i : ℕ) (d : Assignment) → i < length before → Knows values (take i before ++ (get_or before i d ∷ [])) → Knows values (take (i + 1) before)
knows_next values before i d within knows = subst (Knows values) (sym (take_more before i d within)) knows

pub knows_none : (values : Values) → values.entries ≡ [] → (known : List Assignment) → known ≡ [] → Knows values known
knows_none values none known is name = ap (λ es. unwrap_or (lookup (is_at (λ k. slice_cmp nat_cmp name k.items)) es) []) none ∙ sym (ap (λ l. last_value l name) is)
