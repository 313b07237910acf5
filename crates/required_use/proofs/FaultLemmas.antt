-- A word is one item at most, and a text has one first fault.
use Rattle.std.proofs.Common.{◌≡◌, ◌≢◌, ℕ, Bool, true, false, List, [], ◌∷◌, refl, ap, sym, ◌∙◌, subst, arith, ◌==◌}
use Rattle.std.proofs.lemmas.Bool.Decides.{nat_tests}
use Rattle.basics.proofs.Lists.{tails}
use Rattle.dep_group.specs.Shapes.{denies, exclamation_mark}
use Rattle.dep_group.specs.Tokens.{IsFlag, IsLeafWord, IsOnlyLeaf}
use Rattle.dep_group.proofs.TextLemmas as groups
use Rattle.dep_group.proofs.TokenLemmas.{OneSpelling}
use Rattle.required_use.specs.declared.required.Item.{Item}
use Rattle.required_use.specs.declared.fault.RequiredFault.{RequiredFault}
use Rattle.required_use.specs.Faults.{HasFault, IsDenial, named}
use Rattle.required_use.specs.Texts.{IsExpression}
use Rattle.required_use.specs.Grammar.{grammar, never, item_text}

-- what does not begin with an exclamation mark
pub denies-none : (w : List ℕ) → ((rest : List ℕ) → w ≢ exclamation_mark ∷ rest) → denies w ≡ false
denies-none [] h = refl
denies-none (b ∷ w) h = go (b == exclamation_mark) refl
  where
    go : (r : Bool) → (b == exclamation_mark) ≡ r → (b == exclamation_mark) ≡ false
    go false e = e
    go true e = absurd (h w (ap (λ x. x ∷ w) (let same : b ≡ 33 = grind (arith, nat_tests, e) in same)))

-- a flag does not begin with an exclamation mark
not_denied : (flag : List ℕ) → IsFlag (exclamation_mark ∷ flag) → ⊥
not_denied flag h = let begins = h.spelled.begins in absurd (cc)

items_same : (f f' : List ℕ) (on on' : Bool) → IsFlag f → IsFlag f' → item_text f on ≡ item_text f' on' → (let item : List ℕ → Bool → Item = λ g b. record { flag = g; on = b } in item f on ≡ item f' on')
items_same f f' true true h h' e = let item : List ℕ → Item = λ g. record { flag = g; on = true } in ap item e
items_same f f' false false h h' e = let item : List ℕ → Item = λ g. record { flag = g; on = false } in ap item (tails _ _ _ _ e)
items_same f f' true false h h' e = let P : List ℕ → Type 0 = λ g. IsFlag g in absurd (not_denied f' (subst P e h))
items_same f f' false true h h' e = let P : List ℕ → Type 0 = λ g. IsFlag g in absurd (not_denied f (subst P (sym e) h'))

-- no two items have one text
one_spelling : OneSpelling grammar
one_spelling a b h h' e = items_same a.flag b.flag a.on b.on h h' e

-- a flag makes the word an item, and no other
pub is_item : (w flag : List ℕ) (on : Bool) → IsDenial w on flag → IsFlag flag → IsOnlyLeaf grammar w (record { flag = flag; on = on })
is_item w flag true d h = record { spelled = d.0; is_leaf = h; only = λ b k e. one_spelling (record { flag = flag; on = true }) b h k (sym d.0 ∙ e) }
is_item w flag false d h = record { spelled = d; is_leaf = h; only = λ b k e. one_spelling (record { flag = flag; on = false }) b h k (sym d ∙ e) }

no_flag : (w rest flag : List ℕ) (on wanted : Bool) → IsDenial w on rest → ¬ IsFlag rest → w ≡ item_text flag wanted → IsFlag flag → ⊥
no_flag w rest flag true true d none e h = none (let P : List ℕ → Type 0 = λ f. IsFlag f in subst P (sym e ∙ d.0) h)
no_flag w rest flag true false d none e h = let yes = ap denies e in let no = d.1 in absurd (cc)
no_flag w rest flag false true d none e h = not_denied rest (let P : List ℕ → Type 0 = λ f. IsFlag f in subst P (sym e ∙ d) h)
no_flag w rest flag false false d none e h = none (let P : List ℕ → Type 0 = λ f. IsFlag f in subst P (tails _ _ _ _ (sym e ∙ d)) h)

-- without a flag the word is no item
pub no_item : (w rest : List ℕ) (on : Bool) → IsDenial w on rest → ¬ IsFlag rest → ¬ IsLeafWord grammar w
no_item w rest on d none leaf = let a = leaf.0 in no_flag w rest a.flag on a.on d none leaf.1 leaf.2

-- one fault fits a text
pub once : (text : List ℕ) (a b : RequiredFault) → HasFault text a → HasFault text b → a ≡ b
once text a b h k =
    let same = groups.once grammar never text (λ _ _ _ _ _. refl) h.0.0 k.0.0 h.0.1 k.0.1 (λ e. h.1 (h.0.2 ∙ ap named e)) (λ e. k.1 (k.0.2 ∙ ap named e)) in
    h.0.2 ∙ ap named same ∙ sym k.0.2

-- and none an expression
pub none : (text : List ℕ) (a : RequiredFault) → IsExpression text → ¬ HasFault text a
none text a x h = h.1 (h.0.2 ∙ ap named (groups.none grammar never text (λ _ _ _ _ _. refl) h.0.0 x h.0.1))
