-- Lives under the texts by which they are found.
use denote.Ref.{Bor}
use Rattle.std.proofs.Common.{◌≡◌, ◌∙◌, ◌<◌, ◌+◌, ◌↔◌, ℕ, Bool, true, false, cond, List, [], ◌∷◌, ◌++◌, Vec, Global, inl, inr, subst, bytes_eq, get_or, length, map, refl, sym, ap, take, arith}
use Rattle.std.specs.BTreeMap.{BTreeMap}
use Rattle.std.proofs.lemmas.List.{get_or-map, length-map, map-append, take_more}
use Rattle.std.proofs.lemmas.List.Elements.{filter-append}
use Rattle.std.proofs.lemmas.Slice.Eq.{bytes_eq-Decides}
use Rattle.basics.specs.Members.{Has}
use Rattle.basics.proofs.Membership.{has-append_cases, has-at, has-filter, has-filter_back, has-map}
use Rattle.pkg_state.specs.Index.{listed, one_under}
use Rattle.plan_law.specs.Lives as law
use Rattle.plan_lives.specs.Index.{AreKeyed, keyed, line_key}
use Rattle.plan_lives.specs.Lives.{life_of, lives_of}
use Rattle.plan_lives.specs.declared.life.Life.{Life}

abbrev pub Lists : Type 0
Lists = BTreeMap (Bor (List ℕ)) (Vec Life Global)

one_life : (b : Bool) (x : Life) → lives_of (cond b (x ∷ []) []) ≡ cond b (life_of x ∷ []) []
one_life true x = refl
one_life false x = refl

-- one life more is put under its key
pub keyed_more : (key : law.Life → List ℕ) (xs : List Life) (i : ℕ) (x : Life) (k : List ℕ) (old new : Lists) → i < length xs → x ≡ get_or xs i x → k ≡ key (life_of x)
    → AreKeyed key (lives_of (take i xs)) old → ((text : List ℕ) → listed new text ≡ listed old text ++ one_under k text x) → AreKeyed key (lives_of (take (i + 1) xs)) new
keyed_more key xs i x k old new lt is own are put text =
    let more : take (i + 1) xs ≡ take i xs ++ x ∷ [] = take_more xs i x lt ∙ ap (λ (y : Life). take i xs ++ y ∷ []) (sym is) in
    ap lives_of (put text) ∙ (map-append life_of (listed old text) (one_under k text x)
    ∙ (ap (λ (ys : List law.Life). ys ++ lives_of (one_under k text x)) (are text)
    ∙ (ap (λ (ys : List law.Life). keyed key text (lives_of (take i xs)) ++ ys) (one_life (bytes_eq text k) x ∙ ap (λ (m : List ℕ). cond (bytes_eq text m) (life_of x ∷ []) []) own)
    ∙ (sym (filter-append (λ y. bytes_eq text (key y)) (lives_of (take i xs)) (life_of x ∷ []))
    ∙ ap (keyed key text) (sym (map-append life_of (take i xs) (x ∷ [])) ∙ ap lives_of (sym more))))))

-- the line at a place is that of the life there
pub line_at : (xs : List Life) (lines : List (List ℕ)) (i : ℕ) (x : Life) (line : List ℕ) → lines ≡ map line_key (lives_of xs) → i < length xs → x ≡ get_or xs i x → line ≡ get_or lines i line → line ≡ line_key (life_of x)
line_at xs lines i x line all lt is at_line =
    at_line ∙ (ap (λ (ls : List (List ℕ)). get_or ls i line) all
    ∙ (get_or-map line_key (lives_of xs) i (life_of x) line (omega (arith, lt, length-map xs life_of))
    ∙ (ap line_key (get_or-map life_of xs i x (life_of x) lt) ∙ ap (λ (y : Life). line_key (life_of y)) (sym is))))

-- what is found under a text is what has it as its key
pub in_items : (key : law.Life → List ℕ) (xs : List law.Life) (lists : Lists) (text : List ℕ) (items : List Life) → AreKeyed key xs lists → items ≡ listed lists text → (y : law.Life) → Has (lives_of items) y ↔ (Has xs y × (text ≡ key y))
in_items key xs lists text items are is y =
    let found : lives_of items ≡ keyed key text xs = ap lives_of is ∙ are text in (
      (λ h. let k = has-filter_back (λ (z : law.Life). bytes_eq text (key z)) xs y (subst (λ (ys : List law.Life). Has ys y) found h) in (k.0, (bytes_eq-Decides text (key y)).0 k.1)),
      (λ h. subst (λ (ys : List law.Life). Has ys y) (sym found) (has-filter (λ (z : law.Life). bytes_eq text (key z)) xs y h.0 ((bytes_eq-Decides text (key y)).1 h.1))),
    )

-- the item at a place is one of them
pub item_at : (items : List Life) (i : ℕ) (x : Life) → i < length items → x ≡ get_or items i x → Has (lives_of items) (life_of x)
item_at items i x lt is = has-map life_of items x (has-at items i x lt is)

-- none so far, and not this one
pub none_more : (P : law.Life → Type 0) (items : List Life) (i : ℕ) (x : Life) → i < length items → x ≡ get_or items i x → ((y : law.Life) → Has (lives_of (take i items)) y → ¬ P y) → ¬ P (life_of x) → (y : law.Life) → Has (lives_of (take (i + 1) items)) y → ¬ P y
none_more P items i x lt is so_far off y h =
    let more : take (i + 1) items ≡ take i items ++ x ∷ [] = take_more items i x lt ∙ ap (λ (z : Life). take i items ++ z ∷ []) (sym is) in
    let parts : lives_of (take (i + 1) items) ≡ lives_of (take i items) ++ life_of x ∷ [] = ap lives_of more ∙ map-append life_of (take i items) (x ∷ []) in
    elim (has-append_cases (lives_of (take i items)) (life_of x ∷ []) y (subst (λ (ys : List law.Life). Has ys y) parts h)) [
      | inl old ↦ so_far y old
      | inr now ↦ elim now [ inl e ↦ subst (λ (z : law.Life). ¬ P z) e off | inr none ↦ absurd none ]
    ]
