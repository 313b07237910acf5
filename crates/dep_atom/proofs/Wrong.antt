-- A USE part goes wrong at one place.
use Rattle.std.proofs.Common.{◌≡◌, ◌∙◌, ◌⊎◌, ℕ, ◌<◌, inl, inr, true, List, [], ◌∷◌, ◌++◌, length, get_or, drop, refl, sym, ap, subst, arith, append_assoc}
use Rattle.std.specs.List.{AllByRecursion, flat_map}
use Rattle.dep_atom.specs.declared.uses.UseDep.{UseDep}
use Rattle.dep_atom.specs.Cuts.{is_either, Starts}
use Rattle.dep_atom.specs.Faults.{BeginsNoItem, IsNoEnd, before_item, GoesWrong}
use Rattle.dep_atom.specs.Form.{IsUseForm}
use Rattle.dep_atom.specs.Text.{use_text, further_use_text, opened_text}
use Rattle.dep_atom.proofs.Cuts.{cut_once}
use Rattle.dep_atom.proofs.Once.{use_lacks}

-- from where an item is to begin the items go as far as `left`: the list does not end there, or the next item is none
abbrev pub Walk : List UseDep → List ℕ → List ℕ → Type 0
Walk [] text left = (text ≡ left) × BeginsNoItem left
Walk (u ∷ us) text left = IsUseForm u × ((rest : List ℕ) × (text ≡ use_text u ++ rest) × (((rest ≡ left) × IsNoEnd left) ⊎ ((more : List ℕ) × (rest ≡ 44 ∷ more) × Walk us more left)))

no_end_starts : (left : List ℕ) → IsNoEnd left → Starts 44 93 left
no_end_starts [] h = tt
no_end_starts (b ∷ []) h = absurd h
no_end_starts (b ∷ c ∷ more) h = subst (λ x. is_either 44 93 x ≡ true) (sym h) refl

-- a comma may follow an item where the list does not end
no_comma : (left more : List ℕ) → IsNoEnd left → left ≡ 44 ∷ more → ⊥
no_comma [] more h e = absurd (omega (arith, ap length e))
no_comma (b ∷ []) more h e = absurd h
no_comma (b ∷ c ∷ rest) more h e = let comma : b ≡ 44 = ap (λ l. get_or l 0 0) e in absurd (omega (arith, h))

behind_starts : (us : List UseDep) (rest left : List ℕ) → ((rest ≡ left) × IsNoEnd left) ⊎ ((more : List ℕ) × (rest ≡ 44 ∷ more) × Walk us more left) → Starts 44 93 rest
behind_starts us rest left (inl w) = subst (Starts 44 93) (sym w.0) (no_end_starts left w.1)
behind_starts us rest left (inr w) = subst (Starts 44 93) (sym w.1) refl

-- what is an item can't begin none
no_item : (u : UseDep) (text rest : List ℕ) → IsUseForm u → text ≡ use_text u ++ rest → Starts 44 93 rest → BeginsNoItem text → ⊥
no_item u text rest is e starts wrong =
    wrong.none u is (cut_once 44 93 wrong.item wrong.behind (use_text u) rest wrong.lacks (use_lacks u is) wrong.ends starts (sym wrong.whole ∙ e)).0

pub walk_once : (us vs : List UseDep) (text l m : List ℕ) → Walk us text l → Walk vs text m → l ≡ m
walk_once [] [] text l m f g = sym f.0 ∙ g.0
walk_once [] (v ∷ vs) text l m f g = absurd (no_item v text g.1.0 g.0 g.1.1 (behind_starts vs g.1.0 m g.1.2) (subst BeginsNoItem (sym f.0) f.1))
walk_once (u ∷ us) [] text l m f g = absurd (no_item u text f.1.0 f.0 f.1.1 (behind_starts us f.1.0 l f.1.2) (subst BeginsNoItem (sym g.0) g.1))
walk_once (u ∷ us) (v ∷ vs) text l m f g =
    let same = cut_once 44 93 (use_text u) f.1.0 (use_text v) g.1.0 (use_lacks u f.0) (use_lacks v g.0) (behind_starts us f.1.0 l f.1.2) (behind_starts vs g.1.0 m g.1.2) (sym f.1.1 ∙ g.1.1) in
    elim f.1.2 [
      | inl a ↦ elim g.1.2 [
        | inl b ↦ sym a.0 ∙ same.1 ∙ b.0
        | inr b ↦ absurd (no_comma l b.0 a.1 (sym a.0 ∙ same.1 ∙ b.1))
      ]
      | inr a ↦ elim g.1.2 [
        | inl b ↦ absurd (no_comma m a.0 b.1 (sym b.0 ∙ sym same.1 ∙ a.1))
        | inr b ↦ let more : b.0 ≡ a.0 = ap (drop 1) (sym b.1 ∙ sym same.1 ∙ a.1) in walk_once us vs a.0 l m a.2 (subst (λ t. Walk vs t m) more b.2)
      ]
    ]

regroup : (u : UseDep) (us : List UseDep) (left : List ℕ) → flat_map further_use_text (u ∷ us) ++ left ≡ 44 ∷ (use_text u ++ (flat_map further_use_text us ++ left))
regroup u us left = ap (λ l. 44 ∷ l) (append_assoc (use_text u) (flat_map further_use_text us) left)

ends_wrong : (u : UseDep) (us : List UseDep) (text left : List ℕ) → AllByRecursion IsUseForm (u ∷ us) → IsNoEnd left → text ≡ use_text u ++ (flat_map further_use_text us ++ left) → Walk (u ∷ us) text left
ends_wrong u [] text left forms none e = (forms.0, (left, e, inl (refl, none)))
ends_wrong u (v ∷ vs) text left forms none e =
    let more : List ℕ = use_text v ++ (flat_map further_use_text vs ++ left) in
    (forms.0, (44 ∷ more, e ∙ ap (λ l. use_text u ++ l) (regroup v vs left), inr (more, refl, ends_wrong v vs more left forms.1 none refl)))

goes_on_wrong : (u : UseDep) (us : List UseDep) (text left : List ℕ) → AllByRecursion IsUseForm (u ∷ us) → BeginsNoItem left → text ≡ use_text u ++ (flat_map further_use_text us ++ (44 ∷ left)) → Walk (u ∷ us) text left
goes_on_wrong u [] text left forms none e = (forms.0, (44 ∷ left, e, inr (left, refl, (refl, none))))
goes_on_wrong u (v ∷ vs) text left forms none e =
    let more : List ℕ = use_text v ++ (flat_map further_use_text vs ++ (44 ∷ left)) in
    (forms.0, (44 ∷ more, e ∙ ap (λ l. use_text u ++ l) (regroup v vs (44 ∷ left)), inr (more, refl, goes_on_wrong v vs more left forms.1 none refl)))

-- the walk behind the opening bracket
abbrev pub Walked : List ℕ → List ℕ → Type 0
Walked uses left = (items : List UseDep) × (text : List ℕ) × (uses ≡ 91 ∷ text) × Walk items text left

walked_before : (uses left : List ℕ) (items : List UseDep) → AllByRecursion IsUseForm items → uses ≡ before_item items ++ left → BeginsNoItem left → Walked uses left
walked_before uses left [] forms e none = ([], left, e, (refl, none))
walked_before uses left (u ∷ us) forms e none =
    let text : List ℕ = use_text u ++ (flat_map further_use_text us ++ (44 ∷ left)) in
    let whole : uses ≡ 91 ∷ text = e ∙ append_assoc (opened_text (u ∷ us)) (44 ∷ []) left ∙ ap (λ l. 91 ∷ l) (append_assoc (use_text u) (flat_map further_use_text us) (44 ∷ left)) in
    (u ∷ us, text, whole, goes_on_wrong u us text left forms none refl)

walked_to_end : (uses left : List ℕ) (items : List UseDep) → AllByRecursion IsUseForm items → 0 < length items → uses ≡ opened_text items ++ left → IsNoEnd left → Walked uses left
walked_to_end uses left [] forms some e none = absurd (omega (arith, some))
walked_to_end uses left (u ∷ us) forms some e none =
    let text : List ℕ = use_text u ++ (flat_map further_use_text us ++ left) in
    (u ∷ us, text, e ∙ ap (λ l. 91 ∷ l) (append_assoc (use_text u) (flat_map further_use_text us) left), ends_wrong u us text left forms none refl)

walked : (uses left : List ℕ) → GoesWrong uses left → Walked uses left
walked uses left wrong = elim wrong.why [
  | inl w ↦ walked_before uses left wrong.items wrong.forms w.0 w.1
  | inr w ↦ walked_to_end uses left wrong.items wrong.forms w.0 w.1 w.2
]

pub wrong_once : (uses l m : List ℕ) → GoesWrong uses l → GoesWrong uses m → l ≡ m
wrong_once uses l m f g =
    let a = walked uses l f in
    let b = walked uses m g in
    let same : b.1 ≡ a.1 = ap (drop 1) (sym b.2 ∙ a.2) in
    walk_once a.0 b.0 a.1 l m a.3 (subst (λ t. Walk b.0 t m) same b.3)
