-- There is a list of the packages after a group.
use Rattle.std.proofs.Common.{◌≡◌, ◌⊎◌, ◌∙◌, ℕ, Bool, true, false, cond, List, [], ◌∷◌, map, refl, ap, sym, subst, inl, inr}
use Rattle.std.specs.Prelude.{◌↔◌}
use Rattle.std.specs.List.{AllByRecursion}
use Rattle.std.specs.List.Sorted.{IsStrictlySortedBy}
use Rattle.std.specs.Ordering.{is_eq, ordering_reverse}
use Rattle.std.specs.Cmp.Lexicographic.{same_text, texts_ties}
use Rattle.std.specs.declared.cmp.Ordering.{Ordering}
use Rattle.std.specs.declared.cmp.Ordering.TheVariants.{Less, Equal, Greater}
use Rattle.std.proofs.lemmas.Cmp.{nat_list_cmp_total}
use Rattle.basics.specs.Members.{AreDistinct, Has}
use Rattle.basics.proofs.Membership.{has-map}
use Rattle.basics.proofs.Orderings.{ordering_cases}
use Rattle.pms_names.specs.Flags.{IsRising, byte_order}
use Rattle.vdb_law.specs.Database.{folder_name}
use Rattle.vdb_law.specs.Packages.{Installed}
use Rattle.vdb_law.specs.Step.{SomeAfter, Stays}
use Rattle.std.proofs.lemmas.Bool.{cases_Bool}

-- two different texts stand in one order or the other
other_order : (x y : List ℕ) → (x ≡ y → ⊥) → (byte_order x y ≡ Less → ⊥) → byte_order y x ≡ Less
other_order x y ne no-less = elim (ordering_cases (byte_order x y)) [
  | inl e ↦ absurd (no-less e)
  | inr (inl e) ↦ absurd (ne (same_text x y (sym (texts_ties x y ∙ ap is_eq e))))
  | inr (inr e) ↦ nat_list_cmp_total.antisymm y x ∙ ap ordering_reverse e
]

abbrev pub is_less : Ordering → Bool
is_less Less = true
is_less Equal = false
is_less Greater = false

less_if : (o : Ordering) → is_less o ≡ true → o ≡ Less
less_if Less h = refl
less_if Equal h = absurd (cc h)
less_if Greater h = absurd (cc h)

not_less_if : (o : Ordering) → is_less o ≡ false → o ≡ Less → ⊥
not_less_if o h e = cc (ap is_less e, h)

abbrev comes_first : Installed → Installed → Bool
comes_first a x = is_less (byte_order (folder_name a) (folder_name x))

-- a package at its place in a list by folders
abbrev insert : Installed → List Installed → List Installed
insert a [] = a ∷ []
insert a (x ∷ xs) = cond (comes_first a x) (a ∷ (x ∷ xs)) (x ∷ insert a xs)

abbrev insert_all : List Installed → List Installed → List Installed
insert_all [] xs = xs
insert_all (a ∷ more) xs = insert a (insert_all more xs)

-- the packages that stay
abbrev staying : (Installed → Bool) → List Installed → List Installed
staying gone [] = []
staying gone (p ∷ ps) = cond (gone p) (staying gone ps) (p ∷ staying gone ps)

insert_step : (a x : Installed) (xs : List Installed) (b : Bool) → comes_first a x ≡ b → insert a (x ∷ xs) ≡ cond b (a ∷ (x ∷ xs)) (x ∷ insert a xs)
insert_step a x xs b e = ap (λ (c : Bool). cond c (a ∷ (x ∷ xs)) (x ∷ insert a xs)) e

has_insert : (a : Installed) (xs : List Installed) (p : Installed) → Has (insert a xs) p → (a ≡ p) ⊎ Has xs p
has_insert a [] p (inl e) = inl e
has_insert a [] p (inr none) = absurd none
has_insert a (x ∷ xs) p has = elim (cases_Bool (comes_first a x)) [
  | inl e ↦ subst (λ (l : List Installed). Has l p) (insert_step a x xs true e) has
  | inr e ↦ (let h : Has (x ∷ insert a xs) p = subst (λ (l : List Installed). Has l p) (insert_step a x xs false e) has in
      elim h [ inl same ↦ inr (inl same) | inr later ↦ elim (has_insert a xs p later) [ inl same ↦ inl same | inr there ↦ inr (inr there) ] ])
]

insert_has : (a : Installed) (xs : List Installed) (p : Installed) → (a ≡ p) ⊎ Has xs p → Has (insert a xs) p
insert_has a [] p (inl e) = inl e
insert_has a [] p (inr none) = absurd none
insert_has a (x ∷ xs) p has = elim (cases_Bool (comes_first a x)) [
  | inl e ↦ subst (λ (l : List Installed). Has l p) (sym (insert_step a x xs true e)) has
  | inr e ↦ subst (λ (l : List Installed). Has l p) (sym (insert_step a x xs false e)) (elim has [
    | inl same ↦ inr (insert_has a xs p (inl same))
    | inr (inl same) ↦ inl same
    | inr (inr there) ↦ inr (insert_has a xs p (inr there))
  ])
]

abbrev AllAfter : List ℕ → List Installed → Type 0
AllAfter x ps = AllByRecursion (λ y. byte_order x y ≡ Less) (map folder_name ps)

after_insert : (x : List ℕ) (a : Installed) (xs : List Installed) → byte_order x (folder_name a) ≡ Less → AllAfter x xs → AllAfter x (insert a xs)
after_insert x a [] less all = (less, tt)
after_insert x a (y ∷ xs) less all = elim (cases_Bool (comes_first a y)) [
  | inl e ↦ subst (λ (l : List Installed). AllAfter x l) (sym (insert_step a y xs true e)) (less, all)
  | inr e ↦ subst (λ (l : List Installed). AllAfter x l) (sym (insert_step a y xs false e)) (all.0, after_insert x a xs less all.1)
]

all_later : (x y : List ℕ) (ps : List Installed) → byte_order x y ≡ Less → AllAfter y ps → AllAfter x ps
all_later x y [] less all = tt
all_later x y (p ∷ ps) less all = (nat_list_cmp_total.trans x y (folder_name p) less all.0, all_later x y ps less all.1)

insert_rising : (a : Installed) (xs : List Installed) → IsRising (map folder_name xs) → ((p : Installed) → Has xs p → folder_name a ≡ folder_name p → ⊥) → IsRising (map folder_name (insert a xs))
unfolding IsStrictlySortedBy
insert_rising a [] rising apart = (tt, tt)
insert_rising a (x ∷ xs) rising apart = elim (cases_Bool (comes_first a x)) [
  | inl e ↦ (
      let less = less_if (byte_order (folder_name a) (folder_name x)) e in
      subst (λ (l : List Installed). IsRising (map folder_name l)) (sym (insert_step a x xs true e)) ((less, all_later (folder_name a) (folder_name x) xs less rising.0), rising))
  | inr e ↦ (
      let less = other_order (folder_name a) (folder_name x) (apart x (inl refl)) (not_less_if (byte_order (folder_name a) (folder_name x)) e) in
      subst (λ (l : List Installed). IsRising (map folder_name l)) (sym (insert_step a x xs false e))
      (after_insert (folder_name x) a xs less rising.0, insert_rising a xs rising.1 (λ p has. apart p (inr has))))
]

has_staying : (gone : Installed → Bool) (ps : List Installed) (p : Installed) → Has (staying gone ps) p ↔ Stays ps gone p
has_staying gone [] p = (λ h. absurd h, λ h. absurd h.0)
has_staying gone (x ∷ ps) p = elim (cases_Bool (gone x)) [
  | inl e ↦ (
      let step : staying gone (x ∷ ps) ≡ staying gone ps = ap (λ (b : Bool). cond b (staying gone ps) (x ∷ staying gone ps)) e in (
        λ h. (let r = (has_staying gone ps p).0 (subst (λ (l : List Installed). Has l p) step h) in (inr r.0, r.1)),
        λ h. subst (λ (l : List Installed). Has l p) (sym step) (elim h.0 [ inl same ↦ absurd (cc (ap gone same, e, h.1)) | inr there ↦ (has_staying gone ps p).1 (there, h.1) ]),
      ))
  | inr e ↦ (
      let step : staying gone (x ∷ ps) ≡ x ∷ staying gone ps = ap (λ (b : Bool). cond b (staying gone ps) (x ∷ staying gone ps)) e in (
        λ h. (let g : Has (x ∷ staying gone ps) p = subst (λ (l : List Installed). Has l p) step h in
            elim g [ inl same ↦ (inl same, ap gone (sym same) ∙ e) | inr there ↦ (let r = (has_staying gone ps p).0 there in (inr r.0, r.1)) ]),
        λ h. subst (λ (l : List Installed). Has l p) (sym step) (elim h.0 [ inl same ↦ inl same | inr there ↦ inr ((has_staying gone ps p).1 (there, h.1)) ]),
      ))
]

after_staying : (x : List ℕ) (gone : Installed → Bool) (ps : List Installed) → AllAfter x ps → AllAfter x (staying gone ps)
after_staying x gone [] all = tt
after_staying x gone (p ∷ ps) all = elim (cases_Bool (gone p)) [
  | inl e ↦ subst (λ (l : List Installed). AllAfter x l) (sym (ap (λ (b : Bool). cond b (staying gone ps) (p ∷ staying gone ps)) e)) (after_staying x gone ps all.1)
  | inr e ↦ subst (λ (l : List Installed). AllAfter x l) (sym (ap (λ (b : Bool). cond b (staying gone ps) (p ∷ staying gone ps)) e)) (all.0, after_staying x gone ps all.1)
]

staying_rising : (gone : Installed → Bool) (ps : List Installed) → IsRising (map folder_name ps) → IsRising (map folder_name (staying gone ps))
unfolding IsStrictlySortedBy
staying_rising gone [] rising = rising
staying_rising gone (p ∷ ps) rising = elim (cases_Bool (gone p)) [
  | inl e ↦ subst (λ (l : List Installed). IsRising (map folder_name l)) (sym (ap (λ (b : Bool). cond b (staying gone ps) (p ∷ staying gone ps)) e)) (staying_rising gone ps rising.1)
  | inr e ↦ subst (λ (l : List Installed). IsRising (map folder_name l)) (sym (ap (λ (b : Bool). cond b (staying gone ps) (p ∷ staying gone ps)) e)) (after_staying (folder_name p) gone ps rising.0, staying_rising gone ps rising.1)
]

has_all : (added xs : List Installed) (p : Installed) → Has (insert_all added xs) p ↔ (Has xs p ⊎ Has added p)
has_all [] xs p = (λ h. inl h, λ h. elim h [ inl there ↦ there | inr none ↦ absurd none ])
has_all (a ∷ more) xs p = (
  λ h. elim (has_insert a (insert_all more xs) p h) [ inl same ↦ inr (inl same) | inr there ↦ elim ((has_all more xs p).0 there) [ inl x ↦ inl x | inr m ↦ inr (inr m) ] ],
  λ h. insert_has a (insert_all more xs) p (elim h [ inl x ↦ inr ((has_all more xs p).1 (inl x)) | inr (inl same) ↦ inl same | inr (inr m) ↦ inr ((has_all more xs p).1 (inr m)) ]),
)

all_rising : (added xs : List Installed) → IsRising (map folder_name xs) → AreDistinct (map folder_name added) → ((a p : Installed) → Has added a → Has xs p → folder_name a ≡ folder_name p → ⊥) → IsRising (map folder_name (insert_all added xs))
all_rising [] xs rising once apart = rising
all_rising (a ∷ more) xs rising once apart =
    insert_rising a (insert_all more xs) (all_rising more xs rising once.1 (λ b p hb hp. apart b p (inr hb) hp))
    (λ p has same. elim ((has_all more xs p).0 has) [
      | inl there ↦ apart a p (inl refl) there same
      | inr m ↦ once.0 (subst (λ (t : List ℕ). Has (map folder_name more) t) (sym same) (has-map folder_name more p m))
    ])

pub some_after : SomeAfter
some_after ps added gone rising own =
    let stay = staying gone ps in (
      insert_all added stay,
      record {
        rising = all_rising added stay (staying_rising gone ps rising) own.apart (λ a p ha hp. own.new a p ha ((has_staying gone ps p).0 hp));
        members = λ p. (
          λ h. elim ((has_all added stay p).0 h) [ inl there ↦ inl ((has_staying gone ps p).0 there) | inr m ↦ inr m ],
          λ h. (has_all added stay p).1 (elim h [ inl stays ↦ inl ((has_staying gone ps p).1 stays) | inr m ↦ inr m ]),
        );
      },
    )
