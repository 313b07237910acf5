-- The first places of texts in a list.
use Rattle.std.proofs.Common.{◌≡◌, ◌∙◌, ◌++◌, ◌||◌, ℕ, suc, Bool, true, false, cond, List, [], ◌∷◌, Option, Some, None, length, map, inl, inr, refl, ap, arith, subst, sym}
use Rattle.std.specs.Prelude.{bytes_eq, is_some, unwrap_or}
use Rattle.std.proofs.lemmas.Bool.{cases_Bool, cond-false, cond-true, or_from, or_parts}
use Rattle.std.proofs.lemmas.List.Folds.{list_any-append}
use Rattle.std.proofs.lemmas.Slice.Eq.{bytes_eq-Decides}
use Rattle.basics.specs.Members.{Has}
use Rattle.basics.proofs.Membership.{has-append_left, has-map}
use Rattle.basics.proofs.Tests.{or-false}
use Rattle.basics.proofs.Texts.{bytes_eq-same, same_text}
use Rattle.file_tree.specs.PathSets.{is_in}
use Rattle.file_tree.proofs.PathSets.{has_if_in, in_if_has}
use Rattle.pkg_state.specs.Package.{Package}
use Rattle.vdb_law.specs.Database.{folder_name}
use Rattle.vdb_law.specs.Packages.{Installed}
use Rattle.law_run.specs.Openings.{key_among, key_at, place_of}
use Rattle.run_files.specs.Keys.{folder_of, key_with}
use Rattle.run_files.specs.Laws.{OwnersKeepTheirKeys}
use Rattle.run_files.specs.Places.{found_place}

-- ---- places

one_step : (b : Bool) (m n : ℕ) → (b ≡ false → m ≡ n) → cond b 0 (suc m) ≡ cond b 0 (suc n)
one_step true m n h = refl
one_step false m n h = ap suc (h refl)

has_later : (text x : List ℕ) (xs : List (List ℕ)) → Has (x ∷ xs) text → bytes_eq text x ≡ false → Has xs text
has_later text x xs (inl same) e = absurd (let is = subst (λ (y : List ℕ). bytes_eq text y ≡ true) (sym same) (bytes_eq-same text) in cc (is, e))
has_later text x xs (inr has) e = has

-- a text of the first list has its place there
pub place_in_front : (text : List ℕ) (xs ys : List (List ℕ)) → Has xs text → place_of text (xs ++ ys) ≡ place_of text xs
place_in_front text [] ys has = absurd has
place_in_front text (x ∷ xs) ys has = one_step (bytes_eq text x) (place_of text (xs ++ ys)) (place_of text xs) (λ e. place_in_front text xs ys (has_later text x xs has e))

-- a text that isn't there has the number of the others
place_absent : (text : List ℕ) (xs : List (List ℕ)) → is_in xs text ≡ false → place_of text xs ≡ length xs
place_absent text [] none = refl
place_absent text (x ∷ xs) none =
    let apart = or_parts (bytes_eq text x) (is_in xs text) none in
    cond-false (bytes_eq text x) 0 (suc (place_of text xs)) apart.0 ∙ ap suc (place_absent text xs apart.1)

place_at_end : (text last : List ℕ) (xs : List (List ℕ)) → is_in xs text ≡ false → bytes_eq text last ≡ true → place_of text (xs ++ last ∷ []) ≡ length xs
place_at_end text last [] none is = cond-true (bytes_eq text last) 0 1 is
place_at_end text last (x ∷ xs) none is =
    let apart = or_parts (bytes_eq text x) (is_in xs text) none in
    cond-false (bytes_eq text x) 0 (suc (place_of text (xs ++ last ∷ []))) apart.0 ∙ ap suc (place_at_end text last xs apart.1 is)

-- texts with one place are one
pub one_at_a_place : (a b : List ℕ) (xs : List (List ℕ)) → Has xs a → Has xs b → place_of a xs ≡ place_of b xs → a ≡ b
one_at_a_place a b [] ha hb e = absurd ha
one_at_a_place a b (x ∷ xs) ha hb e =
    let m = place_of a xs in
    let n = place_of b xs in
    elim (cases_Bool (bytes_eq a x)) [
      | inl s ↦ elim (cases_Bool (bytes_eq b x)) [
        | inl t ↦ same_text a x s ∙ sym (same_text b x t)
        | inr t ↦ absurd (let k : 0 ≡ suc n = sym (cond-true (bytes_eq a x) 0 (suc m) s) ∙ (e ∙ cond-false (bytes_eq b x) 0 (suc n) t) in omega (arith, k))
      ]
      | inr s ↦ elim (cases_Bool (bytes_eq b x)) [
        | inl t ↦ absurd (let k : suc m ≡ 0 = sym (cond-false (bytes_eq a x) 0 (suc m) s) ∙ (e ∙ cond-true (bytes_eq b x) 0 (suc n) t) in omega (arith, k))
        | inr t ↦ (
            let k : suc m ≡ suc n = sym (cond-false (bytes_eq a x) 0 (suc m) s) ∙ (e ∙ cond-false (bytes_eq b x) 0 (suc n) t) in
            let same : m ≡ n = omega (arith, k) in
            one_at_a_place a b xs (has_later a x xs ha s) (has_later b x xs hb t) same)
      ]
    ]

-- ---- places that are found

found_yes : (q : List ℕ) (texts : List (List ℕ)) → is_in texts q ≡ true → found_place q texts ≡ Some (place_of q texts)
found_yes q texts e = cond-true (is_in texts q) (Some (place_of q texts)) None e

found_no : (q : List ℕ) (texts : List (List ℕ)) → is_in texts q ≡ false → found_place q texts ≡ None
found_no q texts e = cond-false (is_in texts q) (Some (place_of q texts)) None e

pub is_found : (q : List ℕ) (texts : List (List ℕ)) → is_some (found_place q texts) ≡ is_in texts q
is_found q texts = elim (cases_Bool (is_in texts q)) [
  | inl e ↦ ap is_some (found_yes q texts e) ∙ sym e
  | inr e ↦ ap is_some (found_no q texts e) ∙ sym e
]

pub found_or_end : (q : List ℕ) (texts : List (List ℕ)) → unwrap_or (found_place q texts) (length texts) ≡ place_of q texts
found_or_end q texts = elim (cases_Bool (is_in texts q)) [
  | inl e ↦ ap (λ (o : Option ℕ). unwrap_or o (length texts)) (found_yes q texts e)
  | inr e ↦ ap (λ (o : Option ℕ). unwrap_or o (length texts)) (found_no q texts e) ∙ sym (place_absent q texts e)
]

in_front : (q t : List ℕ) (texts : List (List ℕ)) → is_in texts q ≡ true → found_place q texts ≡ found_place q (texts ++ t ∷ [])
in_front q t texts e =
    let has = has_if_in texts q e in
    let there = in_if_has (texts ++ t ∷ []) q (has-append_left texts (t ∷ []) q has) in
    found_yes q texts e ∙ (ap Some (sym (place_in_front q texts (t ∷ []) has)) ∙ sym (found_yes q (texts ++ t ∷ []) there))

in_more : (q t : List ℕ) (texts : List (List ℕ)) → is_in (texts ++ t ∷ []) q ≡ is_in texts q || bytes_eq q t
in_more q t texts = list_any-append (λ (p : List ℕ). bytes_eq q p) texts (t ∷ []) ∙ ap (λ (b : Bool). is_in texts q || b) (or-false (bytes_eq q t))

same_in : (q t : List ℕ) (texts : List (List ℕ)) (b : Bool) → bytes_eq q t ≡ true → is_in texts t ≡ b → is_in texts q ≡ b
same_in q t texts b is e = subst (λ (x : List ℕ). is_in texts x ≡ b) (sym (same_text q t is)) e

absent_more : (q t : List ℕ) (texts : List (List ℕ)) → is_in texts q ≡ false → bytes_eq q t ≡ false → found_place q texts ≡ found_place q (texts ++ t ∷ [])
absent_more q t texts e apart = found_no q texts e ∙ sym (found_no q (texts ++ t ∷ []) (in_more q t texts ∙ or_from (is_in texts q) (bytes_eq q t) e apart))

-- a text that is there already changes no place
pub found_again : (q t : List ℕ) (texts : List (List ℕ)) → is_in texts t ≡ true → found_place q texts ≡ found_place q (texts ++ t ∷ [])
found_again q t texts there = elim (cases_Bool (is_in texts q)) [
  | inl e ↦ in_front q t texts e
  | inr e ↦ elim (cases_Bool (bytes_eq q t)) [
    | inl is ↦ absurd (cc (same_in q t texts true is there, e))
    | inr apart ↦ absent_more q t texts e apart
  ]
]

-- a new text has its place behind the others
pub found_new : (q t : List ℕ) (texts : List (List ℕ)) (old new : Option ℕ) → is_in texts t ≡ false → old ≡ found_place q texts → new ≡ cond (bytes_eq t q) (Some (length texts)) old → new ≡ found_place q (texts ++ t ∷ [])
found_new q t texts old new none was is = elim (cases_Bool (bytes_eq t q)) [
  | inl e ↦ (
      let turned : bytes_eq q t ≡ true = (bytes_eq-Decides q t).1 (sym (same_text t q e)) in
      let out = same_in q t texts false turned none in
      let there = in_more q t texts ∙ (ap (λ (b : Bool). is_in texts q || b) turned ∙ ap (λ (b : Bool). b || true) out) in
      is ∙ (cond-true (bytes_eq t q) (Some (length texts)) old e
      ∙ (ap Some (sym (place_at_end q t texts out turned)) ∙ sym (found_yes q (texts ++ t ∷ []) there))))
  | inr e ↦ (
      let stays = is ∙ (cond-false (bytes_eq t q) (Some (length texts)) old e ∙ was) in
      elim (cases_Bool (is_in texts q)) [
        | inl there ↦ stays ∙ in_front q t texts there
        | inr out ↦ elim (cases_Bool (bytes_eq q t)) [
          | inl turned ↦ absurd (let k = (bytes_eq-Decides t q).1 (sym (same_text q t turned)) in cc (k, e))
          | inr apart ↦ stays ∙ absent_more q t texts out apart
        ]
      ])
]

-- ---- the keys of owners

pub keys_stay : (ps : List Installed) (coming : List Package) (p : Installed) → Has ps p → key_with ps coming p ≡ key_among ps p
keys_stay ps coming p has = ap key_at (place_in_front (folder_name p) (map folder_name ps) (map folder_of coming) (has-map folder_name ps p has))

pub owners_stay : OwnersKeepTheirKeys
owners_stay m ps coming own are = record {
  mine = λ p q has owns. are.mine p q has owns ∙ ap Some (sym (keys_stay ps coming p has));
  only = λ q k is. let f = are.only q k is in (f.0, f.1, f.2, keys_stay ps coming f.0 f.1 ∙ f.3);
}
