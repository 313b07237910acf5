-- A text goes wrong at one word.
use Rattle.std.proofs.Common.{◌≡◌, ◌∙◌, ℕ, zero, suc, ◌+◌, ◌-◌, ◌<◌, ◌≤◌, ◌⊎◌, inl, inr, true, false, List, [], ◌∷◌, ◌++◌, length, get_or, drop, refl, sym, ap, subst, arith, length-append, append_assoc}
use Rattle.std.specs.List.{All}
use Rattle.std.proofs.lemmas.Bool.{both_ways, cases_lt}
use Rattle.use_flags.specs.declared.fault.UseFault.{UseFault}
use Rattle.use_flags.specs.declared.fault.UseFault.TheVariants.{Item, Memory}
use Rattle.use_flags.specs.Faults.{FirstFault}
use Rattle.use_flags.specs.Words.{EachWord, EndsInBreak, BeginsWithBreak, IsWordBetween, IsFirstBad}
use Rattle.use_flags.proofs.Cuts.{no_bad_word}
use Rattle.basics.specs.Blanks.{is_blank}

-- of two beginnings of one text the longer one goes on from the shorter one
goes_on : (a b r s : List ℕ) → a ++ r ≡ b ++ s → length a ≤ length b → (mid : List ℕ) × (b ≡ a ++ mid) × (r ≡ mid ++ s)
goes_on [] b r s e le = (b, refl, e)
goes_on (x ∷ a) [] r s e le = absurd (omega (arith, le))
goes_on (x ∷ a) (y ∷ b) r s e le =
    let heads : x ≡ y = ap (λ l. get_or l 0 0) e in
    let on = goes_on a b r s (ap (λ l. drop 1 l) e) (omega (arith, le)) in
    (on.0, ap (λ l. y ∷ l) on.1 ∙ ap (λ z. z ∷ (a ++ on.0)) (sym heads), on.2)

-- a longer beginning ends in a break, so what it adds does too
last_is_white : (a mid : List ℕ) → 0 < length mid → EndsInBreak (a ++ mid) → (front : List ℕ) × (b : ℕ) × (is_blank b ≡ true) × (mid ≡ front ++ (b ∷ []))
last_is_white a mid some (inl none) = absurd (omega (arith, some, length-append a mid, ap length none))
last_is_white a mid some (inr cut) =
    let short : length a ≤ length cut.0 = omega (arith, some, length-append a mid, ap length cut.3, length-append cut.0 (cut.1 ∷ [])) in
    let on = goes_on a cut.0 mid (cut.1 ∷ []) cut.3 short in
    (on.0, cut.1, cut.2, on.2)

-- a solid word doesn't hold a piece that ends in a break
no_white_inside : (front : List ℕ) (b : ℕ) (rest word : List ℕ) → is_blank b ≡ true → All (λ x. is_blank x ≡ false) word → word ≡ (front ++ (b ∷ [])) ++ rest → ⊥
no_white_inside [] b rest [] white solid e = absurd (omega (arith, ap length e))
no_white_inside [] b rest (x ∷ word) white solid e = absurd (both_ways (is_blank b) (subst (λ z. is_blank z ≡ false) (ap (λ l. get_or l 0 0) e) (solid 0 0 (omega arith))) white)
no_white_inside (f ∷ front) b rest [] white solid e = absurd (omega (arith, ap length e))
no_white_inside (f ∷ front) b rest (x ∷ word) white solid e = no_white_inside front b rest word white (λ k d within. solid (suc k) d (omega (arith, within))) (ap (λ l. drop 1 l) e)

begins_so : (mid s after : List ℕ) → after ≡ mid ++ s → BeginsWithBreak after → BeginsWithBreak mid
begins_so [] s after e breaks = tt
begins_so (b ∷ mid) s after e breaks = subst BeginsWithBreak e breaks

-- before a word with which the text goes wrong no other one is
no_earlier : (P : List ℕ → Type 0) (bytes : List ℕ) (m n : ℕ) → IsFirstBad P bytes m → IsFirstBad P bytes n → m < n → ⊥
no_earlier P bytes m n f g below =
    let more = goes_on f.before g.before (f.word ++ f.after) (g.word ++ g.after) (sym f.stands.cut ∙ g.stands.cut) (omega (arith, below, f.place, g.place)) in
    let some : 0 < length more.0 = omega (arith, below, f.place, g.place, ap length more.1, length-append f.before more.0) in
    let white = last_is_white f.before more.0 some (subst EndsInBreak more.1 g.stands.left) in
    elim (cases_lt (length more.0) (length f.word)) [
      | inl short ↦
          let on = goes_on more.0 f.word (g.word ++ g.after) f.after (sym more.2) (omega (arith, short)) in
          no_white_inside white.0 white.1 on.0 f.word white.2 f.stands.solid (on.1 ∙ ap (λ l. l ++ on.0) white.3)
      | inr long ↦
          let on = goes_on f.word more.0 f.after (g.word ++ g.after) more.2 long in
          no_bad_word P g.before m g.good (record {
            before = f.before;
            word = f.word;
            after = on.0;
            stands = record { cut = more.1 ∙ ap (λ l. f.before ++ l) on.1; some = f.stands.some; solid = f.stands.solid; left = f.stands.left; right = begins_so on.0 (g.word ++ g.after) f.after on.2 f.stands.right };
            place = f.place;
            good = f.good;
            bad = f.bad;
          })
    ]

pub one_fault : (P : List ℕ → Type 0) (bytes : List ℕ) (a b : UseFault) → FirstFault P bytes a → FirstFault P bytes b → (a ≡ Memory → ⊥) → (b ≡ Memory → ⊥) → a ≡ b
one_fault P bytes Memory b f g p q = absurd (p refl)
one_fault P bytes a Memory f g p q = absurd (q refl)
one_fault P bytes (Item m) (Item n) f g p q = elim (cases_lt m n) [
  | inl below ↦ absurd (no_earlier P bytes m n f g below)
  | inr from ↦ elim (cases_lt n m) [
    | inl above ↦ absurd (no_earlier P bytes n m g f above)
    | inr to ↦ let same : m ≡ n = omega arith in ap Item same
  ]
]

pub no_fault : (P : List ℕ → Type 0) (bytes : List ℕ) (a : UseFault) → EachWord P bytes → FirstFault P bytes a → a ≡ Memory
no_fault P bytes Memory all f = refl
no_fault P bytes (Item at) all f = absurd (no_bad_word P bytes at all f)
