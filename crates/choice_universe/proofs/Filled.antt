-- Packages that are put on their lines one by one.
use Rattle.std.proofs.Common.{◌≡◌, ◌∙◌, ◌<◌, ◌||◌, ℕ, zero, suc, Bool, true, false, cond, List, [], ◌∷◌, ◌++◌, Option, Some, None, arith, refl, ap, sym, subst, inl, inr, get_or, length, map, take}
use Rattle.std.proofs.Math.Bool.{or-true}
use Rattle.std.specs.Prelude.{bytes_eq, is_some}
use Rattle.std.specs.BTreeMap.{is_at}
use Rattle.std.specs.List.{list_any}
use Rattle.std.specs.Map.{keys_of}
use Rattle.std.specs.Option.{option_or}
use Rattle.std.proofs.lemmas.Bool.{cases_Bool}
use Rattle.std.proofs.lemmas.List.{append-nil, map-append}
use Rattle.std.proofs.lemmas.List.Elements.{filter-append}
use Rattle.std.proofs.lemmas.List.Folds.{find-append, list_any-append}
use Rattle.std.proofs.lemmas.Map.Text.{is_eq-slice_cmp}
use Rattle.std.proofs.lemmas.Slice.Eq.{bytes_eq-Decides}
use Rattle.basics.specs.Members.{AreDistinct, Has}
use Rattle.basics.proofs.Membership.{has-at, has-map}
use Rattle.basics.proofs.Tests.{or-false, or-none}
use Rattle.basics.proofs.Texts.{bytes_eq-apart, bytes_eq-same, bytes_eq-swap}
use Rattle.pms_names.specs.Flags.{IsRising, byte_order, has}
use Rattle.pkg_state.specs.Package.{Package, line_of, lines_of}
use Rattle.pkg_state.specs.State.{on_line}
use Rattle.choice_law.specs.Universe.{Offer}
use Rattle.choice_tree.specs.Views.{offer_of}
use Rattle.choice_tree.specs.declared.universe.Offer.{Offer as TheOffer}
use Rattle.choice_universe.specs.Filled.{Entries, IsFilled, found, offer_found}
use Rattle.choice_universe.specs.Offers.{offer_on, variants_on}

abbrev pub pair : Option Package → List Package → Offer
pair o ps = record { installed = o; variants = ps }

-- at this line there is something else now
abbrev pub Changes : List ℕ → Entries → Entries → Option TheOffer → Type 0
Changes line old new w = (q : List ℕ) → found new q ≡ cond (bytes_eq line q) w (found old q)

pub changes : (line : List ℕ) (old new : Entries) (w : Option TheOffer)
    → ((q : List ℕ) → found new q ≡ cond (is_at (byte_order line) q) w (found old q)) → Changes line old new w
changes line old new w h q = h q ∙ ap (λ (b : Bool). cond b w (found old q)) (is_eq-slice_cmp line q)

-- one more package
lines_more : (ps : List Package) (p : Package) (q : List ℕ) → has (lines_of (ps ++ p ∷ [])) q ≡ (has (lines_of ps) q || bytes_eq q (line_of p.facts))
lines_more ps p q =
    ap (list_any (bytes_eq q)) (map-append (λ (r : Package). line_of r.facts) ps (p ∷ []))
    ∙ (list_any-append (bytes_eq q) (lines_of ps) (line_of p.facts ∷ [])
    ∙ ap (λ (b : Bool). has (lines_of ps) q || b) (or-false (bytes_eq q (line_of p.facts))))

variants_more : (ps : List Package) (p : Package) (q : List ℕ) (b : Bool) → bytes_eq q (line_of p.facts) ≡ b → variants_on (ps ++ p ∷ []) q ≡ variants_on ps q ++ cond b (p ∷ []) []
variants_more ps p q b e =
    filter-append (λ (r : Package). bytes_eq q (line_of r.facts)) ps (p ∷ [])
    ∙ ap (λ (c : Bool). variants_on ps q ++ cond c (p ∷ []) []) e

installed_more : (ps : List Package) (p : Package) (q : List ℕ) (b : Bool) → bytes_eq q (line_of p.facts) ≡ b → on_line (ps ++ p ∷ []) q ≡ option_or (on_line ps q) (cond b (Some p) None)
installed_more ps p q b e =
    find-append (λ (r : Package). bytes_eq q (line_of r.facts)) ps (p ∷ [])
    ∙ ap (λ (c : Bool). option_or (on_line ps q) (cond c (Some p) None)) e

-- the test of another line
here : (line q : List ℕ) (p : Package) (b : Bool) → line ≡ line_of p.facts → bytes_eq line q ≡ b → bytes_eq q (line_of p.facts) ≡ b
here line q p b is e = ap (bytes_eq q) (sym is) ∙ (bytes_eq-swap q line ∙ e)

-- a variant goes behind those of its line
pub put_variant : (installed before : List Package) (p : Package) (line : List ℕ) (old mid new : Entries) (offer put : TheOffer)
    → line ≡ line_of p.facts → offer_of offer ≡ offer_found (found old line)
    → put.installed ≡ offer.installed → put.variants.items ≡ offer.variants.items ++ p ∷ []
    → Changes line old mid None → Changes line mid new (Some put) → IsRising (keys_of new)
    → IsFilled installed before old → IsFilled installed (before ++ p ∷ []) new
put_variant installed before p line old mid new offer put is taken same pushed away back rising filled = record {
  rising = rising;
  those = λ q. those q;
  each = λ q. each q;
} where
  those : (q : List ℕ) → is_some (found new q) ≡ (has (lines_of installed) q || has (lines_of (before ++ p ∷ [])) q)
  those q = elim (cases_Bool (bytes_eq line q)) [
    | inl y ↦ ap is_some (back q ∙ ap (λ (b : Bool). cond b (Some put) (found mid q)) y)
        ∙ sym (ap (λ (b : Bool). has (lines_of installed) q || b)
        (lines_more before p q ∙ (ap (λ (b : Bool). has (lines_of before) q || b) (here line q p true is y) ∙ or-true (has (lines_of before) q)))
        ∙ or-true (has (lines_of installed) q))
    | inr n ↦ ap is_some (back q ∙ (ap (λ (b : Bool). cond b (Some put) (found mid q)) n ∙ (away q ∙ ap (λ (b : Bool). cond b None (found old q)) n)))
        ∙ (filled.those q ∙ sym (ap (λ (b : Bool). has (lines_of installed) q || b)
        (lines_more before p q ∙ (ap (λ (b : Bool). has (lines_of before) q || b) (here line q p false is n) ∙ or-false (has (lines_of before) q)))))
  ]

  was : offer_of offer ≡ offer_on installed before line
  was = taken ∙ filled.each line

  each : (q : List ℕ) → offer_found (found new q) ≡ offer_on installed (before ++ p ∷ []) q
  each q = elim (cases_Bool (bytes_eq line q)) [
    | inl y ↦ (
        let e : line ≡ q = (bytes_eq-Decides line q).0 y in
        ap offer_found (back q ∙ ap (λ (b : Bool). cond b (Some put) (found mid q)) y)
        ∙ (ap (λ (o : Option Package). pair o put.variants.items) (same ∙ ap (λ (o : Offer). o.installed) was)
        ∙ (ap (λ (ps : List Package). pair (on_line installed line) ps) (pushed ∙ (ap (λ (o : Offer). o.variants ++ p ∷ []) was ∙ sym (variants_more before p line true (ap (bytes_eq line) (sym is) ∙ bytes_eq-same line))))
        ∙ ap (λ (l : List ℕ). offer_on installed (before ++ p ∷ []) l) e)))
    | inr n ↦ ap offer_found (back q ∙ (ap (λ (b : Bool). cond b (Some put) (found mid q)) n ∙ (away q ∙ ap (λ (b : Bool). cond b None (found old q)) n)))
        ∙ (filled.each q ∙ ap (λ (ps : List Package). pair (on_line installed q) ps)
        (sym (variants_more before p q false (here line q p false is n) ∙ append-nil (variants_on before q))))
  ]

-- an installed package comes to a line where nothing is installed
pub put_installed : (before : List Package) (p : Package) (line : List ℕ) (old new : Entries) (put : TheOffer)
    → line ≡ line_of p.facts → on_line before (line_of p.facts) ≡ None
    → put.installed ≡ Some p → put.variants.items ≡ []
    → Changes line old new (Some put) → IsRising (keys_of new)
    → IsFilled before [] old → IsFilled (before ++ p ∷ []) [] new
put_installed before p line old new put is free one no_variants back rising filled = record {
  rising = rising;
  those = λ q. those q;
  each = λ q. each q;
} where
  those : (q : List ℕ) → is_some (found new q) ≡ (has (lines_of (before ++ p ∷ [])) q || false)
  those q = elim (cases_Bool (bytes_eq line q)) [
    | inl y ↦ ap is_some (back q ∙ ap (λ (b : Bool). cond b (Some put) (found old q)) y)
        ∙ sym (ap (λ (b : Bool). b || false)
        (lines_more before p q ∙ (ap (λ (b : Bool). has (lines_of before) q || b) (here line q p true is y) ∙ or-true (has (lines_of before) q))))
    | inr n ↦ ap is_some (back q ∙ ap (λ (b : Bool). cond b (Some put) (found old q)) n)
        ∙ (filled.those q ∙ sym (ap (λ (b : Bool). b || false)
        (lines_more before p q ∙ (ap (λ (b : Bool). has (lines_of before) q || b) (here line q p false is n) ∙ or-false (has (lines_of before) q)))))
  ]

  each : (q : List ℕ) → offer_found (found new q) ≡ offer_on (before ++ p ∷ []) [] q
  each q = elim (cases_Bool (bytes_eq line q)) [
    | inl y ↦ (
        let e : line ≡ q = (bytes_eq-Decides line q).0 y in
        ap offer_found (back q ∙ ap (λ (b : Bool). cond b (Some put) (found old q)) y)
        ∙ (ap (λ (o : Option Package). pair o put.variants.items) one
        ∙ (ap (pair (Some p)) no_variants
        ∙ ap (λ (o : Option Package). pair o []) (sym (installed_more before p q true (here line q p true is y)
        ∙ ap (λ (o : Option Package). option_or o (Some p)) (ap (on_line before) (sym e ∙ is) ∙ free)))))
        )
    | inr n ↦ ap offer_found (back q ∙ ap (λ (b : Bool). cond b (Some put) (found old q)) n)
        ∙ (filled.each q ∙ ap (λ (o : Option Package). pair o [])
        (sym (installed_more before p q false (here line q p false is n) ∙ or-none (on_line before q))))
  ]

-- of packages on lines of their own none stands on the line of a later one
pub none_before : (ps : List Package) (i : ℕ) (p : Package) → AreDistinct (lines_of ps) → i < length ps → p ≡ get_or ps i p → on_line (take i ps) (line_of p.facts) ≡ None
none_before [] i p apart lt is = absurd (omega arith)
none_before (r ∷ ps) zero p apart lt is = refl
none_before (r ∷ ps) (suc i) p apart lt is =
    let there : Has ps p = has-at ps i p (omega arith) is in
    let other : bytes_eq (line_of p.facts) (line_of r.facts) ≡ false = bytes_eq-apart (line_of p.facts) (line_of r.facts)
    (λ e. apart.0 (subst (λ (l : List ℕ). Has (lines_of ps) l) e (has-map (λ (s : Package). line_of s.facts) ps p there))) in
    ap (λ (b : Bool). cond b (Some r) (on_line (take i ps) (line_of p.facts))) other
    ∙ none_before ps i p apart.1 (omega arith) is

pub none_yet : (entries : Entries) → entries ≡ [] → IsRising (keys_of entries) → IsFilled [] [] entries
none_yet entries empty rising = record {
  rising = rising;
  those = λ q. ap (λ (es : Entries). is_some (found es q)) empty;
  each = λ q. ap (λ (es : Entries). offer_found (found es q)) empty;
}

pub same_map : {A : Type 0} (xs : List A) → map (λ y. y) xs ≡ xs
same_map [] = refl
same_map (x ∷ xs) = ap (λ l. x ∷ l) (same_map xs)
