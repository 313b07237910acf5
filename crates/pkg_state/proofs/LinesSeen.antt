-- The first two packages on one line, by a map of the lines that were seen.
use denote.Ref.{Bor}
use Rattle.std.proofs.Common.{◌≡◌, ◌∙◌, ◌<◌, ◌+◌, ℕ, Bool, true, false, cond, List, [], ◌∷◌, ◌++◌, Option, Some, None, drop, get_or, length, ap, sym, subst, take, inl, inr}
use Rattle.std.specs.Prelude.{bytes_eq}
use Rattle.std.specs.BTreeMap.{is_at}
use Rattle.std.specs.Cmp.Lexicographic.{slice_cmp}
use Rattle.std.specs.Map.{lookup}
use Rattle.std.specs.Option.{option_map, option_or}
use Rattle.std.specs.Ordering.{nat_cmp}
use Rattle.std.proofs.lemmas.Bool.{both_ways, cases_Bool}
use Rattle.std.proofs.lemmas.List.{take_more}
use Rattle.std.proofs.lemmas.List.Folds.{find-append}
use Rattle.std.proofs.lemmas.Map.Text.{is_eq-slice_cmp}
use Rattle.std.proofs.lemmas.Slice.Eq.{bytes_eq-Decides}
use Rattle.basics.specs.Members.{Has}
use Rattle.basics.proofs.Membership.{has-map_back}
use Rattle.basics.proofs.Tests.{or-none}
use Rattle.pkg_state.specs.Package.{Package, line_of, lines_of}
use Rattle.pkg_state.specs.Consistent.{AreApart}
use Rattle.pkg_state.specs.Fault.{AreFirstTwins}
use Rattle.pkg_state.specs.State.{on_line}
use Rattle.pkg_state.proofs.Lines.{apart_push}
use Rattle.pkg_state.proofs.Lists.{found_passes, none_found, none_passes, parted}

abbrev line : Package → List ℕ
line p = line_of p.facts

abbrev pub Seen : Type 0
Seen = List (List ℕ × Bor Package)

abbrev pub entry : Seen → List ℕ → Option (Bor Package)
entry seen q = lookup (is_at (slice_cmp nat_cmp q)) seen

-- the map has what stands on each line
abbrev pub HasSeen : List Package → Seen → Type 0
HasSeen ps seen = (q : List ℕ) → option_map (λ p. p.now) (entry seen q) ≡ on_line ps q

-- the packages so far are apart, and the map has them
pub record AreSeen (ps : List Package) (seen : Seen) : Type 0 where
  pub apart : AreApart ps
  pub has : HasSeen ps seen

none_on_line : (ps : List Package) (q : Package) → on_line ps (line q) ≡ None → Has (lines_of ps) (line q) → ⊥
none_on_line ps q none has =
    let r = has-map_back line ps (line q) has in
    both_ways (bytes_eq (line q) (line r.0)) (none_passes (λ p. bytes_eq (line q) (line p)) ps (none_found (λ p. bytes_eq (line q) (line p)) ps none) r.0 r.1)
    ((bytes_eq-Decides (line q) (line r.0)).1 (sym r.2))

seen_more : (ps : List Package) (p : Bor Package) (l : List ℕ) (old new : Seen) → HasSeen ps old → l ≡ line p.now → on_line ps l ≡ None
    → ((q : List ℕ) → entry new q ≡ cond (is_at (slice_cmp nat_cmp l) q) (Some p) (entry old q)) → HasSeen (ps ++ p.now ∷ []) new
seen_more ps p l old new has is none changed q =
    ap (option_map (λ (r : Bor Package). r.now)) (changed q ∙ ap (λ (b : Bool). cond b (Some p) (entry old q)) (is_eq-slice_cmp l q))
    ∙ (elim (cases_Bool (bytes_eq l q)) [
      | inl y ↦ (
          let same : l ≡ q = (bytes_eq-Decides l q).0 y in
          let here : bytes_eq q (line p.now) ≡ true = (bytes_eq-Decides q (line p.now)).1 (sym same ∙ is) in
          ap (λ (b : Bool). option_map (λ (r : Bor Package). r.now) (cond b (Some p) (entry old q))) y
          ∙ sym (ap (λ (o : Option Package). option_or o (cond (bytes_eq q (line p.now)) (Some p.now) None)) (sym (ap (on_line ps) same) ∙ none)
          ∙ ap (λ (b : Bool). cond b (Some p.now) None) here))
      | inr n ↦ (
          let apart : bytes_eq q (line p.now) ≡ false = elim (cases_Bool (bytes_eq q (line p.now))) [
            | inl e ↦ absurd (both_ways (bytes_eq l q) n ((bytes_eq-Decides l q).1 (is ∙ sym ((bytes_eq-Decides q (line p.now)).0 e))))
            | inr e ↦ e
          ] in
          ap (λ (b : Bool). option_map (λ (r : Bor Package). r.now) (cond b (Some p) (entry old q))) n
          ∙ (has q ∙ sym (ap (λ (b : Bool). option_or (on_line ps q) (cond b (Some p.now) None)) apart ∙ or-none (on_line ps q))))
    ] ∙ sym (find-append (λ r. bytes_eq q (line r)) ps (p.now ∷ [])))

pub seen_next : (ps : List Package) (i : ℕ) (p : Bor Package) (l : List ℕ) (old new : Seen) → i < length ps → p.now ≡ get_or ps i p.now → AreSeen (take i ps) old → l ≡ line p.now
    → on_line (take i ps) l ≡ None
    → ((q : List ℕ) → entry new q ≡ cond (is_at (slice_cmp nat_cmp l) q) (Some p) (entry old q)) → AreSeen (take (i + 1) ps) new
seen_next ps i p l old new lt at are is none changed =
    let more : take (i + 1) ps ≡ take i ps ++ p.now ∷ [] = take_more ps i p.now lt ∙ ap (λ (x : Package). take i ps ++ x ∷ []) (sym at) in
    subst (λ (l : List Package). AreSeen l new) (sym more) (record {
      apart = apart_push (take i ps) p.now are.apart (none_on_line (take i ps) p.now (ap (on_line (take i ps)) (sym is) ∙ none));
      has = seen_more (take i ps) p l old new are.has is none changed;
    })

pub twins_at : (ps : List Package) (i : ℕ) (q p : Package) (l : List ℕ) → i < length ps → q ≡ get_or ps i q → AreApart (take i ps) → l ≡ line q → on_line (take i ps) l ≡ Some p → AreFirstTwins ps p q
twins_at ps i q p l lt at apart is found =
    let there = found_passes (λ r. bytes_eq l (line r)) (take i ps) p found in
    record {
      front = take i ps;
      back = drop (i + 1) ps;
      is = parted ps i q lt at;
      apart = apart;
      has = there.0;
      twin = sym ((bytes_eq-Decides l (line p)).0 there.1) ∙ is;
    }
