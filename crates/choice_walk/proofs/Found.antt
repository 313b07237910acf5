-- The first that is open, of a line and of all.
use Rattle.std.proofs.Common.{◌≡◌, ◌∙◌, ◌<◌, ◌≤◌, ◌+◌, ◌-◌, ◌++◌, ℕ, zero, suc, Bool, false, cond, List, Option, None, Some, add-one, ap, arith, length, map, refl, sym}
use Rattle.std.specs.List.{find, flat_map}
use Rattle.std.specs.Option.{option_map, option_or}
use Rattle.std.proofs.lemmas.List.Folds.{find-append}
use Rattle.std.proofs.lemmas.List.{length-map}
use Rattle.dep_atom.specs.Values.{AtomValue}
use Rattle.pkg_state.specs.declared.class.Class.{Class}
use Rattle.pkg_state.proofs.Lists.{find_map}
use Rattle.choice_law.specs.Tree.{Choice, Obligation, absence, conflict, required, tree, wanted}
use Rattle.choice_law.specs.Universe.{Universe, lines}
use Rattle.choice_tree.specs.Open.{classes, first_open, is_open_of, obligations, obligations_of}
use Rattle.choice_tree.specs.Places.{Place, numbers, place_at, places}
use Rattle.choice_tree.specs.Seen.{place_of, places_of}
use Rattle.choice_tree.specs.declared.place.Place.{Place as ThePlace}
use Rattle.choice_tree.proofs.Numbers.{length_numbers, numbers_done, numbers_next}

module _ (test : ℕ → Bool) (n l : ℕ) (less : l < n) where
  -- this one passes not, so the first is further on
  pub skip : (r : Option ℕ) → test l ≡ false → find test (numbers (n - l) l) ≡ r → find test (numbers (n - (l + 1)) (l + 1)) ≡ r
  skip r off before = sym (ap (find test) (numbers_next n l less) ∙ ap (λ (b : Bool). cond b (Some l) (find test (numbers (n - (l + 1)) (l + 1)))) off) ∙ before

module _ (test : Obligation → Bool) where
  pub line_found : (l n : ℕ) (x : Option ℕ) (y : Option Class) → test (required l) ≡ false → x ≡ find (λ m. test (conflict l m)) (numbers n 0) → y ≡ find (λ k. test (tree l k)) classes → find test (obligations_of n l) ≡ option_or (option_map (λ m. conflict l m) x) (option_map (λ k. tree l k) y)
  line_found l n x y off first second =
      ap (λ (b : Bool). cond b (Some (required l)) (find test (map (λ m. conflict l m) (numbers n 0) ++ map (λ k. tree l k) classes))) off
      ∙ (find-append test (map (λ m. conflict l m) (numbers n 0)) (map (λ k. tree l k) classes)
      ∙ (ap (λ (o : Option Obligation). option_or o (find test (map (λ k. tree l k) classes))) (find_map test (λ m. conflict l m) (numbers n 0) ∙ ap (option_map (λ m. conflict l m)) (sym first))
      ∙ ap (λ (o : Option Obligation). option_or (option_map (λ m. conflict l m) x) o) (find_map test (λ k. tree l k) classes ∙ ap (option_map (λ k. tree l k)) (sym second))))

  pub all_found : (atoms : List AtomValue) (n : ℕ) (x : Option AtomValue) (y : Option Obligation) (z : Option ℕ) → x ≡ find (λ a. test (wanted a)) atoms → y ≡ find test (flat_map (λ l. obligations_of n l) (numbers n 0)) → z ≡ find (λ l. test (absence l)) (numbers n 0) → find test (obligations atoms n) ≡ option_or (option_map (λ a. wanted a) x) (option_or y (option_map (λ l. absence l) z))
  all_found atoms n x y z first second third =
      let packages = flat_map (λ l. obligations_of n l) (numbers n 0) in
      let gone = map (λ l. absence l) (numbers n 0) in
      find-append test (map (λ a. wanted a) atoms) (packages ++ gone)
      ∙ (ap (λ (o : Option Obligation). option_or o (find test (packages ++ gone))) (find_map test (λ a. wanted a) atoms ∙ ap (option_map (λ a. wanted a)) (sym first))
      ∙ ap (λ (o : Option Obligation). option_or (option_map (λ a. wanted a) x) o) (find-append test packages gone
      ∙ (ap (λ (o : Option Obligation). option_or o (find test gone)) (sym second)
      ∙ ap (λ (o : Option Obligation). option_or y o) (find_map test (λ l. absence l) (numbers n 0) ∙ ap (option_map (λ l. absence l)) (sym third)))))

  module _ (n l : ℕ) (less : l < n) where
    abbrev ahead : List ℕ → Option Obligation
    ahead ls = find test (flat_map (λ k. obligations_of n k) ls)

    ahead_is : ahead (numbers (n - l) l) ≡ option_or (find test (obligations_of n l)) (ahead (numbers (n - (l + 1)) (l + 1)))
    ahead_is = ap ahead (numbers_next n l less) ∙ find-append test (obligations_of n l) (flat_map (λ k. obligations_of n k) (numbers (n - (l + 1)) (l + 1)))

    pub skip_line : (r x : Option Obligation) → x ≡ None → x ≡ find test (obligations_of n l) → ahead (numbers (n - l) l) ≡ r → ahead (numbers (n - (l + 1)) (l + 1)) ≡ r
    skip_line r x none is before =
        sym (ahead_is ∙ ap (λ (o : Option Obligation). option_or o (ahead (numbers (n - (l + 1)) (l + 1)))) (sym is ∙ none)) ∙ before

    pub hit_line : (r : Option Obligation) (o : Obligation) → Some o ≡ find test (obligations_of n l) → ahead (numbers (n - l) l) ≡ r → Some o ≡ r
    hit_line r o is before =
        sym (ahead_is ∙ ap (λ (x : Option Obligation). option_or x (ahead (numbers (n - (l + 1)) (l + 1)))) (sym is)) ∙ before

module _ (test : Obligation → Bool) (n : ℕ) where
  abbrev of_all : Option Obligation
  of_all = find test (flat_map (λ k. obligations_of n k) (numbers n 0))

  -- where nothing is open of the first lines, the first that is open is further on
  from_line : (l : ℕ) → l ≤ n → ((k : ℕ) → k < l → find test (obligations_of n k) ≡ None) → find test (flat_map (λ k. obligations_of n k) (numbers (n - l) l)) ≡ of_all
  from_line zero within shut = let all : n - 0 ≡ n = omega arith in ap (λ (m : ℕ). find test (flat_map (λ k. obligations_of n k) (numbers m 0))) all
  from_line (suc l) within shut =
      ap (λ (m : ℕ). find test (flat_map (λ k. obligations_of n k) (numbers (n - m) m))) (sym (add-one l))
      ∙ skip_line test n l (omega (arith, within)) of_all None refl (sym (shut l (omega arith))) (from_line l (omega (arith, within)) (λ k less. shut k (omega (arith, less))))

  pub first_at : (l : ℕ) (o : Obligation) → l < n → ((k : ℕ) → k < l → find test (obligations_of n k) ≡ None) → Some o ≡ find test (obligations_of n l) → Some o ≡ of_all
  first_at l o within shut is = hit_line test n l within of_all o is (from_line l (omega (arith, within)) shut)

  pub first_none : ((k : ℕ) → k < n → find test (obligations_of n k) ≡ None) → None ≡ of_all
  first_none shut = ap (λ (ls : List ℕ). find test (flat_map (λ k. obligations_of n k) ls)) (sym (numbers_done n n (omega arith))) ∙ from_line n (omega arith) shut

pub same_first : (u : Universe) (c : Choice) (ps : List ThePlace) → places_of ps ≡ places u c → find (is_open_of (places_of ps)) (obligations u.wanted (length ps)) ≡ first_open u c
same_first u c ps is =
    let long : length ps ≡ lines u = sym (length-map ps place_of) ∙ (ap length is ∙ (length-map (numbers (lines u) 0) (place_at u c) ∙ length_numbers (lines u) 0)) in
    ap (λ (ss : List Place). find (is_open_of ss) (obligations u.wanted (length ps))) is
    ∙ ap (λ (n : ℕ). find (is_open_of (places u c)) (obligations u.wanted n)) long
