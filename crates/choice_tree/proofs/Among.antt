-- The options that are listed are those of the laws, and all of them.
use Rattle.std.proofs.Common.{◌≡◌, ◌⊎◌, ◌<◌, ◌+◌, ◌&&◌, ◌||◌, ◌++◌, ℕ, zero, suc, Bool, true, false, cond, not, List, [], ◌∷◌, Option, None, Some, IsSome, filter, get_or, length, map, nat_eq, nat_lt, slice_get, refl, sym, ap, subst, arith, ◌∙◌, inl, inr}
use Rattle.std.specs.Ordering.{is_gt}
use Rattle.std.proofs.lemmas.Bool.{and_parts, cases_Bool, cases_lt, eqb-true, lt-ltb, not-true}
use Rattle.std.proofs.lemmas.List.{get_or_past, length-map}
use Rattle.basics.specs.Members.{Has}
use Rattle.basics.proofs.Membership.{has-append_cases, has-append_left, has-append_right, has-filter, has-filter_back, has-flat_map, has-flat_map_back, has-map, has-map_back}
use Rattle.pms_names.specs.Flags.{has}
use Rattle.dep_atom.specs.Match.{value_matches}
use Rattle.dep_atom.specs.Values.{AtomValue}
use Rattle.dep_tree.specs.Grammar.{is_block}
use Rattle.pkg_state.specs.Consistent.{leaves_in}
use Rattle.pkg_state.specs.Package.{Package}
use Rattle.pkg_state.specs.declared.class.Class.{Class}
use Rattle.choice_law.specs.Universe.{IsValue, Offer, Stands, Universe, Value, absent, as_is, conflicts, is_new, keep, lines, no_offer, offer_at, package_of, standing, variant}
use Rattle.choice_law.specs.Tree.{Choice, IsOption, MayBe, MayChange, Obligation, Serves, absence, conflict, decided, filling, held, required, tree, wanted}
use Rattle.choice_tree.specs.Candidates.{Candidate, all_free, free_line, if_free, kept, of_line, put, rank, ranked, ranked_onto, varied}
use Rattle.choice_tree.specs.Open.{opposes}
use Rattle.choice_tree.specs.Options.{OptionsAreThose, beside, decision_of, decisions, in_order, is_among, leaving, needs, once_onto, options, others, ousting, same_value, second_part, served, serving}
use Rattle.choice_tree.specs.Places.{Place, no_place, numbers, package_in, place_at, places}
use Rattle.choice_tree.proofs.Numbers.{has_numbers, length_numbers, numbers_have}
use Rattle.choice_tree.proofs.Pick.{opposed, opposing, place_is, place_past, stands, there}

-- what is put and ranked is what was there
put_step : (b : Bool) (x y : Candidate) (ys rest : List Candidate) (z : Candidate) → (Has rest z → (x ≡ z) ⊎ Has ys z) → Has (cond b (x ∷ y ∷ ys) (y ∷ rest)) z → (x ≡ z) ⊎ Has (y ∷ ys) z
put_step true x y ys rest z h (inl e) = inl e
put_step true x y ys rest z h (inr k) = inr k
put_step false x y ys rest z h (inl e) = inr (inl e)
put_step false x y ys rest z h (inr k) = elim (h k) [ inl e ↦ inl e | inr m ↦ inr (inr m) ]

put_back : (b : Bool) (x y : Candidate) (ys rest : List Candidate) (z : Candidate) → ((x ≡ z) ⊎ Has ys z → Has rest z) → (x ≡ z) ⊎ Has (y ∷ ys) z → Has (cond b (x ∷ y ∷ ys) (y ∷ rest)) z
put_back true x y ys rest z h (inl e) = inl e
put_back true x y ys rest z h (inr k) = inr k
put_back false x y ys rest z h (inl e) = inr (h (inl e))
put_back false x y ys rest z h (inr (inl e)) = inl e
put_back false x y ys rest z h (inr (inr k)) = inr (h (inr k))

module _ (update : Bool) where
  put_has : (x : Candidate) (ys : List Candidate) (z : Candidate) → Has (put update x ys) z → (x ≡ z) ⊎ Has ys z
  put_has x [] z (inl e) = inl e
  put_has x [] z (inr h) = absurd h
  put_has x (y ∷ ys) z h = put_step (is_gt (rank update y x)) x y ys (put update x ys) z (put_has x ys z) h

  has_put : (x : Candidate) (ys : List Candidate) (z : Candidate) → (x ≡ z) ⊎ Has ys z → Has (put update x ys) z
  has_put x [] z (inl e) = inl e
  has_put x [] z (inr h) = absurd h
  has_put x (y ∷ ys) z h = put_back (is_gt (rank update y x)) x y ys (put update x ys) z (has_put x ys z) h

  onto_has : (xs out : List Candidate) (z : Candidate) → Has (ranked_onto update out xs) z → Has out z ⊎ Has xs z
  onto_has [] out z h = inl h
  onto_has (x ∷ xs) out z h = elim (onto_has xs (put update x out) z h) [
    | inl k ↦ elim (put_has x out z k) [ inl e ↦ inr (inl e) | inr m ↦ inl m ]
    | inr k ↦ inr (inr k)
  ]

  has_onto : (xs out : List Candidate) (z : Candidate) → Has out z ⊎ Has xs z → Has (ranked_onto update out xs) z
  has_onto [] out z (inl h) = h
  has_onto [] out z (inr h) = absurd h
  has_onto (x ∷ xs) out z (inl h) = has_onto xs (put update x out) z (inl (has_put x out z (inr h)))
  has_onto (x ∷ xs) out z (inr (inl e)) = has_onto xs (put update x out) z (inl (has_put x out z (inl e)))
  has_onto (x ∷ xs) out z (inr (inr h)) = has_onto xs (put update x out) z (inr h)

  in_order_is : (xs : List Candidate) (d : ℕ × Value) → Has (in_order update xs) d → (x : Candidate) × Has xs x × (decision_of x ≡ d)
  in_order_is xs d h =
      let r = has-map_back decision_of (ranked update xs) d h in
      (r.0, elim (onto_has xs [] r.0 r.1) [ inl none ↦ absurd none | inr k ↦ k ], r.2)

  in_order_has : (xs : List Candidate) (x : Candidate) → Has xs x → Has (in_order update xs) (decision_of x)
  in_order_has xs x h = has-map decision_of (ranked update xs) x (has_onto xs [] x (inr h))

-- the candidates of a line
abbrev pub cand : ℕ → Value → Package → Candidate
cand l v p = record { line = l; value = v; is = p }

-- it is one of this line
pub record IsOf (l : ℕ) (o : Offer) (x : Candidate) : Type 0 where
  pub at_line : x.line ≡ l
  pub means : package_of o x.value ≡ Some x.is
  pub value : IsValue o x.value

got_below : (ps : List Package) (i : ℕ) (p : Package) → slice_get ps i ≡ Some p → i < length ps
got_below [] i p e = absurd (let bad : ◌≡◌ {A = Option Package} None (Some p) = e in cc bad)
got_below (q ∷ ps) zero p e = omega arith
got_below (q ∷ ps) (suc i) p e = let less = got_below ps i p e in omega (arith, less)

below_got : (ps : List Package) (i : ℕ) → i < length ps → (p : Package) × (slice_get ps i ≡ Some p)
below_got [] i less = absurd (omega (arith, less))
below_got (q ∷ ps) zero less = (q, refl)
below_got (q ∷ ps) (suc i) less = below_got ps i (omega (arith, less))

varied_is : (l i : ℕ) (ps : List Package) (x : Candidate) → Has (varied l i ps) x → (j : ℕ) × (x.line ≡ l) × (x.value ≡ variant (i + j)) × (slice_get ps j ≡ Some x.is)
varied_is l i [] x h = absurd h
varied_is l i (p ∷ ps) x (inl e) =
    let same : i ≡ i + 0 = omega arith in
    (zero, ap (λ (y : Candidate). y.line) (sym e), ap (λ (y : Candidate). y.value) (sym e) ∙ ap (λ (k : ℕ). variant k) same, ap (λ (y : Candidate). Some y.is) e)
varied_is l i (p ∷ ps) x (inr h) =
    let r = varied_is l (suc i) ps x h in
    let same : suc i + r.0 ≡ i + suc r.0 = omega arith in
    (suc r.0, r.1, r.2 ∙ ap (λ (k : ℕ). variant k) same, r.3)

varied_has : (l i : ℕ) (ps : List Package) (j : ℕ) (p : Package) → slice_get ps j ≡ Some p → Has (varied l i ps) (cand l (variant (i + j)) p)
varied_has l i [] j p e = absurd (let bad : ◌≡◌ {A = Option Package} None (Some p) = e in cc bad)
varied_has l i (q ∷ ps) zero p e =
    let same : i ≡ i + 0 = omega arith in
    let one : q ≡ p = cc e in
    inl (ap (λ (k : ℕ). cand l (variant k) q) same ∙ ap (cand l (variant (i + 0))) one)
varied_has l i (q ∷ ps) (suc j) p e =
    let same : suc i + j ≡ i + suc j = omega arith in
    inr (subst (λ (k : ℕ). Has (varied l (suc i) ps) (cand l (variant k) p)) same (varied_has l (suc i) ps j p e))

varied_of : (l : ℕ) (o : Offer) (x : Candidate) → Has (varied l 0 o.variants) x → IsOf l o x × (is_new x.value ≡ true)
varied_of l o x h =
    let r = varied_is l 0 o.variants x h in
    let same : 0 + r.0 ≡ r.0 = omega arith in
    let v : x.value ≡ variant r.0 = r.2 ∙ ap (λ (k : ℕ). variant k) same in (
      record {
        at_line = r.1;
        means = ap (package_of o) v ∙ r.3;
        value = subst (λ (w : Value). IsValue o w) (sym v) (got_below o.variants r.0 x.is r.3);
      },
      ap is_new v,
    )

kept_of : (l : ℕ) (o : Offer) (x : Candidate) → Has (kept l o.installed) x → IsOf l o x
kept_of l o x h = by_case o.installed refl h where
  by_case : (z : Option Package) → o.installed ≡ z → Has (kept l z) x → IsOf l o x
  by_case None e k = absurd k
  by_case (Some p) e (inr k) = absurd k
  by_case (Some p) e (inl k) = record {
    at_line = ap (λ (y : Candidate). y.line) (sym k);
    means = ap (λ (y : Candidate). package_of o y.value) (sym k) ∙ (e ∙ ap (λ (y : Candidate). Some y.is) k);
    value = subst (λ (w : Value). IsValue o w) (ap (λ (y : Candidate). y.value) k) (subst (λ (w : Option Package). IsSome w) (sym e) refl);
  }

line_of_keeping : (l : ℕ) (o : Offer) (x : Candidate) → Has (of_line true l o) x → IsOf l o x
line_of_keeping l o x h = elim (has-append_cases (kept l o.installed) (varied l 0 o.variants) x h) [
  | inl k ↦ kept_of l o x k
  | inr k ↦ (varied_of l o x k).0
]

has_variant : (l : ℕ) (o : Offer) (i : ℕ) (p : Package) → slice_get o.variants i ≡ Some p → Has (varied l 0 o.variants) (cand l (variant i) p)
has_variant l o i p e = let same : 0 + i ≡ i = omega arith in subst (λ (k : ℕ). Has (varied l 0 o.variants) (cand l (variant k) p)) same (varied_has l 0 o.variants i p e)

keeping_has : (l : ℕ) (o : Offer) (v : Value) (p : Package) → package_of o v ≡ Some p → Has (of_line true l o) (cand l v p)
keeping_has l o keep p e = has-append_left (kept l o.installed) (varied l 0 o.variants) (cand l keep p) (subst (λ (z : Option Package). Has (kept l z) (cand l keep p)) (sym e) (inl refl))
keeping_has l o absent p e = absurd (let bad : ◌≡◌ {A = Option Package} None (Some p) = e in cc bad)
keeping_has l o (variant i) p e = has-append_right (kept l o.installed) (varied l 0 o.variants) (cand l (variant i) p) (has_variant l o i p e)

new_has : (l : ℕ) (o : Offer) (v : Value) (p : Package) → is_new v ≡ true → package_of o v ≡ Some p → Has (of_line false l o) (cand l v p)
new_has l o keep p new e = absurd (cc new)
new_has l o absent p new e = absurd (cc new)
new_has l o (variant i) p new e = has_variant l o i p e

if_free_is : {A : Type 0} (d : Option Value) (xs : List A) (x : A) → Has (if_free d xs) x → (d ≡ None) × Has xs x
if_free_is None xs x h = (refl, h)
if_free_is (Some v) xs x h = absurd h

if_free_has : {A : Type 0} (d : Option Value) (xs : List A) (x : A) → d ≡ None → Has xs x → Has (if_free d xs) x
if_free_has {A} d xs x e h = subst (λ (z : Option Value). Has (if_free z xs) x) (sym e) h

-- a value is none, or means a package
value_cases : (o : Offer) (v : Value) → IsValue o v → (v ≡ absent) ⊎ ((p : Package) × (package_of o v ≡ Some p))
value_cases o absent is = inl refl
value_cases o keep is = inr (installed_is o.installed is) where
  installed_is : (x : Option Package) → IsSome x → (p : Package) × (x ≡ Some p)
  installed_is None s = absurd (cc s)
  installed_is (Some p) s = (p, refl)
value_cases o (variant i) is = inr (below_got o.variants i is)

-- each once: what was there
same_values : (v w : Value) → same_value v w ≡ true → v ≡ w
same_values keep keep e = refl
same_values keep absent e = absurd (cc e)
same_values keep (variant j) e = absurd (cc e)
same_values absent keep e = absurd (cc e)
same_values absent absent e = refl
same_values absent (variant j) e = absurd (cc e)
same_values (variant i) keep e = absurd (cc e)
same_values (variant i) absent e = absurd (cc e)
same_values (variant i) (variant j) e = ap (λ (k : ℕ). variant k) (eqb-true i j e)

among_step : (d x : ℕ × Value) (ds : List (ℕ × Value)) (b : Bool) → (nat_eq x.0 d.0 && same_value x.1 d.1) ≡ b → (is_among d ds ≡ true → Has ds d) → (b || is_among d ds) ≡ true → Has (x ∷ ds) d
among_step d x ds true is later e =
    let both = and_parts (nat_eq x.0 d.0) (same_value x.1 d.1) is in
    let first = eqb-true x.0 d.0 both.0 in
    let second = same_values x.1 d.1 both.1 in
    inl (ap (λ (k : ℕ). (k, x.1)) first ∙ ap (λ (v : Value). (d.0, v)) second)
among_step d x ds false is later e = inr (later e)

among_has : (d : ℕ × Value) (ds : List (ℕ × Value)) → is_among d ds ≡ true → Has ds d
among_has d [] e = absurd (cc e)
among_has d (x ∷ ds) e = among_step d x ds (nat_eq x.0 d.0 && same_value x.1 d.1) refl (among_has d ds) e

abbrev OnceHas : List (ℕ × Value) → Type 0
OnceHas ds = (out : List (ℕ × Value)) (z : ℕ × Value) → Has (once_onto out ds) z → Has out z ⊎ Has ds z

once_step : (d : ℕ × Value) (ds out : List (ℕ × Value)) (z : ℕ × Value) (b : Bool) → OnceHas ds → Has (once_onto (cond b out (out ++ d ∷ [])) ds) z → Has out z ⊎ Has (d ∷ ds) z
once_step d ds out z true rest k = elim (rest out z k) [ inl m ↦ inl m | inr m ↦ inr (inr m) ]
once_step d ds out z false rest k = elim (rest (out ++ d ∷ []) z k) [
  | inl m ↦ elim (has-append_cases out (d ∷ []) z m) [
    | inl n ↦ inl n
    | inr n ↦ elim n [ inl e ↦ inr (inl e) | inr none ↦ absurd none ]
  ]
  | inr m ↦ inr (inr m)
]

once_has : (ds out : List (ℕ × Value)) (z : ℕ × Value) → Has (once_onto out ds) z → Has out z ⊎ Has ds z
once_has [] out z h = inl h
once_has (d ∷ ds) out z h = once_step d ds out z (is_among d out) (once_has ds) h

abbrev HasOnce : List (ℕ × Value) → Type 0
HasOnce ds = (out : List (ℕ × Value)) (z : ℕ × Value) → Has out z ⊎ Has ds z → Has (once_onto out ds) z

step_once : (d : ℕ × Value) (ds out : List (ℕ × Value)) (z : ℕ × Value) (b : Bool) → is_among d out ≡ b → HasOnce ds → Has out z ⊎ Has (d ∷ ds) z → Has (once_onto (cond b out (out ++ d ∷ [])) ds) z
step_once d ds out z true e rest (inl k) = rest out z (inl k)
step_once d ds out z true e rest (inr (inl k)) = rest out z (inl (subst (λ x. Has out x) k (among_has d out e)))
step_once d ds out z true e rest (inr (inr k)) = rest out z (inr k)
step_once d ds out z false e rest (inl k) = rest (out ++ d ∷ []) z (inl (has-append_left out (d ∷ []) z k))
step_once d ds out z false e rest (inr (inl k)) = rest (out ++ d ∷ []) z (inl (has-append_right out (d ∷ []) z (inl k)))
step_once d ds out z false e rest (inr (inr k)) = rest (out ++ d ∷ []) z (inr k)

has_once : (ds out : List (ℕ × Value)) (z : ℕ × Value) → Has out z ⊎ Has ds z → Has (once_onto out ds) z
has_once [] out z (inl h) = h
has_once [] out z (inr h) = absurd h
has_once (d ∷ ds) out z h = step_once d ds out z (is_among d out) refl (has_once ds) h

module _ (update : Bool) (u : Universe) (c : Choice) where
  abbrev ss : List Place
  ss = places u c

  abbrev place : ℕ → Place
  place l = get_or (places u c) l no_place

  long : length (places u c) ≡ lines u
  long = length-map (numbers (lines u) 0) (place_at u c) ∙ length_numbers (lines u) 0

  offer_is : (l : ℕ) → (place l).offer ≡ offer_at u l
  offer_is l = elim (cases_lt l (lines u)) [
    | inl less ↦ ap (λ (s : Place). s.offer) (place_is u c l less)
    | inr past ↦ ap (λ (s : Place). s.offer) (place_past u c l past) ∙ sym (get_or_past u.offers l no_offer past)
  ]

  decided_is : (l : ℕ) → l < lines u → (place l).decided ≡ decided c l
  decided_is l less = ap (λ (s : Place). s.decided) (place_is u c l less)

  -- a candidate of a line that isn't decided
  pub record IsFree (x : Candidate) : Type 0 where
    pub may : MayBe u c x.line x.value
    pub means : package_of (offer_at u x.line) x.value ≡ Some x.is

  free_of : (l : ℕ) (x : Candidate) → l < lines u → (place l).decided ≡ None → IsOf l (place l).offer x → IsFree x
  free_of l x less none is =
      let o = offer_is l ∙ ap (offer_at u) (sym is.at_line) in
      record {
        may = record {
          there = subst (λ (k : ℕ). k < lines u) (sym is.at_line) less;
          free = ap (decided c) is.at_line ∙ (sym (decided_is l less) ∙ none);
          value = subst (λ (o : Offer). IsValue o x.value) o is.value;
        };
        means = ap (λ (o : Offer). package_of o x.value) (sym o) ∙ is.means;
      }

  line_free : (keeps : Bool) (l : ℕ) (x : Candidate) → l < lines u → Has (free_line keeps ss l) x → IsFree x
  line_free true l x less h =
      let r = if_free_is (place l).decided (of_line true l (place l).offer) x h in
      free_of l x less r.0 (line_of_keeping l (place l).offer x r.1)
  line_free false l x less h =
      let r = if_free_is (place l).decided (of_line false l (place l).offer) x h in
      free_of l x less r.0 (varied_of l (place l).offer x r.1).0

  line_new : (l : ℕ) (x : Candidate) → Has (free_line false ss l) x → is_new x.value ≡ true
  line_new l x h = (varied_of l (place l).offer x (if_free_is (place l).decided (of_line false l (place l).offer) x h).1).1

  in_lines : (l : ℕ) → l < lines u → Has (numbers (length ss) 0) l
  in_lines l less = has_numbers (length ss) 0 l (omega arith) (let n = long in omega (arith, n, less))

  of_lines : (l : ℕ) → Has (numbers (length ss) 0) l → l < lines u
  of_lines l h = let b = (numbers_have (length ss) 0 l h).1 in let n = long in omega (arith, n, b)

  free_line_has : (l : ℕ) (v : Value) (p : Package) → MayBe u c l v → package_of (offer_at u l) v ≡ Some p → Has (free_line true ss l) (cand l v p)
  free_line_has l v p may is =
      if_free_has (place l).decided (of_line true l (place l).offer) (cand l v p) (decided_is l may.there ∙ may.free)
      (keeping_has l (place l).offer v p (ap (λ (o : Offer). package_of o v) (offer_is l) ∙ is))

  all_free_is : (x : Candidate) → Has (all_free ss) x → IsFree x
  all_free_is x h = let r = has-flat_map_back (λ l. free_line true ss l) (numbers (length ss) 0) x h in line_free true r.0 x (of_lines r.0 r.1) r.2

  all_free_has : (l : ℕ) (v : Value) (p : Package) → MayBe u c l v → package_of (offer_at u l) v ≡ Some p → Has (all_free ss) (cand l v p)
  all_free_has l v p may is = has-flat_map (λ l. free_line true ss l) (numbers (length ss) 0) l (cand l v p) (in_lines l may.there) (free_line_has l v p may is)

  served_is : (asker : List (List ℕ)) (a : AtomValue) (d : ℕ × Value) → Has (served update ss asker a) d → MayBe u c d.0 d.1 × Serves u d.0 d.1 a asker
  served_is asker a d h =
      let r = in_order_is update (filter (λ x. value_matches a x.is.facts asker) (all_free ss)) d h in
      let k = has-filter_back (λ x. value_matches a x.is.facts asker) (all_free ss) r.0 r.1 in
      let f = all_free_is r.0 k.0 in
      subst (λ (e : ℕ × Value). MayBe u c e.0 e.1 × Serves u e.0 e.1 a asker) r.2 (f.may, record { package_is = r.0.is; is = f.means; matched = k.1 })

  served_has : (asker : List (List ℕ)) (a : AtomValue) (l : ℕ) (v : Value) → MayBe u c l v → Serves u l v a asker → Has (served update ss asker a) (l, v)
  served_has asker a l v may s =
      in_order_has update (filter (λ x. value_matches a x.is.facts asker) (all_free ss)) (cand l v s.package_is)
      (has-filter (λ x. value_matches a x.is.facts asker) (all_free ss) (cand l v s.package_is) (all_free_has l v s.package_is may s.is) s.matched)

  standing_old : (x : Option Package) → is_new (standing x) ≡ false
  standing_old None = refl
  standing_old (Some p) = refl

  not_as_is : (l : ℕ) (v : Value) → is_new v ≡ true → ¬ (v ≡ as_is u l)
  not_as_is l v new e = let old : is_new v ≡ false = ap is_new e ∙ standing_old (offer_at u l).installed in cc (new, old)

  leaving_is : (l : ℕ) (z : Option Package) (d : ℕ × Value) → Has (leaving l z) d → (d ≡ (l, absent)) × IsSome z
  leaving_is l None d h = absurd h
  leaving_is l (Some p) d (inl e) = (sym e, refl)
  leaving_is l (Some p) d (inr h) = absurd h

  gone_other : (z : Option Package) → IsSome z → ¬ (absent ≡ standing z)
  gone_other None s e = cc s
  gone_other (Some p) s e = cc e

  others_is : (l : ℕ) (d : ℕ × Value) → Has (others update ss l) d → (v : Value) × MayChange u c l v × (d ≡ (l, v))
  others_is l d h = elim (cases_lt l (lines u)) [
    | inr past ↦ absurd (none_past (subst (λ (s : Place). Has (if_free s.decided (in_order update (of_line false l s.offer) ++ leaving l s.offer.installed)) d) (place_past u c l past) h))
    | inl less ↦ (
        let r = if_free_is (place l).decided (in_order update (of_line false l (place l).offer) ++ leaving l (place l).offer.installed) d h in
        elim (has-append_cases (in_order update (of_line false l (place l).offer)) (leaving l (place l).offer.installed) d r.1) [
          | inl one ↦ (
              let k = in_order_is update (of_line false l (place l).offer) d one in
              let w = varied_of l (place l).offer k.0 k.1 in
              let f = free_of l k.0 less r.0 w.0 in
              let may = subst (λ (j : ℕ). MayBe u c j k.0.value) w.0.at_line f.may in
              (k.0.value, record { may = may; other = not_as_is l k.0.value w.1 }, sym k.2 ∙ ap (λ (j : ℕ). (j, k.0.value)) w.0.at_line))
          | inr one ↦ (
              let k = leaving_is l (place l).offer.installed d one in (
                absent,
                record {
                  may = record { there = less; free = sym (decided_is l less) ∙ r.0; value = tt };
                  other = gone_other (offer_at u l).installed (subst (λ (o : Offer). IsSome o.installed) (offer_is l) k.1);
                },
                k.0,
              ))
        ])
  ] where
    none_past : Has (if_free no_place.decided (in_order update (of_line false l no_offer) ++ leaving l no_offer.installed)) d → ⊥
    none_past k = k

  others_has : (l : ℕ) (v : Value) → MayChange u c l v → Has (others update ss l) (l, v)
  others_has l v change =
      let less = change.may.there in
      if_free_has (place l).decided (in_order update (of_line false l (place l).offer) ++ leaving l (place l).offer.installed) (l, v) (decided_is l less ∙ change.may.free)
      (subst (λ (o : Offer). Has (in_order update (of_line false l o) ++ leaving l o.installed) (l, v)) (sym (offer_is l)) (by_value v change.may.value change.other)) where
        went : (z : Option Package) → ¬ (absent ≡ standing z) → Has (leaving l z) (l, absent)
        went None other = absurd (other refl)
        went (Some p) other = inl refl

        kept_same : (z : Option Package) → IsSome z → keep ≡ standing z
        kept_same None s = absurd (cc s)
        kept_same (Some p) s = refl

        by_value : (v : Value) → IsValue (offer_at u l) v → ¬ (v ≡ as_is u l) → Has (in_order update (of_line false l (offer_at u l)) ++ leaving l (offer_at u l).installed) (l, v)
        by_value keep is other = absurd (other (kept_same (offer_at u l).installed is))
        by_value absent is other = has-append_right (in_order update (of_line false l (offer_at u l))) (leaving l (offer_at u l).installed) (l, absent) (went (offer_at u l).installed other)
        by_value (variant i) is other =
            let p = below_got (offer_at u l).variants i is in
            has-append_left (in_order update (of_line false l (offer_at u l))) (leaving l (offer_at u l).installed) (l, variant i)
            (in_order_has update (of_line false l (offer_at u l)) (cand l (variant i) p.0) (new_has l (offer_at u l) (variant i) p.0 refl p.1))

  abbrev Peaceful : ℕ → ℕ → Value → Type 0
  Peaceful l m v = (p q : Package) → Stands u (filling u c) l p → package_of (offer_at u m) v ≡ Some q → conflicts (is_new (filling u c l)) p q ≡ false

  abbrev calm : ℕ → Candidate → Bool
  calm l x = not (opposes x.is (place l))

  beside_is : (l m : ℕ) (d : ℕ × Value) → Has (beside update ss l m) d → (v : Value) × MayBe u c m v × Peaceful l m v × (d ≡ (m, v))
  beside_is l m d h = by_case (nat_lt m (length ss)) refl h where
    by_case : (b : Bool) → nat_lt m (length ss) ≡ b → Has (cond b (if_free (place m).decided (in_order update (filter (calm l) (of_line true m (place m).offer)) ++ (m, absent) ∷ [])) []) d → (v : Value) × MayBe u c m v × Peaceful l m v × (d ≡ (m, v))
    by_case false e k = absurd k
    by_case true e k =
        let less : m < lines u = (let n = long in let b = below_from m (length ss) e in omega (arith, n, b)) in
        let r = if_free_is (place m).decided (in_order update (filter (calm l) (of_line true m (place m).offer)) ++ (m, absent) ∷ []) d k in
        elim (has-append_cases (in_order update (filter (calm l) (of_line true m (place m).offer))) ((m, absent) ∷ []) d r.1) [
          | inl one ↦ (
              let j = in_order_is update (filter (calm l) (of_line true m (place m).offer)) d one in
              let t = has-filter_back (calm l) (of_line true m (place m).offer) j.0 j.1 in
              let w = line_of_keeping m (place m).offer j.0 t.0 in
              let f = free_of m j.0 less r.0 w in
              let means : package_of (offer_at u m) j.0.value ≡ Some j.0.is = ap (λ (o : Offer). package_of o j.0.value) (sym (offer_is m)) ∙ w.means in (
                j.0.value,
                subst (λ (i : ℕ). MayBe u c i j.0.value) w.at_line f.may,
                (λ p q st is.
                    let same : j.0.is ≡ q = (let two : ◌≡◌ {A = Option Package} (Some j.0.is) (Some q) = sym means ∙ is in cc two) in
                    sym (opposing u c q l p st) ∙ (ap (λ (x : Package). opposes x (place l)) (sym same) ∙ not-true (opposes j.0.is (place l)) t.1)),
                sym j.2 ∙ ap (λ (i : ℕ). (i, j.0.value)) w.at_line,
              ))
          | inr one ↦ (absent, record { there = less; free = sym (decided_is m less) ∙ r.0; value = tt }, (λ p q st is. absurd (let bad : ◌≡◌ {A = Option Package} None (Some q) = is in cc bad)), elim one [ inl e ↦ sym e | inr none ↦ absurd none ])
        ] where
          below_from : (i n : ℕ) → nat_lt i n ≡ true → i < n
          below_from i n e = grind (arith, e)

  beside_has : (l m : ℕ) (v : Value) → MayBe u c m v → Peaceful l m v → Has (beside update ss l m) (m, v)
  beside_has l m v may calm_all =
      subst (λ (b : Bool). Has (cond b (if_free (place m).decided (in_order update (filter (calm l) (of_line true m (place m).offer)) ++ (m, absent) ∷ [])) []) (m, v)) (sym below)
      (if_free_has (place m).decided (in_order update (filter (calm l) (of_line true m (place m).offer)) ++ (m, absent) ∷ []) (m, v) (decided_is m may.there ∙ may.free)
      (elim (value_cases (offer_at u m) v may.value) [
        | inl none ↦ has-append_right (in_order update (filter (calm l) (of_line true m (place m).offer))) ((m, absent) ∷ []) (m, v) (inl (ap (λ (w : Value). (m, w)) (sym none)))
        | inr some ↦ has-append_left (in_order update (filter (calm l) (of_line true m (place m).offer))) ((m, absent) ∷ []) (m, v)
            (in_order_has update (filter (calm l) (of_line true m (place m).offer)) (cand m v some.0)
            (has-filter (calm l) (of_line true m (place m).offer) (cand m v some.0) (keeping_has m (place m).offer v some.0 (ap (λ (o : Offer). package_of o v) (offer_is m) ∙ some.1)) (ap not (quiet some.0 some.1))))
      ])) where
        below : nat_lt m (length ss) ≡ true
        below = let n = long in let less = may.there in lt-ltb m (length ss) (omega (arith, n, less))

        quiet : (q : Package) → package_of (offer_at u m) v ≡ Some q → opposes q (place l) ≡ false
        quiet q is = elim (cases_Bool (opposes q (place l))) [
          | inr e ↦ e
          | inl e ↦ absurd (let r = opposed u c q l e in let calm_one = calm_all r.0 q r.1 is in let loud = r.2 in cc (calm_one, loud))
        ]

  one_more : (more : Choice) (ds : List (ℕ × Value)) (e : Choice) → Has (map (λ d. d ∷ more) ds) e → (d : ℕ × Value) × Has ds d × (e ≡ d ∷ more)
  one_more more ds e h = let r = has-map_back (λ d. d ∷ more) ds e h in (r.0, r.1, sym r.2)

  has_more : (more : Choice) (ds : List (ℕ × Value)) (d : ℕ × Value) (e : Choice) → Has ds d → e ≡ d ∷ more → Has (map (λ d. d ∷ more) ds) e
  has_more more ds d e h is = subst (λ (x : Choice). Has (map (λ d. d ∷ more) ds) x) (sym is) (has-map (λ d. d ∷ more) ds d h)

  either : (o : Obligation) (e : Choice) → Has (options update u c o) e → Has (map (λ d. d ∷ c) (decisions update ss o)) e ⊎ Has (second_part update u c o) e
  either o e h = has-append_cases (map (λ d. d ∷ c) (decisions update ss o)) (second_part update u c o) e h

  is_decision : (o : Obligation) (d : ℕ × Value) (e : Choice) → Has (decisions update ss o) d → e ≡ d ∷ c → Has (options update u c o) e
  is_decision o d e h is = has-append_left (map (λ d. d ∷ c) (decisions update ss o)) (second_part update u c o) e (has_more c (decisions update ss o) d e h is)

  serving_is : (l : ℕ) (class : Class) (d : ℕ × Value) → Has (serving update ss class (package_in (place l))) d → (a : AtomValue) × (p : Package) × Stands u (filling u c) l p × Has (leaves_in class p) a × (is_block a ≡ false) × MayBe u c d.0 d.1 × Serves u d.0 d.1 a p.facts.enabled
  serving_is l class d h = by_case (package_in (place l)) refl h where
    by_case : (x : Option Package) → package_in (place l) ≡ x → Has (serving update ss class x) d → (a : AtomValue) × (p : Package) × Stands u (filling u c) l p × Has (leaves_in class p) a × (is_block a ≡ false) × MayBe u c d.0 d.1 × Serves u d.0 d.1 a p.facts.enabled
    by_case None e k = absurd k
    by_case (Some p) e k =
        let r = has-flat_map_back (λ a. served update ss p.facts.enabled a) (needs class p) d k in
        let leaf = has-filter_back (λ a. not (is_block a)) (leaves_in class p) r.0 r.1 in
        let s = served_is p.facts.enabled r.0 d r.2 in
        (r.0, p, there u c l p e, leaf.0, not-true (is_block r.0) leaf.1, s.0, s.1)

  serving_has : (l : ℕ) (class : Class) (a : AtomValue) (p : Package) (m : ℕ) (v : Value) → Stands u (filling u c) l p → Has (leaves_in class p) a → is_block a ≡ false → MayBe u c m v → Serves u m v a p.facts.enabled → Has (serving update ss class (package_in (place l))) (m, v)
  serving_has l class a p m v st leaf open_leaf may s =
      subst (λ (x : Option Package). Has (serving update ss class x) (m, v)) (sym (stands u c l p st))
      (has-flat_map (λ a. served update ss p.facts.enabled a) (needs class p) a (m, v)
      (has-filter (λ a. not (is_block a)) (leaves_in class p) a leaf (ap not open_leaf))
      (served_has p.facts.enabled a m v may s))

  abbrev ousts : Package → Candidate → Bool
  ousts z x = conflicts true x.is z

  ousting_is : (l : ℕ) (e : Choice) (d : ℕ × Value) → e ≡ d ∷ c → Has (ousting update ss (place l).offer.installed) d → IsOption u c (absence l) e
  ousting_is l e d is h = by_case (place l).offer.installed refl h where
    by_case : (x : Option Package) → (place l).offer.installed ≡ x → Has (ousting update ss x) d → IsOption u c (absence l) e
    by_case None was k = absurd k
    by_case (Some z) was k =
        let r = has-flat_map_back (λ m. in_order update (filter (ousts z) (free_line false ss m))) (numbers (length ss) 0) d k in
        let j = in_order_is update (filter (ousts z) (free_line false ss r.0)) d r.2 in
        let t = has-filter_back (ousts z) (free_line false ss r.0) j.0 j.1 in
        let f = line_free false r.0 j.0 (of_lines r.0 r.1) t.0 in
        (j.0.line, j.0.value, j.0.is, z, f.may, line_new r.0 j.0 t.0, f.means, ap (λ (o : Offer). o.installed) (sym (offer_is l)) ∙ was, t.1, is ∙ ap (λ (d : ℕ × Value). d ∷ c) (sym j.2))

  ousting_has : (l m : ℕ) (v : Value) (q z : Package) → MayBe u c m v → is_new v ≡ true → package_of (offer_at u m) v ≡ Some q → (offer_at u l).installed ≡ Some z → conflicts true q z ≡ true → Has (ousting update ss (place l).offer.installed) (m, v)
  ousting_has l m v q z may new means was loud =
      subst (λ (x : Option Package). Has (ousting update ss x) (m, v)) (sym (ap (λ (o : Offer). o.installed) (offer_is l) ∙ was))
      (has-flat_map (λ m. in_order update (filter (ousts z) (free_line false ss m))) (numbers (length ss) 0) m (m, v) (in_lines m may.there)
      (in_order_has update (filter (ousts z) (free_line false ss m)) (cand m v q)
      (has-filter (ousts z) (free_line false ss m) (cand m v q)
      (if_free_has (place m).decided (of_line false m (place m).offer) (cand m v q) (decided_is m may.there ∙ may.free)
      (new_has m (place m).offer v q new (ap (λ (o : Offer). package_of o v) (offer_is m) ∙ means))) loud)))

  pub options_are : (o : Obligation) (e : Choice) → Has (options update u c o) e → IsOption u c o e
  options_are (wanted a) e h = elim (either (wanted a) e h) [
    | inl one ↦ (let r = one_more c (served update ss [] a) e one in let s = served_is [] a r.0 r.1 in (r.0.0, r.0.1, s.0, s.1, r.2))
    | inr none ↦ absurd none
  ]
  options_are (required l) e h = elim (either (required l) e h) [
    | inl one ↦ (let r = one_more c (others update ss l) e one in let s = others_is l r.0 r.1 in (s.0, s.1, r.2 ∙ ap (λ (d : ℕ × Value). d ∷ c) s.2))
    | inr none ↦ absurd none
  ]
  options_are (conflict l m) e h = elim (either (conflict l m) e h) [
    | inl one ↦ inl (let r = one_more c (others update ss l) e one in let s = others_is l r.0 r.1 in (s.0, s.1, r.2 ∙ ap (λ (d : ℕ × Value). d ∷ c) s.2))
    | inr one ↦ inr (let r = one_more (held u c l) (beside update ss l m) e one in let s = beside_is l m r.0 r.1 in (s.0, s.1, s.2, r.2 ∙ ap (λ (d : ℕ × Value). d ∷ held u c l) s.3))
  ]
  options_are (tree l class) e h = elim (either (tree l class) e h) [
    | inl one ↦ (
        let r = one_more c (once_onto [] (serving update ss class (package_in (place l)) ++ others update ss l)) e one in
        elim (once_has (serving update ss class (package_in (place l)) ++ others update ss l) [] r.0 r.1) [
          | inl none ↦ absurd none
          | inr some ↦ elim (has-append_cases (serving update ss class (package_in (place l))) (others update ss l) r.0 some) [
            | inl leaf ↦ inl (let s = serving_is l class r.0 leaf in (s.0, s.1, r.0.0, r.0.1, s.2, s.3, s.4, s.5, s.6, r.2))
            | inr own ↦ inr (let s = others_is l r.0 own in (s.0, s.1, r.2 ∙ ap (λ (d : ℕ × Value). d ∷ c) s.2))
          ]
        ])
    | inr none ↦ absurd none
  ]
  options_are (absence l) e h = elim (either (absence l) e h) [
    | inl one ↦ (let r = one_more c (ousting update ss (place l).offer.installed) e one in ousting_is l e r.0 r.2 r.1)
    | inr none ↦ absurd none
  ]

  pub options_all : (o : Obligation) (e : Choice) → IsOption u c o e → Has (options update u c o) e
  options_all (wanted a) e o = is_decision (wanted a) (o.0, o.1) e (served_has [] a o.0 o.1 o.2 o.3) o.4
  options_all (required l) e o = is_decision (required l) (l, o.0) e (others_has l o.0 o.1) o.2
  options_all (conflict l m) e (inl o) = is_decision (conflict l m) (l, o.0) e (others_has l o.0 o.1) o.2
  options_all (conflict l m) e (inr o) =
      has-append_right (map (λ d. d ∷ c) (decisions update ss (conflict l m))) (second_part update u c (conflict l m)) e
      (has_more (held u c l) (beside update ss l m) (m, o.0) e (beside_has l m o.0 o.1 o.2) o.3)
  options_all (tree l class) e (inl o) =
      is_decision (tree l class) (o.2, o.3) e
      (has_once (serving update ss class (package_in (place l)) ++ others update ss l) [] (o.2, o.3) (inr
      (has-append_left (serving update ss class (package_in (place l))) (others update ss l) (o.2, o.3)
      (serving_has l class o.0 o.1 o.2 o.3 o.4 o.5 o.6 o.7 o.8)))) o.9
  options_all (tree l class) e (inr o) =
      is_decision (tree l class) (l, o.0) e
      (has_once (serving update ss class (package_in (place l)) ++ others update ss l) [] (l, o.0) (inr
      (has-append_right (serving update ss class (package_in (place l))) (others update ss l) (l, o.0) (others_has l o.0 o.1)))) o.2
  options_all (absence l) e o = is_decision (absence l) (o.0, o.1) e (ousting_has l o.0 o.1 o.2 o.3 o.4 o.5 o.6 o.7 o.8) o.9

pub options_are_those : OptionsAreThose
options_are_those update u c o e = (options_are update u c o e, options_all update u c o e)
