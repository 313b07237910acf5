-- What the code knows of a line, and what the definitions say of it.
use Rattle.std.proofs.Common.{◌≡◌, ◌⊎◌, ◌≢◌, ◌<◌, ◌≤◌, ◌+◌, ◌∙◌, ◌||◌, ◌&&◌, ◌++◌, ℕ, Bool, true, false, cond, List, [], ◌∷◌, Option, None, Some, filter, get_or, inl, inr, is_some, length, refl, ap, arith, subst, sym}
use Rattle.std.specs.Prelude.{bytes_eq, slice_set}
use Rattle.std.specs.List.{list_any}
use Rattle.std.specs.Option.{option_map_or}
use Rattle.std.proofs.lemmas.Bool.{and_from, and_parts, cases_lt, or_left, or_right}
use Rattle.std.proofs.lemmas.Bool.Decides.{eqb_tells}
use Rattle.std.proofs.lemmas.List.{length-map}
use Rattle.basics.specs.Members.{Has}
use Rattle.basics.proofs.Members.{passes_some, some_passes}
use Rattle.basics.proofs.Membership.{has-filter, has-filter_back}
use Rattle.dep_atom.specs.Ids.{id_text}
use Rattle.dep_atom.specs.Match.{value_matches}
use Rattle.dep_atom.specs.Values.{AtomValue}
use Rattle.pkg_state.specs.Consistent.{facts_of, is_met}
use Rattle.pkg_state.specs.Package.{Package}
use Rattle.pkg_state.specs.declared.class.Class.TheVariants.{Rdepend}
use Rattle.choice_law.specs.Tree.{Choice, decided, filling}
use Rattle.choice_law.specs.Universe.{Offer, Stands, Universe, Value, absent, is_new, keep, lines, no_offer, offer_at, package_of, packages, standing, variant}
use Rattle.choice_tree.specs.Places.{Place, is_one, no_place, numbers, package_in, packages_in, place_at as placed, places, value_in, with_decided}
use Rattle.choice_tree.proofs.Numbers.{has_numbers, length_numbers, numbers_have}
use Rattle.choice_tree.proofs.Packages.{packages_are}
use Rattle.choice_tree.proofs.Pick.{one_has, one_is, place_is, place_past, stands, there}
use Rattle.choice_tree.proofs.Turned.{placed_after}
use Rattle.merge_edges.specs.Changes.{changes_line}
use Rattle.merge_edges.specs.Found.{alone_in, arriving, comer, hit_comers, hit_lines, is_changed, is_hit, place_at, told_lines}
use Rattle.merge_edges.specs.Waits.{Comes, IsThere, alone}

arriving_is : (o : Offer) (v : Value) (x : Package) → arriving o v ≡ Some x → (is_new v ≡ true) × (package_of o v ≡ Some x)
arriving_is o keep x e = absurd (cc e)
arriving_is o absent x e = absurd (cc e)
arriving_is o (variant i) x e = (refl, e)

is_arriving : (o : Offer) (v : Value) (x : Package) → is_new v ≡ true → package_of o v ≡ Some x → arriving o v ≡ Some x
is_arriving o keep x new e = absurd (cc new)
is_arriving o absent x new e = absurd (cc new)
is_arriving o (variant i) x new e = e

installed_stands : (o : Offer) → package_of o (standing o.installed) ≡ o.installed
installed_stands o = by_case o.installed refl where
  by_case : (x : Option Package) → o.installed ≡ x → package_of o (standing x) ≡ x
  by_case None e = refl
  by_case (Some p) e = e

module _ (u : Universe) (c : Choice) where
  pub long : length (places u c) ≡ lines u
  long = length-map (numbers (lines u) 0) (placed u c) ∙ length_numbers (lines u) 0

  -- the line is among those that the code goes through
  pub among : (l : ℕ) → l < lines u → Has (numbers (length (places u c)) 0) l
  among l less = has_numbers (length (places u c)) 0 l (omega arith) (omega (arith, less, long))

  pub changed_is : (l : ℕ) → l < lines u → is_changed (place_at (places u c) l) ≡ changes_line u c l
  changed_is l less = ap is_changed (place_is u c l less)

  pub comer_comes : (l : ℕ) (x : Package) → comer (place_at (places u c) l) ≡ Some x → Comes u c l x
  comer_comes l x e = elim (cases_lt l (lines u)) [
    | inl less ↦ (let r = arriving_is (offer_at u l) (filling u c l) x (ap comer (sym (place_is u c l less)) ∙ e) in
        (r.0, record { there = less; is = r.1 }))
    | inr past ↦ absurd (let bad : ◌≡◌ {A = Option Package} None (Some x) = sym (ap comer (place_past u c l past)) ∙ e in cc bad)
  ]

  pub comes_comer : (l : ℕ) (x : Package) → Comes u c l x → comer (place_at (places u c) l) ≡ Some x
  comes_comer l x h = ap comer (place_is u c l h.1.there) ∙ is_arriving (offer_at u l) (filling u c l) x h.0 h.1.is

  pub offer_there : (k : ℕ) (y : Package) → (place_at (places u c) k).offer.installed ≡ Some y → IsThere u k y
  offer_there k y e = elim (cases_lt k (lines u)) [
    | inl less ↦ record {
      there = less;
      is = installed_stands (offer_at u k) ∙ (ap (λ (s : Place). s.offer.installed) (sym (place_is u c k less)) ∙ e);
    }
    | inr past ↦ absurd (let bad : ◌≡◌ {A = Option Package} None (Some y) = sym (ap (λ (s : Place). s.offer.installed) (place_past u c k past)) ∙ e in cc bad)
  ]

  pub there_offer : (k : ℕ) (y : Package) → IsThere u k y → (place_at (places u c) k).offer.installed ≡ Some y
  there_offer k y st =
      ap (λ (s : Place). s.offer.installed) (place_is u c k st.there) ∙ (sym (installed_stands (offer_at u k)) ∙ st.is)

  module _ (asker : List (List ℕ)) (a : AtomValue) where
    abbrev matches : Package → Bool
    matches p = value_matches a p.facts asker

    -- what the atom matches on the line
    pub hit_stands : (m : ℕ) → Has (hit_lines (places u c) asker a) m → (y : Package) × Stands u (filling u c) m y × (value_matches a y.facts asker ≡ true)
    hit_stands m h =
        let r = has-filter_back (is_hit (places u c) asker a) (numbers (length (places u c)) 0) m h in
        let one = one_is matches (package_in (place_at (places u c) m)) r.1 in
        (one.0, there u c m one.0 one.1, one.2)

    is_hit_of : (m : ℕ) (y : Package) → Stands u (filling u c) m y → value_matches a y.facts asker ≡ true → is_hit (places u c) asker a m ≡ true
    is_hit_of m y st e = one_has matches (package_in (place_at (places u c) m)) y (stands u c m y st) ∙ e

    pub stands_hit : (m : ℕ) (y : Package) → Stands u (filling u c) m y → value_matches a y.facts asker ≡ true → Has (hit_lines (places u c) asker a) m
    stands_hit m y st e = has-filter (is_hit (places u c) asker a) (numbers (length (places u c)) 0) m (among m st.there) (is_hit_of m y st e)

    abbrev comes_and_hits : ℕ → Bool
    comes_and_hits l = is_new (value_in (place_at (places u c) l)) && is_hit (places u c) asker a l

    pub hit_comes : (l : ℕ) → Has (hit_comers (places u c) asker a) l → (x : Package) × Comes u c l x × (value_matches a x.facts asker ≡ true)
    hit_comes l h =
        let r = has-filter_back comes_and_hits (numbers (length (places u c)) 0) l h in
        let both = and_parts (is_new (value_in (place_at (places u c) l))) (is_hit (places u c) asker a l) r.1 in
        let one = one_is matches (package_in (place_at (places u c) l)) both.1 in
        let st = there u c l one.0 one.1 in
        let same : value_in (place_at (places u c) l) ≡ filling u c l = ap value_in (place_is u c l st.there) in
        (one.0, (ap is_new (sym same) ∙ both.0, st), one.2)

    pub comes_hit : (l : ℕ) (x : Package) → Comes u c l x → value_matches a x.facts asker ≡ true → Has (hit_comers (places u c) asker a) l
    comes_hit l x h e =
        let same : value_in (place_at (places u c) l) ≡ filling u c l = ap value_in (place_is u c l h.1.there) in
        has-filter comes_and_hits (numbers (length (places u c)) 0) l (among l h.1.there)
        (and_from (is_new (value_in (place_at (places u c) l))) (is_hit (places u c) asker a l) (ap is_new same ∙ h.0) (is_hit_of l x h.1 e))

  module _ (text : List ℕ) where
    abbrev has_text : Package → Bool
    has_text q = bytes_eq text (id_text q.facts.id)

    pub told_stands : (m : ℕ) → Has (told_lines (places u c) text) m → (y : Package) × Stands u (filling u c) m y × (bytes_eq text (id_text y.facts.id) ≡ true)
    told_stands m h =
        let r = has-filter_back (λ l. is_one has_text (package_in (place_at (places u c) l))) (numbers (length (places u c)) 0) m h in
        let one = one_is has_text (package_in (place_at (places u c) m)) r.1 in
        (one.0, there u c m one.0 one.1, one.2)

    pub stands_told : (m : ℕ) (y : Package) → Stands u (filling u c) m y → bytes_eq text (id_text y.facts.id) ≡ true → Has (told_lines (places u c) text) m
    stands_told m y st e =
        has-filter (λ l. is_one has_text (package_in (place_at (places u c) l))) (numbers (length (places u c)) 0) m (among m st.there)
        (one_has has_text (package_in (place_at (places u c) m)) y (stands u c m y st) ∙ e)

  decided_alone : (l k : ℕ) → k ≢ l → decided [] k ≡ decided (alone c l) k
  decided_alone l k apart = by_case (decided c l) where
    by_case : (o : Option Value) → decided [] k ≡ decided (option_map_or (λ v. (l, v) ∷ []) o []) k
    by_case None = refl
    by_case (Some v) = elim (eqb_tells l k) [
      | inl r ↦ absurd (apart (sym r.1))
      | inr r ↦ sym (ap (λ (b : Bool). cond b (Some v) None) r.0)
    ]

  own_alone : (l : ℕ) → decided c l ≡ decided (alone c l) l
  own_alone l = by_case (decided c l) where
    by_case : (o : Option Value) → o ≡ decided (option_map_or (λ v. (l, v) ∷ []) o []) l
    by_case None = refl
    by_case (Some v) = elim (eqb_tells l l) [
      | inl r ↦ sym (ap (λ (b : Bool). cond b (Some v) None) r.0)
      | inr r ↦ absurd (r.1 refl)
    ]

  alone_place : (l : ℕ) → l < lines u → place_at (places u c) l ≡ record { decided = decided c l; offer = (get_or (places u []) l no_place).offer }
  alone_place l less =
      place_is u c l less
      ∙ ap (λ (o : Offer). record { decided = decided c l; offer = o }) (ap (λ (s : Place). s.offer) (sym (place_is u [] l less)))

  -- with one line as the choice has it
  pub alone_are : (l : ℕ) → l < lines u → alone_in (places u []) (places u c) l ≡ places u (alone c l)
  alone_are l less =
      ap (λ (s : Place). slice_set (places u []) l s) (alone_place l less)
      ∙ placed_after u [] (alone c l) l (decided c l) (λ _. own_alone l) (λ k apart. decided_alone l k apart)

  pub alone_met : (l : ℕ) (y : Package) → l < lines u → is_met (facts_of (packages_in (alone_in (places u []) (places u c) l))) Rdepend y ≡ is_met (facts_of (packages u (filling u (alone c l)))) Rdepend y
  alone_met l y less =
      ap (λ (ps : List Package). is_met (facts_of ps) Rdepend y) (ap packages_in (alone_are l less) ∙ sym (packages_are u (alone c l)))
