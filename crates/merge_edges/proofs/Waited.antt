-- The edges that are found between lines are those of the definitions.
use Rattle.std.proofs.Common.{◌≡◌, ◌↔◌, ◌⊎◌, ◌≢◌, ◌<◌, ◌≤◌, ◌+◌, ◌∙◌, ◌||◌, ◌&&◌, ◌++◌, ℕ, Bool, true, false, cond, not, List, [], ◌∷◌, Option, None, Some, filter, inl, inr, length, map, nat_eq, nat_lt, refl, ap, arith, subst, sym}
use Rattle.std.specs.Prelude.{IsTrue, bytes_eq, slice_get}
use Rattle.std.specs.List.{flat_map, list_all, list_any}
use Rattle.std.specs.Option.{option_map_or}
use Rattle.std.proofs.lemmas.Bool.{and_from, and_parts, not-true, or_left, or_right}
use Rattle.std.proofs.lemmas.Bool.Decides.{eqb_tells}
use Rattle.std.proofs.lemmas.List.{append-nil}
use Rattle.std.proofs.lemmas.List.Folds.{list_any-append}
use Rattle.basics.specs.Members.{Has}
use Rattle.basics.proofs.Members.{passes_some, some_passes}
use Rattle.basics.proofs.Membership.{has-append_cases, has-append_left, has-append_right, has-filter, has-filter_back, has-flat_map, has-flat_map_back, has-map, has-map_back}
use Rattle.dep_atom.specs.Ids.{id_text}
use Rattle.dep_atom.specs.Match.{value_matches}
use Rattle.dep_atom.specs.Values.{AtomValue}
use Rattle.dep_tree.specs.Grammar.{is_block}
use Rattle.merge_graph.specs.declared.edge.Edge.{Edge}
use Rattle.pkg_state.specs.Consistent.{blocks_in, class_blocks, facts_of, is_met, leaves_in}
use Rattle.pkg_state.specs.Package.{Package}
use Rattle.pkg_state.specs.declared.class.Class.{Class}
use Rattle.pkg_state.specs.declared.class.Class.TheVariants.{Bdepend, Depend, Idepend, Pdepend, Rdepend}
use Rattle.plan_law.specs.Sound.{bars, class_blocks_strongly, is_of_build, is_strong_block}
use Rattle.plan_lives.specs.Keeping.{barring_blocks, running_blocks, strong_blocks_in}
use Rattle.choice_law.specs.Tree.{Choice, filling}
use Rattle.choice_law.specs.Universe.{Stands, Universe, conflicts, lines, packages, same_version}
use Rattle.choice_tree.specs.Blocks.{blocks_of, hit}
use Rattle.choice_tree.specs.Places.{Place, numbers, packages_in, places}
use Rattle.choice_tree.proofs.Conflicts.{conflicts_are}
use Rattle.choice_tree.proofs.Packages.{packages_are}
use Rattle.choice_tree.proofs.Under.{bytes_swap}
use Rattle.merge_edges.specs.Changes.{changes_line}
use Rattle.merge_edges.specs.Found.{HasVersion, all_edges, alone_in, apart_edges, barred_edges, breaks_in, broken_edges, class_edges, comer, comer_edges, edge_from, edge_to, edges_from, edges_to, guarded_edges, hit_comers, hit_lines, installed_edges, is_changed, line_edges, need_edges, needed_lines, other_lines, place_at, saving_edges, told_lines}
use Rattle.merge_edges.specs.Needs.{NeedsLine}
use Rattle.merge_edges.specs.Waits.{Breaks, BuildsOn, Comes, IsApartFrom, IsBarredBy, IsBuiltWith, IsThere, RunsWith, WouldBreak, alone}
use Rattle.merge_edges.proofs.Needed.{needed_are}
use Rattle.merge_edges.proofs.Numbered.{differ, unequal}
use Rattle.merge_edges.proofs.Sides.{alone_met, among, changed_is, comer_comes, comes_comer, comes_hit, hit_comes, hit_stands, offer_there, stands_hit, stands_told, there_offer, told_stands}

any_step : {A : Type 0} (f : A → Bool) (b : Bool) (x : A) (xs : List A) → list_any f (cond b (x ∷ xs) xs) ≡ ((b && f x) || list_any f xs)
any_step f true x xs = refl
any_step f false x xs = refl

any_filter : {A : Type 0} (k f : A → Bool) (xs : List A) → list_any f (filter k xs) ≡ list_any (λ a. k a && f a) xs
any_filter k f [] = refl
any_filter k f (x ∷ xs) = any_step f (k x) x (filter k xs) ∙ ap (λ (b : Bool). (k x && f x) || b) (any_filter k f xs)

module _ (p q : Package) where
  abbrev f : AtomValue → Bool
  f a = value_matches a q.facts p.facts.enabled

  in_class : (class : Class) → list_any f (blocks_in class p) ≡ class_blocks class p q
  in_class class = any_filter is_block f (leaves_in class p)

  strongly : (class : Class) → list_any f (strong_blocks_in class p) ≡ class_blocks_strongly class p q
  strongly class = any_filter (λ (a : AtomValue). is_strong_block a.block) f (leaves_in class p)

  both : (one two : List AtomValue) (a b : Bool) → list_any f one ≡ a → list_any f two ≡ b → list_any f (one ++ two) ≡ (a || b)
  both one two a b e h = list_any-append f one two ∙ (λ i. e i || h i)

  -- what bars the package is what the blocks match that count when it may come
  pub bars_are : list_any f (barring_blocks p) ≡ bars p q
  bars_are =
      both (strong_blocks_in Rdepend p) _ _ _ (strongly Rdepend)
      (both (strong_blocks_in Pdepend p) _ _ _ (strongly Pdepend)
      (both (blocks_in Depend p) _ _ _ (in_class Depend)
      (both (blocks_in Bdepend p) (blocks_in Idepend p) _ _ (in_class Bdepend) (in_class Idepend))))

or_back : (x y : Bool) → (x || y) ≡ true → (x ≡ true) ⊎ (y ≡ true)
or_back true y e = inl refl
or_back false y e = inr e

and_back_not : (x y : Bool) → (x && not y) ≡ true → (x ≡ true) × (y ≡ false)
and_back_not x y e = let r = and_parts x (not y) e in (r.0, not-true y r.1)

has_cond : (b : Bool) (es : List Edge) (e : Edge) → Has (cond b [] es) e → (b ≡ false) × Has es e
has_cond true es e h = absurd h
has_cond false es e h = (refl, h)

cond_has : (b : Bool) (es : List Edge) (e : Edge) → b ≡ false → Has es e → Has (cond b [] es) e
cond_has true es e off h = absurd (cc off)
cond_has false es e off h = h

has_if : (b : Bool) (es : List Edge) (e : Edge) → Has (cond b es []) e → (b ≡ true) × Has es e
has_if true es e h = (refl, h)
has_if false es e h = absurd h

if_has : (b : Bool) (es : List Edge) (e : Edge) → b ≡ true → Has es e → Has (cond b es []) e
if_has true es e on h = h
if_has false es e on h = absurd (cc on)

one_of : {A : Type 0} (f : A → List Edge) (o : Option A) (e : Edge) → Has (option_map_or f o []) e → (a : A) × (o ≡ Some a) × Has (f a) e
one_of f None e h = absurd h
one_of f (Some a) e h = (a, refl, h)

of_one : {A : Type 0} (f : A → List Edge) (o : Option A) (a : A) (e : Edge) → o ≡ Some a → Has (f a) e → Has (option_map_or f o []) e
of_one f o a e is h = subst (λ z. Has (option_map_or f z []) e) (sym is) h

-- the reasons to wait without building; a line waits only if it changes
abbrev pub OnlyWaits : Universe → Choice → ℕ → ℕ → Type 0
OnlyWaits u c l m =
    RunsWith u c l m ⊎ (((changes_line u c l ≡ true) × WouldBreak u c l m) ⊎ IsApartFrom u c l m)

abbrev pub Fits : Universe → Choice → Bool → ℕ → ℕ → Type 0
Fits u c true l m = BuildsOn u c l m
Fits u c false l m = OnlyWaits u c l m

module _ (u : Universe) (c : Choice) (old : (l : ℕ) → HasVersion (place_at (places u []) l)) (new : (l : ℕ) → HasVersion (place_at (places u c) l)) where
  abbrev os : List Place
  os = places u []

  abbrev ss : List Place
  ss = places u c

  abbrev FitsOne : Edge → Type 0
  FitsOne e = Fits u c e.builds e.from e.to

  all_to : (l : ℕ) (b : Bool) (ms : List ℕ) → ((m : ℕ) → Has ms m → Fits u c b l m) → (e : Edge) → Has (edges_to l b ms) e → FitsOne e
  all_to l b ms each e h = let r = has-map_back (edge_to l b) ms e h in subst FitsOne r.2 (each r.0 r.1)

  has_to : (l : ℕ) (b : Bool) (ms : List ℕ) (m : ℕ) → Has ms m → Has (edges_to l b ms) (edge_to l b m)
  has_to l b ms m h = has-map (edge_to l b) ms m h

  opening_met : (class : Class) (x : Package) → is_met (facts_of (packages_in os)) class x ≡ is_met (facts_of (packages u (filling u []))) class x
  opening_met class x = ap (λ (ps : List Package). is_met (facts_of ps) class x) (sym (packages_are u []))

  module _ (l : ℕ) (x : Package) (comes : Comes u c l x) where
    class_fits : (class : Class) → is_of_build class ≡ true → (e : Edge) → Has (class_edges os ss l x class) e → FitsOne e
    class_fits class built e h =
        let r = has_cond (is_met (facts_of (packages_in os)) class x) (edges_to l true (needed_lines ss class x)) e h in
        all_to l true (needed_lines ss class x) (λ m n. inl (record {
          comer = x;
          comes = comes;
          class_is = class;
          of_build = built;
          lacks = sym (opening_met class x) ∙ r.0;
          needs = (needed_are u c new class x m).0 n;
        })) e r.1

    run_fits : (e : Edge) → Has (edges_to l false (needed_lines ss Rdepend x)) e → FitsOne e
    run_fits = all_to l false (needed_lines ss Rdepend x) (λ m n. inl (record {
      comer = x;
      comes = comes;
      needs = (needed_are u c new Rdepend x m).0 n;
    }))

    need_fits : (e : Edge) → Has (need_edges os ss l x) e → FitsOne e
    need_fits e h = elim (has-append_cases (class_edges os ss l x Depend) _ e h) [
      | inl a ↦ class_fits Depend refl e a
      | inr k ↦ elim (has-append_cases (class_edges os ss l x Bdepend) _ e k) [
        | inl a ↦ class_fits Bdepend refl e a
        | inr j ↦ elim (has-append_cases (class_edges os ss l x Idepend) _ e j) [
          | inl a ↦ class_fits Idepend refl e a
          | inr a ↦ run_fits e a
        ]
      ]
    ]

    hit_conflicts : (a : AtomValue) (y : Package) → Has (blocks_of true x) a → value_matches a y.facts x.facts.enabled ≡ true → conflicts true x y ≡ true
    hit_conflicts a y h e =
        sym (conflicts_are x y true)
        ∙ or_left (hit (blocks_of true x) x y) (same_version x y) (passes_some (λ b. value_matches b y.facts x.facts.enabled) (blocks_of true x) a h e)

    told_conflicts : (y : Package) → same_version x y ≡ true → conflicts true x y ≡ true
    told_conflicts y e = sym (conflicts_are x y true) ∙ or_right (hit (blocks_of true x) x y) (same_version x y) e

    against : (m : ℕ) (y : Package) → IsThere u m y → conflicts true x y ≡ true → Fits u c false l m
    against m y st e = inr (inr (record { comer = x; comes = comes; goer = y; there = st; against = inl e }))

    apart_fits : (e : Edge) → Has (apart_edges os l x) e → FitsOne e
    apart_fits e h = elim (has-append_cases (flat_map (λ a. edges_to l false (hit_lines os x.facts.enabled a)) (blocks_of true x)) _ e h) [
      | inl k ↦ (let r = has-flat_map_back (λ a. edges_to l false (hit_lines os x.facts.enabled a)) (blocks_of true x) e k in
          all_to l false (hit_lines os x.facts.enabled r.0) (λ m n.
          let y = hit_stands u [] x.facts.enabled r.0 m n in against m y.0 y.1 (hit_conflicts r.0 y.0 r.1 y.2)) e r.2)
      | inr k ↦ all_to l false (told_lines os (id_text x.facts.id)) (λ m n.
          let y = told_stands u [] (id_text x.facts.id) m n in against m y.0 y.1 (told_conflicts y.0 y.2)) e k
    ]

    barred_fits : (e : Edge) → Has (barred_edges os l x) e → FitsOne e
    barred_fits e h =
        let r = has-flat_map_back (λ a. edges_to l true (other_lines l (hit_lines os x.facts.enabled a))) (barring_blocks x) e h in
        all_to l true (other_lines l (hit_lines os x.facts.enabled r.0)) (λ m n.
        let k = has-filter_back (λ j. not (nat_eq l j)) (hit_lines os x.facts.enabled r.0) m n in
        let y = hit_stands u [] x.facts.enabled r.0 m k.0 in
        inr (
          differ l m k.1,
          record {
            comer = x;
            comes = comes;
            goer = y.0;
            there = y.1;
            barred = sym (bars_are x y.0) ∙ passes_some (λ b. value_matches b y.0.facts x.facts.enabled) (barring_blocks x) r.0 r.1 y.2;
          },
        )) e r.2

    comer_fits : (e : Edge) → Has (comer_edges os ss l x) e → FitsOne e
    comer_fits e h = elim (has-append_cases (need_edges os ss l x) _ e h) [
      | inl a ↦ need_fits e a
      | inr k ↦ elim (has-append_cases (apart_edges os l x) _ e k) [ inl a ↦ apart_fits e a | inr a ↦ barred_fits e a ]
    ]

    built_has : (class : Class) (m : ℕ) → is_met (facts_of (packages u (filling u []))) class x ≡ false → NeedsLine u c class x m → Has (class_edges os ss l x class) (edge_to l true m)
    built_has class m lacks n =
        cond_has (is_met (facts_of (packages_in os)) class x) (edges_to l true (needed_lines ss class x)) (edge_to l true m) (opening_met class x ∙ lacks)
        (has_to l true (needed_lines ss class x) m ((needed_are u c new class x m).1 n))

    need_has_built : (class : Class) (m : ℕ) → is_of_build class ≡ true → is_met (facts_of (packages u (filling u []))) class x ≡ false → NeedsLine u c class x m → Has (need_edges os ss l x) (edge_to l true m)
    need_has_built Rdepend m built lacks n = absurd (cc built)
    need_has_built Pdepend m built lacks n = absurd (cc built)
    need_has_built Depend m built lacks n = has-append_left (class_edges os ss l x Depend) _ _ (built_has Depend m lacks n)
    need_has_built Bdepend m built lacks n =
        has-append_right (class_edges os ss l x Depend) _ _ (has-append_left (class_edges os ss l x Bdepend) _ _ (built_has Bdepend m lacks n))
    need_has_built Idepend m built lacks n =
        has-append_right (class_edges os ss l x Depend) _ _ (has-append_right (class_edges os ss l x Bdepend) _ _
        (has-append_left (class_edges os ss l x Idepend) _ _ (built_has Idepend m lacks n)))

    need_has_run : (m : ℕ) → NeedsLine u c Rdepend x m → Has (need_edges os ss l x) (edge_to l false m)
    need_has_run m n =
        has-append_right (class_edges os ss l x Depend) _ _ (has-append_right (class_edges os ss l x Bdepend) _ _
        (has-append_right (class_edges os ss l x Idepend) _ _
        (has_to l false (needed_lines ss Rdepend x) m ((needed_are u c new Rdepend x m).1 n))))

    apart_has : (m : ℕ) (y : Package) → IsThere u m y → conflicts true x y ≡ true → Has (apart_edges os l x) (edge_to l false m)
    apart_has m y st e = elim (or_back (hit (blocks_of true x) x y) (same_version x y) (conflicts_are x y true ∙ e)) [
      | inl h ↦ (let r = some_passes (λ b. value_matches b y.facts x.facts.enabled) (blocks_of true x) h in
          has-append_left (flat_map (λ a. edges_to l false (hit_lines os x.facts.enabled a)) (blocks_of true x)) _ _
          (has-flat_map (λ a. edges_to l false (hit_lines os x.facts.enabled a)) (blocks_of true x) r.0 _ r.1
          (has_to l false (hit_lines os x.facts.enabled r.0) m (stands_hit u [] x.facts.enabled r.0 m y st r.2))))
      | inr same ↦ has-append_right (flat_map (λ a. edges_to l false (hit_lines os x.facts.enabled a)) (blocks_of true x)) _ _
          (has_to l false (told_lines os (id_text x.facts.id)) m (stands_told u [] (id_text x.facts.id) m y st same))
    ]

    barred_has : (m : ℕ) (y : Package) → l ≢ m → IsThere u m y → bars x y ≡ true → Has (barred_edges os l x) (edge_to l true m)
    barred_has m y apart st e =
        let r = some_passes (λ b. value_matches b y.facts x.facts.enabled) (barring_blocks x) (bars_are x y ∙ e) in
        has-flat_map (λ a. edges_to l true (other_lines l (hit_lines os x.facts.enabled a))) (barring_blocks x) r.0 _ r.1
        (has_to l true (other_lines l (hit_lines os x.facts.enabled r.0)) m
        (has-filter (λ j. not (nat_eq l j)) (hit_lines os x.facts.enabled r.0) m (stands_hit u [] x.facts.enabled r.0 m y st r.2) (unequal l m apart)))

    comer_line : (e : Edge) → Has (comer_edges os ss l x) e → Has (line_edges os ss l) e
    comer_line e h =
        has-append_left (option_map_or (comer_edges os ss l) (comer (place_at ss l)) []) _ e
        (of_one (comer_edges os ss l) (comer (place_at ss l)) x e (comes_comer u c l x comes) h)

    comer_all : (e : Edge) → Has (comer_edges os ss l x) e → Has (all_edges os ss) e
    comer_all e h = has-flat_map (line_edges os ss) (numbers (length ss) 0) l e (among u c l comes.1.there) (comer_line e h)

  module _ (k : ℕ) (y : Package) (st : IsThere u k y) where
    conflicts_running : (x : Package) → conflicts false y x ≡ (list_any (λ a. value_matches a x.facts y.facts.enabled) (running_blocks y) || same_version y x)
    conflicts_running x =
        sym (conflicts_are y x false)
        ∙ ap (λ (as' : List AtomValue). hit as' y x || same_version y x) (append-nil (running_blocks y))

    guarded_fits : (e : Edge) → Has (guarded_edges ss k y) e → FitsOne e
    guarded_fits e h =
        let r = has-flat_map_back (λ a. edges_from k (hit_comers ss y.facts.enabled a)) (running_blocks y) e h in
        let m = has-map_back (edge_from k) (hit_comers ss y.facts.enabled r.0) e r.2 in
        let x = hit_comes u c y.facts.enabled r.0 m.0 m.1 in
        subst FitsOne m.2 (inr (inr (record {
          comer = x.0;
          comes = x.1;
          goer = y;
          there = st;
          against = inr (conflicts_running x.0 ∙ or_left (list_any (λ a. value_matches a x.0.facts y.facts.enabled) (running_blocks y)) (same_version y x.0)
              (passes_some (λ a. value_matches a x.0.facts y.facts.enabled) (running_blocks y) r.0 r.1 x.2));
        })))

    module _ (l : ℕ) (less : l < lines u) where
      broken_is : breaks_in os ss y l ≡ true → (changes_line u c l ≡ true) × (is_met (facts_of (packages u (filling u (alone c l)))) Rdepend y ≡ false)
      broken_is e =
          let r = and_back_not (is_changed (place_at ss l)) (is_met (facts_of (packages_in (alone_in os ss l))) Rdepend y) e in
          (sym (changed_is u c l less) ∙ r.0, sym (alone_met u c l y less) ∙ r.1)

      is_broken : changes_line u c l ≡ true → is_met (facts_of (packages u (filling u (alone c l)))) Rdepend y ≡ false → breaks_in os ss y l ≡ true
      is_broken e f =
          and_from (is_changed (place_at ss l)) (not (is_met (facts_of (packages_in (alone_in os ss l))) Rdepend y))
          (changed_is u c l less ∙ e) (ap not (alone_met u c l y less ∙ f))

    saving_fits : (l : ℕ) → changes_line u c l ≡ true → Breaks u c l k y → (e : Edge) → Has (saving_edges ss k y l) e → FitsOne e
    saving_fits l changes breaks e h = by_case (changes_line u c k) refl (subst (λ (b : Bool). Has (cond b (edge_to l false k ∷ []) (edges_to l false (needed_lines ss Rdepend y))) e) (changed_is u c k st.there) h) where
      by_case : (b : Bool) → changes_line u c k ≡ b → Has (cond b (edge_to l false k ∷ []) (edges_to l false (needed_lines ss Rdepend y))) e → FitsOne e
      by_case true is (inl same) = subst FitsOne same (inr (inl (changes, (k, y, breaks, inl (is, refl)))))
      by_case true is (inr none) = absurd none
      by_case false is has = all_to l false (needed_lines ss Rdepend y) (λ m n. inr (inl (changes, (k, y, breaks, inr (is, (needed_are u c new Rdepend y m).0 n))))) e has

    broken_fits : (l : ℕ) → Has (needed_lines os Rdepend y) l → (e : Edge) → Has (broken_edges os ss k y l) e → FitsOne e
    broken_fits l n e h =
        let needs = (needed_are u [] old Rdepend y l).0 n in
        let less = needs.served.stands.there in
        let r = has_if (breaks_in os ss y l) (saving_edges ss k y l) e h in
        let b = broken_is l less r.0 in
        saving_fits l b.0 (record { there = st; needs = needs; lacks = b.1 }) e r.1

    installed_fits : (e : Edge) → Has (installed_edges os ss k y) e → FitsOne e
    installed_fits e h = elim (has-append_cases (flat_map (broken_edges os ss k y) (needed_lines os Rdepend y)) _ e h) [
      | inl a ↦ (let r = has-flat_map_back (broken_edges os ss k y) (needed_lines os Rdepend y) e a in broken_fits r.0 r.1 e r.2)
      | inr a ↦ guarded_fits e a
    ]

    guarded_has : (l : ℕ) (x : Package) → Comes u c l x → list_any (λ a. value_matches a x.facts y.facts.enabled) (running_blocks y) ≡ true → Has (guarded_edges ss k y) (edge_to l false k)
    guarded_has l x comes e =
        let r = some_passes (λ a. value_matches a x.facts y.facts.enabled) (running_blocks y) e in
        has-flat_map (λ a. edges_from k (hit_comers ss y.facts.enabled a)) (running_blocks y) r.0 _ r.1
        (has-map (edge_from k) (hit_comers ss y.facts.enabled r.0) l (comes_hit u c y.facts.enabled r.0 l x comes r.2))

    saving_has : (l m : ℕ) → ((changes_line u c k ≡ true) × (k ≡ m)) ⊎ ((changes_line u c k ≡ false) × NeedsLine u c Rdepend y m) → Has (saving_edges ss k y l) (edge_to l false m)
    saving_has l m why = subst (λ (b : Bool). Has (cond b (edge_to l false k ∷ []) (edges_to l false (needed_lines ss Rdepend y))) (edge_to l false m)) (sym (changed_is u c k st.there)) (by_case why) where
      by_case : ((changes_line u c k ≡ true) × (k ≡ m)) ⊎ ((changes_line u c k ≡ false) × NeedsLine u c Rdepend y m) → Has (cond (changes_line u c k) (edge_to l false k ∷ []) (edges_to l false (needed_lines ss Rdepend y))) (edge_to l false m)
      by_case (inl r) = subst (λ (b : Bool). Has (cond b (edge_to l false k ∷ []) (edges_to l false (needed_lines ss Rdepend y))) (edge_to l false m)) (sym r.0) (inl (ap (edge_to l false) r.1))
      by_case (inr r) = subst (λ (b : Bool). Has (cond b (edge_to l false k ∷ []) (edges_to l false (needed_lines ss Rdepend y))) (edge_to l false m)) (sym r.0)
          (has_to l false (needed_lines ss Rdepend y) m ((needed_are u c new Rdepend y m).1 r.1))

    installed_all : (e : Edge) → Has (installed_edges os ss k y) e → Has (all_edges os ss) e
    installed_all e h =
        has-flat_map (line_edges os ss) (numbers (length ss) 0) k e (among u c k st.there)
        (has-append_right (option_map_or (comer_edges os ss k) (comer (place_at ss k)) []) _ e
        (of_one (installed_edges os ss k) (place_at ss k).offer.installed y e (there_offer u c k y st) h))

  -- each edge that is found is one of the definitions
  pub found_fits : (e : Edge) → Has (all_edges os ss) e → FitsOne e
  found_fits e h =
      let r = has-flat_map_back (line_edges os ss) (numbers (length ss) 0) e h in
      elim (has-append_cases (option_map_or (comer_edges os ss r.0) (comer (place_at ss r.0)) []) _ e r.2) [
        | inl a ↦ (let x = one_of (comer_edges os ss r.0) (comer (place_at ss r.0)) e a in
            comer_fits r.0 x.0 (comer_comes u c r.0 x.0 x.1) e x.2)
        | inr a ↦ (let y = one_of (installed_edges os ss r.0) (place_at ss r.0).offer.installed e a in
            installed_fits r.0 y.0 (offer_there u c r.0 y.0 y.1) e y.2)
      ]

  -- .. and each of those that builds is found
  pub builds_found : (l m : ℕ) → BuildsOn u c l m → Has (all_edges os ss) (edge_to l true m)
  builds_found l m (inl w) =
      comer_all l w.comer w.comes _ (has-append_left (need_edges os ss l w.comer) _ _
      (need_has_built l w.comer w.comes w.class_is m w.of_build w.lacks w.needs))
  builds_found l m (inr w) =
      comer_all l w.1.comer w.1.comes _ (has-append_right (need_edges os ss l w.1.comer) _ _
      (has-append_right (apart_edges os l w.1.comer) _ _
      (barred_has l w.1.comer w.1.comes m w.1.goer w.0 w.1.there w.1.barred)))

  apart_found : (l m : ℕ) (w : IsApartFrom u c l m) → Has (all_edges os ss) (edge_to l false m)
  apart_found l m w = elim w.against [
    | inl e ↦ by_own e
    | inr e ↦ elim (or_back (list_any (λ a. value_matches a w.comer.facts w.goer.facts.enabled) (running_blocks w.goer)) (same_version w.goer w.comer) (sym (conflicts_running m w.goer w.there w.comer) ∙ e)) [
      | inl hits ↦ installed_all m w.goer w.there _ (has-append_right (flat_map (broken_edges os ss m w.goer) (needed_lines os Rdepend w.goer)) _ _
          (guarded_has m w.goer w.there l w.comer w.comes hits))
      | inr same ↦ by_own (told_conflicts l w.comer w.comes w.goer (bytes_swap (id_text w.goer.facts.id) (id_text w.comer.facts.id) true same))
    ]
  ] where
    by_own : conflicts true w.comer w.goer ≡ true → Has (all_edges os ss) (edge_to l false m)
    by_own e = comer_all l w.comer w.comes _ (has-append_right (need_edges os ss l w.comer) _ _
        (has-append_left (apart_edges os l w.comer) _ _ (apart_has l w.comer w.comes m w.goer w.there e)))

  -- .. and each that only waits
  pub waits_found : (l m : ℕ) → OnlyWaits u c l m → Has (all_edges os ss) (edge_to l false m)
  waits_found l m (inl w) =
      comer_all l w.comer w.comes _ (has-append_left (need_edges os ss l w.comer) _ _ (need_has_run l w.comer w.comes m w.needs))
  waits_found l m (inr (inl w)) =
      let k = w.1.0 in let y = w.1.1 in let b = w.1.2 in
      installed_all k y b.there _ (has-append_left (flat_map (broken_edges os ss k y) (needed_lines os Rdepend y)) _ _
      (has-flat_map (broken_edges os ss k y) (needed_lines os Rdepend y) l _ ((needed_are u [] old Rdepend y l).1 b.needs)
      (if_has (breaks_in os ss y l) (saving_edges ss k y l) (edge_to l false m)
      (is_broken k y b.there l b.needs.served.stands.there w.0 b.lacks) (saving_has k y b.there l m w.1.3))))
  waits_found l m (inr (inr w)) = apart_found l m w
