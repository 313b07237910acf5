-- The texts of groups that change something are a plan in form.
use Rattle.std.proofs.Common.{◌≡◌, ◌∙◌, ◌<◌, ◌+◌, ℕ, zero, suc, true, List, [], ◌∷◌, Option, None, Some, ap, arith, get_or, inl, inr, length, map, refl, subst, sym}
use Rattle.std.specs.Prelude.{IsSome}
use Rattle.std.specs.List.{AllByRecursion, AllZip}
use Rattle.std.proofs.lemmas.Bool.{and_from, lt-ltb}
use Rattle.std.proofs.lemmas.List.{length-map}
use Rattle.std.proofs.lemmas.Slice.Zip.{AllZip-long}
use Rattle.basics.specs.Members.{Has}
use Rattle.basics.proofs.Membership.{has-flat_map}
use Rattle.basics.proofs.Permutations.{has-moved}
use Rattle.build_pool.specs.declared.orders.Order.{Order}
use Rattle.pkg_state.specs.Package.{Package}
use Rattle.merge_graph.specs.Numbering.{IsNumbering}
use Rattle.merge_graph.specs.Rows.{AreRising, places_of}
use Rattle.merge_graph.specs.declared.edge.Edge.{Edge}
use Rattle.merge_graph.proofs.RowLemmas.{has_place}
use Rattle.plan_law.specs.Plans.{Group, group_at}
use Rattle.plan_lives.specs.Form.{IsPlanInForm}
use Rattle.plan_text.specs.Lines.{line_text}
use Rattle.plan_text.specs.Numbers.{rise_between}
use Rattle.plan_text.specs.Plans.{GroupValue}
use Rattle.plan_text.specs.Texts.{AreGroups, IsGroup, IsPlan, add_line, remove_line}
use Rattle.plan_text.specs.Words.{rise}
use Rattle.choice_law.specs.Universe.{as_list}
use Rattle.merge_edges.specs.Changes.{Change as LineChange}
use Rattle.merge_groups.specs.Apart.{AreSome}
use Rattle.merge_groups.specs.Formed.{AreWords}
use Rattle.merge_groups.specs.Grouped.{AreFine, AreLevel, Makes, before, removal_for, side_at, those_at}
use Rattle.merge_groups.specs.Order.{text_of}
use Rattle.merge_groups.specs.Written.{AreTexts, IsGroupText, Says, no_text, removal_in}
use Rattle.merge_groups.specs.declared.change.Change.{Change}
use Rattle.merge_groups.specs.declared.change.Change.TheVariants as changes

-- the group makes some change, and waits for earlier ones in rising order
pub record Fits (cs : List LineChange) (g : ℕ) (group : Group) : Type 0 where
  pub places : List ℕ
  pub makes : Makes cs places group
  pub some : (x : ℕ) × Has places x × (x < length cs)
  pub rising : AreRising group.after
  pub earlier : (h : ℕ) → Has group.after h → h < g

-- the numbers of places that rise do, too
rises_up : (low high : ℕ) (hs : List ℕ) → AreRising hs → ((h : ℕ) → Has hs h → (low < h + 1) × (h + 1 < high)) → rise_between low high (map (λ h. h + 1) hs) ≡ true
rises_up low high [] up within = refl
rises_up low high (h ∷ hs) up within =
    let ends = within h (inl refl) in
    and_from _ _ (and_from _ _ (lt-ltb low (h + 1) ends.0) (lt-ltb (h + 1) high ends.1))
    (rises_up (h + 1) high hs up.1 (λ j has. (let above = up.0 j has in let e = within j (inr has) in (omega (arith, above), e.1))))

removal_texts : (ps : List Package) → map (λ r. line_text (remove_line r)) (map removal_in (map removal_for ps)) ≡ map (text_of changes.Removal) ps
removal_texts [] = refl
removal_texts (p ∷ ps) = ap (λ ts. text_of changes.Removal p ∷ ts) (removal_texts ps)

module _ (plan : List Group) (start : List Package) (g : ℕ) where
  addition_texts : (ps : List Package) (more : List Order) → AllZip (Says plan start g) ps more → map (λ a. line_text (add_line a)) more ≡ map (text_of changes.Addition) ps
  addition_texts [] [] say = refl
  addition_texts [] (a ∷ more) say = absurd say
  addition_texts (p ∷ ps) [] say = absurd say
  addition_texts (p ∷ ps) (a ∷ more) say =
      ap (λ (e : Order). line_text (add_line e) ∷ map (λ a. line_text (add_line a)) more) say.0.is
      ∙ ap (λ ts. text_of changes.Addition p ∷ ts) (addition_texts ps more say.1)

has_long : {A : Type 0} (xs : List A) (x : A) → Has xs x → 0 < length xs
has_long [] x has = absurd has
has_long (y ∷ ys) x has = omega arith

-- what a change takes away or brings is there
some_there : (side : Change) (cs : List LineChange) (places : List ℕ) (x : ℕ) → Has places x → (o : Option Package) → side_at side cs x ≡ o → IsSome o → (p : Package) × Has (those_at side cs places) p
some_there side cs places x has None is some = absurd (cc some)
some_there side cs places x has (Some p) is some =
    (p, has-flat_map (λ y. as_list (side_at side cs y)) places x p has (subst (λ (o : Option Package). Has (as_list o) p) (sym is) (inl refl)))

module _ (cs : List LineChange) (some : AreSome cs) (plan : List Group) (start : List Package) where
  changes_some : (g : ℕ) (group : Group) (t : GroupValue) → Fits cs g group → IsGroupText plan start g group t → 0 < length t.removals + length t.additions
  changes_some g group t fits is =
      let makes = fits.makes in
      let x = fits.some in
      let gone : length t.removals ≡ length makes.going =
      ap length (is.removals ∙ ap (map removal_in) makes.removals) ∙ (length-map (map removal_for makes.going) removal_in ∙ length-map makes.going removal_for) in
      let come : length t.additions ≡ length group.additions = AllZip-long (Says plan start g) group.additions t.additions is.additions in
      elim (some x.0 x.2) [
        | inl goes ↦ (
            let p = some_there changes.Removal cs fits.places x.0 x.1 (side_at changes.Removal cs x.0) refl goes in
            let long = has_long makes.going p.0 (has-moved (those_at changes.Removal cs fits.places) makes.going p.0 makes.leave.moved p.1) in
            omega (arith, gone, long)
            )
        | inr comes ↦ (
            let p = some_there changes.Addition cs fits.places x.0 x.1 (side_at changes.Addition cs x.0) refl comes in
            let long = has_long group.additions p.0 (has-moved (those_at changes.Addition cs fits.places) group.additions p.0 makes.enter.moved p.1) in
            omega (arith, come, long)
            )
      ]

  group_formed : (g : ℕ) (group : Group) (t : GroupValue) → Fits cs g group → IsGroupText plan start g group t → AreWords t → IsGroup (1 + g) t
  group_formed g group t fits is words = record {
    earlier = ap (rise_between 0 (1 + g)) is.after
        ∙ rises_up 0 (1 + g) group.after fits.rising (λ h has. (let below = fits.earlier h has in (omega arith, omega (arith, below))));
    changes = changes_some g group t fits is;
    removals = words.removals;
    removals_rise = ap (λ rs. rise (map (λ r. line_text (remove_line r)) rs)) (is.removals ∙ ap (map removal_in) fits.makes.removals)
        ∙ (ap rise (removal_texts fits.makes.going) ∙ fits.makes.leave.rising);
    additions = words.additions;
    additions_rise = ap rise (addition_texts plan start g group.additions t.additions is.additions) ∙ fits.makes.enter.rising;
  }

  -- what holds of each group by its place holds of all
  all_groups : (n : ℕ) (texts : List GroupValue) → AllByRecursion AreWords texts → ((g : ℕ) → g < length texts → AreWords (get_or texts g no_text) → IsGroup (n + g) (get_or texts g no_text)) → AreGroups n texts
  all_groups n [] words each = tt
  all_groups n (t ∷ texts) words each =
      let none : n + 0 ≡ n = omega arith in (
        subst (λ (m : ℕ). IsGroup m t) none (each 0 (omega arith) words.0),
        all_groups (n + 1) texts words.1 (λ g less w. (let one : n + suc g ≡ n + 1 + g = omega arith in subst (λ (m : ℕ). IsGroup m (get_or texts g no_text)) one (each (suc g) (omega (arith, less)) w))),
      )

  pub whole : IsPlanInForm plan → ((g : ℕ) → g < length plan → Fits cs g (group_at plan g)) → (texts : List GroupValue) → AreTexts plan start texts → AllByRecursion AreWords texts → IsPlan texts
  whole form fit texts are words =
      let each = are.each in
      let few = form.few in
      record {
        few = omega (arith, each, few);
        groups = all_groups 1 texts words (λ g less w. (let in_plan : g < length plan = omega (arith, less, each) in group_formed g (group_at plan g) (get_or texts g no_text) (fit g in_plan) (are.group g in_plan) w));
      }

module _ (cs : List LineChange) (es : List Edge) (numbers : List ℕ) (count : ℕ) (numbering : IsNumbering (length cs) es count numbers) (plan : List Group) (form : IsPlanInForm plan) where
  pub fine_fits : AreFine cs es numbers count plan → (g : ℕ) → g < length plan → Fits cs g (group_at plan g)
  fine_fits are g less =
      let each = are.each in
      let below : g < count = omega (arith, less, each) in
      let node = numbering.no_gap g below in
      let long = numbering.each in
      record {
        places = places_of numbers g;
        makes = are.makes g below;
        some = (node.0, has_place numbers g node.0 (let n = node.1 in omega (arith, n, long)) node.2, node.1);
        rising = (are.waits g below).rising;
        earlier = λ h has. form.earlier g h has;
      }

  before_rises : (k : ℕ) → AreRising (before k)
  before_rises zero = tt
  before_rises (suc k) = ((λ y has. absurd has), tt)

  pub level_fits : AreLevel cs es numbers count plan → (g : ℕ) → g < length plan → Fits cs g (group_at plan g)
  level_fits are g less =
      let each = are.each in
      let below : g < length are.rows = omega (arith, less, each) in
      let node = are.by_level.no_gap g below in
      let inside = ((are.by_level.members g below node.0).0 node.1).0 in
      let long = numbering.each in
      record {
        places = get_or are.rows g [];
        makes = are.makes g below;
        some = (node.0, node.1, omega (arith, inside, long));
        rising = subst (λ (l : List ℕ). AreRising l) (sym (are.waits g below)) (before_rises g);
        earlier = λ h has. form.earlier g h has;
      }
