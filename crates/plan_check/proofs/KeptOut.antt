-- What the gathered blocks keep out is what the package blocks, or what bars it.
use Rattle.std.proofs.Common.{◌≡◌, ◌⊎◌, ◌||◌, ◌&&◌, ◌∙◌, ℕ, Bool, true, false, cond, not, List, [], ◌∷◌, ◌++◌, Option, None, Some, filter, inl, inr, refl, sym, ap, subst, map}
use Rattle.std.specs.Prelude.{Result}
use Rattle.std.specs.List.{list_any}
use Rattle.std.specs.Option.{option_map}
use Rattle.std.proofs.lemmas.Bool.{and_from, and_parts}
use Rattle.std.proofs.lemmas.List.Folds.{list_any-append}
use Rattle.basics.proofs.Members.{passes_some, some_passes}
use Rattle.basics.proofs.Membership.{has-filter, has-filter_back}
use Rattle.basics.proofs.Tests.{and-true}
use Rattle.dep_atom.specs.Match.{value_matches}
use Rattle.dep_atom.specs.Values.{AtomValue, atom_value}
use Rattle.dep_tree.specs.Grammar.{is_block}
use Rattle.pkg_state.specs.Consistent.{blocks, blocks_in, class_blocks, leaves_in, shares_line}
use Rattle.pkg_state.specs.Package.{Package, line_of}
use Rattle.pkg_state.specs.declared.class.Class.{Class}
use Rattle.pkg_state.specs.declared.class.Class.TheVariants.{Bdepend, Depend, Idepend, Pdepend, Rdepend}
use Rattle.plan_law.specs.Plans.{Group}
use Rattle.plan_law.specs.Lives.{Life, Moment, Stretch, stretch_of}
use Rattle.plan_law.specs.Sound.{bars, class_blocks_strongly, is_strong_block}
use Rattle.plan_lives.specs.Keeping.{IsMet, barring_blocks, is_elsewhere, is_kept_out, running_blocks, strong_blocks_in}
use Rattle.plan_check.specs.Kept.{IsFirstKept, IsKeptOut, IsKeptOutToo, Keeps}
use Rattle.plan_check.specs.PackageRules.{IsBarred, IsBlocked, blocks_of, is_of_kind, strong_rule, weak_rule}
use Rattle.plan_check.specs.declared.blocked.Keeping.{Keeping}
use Rattle.plan_rules.specs.Order.{number_of}
use Rattle.plan_rules.specs.Refusals.{Refusal, Refusal as refused, Says}
use Rattle.plan_rules.specs.Verdicts.{each, refuse}
use Rattle.plan_rules.specs.declared.refusal.PlanRefused.{PlanRefused}
use Rattle.plan_rules.proofs.Trying.{says_more}

any_step : {A : Type 0} (f : A → Bool) (b : Bool) (x : A) (xs : List A) → list_any f (cond b (x ∷ xs) xs) ≡ ((b && f x) || list_any f xs)
any_step f true x xs = refl
any_step f false x xs = refl

any_filter : {A : Type 0} (k f : A → Bool) (xs : List A) → list_any f (filter k xs) ≡ list_any (λ a. k a && f a) xs
any_filter k f [] = refl
any_filter k f (x ∷ xs) = any_step f (k x) x (filter k xs) ∙ ap (λ (b : Bool). (k x && f x) || b) (any_filter k f xs)

module _ (p q : Package) where
  abbrev f : AtomValue → Bool
  f a = value_matches a q.facts p.facts.enabled

  in_class : (class : Class) → list_any f (blocks_in class p) ≡ class_blocks class p q
  in_class class = any_filter is_block f (leaves_in class p)

  strongly : (class : Class) → list_any f (strong_blocks_in class p) ≡ class_blocks_strongly class p q
  strongly class = any_filter (λ (a : AtomValue). is_strong_block a.block) f (leaves_in class p)

  joined : (one two : List AtomValue) (a b : Bool) → list_any f one ≡ a → list_any f two ≡ b → list_any f (one ++ two) ≡ (a || b)
  joined one two a b e h = list_any-append f one two ∙ (λ i. e i || h i)

  pub blocks_kept : is_kept_out (running_blocks p) p.facts.enabled (Some (line_of p.facts)) q ≡ blocks p q
  blocks_kept = ap (λ (b : Bool). b && not (shares_line p q)) (joined (blocks_in Rdepend p) (blocks_in Pdepend p) _ _ (in_class Rdepend) (in_class Pdepend))

  pub bars_kept : is_kept_out (barring_blocks p) p.facts.enabled None q ≡ bars p q
  bars_kept =
      and-true (list_any f (barring_blocks p))
      ∙ joined (strong_blocks_in Rdepend p) _ _ _ (strongly Rdepend)
      (joined (strong_blocks_in Pdepend p) _ _ _ (strongly Pdepend)
      (joined (blocks_in Depend p) _ _ _ (in_class Depend)
      (joined (blocks_in Bdepend p) (blocks_in Idepend p) _ _ (in_class Bdepend) (in_class Idepend))))

-- what is found first is refused first
module _ {E : Type 0} (P Q : Life → Type 0) (to : (y : Life) → P y → Q y) (back : (y : Life) → Q y → P y) (f : Package → E) where
  pub found_first : (xs : List Life) (o : Option Package) → each xs (λ y. refuse (P y) y.package_is) o → each xs (λ y. refuse (Q y) (f y.package_is)) (option_map f o)
  found_first [] None h = tt
  found_first [] (Some p) h = absurd h
  found_first (x ∷ xs) None h = ((λ q. h.0 (back x q)), found_first xs None h.1)
  found_first (x ∷ xs) (Some p) (inl h) = inl (to x h.0, ap f h.1)
  found_first (x ∷ xs) (Some p) (inr h) = inr ((λ q. h.0 (back x q)), found_first xs (Some p) h.1)

-- the strong blocks and the weak ones are all that count while a package is there
module _ (p q : Package) where
  abbrev matches : AtomValue → Bool
  matches a = value_matches a q.facts p.facts.enabled

  abbrev kept_by : Bool → Bool
  kept_by strong = is_kept_out (blocks_of strong p) p.facts.enabled (Some (line_of p.facts)) q

  of_its_kind : (a : AtomValue) → is_of_kind (is_strong_block a.block) a ≡ true
  of_its_kind a = at_kind (is_strong_block a.block) refl where
    at_kind : (b : Bool) → is_strong_block a.block ≡ b → (cond b (is_strong_block a.block) (not (is_strong_block a.block))) ≡ true
    at_kind true e = e
    at_kind false e = ap not e

  -- what one kind keeps out is blocked
  pub kind_blocks : (strong : Bool) → kept_by strong ≡ true → blocks p q ≡ true
  kind_blocks strong e =
      let k = and_parts (list_any matches (blocks_of strong p)) (is_elsewhere (Some (line_of p.facts)) q) e in
      let one = some_passes matches (blocks_of strong p) k.0 in
      let any = passes_some matches (running_blocks p) one.0 (has-filter_back (is_of_kind strong) (running_blocks p) one.0 one.1).0 one.2 in
      sym (blocks_kept p q) ∙ and_from (list_any matches (running_blocks p)) (is_elsewhere (Some (line_of p.facts)) q) any k.1

  -- what is blocked one kind keeps out
  pub blocked_by : blocks p q ≡ true → (strong : Bool) × (kept_by strong ≡ true)
  blocked_by e =
      let k = and_parts (list_any matches (running_blocks p)) (is_elsewhere (Some (line_of p.facts)) q) (blocks_kept p q ∙ e) in
      let one = some_passes matches (running_blocks p) k.0 in
      let strong = is_strong_block one.0.block in
      let any = passes_some matches (blocks_of strong p) one.0 (has-filter (is_of_kind strong) (running_blocks p) one.0 one.1 (of_its_kind one.0)) one.2 in
      (strong, and_from (list_any matches (blocks_of strong p)) (is_elsewhere (Some (line_of p.facts)) q) any k.1)

-- what the code's blocks keep out is what they say
module _ (plan : List Group) (k : Keeping) (s : Stretch) (atoms : List AtomValue) (asker : List (List ℕ)) (line : Option (List ℕ)) (keeps : Keeps k s atoms asker line) (y : Life) where
  pub kept_met : IsKeptOut plan k y → IsMet plan s atoms asker line y
  kept_met m =
      subst (λ (l : Option (List ℕ)). IsMet plan s atoms asker l y) keeps.line_is
      (subst (λ (fs : List (List ℕ)). IsMet plan s atoms fs k.line y) keeps.flags
      (subst (λ (bs : List AtomValue). IsMet plan s bs k.asker.now k.line y) keeps.blocks
      (subst (λ (t : Stretch). IsMet plan t (map (λ atom. atom_value atom.now) k.blocks.items) k.asker.now k.line y) keeps.stretch m)))

  pub met_kept : IsMet plan s atoms asker line y → IsKeptOut plan k y
  met_kept m =
      subst (λ (t : Stretch). IsMet plan t (map (λ atom. atom_value atom.now) k.blocks.items) k.asker.now k.line y) (sym keeps.stretch)
      (subst (λ (bs : List AtomValue). IsMet plan s bs k.asker.now k.line y) (sym keeps.blocks)
      (subst (λ (fs : List (List ℕ)). IsMet plan s atoms fs k.line y) (sym keeps.flags)
      (subst (λ (l : Option (List ℕ)). IsMet plan s atoms asker l y) (sym keeps.line_is) m)))

module _ (plan : List Group) (xs : List Life) (x : Life) (k : Keeping) where
  abbrev Kept : Bool → Type 0
  Kept strong = Keeps k (stretch_of x) (blocks_of strong x.package_is) x.package_is.facts.enabled (Some (line_of x.package_is.facts))

  pub weak_told : Kept false → (o : Option Package) → IsFirstKept plan xs k None o → weak_rule plan xs x (option_map (λ q. refused.Blocked x.package_is.facts.id q.facts.id) o)
  weak_told keeps o found =
      found_first (λ (y : Life). IsKeptOut plan k y ⊎ IsKeptOutToo plan None y) (λ (y : Life). IsBlocked plan false x y)
      (λ y h. elim h [ inl m ↦ kept_met plan k _ _ _ _ keeps y m | inr none ↦ absurd none ])
      (λ y m. inl (met_kept plan k _ _ _ _ keeps y m)) (λ (q : Package). refused.Blocked x.package_is.facts.id q.facts.id) xs o found

  pub strong_told : (other : Option Keeping) → Kept true → (o : Option Package) → IsFirstKept plan xs k other o
      → each xs (λ y. refuse (IsBlocked plan true x y ⊎ IsKeptOutToo plan other y) (refused.Barred (number_of x.birth) x.package_is.facts.id y.package_is.facts.id)) (option_map (λ q. refused.Barred (number_of x.birth) x.package_is.facts.id q.facts.id) o)
  strong_told other keeps o found =
      found_first (λ (y : Life). IsKeptOut plan k y ⊎ IsKeptOutToo plan other y) (λ (y : Life). IsBlocked plan true x y ⊎ IsKeptOutToo plan other y)
      (λ y h. elim h [ inl m ↦ inl (kept_met plan k _ _ _ _ keeps y m) | inr too ↦ inr too ])
      (λ y h. elim h [ inl m ↦ inl (met_kept plan k _ _ _ _ keeps y m) | inr too ↦ inr too ]) (λ (q : Package). refused.Barred (number_of x.birth) x.package_is.facts.id q.facts.id) xs o found

-- one rule says what another says, where their facts are the same
pub refused_alike : {E : Type 0} (P Q : Life → Type 0) (to : (y : Life) → P y → Q y) (back : (y : Life) → Q y → P y) (f : Life → E) (xs : List Life) (o : Option E) → each xs (λ y. refuse (P y) (f y)) o → each xs (λ y. refuse (Q y) (f y)) o
refused_alike P Q to back f [] None h = tt
refused_alike P Q to back f [] (Some e) h = absurd h
refused_alike P Q to back f (x ∷ xs) None h = ((λ q. h.0 (back x q)), refused_alike P Q to back f xs None h.1)
refused_alike P Q to back f (x ∷ xs) (Some e) (inl h) = inl (to x h.0, h.1)
refused_alike P Q to back f (x ∷ xs) (Some e) (inr h) = inr ((λ q. h.0 (back x q)), refused_alike P Q to back f xs (Some e) h.1)

-- a package that no group brings is barred by none
pub none_barred : (plan : List Group) (all : List Life) (x : Life) (b : Moment) → x.birth ≡ b → ((y : Life) → ¬ IsBarred plan x.package_is b y) → {T : Type 0} (r : Result T PlanRefused)
    → Says (each all (λ y. refuse (IsBlocked plan true x y ⊎ IsKeptOutToo plan None y) (refused.Barred (number_of x.birth) x.package_is.facts.id y.package_is.facts.id))) r → Says (strong_rule plan all x) r
none_barred plan all x b is none r says =
    let f : Life → Refusal = λ y. refused.Barred (number_of x.birth) x.package_is.facts.id y.package_is.facts.id in
    let P : Life → Type 0 = λ y. IsBlocked plan true x y ⊎ IsKeptOutToo plan None y in
    let Q : Life → Type 0 = λ y. IsBlocked plan true x y ⊎ IsBarred plan x.package_is x.birth y in
    says_more (each all (λ y. refuse (P y) (f y))) (strong_rule plan all x) r
    (refused_alike P Q
    (λ y h. elim h [ inl m ↦ inl m | inr too ↦ absurd too ])
    (λ y h. elim h [ inl m ↦ inl m | inr bar ↦ absurd (none y (subst (λ (m : Moment). IsBarred plan x.package_is m y) is bar)) ])
    f all)
    says
