-- Changes of lines that are apart have lines of their own in the text of a plan.
use Rattle.std.proofs.Common.{◌≡◌, ◌∙◌, ◌++◌, ℕ, zero, suc, List, [], ◌∷◌, Option, Some, None, arith, inl, inr, refl, ap, map, subst, sym}
use Rattle.std.specs.Prelude.{codes, decimal}
use Rattle.std.specs.List.{AllByRecursion}
use Rattle.basics.specs.Members.{AreDistinct, Has}
use Rattle.basics.proofs.Each.{all_has}
use Rattle.basics.proofs.Membership.{has-map_back}
use Rattle.build_pool.specs.declared.orders.Order.{Order}
use Rattle.pkg_state.specs.Package.{Package, line_of, line_text, lines_of}
use Rattle.choice_law.specs.Tree.{Choice}
use Rattle.choice_law.specs.Universe.{Offer, Universe, Value, absent, as_list, keep, lines, offer_at, package_of, variant}
use Rattle.choice_tree.specs.Places.{numbers, place_at, value_in}
use Rattle.choice_tree.proofs.Numbers.{numbers_have}
use Rattle.plan_text.specs.Plans.{GroupValue}
use Rattle.plan_text.specs.Texts.{IsPlan, plan_text}
use Rattle.plan_text.specs.declared.plan.Removal.{Removal}
use Rattle.merge_groups.specs.Changes.{part_in, part_of, those}
use Rattle.merge_groups.specs.Named.{IsNamed}
use Rattle.merge_groups.specs.Order.{entry_of, removal_of, text_of}
use Rattle.merge_groups.specs.Single.{AreLinesApart}
use Rattle.merge_groups.specs.declared.change.Change.{Change}
use Rattle.merge_groups.specs.declared.change.Change.TheVariants as changes
use Rattle.merge_groups.specs.declared.part.Part.{Part}
use Rattle.merge_groups.specs.declared.part.Part.TheVariants.{Coming, Going, Standing}
use Rattle.merge_groups.proofs.Gathered.{ahead}
use Rattle.merge_groups.proofs.Formed.{entry_named}

-- the plans of one change alone
abbrev plan_of : Change → Package → List GroupValue
plan_of changes.Removal p = record { after = []; removals = removal_of p ∷ []; additions = [] } ∷ []
plan_of changes.Addition p = record { after = []; removals = []; additions = entry_of p ∷ [] } ∷ []

plan_named : (change : Change) (p : Package) → IsNamed p → IsPlan (plan_of change p)
plan_named changes.Removal p is = record {
  few = omega arith;
  groups = (
    record {
      earlier = refl;
      changes = omega arith;
      removals = (record { id = is.id; slot = is.facts.slot }, tt);
      removals_rise = refl;
      additions = tt;
      additions_rise = refl;
    },
    tt,
  );
}
plan_named changes.Addition p is = record {
  few = omega arith;
  groups = (
    record {
      earlier = refl;
      changes = omega arith;
      removals = tt;
      removals_rise = refl;
      additions = (record { says = entry_named p is; binds = tt }, tt);
      additions_rise = refl;
    },
    tt,
  );
}

-- the text of such a plan around that of its change
abbrev around : List ℕ → List ℕ
around change = codes "plan 1\n" ++ (((codes "group " ++ decimal 1) ++ (10 ∷ [])) ++ ((change ++ (10 ∷ [])) ++ []))

plan_around : (change : Change) (p : Package) → plan_text (plan_of change p) ≡ around (text_of change p)
plan_around changes.Removal p = refl
plan_around changes.Addition p = refl

-- the line that such a plan changes
abbrev removed_line : List Removal → List ℕ
removed_line [] = []
removed_line (r ∷ rs) = line_text r.id.name r.slot

abbrev added_line : List Order → List ℕ
added_line [] = []
added_line (a ∷ rest) = line_text a.id.name a.slot

abbrev changed_line : Change → List GroupValue → List ℕ
changed_line change [] = []
changed_line changes.Removal (g ∷ gs) = removed_line g.removals
changed_line changes.Addition (g ∷ gs) = added_line g.additions

changes_line : (change : Change) (p : Package) → changed_line change (plan_of change p) ≡ line_of p.facts
changes_line changes.Removal p = refl
changes_line changes.Addition p = refl

-- plans in form that have one text are one plan
abbrev pub PlansAreOne : Type 0
PlansAreOne = (p q : List GroupValue) → IsPlan p → IsPlan q → plan_text p ≡ plan_text q → p ≡ q

one_line : PlansAreOne → (change : Change) (p q : Package) → IsNamed p → IsNamed q → text_of change p ≡ text_of change q → line_of p.facts ≡ line_of q.facts
one_line once change p q is js e =
    let texts = plan_around change p ∙ (ap around e ∙ sym (plan_around change q)) in
    let same = once (plan_of change p) (plan_of change q) (plan_named change p is) (plan_named change q js) texts in
    sym (changes_line change p) ∙ (ap (changed_line change) same ∙ changes_line change q)

pub texts_apart : PlansAreOne → (change : Change) (ps : List Package) → AllByRecursion IsNamed ps → AreDistinct (lines_of ps) → AreDistinct (map (text_of change) ps)
texts_apart once change [] named apart = tt
texts_apart once change (p ∷ ps) named apart = (
  λ has. (let back = has-map_back (text_of change) ps (text_of change p) has in
      let q = back.0 in
      let same = one_line once change q p (all_has IsNamed ps q named.1 back.1) named.0 back.2 in
      apart.0 (subst (λ (l : List ℕ). Has (lines_of ps) l) same (line_has ps q back.1))),
  texts_apart once change ps named.1 apart.1,
)
  where
    line_has : (qs : List Package) (q : Package) → Has qs q → Has (lines_of qs) (line_of q.facts)
    line_has [] q has = absurd has
    line_has (r ∷ qs) q (inl e) = inl (ap (λ (s : Package). line_of s.facts) e)
    line_has (r ∷ qs) q (inr has) = inr (line_has qs q has)

-- what is asked of a line is a value of it
is_value : (part : Part) (o : Offer) (v : Value) (p : Package) → part_of part o v ≡ Some p → (w : Value) × (package_of o w ≡ Some p)
is_value Going o keep p e = absurd (cc e)
is_value Going o absent p e = (keep, e)
is_value Going o (variant i) p e = (keep, e)
is_value Coming o keep p e = absurd (cc e)
is_value Coming o absent p e = absurd (cc e)
is_value Coming o (variant i) p e = (variant i, e)
is_value Standing o v p e = (v, e)

pub distinct_numbers : (n k : ℕ) → AreDistinct (numbers n k)
distinct_numbers zero k = tt
distinct_numbers (suc n) k = (λ has. absurd (omega (arith, (numbers_have n (suc k) k has).0)), distinct_numbers n (suc k))

module _ (part : Part) (u : Universe) (c : Choice) (apart : AreLinesApart u) where
  -- the line of these on which the package is
  abbrev From : List ℕ → Package → Type 0
  From ls p = (l : ℕ) × Has ls l × (part_in part (place_at u c l) ≡ Some p)

  from_more : (l : ℕ) (ls : List ℕ) (p : Package) (o : Option Package) → part_in part (place_at u c l) ≡ o → (Has (ahead part u c ls) p → From (l ∷ ls) p) → Has (as_list o ++ ahead part u c ls) p → From (l ∷ ls) p
  from_more l ls p None e later there = later there
  from_more l ls p (Some q) e later (inl same) = (l, inl refl, e ∙ ap (λ (r : Package). Some r) same)
  from_more l ls p (Some q) e later (inr there) = later there

  from_line : (ls : List ℕ) (p : Package) → Has (ahead part u c ls) p → From ls p
  from_line [] p has = absurd has
  from_line (l ∷ ls) p has = from_more l ls p (part_in part (place_at u c l)) refl (λ there. (let r = from_line ls p there in (r.0, inr r.1, r.2))) has

  distinct_more : (l : ℕ) (ls : List ℕ) → ¬ Has ls l → AreDistinct (lines_of (ahead part u c ls)) → (o : Option Package) → part_in part (place_at u c l) ≡ o → AreDistinct (lines_of (as_list o ++ ahead part u c ls))
  distinct_more l ls new rest None e = rest
  distinct_more l ls new rest (Some p) e = (
    λ has. (let back = has-map_back (λ (q : Package). line_of q.facts) (ahead part u c ls) (line_of p.facts) has in
        let q = back.0 in
        let from = from_line ls q back.1 in
        let m = from.0 in
        let v = is_value part (offer_at u l) (value_in (place_at u c l)) p e in
        let w = is_value part (offer_at u m) (value_in (place_at u c m)) q from.2 in
        new (subst (λ (j : ℕ). Has ls j) (apart m l w.0 v.0 q p w.1 v.1 back.2) from.1)),
    rest,
  )

  distinct_ahead : (ls : List ℕ) → AreDistinct ls → AreDistinct (lines_of (ahead part u c ls))
  distinct_ahead [] d = tt
  distinct_ahead (l ∷ ls) d = distinct_more l ls d.0 (distinct_ahead ls d.1) (part_in part (place_at u c l)) refl

  pub lines_apart : AreDistinct (lines_of (those part u c))
  lines_apart = distinct_ahead (numbers (lines u) 0) (distinct_numbers (lines u) 0)
