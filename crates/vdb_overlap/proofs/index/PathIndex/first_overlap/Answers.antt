use Rattle.std.proofs.Common.{◌≡◌, ◌∙◌, ◌++◌, ◌∷◌, [], List, None, Option, ap, append_assoc, false, inl, refl, subst, sym, ℕ}
use Rattle.std.proofs.lemmas.Option.{MatchOption-at_none, MatchOption-at_some}
use denote.Ref.{Bor}
use Rattle.basics.specs.Members.{Has}
use Rattle.basics.proofs.Membership.{has-append_right}
use Rattle.file_tree.specs.Paths.{is_below}
use Rattle.vdb_overlap.specs.Indexes.{PathIndexValue}
use Rattle.vdb_overlap.specs.Overlaps.{IsFirst, IsOver, IsUnder}
use Rattle.vdb_overlap.proofs.Below.{distinct_of, first_over, none_over_more}
use Rattle.vdb_overlap.proofs.index.PathIndex.first_overlap.Goals as goal

pub returns-in-Some-2 : goal.returns-in-Some-2
returns-in-Some-2 c ps seen =
    let x : PathIndexValue = c.args.self.now in
    let texts = ap (λ (y : PathIndexValue). y.texts) c.self.view_is in
    let twice : ◌≡◌ {A = Option (List ℕ)} x.twice None = sym (ap (λ (y : PathIndexValue). y.twice) c.self.view_is) ∙ c.in_default.is in
    let inv = c.loop-text.invariant in
    let q : List ℕ = c.in-Some-text.text.now in
    let is = inv.1 ∙ ap (λ (l : List (List ℕ)). inv.0 ++ l) c.in-Some-text.ensures.steps in
    let low = MatchOption-at_some ((s : List ℕ) → Has c.self.inside.texts.keys s → is_below q s ≡ false) (λ (s : Bor (List ℕ)). IsFirst (IsUnder c.self.inside.texts.keys q) s.now) c.in-Some-2.below c.in-Some-2.is c.in_ok-below.ensures in
    let first = subst (λ (l : List (List ℕ)). IsFirst (IsUnder l q) c.in-Some-2.below.now) texts low in
    let both = first_over ps x seen inv.0 q c.next.new.self c.in-Some-2.below.now is inv.2 first in
    let path : ◌≡◌ {A = List ℕ} q c.in_ok-path-2.path = sym c.in_ok-path-2.ensures in
    let below : ◌≡◌ {A = List ℕ} c.in-Some-2.below.now c.in_ok-below-2.below = sym c.in_ok-below-2.ensures in (
      distinct_of ps x seen twice,
      subst (IsFirst (IsOver ps)) path both.0,
      subst (λ (p : List ℕ). IsFirst (IsUnder ps p) c.in_ok-below-2.below) path (subst (IsFirst (IsUnder ps q)) below both.1),
    )

pub loop-text-preserved : goal.loop-text-preserved
loop-text-preserved c =
    let texts = ap (λ (y : PathIndexValue). y.texts) c.self.view_is in
    let inv = c.loop-text.invariant in
    let q : List ℕ = c.in-Some-text.text.now in
    let is = inv.1 ∙ ap (λ (l : List (List ℕ)). inv.0 ++ l) c.in-Some-text.ensures.steps in
    let none = MatchOption-at_none ((s : List ℕ) → Has c.self.inside.texts.keys s → is_below q s ≡ false) (λ (s : Bor (List ℕ)). IsFirst (IsUnder c.self.inside.texts.keys q) s.now) c.in_default-2.is c.in_ok-below.ensures in (
      inv.0 ++ q ∷ [],
      is ∙ sym (append_assoc inv.0 (q ∷ []) c.next.new.self),
      none_over_more c.args.self.now.texts inv.0 q inv.2 (subst (λ (l : List (List ℕ)). (s : List ℕ) → Has l s → is_below q s ≡ false) texts none),
    )

pub path_of-requires-in-Some-2 : goal.path_of-requires-in-Some-2
path_of-requires-in-Some-2 c =
    let texts = ap (λ (y : PathIndexValue). y.texts) c.self.view_is in
    let inv = c.loop-text.invariant in
    let q : List ℕ = c.in-Some-text.text.now in
    let is = inv.1 ∙ ap (λ (l : List (List ℕ)). inv.0 ++ l) c.in-Some-text.ensures.steps in
    let there : Has c.self.inside.texts.keys q = subst (λ (l : List (List ℕ)). Has l q) (sym (texts ∙ is)) (has-append_right inv.0 (q ∷ c.next.new.self) q (inl refl)) in
    c.self.invariant.each q there
