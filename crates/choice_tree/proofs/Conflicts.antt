-- Conflicts, by the blocks of a package in one list.
use Rattle.std.proofs.Common.{◌≡◌, ◌||◌, ◌&&◌, ◌++◌, Bool, true, false, cond, List, [], ◌∷◌, filter, refl, ap, ◌∙◌}
use Rattle.std.specs.List.{list_any}
use Rattle.std.proofs.lemmas.List.Folds.{list_any-append}
use Rattle.dep_atom.specs.Match.{value_matches}
use Rattle.dep_atom.specs.Values.{AtomValue}
use Rattle.dep_tree.specs.Grammar.{is_block}
use Rattle.pkg_state.specs.Consistent.{blocks_in, class_blocks, leaves_in}
use Rattle.pkg_state.specs.Package.{Package}
use Rattle.pkg_state.specs.declared.class.Class.{Class}
use Rattle.pkg_state.specs.declared.class.Class.TheVariants.{Bdepend, Depend, Idepend, Pdepend, Rdepend}
use Rattle.choice_law.specs.Universe.{conflicts, same_version}
use Rattle.choice_tree.specs.Blocks.{blocks_of, build_blocks, hit}

filter_step : {A : Type 0} (b : Bool) (test : A → Bool) (x : A) (xs : List A) → list_any test (cond b (x ∷ xs) xs) ≡ ((b && test x) || list_any test xs)
filter_step true test x xs = refl
filter_step false test x xs = refl

any_kept : {A : Type 0} (keep test : A → Bool) (xs : List A) → list_any test (filter keep xs) ≡ list_any (λ x. keep x && test x) xs
any_kept keep test [] = refl
any_kept keep test (x ∷ xs) =
    filter_step (keep x) test x (filter keep xs) ∙ ap (λ (b : Bool). (keep x && test x) || b) (any_kept keep test xs)

module _ (p q : Package) where
  class_hit : (class : Class) → hit (blocks_in class p) p q ≡ class_blocks class p q
  class_hit class =
      any_kept is_block (λ a. value_matches a q.facts p.facts.enabled) (leaves_in class p)

  both : (xs ys : List AtomValue) → hit (xs ++ ys) p q ≡ (hit xs p q || hit ys p q)
  both xs ys = list_any-append (λ a. value_matches a q.facts p.facts.enabled) xs ys

  abbrev c : Class → Bool
  c class = class_blocks class p q

  built : hit (build_blocks p) p q ≡ (c Depend || (c Bdepend || c Idepend))
  built =
      both (blocks_in Depend p) (blocks_in Bdepend p ++ blocks_in Idepend p)
      ∙ ap (λ (b : Bool). b || hit (blocks_in Bdepend p ++ blocks_in Idepend p) p q) (class_hit Depend)
      ∙ ap (λ (b : Bool). c Depend || b) (both (blocks_in Bdepend p) (blocks_in Idepend p)
      ∙ ap (λ (b : Bool). b || hit (blocks_in Idepend p) p q) (class_hit Bdepend) ∙ ap (λ (b : Bool). c Bdepend || b) (class_hit Idepend))

  run : hit (blocks_in Rdepend p ++ blocks_in Pdepend p) p q ≡ (c Rdepend || c Pdepend)
  run = both (blocks_in Rdepend p) (blocks_in Pdepend p)
      ∙ ap (λ (b : Bool). b || hit (blocks_in Pdepend p) p q) (class_hit Rdepend) ∙ ap (λ (b : Bool). c Rdepend || b) (class_hit Pdepend)

  of_new : (new : Bool) → hit (cond new (build_blocks p) []) p q ≡ (new && (c Depend || (c Bdepend || c Idepend)))
  of_new true = built
  of_new false = refl

  regroup : (a b d e : Bool) → (((a || b) || d) || e) ≡ (a || (b || (d || e)))
  regroup true b d e = refl
  regroup false true d e = refl
  regroup false false d e = refl

  pub conflicts_are : (new : Bool) → (hit (blocks_of new p) p q || same_version p q) ≡ conflicts new p q
  conflicts_are new =
      ap (λ (b : Bool). b || same_version p q) (both (blocks_in Rdepend p ++ blocks_in Pdepend p) (cond new (build_blocks p) [])
      ∙ ap (λ (b : Bool). b || hit (cond new (build_blocks p) []) p q) run
      ∙ ap (λ (b : Bool). (c Rdepend || c Pdepend) || b) (of_new new))
      ∙ regroup (c Rdepend) (c Pdepend) (new && (c Depend || (c Bdepend || c Idepend))) (same_version p q)
