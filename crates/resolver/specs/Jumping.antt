-- The choices of a universe are a tree through which a walk may jump back.
use Rattle.std.proofs.Common.{◌≡◌, ◌∙◌, ℕ, Bool, List, [], Option, Some, ap, inl, inr, refl, subst, sym}
use Rattle.std.specs.Option.{option_map_or}
use Rattle.std.proofs.lemmas.Bool.{cases_Bool}
use Rattle.basics.specs.Members.{Has}
use Rattle.choice_law.specs.Universe.{Filling, Universe}
use Rattle.choice_law.specs.Solutions.{IsSolution}
use Rattle.choice_law.specs.Tree.{Choice, IsNode, IsOption, Obligation, decided, filling, option}
use Rattle.choice_law.specs.Laws.{GoodLeavesAreSolutions, IsUniverse}
use Rattle.choice_law.specs.Possible.{is_hopeless}
use Rattle.choice_law.specs.Reasons.{AgreesNew, AgreesOn, HopelessChoicesFail, ReasonsSuffice, reason}
use Rattle.choice_law.proofs.Hopeless.{hopeless_fail}
use Rattle.choice_law.proofs.Lines.{filling_decided}
use Rattle.choice_law.proofs.Options.{reasons_suffice}
use Rattle.choice_law.proofs.Steps.{option_extends}
use Rattle.choice_law.proofs.Whole.{leaves_solve}
use Rattle.choice_tree.specs.Open.{FirstOpenIsAPick, first_open}
use Rattle.choice_tree.specs.Tree.{tree_reason, tried_options}
use Rattle.choice_tree.proofs.Among.{options_all, options_are}
use Rattle.choice_tree.proofs.Pick.{first_is_a_pick}
use Rattle.choice_tree.proofs.Smaller.{all_tried, none_tried, some_tried, tried_is_option, tried_smaller}
use Rattle.choice_search.specs.Jumping.{IsJumping}
use Rattle.resolver.specs.Nodes.{IsOfTree}
use Rattle.resolver.specs.Tree.{tree_shape}

module _ (update : Bool) (u : Universe) where
  -- an option that is tried is one for what is first open
  tried_is : (c d : Choice) (ds : List Choice) → tried_options update u c ≡ Some ds → Has ds d → (o : Obligation) × (first_open u c ≡ Some o) × IsOption u c o d
  tried_is c d ds is h =
      let o = some_tried update u c ds is in
      (o.0, o.1, options_are update u c o.0 d (tried_is_option update u c o.0 d (subst (λ (xs : List Choice). Has xs d) (sym o.2) h)))

  -- a solution that agrees on the reason agrees with what some option that is tried adds
  kept : IsUniverse u → ReasonsSuffice → HopelessChoicesFail → FirstOpenIsAPick → (c : Choice) (ds : List Choice) (f : Filling) → tried_options update u c ≡ Some ds → IsSolution u f → AgreesOn (tree_reason u c) c f → (d : Choice) × Has ds d × AgreesNew c d f
  kept form suffice fail pick c ds f is s agrees =
      let o = some_tried update u c ds is in
      let same : tree_reason u c ≡ reason u c o.0 = ap (λ (x : Option Obligation). option_map_or (reason u c) x []) o.1 in
      let on : AgreesOn (reason u c o.0) c f = subst (λ (ls : List ℕ). AgreesOn ls c f) same agrees in
      let open_now = (pick u).some c o.0 o.1 in
      elim (cases_Bool (is_hopeless u c o.0)) [
        | inl hopeless ↦ absurd (fail u f c o.0 form s open_now hopeless on)
        | inr hopes ↦ (
            let e = suffice u f c o.0 form s open_now on in
            (e.0, subst (λ (xs : List Choice). Has xs e.0) (all_tried update u c o.0 hopes ∙ o.2) (options_all update u c o.0 e.0 e.1), e.2))
      ]

  pub tree_jumps : IsUniverse u → GoodLeavesAreSolutions → FirstOpenIsAPick → ReasonsSuffice → HopelessChoicesFail → IsJumping (tree_shape update u) decided (λ c. IsNode u (first_open u) c) (IsSolution u)
  tree_jumps form law pick suffice fail = record {
    known = λ c l. refl;
    smaller = tried_smaller update u;
    stays = λ c d ds node is h. let o = tried_is c d ds is h in option c d o.0 node o.1 o.2;
    extends = λ c d ds node is h. let o = tried_is c d ds is h in option_extends u c o.0 d o.2;
    kept = λ c ds f node is s agrees. kept form suffice fail pick c ds f is s agrees;
    good_is = λ c node is. (filling u c, law u (first_open u) c (pick u) (record { node = node; closed = none_tried update u c is }), filling_decided u c);
  }

  -- .. over a universe in form
  abbrev jump : IsUniverse u → IsJumping (tree_shape update u) decided (λ c. IsNode u (first_open u) c) (IsSolution u)
  jump form = tree_jumps form leaves_solve first_is_a_pick reasons_suffice hopeless_fail

  pub choices_jump : IsJumping (tree_shape update u) decided (IsOfTree u) (IsSolution u)
  choices_jump = record {
    known = λ c l. refl;
    smaller = tried_smaller update u;
    stays = λ c d ds fit is h. (fit.0, (jump fit.0).stays c d ds fit.1 is h);
    extends = λ c d ds fit is h. (jump fit.0).extends c d ds fit.1 is h;
    kept = λ c ds f fit is s agrees. (jump fit.0).kept c ds f fit.1 is s agrees;
    good_is = λ c fit is. (jump fit.0).good_is c fit.1 is;
  }
