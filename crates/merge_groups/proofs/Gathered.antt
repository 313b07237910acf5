-- What is gathered of the lines, one after another.
use Rattle.std.proofs.Common.{◌≡◌, ◌∙◌, ◌<◌, ◌+◌, ◌-◌, ◌++◌, ℕ, List, ap, map, sym}
use Rattle.std.specs.List.{flat_map}
use Rattle.std.proofs.lemmas.List.{append_assoc}
use Rattle.pkg_state.specs.Package.{Package}
use Rattle.choice_law.specs.Tree.{Choice}
use Rattle.choice_law.specs.Universe.{Universe, as_list, lines}
use Rattle.choice_tree.specs.Places.{numbers, place_at}
use Rattle.choice_tree.proofs.Numbers.{numbers_next}
use Rattle.merge_groups.specs.Changes.{part_in, those}
use Rattle.merge_groups.specs.declared.part.Part.{Part}

-- what is still to come of these lines
abbrev pub ahead : Part → Universe → Choice → List ℕ → List Package
ahead part u c ls = flat_map (λ s. as_list (part_in part s)) (map (place_at u c) ls)

pub gathered_more : (part : Part) (u : Universe) (c : Choice) (old new : List Package) (l : ℕ) → l < lines u → new ≡ old ++ as_list (part_in part (place_at u c l)) → old ++ ahead part u c (numbers (lines u - l) l) ≡ those part u c → new ++ ahead part u c (numbers (lines u - (l + 1)) (l + 1)) ≡ those part u c
gathered_more part u c old new l less is before =
    let later = ahead part u c (numbers (lines u - (l + 1)) (l + 1)) in
    ap (λ (ps : List Package). ps ++ later) is
    ∙ (append_assoc old (as_list (part_in part (place_at u c l))) later
    ∙ (ap (λ (ls : List ℕ). old ++ ahead part u c ls) (sym (numbers_next (lines u) l less)) ∙ before))
