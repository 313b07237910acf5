-- The line of an addition, piece by piece.
use Rattle.std.proofs.Common.{◌≡◌, ◌∙◌, ◌++◌, ℕ, List, [], ◌∷◌, ap, append_assoc, sym}
use Rattle.std.specs.Prelude.{codes}
use Rattle.std.specs.List.{flat_map}
use Rattle.pkg_state.specs.Package.{Package}
use Rattle.plan_text.specs.Printed.{spaced}
use Rattle.plan_text.specs.Words.{addition_word}
use Rattle.plan_text.proofs.Pieces.{joined}
use Rattle.dep_atom.specs.Ids.{id_text}
use Rattle.merge_groups.specs.Lined.{line_begun}
use Rattle.merge_groups.specs.Order.{enabled_of, entry_of, text_of}
use Rattle.merge_groups.specs.declared.change.Change.TheVariants as changes

cut : (a b c d : List ℕ) → (((a ++ (58 ∷ b)) ++ (47 ∷ [])) ++ c) ++ d ≡ (a ++ (58 ∷ (b ++ (47 ∷ c)))) ++ d
cut a b c d = ap (λ l. l ++ d) (append_assoc (a ++ (58 ∷ b)) (47 ∷ []) c ∙ append_assoc a (58 ∷ b) (47 ∷ c))

-- the words of an addition behind its begun line
pub addition_is : (p : Package) → ((line_begun (codes "add") p ++ (47 ∷ [])) ++ p.facts.subslot) ++ flat_map spaced (enabled_of p) ≡ text_of changes.Addition p
addition_is p =
    ap (λ l. codes "add " ++ l) (cut (id_text p.facts.id) p.facts.slot p.facts.subslot (flat_map spaced (enabled_of p))
    ∙ sym (joined (addition_word (entry_of p)) (enabled_of p)))
