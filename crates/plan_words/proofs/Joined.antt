-- Words behind words.
use Rattle.std.proofs.Common.{◌≡◌, ◌∙◌, ◌++◌, ℕ, List, ap, append_assoc, sym}
use Rattle.std.specs.List.{flat_map}
use Rattle.std.proofs.lemmas.Grind.{flat_map-append}
use Rattle.plan_text.specs.Printed.{spaced}

pub more_words : (old mid new : List ℕ) (ws vs : List (List ℕ)) → mid ≡ old ++ flat_map spaced ws → new ≡ mid ++ flat_map spaced vs → new ≡ old ++ flat_map spaced (ws ++ vs)
more_words old mid new ws vs first second =
    second ∙ (ap (λ (l : List ℕ). l ++ flat_map spaced vs) first
    ∙ (append_assoc old (flat_map spaced ws) (flat_map spaced vs) ∙ ap (λ (l : List ℕ). old ++ l) (sym (flat_map-append spaced ws vs))))
