-- What is offered on each line, of the packages that are installed and of the variants that may
-- come.
use Rattle.std.specs.Prelude.{◌≡◌, ◌||◌, ℕ, List, bytes_eq, filter, map}
use Rattle.std.specs.List.{flat_map}
use Rattle.pms_names.specs.Flags.{IsRising, has}
use Rattle.pkg_state.specs.Package.{Package, line_of, lines_of}
use Rattle.pkg_state.specs.State.{on_line}
use Rattle.choice_law.specs.Universe.{Offer}
use Rattle.choice_universe.specs.declared.candidate.Candidate.{Candidate}

-- the variants of all candidates, in their order
abbrev pub variants_of : List Candidate → List Package
variants_of candidates = flat_map (λ c. c.variants.items) candidates

-- those of a line, in the same order
abbrev pub variants_on : List Package → List ℕ → List Package
variants_on variants line = filter (λ p. bytes_eq line (line_of p.facts)) variants

-- what is offered on a line: what is installed there, and the variants that stand there
abbrev pub offer_on : List Package → List Package → List ℕ → Offer
offer_on installed variants line =
    record { installed = on_line installed line; variants = variants_on variants line }

-- the offers of just the lines on which a package is installed or a variant stands, in line order,
-- each line once
pub record AreOffers (installed variants : List Package) (offers : List Offer) : Type 0 where
  pub lines : List (List ℕ)
  pub rising : IsRising lines
  pub those : (line : List ℕ) →
      has lines line ≡ (has (lines_of installed) line || has (lines_of variants) line)
  pub each : offers ≡ map (offer_on installed variants) lines
