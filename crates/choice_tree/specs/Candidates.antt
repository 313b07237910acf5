-- What may be chosen on lines that aren't decided, and in which order.
use Rattle.std.specs.Prelude.{ℕ, suc, Bool, true, List, [], ◌∷◌, ◌++◌, Option, None, Some, get_or, length, nat_lt, if◌then◌else◌}
use Rattle.std.specs.List.{flat_map}
use Rattle.std.specs.Ordering.{is_gt, ordering_then}
use Rattle.std.specs.declared.cmp.Ordering.{Ordering}
use Rattle.std.specs.declared.cmp.Ordering.TheVariants.{Equal, Greater, Less}
use Rattle.pms_grammar.specs.Grammar.{spelling}
use Rattle.pms_version.specs.Order.{version_cmp}
use Rattle.pms_names.specs.Flags.{byte_order}
use Rattle.pkg_state.specs.Package.{Package}
use Rattle.choice_law.specs.Universe.{Offer, Value, absent, keep, variant}
use Rattle.choice_tree.specs.Places.{Place, no_place, numbers}

-- a package that a line may have, and the value that means it
pub record Candidate : Type 0 where
  pub line : ℕ
  pub value : Value
  pub is : Package

-- what is installed may be kept
abbrev pub kept : ℕ → Option Package → List Candidate
kept l None = []
kept l (Some p) = record { line = l; value = keep; is = p } ∷ []

-- the variants, of which the first has this number
abbrev pub varied : ℕ → ℕ → List Package → List Candidate
varied l i [] = []
varied l i (p ∷ ps) = record { line = l; value = variant i; is = p } ∷ varied l (suc i) ps

-- the variants of a line, behind what is installed where that may be kept
abbrev pub of_line : Bool → ℕ → Offer → List Candidate
of_line keeps l o = (if keeps then kept l o.installed else []) ++ varied l 0 o.variants

-- only while nothing is decided
abbrev pub if_free : {A : Type 0} → Option Value → List A → List A
if_free None xs = xs
if_free (Some v) xs = []

abbrev pub free_line : Bool → List Place → ℕ → List Candidate
free_line keeps ss l =
    if_free (get_or ss l no_place).decided (of_line keeps l (get_or ss l no_place).offer)

-- what is offered there, only while nothing is decided
abbrev pub offer_if_free : Option Value → Offer → Option Offer
offer_if_free None o = Some o
offer_if_free (Some v) o = None

-- what is offered on a line, if there is such a line and nothing is decided of it
abbrev pub free_offer : List Place → ℕ → Option Offer
free_offer ss l =
    if nat_lt l (length ss)
    then offer_if_free (get_or ss l no_place).decided (get_or ss l no_place).offer
    else None

-- of all lines, in their order
abbrev pub all_free : List Place → List Candidate
all_free ss = flat_map (λ l. free_line true ss l) (numbers (length ss) 0)

-- what is kept goes before a variant
abbrev pub kept_first : Value → Value → Ordering
kept_first keep keep = Equal
kept_first keep absent = Less
kept_first keep (variant j) = Less
kept_first absent keep = Greater
kept_first absent absent = Equal
kept_first absent (variant j) = Equal
kept_first (variant i) keep = Greater
kept_first (variant i) absent = Equal
kept_first (variant i) (variant j) = Equal

-- the greater version first, of equal ones what is kept, and then the smaller text; where nothing
-- is to be updated, what is kept goes before everything
abbrev pub rank : Bool → Candidate → Candidate → Ordering
rank update x y =
    ordering_then (if update then Equal else kept_first x.value y.value)
    (ordering_then (version_cmp y.is.facts.id.version x.is.facts.id.version)
    (ordering_then (kept_first x.value y.value)
    (byte_order (spelling x.is.facts.id.version) (spelling y.is.facts.id.version))))

-- one more, before the first that comes later
abbrev pub put : Bool → Candidate → List Candidate → List Candidate
put update x [] = x ∷ []
put update x (y ∷ ys) = if is_gt (rank update y x) then x ∷ y ∷ ys else y ∷ put update x ys

abbrev pub ranked_onto : Bool → List Candidate → List Candidate → List Candidate
ranked_onto update out [] = out
ranked_onto update out (x ∷ xs) = ranked_onto update (put update x out) xs

-- by their ranks; those of one rank stay in their order, which is that of the lines and, on one
-- line, of its offer
abbrev pub ranked : Bool → List Candidate → List Candidate
ranked update xs = ranked_onto update [] xs
