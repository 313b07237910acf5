-- Which line may follow the lines before it.
use Rattle.std.specs.Prelude.{◌==◌, ◌&&◌, ◌+◌, ℕ, Bool, false, true, List, [], ◌∷◌, nat_lt}
use Rattle.plan_text.specs.Lines.{LineValue, Said, line_text}
use Rattle.plan_text.specs.Numbers.{rise_between}
use Rattle.basics.specs.Limits.{most_groups}
use Rattle.plan_text.specs.Words.{is_before}
use Rattle.plan_text.specs.declared.kind.Kind.{Kind}
use Rattle.plan_text.specs.declared.kind.Kind.TheVariants as kinds
use Rattle.plan_text.specs.declared.standing.Place.{Place}
use Rattle.plan_text.specs.declared.standing.Place.TheVariants as places
use Rattle.plan_text.specs.declared.standing.Standing.{Standing}

-- where reading stands: how many groups have begun, what the last line was, and the text of the
-- last removal or addition
pub record StandingValue : Type 0 where
  pub groups : ℕ
  pub place : Place
  pub last : List ℕ

abbrev pub standing : ℕ → Place → List ℕ → StandingValue
standing groups place last = record { groups = groups; place = place; last = last }

abbrev pub standing_value : Standing → StandingValue
standing_value s = standing s.groups s.place s.last.now

-- no line has been read
abbrev pub start : StandingValue
start = standing 0 places.Start []

abbrev pub is_start : Place → Bool
is_start places.Start = true
is_start places.Header = false
is_start places.Group = false
is_start places.After = false
is_start places.Removals = false
is_start places.Additions = false

-- no group is open, or the open one changes something
abbrev pub may_end : Place → Bool
may_end places.Start = false
may_end places.Header = true
may_end places.Group = false
may_end places.After = false
may_end places.Removals = true
may_end places.Additions = true

-- the line of a group is the last one
abbrev pub is_bare : Place → Bool
is_bare places.Start = false
is_bare places.Header = false
is_bare places.Group = true
is_bare places.After = false
is_bare places.Removals = false
is_bare places.Additions = false

-- a removal may follow: as the first one, or above the last one in byte order
abbrev pub takes_removal : Place → List ℕ → List ℕ → Bool
takes_removal places.Start last text = false
takes_removal places.Header last text = false
takes_removal places.Group last text = true
takes_removal places.After last text = true
takes_removal places.Removals last text = is_before last text
takes_removal places.Additions last text = false

-- an addition may follow
abbrev pub takes_addition : Place → List ℕ → List ℕ → Bool
takes_addition places.Start last text = false
takes_addition places.Header last text = false
takes_addition places.Group last text = true
takes_addition places.After last text = true
takes_addition places.Removals last text = true
takes_addition places.Additions last text = is_before last text

-- a bind may follow
abbrev pub takes_bind : Place → Bool
takes_bind places.Start = false
takes_bind places.Header = false
takes_bind places.Group = false
takes_bind places.After = false
takes_bind places.Removals = false
takes_bind places.Additions = true

-- a line of the kind that says this may follow
abbrev pub takes : (kind : Kind) → Said kind → StandingValue → List ℕ → Bool
takes kinds.Plan said s text = is_start s.place
takes kinds.Group n s text = may_end s.place && (n == s.groups + 1 && nat_lt s.groups most_groups)
takes kinds.After ns s text = is_bare s.place && rise_between 0 s.groups ns
takes kinds.Remove r s text = takes_removal s.place s.last text
takes kinds.Add a s text = takes_addition s.place s.last text
takes kinds.Bind b s text = takes_bind s.place

-- where reading stands behind a line of the kind
abbrev pub behind : Kind → StandingValue → List ℕ → StandingValue
behind kinds.Plan s text = standing s.groups places.Header s.last
behind kinds.Group s text = standing (s.groups + 1) places.Group s.last
behind kinds.After s text = standing s.groups places.After s.last
behind kinds.Remove s text = standing s.groups places.Removals text
behind kinds.Add s text = standing s.groups places.Additions text
behind kinds.Bind s text = s

abbrev pub follows : StandingValue → LineValue → Bool
follows s l = takes l.kind l.said s (line_text l)

abbrev pub next : StandingValue → LineValue → StandingValue
next s l = behind l.kind s (line_text l)

-- each of the lines may follow those before it
abbrev pub runs : StandingValue → List LineValue → Bool
runs s [] = true
runs s (l ∷ ls) = follows s l && runs (next s l) ls

-- where reading stands behind the lines
abbrev pub ends : StandingValue → List LineValue → StandingValue
ends s [] = s
ends s (l ∷ ls) = ends (next s l) ls
