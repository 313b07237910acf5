-- How far the lines of a text have been read.
use Rattle.std.specs.Prelude.{◌≡◌, ℕ, Bool, false, true, List, [], ◌∷◌, ◌++◌, Option, length, map}
use Rattle.std.specs.List.{AllByRecursion, flat_map}
use Rattle.plan_text.specs.Drafts.{FitsPlace, begun, lines_so_far}
use Rattle.plan_text.specs.Lines.{IsLine, LineValue, Said, line_of, line_text}
use Rattle.plan_text.specs.Plans.{GroupValue}
use Rattle.plan_text.specs.Standing.{StandingValue, ends, follows, next, runs, start}
use Rattle.plan_text.specs.declared.kind.Kind.{Kind}
use Rattle.plan_text.specs.declared.kind.Kind.TheVariants as kinds

-- the texts are those of these lines, each of which may follow those before it
pub record AreRead (texts : List (List ℕ)) (ls : List LineValue) : Type 0 where
  pub spelled : texts ≡ map line_text ls
  pub form : AllByRecursion IsLine ls
  pub follow : runs start ls ≡ true

-- the line of this kind that says it, unless it is the first one of a text
abbrev pub body_of : (kind : Kind) → Said kind → List LineValue
body_of kinds.Plan said = []
body_of kinds.Group n = line_of kinds.Group n ∷ []
body_of kinds.After ns = line_of kinds.After ns ∷ []
body_of kinds.Remove r = line_of kinds.Remove r ∷ []
body_of kinds.Add a = line_of kinds.Add a ∷ []
body_of kinds.Bind b = line_of kinds.Bind b ∷ []

-- the line, but for the first one of a text
abbrev pub body : LineValue → List LineValue
body l = body_of l.kind l.said

-- these groups are what stands in lines behind which reading stands there
pub record Holds (ls : List LineValue) (s : StandingValue) (gs : List GroupValue)
    (current : Option GroupValue) : Type 0 where
  pub stands : ends start ls ≡ s
  pub lines : flat_map body ls ≡ lines_so_far gs current
  pub fits : FitsPlace s.place current
  pub count : s.groups ≡ begun gs current

-- of all texts these are left behind the first n, and the groups hold what the others say
pub record IsReadTo (texts rest : List (List ℕ)) (n : ℕ) (s : StandingValue)
    (gs : List GroupValue) (current : Option GroupValue) : Type 0 where
  pub ls : List LineValue
  pub front : List (List ℕ)
  pub whole : texts ≡ front ++ rest
  pub number : length front ≡ n
  pub read : AreRead front ls
  pub holds : Holds ls s gs current

-- the text is no line that may follow
abbrev pub Stops : StandingValue → List ℕ → Type 0
Stops s text = (l : LineValue) → IsLine l → text ≡ line_text l → follows s l ≡ false

-- the text behind the first n is no line that may follow those before it
pub record AreStopped (texts : List (List ℕ)) (here : List ℕ) (rest : List (List ℕ)) (n : ℕ)
    (s : StandingValue) : Type 0 where
  pub ls : List LineValue
  pub front : List (List ℕ)
  pub whole : texts ≡ front ++ (here ∷ rest)
  pub number : length front ≡ n
  pub read : AreRead front ls
  pub stands : ends start ls ≡ s
  pub stops : Stops s here

-- the line that follows has been added to what was held
pub record Grows (s : StandingValue) (l : LineValue) (gs : List GroupValue)
    (current : Option GroupValue) (new : List GroupValue) (now : Option GroupValue) : Type 0 where
  pub lines : lines_so_far new now ≡ lines_so_far gs current ++ body l
  pub fits : FitsPlace (next s l).place now
  pub count : (next s l).groups ≡ begun new now

-- lines of the kind stand inside a group
abbrev pub is_inner : Kind → Bool
is_inner kinds.Plan = false
is_inner kinds.Group = false
is_inner kinds.After = true
is_inner kinds.Remove = true
is_inner kinds.Add = true
is_inner kinds.Bind = true
