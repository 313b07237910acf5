-- The rules of the check that are tried package by package, and the whole check.
use Rattle.std.specs.Prelude.{◌≡◌, ◌⊎◌, ℕ, ◌+◌, Bool, true, false, not, List, Option, None, Some, filter, if◌then◌else◌, map}
use Rattle.pms_names.specs.Flags.{has}
use Rattle.dep_atom.specs.Values.{AtomValue}
use Rattle.pkg_state.specs.Consistent.{facts_of, fits_required, is_met}
use Rattle.pkg_state.specs.Fault.{lacking_leaf}
use Rattle.pkg_state.specs.Package.{Package, line_of, tree_of}
use Rattle.pkg_state.specs.declared.class.Class.{Class}
use Rattle.pkg_state.specs.declared.class.Class.TheVariants.{Bdepend, Depend, Idepend, Pdepend, Rdepend}
use Rattle.plan_law.specs.Plans.{Group}
use Rattle.plan_law.specs.Firm.{IsChained, IsFirm}
use Rattle.plan_law.specs.Lives.{Life, Moment, Stretch, commit, never, opening, stretch_of, until}
use Rattle.plan_law.specs.Accepted.{AreLeft, IsFirmThrough}
use Rattle.plan_law.specs.Sound.{is_strong_block}
use Rattle.plan_lives.specs.Binding.{IsRightBind}
use Rattle.plan_lives.specs.Home.{AreThereAt}
use Rattle.plan_lives.specs.Keeping.{IsMet, barring_blocks, running_blocks}
use Rattle.plan_lives.specs.Leaves.{IsLeafOfAll}
use Rattle.plan_lives.specs.Lives.{lives}
use Rattle.plan_lives.specs.Meeting.{AreMeeting}
use Rattle.plan_lives.specs.Left.{left_of}
use Rattle.plan_check.specs.Asks.{AskedValue, asking}
use Rattle.plan_check.specs.Binding.{binds_rule}
use Rattle.plan_check.specs.Home.{among, met_rule}
use Rattle.plan_rules.specs.Refusals.{Refusal, Refusal as refused}
use Rattle.plan_rules.specs.Order.{AreInOrder, life_key, number_of}
use Rattle.plan_rules.specs.Rules.{line_rule, opening_rule, present_rule, room_rule}
use Rattle.plan_rules.specs.Verdicts.{both, demand_as, each, nothing, refuse}

-- a rule for what a group brings
abbrev pub if_brought : Moment → (ℕ → Option Refusal → Type 0) → Option Refusal → Type 0
if_brought opening rule = nothing
if_brought (commit g) rule = rule g
if_brought never rule = nothing

-- the flags of what comes go together
abbrev pub required_rule : Life → Option Refusal → Type 0
required_rule x =
    if_brought x.birth (λ g. refuse (fits_required x.package_is ≡ false)
    (refused.RequiredUse x.package_is.facts.id))

-- the binds of what comes are right
abbrev pub binding_rule : List Group → List Package → Life → AskedValue → Option Refusal → Type 0
binding_rule plan start x asked = if_brought x.birth (λ g.
    binds_rule (IsRightBind plan start g x.package_is.facts.enabled) x.package_is.facts.id
    asked.leaves asked.binds)

-- what comes is as it may be: first its flags, and then its binds
abbrev pub coming_rule : List Group → List Package → Life → AskedValue → Option Refusal → Type 0
coming_rule plan start x asked = both (required_rule x) (binding_rule plan start x asked)

-- the leaf to name of what the package wants in this class and may miss in the stretch
abbrev pub IsMissing :
    List Group → List Package → Stretch → Class → Package → Option AtomValue → Type 0
IsMissing plan start s class p =
    IsLeafOfAll (λ t. ¬ IsFirm (tree_of class p).empty_holds
    (IsChained plan start p.facts.enabled s) (has p.facts.enabled) t)
    (has p.facts.enabled) (tree_of class p).groups

-- a rule for what stays
abbrev pub if_left : Moment → (Option Refusal → Type 0) → Option Refusal → Type 0
if_left opening rule = nothing
if_left (commit g) rule = nothing
if_left never rule = rule

-- what a package needs while it runs is there when it comes and, if it stays, at the end
abbrev pub satisfied_rule : List Group → List Package → Life → Option Refusal → Type 0
satisfied_rule plan start x =
    both (among (AreThereAt plan start x.birth) (met_rule x))
    (if_left x.death (among (AreLeft plan start) (met_rule x)))

-- .. and yet it may be missing at some time
abbrev pub IsUnsafe : List Group → List Package → Life → Refusal → Type 0
IsUnsafe plan start x e =
    (leaf : Option AtomValue) × IsMissing plan start (stretch_of x) Rdepend x.package_is leaf
    × ((numbers : List ℕ) × AreMeeting plan start x numbers
    × (e ≡ refused.Unsafe x.package_is.facts.id Rdepend leaf numbers))

-- what a package needs while it runs is there all through its life
abbrev pub lasting_rule : List Group → List Package → Life → Option Refusal → Type 0
lasting_rule plan start x =
    demand_as (IsFirmThrough plan start (stretch_of x) Rdepend x.package_is) (λ e.
    satisfied_rule plan start x (Some e)
    ⊎ (satisfied_rule plan start x None × IsUnsafe plan start x e))

-- the blocks of a package that count while it is there, the strong ones or the weak ones
abbrev pub is_of_kind : Bool → AtomValue → Bool
is_of_kind strong a = if strong then is_strong_block a.block else not (is_strong_block a.block)

abbrev pub blocks_of : Bool → Package → List AtomValue
blocks_of strong p = filter (is_of_kind strong) (running_blocks p)

-- such a block keeps out y, which may be there with x on another line
abbrev pub IsBlocked : List Group → Bool → Life → Life → Type 0
IsBlocked plan strong x y =
    IsMet plan (stretch_of x) (blocks_of strong x.package_is) x.package_is.facts.enabled
    (Some (line_of x.package_is.facts)) y

-- what it blocks weakly isn't there with it
abbrev pub weak_rule : List Group → List Life → Life → Option Refusal → Type 0
weak_rule plan all x =
    each all (λ y. refuse (IsBlocked plan false x y)
    (refused.Blocked x.package_is.facts.id y.package_is.facts.id))

-- what bars a package that a group brings may be there when that may come
abbrev pub IsBarred : List Group → Package → Moment → Life → Type 0
IsBarred plan p opening y = ⊥
IsBarred plan p (commit g) y = IsMet plan (until g) (barring_blocks p) p.facts.enabled None y
IsBarred plan p never y = ⊥

-- what it blocks strongly isn't there with it, and what bars it isn't there when it may come
abbrev pub strong_rule : List Group → List Life → Life → Option Refusal → Type 0
strong_rule plan all x =
    each all (λ y.
    refuse (IsBlocked plan true x y ⊎ IsBarred plan x.package_is x.birth y)
    (refused.Barred (number_of x.birth) x.package_is.facts.id y.package_is.facts.id))

-- what it wants for its build is there whenever it may come
abbrev pub built_of : List Group → List Package → Package → Class → ℕ → Option Refusal → Type 0
built_of plan start p class g =
    demand_as (IsFirmThrough plan start (until g) class p) (λ e.
    (leaf : Option AtomValue) × IsMissing plan start (until g) class p leaf
    × (e ≡ refused.Build (g + 1) p.facts.id class leaf))

abbrev pub built_rule : List Group → List Package → Life → Option Refusal → Type 0
built_rule plan start x = if_brought x.birth (λ g.
    both (built_of plan start x.package_is Depend g)
    (both (built_of plan start x.package_is Bdepend g)
    (built_of plan start x.package_is Idepend g)))

-- what it wants later is there at the end
abbrev pub finished_rule : List Group → List Package → Life → Option Refusal → Type 0
finished_rule plan start x = if_brought x.birth (λ g. if_left x.death (
    refuse (is_met (facts_of (left_of plan start)) Pdepend x.package_is ≡ false)
    (refused.Final x.package_is.facts.id
    (lacking_leaf (facts_of (left_of plan start)) Pdepend x.package_is))))

-- what it needs is there when it needs that, and what it keeps out isn't
abbrev pub standing_rule :
    List Group → List Package → List Life → Life → Option Refusal → Type 0
standing_rule plan start all x =
    both (lasting_rule plan start x)
    (both (weak_rule plan all x)
    (both (strong_rule plan all x)
    (both (built_rule plan start x) (finished_rule plan start x))))

-- the rules of one package, with what it asks
abbrev pub package_rule :
    List Group → List Package → List Life → Life × AskedValue → Option Refusal → Type 0
package_rule plan start all it =
    both (coming_rule plan start it.0 it.1) (standing_rule plan start all it.0)

-- all rules, where `all` are the lives in their order, and `them` are these with what they ask:
-- those of the whole plan, and then package by package
abbrev pub plan_rule : List Group → List Package → List Life → List (Life × AskedValue) →
    Option Refusal → Type 0
plan_rule plan start all them =
    both (line_rule plan)
    (both (present_rule plan start)
    (both (room_rule plan all)
    (both (opening_rule start) (each them (package_rule plan start all)))))

-- what is tried goes in the order of the lives
abbrev pub tried_key : Life × AskedValue → List ℕ
tried_key it = life_key it.0

abbrev pub lives_in : List (Life × AskedValue) → List Life
lives_in them = map (λ it. it.0) them

-- the first rule that is broken, by the first package that breaks it
abbrev pub check_rule : List Group → List Package → List AskedValue → Option Refusal → Type 0
check_rule plan start asks answer =
    (them : List (Life × AskedValue)) × AreInOrder tried_key (asking (lives plan start) asks) them
    × plan_rule plan start (lives_in them) them answer
