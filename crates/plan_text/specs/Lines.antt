-- The lines of a plan's text: a head, and words behind it.
use Rattle.std.specs.Prelude.{ℕ, List, [], ◌∷◌, codes, decimal, map, ⊤}
use Rattle.std.specs.List.{join_with_byte}
use Rattle.build_pool.specs.declared.orders.Order.{Order}
use Rattle.dep_atom.specs.declared.slot.Bind.{Bind}
use Rattle.plan_text.specs.Numbers.{AreNumbers, IsNumber}
use Rattle.plan_text.specs.Words.{IsBare, IsBind, IsRemoval, addition_words, bind_word, removal_word}
use Rattle.plan_text.specs.declared.kind.Kind.{Kind}
use Rattle.plan_text.specs.declared.kind.Kind.TheVariants as kinds
use Rattle.plan_text.specs.declared.plan.Removal.{Removal}

-- the word with which lines of the kind begin
abbrev pub head_text : Kind → List ℕ
head_text kinds.Plan = codes "plan"
head_text kinds.Group = codes "group"
head_text kinds.After = codes "after"
head_text kinds.Remove = codes "remove"
head_text kinds.Add = codes "add"
head_text kinds.Bind = codes "bind"

-- what a line of the kind says
abbrev pub Said : Kind → Type 0
Said kinds.Plan = ⊤
Said kinds.Group = ℕ
Said kinds.After = List ℕ
Said kinds.Remove = Removal
Said kinds.Add = Order
Said kinds.Bind = Bind

-- in which words it says it
abbrev pub said_words : (kind : Kind) → Said kind → List (List ℕ)
said_words kinds.Plan said = codes "1" ∷ []
said_words kinds.Group n = decimal n ∷ []
said_words kinds.After ns = map decimal ns
said_words kinds.Remove r = removal_word r ∷ []
said_words kinds.Add a = addition_words a
said_words kinds.Bind b = bind_word b ∷ []

-- a line of the kind may say it
abbrev pub IsSaid : (kind : Kind) → Said kind → Type 0
IsSaid kinds.Plan said = ⊤
IsSaid kinds.Group n = IsNumber n
IsSaid kinds.After ns = AreNumbers ns
IsSaid kinds.Remove r = IsRemoval r
IsSaid kinds.Add a = IsBare a
IsSaid kinds.Bind b = IsBind b

pub record LineValue : Type 0 where
  pub kind : Kind
  pub said : Said kind

abbrev pub line_of : (kind : Kind) → Said kind → LineValue
line_of kind said = record { kind = kind; said = said }

abbrev pub IsLine : LineValue → Type 0
IsLine l = IsSaid l.kind l.said

-- the head, and the words behind it
abbrev pub line_words : LineValue → List (List ℕ)
line_words l = head_text l.kind ∷ said_words l.kind l.said

-- the words with one space between each two
abbrev pub line_text : LineValue → List ℕ
line_text l = join_with_byte 32 (line_words l)
