-- The text of a plan, piece by piece as it is printed.
use Rattle.std.specs.Prelude.{ℕ, ◌+◌, List, [], ◌∷◌, ◌++◌, codes, decimal}
use Rattle.std.specs.List.{flat_map}
use Rattle.build_pool.specs.declared.orders.Order.{Order}
use Rattle.dep_atom.specs.declared.slot.Bind.{Bind}
use Rattle.plan_text.specs.Plans.{GroupValue}
use Rattle.plan_text.specs.Words.{addition_word, bind_word, removal_word}
use Rattle.plan_text.specs.declared.plan.Removal.{Removal}

-- a word behind a space
abbrev pub spaced : List ℕ → List ℕ
spaced word = 32 ∷ word

abbrev pub number_text : ℕ → List ℕ
number_text n = spaced (decimal n)

abbrev pub removal_text : Removal → List ℕ
removal_text r = codes "remove " ++ (removal_word r ++ (10 ∷ []))

abbrev pub bind_text : Bind → List ℕ
bind_text b = codes "bind " ++ (bind_word b ++ (10 ∷ []))

abbrev pub entry_text : Order → List ℕ
entry_text a = codes "add " ++ (addition_word a ++ (flat_map spaced a.enabled ++ (10 ∷ [])))

abbrev pub addition_text : Order → List ℕ
addition_text a = entry_text a ++ flat_map bind_text a.binds

abbrev pub after_text : List ℕ → List ℕ
after_text [] = []
after_text (n ∷ ns) = codes "after" ++ (flat_map number_text (n ∷ ns) ++ (10 ∷ []))

abbrev pub changes_text : GroupValue → List ℕ
changes_text g = flat_map removal_text g.removals ++ flat_map addition_text g.additions

abbrev pub group_text : ℕ → GroupValue → List ℕ
group_text n g =
    codes "group" ++ (number_text n ++ (10 ∷ (after_text g.after ++ changes_text g)))

abbrev pub groups_text : ℕ → List GroupValue → List ℕ
groups_text n [] = []
groups_text n (g ∷ gs) = group_text n g ++ groups_text (n + 1) gs
