-- When dependencies hold (PMS 8.2): by cases, over the facts of the packages that are there.
use Rattle.std.specs.Prelude.{ℕ, Bool, ◌||◌, List}
use Rattle.std.specs.List.{list_any}
use Rattle.dep_atom.specs.declared.package.Facts.{Facts}
use Rattle.dep_atom.specs.Match.{value_matches}
use Rattle.dep_atom.specs.Values.{AtomValue}
use Rattle.dep_group.specs.declared.token.Opener.{Opener}
use Rattle.dep_group.specs.Trees.{all_hold, all_leaves}
use Rattle.pms_names.specs.Flags.{has}
use Rattle.dep_tree.specs.Grammar.{is_block}
use Rattle.dep_tree.specs.Texts.{Dependencies}

-- one of the packages matches, for an asker with these flags
abbrev pub some_match : List Facts → List (List ℕ) → AtomValue → Bool
some_match facts asker a = list_any (λ p. value_matches a p asker) facts

-- an atom holds where a package matches it; a block holds, since it is judged apart
abbrev pub is_fact : List Facts → List (List ℕ) → AtomValue → Bool
is_fact facts asker a = is_block a || some_match facts asker a

-- the groups are those of their openers
abbrev pub kind : Opener (List ℕ) → Opener (List ℕ)
kind opener = opener

-- all hold among packages with these facts, for an asker with these flags
abbrev pub all_met : List Facts → List (List ℕ) → Dependencies → Bool
all_met facts asker x = all_hold x.empty_holds kind (is_fact facts asker) (has asker) x.groups

-- the leaves that no unmet condition excludes, for an asker with these flags
abbrev pub counted_leaves : List (List ℕ) → Dependencies → List AtomValue
counted_leaves asker x = all_leaves kind (has asker) x.groups
