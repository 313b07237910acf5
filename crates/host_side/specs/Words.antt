-- The words with which a program is started that builds a package.
use Rattle.std.specs.Prelude.{ℕ, List, ◌∷◌, ◌++◌}
use Rattle.dep_atom.specs.Ids.{id_text}
use Rattle.build_pool.specs.declared.orders.Order.{Order}

-- `category/package-version`, `slot/subslot`, and each flag that is on, in byte order
abbrev pub order_words : Order → List (List ℕ)
order_words o = id_text o.id ∷ ((o.slot ++ (47 ∷ o.subslot)) ∷ o.enabled)
