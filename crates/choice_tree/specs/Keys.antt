-- The lines under what their packages are called, what their texts are, and what their leaves name.
use Rattle.std.specs.Prelude.{◌≡◌, ◌||◌, ◌++◌, ◌-◌, ℕ, Bool, List, [], ◌∷◌, String, Vec, bytes_eq, filter, get_or, length, map, nat_eq, slice_get, if◌then◌else◌}
use Rattle.std.specs.Global.{Global}
use Rattle.std.specs.BTreeMap.{BTreeMap, get_by_text}
use Rattle.std.specs.List.{list_any}
use Rattle.std.specs.Option.{option_map_or}
use Rattle.dep_atom.specs.Ids.{id_text}
use Rattle.pkg_state.specs.Consistent.{leaves_in}
use Rattle.pkg_state.specs.Package.{Package}
use Rattle.pkg_state.specs.declared.class.Class.{Class}
use Rattle.choice_law.specs.Universe.{Offer, no_offer}
use Rattle.choice_tree.specs.Open.{classes}
use Rattle.choice_tree.specs.Places.{Place, is_one, numbers}
use Rattle.choice_tree.specs.declared.key.Key.{Key}
use Rattle.choice_tree.specs.declared.key.Key.TheVariants.{Leaf, Own, Whole}

abbrev pub Lists : Type 0
Lists = BTreeMap (String Global) (Vec ℕ Global)

-- the lines that stand under a text
abbrev pub lines_at : Lists → List ℕ → List ℕ
lines_at lists text = option_map_or (λ v. v.items) (get_by_text lists text) []

-- a leaf of the class has this name
abbrev pub names_in : List ℕ → Package → Class → Bool
names_in text p class =
    list_any (λ a. bytes_eq text a.name.«package») (leaves_in class p)

-- the package's own name, its whole text, or the names of its leaves
abbrev pub has_key : Key → List ℕ → Package → Bool
has_key Own text p = bytes_eq text p.facts.id.name.«package»
has_key Whole text p = bytes_eq text (id_text p.facts.id)
has_key Leaf text p = list_any (names_in text p) classes

-- a package that may stand on the line has it
abbrev pub offers_key : Key → List ℕ → Offer → Bool
offers_key key text o = is_one (has_key key text) o.installed || list_any (has_key key text) o.variants

-- those of the first so many lines that offer it, in their order
abbrev pub keyed : Key → List Offer → List ℕ → ℕ → List ℕ
keyed key os text n = filter (λ l. offers_key key text (get_or os l no_offer)) (numbers n 0)

-- under each text stand the lines that offer it
abbrev pub AreKeyed : Key → List Offer → Lists → Type 0
AreKeyed key os lists = (text : List ℕ) → lines_at lists text ≡ keyed key os text (length os)

-- what is offered on the lines
abbrev pub offers_in : List Place → List Offer
offers_in ss = map (λ s. s.offer) ss

abbrev pub ends_with : ℕ → List ℕ → Bool
ends_with l ls = is_one (nat_eq l) (slice_get ls (length ls - 1))

-- the line behind the others, if it isn't there
abbrev pub with_last : ℕ → List ℕ → List ℕ
with_last l ls = if ends_with l ls then ls else ls ++ l ∷ []

abbrev pub last_if : Bool → ℕ → List ℕ → List ℕ
last_if b l ls = if b then with_last l ls else ls

-- the line has come to stand under the texts that pass
abbrev pub HasCome : ℕ → (List ℕ → Bool) → Lists → Lists → Type 0
HasCome l test old new =
    (text : List ℕ) → lines_at new text ≡ last_if (test text) l (lines_at old text)
