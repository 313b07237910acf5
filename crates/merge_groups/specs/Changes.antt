-- What a choice changes: on each line what goes, what comes, and what stands there afterwards.
use Rattle.std.specs.Prelude.{List, Option, None, slice_get}
use Rattle.std.specs.List.{flat_map}
use Rattle.pkg_state.specs.Package.{Package}
use Rattle.choice_law.specs.Universe.{Offer, Universe, Value, absent, as_list, keep, package_of, variant}
use Rattle.choice_law.specs.Tree.{Choice}
use Rattle.choice_tree.specs.Places.{Place, places, value_in}
use Rattle.merge_groups.specs.declared.part.Part.{Part}
use Rattle.merge_groups.specs.declared.part.Part.TheVariants.{Coming, Going, Standing}

-- what is installed goes, unless it is kept; a variant takes its place even where it is the same
abbrev pub leaving : Offer → Value → Option Package
leaving o keep = None
leaving o absent = o.installed
leaving o (variant i) = o.installed

-- a variant comes
abbrev pub arriving : Offer → Value → Option Package
arriving o keep = None
arriving o absent = None
arriving o (variant i) = slice_get o.variants i

abbrev pub part_of : Part → Offer → Value → Option Package
part_of Going o v = leaving o v
part_of Coming o v = arriving o v
part_of Standing o v = package_of o v

-- the same of a line, which is as it is where nothing is decided
abbrev pub part_in : Part → Place → Option Package
part_in part s = part_of part s.offer (value_in s)

-- those of all lines, in the order of these
abbrev pub those : Part → Universe → Choice → List Package
those part u c = flat_map (λ s. as_list (part_in part s)) (places u c)
