-- The candidates of an atom's name, and why none of them serves.
use Rattle.std.specs.Prelude.{Bool, List, ◌++◌, filter, map}
use Rattle.std.specs.List.Sorted.{IsPermutation, IsSorted}
use Rattle.std.specs.declared.cmp.Ordering.{Ordering}
use Rattle.pms_names.specs.declared.name.Name.{Name}
use Rattle.dep_atom.specs.Ids.{version_rank}
use Rattle.dep_atom.specs.Match.{same_name}
use Rattle.pkg_state.specs.Package.{Package}
use Rattle.emerge_choose.specs.declared.reason.NotTaken.{NotTaken}
use Rattle.emerge_choose.specs.declared.reason.Reason.TheVariants.{NotMatched}

-- an offered package that isn't taken: the atom doesn't match it
abbrev pub unmatched : Package → NotTaken
unmatched p = record { id = p.facts.id; reason = NotMatched }

abbrev pub is_of_name : Name → NotTaken → Bool
is_of_name name r = same_name name r.id.name

-- the candidates of the name: those that are offered, and the hidden ones with their reasons
abbrev pub reasons_of : Name → List Package → List NotTaken → List NotTaken
reasons_of name offered hidden = filter (is_of_name name) (map unmatched offered ++ hidden)

-- the order of candidates by their versions
abbrev pub reason_rank : NotTaken → NotTaken → Ordering
reason_rank r s = version_rank r.id s.id

-- just the candidates of the name, by their versions
pub record AreReasons (name : Name) (offered : List Package) (hidden : List NotTaken)
    (reasons : List NotTaken) : Type 0 where
  pub moved : IsPermutation (reasons_of name offered hidden) reasons
  pub sorted : IsSorted reason_rank reasons
