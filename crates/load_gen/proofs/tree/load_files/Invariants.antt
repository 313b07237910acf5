-- The files so far are the profile and those of the packages so far.
use Rattle.std.proofs.Common.{◌≡◌, [], ◌∷◌}
use Rattle.std.specs.List.{flat_map}
use Rattle.load_gen.specs.Loads.{ebuild_file, entry_file, numbers_below, profile_file}
use Rattle.load_gen.proofs.tree.load_files.Given as goal

abbrev pub invariant-loop-number : goal.invariant-loop-number
invariant-loop-number l = l.files.items ≡ profile_file
    ∷ flat_map (λ i. ebuild_file i ∷ entry_file l.count i ∷ []) (numbers_below l.number)
