-- What an object may not be placed for, and the first of an image's that may not.
use Rattle.std.specs.Prelude.{◌≡◌, ℕ, true, false, List}
use Rattle.std.specs.List.{AllByRecursion}
use Rattle.file_tree.specs.declared.objects.Entry.{Entry}
use Rattle.file_tree.specs.declared.objects.Kind.{Kind}
use Rattle.file_tree.specs.declared.objects.Kind.TheVariants.{Exec, Link, Plain}
use Rattle.merge_fit.specs.declared.fault.ImageBad.{ImageBad}
use Rattle.merge_fit.specs.declared.fault.ImageBad.TheVariants as bad
use Rattle.merge_fit.specs.Images.{IsFirst, is_good}

-- what the object of a kind is refused for, at its path
abbrev pub bad_by : Kind → List ℕ → ImageBad
bad_by Plain path = bad.Large path
bad_by Exec path = bad.Large path
bad_by Link path = bad.Link path

-- the object may not be placed, and this is why
abbrev pub IsBad : ImageBad → Entry → Type 0
IsBad b e = (is_good e ≡ false) × (b ≡ bad_by e.object.kind e.path)

-- the first entry whose object may not be placed
abbrev pub IsFirstBad : List Entry → ImageBad → Type 0
IsFirstBad image b = IsFirst (λ e. is_good e ≡ true) (IsBad b) image

-- each object may be placed
abbrev pub AreGood : List Entry → Type 0
AreGood image = AllByRecursion (λ e. is_good e ≡ true) image
