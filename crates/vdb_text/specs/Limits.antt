-- How many packages may be installed, and how many paths they may own.
use Rattle.std.specs.Prelude.{◌≤◌, ◌<◌, List, length}
use Rattle.file_tree.specs.declared.limits.Quantity.{Quantity}
use Rattle.file_tree.specs.declared.limits.Quantity.TheVariants.{Packages, Paths}
use Rattle.owner_book.specs.declared.limits.TheConstants.{MOST_PATHS}
use Rattle.vdb_law.specs.Packages.{Installed}
use Rattle.vdb_text.specs.Owned.{all_paths}
use Rattle.vdb_text.specs.declared.limits.TheConstants.{MOST_PACKAGES}

-- the packages are no more than may be installed, and own no more paths than may be owned
pub record AreWithin (ps : List Installed) : Type 0 where
  pub packages : length ps ≤ MOST_PACKAGES
  pub paths : length (all_paths ps) ≤ MOST_PATHS

-- there is more of the quantity than may be; packages are counted before paths
abbrev pub AreMany : List Installed → Quantity → Type 0
AreMany ps Packages = MOST_PACKAGES < length ps
AreMany ps Paths = (length ps ≤ MOST_PACKAGES) × (MOST_PATHS < length (all_paths ps))
AreMany ps quantity = ⊥
