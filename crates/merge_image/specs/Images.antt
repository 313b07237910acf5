-- What is known of the image that a builder makes.
use Rattle.std.specs.Prelude.{◌≡◌, ◌<◌, Bool, List, Contains, IsTrue, length}
use Rattle.file_tree.specs.declared.objects.Entry.{Entry}
use Rattle.build_pool.specs.declared.orders.Order.{Order}
use Rattle.merge_image.specs.declared.limits.TheConstants.{MOST_ENTRIES}

-- the image is the one told, where the builder tells
abbrev pub IsTold : Bool → List Entry → List Entry → Type 0
IsTold tells told image = IsTrue tells → told ≡ image

-- the image told has too many entries, where the builder tells
abbrev pub HasMany : Bool → List Entry → Type 0
HasMany tells told = IsTrue tells → MOST_ENTRIES < length told

-- something holds of the image that one of these builders tells for the order
abbrev pub HoldsOfOne : {B : Type 0} → (B → Order → List Entry) → List B → Order →
    (List Entry → Type 0) → Type 0
HoldsOfOne {B} told builders order P = (b : B) × Contains builders b × P (told b order)

-- the image is what one of these builders tells for the order, where builders tell
abbrev pub IsBuilt : {B : Type 0} → Bool → (B → Order → List Entry) → List B → Order →
    List Entry → Type 0
IsBuilt tells told builders order image =
    HoldsOfOne told builders order (λ seen. IsTold tells seen image)

-- one of these builders tells too many entries for the order, where builders tell
abbrev pub IsPastLimit : {B : Type 0} → Bool → (B → Order → List Entry) → List B → Order → Type 0
IsPastLimit tells told builders order = HoldsOfOne told builders order (HasMany tells)

-- each of these builders tells what one of those tells
abbrev pub TellAlike : {B : Type 0} → (B → Order → List Entry) → List B → List B → Type 0
TellAlike {B} told those these =
    (b : B) → Contains these b → (a : B) × Contains those a × (told b ≡ told a)
