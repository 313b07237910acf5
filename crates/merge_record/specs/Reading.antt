-- Reading from left to right, with the first fault that is met. A place is what the whole has
-- before the rest.
use Rattle.std.specs.Prelude.{◌≡◌, ◌==◌, ◌+◌, ◌-◌, ◌&&◌, ℕ, zero, suc, List, [], ◌∷◌, length, take, drop, nat_lt, Result, Ok, Err, if◌then◌else◌, ⊤}
use Rattle.std.specs.Str.{is_utf8}
use Rattle.byteorder.specs.Endian.{big_number}
use Rattle.file_tree.specs.Paths.{is_path}
use Rattle.file_tree.specs.declared.objects.Kind.{Kind}
use Rattle.file_tree.specs.declared.objects.Kind.TheVariants.{Plain, Exec, Link}
use Rattle.merge_record.specs.RecordValue.{RecordValue}
use Rattle.merge_record.specs.Spelling.{lead}
use Rattle.merge_record.specs.declared.fault.DecodeFault.{DecodeFault}
use Rattle.merge_record.specs.declared.fault.DecodeFault.TheVariants as faults
use Rattle.merge_record.specs.declared.record.Placement.{Placement}
use Rattle.merge_record.specs.declared.limits.TheConstants.{MOST_FILE_BYTES, MOST_GROUP_PATHS, MOST_RECORD_BYTES}

infixl 10 ◌>>=◌
abbrev pub ◌>>=◌ : {A B : Type 0} → Result A DecodeFault → (A → Result B DecodeFault) →
    Result B DecodeFault
(Ok x) >>= f = f x
(Err e) >>= f = Err e

-- what a function returned, seen by view, is what reading gives, unless memory ran out
abbrev pub Fails : {Y : Type 0} → DecodeFault → Result Y DecodeFault → Type 0
Fails faults.Memory read = ⊤
Fails faults.Short read = read ≡ Err faults.Short
Fails (faults.Tag at) read = read ≡ Err (faults.Tag at)
Fails (faults.Path at) read = read ≡ Err (faults.Path at)
Fails faults.Trailing read = read ≡ Err faults.Trailing
Fails faults.Limit read = read ≡ Err faults.Limit

abbrev pub Gives : {X Y : Type 0} → (X → Y) → Result X DecodeFault → Result Y DecodeFault → Type 0
Gives view (Ok x) read = read ≡ Ok (view x)
Gives view (Err e) read = Fails e read

-- the bytes behind a byte that is wanted here
unfoldable pub byte_at : ℕ → ℕ → List ℕ → Result (List ℕ) DecodeFault
byte_at n want [] = Err faults.Short
byte_at n want (b ∷ rest) = if b == want then Ok rest else Err (faults.Tag (n - suc (length rest)))

-- the bytes behind those that are wanted here
unfoldable pub lead_at : ℕ → List ℕ → List ℕ → Result (List ℕ) DecodeFault
lead_at n [] bytes = Ok bytes
lead_at n (w ∷ ws) bytes = do
  rest ← byte_at n w bytes
  lead_at n ws rest

unfoldable pub number_at : ℕ → List ℕ → Result (ℕ × List ℕ) DecodeFault
number_at k bytes =
    if nat_lt (length bytes) k then Err faults.Short else Ok (big_number k bytes, drop k bytes)

unfoldable pub bytes_at : ℕ → List ℕ → Result (List ℕ × List ℕ) DecodeFault
bytes_at k bytes =
    if nat_lt (length bytes) k then Err faults.Short else Ok (take k bytes, drop k bytes)

-- a count of paths, `before` of which were counted already
unfoldable pub count_at : ℕ → List ℕ → Result (ℕ × List ℕ) DecodeFault
count_at before bytes = do
  count ← number_at 4 bytes
  if nat_lt MOST_GROUP_PATHS (before + count.0) then Err faults.Limit else Ok count

-- the length of a file
unfoldable pub size_at : List ℕ → Result (ℕ × List ℕ) DecodeFault
size_at bytes = do
  size ← number_at 8 bytes
  if nat_lt MOST_FILE_BYTES size.0 then Err faults.Limit else Ok size

unfoldable pub kind_at : ℕ → List ℕ → Result (Kind × List ℕ) DecodeFault
kind_at n [] = Err faults.Short
kind_at n (zero ∷ rest) = Ok (Plain, rest)
kind_at n (suc zero ∷ rest) = Ok (Exec, rest)
kind_at n (suc (suc zero) ∷ rest) = Ok (Link, rest)
kind_at n (suc (suc (suc b)) ∷ rest) = Err (faults.Tag (n - suc (length rest)))

unfoldable pub path_at : ℕ → List ℕ → Result (List ℕ × List ℕ) DecodeFault
path_at n bytes = do
  size ← number_at 2 bytes
  text ← bytes_at size.0 size.1
  if is_utf8 text.0 && is_path text.0 then Ok text else Err (faults.Path (n - length size.1))

unfoldable pub placement_at : ℕ → List ℕ → Result (Placement × List ℕ) DecodeFault
placement_at n bytes = do
  kind ← kind_at n bytes
  size ← size_at kind.1
  digest ← bytes_at 16 size.1
  path ← path_at n digest.1
  Ok (record { path = path.0; kind = kind.0; length = size.0; md5 = digest.0 }, path.1)

-- so many fields, one behind the other
unfoldable pub many_at : {A : Type 0} → (List ℕ → Result (A × List ℕ) DecodeFault) → ℕ → List ℕ →
    Result (List A × List ℕ) DecodeFault
many_at one zero bytes = Ok ([], bytes)
many_at one (suc n) bytes = do
  first ← one bytes
  others ← many_at one n first.1
  Ok (first.0 ∷ others.0, others.1)

-- a count, and so many fields
unfoldable pub counted_at : {A : Type 0} → ℕ → (List ℕ → Result (A × List ℕ) DecodeFault) →
    List ℕ → Result (List A × List ℕ) DecodeFault
counted_at before one bytes = do
  count ← count_at before bytes
  many_at one count.0 count.1

unfoldable pub fields_at : ℕ → List ℕ → Result (RecordValue × List ℕ) DecodeFault
fields_at n bytes = do
  rest ← lead_at n lead bytes
  group ← number_at 4 rest
  removals ← counted_at 0 (path_at n) group.1
  placements ← counted_at (length removals.0) (placement_at n) removals.1
  Ok (record { group = group.0; removals = removals.0; placements = placements.0 }, placements.1)

-- the record that the bytes spell, all of them, or the first fault; too many bytes are found first
unfoldable pub record_of : List ℕ → Result RecordValue DecodeFault
record_of bytes = if nat_lt MOST_RECORD_BYTES (length bytes) then Err faults.Limit else (do
  all ← fields_at (length bytes) bytes
  if length all.1 == 0 then Ok all.0 else Err faults.Trailing)
