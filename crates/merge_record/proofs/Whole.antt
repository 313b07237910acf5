-- The two laws of a record: what is read is spelled so, and what is spelled so is read.
use Rattle.std.proofs.Common.{◌≡◌, ℕ, zero, suc, ◌+◌, ◌-◌, ◌^◌, ◌<◌, ◌≤◌, ◌&&◌, Bool, true, false, cond, eqb, ltb, List, [], ◌∷◌, ◌++◌, length, take, drop, Result, Ok, Err, refl, sym, ap, subst, ◌∙◌, append_assoc, arith, eq-eqb}
use Rattle.std.specs.Prelude.{IfOk}
use Rattle.std.specs.List.{flat_map, AllByRecursion}
use Rattle.std.specs.Str.{is_utf8}
use Rattle.std.proofs.lemmas.Bool.{eqb-true, ltb-false, le-ltb, leb-true, and_parts}
use Rattle.std.proofs.lemmas.List.{append-nil, nil_from_length, take_at, drop_at, take-append-drop, length-append, length-take}
use Rattle.std.proofs.lemmas.List.Concat.{flat_map-cons}
use Rattle.file_tree.specs.Paths.{is_path}
use Rattle.file_tree.specs.declared.limits.TheConstants.{MOST_PATH_BYTES}
use Rattle.file_tree.specs.declared.objects.Kind.{Kind}
use Rattle.file_tree.specs.declared.objects.Kind.TheVariants.{Plain, Exec, Link}
use Rattle.merge_record.specs.RecordValue.{RecordValue}
use Rattle.merge_record.specs.Spelling.{IsPlacement, IsSpellable, byte_of, counted, lead, number_text, path_text, placement_text, spelling}
use Rattle.file_tree.specs.Paths.{IsPathText}
use Rattle.merge_record.specs.Reading.{◌>>=◌, Gives, byte_at, bytes_at, count_at, counted_at, fields_at, kind_at, lead_at, many_at, number_at, path_at, placement_at, record_of, size_at}
use Rattle.merge_record.specs.declared.fault.DecodeFault.{DecodeFault}
use Rattle.merge_record.specs.declared.fault.DecodeFault.TheVariants as faults
use Rattle.merge_record.specs.declared.limits.TheConstants.{MOST_FILE_BYTES, MOST_GROUP_PATHS, MOST_RECORD_BYTES}
use Rattle.merge_record.specs.declared.record.Placement.{Placement}
use Rattle.merge_record.proofs.Numbers.{number_takes, number_again}
use Rattle.merge_record.proofs.Steps.{IsBytes, IsBytes-drop, IsBytes-rest, Reads, Takes, Takes-then, bind_is, bind_ok, guard_ok, ok_is, passed_ok}

-- a path has at most 4,095 bytes
pub is_path-short : (path : List ℕ) → IsPathText path → length path < 256 ^ 2
unfolding is_path
is_path-short path h =
    let p = (and_parts _ _ h).1 in
    let q = (and_parts _ _ (and_parts _ _ p).1).0 in
    let le : length path ≤ MOST_PATH_BYTES = leb-true _ _ q in
    omega arith

-- ---- bytes

bytes_takes : (k : ℕ) (bytes : List ℕ) (x : List ℕ × List ℕ) → IsBytes bytes → bytes_at k bytes ≡ Ok x → Takes bytes x.0 x.1 × (length x.0 ≡ k)
unfolding bytes_at
bytes_takes k bytes x fits e =
    let g = guard_ok (ltb (length bytes) k) (take k bytes, drop k bytes) x faults.Short e in
    let long : k ≤ length bytes = ltb-false _ _ g.0 in
    subst (λ (y : List ℕ × List ℕ). Takes bytes y.0 y.1 × (length y.0 ≡ k)) g.1 (record { parts = sym (take-append-drop k bytes); rest_fits = IsBytes-drop k bytes fits }, omega (arith, length-take k bytes))

bytes_again : (k : ℕ) (text rest : List ℕ) → length text ≡ k → bytes_at k (text ++ rest) ≡ Ok (text, rest)
unfolding bytes_at
bytes_again k text rest len =
    let long : ltb (length (text ++ rest)) k ≡ false = le-ltb _ _ (omega (arith, length-append text rest)) in
    rw (long, take_at text rest k len, drop_at text rest k len) refl

-- ---- the fixed bytes

byte_takes : (n want : ℕ) (bytes rest : List ℕ) → IsBytes bytes → byte_at n want bytes ≡ Ok rest → Takes bytes (want ∷ []) rest
unfolding byte_at
byte_takes n want [] rest fits e = absurd cc
byte_takes n want (b ∷ bs) rest fits e =
    let g = passed_ok (eqb b want) bs rest (faults.Tag (n - suc (length bs))) e in
    let same : b ≡ want = eqb-true _ _ g.0 in
    record { parts = ap (λ (x : ℕ). x ∷ bs) same ∙ ap (λ (xs : List ℕ). want ∷ xs) g.1; rest_fits = subst IsBytes g.1 (IsBytes-rest b bs fits) }

lead_takes : (n : ℕ) (ws bytes rest : List ℕ) → IsBytes bytes → lead_at n ws bytes ≡ Ok rest → Takes bytes ws rest
unfolding lead_at
lead_takes n [] bytes rest fits e = let same : bytes ≡ rest = cc in record { parts = same; rest_fits = subst IsBytes same fits }
lead_takes n (w ∷ ws) bytes rest fits e =
    let a = bind_ok (byte_at n w bytes) (λ after. lead_at n ws after) rest e in
    let first = byte_takes n w bytes a.0 fits a.1 in
    Takes-then bytes (w ∷ []) a.0 ws rest first (lead_takes n ws a.0 rest first.rest_fits a.2)

byte_again : (n want : ℕ) (rest : List ℕ) → byte_at n want (want ∷ rest) ≡ Ok rest
unfolding byte_at
byte_again n want rest = rw (eq-eqb want want refl) refl

lead_again : (n : ℕ) (ws rest : List ℕ) → lead_at n ws (ws ++ rest) ≡ Ok rest
unfolding lead_at
lead_again n [] rest = refl
lead_again n (w ∷ ws) rest = bind_is (byte_at n w (w ∷ (ws ++ rest))) (ws ++ rest) (λ after. lead_at n ws after) (byte_again n w (ws ++ rest)) ∙ lead_again n ws rest

-- ---- a path

path_takes : (n : ℕ) (bytes : List ℕ) (x : List ℕ × List ℕ) → IsBytes bytes → path_at n bytes ≡ Ok x → Takes bytes (path_text x.0) x.1 × IsPathText x.0
unfolding path_at path_text
path_takes n bytes x fits e =
    let a = bind_ok (number_at 2 bytes) (λ size. bytes_at size.0 size.1 >>= λ text. cond (is_utf8 text.0 && is_path text.0) (Ok text) (Err (faults.Path (n - length size.1)))) x e in
    let b = bind_ok (bytes_at a.0.0 a.0.1) (λ text. cond (is_utf8 text.0 && is_path text.0) (Ok text) (Err (faults.Path (n - length a.0.1)))) x a.2 in
    let g = passed_ok (is_utf8 b.0.0 && is_path b.0.0) b.0 x (faults.Path (n - length a.0.1)) b.2 in
    let t = number_takes 2 bytes a.0 fits a.1 in
    let u = bytes_takes a.0.0 a.0.1 b.0 t.0.rest_fits b.1 in
    let both = Takes-then bytes (number_text 2 a.0.0) a.0.1 b.0.0 b.0.1 t.0 u.0 in
    let whole : Takes bytes (number_text 2 (length b.0.0) ++ b.0.0) b.0.1 = subst (λ (k : ℕ). Takes bytes (number_text 2 k ++ b.0.0) b.0.1) (sym u.1) both in
    subst (λ (y : List ℕ × List ℕ). Takes bytes (number_text 2 (length y.0) ++ y.0) y.1 × IsPathText y.0) g.1 (whole, g.0)

path_again : (n : ℕ) (path rest : List ℕ) → IsPathText path → path_at n (path_text path ++ rest) ≡ Ok (path, rest)
unfolding path_at path_text
path_again n path rest h =
    ap (path_at n) (append_assoc (number_text 2 (length path)) path rest)
    ∙ bind_is (number_at 2 (number_text 2 (length path) ++ (path ++ rest))) (length path, path ++ rest) (λ size. bytes_at size.0 size.1 >>= λ text. cond (is_utf8 text.0 && is_path text.0) (Ok text) (Err (faults.Path (n - length size.1)))) (number_again 2 (length path) (path ++ rest) (is_path-short path h))
    ∙ bind_is (bytes_at (length path) (path ++ rest)) (path, rest) (λ text. cond (is_utf8 text.0 && is_path text.0) (Ok text) (Err (faults.Path (n - length (path ++ rest))))) (bytes_again (length path) path rest refl)
    ∙ rw h refl

pub path_reads : (n : ℕ) → Reads (path_at n) path_text IsPathText
path_reads n = record { takes = path_takes n; again = path_again n }

-- ---- a placement

kind_takes : (n : ℕ) (bytes : List ℕ) (x : Kind × List ℕ) → IsBytes bytes → kind_at n bytes ≡ Ok x → Takes bytes (byte_of x.0 ∷ []) x.1
unfolding kind_at
kind_takes n [] x fits e = absurd cc
kind_takes n (zero ∷ bytes) x fits e = subst (λ (y : Kind × List ℕ). Takes (0 ∷ bytes) (byte_of y.0 ∷ []) y.1) (ok_is (Plain, bytes) x e) (record { parts = refl; rest_fits = IsBytes-rest 0 bytes fits })
kind_takes n (suc zero ∷ bytes) x fits e = subst (λ (y : Kind × List ℕ). Takes (1 ∷ bytes) (byte_of y.0 ∷ []) y.1) (ok_is (Exec, bytes) x e) (record { parts = refl; rest_fits = IsBytes-rest 1 bytes fits })
kind_takes n (suc (suc zero) ∷ bytes) x fits e = subst (λ (y : Kind × List ℕ). Takes (2 ∷ bytes) (byte_of y.0 ∷ []) y.1) (ok_is (Link, bytes) x e) (record { parts = refl; rest_fits = IsBytes-rest 2 bytes fits })
kind_takes n (suc (suc (suc b)) ∷ bytes) x fits e = absurd cc

kind_again : (n : ℕ) (kind : Kind) (rest : List ℕ) → kind_at n (byte_of kind ∷ rest) ≡ Ok (kind, rest)
unfolding kind_at
kind_again n Plain rest = refl
kind_again n Exec rest = refl
kind_again n Link rest = refl

size_takes : (bytes : List ℕ) (x : ℕ × List ℕ) → IsBytes bytes → size_at bytes ≡ Ok x → Takes bytes (number_text 8 x.0) x.1 × (x.0 ≤ MOST_FILE_BYTES)
unfolding size_at
size_takes bytes x fits e =
    let a = bind_ok (number_at 8 bytes) (λ size. cond (ltb MOST_FILE_BYTES size.0) (Err faults.Limit) (Ok size)) x e in
    let g = guard_ok (ltb MOST_FILE_BYTES a.0.0) a.0 x faults.Limit a.2 in
    let t = number_takes 8 bytes a.0 fits a.1 in
    subst (λ (y : ℕ × List ℕ). Takes bytes (number_text 8 y.0) y.1 × (y.0 ≤ MOST_FILE_BYTES)) g.1 (t.0, ltb-false _ _ g.0)

size_again : (size : ℕ) (rest : List ℕ) → size ≤ MOST_FILE_BYTES → size_at (number_text 8 size ++ rest) ≡ Ok (size, rest)
unfolding size_at
size_again size rest le =
    let within : ltb MOST_FILE_BYTES size ≡ false = le-ltb _ _ le in
    bind_is (number_at 8 (number_text 8 size ++ rest)) (size, rest) (λ x. cond (ltb MOST_FILE_BYTES x.0) (Err faults.Limit) (Ok x)) (number_again 8 size rest (omega arith)) ∙ rw within refl

placement_takes : (n : ℕ) (bytes : List ℕ) (x : Placement × List ℕ) → IsBytes bytes → placement_at n bytes ≡ Ok x → Takes bytes (placement_text x.0) x.1 × IsPlacement x.0
unfolding placement_at placement_text
placement_takes n bytes x fits e =
    let a = bind_ok (kind_at n bytes) (λ kind. size_at kind.1 >>= λ size. bytes_at 16 size.1 >>= λ digest. path_at n digest.1 >>= λ path. Ok (record { path = path.0; kind = kind.0; length = size.0; md5 = digest.0 }, path.1)) x e in
    let b = bind_ok (size_at a.0.1) (λ size. bytes_at 16 size.1 >>= λ digest. path_at n digest.1 >>= λ path. Ok (record { path = path.0; kind = a.0.0; length = size.0; md5 = digest.0 }, path.1)) x a.2 in
    let d = bind_ok (bytes_at 16 b.0.1) (λ digest. path_at n digest.1 >>= λ path. Ok (record { path = path.0; kind = a.0.0; length = b.0.0; md5 = digest.0 }, path.1)) x b.2 in
    let p = bind_ok (path_at n d.0.1) (λ path. Ok (record { path = path.0; kind = a.0.0; length = b.0.0; md5 = d.0.0 }, path.1)) x d.2 in
    let t0 = kind_takes n bytes a.0 fits a.1 in
    let t1 = size_takes a.0.1 b.0 t0.rest_fits b.1 in
    let t2 = bytes_takes 16 b.0.1 d.0 t1.0.rest_fits d.1 in
    let t3 = path_takes n d.0.1 p.0 t2.0.rest_fits p.1 in
    let e2 = Takes-then b.0.1 d.0.0 d.0.1 (path_text p.0.0) p.0.1 t2.0 t3.0 in
    let e1 = Takes-then a.0.1 (number_text 8 b.0.0) b.0.1 (d.0.0 ++ path_text p.0.0) p.0.1 t1.0 e2 in
    let e0 = Takes-then bytes (byte_of a.0.0 ∷ []) a.0.1 (number_text 8 b.0.0 ++ (d.0.0 ++ path_text p.0.0)) p.0.1 t0 e1 in
    let made : Placement × List ℕ = (record { path = p.0.0; kind = a.0.0; length = b.0.0; md5 = d.0.0 }, p.0.1) in
    subst (λ (y : Placement × List ℕ). Takes bytes (placement_text y.0) y.1 × IsPlacement y.0) (ok_is made x p.2) (e0, record { path = t3.1; size = t1.1; digest = t2.1 })

placement_again : (n : ℕ) (p : Placement) (rest : List ℕ) → IsPlacement p → placement_at n (placement_text p ++ rest) ≡ Ok (p, rest)
unfolding placement_at placement_text
placement_again n p rest h =
    let a3 = path_text p.path ++ rest in
    let a2 = p.md5 ++ a3 in
    let a1 = number_text 8 p.length ++ a2 in
    let regrouped : placement_text p ++ rest ≡ byte_of p.kind ∷ a1 = ap (λ (t : List ℕ). byte_of p.kind ∷ t) (append_assoc (number_text 8 p.length) (p.md5 ++ path_text p.path) rest ∙ ap (λ (t : List ℕ). number_text 8 p.length ++ t) (append_assoc p.md5 (path_text p.path) rest)) in
    ap (placement_at n) regrouped
    ∙ bind_is (kind_at n (byte_of p.kind ∷ a1)) (p.kind, a1) (λ kind. size_at kind.1 >>= λ size. bytes_at 16 size.1 >>= λ digest. path_at n digest.1 >>= λ path. Ok (record { path = path.0; kind = kind.0; length = size.0; md5 = digest.0 }, path.1)) (kind_again n p.kind a1)
    ∙ bind_is (size_at a1) (p.length, a2) (λ size. bytes_at 16 size.1 >>= λ digest. path_at n digest.1 >>= λ path. Ok (record { path = path.0; kind = p.kind; length = size.0; md5 = digest.0 }, path.1)) (size_again p.length a2 h.size)
    ∙ bind_is (bytes_at 16 a2) (p.md5, a3) (λ digest. path_at n digest.1 >>= λ path. Ok (record { path = path.0; kind = p.kind; length = p.length; md5 = digest.0 }, path.1)) (bytes_again 16 p.md5 a3 h.digest)
    ∙ bind_is (path_at n a3) (p.path, rest) (λ path. Ok (record { path = path.0; kind = p.kind; length = p.length; md5 = p.md5 }, path.1)) (path_again n p.path rest h.path)

pub placement_reads : (n : ℕ) → Reads (placement_at n) placement_text IsPlacement
placement_reads n = record { takes = placement_takes n; again = placement_again n }

-- ---- many fields behind a count

module _ {A : Type 0} (one : List ℕ → Result (A × List ℕ) DecodeFault) (text : A → List ℕ) (Good : A → Type 0) (reads : Reads one text Good) where
  many_takes : (k : ℕ) (bytes : List ℕ) (x : List A × List ℕ) → IsBytes bytes → many_at one k bytes ≡ Ok x → Takes bytes (flat_map text x.0) x.1 × (length x.0 ≡ k) × AllByRecursion Good x.0
  unfolding many_at
  many_takes zero bytes x fits e =
      subst (λ (y : List A × List ℕ). Takes bytes (flat_map text y.0) y.1 × (length y.0 ≡ 0) × AllByRecursion Good y.0) (ok_is ([], bytes) x e) (record { parts = refl; rest_fits = fits }, refl, tt)
  many_takes (suc k) bytes x fits e =
      let a = bind_ok (one bytes) (λ first. many_at one k first.1 >>= λ others. Ok (first.0 ∷ others.0, others.1)) x e in
      let b = bind_ok (many_at one k a.0.1) (λ others. Ok (a.0.0 ∷ others.0, others.1)) x a.2 in
      let first = reads.takes bytes a.0 fits a.1 in
      let second = many_takes k a.0.1 b.0 first.0.rest_fits b.1 in
      let both = Takes-then bytes (text a.0.0) a.0.1 (flat_map text b.0.0) b.0.1 first.0 second.0 in
      let made : List A × List ℕ = (a.0.0 ∷ b.0.0, b.0.1) in
      subst (λ (y : List A × List ℕ). Takes bytes (flat_map text y.0) y.1 × (length y.0 ≡ suc k) × AllByRecursion Good y.0) (ok_is made x b.2) (rw flat_map-cons both, ap suc second.1, (first.1, second.2))

  many_again : (xs : List A) (rest : List ℕ) → AllByRecursion Good xs → many_at one (length xs) (flat_map text xs ++ rest) ≡ Ok (xs, rest)
  unfolding many_at
  many_again [] rest fits = refl
  many_again (x ∷ xs) rest fits =
      let regrouped : flat_map text (x ∷ xs) ++ rest ≡ text x ++ (flat_map text xs ++ rest) = ap (λ (t : List ℕ). t ++ rest) (flat_map-cons text x xs) ∙ append_assoc (text x) (flat_map text xs) rest in
      ap (many_at one (suc (length xs))) regrouped
      ∙ bind_is (one (text x ++ (flat_map text xs ++ rest))) (x, flat_map text xs ++ rest) (λ first. many_at one (length xs) first.1 >>= λ others. Ok (first.0 ∷ others.0, others.1)) (reads.again x (flat_map text xs ++ rest) fits.0)
      ∙ bind_is (many_at one (length xs) (flat_map text xs ++ rest)) (xs, rest) (λ others. Ok (x ∷ others.0, others.1)) (many_again xs rest fits.1)

  counted_takes : (before : ℕ) (bytes : List ℕ) (x : List A × List ℕ) → IsBytes bytes → counted_at before one bytes ≡ Ok x → Takes bytes (counted text x.0) x.1 × (before + length x.0 ≤ MOST_GROUP_PATHS) × AllByRecursion Good x.0
  unfolding counted_at count_at
  counted_takes before bytes x fits e =
      let a = bind_ok (count_at before bytes) (λ count. many_at one count.0 count.1) x e in
      let n = bind_ok (number_at 4 bytes) (λ count. cond (ltb MOST_GROUP_PATHS (before + count.0)) (Err faults.Limit) (Ok count)) a.0 a.1 in
      let g = guard_ok (ltb MOST_GROUP_PATHS (before + n.0.0)) n.0 a.0 faults.Limit n.2 in
      let le : before + n.0.0 ≤ MOST_GROUP_PATHS = ltb-false _ _ g.0 in
      let count_is : n.0.0 ≡ a.0.0 = ap (λ (p : ℕ × List ℕ). p.0) g.1 in
      let t = number_takes 4 bytes n.0 fits n.1 in
      let first : Takes bytes (number_text 4 a.0.0) a.0.1 = subst (λ (y : ℕ × List ℕ). Takes bytes (number_text 4 y.0) y.1) g.1 t.0 in
      let second = many_takes a.0.0 a.0.1 x first.rest_fits a.2 in
      let both = Takes-then bytes (number_text 4 a.0.0) a.0.1 (flat_map text x.0) x.1 first second.0 in
      (subst (λ (k : ℕ). Takes bytes (number_text 4 k ++ flat_map text x.0) x.1) (sym second.1) both, omega (arith, le, count_is, second.1), second.2)

  counted_again : (before : ℕ) (xs : List A) (rest : List ℕ) → before + length xs ≤ MOST_GROUP_PATHS → AllByRecursion Good xs → counted_at before one (counted text xs ++ rest) ≡ Ok (xs, rest)
  unfolding counted_at count_at
  counted_again before xs rest le fits =
      let within : ltb MOST_GROUP_PATHS (before + length xs) ≡ false = le-ltb _ _ le in
      let body = flat_map text xs ++ rest in
      let count : count_at before (number_text 4 (length xs) ++ body) ≡ Ok (length xs, body) = bind_is (number_at 4 (number_text 4 (length xs) ++ body)) (length xs, body) (λ x. cond (ltb MOST_GROUP_PATHS (before + x.0)) (Err faults.Limit) (Ok x)) (number_again 4 (length xs) body (omega arith)) ∙ rw within refl in
      ap (counted_at before one) (append_assoc (number_text 4 (length xs)) (flat_map text xs) rest)
      ∙ bind_is (count_at before (number_text 4 (length xs) ++ body)) (length xs, body) (λ count. many_at one count.0 count.1) count
      ∙ many_again xs rest fits

-- ---- the whole

-- what is good of the fields, whatever size they have together
pub record AreFields (r : RecordValue) : Type 0 where
  pub group : r.group < 2 ^ 32
  pub removals : AllByRecursion IsPathText r.removals
  pub placements : AllByRecursion IsPlacement r.placements
  pub paths : length r.removals + length r.placements ≤ MOST_GROUP_PATHS

fields_take : (n : ℕ) (bytes : List ℕ) (x : RecordValue × List ℕ) → IsBytes bytes → fields_at n bytes ≡ Ok x → Takes bytes (spelling x.0) x.1 × AreFields x.0
unfolding fields_at
fields_take n bytes x fits e =
    let a = bind_ok (lead_at n lead bytes) (λ rest. number_at 4 rest >>= λ group. counted_at 0 (path_at n) group.1 >>= λ removals. counted_at (length removals.0) (placement_at n) removals.1 >>= λ placements. Ok (record { group = group.0; removals = removals.0; placements = placements.0 }, placements.1)) x e in
    let g = bind_ok (number_at 4 a.0) (λ group. counted_at 0 (path_at n) group.1 >>= λ removals. counted_at (length removals.0) (placement_at n) removals.1 >>= λ placements. Ok (record { group = group.0; removals = removals.0; placements = placements.0 }, placements.1)) x a.2 in
    let r = bind_ok (counted_at 0 (path_at n) g.0.1) (λ removals. counted_at (length removals.0) (placement_at n) removals.1 >>= λ placements. Ok (record { group = g.0.0; removals = removals.0; placements = placements.0 }, placements.1)) x g.2 in
    let p = bind_ok (counted_at (length r.0.0) (placement_at n) r.0.1) (λ placements. Ok (record { group = g.0.0; removals = r.0.0; placements = placements.0 }, placements.1)) x r.2 in
    let t0 = lead_takes n lead bytes a.0 fits a.1 in
    let t1 = number_takes 4 a.0 g.0 t0.rest_fits g.1 in
    let t2 = counted_takes (path_at n) path_text IsPathText (path_reads n) 0 g.0.1 r.0 t1.0.rest_fits r.1 in
    let t3 = counted_takes (placement_at n) placement_text IsPlacement (placement_reads n) (length r.0.0) r.0.1 p.0 t2.0.rest_fits p.1 in
    let e2 = Takes-then g.0.1 (counted path_text r.0.0) r.0.1 (counted placement_text p.0.0) p.0.1 t2.0 t3.0 in
    let e1 = Takes-then a.0 (number_text 4 g.0.0) g.0.1 (counted path_text r.0.0 ++ counted placement_text p.0.0) p.0.1 t1.0 e2 in
    let e0 = Takes-then bytes lead a.0 (number_text 4 g.0.0 ++ (counted path_text r.0.0 ++ counted placement_text p.0.0)) p.0.1 t0 e1 in
    let made : RecordValue × List ℕ = (record { group = g.0.0; removals = r.0.0; placements = p.0.0 }, p.0.1) in
    subst (λ (y : RecordValue × List ℕ). Takes bytes (spelling y.0) y.1 × AreFields y.0) (ok_is made x p.2) (e0, record { group = t1.1; removals = t2.2; placements = t3.2; paths = t3.1 })

fields_again : (n : ℕ) (r : RecordValue) → AreFields r → fields_at n (spelling r) ≡ Ok (r, [])
unfolding fields_at
fields_again n r fits =
    let last = counted placement_text r.placements in
    let mid = counted path_text r.removals ++ last in
    let paths : 0 + length r.removals ≤ MOST_GROUP_PATHS = omega (arith, fits.paths) in
    let placed : counted_at (length r.removals) (placement_at n) last ≡ Ok (r.placements, []) = ap (counted_at (length r.removals) (placement_at n)) (sym (append-nil last)) ∙ counted_again (placement_at n) placement_text IsPlacement (placement_reads n) (length r.removals) r.placements [] fits.paths fits.placements in
    bind_is (lead_at n lead (lead ++ (number_text 4 r.group ++ mid))) (number_text 4 r.group ++ mid) (λ rest. number_at 4 rest >>= λ group. counted_at 0 (path_at n) group.1 >>= λ removals. counted_at (length removals.0) (placement_at n) removals.1 >>= λ placements. Ok (record { group = group.0; removals = removals.0; placements = placements.0 }, placements.1)) (lead_again n lead (number_text 4 r.group ++ mid))
    ∙ bind_is (number_at 4 (number_text 4 r.group ++ mid)) (r.group, mid) (λ group. counted_at 0 (path_at n) group.1 >>= λ removals. counted_at (length removals.0) (placement_at n) removals.1 >>= λ placements. Ok (record { group = group.0; removals = removals.0; placements = placements.0 }, placements.1)) (number_again 4 r.group mid (omega (arith, fits.group)))
    ∙ bind_is (counted_at 0 (path_at n) mid) (r.removals, last) (λ removals. counted_at (length removals.0) (placement_at n) removals.1 >>= λ placements. Ok (record { group = r.group; removals = removals.0; placements = placements.0 }, placements.1)) (counted_again (path_at n) path_text IsPathText (path_reads n) 0 r.removals last paths fits.removals)
    ∙ bind_is (counted_at (length r.removals) (placement_at n) last) (r.placements, []) (λ placements. Ok (record { group = r.group; removals = r.removals; placements = placements.0 }, placements.1)) placed

unless_ok : {A : Type 0} (b : Bool) (e : DecodeFault) (r : Result A DecodeFault) (x : A) → cond b (Err e) r ≡ Ok x → (b ≡ false) × (r ≡ Ok x)
unless_ok true e r x h = absurd cc
unless_ok false e r x h = (refl, h)

pub record_takes : (bytes : List ℕ) (r : RecordValue) → IsBytes bytes → record_of bytes ≡ Ok r → IsSpellable r × (bytes ≡ spelling r)
unfolding record_of
record_takes bytes r fits e =
    let u = unless_ok (ltb MOST_RECORD_BYTES (length bytes)) faults.Limit (fields_at (length bytes) bytes >>= λ all. cond (eqb (length all.1) 0) (Ok all.0) (Err faults.Trailing)) r e in
    let a = bind_ok (fields_at (length bytes) bytes) (λ all. cond (eqb (length all.1) 0) (Ok all.0) (Err faults.Trailing)) r u.1 in
    let p = passed_ok (eqb (length a.0.1) 0) a.0.0 r faults.Trailing a.2 in
    let t = fields_take (length bytes) bytes a.0 fits a.1 in
    let nothing : a.0.1 ≡ [] = nil_from_length a.0.1 (eqb-true _ _ p.0) in
    let whole : bytes ≡ spelling a.0.0 = t.0.parts ∙ ap (λ (rest : List ℕ). spelling a.0.0 ++ rest) nothing ∙ append-nil (spelling a.0.0) in
    let small : length bytes ≤ MOST_RECORD_BYTES = ltb-false _ _ u.0 in
    let size : length (spelling a.0.0) ≤ MOST_RECORD_BYTES = subst (λ (b : List ℕ). length b ≤ MOST_RECORD_BYTES) whole small in
    let good : IsSpellable a.0.0 = record { group = t.1.group; removals = t.1.removals; placements = t.1.placements; paths = t.1.paths; bytes = size } in
    subst (λ (y : RecordValue). IsSpellable y × (bytes ≡ spelling y)) p.1 (good, whole)

pub record_again : (r : RecordValue) → IsSpellable r → record_of (spelling r) ≡ Ok r
unfolding record_of
record_again r fits =
    let within : ltb MOST_RECORD_BYTES (length (spelling r)) ≡ false = le-ltb _ _ fits.bytes in
    let fields = fields_again (length (spelling r)) r (record { group = fits.group; removals = fits.removals; placements = fits.placements; paths = fits.paths }) in
    rw within (bind_is (fields_at (length (spelling r)) (spelling r)) (r, []) (λ all. cond (eqb (length all.1) 0) (Ok all.0) (Err faults.Trailing)) fields)

pub is_found : (bytes : List ℕ) (r : Result RecordValue DecodeFault) → IsBytes bytes → Gives (λ x. x) r (record_of bytes) → IfOk r (λ x. IsSpellable x × (bytes ≡ spelling x))
is_found bytes (Ok x) fits given = record_takes bytes x fits given
is_found bytes (Err e) fits given = tt

abbrev read_as : RecordValue → Result RecordValue DecodeFault
read_as r = Ok r

same_content : (r s : RecordValue) → read_as r ≡ read_as s → r ≡ s
same_content r s e = cc

pub spelling-injective : (r s : RecordValue) → IsSpellable r → IsSpellable s → spelling r ≡ spelling s → r ≡ s
spelling-injective r s fr fs e = same_content r s (sym (record_again r fr) ∙ ap record_of e ∙ record_again s fs)
