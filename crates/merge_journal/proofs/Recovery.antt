-- What recovery makes of a crash image is one map, and it is the map of the records.
use Rattle.std.proofs.Common.{◌≡◌, ◌⊎◌, ◌+◌, ◌||◌, ℕ, zero, suc, Bool, true, false, cond, map, List, [], ◌∷◌, ◌++◌, Option, Some, None, Ok, refl, sym, ap, subst, ◌∙◌, inl, inr, arith}
use Rattle.std.specs.Prelude.{bytes_eq, slice_get}
use Rattle.std.proofs.lemmas.Slice.Eq.{bytes_eq-Decides}
use Rattle.basics.specs.Members.{AreDistinct, Has}
use Rattle.basics.proofs.Membership.{has-append_cases, has-append_left, has-append_right}
use Rattle.file_tree.specs.Disk.{Map}
use Rattle.file_tree.specs.Paths.{is_below}
use Rattle.file_tree.specs.ObjectValue.{ObjectValue}
use Rattle.merge_record.specs.RecordValue.{RecordValue}
use Rattle.merge_journal.specs.Judging.{◌>>=◌, footprint, judged, judged_all, judged_open, path_of}
use Rattle.file_tree.specs.PathSets.{is_in}
use Rattle.merge_journal.specs.Names.{stage_path}
use Rattle.file_tree.specs.Fixed.{jobs}
use Rattle.merge_journal.specs.Open.{open_groups}
use Rattle.merge_journal.specs.Recovered.{IsRecovered}
use Rattle.merge_record.specs.declared.record.Placement.{Placement}
use Rattle.merge_journal.proofs.Form.{AreFree, bind_ok, judged_words, shift, false_if_absent}
use Rattle.file_tree.proofs.PathSets.{has_if_in, in_if_has}
use Rattle.merge_journal.proofs.Verdicts.{ok_all}

-- ---- the map that the records make of an image, straight from its stages

-- what placing makes of what stands at a path, from an index on
abbrev pub placed_at : Map → ℕ → ℕ → List Placement → List ℕ → Option ObjectValue → Option ObjectValue
placed_at c g i [] q x = x
placed_at c g i (p ∷ ps) q x =
    placed_at c g (suc i) ps q (cond (bytes_eq q p.path) (c (stage_path g i)) x)

-- what a record makes of what stands at a path: first the removals, then the placements
abbrev pub remade : Map → RecordValue → List ℕ → Option ObjectValue → Option ObjectValue
remade c r q x = placed_at c r.group 0 r.placements q (cond (is_in r.removals q) None x)

abbrev pub rebuilt : Map → List RecordValue → List ℕ → Option ObjectValue → Option ObjectValue
rebuilt c [] q x = x
rebuilt c (r ∷ rs) q x = rebuilt c rs q (remade c r q x)

-- the map that the records make of an image
abbrev pub recovered_by : Map → List RecordValue → Map
recovered_by c records q = cond (is_below jobs q) None (rebuilt c records q (c q))

-- ---- records whose paths are apart

abbrev pub AreApart : List (List ℕ) → List RecordValue → Type 0
AreApart taken [] = Unit {0}
AreApart taken (r ∷ rs) = AreFree taken (footprint r) × AreApart (taken ++ footprint r) rs

same_records : (xs ys : List RecordValue) → ok_all xs ≡ ok_all ys → xs ≡ ys
same_records xs ys e = cc

pub apart_of : (c : Map) (taken : List (List ℕ)) (gs : List ℕ) (rs : List RecordValue) → judged_all c taken gs ≡ Ok rs → AreApart taken rs
unfolding judged_all
apart_of c taken [] rs h = subst (λ (xs : List RecordValue). AreApart taken xs) (same_records [] rs h) tt
apart_of c taken (g ∷ gs) rs h =
    let a = bind_ok (judged c taken g) (λ r. judged_all c (taken ++ footprint r) gs >>= λ xs. Ok (r ∷ xs)) rs h in
    let b = bind_ok (judged_all c (taken ++ footprint a.0) gs) (λ xs. Ok (a.0 ∷ xs)) rs a.2 in
    let form = judged_words c taken g a.0 a.1 in
    let free : AreFree taken (footprint a.0) = record { distinct = form.distinct; outside = form.outside; apart = form.free } in
    subst (λ (xs : List RecordValue). AreApart taken xs) (same_records (a.0 ∷ b.0) rs b.2) (free, apart_of c (taken ++ footprint a.0) gs b.0 b.1)

-- what is taken is in no later footprint
later_free : (taken : List (List ℕ)) (rs : List RecordValue) (q : List ℕ) → AreApart taken rs → Has taken q → (r : RecordValue) → Has rs r → Has (footprint r) q → ⊥
later_free taken [] q apart was r has mine = has
later_free taken (x ∷ rs) q apart was r (inl e) mine = apart.0.apart q (subst (λ (y : RecordValue). Has (footprint y) q) (sym e) mine) was
later_free taken (x ∷ rs) q apart was r (inr k) mine = later_free (taken ++ footprint x) rs q apart.1 (has-append_left taken (footprint x) q was) r k mine

nor_right : (a b d : Bool) → (a || (b || d)) ≡ false → b ≡ false
nor_right true b d h = absurd cc
nor_right false true d h = absurd cc
nor_right false false d h = refl

outside : (taken : List (List ℕ)) (rs : List RecordValue) (q : List ℕ) → AreApart taken rs → (r : RecordValue) → Has rs r → Has (footprint r) q → is_below jobs q ≡ false
outside taken [] q apart r has mine = absurd has
outside taken (x ∷ rs) q apart r (inl e) mine = nor_right (bytes_eq q jobs) (is_below jobs q) (is_below q jobs) (apart.0.outside q (subst (λ (y : RecordValue). Has (footprint y) q) (sym e) mine))
outside taken (x ∷ rs) q apart r (inr k) mine = outside (taken ++ footprint x) rs q apart.1 r k mine

-- ---- one record at a path

not_equal : (q p : List ℕ) (b : Bool) → bytes_eq q p ≡ b → (p ≡ q → ⊥) → bytes_eq q p ≡ false
not_equal q p true e h = absurd (h (sym ((bytes_eq-Decides q p).0 e)))
not_equal q p false e h = e

placed_other : (c : Map) (g i : ℕ) (ps : List Placement) (q : List ℕ) (x : Option ObjectValue) → (Has (map path_of ps) q → ⊥) → placed_at c g i ps q x ≡ x
placed_other c g i [] q x h = refl
placed_other c g i (p ∷ ps) q x h =
    let no = not_equal q p.path (bytes_eq q p.path) refl (λ e. h (inl e)) in
    ap (λ (b : Bool). placed_at c g (suc i) ps q (cond b (c (stage_path g i)) x)) no ∙ placed_other c g (suc i) ps q x (λ k. h (inr k))

placed_hit : (c : Map) (g i : ℕ) (ps : List Placement) (j : ℕ) (p : Placement) (x : Option ObjectValue) → AreDistinct (map path_of ps) → slice_get ps j ≡ Some p → placed_at c g i ps p.path x ≡ c (stage_path g (i + j))
placed_hit c g i [] j p x apart at = absurd cc
placed_hit c g i (y ∷ ps) zero p x apart at =
    let same : y ≡ p = cc in
    let yes : bytes_eq p.path y.path ≡ true = (bytes_eq-Decides p.path y.path).1 (ap path_of (sym same)) in
    let none : i + 0 ≡ i = omega arith in
    ap (λ (b : Bool). placed_at c g (suc i) ps p.path (cond b (c (stage_path g i)) x)) yes
    ∙ placed_other c g (suc i) ps p.path (c (stage_path g i)) (λ k. apart.0 (subst (λ (z : Placement). Has (map path_of ps) (path_of z)) (sym same) k))
    ∙ ap (λ (k : ℕ). c (stage_path g k)) (sym none)
placed_hit c g i (y ∷ ps) (suc j) p x apart at =
    placed_hit c g (suc i) ps j p (cond (bytes_eq p.path y.path) (c (stage_path g i)) x) apart.1 at ∙ ap (λ (k : ℕ). c (stage_path g k)) (shift i j)

pub has_placed : (ps : List Placement) (j : ℕ) (p : Placement) → slice_get ps j ≡ Some p → Has (map path_of ps) p.path
has_placed [] j p at = absurd cc
has_placed (y ∷ ps) zero p at = let same : y ≡ p = cc in inl (ap path_of same)
has_placed (y ∷ ps) (suc j) p at = inr (has_placed ps j p at)

placed_has : (ps : List Placement) (q : List ℕ) → Has (map path_of ps) q → (j : ℕ) × (p : Placement) × (slice_get ps j ≡ Some p) × (path_of p ≡ q)
placed_has [] q h = absurd h
placed_has (y ∷ ps) q (inl e) = (0, y, refl, e)
placed_has (y ∷ ps) q (inr h) = let k = placed_has ps q h in (suc k.0, k.1, k.2, k.3)

distinct_parts : (xs ys : List (List ℕ)) → AreDistinct (xs ++ ys) → ((q : List ℕ) → Has xs q → Has ys q → ⊥) × AreDistinct ys
distinct_parts [] ys h = (λ q has. absurd has, h)
distinct_parts (x ∷ xs) ys h =
    let rest = distinct_parts xs ys h.1 in
    (λ q has mine. elim has [ inl e ↦ h.0 (has-append_right xs ys x (subst (λ (z : List ℕ). Has ys z) (sym e) mine)) | inr k ↦ rest.0 q k mine ], rest.1)

remade_other : (c : Map) (r : RecordValue) (q : List ℕ) (x : Option ObjectValue) → (Has (footprint r) q → ⊥) → remade c r q x ≡ x
remade_other c r q x h =
    let no = false_if_absent r.removals q (is_in r.removals q) refl (λ k. h (has-append_left r.removals (map path_of r.placements) q k)) in
    ap (λ (b : Bool). placed_at c r.group 0 r.placements q (cond b None x)) no ∙ placed_other c r.group 0 r.placements q x (λ k. h (has-append_right r.removals (map path_of r.placements) q k))

remade_removed : (c : Map) (r : RecordValue) (q : List ℕ) (x : Option ObjectValue) → AreDistinct (footprint r) → Has r.removals q → remade c r q x ≡ None
remade_removed c r q x apart has =
    ap (λ (b : Bool). placed_at c r.group 0 r.placements q (cond b None x)) (in_if_has r.removals q has)
    ∙ placed_other c r.group 0 r.placements q None (λ k. (distinct_parts r.removals (map path_of r.placements) apart).0 q has k)

remade_placed : (c : Map) (r : RecordValue) (j : ℕ) (p : Placement) (x : Option ObjectValue) → AreDistinct (footprint r) → slice_get r.placements j ≡ Some p → remade c r p.path x ≡ c (stage_path r.group j)
remade_placed c r j p x apart at =
    let plus : 0 + j ≡ j = omega arith in
    placed_hit c r.group 0 r.placements j p (cond (is_in r.removals p.path) None x) (distinct_parts r.removals (map path_of r.placements) apart).1 at ∙ ap (λ (k : ℕ). c (stage_path r.group k)) plus

-- ---- all records at a path

rebuilt_other : (c : Map) (rs : List RecordValue) (q : List ℕ) (x : Option ObjectValue) → ((r : RecordValue) → Has rs r → Has (footprint r) q → ⊥) → rebuilt c rs q x ≡ x
rebuilt_other c [] q x h = refl
rebuilt_other c (r ∷ rs) q x h = ap (rebuilt c rs q) (remade_other c r q x (h r (inl refl))) ∙ rebuilt_other c rs q x (λ s k. h s (inr k))

-- at a path of one record, it is what that record makes
rebuilt_mine : (c : Map) (taken : List (List ℕ)) (rs : List RecordValue) (q : List ℕ) (x y : Option ObjectValue) → AreApart taken rs → (r : RecordValue) → Has rs r → Has (footprint r) q
    → ((z : Option ObjectValue) → remade c r q z ≡ y) → rebuilt c rs q x ≡ y
rebuilt_mine c taken [] q x y apart r has mine makes = absurd has
rebuilt_mine c taken (s ∷ rs) q x y apart r (inl e) mine makes =
    let here : Has (taken ++ footprint s) q = has-append_right taken (footprint s) q (subst (λ (z : RecordValue). Has (footprint z) q) (sym e) mine) in
    ap (rebuilt c rs q) (ap (λ (z : RecordValue). remade c z q x) e ∙ makes x) ∙ rebuilt_other c rs q y (later_free (taken ++ footprint s) rs q apart.1 here)
rebuilt_mine c taken (s ∷ rs) q x y apart r (inr k) mine makes = rebuilt_mine c (taken ++ footprint s) rs q (remade c s q x) y apart.1 r k mine makes

distinct_of : (taken : List (List ℕ)) (rs : List RecordValue) → AreApart taken rs → (r : RecordValue) → Has rs r → AreDistinct (footprint r)
distinct_of taken [] apart r has = absurd has
distinct_of taken (s ∷ rs) apart r (inl e) = subst (λ (z : RecordValue). AreDistinct (footprint z)) e apart.0.distinct
distinct_of taken (s ∷ rs) apart r (inr k) = distinct_of (taken ++ footprint s) rs apart.1 r k

at_removed : (c : Map) (rs : List RecordValue) (q : List ℕ) → AreApart [] rs → (r : RecordValue) → Has rs r → Has r.removals q → rebuilt c rs q (c q) ≡ None
at_removed c rs q apart r has mine =
    rebuilt_mine c [] rs q (c q) None apart r has (has-append_left r.removals (map path_of r.placements) q mine) (λ z. remade_removed c r q z (distinct_of [] rs apart r has) mine)

at_placed : (c : Map) (rs : List RecordValue) → AreApart [] rs → (r : RecordValue) → Has rs r → (j : ℕ) (p : Placement) → slice_get r.placements j ≡ Some p → rebuilt c rs p.path (c p.path) ≡ c (stage_path r.group j)
at_placed c rs apart r has j p at =
    rebuilt_mine c [] rs p.path (c p.path) (c (stage_path r.group j)) apart r has (has-append_right r.removals (map path_of r.placements) p.path (has_placed r.placements j p at)) (λ z. remade_placed c r j p z (distinct_of [] rs apart r has) at)

outer : (c : Map) (rs : List RecordValue) (q : List ℕ) (y : Option ObjectValue) → is_below jobs q ≡ false → rebuilt c rs q (c q) ≡ y → recovered_by c rs q ≡ y
outer c rs q y over e = ap (λ (b : Bool). cond b None (rebuilt c rs q (c q))) over ∙ e

-- the map of the records is what recovery makes
pub recovered_is : (c : Map) (rs : List RecordValue) → judged_open c ≡ Ok rs → IsRecovered c (recovered_by c rs)
unfolding judged_open
recovered_is c rs h =
    let apart = apart_of c [] (open_groups c) rs h in
    record {
      records = rs;
      form = h;
      placed = λ r has j p at. outer c rs p.path (c (stage_path r.group j)) (outside [] rs p.path apart r has (has-append_right r.removals (map path_of r.placements) p.path (has_placed r.placements j p at))) (at_placed c rs apart r has j p at);
      removed = λ r has q mine. outer c rs q None (outside [] rs q apart r has (has-append_left r.removals (map path_of r.placements) q mine)) (at_removed c rs q apart r has mine);
      cleared = λ q below. ap (λ (b : Bool). cond b None (rebuilt c rs q (c q))) below;
      others = λ q over none. outer c rs q (c q) over (rebuilt_other c rs q (c q) none);
    }

-- whether a path is of some record
whose : (rs : List RecordValue) (q : List ℕ) → ((r : RecordValue) × Has rs r × Has (footprint r) q) ⊎ ((r : RecordValue) → Has rs r → Has (footprint r) q → ⊥)
whose [] q = inr (λ r has mine. has)
whose (s ∷ rs) q = pick (is_in (footprint s) q) refl (whose rs q)
  where
    not_here : is_in (footprint s) q ≡ false → Has (footprint s) q → ⊥
    not_here e has = let t = in_if_has (footprint s) q has in cc

    pick : (b : Bool) → is_in (footprint s) q ≡ b → (((r : RecordValue) × Has rs r × Has (footprint r) q) ⊎ ((r : RecordValue) → Has rs r → Has (footprint r) q → ⊥))
        → ((r : RecordValue) × Has (s ∷ rs) r × Has (footprint r) q) ⊎ ((r : RecordValue) → Has (s ∷ rs) r → Has (footprint r) q → ⊥)
    pick true e rest = inl (s, inl refl, has_if_in (footprint s) q e)
    pick false e (inl k) = inl (k.0, inr k.1, k.2)
    pick false e (inr none) = inr (λ r has mine. elim has [ inl same ↦ not_here e (subst (λ (z : RecordValue). Has (footprint z) q) (sym same) mine) | inr k ↦ none r k mine ])

-- each map that recovery may make is that of the records
pub is_recovered : (c m : Map) (h : IsRecovered c m) (q : List ℕ) → m q ≡ recovered_by c h.records q
unfolding judged_open
is_recovered c m h q = go (is_below jobs q) refl
  where
    apart : AreApart [] h.records
    apart = apart_of c [] (open_groups c) h.records h.form

    mine : (r : RecordValue) → Has h.records r → (Has r.removals q ⊎ Has (map path_of r.placements) q) → m q ≡ rebuilt c h.records q (c q)
    mine r has (inl k) = h.removed r has q k ∙ sym (at_removed c h.records q apart r has k)
    mine r has (inr k) =
        let at = placed_has r.placements q k in
        let here : m (path_of at.1) ≡ rebuilt c h.records (path_of at.1) (c (path_of at.1)) = h.placed r has at.0 at.1 at.2 ∙ sym (at_placed c h.records apart r has at.0 at.1 at.2) in
        subst (λ (z : List ℕ). m z ≡ rebuilt c h.records z (c z)) at.3 here

    there : is_below jobs q ≡ false → m q ≡ rebuilt c h.records q (c q)
    there over = elim (whose h.records q) [ inl k ↦ mine k.0 k.1 (has-append_cases k.0.removals (map path_of k.0.placements) q k.2) | inr none ↦ h.others q over none ∙ sym (rebuilt_other c h.records q (c q) none) ]

    go : (b : Bool) → is_below jobs q ≡ b → m q ≡ recovered_by c h.records q
    go true e = h.cleared q e ∙ sym (ap (λ (b : Bool). cond b None (rebuilt c h.records q (c q))) e)
    go false e = there e ∙ sym (ap (λ (b : Bool). cond b None (rebuilt c h.records q (c q))) e)

pub some_recovered : (c : Map) (rs : List RecordValue) → judged_open c ≡ Ok rs → (m : Map) × IsRecovered c m
some_recovered c rs h = (recovered_by c rs, recovered_is c rs h)

pub recovered_once : (c m n : Map) → IsRecovered c m → IsRecovered c n → (q : List ℕ) → m q ≡ n q
recovered_once c m n h k q =
    let same : h.records ≡ k.records = same_records h.records k.records (sym h.form ∙ k.form) in
    is_recovered c m h q ∙ ap (λ (rs : List RecordValue). recovered_by c rs q) same ∙ sym (is_recovered c n k q)
