-- A verdict in words: a group that is judged good is in form, and one that is in form is judged good.
use Rattle.std.proofs.Common.{◌≡◌, ◌+◌, ◌<◌, ◌^◌, ◌++◌, ◌&&◌, ◌||◌, ℕ, zero, suc, Bool, true, false, not, cond, eqb, List, [], ◌∷◌, length, Option, Some, None, Result, Ok, Err, refl, sym, ap, subst, ◌∙◌, inl, inr, arith, eq-eqb}
use Rattle.std.specs.Prelude.{bytes_eq, slice_get}
use Rattle.std.proofs.lemmas.Bool.{and_from, and_parts, eqb-true}
use Rattle.std.proofs.lemmas.Slice.Eq.{bytes_eq-Decides}
use Rattle.basics.specs.Members.{AreDistinct, Has}
use Rattle.basics.proofs.Membership.{has-append_cases}
use Rattle.md5.specs.Md5.{md5}
use Rattle.file_tree.specs.Disk.{Map}
use Rattle.file_tree.specs.ObjectValue.{ObjectValue}
use Rattle.file_tree.specs.declared.objects.Kind.{Kind}
use Rattle.file_tree.specs.declared.objects.Kind.TheVariants.{Plain, Exec, Link}
use Rattle.merge_record.specs.RecordValue.{RecordValue}
use Rattle.merge_journal.specs.Judging.{◌>>=◌, AreApplicable, IsGroupInForm, IsStaged, are_free, footprint, is_free, is_staged, judged, meets_jobs, paths_judged, record_in, record_read, stages_judged}
use Rattle.file_tree.specs.PathSets.{is_in}
use Rattle.file_tree.proofs.PathSets.{has_if_in, in_if_has}
use Rattle.merge_journal.specs.Names.{record_path, stage_path}
use Rattle.merge_record.specs.Spelling.{byte_of}
use Rattle.merge_journal.specs.declared.fault.JudgeFault.{JudgeFault}
use Rattle.merge_journal.specs.declared.fault.JudgeFault.TheVariants as faults
use Rattle.merge_record.specs.declared.fault.DecodeFault.{DecodeFault}
use Rattle.merge_record.specs.declared.record.Placement.{Placement}
use Rattle.merge_journal.proofs.Verdicts.{fine, judged_ok, paths_pass}

not_in : (paths : List (List ℕ)) (q : List ℕ) → is_in paths q ≡ false → Has paths q → ⊥
not_in paths q h has = let e = in_if_has paths q has in cc

-- ---- free paths in words

pub record AreFree (taken paths : List (List ℕ)) : Type 0 where
  pub distinct : AreDistinct paths
  pub outside : (q : List ℕ) → Has paths q → meets_jobs q ≡ false
  pub apart : (q : List ℕ) → Has paths q → Has taken q → ⊥

nor : (a b : Bool) → not (a || b) ≡ true → (a ≡ false) × (b ≡ false)
nor true b h = absurd cc
nor false true h = absurd cc
nor false false h = (refl, refl)

nor_both : (a b : Bool) → a ≡ false → b ≡ false → not (a || b) ≡ true
nor_both a b p q = rw (p, q) refl

pub are_free-words : (taken paths : List (List ℕ)) → are_free taken paths ≡ true → AreFree taken paths
unfolding are_free
are_free-words taken [] h = record { distinct = tt; outside = λ q has. absurd has; apart = λ q has. absurd has }
are_free-words taken (p ∷ ps) h =
    let both = and_parts (is_free taken p) (are_free (p ∷ taken) ps) h in
    let one = nor (meets_jobs p) (is_in taken p) both.0 in
    let rest = are_free-words (p ∷ taken) ps both.1 in
    record {
      distinct = (λ has. rest.apart p has (inl refl), rest.distinct);
      outside = λ q has. elim has [ inl e ↦ ap meets_jobs (sym e) ∙ one.0 | inr k ↦ rest.outside q k ];
      apart = λ q has was. elim has [ inl e ↦ not_in taken q (ap (is_in taken) (sym e) ∙ one.1) was | inr k ↦ rest.apart q k (inr was) ];
    }

pub false_if_absent : (taken : List (List ℕ)) (p : List ℕ) (b : Bool) → is_in taken p ≡ b → (Has taken p → ⊥) → is_in taken p ≡ false
false_if_absent taken p true e h = absurd (h (has_if_in taken p e))
false_if_absent taken p false e h = e

pub are_free-if : (taken paths : List (List ℕ)) → AreFree taken paths → are_free taken paths ≡ true
unfolding are_free
are_free-if taken [] h = refl
are_free-if taken (p ∷ ps) h =
    let absent = false_if_absent taken p (is_in taken p) refl (h.apart p (inl refl)) in
    let one = nor_both (meets_jobs p) (is_in taken p) (h.outside p (inl refl)) absent in
    let rest : AreFree (p ∷ taken) ps = record {
      distinct = h.distinct.1;
      outside = λ q has. h.outside q (inr has);
      apart = λ q has was. elim was [ inl e ↦ h.distinct.0 (subst (λ (x : List ℕ). Has ps x) (sym e) has) | inr k ↦ h.apart q (inr has) k ];
    } in
    and_from (is_free taken p) (are_free (p ∷ taken) ps) one (are_free-if (p ∷ taken) ps rest)

-- ---- stages in words

same_kind : (k j : Kind) → byte_of k ≡ byte_of j → k ≡ j
same_kind Plain Plain e = refl
same_kind Plain Exec e = absurd (omega arith)
same_kind Plain Link e = absurd (omega arith)
same_kind Exec Plain e = absurd (omega arith)
same_kind Exec Exec e = refl
same_kind Exec Link e = absurd (omega arith)
same_kind Link Plain e = absurd (omega arith)
same_kind Link Exec e = absurd (omega arith)
same_kind Link Link e = refl

pub is_staged-words : (x : Option ObjectValue) (p : Placement) → is_staged x p ≡ true → IsStaged x p
unfolding is_staged
is_staged-words None p h = absurd cc
is_staged-words (Some o) p h =
    let a = and_parts (eqb (byte_of o.kind) (byte_of p.kind)) (eqb (length o.bytes) p.length && bytes_eq (md5 o.bytes) p.md5) h in
    let b = and_parts (eqb (length o.bytes) p.length) (bytes_eq (md5 o.bytes) p.md5) a.1 in
    record { object = o; there = refl; kind = same_kind o.kind p.kind (eqb-true _ _ a.0); size = eqb-true _ _ b.0; digest = (bytes_eq-Decides (md5 o.bytes) p.md5).0 b.1 }

pub is_staged-if : (x : Option ObjectValue) (p : Placement) → IsStaged x p → is_staged x p ≡ true
unfolding is_staged
is_staged-if x p h =
    let o = h.object in
    rw h.there (and_from (eqb (byte_of o.kind) (byte_of p.kind)) (eqb (length o.bytes) p.length && bytes_eq (md5 o.bytes) p.md5) (eq-eqb _ _ (ap byte_of h.kind))
    (and_from (eqb (length o.bytes) p.length) (bytes_eq (md5 o.bytes) p.md5) (eq-eqb _ _ h.size) ((bytes_eq-Decides (md5 o.bytes) p.md5).1 h.digest)))

chosen_ok : {A : Type 0} (b : Bool) (r : Result A JudgeFault) (e : JudgeFault) (x : A) → cond b r (Err e) ≡ Ok x → (b ≡ true) × (r ≡ Ok x)
chosen_ok true r e x h = (refl, h)
chosen_ok false r e x h = absurd cc

pub shift : (i j : ℕ) → suc i + j ≡ i + suc j
shift i j = omega arith

stages_words : (c : Map) (g i : ℕ) (ps : List Placement) → stages_judged c g i ps ≡ fine → (j : ℕ) (p : Placement) → slice_get ps j ≡ Some p → IsStaged (c (stage_path g (i + j))) p
unfolding stages_judged
stages_words c g i [] h j p at = absurd cc
stages_words c g i (x ∷ ps) h zero p at =
    let a = chosen_ok (is_staged (c (stage_path g i)) x) (stages_judged c g (suc i) ps) (faults.BadStage g i) tt h in
    let same : x ≡ p = cc in
    let none : i + 0 ≡ i = omega arith in
    rw (none, sym same) (is_staged-words (c (stage_path g i)) x a.0)
stages_words c g i (x ∷ ps) h (suc j) p at =
    let a = chosen_ok (is_staged (c (stage_path g i)) x) (stages_judged c g (suc i) ps) (faults.BadStage g i) tt h in
    subst (λ (k : ℕ). IsStaged (c (stage_path g k)) p) (shift i j) (stages_words c g (suc i) ps a.1 j p at)

stages_if : (c : Map) (g i : ℕ) (ps : List Placement) → ((j : ℕ) (p : Placement) → slice_get ps j ≡ Some p → IsStaged (c (stage_path g (i + j))) p) → stages_judged c g i ps ≡ fine
unfolding stages_judged
stages_if c g i [] h = refl
stages_if c g i (x ∷ ps) h =
    let none : i + 0 ≡ i = omega arith in
    let here = is_staged-if (c (stage_path g i)) x (subst (λ (k : ℕ). IsStaged (c (stage_path g k)) x) none (h 0 x refl)) in
    rw here (stages_if c g (suc i) ps (λ j p at. subst (λ (k : ℕ). IsStaged (c (stage_path g k)) p) (sym (shift i j)) (h (suc j) p at)))

-- ---- the whole

pub bind_ok : {A B : Type 0} (r : Result A JudgeFault) (f : A → Result B JudgeFault) (y : B) → (r >>= f) ≡ Ok y → (x : A) × (r ≡ Ok x) × (f x ≡ Ok y)
bind_ok (Ok x) f y e = (x, refl, e)
bind_ok (Err d) f y e = absurd cc

abbrev read_good : RecordValue → Result RecordValue DecodeFault
read_good r = Ok r

abbrev judged_good : RecordValue → Result RecordValue JudgeFault
judged_good r = Ok r

same_content : (x y : RecordValue) → judged_good x ≡ judged_good y → x ≡ y
same_content x y e = cc

zero_plus : (i : ℕ) → 0 + i ≡ i
zero_plus i = omega arith

read_ok : (g : ℕ) (read : Result RecordValue DecodeFault) (r : RecordValue) → record_read g read ≡ Ok r → read ≡ Ok r
unfolding record_read
read_ok g (Ok x) r h = let same : x ≡ r = cc in ap read_good same
read_ok g (Err e) r h = absurd cc

unit_ok : (r : Result (Unit {0}) JudgeFault) (x : Unit {0}) → r ≡ Ok x → r ≡ fine
unit_ok r x h = h

pub judged_words : (c : Map) (taken : List (List ℕ)) (g : ℕ) (r : RecordValue) → judged c taken g ≡ Ok r → IsGroupInForm c taken g r
unfolding judged paths_judged
judged_words c taken g r h =
    let a = bind_ok (record_read g (record_in (c (record_path g)))) (λ x. paths_judged taken g x >>= λ free. stages_judged c g 0 x.placements >>= λ staged. Ok x) r h in
    let b = bind_ok (paths_judged taken g a.0) (λ free. stages_judged c g 0 a.0.placements >>= λ staged. Ok a.0) r a.2 in
    let d = bind_ok (stages_judged c g 0 a.0.placements) (λ staged. Ok a.0) r b.2 in
    let same : a.0 ≡ r = same_content a.0 r d.2 in
    let p = chosen_ok (eqb a.0.group g && are_free taken (footprint a.0)) (Ok tt) (faults.BadRecord g) b.0 b.1 in
    let q = and_parts (eqb a.0.group g) (are_free taken (footprint a.0)) p.0 in
    let free = are_free-words taken (footprint a.0) q.1 in
    subst (λ (x : RecordValue). IsGroupInForm c taken g x) same (record {
      reads = read_ok g (record_in (c (record_path g))) a.0 a.1;
      number = eqb-true _ _ q.0;
      distinct = free.distinct;
      outside = free.outside;
      free = free.apart;
      stages = λ i p at. subst (λ (k : ℕ). IsStaged (c (stage_path g k)) p) (zero_plus i) (stages_words c g 0 a.0.placements (unit_ok _ d.0 d.1) i p at);
    })

-- a footprint that passed is free
pub free_if_passed : (taken : List (List ℕ)) (g : ℕ) (r : RecordValue) → paths_judged taken g r ≡ fine → are_free taken (footprint r) ≡ true
unfolding paths_judged
free_if_passed taken g r h =
    let p = chosen_ok (eqb r.group g && are_free taken (footprint r)) fine (faults.BadRecord g) tt h in
    (and_parts (eqb r.group g) (are_free taken (footprint r)) p.0).1

pub judged_if : (c : Map) (taken : List (List ℕ)) (g : ℕ) (r : RecordValue) → IsGroupInForm c taken g r → judged c taken g ≡ Ok r
unfolding record_read
judged_if c taken g r h =
    let read : record_read g (record_in (c (record_path g))) ≡ Ok r = ap (record_read g) h.reads in
    let free = paths_pass taken g r h.number (are_free-if taken (footprint r) (record { distinct = h.distinct; outside = h.outside; apart = h.free })) in
    judged_ok c taken g r read free (stages_if c g 0 r.placements (λ j p at. subst (λ (k : ℕ). IsStaged (c (stage_path g k)) p) (sym (zero_plus j)) (h.stages j p at)))

-- judging reads the record and the stages alone
stages_alike : (c d : Map) (g i : ℕ) (ps : List Placement) → ((k : ℕ) → c (stage_path g k) ≡ d (stage_path g k)) → stages_judged c g i ps ≡ stages_judged d g i ps
unfolding stages_judged
stages_alike c d g i [] h = refl
stages_alike c d g i (p ∷ ps) h = rw (h i, stages_alike c d g (suc i) ps h) refl

pub judged_alike : (c d : Map) (taken : List (List ℕ)) (g : ℕ) → c (record_path g) ≡ d (record_path g) → ((i : ℕ) → c (stage_path g i) ≡ d (stage_path g i)) → judged c taken g ≡ judged d taken g
unfolding judged
judged_alike c d taken g same stages = rw same (go (record_read g (record_in (d (record_path g)))))
  where
    go : (read : Result RecordValue JudgeFault) → (read >>= λ x. paths_judged taken g x >>= λ free. stages_judged c g 0 x.placements >>= λ staged. Ok x) ≡ (read >>= λ x. paths_judged taken g x >>= λ free. stages_judged d g 0 x.placements >>= λ staged. Ok x)
    go (Ok x) = rw (stages_alike c d g 0 x.placements stages) refl
    go (Err e) = refl

-- ---- records as they are judged, one after another

free_alone : (taken paths : List (List ℕ)) → are_free taken paths ≡ true → are_free [] paths ≡ true
free_alone taken paths free =
    let k = are_free-words taken paths free in
    are_free-if [] paths (record { distinct = k.distinct; outside = k.outside; apart = λ q has none. none })

pub applicable_more : (rs : List RecordValue) (r : RecordValue) (taken : List (List ℕ)) → AreApplicable rs → are_free taken (footprint r) ≡ true → length r.placements < 2 ^ 32 → AreApplicable (rs ++ r ∷ [])
applicable_more rs r taken all free few x has = elim (has-append_cases rs (r ∷ []) x has) [
  | inl had ↦ all x had
  | inr last ↦ elim last [
    | inl e ↦ subst (λ (y : RecordValue). (are_free [] (footprint y) ≡ true) × (length y.placements < 2 ^ 32)) e (free_alone taken (footprint r) free, few)
    | inr none ↦ absurd none
  ]
]
