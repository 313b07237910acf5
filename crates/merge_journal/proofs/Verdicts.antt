-- Verdicts on the stages, one after the other.
use Rattle.std.proofs.Common.{◌≡◌, ◌<◌, ◌≤◌, ◌+◌, ℕ, suc, Bool, true, false, cond, List, [], ◌∷◌, ◌++◌, eqb, ◌&&◌, append_assoc, eq-eqb, length, map, get_or, drop, Result, Ok, Err, refl, sym, ap, subst, ◌∙◌, add-one}
use Rattle.std.proofs.Math.Seq.{drop-cons}
use Rattle.std.specs.Bool.{OnTrue}
use Rattle.std.proofs.lemmas.Bool.{ne_eqb}
use Rattle.std.proofs.lemmas.List.{drop_all, append-nil, drop_more}
use Rattle.file_tree.specs.Disk.{Map, Story}
use Rattle.merge_record.specs.RecordValue.{RecordValue}
use Rattle.merge_journal.proofs.Free.{are_free-same, both_walks, first_stops, has_same-append, has_same-swap, on_true, second_decides}
use Rattle.merge_journal.specs.Judging.{◌>>=◌, Misses, are_free, footprint, is_staged, judged, judged_all, paths_judged, record_in, record_read, path_of, stages_judged}
use Rattle.file_tree.specs.PathSets.{HasSame}
use Rattle.merge_journal.specs.Names.{record_path, stage_path}
use Rattle.merge_journal.specs.declared.fault.JudgeFault.{JudgeFault}
use Rattle.merge_journal.specs.declared.fault.JudgeFault.TheVariants as faults
use Rattle.merge_record.specs.declared.record.Placement.{Placement}

next_placement : (ps : List Placement) (i : ℕ) (p : Placement) → i < length ps → p ≡ get_or ps i p → drop i ps ≡ p ∷ drop (i + 1) ps
next_placement ps i p lt at = rw add-one (drop-cons ps i p lt ∙ ap (λ (x : Placement). x ∷ drop (suc i) ps) (sym at))

abbrev pub fine : Result (Unit {0}) JudgeFault
fine = Ok tt

one_on : (b : Bool) (rest : Result (Unit {0}) JudgeFault) (e : JudgeFault) → cond b fine (Err e) ≡ fine → cond b rest (Err e) ≡ rest
one_on true rest e h = refl
one_on false rest e h = absurd cc

one_stops : (b : Bool) (rest : Result (Unit {0}) JudgeFault) (e f : JudgeFault) → Misses f (cond b fine (Err e)) → Misses f (cond b rest (Err e))
one_stops b rest e (faults.Tree of) h = tt
one_stops true rest e (faults.BadRecord g) h = absurd cc
one_stops true rest e (faults.BadStage g i) h = absurd cc
one_stops false rest e (faults.BadRecord g) h = h
one_stops false rest e (faults.BadStage g i) h = h

pub stages_step : (c : Map) (g i : ℕ) (ps : List Placement) (p : Placement) → i < length ps → p ≡ get_or ps i p → stages_judged c g i (p ∷ []) ≡ fine → stages_judged c g i (drop i ps) ≡ stages_judged c g (i + 1) (drop (i + 1) ps)
unfolding stages_judged
stages_step c g i ps p lt at one =
    ap (stages_judged c g i) (next_placement ps i p lt at)
    ∙ one_on (is_staged (c (stage_path g i)) p) (stages_judged c g (suc i) (drop (i + 1) ps)) (faults.BadStage g i) one
    ∙ ap (λ (k : ℕ). stages_judged c g k (drop (i + 1) ps)) (sym (add-one i))

pub stages_stop : (c : Map) (g i : ℕ) (ps : List Placement) (p : Placement) (e : JudgeFault) → i < length ps → p ≡ get_or ps i p → Misses e (stages_judged c g i (p ∷ [])) → Misses e (stages_judged c g i (drop i ps))
unfolding stages_judged
stages_stop c g i ps p e lt at one =
    subst (λ (qs : List Placement). Misses e (stages_judged c g i qs)) (sym (next_placement ps i p lt at))
    (one_stops (is_staged (c (stage_path g i)) p) (stages_judged c g (suc i) (drop (i + 1) ps)) (faults.BadStage g i) e one)

pub stages_end : (c : Map) (g i : ℕ) (ps : List Placement) → length ps ≤ i → stages_judged c g i (drop i ps) ≡ fine
unfolding stages_judged
stages_end c g i ps le = ap (stages_judged c g i) (drop_all i ps le)

-- ---- the paths

pub number_stops : (taken : List (List ℕ)) (g : ℕ) (r : RecordValue) → (r.group ≡ g → ⊥) → paths_judged taken g r ≡ Err (faults.BadRecord g)
unfolding paths_judged
number_stops taken g r h = rw (ne_eqb r.group g h) refl

pub paths_stop : (taken : List (List ℕ)) (g : ℕ) (r : RecordValue) → are_free taken (footprint r) ≡ false → paths_judged taken g r ≡ Err (faults.BadRecord g)
unfolding paths_judged
paths_stop taken g r h = go (eqb r.group g)
  where
    go : (b : Bool) → cond (b && are_free taken (footprint r)) fine (Err (faults.BadRecord g)) ≡ Err (faults.BadRecord g)
    go true = rw h refl
    go false = refl

pub paths_pass : (taken : List (List ℕ)) (g : ℕ) (r : RecordValue) → r.group ≡ g → are_free taken (footprint r) ≡ true → paths_judged taken g r ≡ fine
unfolding paths_judged
paths_pass taken g r same h = rw (eq-eqb r.group g same, h) refl

-- ---- one group

pub misses_bind : {A B : Type 0} (e : JudgeFault) (r : Result A JudgeFault) (f : A → Result B JudgeFault) → Misses e r → Misses e (r >>= f)
misses_bind (faults.Tree of) r f h = tt
misses_bind (faults.BadRecord g) r f h = rw h refl
misses_bind (faults.BadStage g i) r f h = rw h refl

pub bind_is : {A B : Type 0} (r : Result A JudgeFault) (x : A) (f : A → Result B JudgeFault) → r ≡ Ok x → (r >>= f) ≡ f x
bind_is (Ok y) x f e = let same : y ≡ x = cc in ap f same
bind_is (Err d) x f e = absurd cc

judged_read : (c : Map) (taken : List (List ℕ)) (g : ℕ) (r : RecordValue) → record_read g (record_in (c (record_path g))) ≡ Ok r
    → judged c taken g ≡ (paths_judged taken g r >>= λ free. stages_judged c g 0 r.placements >>= λ staged. Ok r)
unfolding judged
judged_read c taken g r h = bind_is (record_read g (record_in (c (record_path g)))) r (λ x. paths_judged taken g x >>= λ free. stages_judged c g 0 x.placements >>= λ staged. Ok x) h

judged_free : (c : Map) (taken : List (List ℕ)) (g : ℕ) (r : RecordValue) → record_read g (record_in (c (record_path g))) ≡ Ok r → paths_judged taken g r ≡ fine
    → judged c taken g ≡ (stages_judged c g 0 r.placements >>= λ staged. Ok r)
judged_free c taken g r read free = judged_read c taken g r read ∙ bind_is (paths_judged taken g r) tt (λ x. stages_judged c g 0 r.placements >>= λ staged. Ok r) free

pub read_misses : (c : Map) (taken : List (List ℕ)) (g : ℕ) (e : JudgeFault) → Misses e (record_read g (record_in (c (record_path g)))) → Misses e (judged c taken g)
unfolding judged
read_misses c taken g e h = misses_bind e (record_read g (record_in (c (record_path g)))) (λ x. paths_judged taken g x >>= λ free. stages_judged c g 0 x.placements >>= λ staged. Ok x) h

pub paths_miss : (c : Map) (taken : List (List ℕ)) (g : ℕ) (r : RecordValue) (e : JudgeFault) → record_read g (record_in (c (record_path g))) ≡ Ok r → Misses e (paths_judged taken g r) → Misses e (judged c taken g)
paths_miss c taken g r e read h =
    subst (λ (v : Result RecordValue JudgeFault). Misses e v) (sym (judged_read c taken g r read)) (misses_bind e (paths_judged taken g r) (λ free. stages_judged c g 0 r.placements >>= λ staged. Ok r) h)

pub stages_miss : (c : Map) (taken : List (List ℕ)) (g : ℕ) (r : RecordValue) (e : JudgeFault) → record_read g (record_in (c (record_path g))) ≡ Ok r → paths_judged taken g r ≡ fine → Misses e (stages_judged c g 0 r.placements) → Misses e (judged c taken g)
stages_miss c taken g r e read free h =
    subst (λ (v : Result RecordValue JudgeFault). Misses e v) (sym (judged_free c taken g r read free)) (misses_bind e (stages_judged c g 0 r.placements) (λ staged. Ok r) h)

pub judged_ok : (c : Map) (taken : List (List ℕ)) (g : ℕ) (r : RecordValue) → record_read g (record_in (c (record_path g))) ≡ Ok r → paths_judged taken g r ≡ fine → stages_judged c g 0 r.placements ≡ fine → judged c taken g ≡ Ok r
judged_ok c taken g r read free staged = judged_free c taken g r read free ∙ bind_is (stages_judged c g 0 r.placements) tt (λ x. Ok r) staged

-- ---- all groups

paths_judged-same : (a b : List (List ℕ)) (g : ℕ) (r : RecordValue) → HasSame a b → paths_judged a g r ≡ paths_judged b g r
unfolding paths_judged
paths_judged-same a b g r h = rw (are_free-same a b (footprint r) h) refl

judged-same : (c : Map) (a b : List (List ℕ)) (g : ℕ) → HasSame a b → judged c a g ≡ judged c b g
unfolding judged
judged-same c a b g h = go (record_read g (record_in (c (record_path g))))
  where
    go : (read : Result RecordValue JudgeFault) → (read >>= λ x. paths_judged a g x >>= λ free. stages_judged c g 0 x.placements >>= λ staged. Ok x) ≡ (read >>= λ x. paths_judged b g x >>= λ free. stages_judged c g 0 x.placements >>= λ staged. Ok x)
    go (Ok x) = rw (paths_judged-same a b g x h) refl
    go (Err e) = refl

-- ---- over a story that stays

pub stages_err : (s t : Story) (g i : ℕ) (ps : List Placement) (p : Placement) (e : JudgeFault) → t ≡ s → i < length ps → p ≡ get_or ps i p → Misses e (stages_judged t.now.holds g i (p ∷ []))
    → stages_judged s.now.holds g 0 ps ≡ stages_judged s.now.holds g i (drop i ps) → Misses e (stages_judged s.now.holds g 0 ps)
stages_err s t g i ps p e same lt at one so_far =
    subst (λ (v : Result (Unit {0}) JudgeFault). Misses e v) (sym so_far) (stages_stop s.now.holds g i ps p e lt at (subst (λ (x : Story). Misses e (stages_judged x.now.holds g i (p ∷ []))) same one))

pub stages_on : (s t : Story) (g i : ℕ) (ps : List Placement) (p : Placement) → t ≡ s → i < length ps → p ≡ get_or ps i p → stages_judged t.now.holds g i (p ∷ []) ≡ fine
    → stages_judged s.now.holds g 0 ps ≡ stages_judged s.now.holds g i (drop i ps) → stages_judged s.now.holds g 0 ps ≡ stages_judged s.now.holds g (i + 1) (drop (i + 1) ps)
stages_on s t g i ps p same lt at one so_far =
    so_far ∙ stages_step s.now.holds g i ps p lt at (subst (λ (x : Story). stages_judged x.now.holds g i (p ∷ []) ≡ fine) same one)

abbrev pub ok_all : List RecordValue → Result (List RecordValue) JudgeFault
ok_all rs = Ok rs

-- the records before a group, and those from it on
abbrev pub with_front : List RecordValue → Result (List RecordValue) JudgeFault → Result (List RecordValue) JudgeFault
with_front front read = read >>= λ rs. Ok (front ++ rs)

all_bind-same : (c : Map) (a b : List (List ℕ)) (gs : List ℕ) (verdict : Result RecordValue JudgeFault) → ((r : RecordValue) → judged_all c (a ++ footprint r) gs ≡ judged_all c (b ++ footprint r) gs)
    → (verdict >>= λ r. judged_all c (a ++ footprint r) gs >>= λ rs. Ok (r ∷ rs)) ≡ (verdict >>= λ r. judged_all c (b ++ footprint r) gs >>= λ rs. Ok (r ∷ rs))
all_bind-same c a b gs (Ok r) h = rw (h r) refl
all_bind-same c a b gs (Err e) h = refl

pub judged_all-same : (c : Map) (a b : List (List ℕ)) (gs : List ℕ) → HasSame a b → judged_all c a gs ≡ judged_all c b gs
unfolding judged_all
judged_all-same c a b [] h = refl
judged_all-same c a b (g ∷ gs) h =
    rw (judged-same c a b g h) (all_bind-same c a b gs (judged c b g) (λ r. judged_all-same c (a ++ footprint r) (b ++ footprint r) gs (has_same-append a b (footprint r) h)))

regroup : (front : List RecordValue) (r : RecordValue) (read : Result (List RecordValue) JudgeFault) → with_front front (read >>= λ rs. Ok (r ∷ rs)) ≡ with_front (front ++ r ∷ []) read
regroup front r (Ok rs) = ap (λ (xs : List RecordValue). ok_all xs) (sym (append_assoc front (r ∷ []) rs))
regroup front r (Err e) = refl

pub all_err : (s t : Story) (taken : List (List ℕ)) (gs : List ℕ) (i : ℕ) (front : List RecordValue) (e : JudgeFault) (total : Result (List RecordValue) JudgeFault) → t ≡ s → i < length gs → Misses e (judged t.now.holds taken (get_or gs i 0))
    → with_front front (judged_all s.now.holds taken (drop i gs)) ≡ total → Misses e total
unfolding judged_all
all_err s t taken gs i front e total same lt h so_far =
    let c = s.now.holds in
    let g = get_or gs i 0 in
    let here : Misses e (judged c taken g) = subst (λ (x : Story). Misses e (judged x.now.holds taken g)) same h in
    let next = λ (r : RecordValue). judged_all c (taken ++ footprint r) (drop (i + 1) gs) >>= λ rs. ok_all (r ∷ rs) in
    let both = misses_bind e (judged c taken g >>= next) (λ rs. ok_all (front ++ rs)) (misses_bind e (judged c taken g) next here) in
    subst (λ (v : Result (List RecordValue) JudgeFault). Misses e v) (ap (λ (xs : List ℕ). with_front front (judged_all c taken xs)) (sym (drop_more gs i 0 lt)) ∙ so_far) both

pub all_on : (s t : Story) (taken new : List (List ℕ)) (gs : List ℕ) (i : ℕ) (front : List RecordValue) (r : RecordValue) (total : Result (List RecordValue) JudgeFault) → t ≡ s → i < length gs → judged t.now.holds taken (get_or gs i 0) ≡ Ok r
    → HasSame new (footprint r ++ taken) → with_front front (judged_all s.now.holds taken (drop i gs)) ≡ total → with_front (front ++ r ∷ []) (judged_all s.now.holds new (drop (i + 1) gs)) ≡ total
unfolding judged_all
all_on s t taken new gs i front r total same lt h more so_far =
    let c = s.now.holds in
    let rest = drop (i + 1) gs in
    let here : judged c taken (get_or gs i 0) ≡ Ok r = subst (λ (x : Story). judged x.now.holds taken (get_or gs i 0) ≡ Ok r) same h in
    let members : HasSame new (taken ++ footprint r) = λ q. more q ∙ has_same-swap (footprint r) taken q in
    let step : judged_all c taken (get_or gs i 0 ∷ rest) ≡ (judged_all c new rest >>= λ rs. ok_all (r ∷ rs)) =
    bind_is (judged c taken (get_or gs i 0)) r (λ x. judged_all c (taken ++ footprint x) rest >>= λ rs. ok_all (x ∷ rs)) here
    ∙ ap (λ (v : Result (List RecordValue) JudgeFault). v >>= λ rs. ok_all (r ∷ rs)) (sym (judged_all-same c new (taken ++ footprint r) rest members)) in
    sym (regroup front r (judged_all c new rest)) ∙ ap (λ (v : Result (List RecordValue) JudgeFault). with_front front v) (sym step) ∙ ap (λ (xs : List ℕ). with_front front (judged_all c taken xs)) (sym (drop_more gs i 0 lt)) ∙ so_far

pub all_end : (c : Map) (taken : List (List ℕ)) (gs : List ℕ) (i : ℕ) (front : List RecordValue) (total : Result (List RecordValue) JudgeFault) → length gs ≤ i → with_front front (judged_all c taken (drop i gs)) ≡ total → total ≡ Ok front
unfolding judged_all
all_end c taken gs i front total le so_far =
    sym so_far ∙ ap (λ (xs : List ℕ). with_front front (judged_all c taken xs)) (drop_all i gs le) ∙ ap (λ (xs : List RecordValue). ok_all xs) (append-nil front)

-- ---- the footprint, as two walks give it

pub removals_stop : (old : List (List ℕ)) (g : ℕ) (r : RecordValue) (xs : List (List ℕ)) (b : Bool) → xs ≡ r.removals → b ≡ are_free old xs → b ≡ false → paths_judged old g r ≡ Err (faults.BadRecord g)
removals_stop old g r xs b same h stops =
    paths_stop old g r (first_stops old r.removals (map path_of r.placements) (ap (are_free old) (sym same) ∙ sym h ∙ stops))

pub placements_stop : (old mid : List (List ℕ)) (g : ℕ) (r : RecordValue) (xs : List (List ℕ)) (ys : List Placement) (a b : Bool) → xs ≡ r.removals → ys ≡ r.placements
    → a ≡ are_free old xs → OnTrue a (HasSame mid (xs ++ old)) → a ≡ true → b ≡ are_free mid (map path_of ys) → b ≡ false → paths_judged old g r ≡ Err (faults.BadRecord g)
placements_stop old mid g r xs ys a b same_xs same_ys h members goes k stops =
    let free : are_free old r.removals ≡ true = ap (are_free old) (sym same_xs) ∙ sym h ∙ goes in
    let m : HasSame mid (r.removals ++ old) = subst (λ (t : List (List ℕ)). HasSame mid (t ++ old)) same_xs (on_true a (HasSame mid (xs ++ old)) goes members) in
    paths_stop old g r (second_decides old mid r.removals (map path_of r.placements) m free ∙ ap (λ (t : List Placement). are_free mid (map path_of t)) (sym same_ys) ∙ sym k ∙ stops)

pub footprint_pass : (old mid : List (List ℕ)) (g : ℕ) (r : RecordValue) (xs : List (List ℕ)) (ys : List Placement) (a b : Bool) → xs ≡ r.removals → ys ≡ r.placements → r.group ≡ g
    → a ≡ are_free old xs → OnTrue a (HasSame mid (xs ++ old)) → a ≡ true → b ≡ are_free mid (map path_of ys) → b ≡ true → paths_judged old g r ≡ fine
footprint_pass old mid g r xs ys a b same_xs same_ys number h members goes k passes =
    let free : are_free old r.removals ≡ true = ap (are_free old) (sym same_xs) ∙ sym h ∙ goes in
    let m : HasSame mid (r.removals ++ old) = subst (λ (t : List (List ℕ)). HasSame mid (t ++ old)) same_xs (on_true a (HasSame mid (xs ++ old)) goes members) in
    paths_pass old g r number (second_decides old mid r.removals (map path_of r.placements) m free ∙ ap (λ (t : List Placement). are_free mid (map path_of t)) (sym same_ys) ∙ sym k ∙ passes)

pub footprint_taken : (old mid new : List (List ℕ)) (r : RecordValue) (xs : List (List ℕ)) (ys : List Placement) (a b : Bool) → xs ≡ r.removals → ys ≡ r.placements
    → OnTrue a (HasSame mid (xs ++ old)) → a ≡ true → OnTrue b (HasSame new (map path_of ys ++ mid)) → b ≡ true → HasSame new (footprint r ++ old)
footprint_taken old mid new r xs ys a b same_xs same_ys first goes second passes =
    let m = subst (λ (t : List (List ℕ)). HasSame mid (t ++ old)) same_xs (on_true a (HasSame mid (xs ++ old)) goes first) in
    let n = subst (λ (t : List Placement). HasSame new (map path_of t ++ mid)) same_ys (on_true b (HasSame new (map path_of ys ++ mid)) passes second) in
    both_walks old mid new r.removals (map path_of r.placements) m n

-- ---- one group over a story that stays

pub stages_miss_at : (s t : Story) (taken : List (List ℕ)) (g : ℕ) (r : RecordValue) (ps : List Placement) (e : JudgeFault) → t ≡ s → ps ≡ r.placements
    → record_read g (record_in (s.now.holds (record_path g))) ≡ Ok r → paths_judged taken g r ≡ fine → Misses e (stages_judged t.now.holds g 0 ps) → Misses e (judged s.now.holds taken g)
stages_miss_at s t taken g r ps e same same_ps read free h =
    stages_miss s.now.holds taken g r e read free (subst (λ (x : Story). Misses e (stages_judged x.now.holds g 0 r.placements)) same (subst (λ (x : List Placement). Misses e (stages_judged t.now.holds g 0 x)) same_ps h))

pub judged_at : (s t : Story) (taken : List (List ℕ)) (g : ℕ) (r : RecordValue) (ps : List Placement) → t ≡ s → ps ≡ r.placements
    → record_read g (record_in (s.now.holds (record_path g))) ≡ Ok r → paths_judged taken g r ≡ fine → stages_judged t.now.holds g 0 ps ≡ fine → judged s.now.holds taken g ≡ Ok r
judged_at s t taken g r ps same same_ps read free h =
    judged_ok s.now.holds taken g r read free (subst (λ (x : Story). stages_judged x.now.holds g 0 r.placements ≡ fine) same (subst (λ (x : List Placement). stages_judged t.now.holds g 0 x ≡ fine) same_ps h))
