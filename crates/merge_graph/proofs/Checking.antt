-- One edge, one mark more of what is checked.
use Rattle.std.proofs.Common.{◌≡◌, ◌≢◌, ◌∙◌, ◌<◌, ◌≤◌, ◌+◌, ◌⊎◌, ℕ, zero, suc, Bool, true, false, List, [], ◌∷◌, ap, arith, get_or, inl, inr, length, refl, replicate, set, subst, sym, take}
use Rattle.std.specs.Prelude.{slice_index, slice_index_or}
use Rattle.std.proofs.lemmas.Bool.{cases_eq, cases_lt, false≢true}
use Rattle.std.proofs.lemmas.List.{get_or-set_other, get_or-set_same, set_past, take_all, take_more}
use Rattle.basics.specs.Members.{Has}
use Rattle.basics.proofs.Membership.{has-append_cases, has-append_left, has-append_right}
use Rattle.merge_graph.specs.Certified.{AllFall, AreMarkedReached, AreOpened, HaveNumbers, first_of}
use Rattle.merge_graph.specs.Edges.{Goes, Reaches}
use Rattle.merge_graph.specs.Edges.Reaches.{goes, stays}
use Rattle.merge_graph.specs.declared.edge.Edge.{Edge}

-- what is among one more of a list was among them before, or is the one
pub has_more : {A : Type 0} (xs : List A) (i : ℕ) (d x : A) → i < length xs → Has (take (i + 1) xs) x → Has (take i xs) x ⊎ (get_or xs i d ≡ x)
has_more {A = A} xs i d x less h =
    let longer = take_more xs i d less in
    elim (has-append_cases (take i xs) (get_or xs i d ∷ []) x (subst (λ (l : List A). Has l x) longer h)) [
      | inl before ↦ inl before
      | inr (inl now) ↦ inr now
      | inr (inr none) ↦ absurd none
    ]

pub has_before : {A : Type 0} (xs : List A) (i : ℕ) (d x : A) → i < length xs → Has (take i xs) x → Has (take (i + 1) xs) x
has_before {A = A} xs i d x less h = subst (λ (l : List A). Has l x) (sym (take_more xs i d less)) (has-append_left (take i xs) (get_or xs i d ∷ []) x h)

pub has_last : {A : Type 0} (xs : List A) (i : ℕ) (d : A) → i < length xs → Has (take (i + 1) xs) (get_or xs i d)
has_last {A = A} xs i d less = subst (λ (l : List A). Has l (get_or xs i d)) (sym (take_more xs i d less)) (has-append_right (take i xs) (get_or xs i d ∷ []) (get_or xs i d) (inl refl))

pub falls_more : (numbers : List ℕ) (es : List Edge) (i : ℕ) (d : Edge) (from to : ℕ) → i < length es → AllFall numbers (take i es)
    → to ≡ slice_index numbers (get_or es i d).to → from ≡ slice_index numbers (get_or es i d).from → to ≤ from → AllFall numbers (take (i + 1) es)
falls_more numbers es i d from to less are is_to is_from one e h = elim (has_more es i d e less h) [
  | inl before ↦ are e before
  | inr now ↦ subst (λ (f : Edge). slice_index numbers f.to ≤ slice_index numbers f.from) now (omega (arith, is_to, is_from, one))
]

-- a way and one edge more
pub further : (es : List Edge) {x y z : ℕ} → Reaches es x y → Goes es y z → Reaches es x z
further es stays g = goes g stays
further es (goes f r) g = goes f (further es r g)

pub joined : (es : List Edge) {x y z : ℕ} → Reaches es x y → Reaches es y z → Reaches es x z
joined es stays r = r
joined es (goes f r) s = goes f (joined es r s)

marked_at : (marks : List Bool) (k x : ℕ) → slice_index_or (set marks k true) x false ≡ true → (x ≡ k) ⊎ (slice_index_or marks x false ≡ true)
marked_at marks k x on = elim (cases_eq x k) [
  | inl same ↦ inl same
  | inr apart ↦ inr (sym (get_or-set_other marks k x true false apart) ∙ on)
]

-- one mark more
pub marked_more : (numbers firsts : List ℕ) (es : List Edge) (marks : List Bool) (k : ℕ) → AreMarkedReached numbers firsts es marks
    → Reaches es (first_of numbers firsts k) k → AreMarkedReached numbers firsts es (set marks k true)
marked_more numbers firsts es marks k are one x on = elim (marked_at marks k x on) [
  | inl same ↦ subst (λ (n : ℕ). Reaches es (first_of numbers firsts n) n) (sym same) one
  | inr before ↦ are x before
]

pub none_marked : (numbers firsts : List ℕ) (es : List Edge) (n : ℕ) → AreMarkedReached numbers firsts es (replicate n false)
none_marked numbers firsts es n x on = absurd (false≢true (sym (none n x) ∙ on))
  where
    none : (n x : ℕ) → slice_index_or (replicate n false) x false ≡ false
    none zero x = refl
    none (suc n) zero = refl
    none (suc n) (suc x) = none n x

-- the first node of a number is reached from itself
pub first_reached : (numbers firsts : List ℕ) (es : List Edge) (k : ℕ) → HaveNumbers numbers firsts → k < length firsts
    → Reaches es (first_of numbers firsts (slice_index firsts k)) (slice_index firsts k)
first_reached numbers firsts es k have less =
    let same : first_of numbers firsts (slice_index firsts k) ≡ slice_index firsts k = ap (slice_index firsts) (have k less).1 in
    subst (λ (n : ℕ). Reaches es n (slice_index firsts k)) (sym same) stays

-- .. and a node behind an edge inside a component with the node before it
pub inside_reached : (numbers firsts : List ℕ) (es : List Edge) (e : Edge) → Has es e → slice_index numbers e.from ≡ slice_index numbers e.to
    → Reaches es (first_of numbers firsts e.from) e.from → Reaches es (first_of numbers firsts e.to) e.to
inside_reached numbers firsts es e has same r =
    subst (λ (n : ℕ). Reaches es (slice_index firsts n) e.to) same (further es r (e, has, refl, refl))

-- a number that waits is raised no higher than what it waits for asks
pub raised : (opened : List ℕ) (from to v : ℕ) → v ≤ to + 1 → (bound : ℕ) → to < bound → slice_index opened from ≤ bound → slice_index (set opened from v) from ≤ bound
raised opened from to v high bound below before = elim (cases_lt from (length opened)) [
  | inl within ↦ (
      let at : slice_index (set opened from v) from ≡ v = get_or-set_same opened from v 0 within in
      omega (arith, at, below, high)
      )
  | inr past ↦ (
      let at : slice_index (set opened from v) from ≡ slice_index opened from = ap (λ (l : List ℕ). slice_index l from) (set_past opened from v past) in
      omega (arith, at, before)
      )
]

-- one edge more that opens a number
pub opened_more : (numbers : List ℕ) (es : List Edge) (i : ℕ) (d : Edge) (old new : List ℕ) (from to : ℕ) → i < length es → AreOpened numbers (take i es) old
    → from ≡ slice_index numbers (get_or es i d).from → to ≡ slice_index numbers (get_or es i d).to
    → ((k : ℕ) → k ≢ from → slice_index new k ≡ slice_index old k)
    → ((bound : ℕ) → (from ≢ to → to < bound) → slice_index old from ≤ bound → slice_index new from ≤ bound)
    → AreOpened numbers (take (i + 1) es) new
opened_more numbers es i d old new from to less are is_from is_to others high k bound waits =
    let before : slice_index old k ≤ bound = are k bound (λ f h. waits f (has_before es i d f less h)) in
    elim (cases_eq k from) [
      | inl same ↦ subst (λ (n : ℕ). slice_index new n ≤ bound) (sym same)
          (high bound
          (λ apart. subst (λ (n : ℕ). n < bound) (sym is_to) (waits (get_or es i d) (has_last es i d less) (sym is_from ∙ sym same) (λ t. apart (sym same ∙ (sym t ∙ sym is_to)))))
          (subst (λ (n : ℕ). slice_index old n ≤ bound) same before))
      | inr other ↦ subst (λ (n : ℕ). n ≤ bound) (sym (others k other)) before
    ]

pub opened_all : (numbers : List ℕ) (es : List Edge) (i : ℕ) (opened : List ℕ) → length es ≤ i → AreOpened numbers (take i es) opened → AreOpened numbers es opened
opened_all numbers es i opened past are = subst (λ (fs : List Edge). AreOpened numbers fs opened) (take_all i es past) are

pub none_opened : (numbers : List ℕ) (n : ℕ) → AreOpened numbers [] (replicate n 0)
none_opened numbers n k bound waits = subst (λ (m : ℕ). m ≤ bound) (sym (none n k)) (omega arith)
  where
    none : (n x : ℕ) → slice_index (replicate n 0) x ≡ 0
    none zero x = refl
    none (suc n) zero = refl
    none (suc n) (suc x) = none n x
