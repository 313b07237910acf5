-- The packages that the keys of a run stand for, by their places.
use Rattle.std.proofs.Common.{◌≡◌, ◌∙◌, ◌<◌, ◌≤◌, ◌+◌, ◌-◌, ◌++◌, ℕ, zero, suc, List, [], ◌∷◌, Some, arith, drop, get_or, length, map, refl, ap, sym}
use Rattle.std.specs.Prelude.{slice_get}
use Rattle.std.proofs.lemmas.List.{length-map, map-append}
use Rattle.basics.proofs.Lists.{at_drop}
use Rattle.dep_atom.specs.declared.package.PackageId.{PackageId}
use Rattle.pkg_state.specs.Package.{Package}
use Rattle.plan_law.specs.Plans.{Group}
use Rattle.run_turns.specs.Plans.{coming}
use Rattle.emerge_run.specs.Collisions.{id_of_package}

slice_left : {A : Type 0} (xs ys : List A) (k : ℕ) → k < length xs → slice_get (xs ++ ys) k ≡ slice_get xs k
slice_left [] ys k lt = absurd (omega (arith, lt))
slice_left (x ∷ xs) ys zero lt = refl
slice_left (x ∷ xs) ys (suc k) lt = slice_left xs ys k (omega (arith, lt))

slice_right : {A : Type 0} (xs ys : List A) (k : ℕ) → length xs ≤ k → slice_get (xs ++ ys) k ≡ slice_get ys (k - length xs)
slice_right [] ys k le = let e : k ≡ k - 0 = omega arith in ap (slice_get ys) e
slice_right (x ∷ xs) ys zero le = absurd (omega (arith, le))
slice_right (x ∷ xs) ys (suc k) le =
    let e : k - length xs ≡ suc k - suc (length xs) = omega arith in
    slice_right xs ys k (omega (arith, le)) ∙ ap (slice_get ys) e

-- what is read at a place of a list, by what is made of each element
mapped_at : {A B : Type 0} (f : A → B) (xs : List A) (k : ℕ) (x : A) → k < length xs → x ≡ get_or xs k x → slice_get (map f xs) k ≡ Some (f x)
mapped_at f [] k x lt is = absurd (omega (arith, lt))
mapped_at f (y ∷ ys) zero x lt is = ap (λ z. Some (f z)) (sym is)
mapped_at f (y ∷ ys) (suc k) x lt is = mapped_at f ys k x (omega (arith, lt)) is

abbrev ids : List Package → List PackageId
ids ps = map id_of_package ps

-- an addition of the group that is looked at
pub comes_here : (plan : List Group) (i : ℕ) (g : Group) (k : ℕ) (p : Package) → i < length plan → g ≡ get_or plan i g → k < length g.additions → p ≡ get_or g.additions k p → slice_get (ids (coming (drop i plan))) k ≡ Some p.facts.id
comes_here plan i g k p lt is here at =
    let within : k < length (ids g.additions) = omega (arith, here, length-map g.additions id_of_package) in
    ap (λ (gs : List Group). slice_get (ids (coming gs)) k) (at_drop plan i g lt is)
    ∙ (ap (λ (l : List PackageId). slice_get l k) (map-append id_of_package g.additions (coming (drop (i + 1) plan)))
    ∙ (slice_left (ids g.additions) (ids (coming (drop (i + 1) plan))) k within
    ∙ mapped_at id_of_package g.additions k p here at))

-- .. or one of a later group
pub comes_later : (plan : List Group) (i : ℕ) (g : Group) (k : ℕ) → i < length plan → g ≡ get_or plan i g → length g.additions ≤ k → slice_get (ids (coming (drop i plan))) k ≡ slice_get (ids (coming (drop (i + 1) plan))) (k - length g.additions)
comes_later plan i g k lt is past =
    let within : length (ids g.additions) ≤ k = omega (arith, past, length-map g.additions id_of_package) in
    ap (λ (gs : List Group). slice_get (ids (coming gs)) k) (at_drop plan i g lt is)
    ∙ (ap (λ (l : List PackageId). slice_get l k) (map-append id_of_package g.additions (coming (drop (i + 1) plan)))
    ∙ (slice_right (ids g.additions) (ids (coming (drop (i + 1) plan))) k within
    ∙ ap (λ (n : ℕ). slice_get (ids (coming (drop (i + 1) plan))) (k - n)) (length-map g.additions id_of_package)))
