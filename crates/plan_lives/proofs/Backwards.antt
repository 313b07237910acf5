-- Lives are listed from the last group back, with the next clearing of each line at hand.
use Rattle.std.proofs.Common.{◌≡◌, ◌<◌, ◌+◌, ◌∙◌, ◌||◌, ℕ, Bool, true, false, cond, List, [], ◌∷◌, ◌++◌, Option, Some, bytes_eq, get_or, length, map, refl, sym, ap, take}
use Rattle.std.specs.Prelude.{reverse}
use Rattle.std.specs.BTreeMap.{is_at}
use Rattle.std.specs.Cmp.Lexicographic.{slice_cmp}
use Rattle.std.specs.List.{list_any}
use Rattle.std.specs.Ordering.{nat_cmp}
use Rattle.std.proofs.lemmas.List.{map-append, reverse-append}
use Rattle.std.proofs.lemmas.List.Folds.{list_any_more}
use Rattle.std.proofs.lemmas.Map.Text.{is_eq-slice_cmp}
use Rattle.pkg_state.specs.Package.{Package, line_of}
use Rattle.plan_law.specs.Plans.{Group, Removal, clears, removed_line}
use Rattle.plan_law.specs.Lives.{Life, Moment, commit}
use Rattle.plan_lives.specs.Clearings.{AreClearings, life_at, moment_at, place_at}
use Rattle.plan_lives.specs.Lives.{life, lives_behind}

abbrev Places : Type 0
Places = List (List ℕ × ℕ)

-- the lives by what stands at the lines are those where the groups are left
pub lives_at : (birth : Moment) (rest : List Group) (g : ℕ) (places : Places) (ps : List Package) → AreClearings rest g places → map (life_at birth places) ps ≡ map (life birth rest g) ps
lives_at birth rest g places [] are = refl
lives_at birth rest g places (p ∷ ps) are =
    ap (λ (d : Moment). record { package_is = p; birth = birth; death = d } ∷ map (life_at birth places) ps) (are (line_of p.facts))
    ∙ ap (λ (xs : List Life). life birth rest g p ∷ xs) (lives_at birth rest g places ps are)

noted : (b : Bool) (g : ℕ) (old : Option ℕ) → moment_at (cond b (Some g) old) ≡ cond b (commit g) (moment_at old)
noted true g old = refl
noted false g old = refl

-- one group more, before the others
pub clearings_more : (group : Group) (rest : List Group) (g : ℕ) (old new : Places) → AreClearings rest (g + 1) old
    → ((line : List ℕ) → place_at new line ≡ cond (clears group line) (Some g) (place_at old line)) → AreClearings (group ∷ rest) g new
clearings_more group rest g old new are changed line =
    ap moment_at (changed line) ∙ (noted (clears group line) g (place_at old line) ∙ ap (cond (clears group line) (commit g)) (are line))

-- the lives of one group more, before the others
pub behind_more : (group : Group) (rest : List Group) (g : ℕ) (places : Places) (now before : List Life) → AreClearings rest (g + 1) places → before ≡ lives_behind rest (g + 1)
    → now ≡ map (life_at (commit g) places) group.additions ++ before → now ≡ lives_behind (group ∷ rest) g
behind_more group rest g places now before are is e =
    e ∙ (ap (λ (xs : List Life). xs ++ before) (lives_at (commit g) rest (g + 1) places group.additions are)
    ∙ ap (λ (xs : List Life). map (life (commit g) rest (g + 1)) group.additions ++ xs) is)

either : {A : Type 0} (a b : Bool) (x y : A) → cond b x (cond a x y) ≡ cond (a || b) x y
either true true x y = refl
either true false x y = refl
either false b x y = refl

-- one removal more is noted
pub noted_more : (rs : List Removal) (i : ℕ) (r : Removal) (l : List ℕ) (g : ℕ) (first old new : Places) → i < length rs → r ≡ get_or rs i r → l ≡ removed_line r
    → ((line : List ℕ) → place_at old line ≡ cond (list_any (λ x. bytes_eq (removed_line x) line) (take i rs)) (Some g) (place_at first line))
    → ((line : List ℕ) → place_at new line ≡ cond (is_at (slice_cmp nat_cmp l) line) (Some g) (place_at old line))
    → (line : List ℕ) → place_at new line ≡ cond (list_any (λ x. bytes_eq (removed_line x) line) (take (i + 1) rs)) (Some g) (place_at first line)
noted_more rs i r l g first old new lt is own so_far changed line =
    let f : Removal → Bool = λ x. bytes_eq (removed_line x) line in
    let here : is_at (slice_cmp nat_cmp l) line ≡ f (get_or rs i r) = is_eq-slice_cmp l line ∙ (ap (λ (k : List ℕ). bytes_eq k line) own ∙ ap f is) in
    changed line ∙ (ap (λ (b : Bool). cond b (Some g) (place_at old line)) here
    ∙ (ap (cond (f (get_or rs i r)) (Some g)) (so_far line)
    ∙ (either (list_any f (take i rs)) (f (get_or rs i r)) (Some g) (place_at first line)
    ∙ ap (λ (b : Bool). cond b (Some g) (place_at first line)) (sym (list_any_more f rs i r lt)))))

pub map_reverse : {A B : Type 0} (f : A → B) (xs : List A) → map f (reverse xs) ≡ reverse (map f xs)
map_reverse f [] = refl
map_reverse f (x ∷ xs) = ap (map f) (reverse-append (x ∷ []) xs) ∙ (map-append f (reverse xs) (x ∷ []) ∙ (ap (λ ys. ys ++ f x ∷ []) (map_reverse f xs) ∙ sym (reverse-append (f x ∷ []) (map f xs))))
