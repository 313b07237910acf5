-- Which paths are free, one after the other.
use Rattle.std.proofs.Common.{◌≡◌, ◌<◌, ◌≤◌, ◌+◌, ◌&&◌, ◌||◌, ℕ, zero, suc, Bool, length, map, get_or, take, drop, subst, arith, add-one, append_assoc, true, false, List, [], ◌∷◌, ◌++◌, refl, sym, ap, ◌∙◌}
use Rattle.std.specs.Prelude.{bytes_eq}
use Rattle.std.specs.Bool.{OnTrue}
use Rattle.std.proofs.lemmas.List.{take_more, drop_all, take_all}
use Rattle.std.proofs.Math.Seq.{drop-cons}
use Rattle.std.proofs.Math.Bool.{or_comm}
use Rattle.basics.proofs.Tests.{or-assoc}
use Rattle.merge_record.specs.declared.record.Placement.{Placement}
use Rattle.merge_journal.specs.Judging.{path_of, are_free, is_free}
use Rattle.file_tree.specs.PathSets.{HasSame, is_in}
use Rattle.file_tree.proofs.PathSets.{is_in-append}

or_swap : (a b c : Bool) → a || (b || c) ≡ b || (a || c)
or_swap true true c = refl
or_swap true false c = refl
or_swap false b c = refl

has_same-cons : (p : List ℕ) (a b : List (List ℕ)) → HasSame a b → HasSame (p ∷ a) (p ∷ b)
has_same-cons p a b h q = ap (λ (x : Bool). bytes_eq q p || x) (h q)

-- a path behind others stands among them as in front
pub has_same-behind : (p : List ℕ) (xs t : List (List ℕ)) → HasSame (xs ++ p ∷ t) (p ∷ (xs ++ t))
has_same-behind p [] t q = refl
has_same-behind p (x ∷ xs) t q = ap (λ (b : Bool). bytes_eq q x || b) (has_same-behind p xs t q) ∙ or_swap (bytes_eq q x) (bytes_eq q p) (is_in (xs ++ t) q)

pub are_free-same : (a b ps : List (List ℕ)) → HasSame a b → are_free a ps ≡ are_free b ps
unfolding are_free
are_free-same a b [] h = refl
are_free-same a b (p ∷ ps) h = rw (h p, are_free-same (p ∷ a) (p ∷ b) ps (has_same-cons p a b h)) refl

pub are_free-append : (t xs ys u : List (List ℕ)) → HasSame u (xs ++ t) → are_free t (xs ++ ys) ≡ are_free t xs && are_free u ys
unfolding are_free
are_free-append t [] ys u h = are_free-same t u ys (λ q. sym (h q))
are_free-append t (x ∷ xs) ys u h =
    let same : HasSame u (xs ++ x ∷ t) = λ q. h q ∙ sym (has_same-behind x xs t q) in
    rw (are_free-append (x ∷ t) xs ys u same) (and_assoc (is_free t x) (are_free (x ∷ t) xs) (are_free u ys))
  where
    and_assoc : (a b c : Bool) → a && (b && c) ≡ (a && b) && c
    and_assoc true b c = refl
    and_assoc false b c = refl

-- ---- a walk over paths, each of which is taken

pub record Walk (old taken paths : List (List ℕ)) (i : ℕ) : Type 0 where
  pub free : are_free old paths ≡ are_free taken (drop i paths)
  pub members : HasSame taken (take i paths ++ old)

next_path : (paths : List (List ℕ)) (i : ℕ) (p : List ℕ) → i < length paths → p ≡ get_or paths i p → drop i paths ≡ p ∷ drop (i + 1) paths
next_path paths i p lt at = rw add-one (drop-cons paths i p lt ∙ ap (λ (x : List ℕ). x ∷ drop (suc i) paths) (sym at))

pub walk_start : (old paths : List (List ℕ)) → Walk old old paths 0
walk_start old paths = record { free = refl; members = λ q. refl }

pub walk_step : (old taken new paths : List (List ℕ)) (i : ℕ) (p : List ℕ) → i < length paths → p ≡ get_or paths i p → is_free taken p ≡ true → HasSame new (p ∷ taken) → Walk old taken paths i → Walk old new paths (i + 1)
unfolding are_free
walk_step old taken new paths i p lt at free more walk =
    let rest = drop (i + 1) paths in
    let one : are_free taken (p ∷ rest) ≡ are_free new rest = rw free (sym (are_free-same new (p ∷ taken) rest more)) in
    let front : take (i + 1) paths ++ old ≡ take i paths ++ p ∷ old = ap (λ (t : List (List ℕ)). t ++ old) (take_more paths i p lt ∙ ap (λ (x : List ℕ). take i paths ++ x ∷ []) (sym at)) ∙ append_assoc (take i paths) (p ∷ []) old in
    record {
      free = walk.free ∙ ap (are_free taken) (next_path paths i p lt at) ∙ one;
      members = λ q. more q ∙ has_same-cons p taken (take i paths ++ old) walk.members q ∙ sym (has_same-behind p (take i paths) old q) ∙ ap (λ (t : List (List ℕ)). is_in t q) (sym front);
    }

pub walk_stop : (old taken paths : List (List ℕ)) (i : ℕ) (p : List ℕ) → i < length paths → p ≡ get_or paths i p → is_free taken p ≡ false → Walk old taken paths i → are_free old paths ≡ false
unfolding are_free
walk_stop old taken paths i p lt at free walk = walk.free ∙ ap (are_free taken) (next_path paths i p lt at) ∙ rw free refl

pub walk_end : (old taken paths : List (List ℕ)) (i : ℕ) → length paths ≤ i → Walk old taken paths i → (are_free old paths ≡ true) × HasSame taken (paths ++ old)
unfolding are_free
walk_end old taken paths i le walk =
    let none : drop i paths ≡ [] = drop_all i paths le in
    let all : take i paths ≡ paths = take_all i paths le in
    (walk.free ∙ ap (are_free taken) none, subst (λ (t : List (List ℕ)). HasSame taken (t ++ old)) all walk.members)

pub path_at_map : (ps : List Placement) (i : ℕ) (p : Placement) → i < length ps → p ≡ get_or ps i p → path_of p ≡ get_or (map path_of ps) i (path_of p)
path_at_map [] i p lt at = absurd (omega arith)
path_at_map (x ∷ ps) zero p lt at = ap path_of at
path_at_map (x ∷ ps) (suc i) p lt at = path_at_map ps i p (omega arith) at

-- ---- the footprint of a record

pub has_same-swap : (a b : List (List ℕ)) → HasSame (a ++ b) (b ++ a)
has_same-swap a b q = is_in-append a b q ∙ or_comm (is_in a q) (is_in b q) ∙ sym (is_in-append b a q)

-- two walks, one behind the other
pub both_walks : (old mid new xs ys : List (List ℕ)) → HasSame mid (xs ++ old) → HasSame new (ys ++ mid) → HasSame new ((xs ++ ys) ++ old)
both_walks old mid new xs ys first second q =
    second q ∙ is_in-append ys mid q
    ∙ ap (λ (b : Bool). is_in ys q || b) (first q ∙ is_in-append xs old q)
    ∙ or_swap (is_in ys q) (is_in xs q) (is_in old q)
    ∙ sym (or-assoc (is_in xs q) (is_in ys q) (is_in old q))
    ∙ ap (λ (b : Bool). b || is_in old q) (sym (is_in-append xs ys q))
    ∙ sym (is_in-append (xs ++ ys) old q)

and_with : (a b : Bool) → a ≡ true → a && b ≡ b
and_with true b h = refl
and_with false b h = absurd cc

pub first_stops : (old xs ys : List (List ℕ)) → are_free old xs ≡ false → are_free old (xs ++ ys) ≡ false
first_stops old xs ys h = are_free-append old xs ys (xs ++ old) (λ q. refl) ∙ rw h refl

pub second_decides : (old mid xs ys : List (List ℕ)) → HasSame mid (xs ++ old) → are_free old xs ≡ true → are_free old (xs ++ ys) ≡ are_free mid ys
second_decides old mid xs ys same h = are_free-append old xs ys mid same ∙ and_with (are_free old xs) (are_free mid ys) h

pub on_true : (b : Bool) (P : Type 0) → b ≡ true → OnTrue b P → P
on_true true P e h = h
on_true false P e h = absurd cc

pub length-paths : (ps : List Placement) → length (map path_of ps) ≡ length ps
length-paths [] = refl
length-paths (p ∷ ps) = ap suc (length-paths ps)

pub has_same-append : (a b x : List (List ℕ)) → HasSame a b → HasSame (a ++ x) (b ++ x)
has_same-append a b x h q = is_in-append a x q ∙ ap (λ (t : Bool). t || is_in x q) (h q) ∙ sym (is_in-append b x q)
