-- The lines of an entry, and the first without an equals sign.
use denote.Ref.{Bor}
use Rattle.std.proofs.Common.{◌≡◌, ◌∙◌, ◌+◌, ◌<◌, ◌≤◌, ◌==◌, ℕ, suc, true, false, List, [], ◌∷◌, ◌++◌, length, take, drop, get_or, map, ap, arith, refl, subst, sym}
use Rattle.std.specs.List.{AllByRecursion, before_first}
use Rattle.std.proofs.lemmas.List.{map-append, take_all, take_more, take-append-drop}
use Rattle.std.proofs.Math.Seq.{drop-cons}
use Rattle.std.proofs.lemmas.Bool.{eqb-true, false≢true}
use Rattle.std.proofs.lemmas.List.{length-take-le}
use Rattle.basics.proofs.Each.{all-push}
use Rattle.config_text.specs.Lines.{line_number}
use Rattle.md5_cache.specs.PairFaults.{LacksEqualsAt, LinesFault}
use Rattle.md5_cache.specs.Pairs.{HasEquals, IsSplit, is_equals, pair_of, without_empty_end}
use Rattle.md5_cache.specs.declared.fault.PairFault.{PairFault}
use Rattle.md5_cache.specs.declared.fault.PairFault.TheVariants.{Memory, NoEquals, NotUtf8, Repeated}
use Rattle.md5_cache.specs.declared.pair.Pair.{Pair}

pub ends_empty : (front : List (List ℕ)) → without_empty_end (front ++ ([] ∷ [])) ≡ front
ends_empty [] = refl
ends_empty (x ∷ []) = refl
ends_empty (x ∷ y ∷ ys) = ap (λ l. x ∷ l) (ends_empty (y ∷ ys))

pub ends_full : (front : List (List ℕ)) (b : ℕ) (last : List ℕ) → without_empty_end (front ++ ((b ∷ last) ∷ [])) ≡ front ++ ((b ∷ last) ∷ [])
ends_full [] b last = refl
ends_full (x ∷ []) b last = refl
ends_full (x ∷ y ∷ ys) b last = ap (λ l. x ∷ l) (ends_full (y ∷ ys) b last)

abbrev pub Texts : Type 0
Texts = List (Bor (List ℕ))

abbrev pub now_of : Texts → List (List ℕ)
now_of lines = map {A = Bor (List ℕ)} {B = List ℕ} (λ x. x.now) lines

pub next_line : (lines : Texts) (place : ℕ) (d : Bor (List ℕ)) → place < length lines → now_of (take (place + 1) lines) ≡ now_of (take place lines) ++ ((get_or lines place d).now ∷ [])
next_line lines place d within = ap now_of (take_more lines place d within) ∙ map-append {A = Bor (List ℕ)} {B = List ℕ} (λ x. x.now) (take place lines) (get_or lines place d ∷ [])

pub cut_lines : (lines : Texts) (place : ℕ) (d : Bor (List ℕ)) → place < length lines → now_of lines ≡ now_of (take place lines) ++ ((get_or lines place d).now ∷ now_of (drop (suc place) lines))
cut_lines lines place d within =
    ap now_of (sym (take-append-drop place lines))
    ∙ (map-append {A = Bor (List ℕ)} {B = List ℕ} (λ x. x.now) (take place lines) (drop place lines)
    ∙ ap (λ l. now_of (take place lines) ++ now_of l) (drop-cons lines place d within))

up_to : (lines : Texts) (place : ℕ) → place < length lines → place ≤ length lines
up_to lines place within = omega arith

length_now : (ls : Texts) → length (now_of ls) ≡ length ls
length_now [] = refl
length_now (x ∷ ls) = ap suc (length_now ls)

count_to : (lines : Texts) (place : ℕ) → place < length lines → length (now_of (take place lines)) ≡ place
count_to lines place within = length_now (take place lines) ∙ length-take-le place lines (up_to lines place within)

pub lacks_at : (lines : Texts) (place number : ℕ) (d : Bor (List ℕ)) → place < length lines → AllByRecursion HasEquals (now_of (take place lines)) → (HasEquals (get_or lines place d).now → ⊥) → number ≡ line_number place → LacksEqualsAt (now_of lines) number
lacks_at lines place number d within split lacks is =
    record {
      front = now_of (take place lines);
      bad = (get_or lines place d).now;
      rest = now_of (drop (suc place) lines);
      place = cut_lines lines place d within;
      split = split;
      lacks = lacks;
      counted = is ∙ ap line_number (sym (count_to lines place within));
    }

abbrev one_pair : List ℕ → List ℕ → Pair
one_pair key v = record { key = key; value = v }

pub pushed : (lines : Texts) (place : ℕ) (d : Bor (List ℕ)) (items now : List Pair) (key v k w : List ℕ) → place < length lines → IsSplit (get_or lines place d).now key v → k ≡ key → w ≡ v → now ≡ items ++ (record { key = k; value = w } ∷ [])
    → (items ≡ map pair_of (now_of (take place lines))) × AllByRecursion HasEquals (now_of (take place lines)) → (now ≡ map pair_of (now_of (take (place + 1) lines))) × AllByRecursion HasEquals (now_of (take (place + 1) lines))
pushed lines place d items now key v k w within split keys values is before =
    let line : List ℕ = (get_or lines place d).now in
    let same : one_pair k w ≡ pair_of (get_or lines place d).now =
    ap (λ x. one_pair x w) (keys ∙ split.key_is) ∙ ap (λ x. one_pair (before_first is_equals (get_or lines place d).now) x) (values ∙ split.value_is) in (
      is
          ∙ (ap (λ l. l ++ (one_pair k w ∷ [])) before.0
          ∙ (ap (λ p. map pair_of (now_of (take place lines)) ++ (p ∷ [])) same
          ∙ (sym (map-append pair_of (now_of (take place lines)) ((get_or lines place d).now ∷ []))
          ∙ ap (λ l. map pair_of l) (sym (next_line lines place d within))))),
      subst (AllByRecursion HasEquals) (sym (next_line lines place d within)) (all-push HasEquals (now_of (take place lines)) (get_or lines place d).now before.1 split.has),
    )

pub all_lines : (lines : Texts) (place : ℕ) (items : List Pair) → length lines ≤ place → (items ≡ map pair_of (now_of (take place lines))) × AllByRecursion HasEquals (now_of (take place lines)) → (items ≡ map pair_of (now_of lines)) × AllByRecursion HasEquals (now_of lines)
all_lines lines place items past before = subst (λ (l : Texts). (items ≡ map pair_of (now_of l)) × AllByRecursion HasEquals (now_of l)) (take_all place lines past) before

all_at : (front : List (List ℕ)) (bad : List ℕ) (rest : List (List ℕ)) → AllByRecursion HasEquals (front ++ (bad ∷ rest)) → HasEquals bad
all_at [] bad rest each = each.0
all_at (x ∷ front) bad rest each = all_at front bad rest each.1

pub no_line_fault : (lines : List (List ℕ)) (fault : PairFault) → AllByRecursion HasEquals lines → LinesFault lines fault → fault ≡ Memory
no_line_fault lines NotUtf8 each f = absurd f
no_line_fault lines (NoEquals line) each f = absurd (f.lacks (all_at f.front f.bad f.rest (subst (AllByRecursion HasEquals) f.place each)))
no_line_fault lines (Repeated key) each f = absurd f
no_line_fault lines Memory each f = refl

full_end : (front : List (List ℕ)) (last : List ℕ) → false ≡ (length last == 0) → without_empty_end (front ++ (last ∷ [])) ≡ front ++ (last ∷ [])
full_end front [] e = absurd (false≢true e)
full_end front (b ∷ last) e = ends_full front b last

empty_end : (front : List (List ℕ)) (last : List ℕ) → true ≡ (length last == 0) → without_empty_end (front ++ (last ∷ [])) ≡ front
empty_end front [] e = ends_empty front
empty_end front (b ∷ last) e = absurd (omega (arith, eqb-true (length (b ∷ last)) 0 (sym e)))

with_last : (front : Texts) (last : Bor (List ℕ)) → now_of (front ++ (last ∷ [])) ≡ now_of front ++ (last.now ∷ [])
with_last front last = map-append {A = Bor (List ℕ)} {B = List ℕ} (λ x. x.now) front (last ∷ [])

pub lines_full : (lines front now : Texts) (last : Bor (List ℕ)) (pieces : List (List ℕ)) → now_of lines ≡ pieces → lines ≡ front ++ (last ∷ []) → false ≡ (length last.now == 0) → now ≡ front ++ (last ∷ []) → now_of now ≡ without_empty_end pieces
lines_full lines front now last pieces are cut full is =
    ap now_of is ∙ (with_last front last ∙ (sym (full_end (now_of front) last.now full) ∙ ap without_empty_end (sym (with_last front last) ∙ (ap now_of (sym cut) ∙ are))))

pub lines_cut : (lines front now : Texts) (last : Bor (List ℕ)) (pieces : List (List ℕ)) → now_of lines ≡ pieces → lines ≡ front ++ (last ∷ []) → true ≡ (length last.now == 0) → now ≡ front → now_of now ≡ without_empty_end pieces
lines_cut lines front now last pieces are cut none is =
    ap now_of is ∙ (sym (empty_end (now_of front) last.now none) ∙ ap without_empty_end (sym (with_last front last) ∙ (ap now_of (sym cut) ∙ are)))

pub lines_none : (lines now : Texts) (pieces : List (List ℕ)) → now_of lines ≡ pieces → lines ≡ [] → now ≡ [] → now_of now ≡ without_empty_end pieces
lines_none lines now pieces are none is = ap now_of is ∙ ap without_empty_end (ap now_of (sym none) ∙ are)
