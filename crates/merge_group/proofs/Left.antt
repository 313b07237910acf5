-- What the groups of some turns leave: the map, the owners, and the rest of the run.
use Rattle.std.proofs.Common.{◌≡◌, ◌⊎◌, ◌<◌, ◌≤◌, ◌+◌, ◌++◌, ◌||◌, ◌∙◌, ℕ, zero, suc, Bool, true, false, cond, not, filter, Option, List, [], ◌∷◌, None, inl, inr, refl, sym, ap, subst, length, take, drop, get_or, map, is_some, append_assoc, arith}
use Rattle.std.specs.Map.{lookup}
use Rattle.std.specs.Prelude.{bytes_eq}
use Rattle.std.proofs.Math.Seq.{drop-cons, take-append_seam}
use Rattle.std.proofs.lemmas.Bool.{cases_Bool, cases_eq, cond-false}
use Rattle.std.proofs.lemmas.List.{length-append, map-append, take-append-drop}
use Rattle.std.proofs.lemmas.Map.Entries.{lookup-filter-keys}
use Rattle.std.proofs.lemmas.Slice.Eq.{bytes_eq-Decides}
use Rattle.basics.specs.Members.{Has}
use Rattle.file_tree.specs.Disk.{Map}
use Rattle.file_tree.specs.Paths.{is_below}
use Rattle.file_tree.specs.PathSets.{is_in}
use Rattle.file_tree.specs.Fixed.{jobs}
use Rattle.merge_record.specs.declared.record.OwnerKey.{OwnerKey}
use Rattle.merge_journal.specs.Group.{Group, applied, with_group, with_groups}
use Rattle.owner_book.specs.Book.{Book, HasOwnersOf, HasSettled, ClaimValue, key_in, owner_in, settled_owner}
use Rattle.owner_book.specs.declared.wish.Wish.{Wish}
use Rattle.merge_site.specs.declared.group.SiteGroup.{SiteGroup}
use Rattle.merge_group.specs.Applied.{number}
use Rattle.merge_group.specs.Causes.{IsOfGroup, StopsChanges}
use Rattle.merge_group.specs.Granted.{MayChange}
use Rattle.merge_group.specs.Lines.{AreTold}
use Rattle.file_tree.specs.Output.{IsBeginning}
use Rattle.merge_group.specs.Through.{settled_all}
use Rattle.merge_group.specs.Turns.{AreFirst, AreLetIn, StopsBehind, changes_of, group_for, numbers, settled}
use Rattle.merge_group.specs.Working.{Changes}
use Rattle.merge_group.specs.declared.stop.Stop.{Stop}
use Rattle.merge_group.specs.declared.stop.Stop.TheVariants as stops
use Rattle.merge_group.specs.declared.turn.Turn.{Turn}

-- ---- lists

-- the item behind the first ones of a list
pub split_at : {A : Type 0} (xs front : List A) (x : A) → front ≡ take (length front) xs → length front < length xs → x ≡ get_or xs (length front) x → xs ≡ front ++ x ∷ drop (suc (length front)) xs
split_at xs front x is lt at =
    sym (take-append-drop (length front) xs)
    ∙ (ap (λ l. l ++ drop (length front) xs) (sym is) ∙ ap (λ l. front ++ l) (drop-cons xs (length front) x lt ∙ ap (λ y. y ∷ drop (suc (length front)) xs) (sym at)))

pub has_or_not : (ns : List ℕ) (n : ℕ) → Has ns n ⊎ (Has ns n → ⊥)
has_or_not [] n = inr (λ h. h)
has_or_not (k ∷ ns) n = elim (cases_eq k n) [
  | inl same ↦ inl (inl same)
  | inr other ↦ elim (has_or_not ns n) [ inl has ↦ inl (inr has) | inr not ↦ inr (λ h. elim h [ inl e ↦ other e | inr has ↦ not has ]) ]
]

pub has_take : (xs ys : List ℕ) (n h : ℕ) → length xs ≤ n → Has xs h → Has (take n (xs ++ ys)) h
has_take [] ys n h le has = absurd has
has_take (x ∷ xs) ys zero h le has = absurd (omega (arith, le))
has_take (x ∷ xs) ys (suc n) h le (inl e) = inl e
has_take (x ∷ xs) ys (suc n) h le (inr has) = inr (has_take xs ys n h (omega (arith, le)) has)

-- what is among the first of a list is so with more behind it
pub has_longer : (xs ys : List ℕ) (n h : ℕ) → Has (take n xs) h → Has (take n (xs ++ ys)) h
has_longer [] ys zero h has = absurd has
has_longer [] ys (suc n) h has = absurd has
has_longer (x ∷ xs) ys zero h has = absurd has
has_longer (x ∷ xs) ys (suc n) h (inl e) = inl e
has_longer (x ∷ xs) ys (suc n) h (inr has) = inr (has_longer xs ys n h has)

pub numbers_then : (ts us : List Turn) → numbers (ts ++ us) ≡ numbers ts ++ numbers us
numbers_then ts us = map-append (λ (t : Turn). t.group) ts us

pub numbers_of : (ts : List Turn) → map number (map group_for ts) ≡ numbers ts
numbers_of [] = refl
numbers_of (t ∷ ts) = ap (λ (l : List ℕ). t.group ∷ l) (numbers_of ts)

pub groups_push : (ts : List Turn) (t : Turn) → map group_for (ts ++ t ∷ []) ≡ map group_for ts ++ group_for t ∷ []
groups_push ts t = map-append group_for ts (t ∷ [])

pub beginning : (xs ys : List ℕ) → IsBeginning (xs ++ ys) xs
beginning xs ys = (length xs, sym (take-append_seam xs ys))

pub beginning_of : (whole xs ys : List ℕ) → whole ≡ xs ++ ys → IsBeginning whole xs
beginning_of whole xs ys is = subst (λ (l : List ℕ). IsBeginning l xs) (sym is) (beginning xs ys)

pub begins_longer : (ts us : List Turn) (xs : List ℕ) → IsBeginning (numbers ts) xs → IsBeginning (numbers (ts ++ us)) xs
begins_longer ts us xs begins =
    let n : ℕ = begins.0 in
    let rest = drop n (numbers ts) in
    beginning_of (numbers (ts ++ us)) xs (rest ++ numbers us)
    (numbers_then ts us
    ∙ (ap (λ (l : List ℕ). l ++ numbers us) (sym (take-append-drop n (numbers ts)))
    ∙ (append_assoc (take n (numbers ts)) rest (numbers us) ∙ ap (λ (l : List ℕ). l ++ (rest ++ numbers us)) (sym begins.1))))

-- what a turn adds to the history and to the acknowledged groups
pub one_longer : (old new : List ℕ) (g : ℕ) → (new ≡ old) ⊎ (new ≡ old ++ g ∷ []) → length old ≤ length new
one_longer old new g (inl same) = let n = ap length same in omega (arith, n)
one_longer old new g (inr more) = let n = ap length more ∙ length-append old (g ∷ []) in omega (arith, n)

pub first_numbers : (all ts us : List Turn) (t : Turn) (old new : List ℕ) → all ≡ ts ++ t ∷ us → old ≡ numbers ts → (new ≡ old) ⊎ (new ≡ old ++ t.group ∷ []) → IsBeginning (numbers all) new
first_numbers all ts us t old new is front (inl same) =
    beginning_of (numbers all) new (numbers (t ∷ us)) (ap numbers is ∙ (numbers_then ts (t ∷ us) ∙ ap (λ (l : List ℕ). l ++ numbers (t ∷ us)) (sym (same ∙ front))))
first_numbers all ts us t old new is front (inr more) =
    beginning_of (numbers all) new (numbers us)
    (ap numbers is ∙ (numbers_then ts (t ∷ us) ∙ (sym (append_assoc (numbers ts) (t.group ∷ []) (numbers us)) ∙ ap (λ (l : List ℕ). l ++ numbers us) (sym (more ∙ ap (λ (l : List ℕ). l ++ t.group ∷ []) front)))))

pub told_then : (old new told : List ℕ) (g : ℕ) → told ≡ old → (new ≡ old) ⊎ (new ≡ old ++ g ∷ []) → AreTold new told
told_then old new told g is (inl same) = inl (is ∙ sym same)
told_then old new told g is (inr more) = inr (g, more ∙ ap (λ (l : List ℕ). l ++ g ∷ []) (sym is))

-- ---- the map

abbrev pub left_all : Map → List Turn → Map
left_all m [] = m
left_all m (t ∷ ts) = left_all (applied m (group_for t ∷ [])) ts

pub left_outside : (m : Map) (ts : List Turn) (q : List ℕ) → is_below jobs q ≡ false → left_all m ts q ≡ with_groups (map group_for ts) q (m q)
left_outside m [] q out = refl
left_outside m (t ∷ ts) q out =
    left_outside (applied m (group_for t ∷ [])) ts q out ∙ ap (with_groups (map group_for ts) q) (cond-false (is_below jobs q) None (with_group (group_for t) q (m q)) out)

-- ---- the owners

abbrev pair_of : Wish → List ℕ × OwnerKey
pair_of w = (w.path, w.owner)

named_first : (ws : List Wish) (rest : List (List ℕ × OwnerKey)) (q : List ℕ) (gone : Bool) (o : Option OwnerKey) → lookup (bytes_eq q) rest ≡ cond gone None o → lookup (bytes_eq q) (map pair_of ws ++ rest) ≡ cond (is_some (key_in ws q) || gone) (key_in ws q) o
named_first [] rest q gone o is = is
named_first (w ∷ ws) rest q gone o is = elim (cases_Bool (bytes_eq q w.path)) [
  | inl e ↦ rw (e) refl
  | inr e ↦ rw (e) (named_first ws rest q gone o is)
]

unless : {A : Type 0} (gone : Bool) (o : Option A) → cond (not gone) o None ≡ cond gone None o
unless true o = refl
unless false o = refl

-- the owners without those of the paths that go
left_owned : (rs : List (List ℕ)) (owned : List (List ℕ × OwnerKey)) (q : List ℕ) → lookup (bytes_eq q) (filter (λ o. not (is_in rs o.0)) owned) ≡ cond (is_in rs q) None (lookup (bytes_eq q) owned)
left_owned rs owned q =
    lookup-filter-keys (bytes_eq q) (λ k. not (is_in rs k)) (not (is_in rs q)) (λ k same. ap (λ p. not (is_in rs p)) (sym ((bytes_eq-Decides q k).0 same))) owned
    ∙ unless (is_in rs q) (lookup (bytes_eq q) owned)

abbrev pub parts_in : Changes → ClaimValue
parts_in c = record { placed = c.wishes; removed = c.removals }

pub settled_has : (b : Book) (c : Changes) → HasSettled b (settled c b) (parts_in c)
settled_has b c q = named_first c.wishes (filter (λ o. not (is_in c.removals o.0)) b.owned) q (is_in c.removals q) (lookup (bytes_eq q) b.owned) (left_owned c.removals b.owned q)

pub settled_push : (ts : List Turn) (t : Turn) (b : Book) → settled_all (ts ++ t ∷ []) b ≡ settled (changes_of t) (settled_all ts b)
settled_push [] t b = refl
settled_push (u ∷ ts) t b = settled_push ts t (settled (changes_of u) b)

-- owners that are settled further
pub owners_push : (ts : List Turn) (t : Turn) (b old new : Book) → HasOwnersOf (settled_all ts b) old → HasSettled old new (parts_in (changes_of t)) → HasOwnersOf (settled_all (ts ++ t ∷ []) b) new
owners_push ts t b old new owners more q =
    more q
    ∙ (ap (settled_owner (parts_in (changes_of t)) q) (owners q)
    ∙ (sym (settled_has (settled_all ts b) (changes_of t) q) ∙ ap (λ (k : Book). owner_in k.owned q) (sym (settled_push ts t b))))

-- ---- who was let in

pub let_in_push : (m : Map) (b : Book) (groups : List SiteGroup) (ts : List Turn) (t : Turn) → AreLetIn m b groups ts → MayChange (left_all m ts) (settled_all ts b) groups (changes_of t) t.group → AreLetIn m b groups (ts ++ t ∷ [])
let_in_push m b groups [] t all may = (may, tt)
let_in_push m b groups (u ∷ ts) t all may = (all.0, let_in_push (applied m (group_for u ∷ [])) (settled (changes_of u) b) groups ts t all.1 may)

pub first_more : (m : Map) (b : Book) (groups : List SiteGroup) (ts us : List Turn) (xs : List Group) → AreFirst m b groups ts xs → AreFirst m b groups (ts ++ us) xs
first_more m b groups ts us xs h = record {
  first = h.first;
  rest = h.rest ++ us;
  split = ap (λ (l : List Turn). l ++ us) h.split ∙ append_assoc h.first h.rest us;
  are = h.are;
  let_in = h.let_in;
}

-- ---- why a run ended

pub plain_run : (tells : Bool) (m : Map) (b : Book) (groups : List SiteGroup) (c : Changes) (g : ℕ) (e : Stop) → (IsOfGroup e → ⊥) → StopsChanges tells m b groups c g e
plain_run tells m b groups c g (stops.Tree of) h = tt
plain_run tells m b groups c g stops.Output h = tt
plain_run tells m b groups c g (stops.Image bad) h = absurd (h tt)
plain_run tells m b groups c g (stops.Claim s) h = absurd (h tt)
plain_run tells m b groups c g stops.Limit h = absurd (h tt)

pub plain_behind : (tells : Bool) (m : Map) (b : Book) (groups : List SiteGroup) (ts : List Turn) (n : ℕ) (e : Stop) → (IsOfGroup e → ⊥) → StopsBehind tells m b groups ts n e
plain_behind tells m b groups [] n e h = h
plain_behind tells m b groups (t ∷ ts) zero e h = plain_run tells m b groups (changes_of t) t.group e h
plain_behind tells m b groups (t ∷ ts) (suc n) e h = plain_behind tells (applied m (group_for t ∷ [])) (settled (changes_of t) b) groups ts n e h

-- with more turns behind it is the same
pub stops_longer : (tells : Bool) (m : Map) (b : Book) (groups : List SiteGroup) (ts us : List Turn) (n : ℕ) (e : Stop) → StopsBehind tells m b groups ts n e → StopsBehind tells m b groups (ts ++ us) n e
stops_longer tells m b groups [] us n e h = plain_behind tells m b groups us n e h
stops_longer tells m b groups (t ∷ ts) us zero e h = h
stops_longer tells m b groups (t ∷ ts) us (suc n) e h = stops_longer tells (applied m (group_for t ∷ [])) (settled (changes_of t) b) groups ts us n e h

pub stops_behind : (tells : Bool) (m : Map) (b : Book) (groups : List SiteGroup) (ts us : List Turn) (t : Turn) (e : Stop) → StopsChanges tells (left_all m ts) (settled_all ts b) groups (changes_of t) t.group e
    → StopsBehind tells m b groups (ts ++ t ∷ us) (length ts) e
stops_behind tells m b groups [] us t e h = h
stops_behind tells m b groups (u ∷ ts) us t e h = stops_behind tells (applied m (group_for u ∷ [])) (settled (changes_of u) b) groups ts us t e h

pub of_group_or_not : (e : Stop) → IsOfGroup e ⊎ (IsOfGroup e → ⊥)
of_group_or_not (stops.Tree of) = inr (λ h. h)
of_group_or_not stops.Output = inr (λ h. h)
of_group_or_not (stops.Image bad) = inl tt
of_group_or_not (stops.Claim s) = inl tt
of_group_or_not stops.Limit = inl tt
