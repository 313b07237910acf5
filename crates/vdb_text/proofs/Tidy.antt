-- Packages are tidy where the list of all their paths is.
use Rattle.std.proofs.Common.{◌≡◌, ◌⊎◌, ◌∙◌, ℕ, List, [], ◌∷◌, ◌++◌, Result, Ok, Err, MatchResult, map, refl, ap, sym, subst, inl, inr}
use Rattle.std.specs.Prelude.{IfErr, IfOk}
use Rattle.std.specs.List.Sorted.{IsStrictlySortedBy}
use Rattle.std.proofs.lemmas.Bool.{true≢false}
use Rattle.basics.specs.Members.{AreDistinct, Has}
use Rattle.basics.proofs.Membership.{distinct-apart, distinct-append, has-append_cases, has-append_left, has-append_right}
use Rattle.basics.proofs.Texts.{not_less}
use Rattle.file_tree.specs.Disk.{Map}
use Rattle.file_tree.specs.declared.fault.TreeFault.TheVariants as trees
use Rattle.pms_names.specs.Flags.{IsRising}
use Rattle.vdb_contents.specs.Contents.{TellsOwned, path_of}
use Rattle.vdb_contents.specs.declared.owned.Owned.{Owned}
use Rattle.vdb_law.specs.Database.{IsDatabase, IsTidy, folder, folder_name}
use Rattle.vdb_law.specs.Fields.{Folder, Says, contents, field_text}
use Rattle.vdb_law.specs.Packages.{Installed, id_of, paths}
use Rattle.vdb_law.proofs.Places.{all_less}
use Rattle.vdb_overlap.specs.Overlaps.{AreApart, IsFirst, IsFirstOverlap, IsOver, IsUnder, StandsTwice}
use Rattle.vdb_overlap.specs.declared.overlap.Overlap.{Overlap}
use Rattle.vdb_overlap.specs.declared.overlap.Overlap.TheVariants.{Nested, Twice}
use Rattle.vdb_overlap.proofs.Again.{none_twice}
use Rattle.vdb_text.specs.Faults.{ArePast, Overlaps, overlap_fault}
use Rattle.vdb_text.specs.Machine.{IsOfMachine}
use Rattle.vdb_text.specs.Owned.{IsAbove, IsOwned, IsOwnedBelow, IsOwnedTwice, all_paths}
use Rattle.vdb_text.specs.declared.fault.DatabaseFault.{DatabaseFault}
use Rattle.vdb_text.specs.declared.fault.DatabaseFault.TheVariants.{Tree}

-- an owned path is among all, and the other way round
pub owned_among : (ps : List Installed) (p : Installed) (q : List ℕ) → Has ps p → Has (paths p) q → Has (all_paths ps) q
owned_among [] p q hp own = absurd hp
owned_among (x ∷ ps) p q (inl e) own = has-append_left (paths x) (all_paths ps) q (subst (λ (y : Installed). Has (paths y) q) (sym e) own)
owned_among (x ∷ ps) p q (inr hp) own = has-append_right (paths x) (all_paths ps) q (owned_among ps p q hp own)

pub owner_of : (ps : List Installed) (q : List ℕ) → Has (all_paths ps) q → IsOwned ps q
owner_of [] q has = absurd has
owner_of (x ∷ ps) q has = elim (has-append_cases (paths x) (all_paths ps) q has) [
  | inl here ↦ record { owner = x; listed = inl refl; owns = here }
  | inr later ↦ (let o = owner_of ps q later in record { owner = o.owner; listed = inr o.listed; owns = o.owns })
]

-- the paths of a package are distinct
own_distinct : (f : Folder) (p : Installed) → Says f p → AreDistinct (paths p)
own_distinct f p says =
    let text : TellsOwned (field_text f contents) p.owned = says.reads contents in
    subst (λ (os : List Owned). AreDistinct (map path_of os)) (sym text.means) text.are.once

abbrev EachDistinct : List Installed → Type 0
EachDistinct ps = (p : Installed) → Has ps p → AreDistinct (paths p)

pub each_distinct : (m : Map) (ps : List Installed) → IsDatabase m ps → EachDistinct ps
each_distinct m ps db p has = own_distinct (folder m (id_of p)) p (db.says p has)

-- the second part of a list of distinct texts
distinct_behind : (xs ys : List (List ℕ)) → AreDistinct (xs ++ ys) → AreDistinct ys
distinct_behind [] ys d = d
distinct_behind (x ∷ xs) ys d = distinct_behind xs ys d.1

-- the first package of a rising list isn't behind itself
not_behind : (x : Installed) (ps : List Installed) (p : Installed) → IsRising (map folder_name (x ∷ ps)) → Has ps p → x ≡ p → ⊥
unfolding IsStrictlySortedBy
not_behind x ps p rising has e = not_less (folder_name x) (folder_name p) (ap folder_name e) (all_less (folder_name x) ps p rising.0 has)

rising_behind : (x : Installed) (ps : List Installed) → IsRising (map folder_name (x ∷ ps)) → IsRising (map folder_name ps)
unfolding IsStrictlySortedBy
rising_behind x ps rising = rising.1

pub one_owner : (ps : List Installed) → AreDistinct (all_paths ps) → (p r : Installed) (q : List ℕ) → Has ps p → Has ps r → Has (paths p) q → Has (paths r) q → p ≡ r
one_owner [] d p r q hp hr own own' = absurd hp
one_owner (x ∷ ps) d p r q (inl e) (inl f) own own' = sym e ∙ f
one_owner (x ∷ ps) d p r q (inl e) (inr hr) own own' = absurd (distinct-apart (paths x) (all_paths ps) q d (subst (λ (y : Installed). Has (paths y) q) (sym e) own) (owned_among ps r q hr own'))
one_owner (x ∷ ps) d p r q (inr hp) (inl f) own own' = absurd (distinct-apart (paths x) (all_paths ps) q d (subst (λ (y : Installed). Has (paths y) q) (sym f) own') (owned_among ps p q hp own))
one_owner (x ∷ ps) d p r q (inr hp) (inr hr) own own' = one_owner ps (distinct_behind (paths x) (all_paths ps) d) p r q hp hr own own'

pub all_distinct : (ps : List Installed) → IsRising (map folder_name ps) → EachDistinct ps → ((p r : Installed) (q : List ℕ) → Has ps p → Has ps r → Has (paths p) q → Has (paths r) q → p ≡ r) → AreDistinct (all_paths ps)
all_distinct [] rising each once = tt
all_distinct (x ∷ ps) rising each once =
    distinct-append (paths x) (all_paths ps) (each x (inl refl))
    (all_distinct ps (rising_behind x ps rising) (λ p has. each p (inr has)) (λ p r q hp hr own own'. once p r q (inr hp) (inr hr) own own'))
    (λ q own there. let o = owner_of ps q there in not_behind x ps o.owner rising o.listed (once x o.owner q (inl refl) (inr o.listed) own o.owns))

pub tidy_if_apart : (ps : List Installed) → AreApart (all_paths ps) → IsTidy ps
tidy_if_apart ps apart = record {
  once = one_owner ps apart.once;
  flat = λ p r q s hp hr own own'. apart.flat q s (owned_among ps p q hp own) (owned_among ps r s hr own');
}

twice_cases : (xs ys : List (List ℕ)) (q : List ℕ) → AreDistinct xs → StandsTwice (xs ++ ys) q → (Has xs q × Has ys q) ⊎ StandsTwice ys q
twice_cases [] ys q d h = inr h
twice_cases (x ∷ xs) ys q d (inl e) = elim (has-append_cases xs ys q e.1) [
  | inl h ↦ absurd (d.0 (subst (λ (t : List ℕ). Has xs t) (sym e.0) h))
  | inr h ↦ inl (inl e.0, h)
]
twice_cases (x ∷ xs) ys q d (inr h) = elim (twice_cases xs ys q d.1 h) [ inl k ↦ inl (inr k.0, k.1) | inr k ↦ inr k ]

twice_if_both : (xs ys : List (List ℕ)) (q : List ℕ) → Has xs q → Has ys q → StandsTwice (xs ++ ys) q
twice_if_both [] ys q h k = absurd h
twice_if_both (x ∷ xs) ys q (inl e) k = inl (e, has-append_right xs ys q k)
twice_if_both (x ∷ xs) ys q (inr h) k = inr (twice_if_both xs ys q h k)

twice_behind : (xs ys : List (List ℕ)) (q : List ℕ) → StandsTwice ys q → StandsTwice (xs ++ ys) q
twice_behind [] ys q h = h
twice_behind (x ∷ xs) ys q h = inr (twice_behind xs ys q h)

-- a path that stands twice has two owners
pub two_owners : (ps : List Installed) → IsRising (map folder_name ps) → EachDistinct ps → (q : List ℕ) → StandsTwice (all_paths ps) q → IsOwnedTwice ps q
two_owners [] rising each q h = absurd h
two_owners (x ∷ ps) rising each q h = elim (twice_cases (paths x) (all_paths ps) q (each x (inl refl)) h) [
  | inl both ↦ (
      let o = owner_of ps q both.1 in
      record {
        first = record { owner = x; listed = inl refl; owns = both.0 };
        second = record { owner = o.owner; listed = inr o.listed; owns = o.owns };
        differ = not_behind x ps o.owner rising o.listed;
      })
  | inr later ↦ (
      let two = two_owners ps (rising_behind x ps rising) (λ p has. each p (inr has)) q later in
      record {
        first = record { owner = two.first.owner; listed = inr two.first.listed; owns = two.first.owns };
        second = record { owner = two.second.owner; listed = inr two.second.listed; owns = two.second.owns };
        differ = two.differ;
      })
]

twice_if_owned : (ps : List Installed) (p r : Installed) (q : List ℕ) → Has ps p → Has ps r → (p ≡ r → ⊥) → Has (paths p) q → Has (paths r) q → StandsTwice (all_paths ps) q
twice_if_owned [] p r q hp hr differ own own' = absurd hp
twice_if_owned (x ∷ ps) p r q (inl e) (inl f) differ own own' = absurd (differ (sym e ∙ f))
twice_if_owned (x ∷ ps) p r q (inl e) (inr hr) differ own own' = twice_if_both (paths x) (all_paths ps) q (subst (λ (y : Installed). Has (paths y) q) (sym e) own) (owned_among ps r q hr own')
twice_if_owned (x ∷ ps) p r q (inr hp) (inl f) differ own own' = twice_if_both (paths x) (all_paths ps) q (subst (λ (y : Installed). Has (paths y) q) (sym f) own') (owned_among ps p q hp own)
twice_if_owned (x ∷ ps) p r q (inr hp) (inr hr) differ own own' = twice_behind (paths x) (all_paths ps) q (twice_if_owned ps p r q hp hr differ own own')

pub stands_twice : (ps : List Installed) (q : List ℕ) → IsOwnedTwice ps q → StandsTwice (all_paths ps) q
stands_twice ps q two = twice_if_owned ps two.first.owner two.second.owner q two.first.listed two.second.listed two.differ two.first.owns two.second.owns

-- the first of what is so is the first of what is so by other words
first_same : (P Q : List ℕ → Type 0) (q : List ℕ) → ((s : List ℕ) → P s → Q s) → ((s : List ℕ) → Q s → P s) → IsFirst P q → IsFirst Q q
first_same P Q q to back first = record { is = to q first.is; least = λ s less h. first.least s less (back s h) }

owned_under : (ps : List Installed) (q s : List ℕ) → IsUnder (all_paths ps) q s → IsOwnedBelow ps q s
owned_under ps q s under = record { owned = owner_of ps s under.listed; below = under.below }

under_owned : (ps : List Installed) (q s : List ℕ) → IsOwnedBelow ps q s → IsUnder (all_paths ps) q s
under_owned ps q s low = record { listed = owned_among ps low.owned.owner s low.owned.listed low.owned.owns; below = low.below }

pub first_twice : (m : Map) (ps : List Installed) (q : List ℕ) → IsDatabase m ps → IsFirst (StandsTwice (all_paths ps)) q → IsFirst (IsOwnedTwice ps) q
first_twice m ps q db = first_same (StandsTwice (all_paths ps)) (IsOwnedTwice ps) q (λ s h. two_owners ps db.rising (each_distinct m ps db) s h) (stands_twice ps)

pub first_above : (ps : List Installed) (q : List ℕ) → IsFirst (IsOver (all_paths ps)) q → IsFirst (IsAbove ps) q
first_above ps q = first_same (IsOver (all_paths ps)) (IsAbove ps) q
    (λ s h. record { owned = owner_of ps s h.listed; low = h.low; under = owned_under ps s h.low h.under })
    (λ s h. record { listed = owned_among ps h.owned.owner s h.owned.listed h.owned.owns; low = h.low; under = under_owned ps s h.low h.under })

pub first_below : (ps : List Installed) (q s : List ℕ) → IsFirst (IsUnder (all_paths ps) q) s → IsFirst (IsOwnedBelow ps q) s
first_below ps q s = first_same (IsUnder (all_paths ps) q) (IsOwnedBelow ps q) s (owned_under ps q) (under_owned ps q)

-- of distinct paths none has two owners
pub none_owned_twice : (ps : List Installed) → AreDistinct (all_paths ps) → (q : List ℕ) → IsOwnedTwice ps q → ⊥
none_owned_twice ps d q two = none_twice (all_paths ps) q d (stands_twice ps q two)

-- packages in a database whose paths overlap aren't tidy
pub not_tidy_twice : (ps : List Installed) (q : List ℕ) → IsTidy ps → IsOwnedTwice ps q → ⊥
not_tidy_twice ps q tidy two = two.differ (tidy.once two.first.owner two.second.owner q two.first.listed two.second.listed two.first.owns two.second.owns)

pub not_tidy_above : (ps : List Installed) (q : List ℕ) → IsTidy ps → IsAbove ps q → ⊥
not_tidy_above ps q tidy above =
    let low = above.under in
    true≢false (sym low.below ∙ tidy.flat above.owned.owner low.owned.owner q above.low above.owned.listed low.owned.listed above.owned.owns low.owned.owns)

-- the first overlap of all paths is that of the packages
pub overlaps_of : (m : Map) (ps : List Installed) → IsDatabase m ps → (o : Overlap) → IsFirstOverlap (all_paths ps) o → Overlaps ps (overlap_fault o)
overlaps_of m ps db (Twice q) h = first_twice m ps q db h
overlaps_of m ps db (Nested q s) h = (none_owned_twice ps h.0, first_above ps q h.1, first_below ps q s h.2)

-- then they aren't tidy
pub not_tidy : (m : Map) (ps : List Installed) → IsDatabase m ps → (o : Overlap) → IsFirstOverlap (all_paths ps) o → IsTidy ps → ⊥
not_tidy m ps db (Twice q) h tidy = not_tidy_twice ps q tidy (first_twice m ps q db h).is
not_tidy m ps db (Nested q s) h tidy = not_tidy_above ps q tidy (first_above ps q h.1).is

-- of the packages of a tidy database only these are answered
pub tidy_only : {A : Type 0} (items : A → List Installed) (r : Result A DatabaseFault) (qs ps : List Installed) (m : Map) → IsDatabase m ps → IsTidy ps → qs ≡ ps → IfOk r (λ v. items v ≡ qs)
    → IfErr r (λ e. (e ≡ Tree trees.Memory) ⊎ ((o : Overlap) × IsFirstOverlap (all_paths qs) o × (e ≡ overlap_fault o))) → MatchResult r (λ v. items v ≡ ps) (λ e. IsOfMachine e ⊎ ArePast ps e)
tidy_only items (Ok v) qs ps m db tidy e h k = h ∙ e
tidy_only items (Err x) qs ps m db tidy e h (inl memory) = inl (trees.Memory, memory)
tidy_only items (Err x) qs ps m db tidy e h (inr o) = absurd (not_tidy m ps db o.0 (subst (λ (l : List Installed). IsFirstOverlap (all_paths l) o.0) e o.1) tidy)
