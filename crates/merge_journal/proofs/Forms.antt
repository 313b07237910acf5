-- A map in which each open group is in form recovers to itself with these groups applied, in the order of their numbers.
use Rattle.std.proofs.Common.{◌≡◌, ◌<◌, ◌+◌, ℕ, suc, true, cond, List, [], ◌∷◌, ◌++◌, Option, Some, None, Result, Ok, refl, sym, ap, subst, ◌∙◌, inl, inr, arith, add-zero}
use Rattle.std.specs.Prelude.{bytes_eq, slice_get}
use Rattle.basics.specs.Members.{Has}
use Rattle.basics.proofs.Membership.{has-append_cases}
use Rattle.file_tree.specs.Disk.{Map}
use Rattle.file_tree.specs.Paths.{is_below}
use Rattle.file_tree.specs.ObjectValue.{ObjectValue}
use Rattle.merge_record.specs.RecordValue.{RecordValue}
use Rattle.merge_journal.specs.Judging.{IsStaged, footprint, judged, judged_all, judged_open, ◌>>=◌}
use Rattle.file_tree.specs.PathSets.{is_in}
use Rattle.merge_journal.specs.Names.{stage_path}
use Rattle.file_tree.specs.Fixed.{jobs}
use Rattle.merge_journal.specs.Open.{IsRising, open_groups}
use Rattle.merge_journal.specs.Recovered.{IsRecovered}
use Rattle.merge_journal.specs.declared.fault.JudgeFault.{JudgeFault}
use Rattle.merge_record.specs.declared.record.Placement.{Placement}
use Rattle.merge_journal.proofs.Form.{are_free-words, judged_if, shift}
use Rattle.file_tree.proofs.PathSets.{in_if_has}
use Rattle.merge_journal.proofs.Opened.{open_groups_rise}
use Rattle.merge_journal.proofs.Recovery.{placed_at, rebuilt, recovered_is, remade}
use Rattle.merge_journal.specs.Group.{AreInForm, AreStaged, Group, IsFiled, IsGroup, applied, contents, covers, groups, with_group, with_groups, with_placements}
use Rattle.merge_journal.proofs.Changes.{staged_at}

-- one group, where these paths are taken
one_judged : (c : Map) (taken : List (List ℕ)) (g : Group) → IsGroup g → IsFiled c g → ((q : List ℕ) → covers g q ≡ true → Has taken q → ⊥) → judged c taken g.content.group ≡ Ok g.content
one_judged c taken g is filed apart =
    let words = are_free-words [] (footprint g.content) is.free in
    judged_if c taken g.content.group g.content (record {
      reads = filed.reads;
      number = refl;
      distinct = words.distinct;
      outside = words.outside;
      free = λ q has was. apart q (in_if_has (footprint g.content) q has) was;
      stages = λ i p at.
          let o = staged_at g.content.placements g.objects i p is.staged at in
          subst (λ (x : Option ObjectValue). IsStaged x p) (sym (filed.stages i o.0 o.1)) o.2;
    })

all_judged : (c : Map) (f : ℕ → Group) (taken : List (List ℕ)) (ns : List ℕ) → IsRising ns
    → ((n : ℕ) → Has ns n → (f n).content.group ≡ n) → ((n : ℕ) → Has ns n → IsGroup (f n)) → ((n : ℕ) → Has ns n → IsFiled c (f n))
    → ((n m : ℕ) (q : List ℕ) → Has ns n → Has ns m → covers (f n) q ≡ true → covers (f m) q ≡ true → n ≡ m)
    → ((n : ℕ) (q : List ℕ) → Has ns n → covers (f n) q ≡ true → Has taken q → ⊥)
    → judged_all c taken ns ≡ Ok (contents f ns)
unfolding judged_all
all_judged c f taken [] rise number good filed apart free = refl
all_judged c f taken (n ∷ ns) rise number good filed apart free =
    let here : judged c taken n ≡ Ok (f n).content = ap (judged c taken) (sym (number n (inl refl))) ∙ one_judged c taken (f n) (good n (inl refl)) (filed n (inl refl)) (λ q mine was. free n q (inl refl) mine was) in
    let rest = all_judged c f (taken ++ footprint (f n).content) ns rise.1 (λ m has. number m (inr has)) (λ m has. good m (inr has)) (λ m has. filed m (inr has))
    (λ m k q hm hk. apart m k q (inr hm) (inr hk))
    (λ m q has mine was. elim (has-append_cases taken (footprint (f n).content) q was) [
      | inl before ↦ free m q (inr has) mine before
      | inr ours ↦ (let same : n ≡ m = apart n m q (inl refl) (inr has) (in_if_has (footprint (f n).content) q ours) mine in let lt : n < m = rise.0 m has in absurd (omega arith))
    ]) in
    ap (λ (v : Result RecordValue JudgeFault). v >>= (λ r. judged_all c (taken ++ footprint r) ns >>= (λ rs. Ok (r ∷ rs)))) here
    ∙ ap (λ (v : Result (List RecordValue) JudgeFault). v >>= (λ rs. Ok ((f n).content ∷ rs))) rest

placed_same : (c : Map) (g i : ℕ) (ps : List Placement) (os : List ObjectValue) (q : List ℕ) (x : Option ObjectValue) → AreStaged ps os
    → ((j : ℕ) (o : ObjectValue) → slice_get os j ≡ Some o → c (stage_path g (i + j)) ≡ Some o) → placed_at c g i ps q x ≡ with_placements ps os q x
placed_same c g i [] os q x all h = refl
placed_same c g i (p ∷ ps) [] q x all h = absurd all
placed_same c g i (p ∷ ps) (o ∷ os) q x all h =
    let here : c (stage_path g i) ≡ Some o = ap (λ (n : ℕ). c (stage_path g n)) (sym (add-zero i)) ∙ h 0 o refl in
    ap (λ (v : Option ObjectValue). placed_at c g (suc i) ps q (cond (bytes_eq q p.path) v x)) here
    ∙ placed_same c g (suc i) ps os q (cond (bytes_eq q p.path) (Some o) x) all.1
    (λ j y e. ap (λ (n : ℕ). c (stage_path g n)) (shift i j) ∙ h (suc j) y e)

from_zero : (j : ℕ) → 0 + j ≡ j
from_zero j = omega arith

remade_same : (c : Map) (g : Group) (q : List ℕ) (x : Option ObjectValue) → AreStaged g.content.placements g.objects → IsFiled c g → remade c g.content q x ≡ with_group g q x
remade_same c g q x all filed =
    placed_same c g.content.group 0 g.content.placements g.objects q (cond (is_in g.content.removals q) None x) all
    (λ j o e. ap (λ (n : ℕ). c (stage_path g.content.group n)) (from_zero j) ∙ filed.stages j o e)

pub rebuilt_same : (c : Map) (f : ℕ → Group) (ns : List ℕ) (q : List ℕ) (x : Option ObjectValue) → ((n : ℕ) → Has ns n → IsGroup (f n)) → ((n : ℕ) → Has ns n → IsFiled c (f n))
    → rebuilt c (contents f ns) q x ≡ with_groups (groups f ns) q x
rebuilt_same c f [] q x good filed = refl
rebuilt_same c f (n ∷ ns) q x good filed =
    ap (rebuilt c (contents f ns) q) (remade_same c (f n) q x (good n (inl refl)).staged (filed n (inl refl)))
    ∙ rebuilt_same c f ns q (with_group (f n) q x) (λ m has. good m (inr has)) (λ m has. filed m (inr has))

pub judged_in_form : (c : Map) (f : ℕ → Group) → AreInForm c f → judged_open c ≡ Ok (contents f (open_groups c))
unfolding judged_open
judged_in_form c f is = all_judged c f [] (open_groups c) (open_groups_rise c) is.number is.good is.filed is.apart (λ n q has mine was. was)

pub recovered_in_form : (c : Map) (f : ℕ → Group) → AreInForm c f → IsRecovered c (applied c (groups f (open_groups c)))
recovered_in_form c f is =
    subst (λ (m : Map). IsRecovered c m)
    (λ i q. ap (λ (x : Option ObjectValue). cond (is_below jobs q) None x) (rebuilt_same c f (open_groups c) q (c q) is.good is.filed) i)
    (recovered_is c (contents f (open_groups c)) (judged_in_form c f is))

-- the members of the list of groups
pub groups_has : (f : ℕ → Group) (ns : List ℕ) (h : Group) → Has (groups f ns) h → (n : ℕ) × Has ns n × (h ≡ f n)
groups_has f [] h has = absurd has
groups_has f (n ∷ ns) h (inl e) = (n, inl refl, sym e)
groups_has f (n ∷ ns) h (inr has) = let k = groups_has f ns h has in (k.0, inr k.1, k.2)

pub has_groups : (f : ℕ → Group) (ns : List ℕ) (n : ℕ) → Has ns n → Has (groups f ns) (f n)
has_groups f [] n has = absurd has
has_groups f (m ∷ ns) n (inl e) = inl (ap f e)
has_groups f (m ∷ ns) n (inr has) = inr (has_groups f ns n has)
