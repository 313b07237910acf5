-- Why the run of a group was stopped, by what its calls said.
use Rattle.std.proofs.Common.{◌≡◌, ◌⊎◌, ◌<◌, ◌++◌, ◌∙◌, ℕ, Bool, true, List, [], ◌∷◌, Result, Ok, Err, inl, inr, refl, ap, subst, sym, length, take, get_or, map, append_assoc, arith}
use Rattle.std.specs.Prelude.{IfErr}
use Rattle.std.specs.List.{AllByRecursion}
use Rattle.std.proofs.lemmas.Grind.{flat_map-append}
use Rattle.std.proofs.lemmas.List.{get_or-set_same, length-append, length-map, length-set, length_push, map-append, take_more}
use Rattle.basics.proofs.Each.{all-append}
use Rattle.file_tree.specs.Disk.{Map}
use Rattle.file_tree.specs.Faults.{IsOfMachine}
use Rattle.file_tree.specs.declared.objects.Entry.{Entry}
use Rattle.merge_fit.specs.Images.{IsFirst, is_good}
use Rattle.merge_fit.specs.Misfits.{AreGood, IsBad}
use Rattle.merge_fit.proofs.Ways.{first_at}
use Rattle.merge_record.specs.declared.record.OwnerKey.{OwnerKey}
use Rattle.owner_book.specs.Book.{Book}
use Rattle.owner_book.specs.declared.wish.Wish.{Wish}
use Rattle.merge_record.specs.Spelling.{PassesLimit}
use Rattle.merge_record.specs.declared.record.Placement.{Placement}
use Rattle.merge_core.specs.Event.{put_content}
use Rattle.merge_core.specs.CoreValue.{machine_of}
use Rattle.merge_site.specs.Booking.{wish_for, wishes_at, with_wish}
use Rattle.merge_site.specs.Site.{SiteValue}
use Rattle.merge_site.specs.Staging.{IsStageFault, placement_of}
use Rattle.merge_site.specs.declared.fault.SiteFault.{SiteFault}
use Rattle.merge_site.specs.declared.fault.SiteFault.TheVariants as sites
use Rattle.merge_site.specs.declared.fault.StageFault.{StageFault}
use Rattle.merge_site.specs.declared.fault.StageFault.TheVariants as stages
use Rattle.merge_site.specs.declared.group.SiteGroup.{SiteGroup}
use Rattle.merge_group.specs.Causes.{IsPlain, StopsChanges, StopsRecord, StopsStages}
use Rattle.merge_group.specs.Granted.{wishes_for}
use Rattle.merge_group.specs.Stops.{stop_of_site, stop_of_stage}
use Rattle.merge_group.specs.Working.{Changes, HasStaged, all_in, all_of, object_of, standing_at}
use Rattle.merge_group.specs.declared.files.Files.{Files}
use Rattle.merge_group.specs.declared.stop.Stop.{Stop}
use Rattle.merge_group.specs.declared.stop.Stop.TheVariants as stops

-- a result with one error alone
pub only_err : {A : Type 0} (P : Stop → Type 0) (x : Stop) → P x → (r : Result A Stop) → IfErr r (λ e. e ≡ x) → IfErr r P
only_err P x p (Ok a) h = tt
only_err P x p (Err e) h = subst P (sym h) p

pub err_weaker : {A : Type 0} (P Q : Stop → Type 0) → ((e : Stop) → P e → Q e) → (r : Result A Stop) → IfErr r P → IfErr r Q
err_weaker P Q so (Ok a) h = tt
err_weaker P Q so (Err e) h = so e h

-- a record that the site refused passes a limit
pub record_stops : {T S : Type 0} (f : SiteFault) (a : SiteValue T S) (c : Changes) (g : ℕ) (removals : List (List ℕ)) → removals ≡ c.removals → HasStaged c.files (standing_at a g)
    → (f ≡ sites.Limit → PassesLimit (put_content (machine_of a.keeping) g removals)) → StopsRecord g c (stop_of_site f)
record_stops (sites.Tree of) a c g removals is has limit = tt
record_stops sites.Limit a c g removals is has limit =
    subst (λ (l : List (List ℕ)). PassesLimit (record { group = g; removals = l; placements = map placement_of c.files })) is
    (subst (λ (l : List Placement). PassesLimit (record { group = g; removals = removals; placements = l })) has.placements (limit refl))

pub plain_cause : (tells : Bool) (m : Map) (b : Book) (xs : List SiteGroup) (c : Changes) (g : ℕ) (e : Stop) → IsPlain e → StopsChanges tells m b xs c g e
plain_cause tells m b xs c g (stops.Tree of) h = tt
plain_cause tells m b xs c g stops.Output h = tt
plain_cause tells m b xs c g (stops.Image bad) h = absurd h
plain_cause tells m b xs c g (stops.Claim s) h = absurd h
plain_cause tells m b xs c g stops.Limit h = absurd h

pub staged_cause : (tells : Bool) (m : Map) (b : Book) (xs : List SiteGroup) (c : Changes) (g : ℕ) (e : Stop) → StopsStages [] c.files e → StopsChanges tells m b xs c g e
staged_cause tells m b xs c g (stops.Tree of) h = tt
staged_cause tells m b xs c g stops.Output h = tt
staged_cause tells m b xs c g (stops.Image bad) h = h
staged_cause tells m b xs c g (stops.Claim s) h = absurd h
staged_cause tells m b xs c g stops.Limit h =
    let n = length-map c.files placement_of in
    inr (inl (omega (arith, h, n)))

pub record_cause : (tells : Bool) (m : Map) (b : Book) (xs : List SiteGroup) (c : Changes) (g : ℕ) (e : Stop) → StopsRecord g c e → StopsChanges tells m b xs c g e
record_cause tells m b xs c g (stops.Tree of) h = tt
record_cause tells m b xs c g stops.Output h = tt
record_cause tells m b xs c g (stops.Image bad) h = absurd h
record_cause tells m b xs c g (stops.Claim s) h = absurd h
record_cause tells m b xs c g stops.Limit h = h

-- ---- files that are staged one after the other

pub front_push : {A : Type 0} (all done : List A) (e : A) → done ≡ take (length done) all → length done < length all → e ≡ get_or all (length done) e → done ++ e ∷ [] ≡ take (length (done ++ e ∷ [])) all
front_push all done e front lt at =
    sym (ap (λ (n : ℕ). take n all) (length_push done e)
    ∙ take_more all (length done) e lt
    ∙ ap (λ x. take (length done) all ++ x ∷ []) (sym at)
    ∙ ap (λ xs. xs ++ e ∷ []) (sym front))

pub stage_stops : {T S : Type 0} (f : StageFault) (a : SiteValue T S) (g : ℕ) (before all done : List Entry) (e : Entry) → HasStaged (before ++ done) (standing_at a g) → AreGood done → done ≡ take (length done) all → length done < length all
    → e ≡ get_or all (length done) e → IsStageFault a.keeping g e f → StopsStages before all (stop_of_stage f)
stage_stops (stages.Tree of) a g before all done e has good front lt at h = tt
stage_stops (stages.Image bad) a g before all done e has good front lt at h =
    first_at (λ x. is_good x ≡ true) (IsBad bad) all (length done) e lt at (subst (λ (l : List Entry). AreGood l) front good) h
stage_stops stages.Limit a g before all done e has good front lt at h =
    let n = ap length has.objects ∙ (length-map (before ++ done) object_of ∙ length-append before done) in
    let whole = length-append before all in
    omega (arith, h.1, n, whole, lt)

first_more : {A : Type 0} (P Q : A → Type 0) (xs ys : List A) → IsFirst P Q xs → IsFirst P Q (xs ++ ys)
first_more P Q xs ys f = record {
  front = f.front;
  here = f.here;
  back = f.back ++ ys;
  is = ap (λ l. l ++ ys) f.is ∙ append_assoc f.front (f.here ∷ f.back) ys;
  before = f.before;
  has = f.has;
}

first_behind : {A : Type 0} (P Q : A → Type 0) (xs ys : List A) → AllByRecursion P xs → IsFirst P Q ys → IsFirst P Q (xs ++ ys)
first_behind P Q xs ys all f = record {
  front = xs ++ f.front;
  here = f.here;
  back = f.back;
  is = ap (λ l. xs ++ l) f.is ∙ sym (append_assoc xs f.front (f.here ∷ f.back));
  before = all-append P xs f.front all f.before;
  has = f.has;
}

-- what stops the first of some files stops all of them
pub stages_more : (before xs ys : List Entry) (e : Stop) → StopsStages before xs e → StopsStages before (xs ++ ys) e
stages_more before xs ys (stops.Tree of) h = tt
stages_more before xs ys stops.Output h = absurd h
stages_more before xs ys (stops.Image b) h = first_more (λ x. is_good x ≡ true) (IsBad b) xs ys h
stages_more before xs ys (stops.Claim s) h = absurd h
stages_more before xs ys stops.Limit h =
    let short = length-append before xs in
    let long = length-append before (xs ++ ys) in
    let n = length-append xs ys in
    omega (arith, h, short, long, n)

-- .. and so does what stops those behind good ones
pub stages_behind : (before xs ys : List Entry) (e : Stop) → AreGood xs → StopsStages (before ++ xs) ys e → StopsStages before (xs ++ ys) e
stages_behind before xs ys (stops.Tree of) all h = tt
stages_behind before xs ys stops.Output all h = absurd h
stages_behind before xs ys (stops.Image b) all h = first_behind (λ x. is_good x ≡ true) (IsBad b) xs ys all h
stages_behind before xs ys (stops.Claim s) all h = absurd h
stages_behind before xs ys stops.Limit all h =
    let same = ap (λ (l : List Entry). length l) (append_assoc before xs ys) in
    omega (arith, h, same)

-- .. so what stops a package behind good ones stops all packages
pub packages_stop : (ps behind all : List Files) (files : Files) (e : Stop) → all ≡ ps ++ files ∷ behind → AreGood (all_of ps) → StopsStages (all_of ps) (all_in files) e → StopsStages [] (all_of all) e
packages_stop ps behind all files e split good h =
    subst (λ (l : List Entry). StopsStages [] l e) (sym (ap all_of split ∙ flat_map-append all_in ps (files ∷ behind)))
    (stages_behind [] (all_of ps) (all_in files ++ all_of behind) e good (stages_more (all_of ps) (all_in files) (all_of behind) e h))

-- ---- what is wished

pub rows_kept : (ws next : List (List Wish)) (g : ℕ) (w : Wish) → next ≡ with_wish ws g w → length next ≡ length ws
rows_kept ws next g w is = ap length is ∙ length-set ws g (wishes_at ws g ++ w ∷ [])

pub wished_on : (ws next : List (List Wish)) (g : ℕ) (k : OwnerKey) (folder : Bool) (before : List Wish) (done : List Entry) (e : Entry) → g < length ws → next ≡ with_wish ws g (wish_for k folder e) → wishes_at ws g ≡ before ++ wishes_for k folder done
    → wishes_at next g ≡ before ++ wishes_for k folder (done ++ e ∷ [])
wished_on ws next g k folder before done e lt is here =
    ap (λ (x : List (List Wish)). wishes_at x g) is
    ∙ (get_or-set_same ws g (wishes_at ws g ++ wish_for k folder e ∷ []) [] lt
    ∙ (ap (λ (l : List Wish). l ++ wish_for k folder e ∷ []) here
    ∙ (append_assoc before (wishes_for k folder done) (wish_for k folder e ∷ []) ∙ ap (λ (l : List Wish). before ++ l) (sym (map-append (wish_for k folder) done (e ∷ []))))))

-- ---- the whole run

pub end_told : {A : Type 0} (r : Result A Stop) → IfErr r (λ e. IsOfMachine stops.Tree e ⊎ (r ≡ Err e))
end_told (Ok a) = tt
end_told (Err e) = inr refl
