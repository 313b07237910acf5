-- Images that builders make one after another.
use Rattle.std.proofs.Common.{◌≡◌, ◌∙◌, ◌++◌, ◌<◌, ◌≤◌, ◌+◌, ℕ, Bool, List, [], ◌∷◌, Err, Some, ap, arith, get_or, inl, inr, length, map, refl, subst, sym, take}
use Rattle.std.specs.Prelude.{IfErr, slice_get}
use Rattle.std.specs.List.{AllZip}
use Rattle.std.proofs.lemmas.List.{map-append, take_more}
use Rattle.std.proofs.lemmas.Option.{slice_get_read}
use Rattle.basics.specs.Members.{Has}
use Rattle.build_pool.specs.Pool.{PoolValue, PoolRose, faults_of}
use Rattle.build_pool.specs.declared.orders.Order.{Order}
use Rattle.file_tree.specs.Disk.{CountsFault}
use Rattle.file_tree.specs.declared.fault.TreeFault.TheVariants as trees
use Rattle.file_tree.specs.declared.objects.Entry.{Entry}
use Rattle.pkg_state.specs.Package.{Package}
use Rattle.merge_group.specs.Causes.{IsOfGroup}
use Rattle.merge_group.specs.declared.stop.Stop.{Stop}
use Rattle.merge_group.specs.declared.stop.Stop.TheVariants as merges
use Rattle.run_files.specs.Made.{package_of}
use Rattle.run_files.specs.declared.newcomer.Newcomer.{Newcomer}
use Rattle.run_files.proofs.Zips.{zip_push}
use Rattle.merge_image.specs.Images.{HasMany, IsBuilt, IsPastLimit, TellAlike}
use Rattle.run_turns.specs.Plans.{orders_at, orders_of_job}
use Rattle.run_turns.specs.declared.job.Job.{Job}
use Rattle.run_plan.specs.Runs.{SaysBuild, StopsBuild, StopsOrder, merge_end}
use Rattle.run_plan.specs.declared.stop.PlanStop.{PlanStop}
use Rattle.run_plan.specs.declared.stop.PlanStop.TheVariants as stops
use Rattle.run_plan.proofs.Whole.{fails_so}

pub read_at : {A : Type 0} (xs : List A) (i : ℕ) (x : A) → i < length xs → x ≡ get_or xs i x → slice_get xs i ≡ Some x
read_at xs i x lt is = slice_get_read xs (length xs) i x refl lt is

pub orders_here : (jobs : List Job) (place : ℕ) (job : Job) → place < length jobs → job ≡ get_or jobs place job → orders_at jobs place ≡ job.orders.items
orders_here jobs place job lt is = ap orders_of_job (read_at jobs place job lt is)

module _ {B : Type 0} (told : B → Order → List Entry) where
  pub alike_then : (first mid last : List B) → TellAlike told first mid → TellAlike told mid last → TellAlike told first last
  alike_then first mid last one two b has =
      let k = two b has in
      let j = one k.0 k.1 in
      (j.0, j.1, k.2 ∙ j.2)

  pub past_before : (tells : Bool) (first last : List B) (o : Order) → TellAlike told first last → IsPastLimit tells told last o → IsPastLimit tells told first o
  past_before tells first last o alike past =
      let k = alike past.0 past.1 in
      (k.0, k.1, subst (λ (f : Order → List Entry). HasMany tells (f o)) k.2 past.2)

  pub built_before : (tells : Bool) (first last : List B) (o : Order) (image : List Entry) → TellAlike told first last → IsBuilt tells told last o image → IsBuilt tells told first o image
  built_before tells first last o image alike built =
      let k = alike built.0 built.1 in
      (k.0, k.1, λ t. sym (ap (λ (f : Order → List Entry). f o) k.2) ∙ built.2 t)

  pub all_built : (tells : Bool) (first last : List B) (os : List Order) (ns : List Newcomer) → TellAlike told first last → AllZip (λ o n. IsBuilt tells told last o n.image.items) os ns → AllZip (λ o n. IsBuilt tells told first o n.image.items) os ns
  all_built tells first last [] [] alike all = tt
  all_built tells first last [] (n ∷ ns) alike all = absurd all
  all_built tells first last (o ∷ os) [] alike all = absurd all
  all_built tells first last (o ∷ os) (n ∷ ns) alike all = (built_before tells first last o n.image.items alike all.0, all_built tells first last os ns alike all.1)

pub rose_before : {B : Type 0} (faults : B → ℕ) (old mid new : PoolValue B) → faults_of faults old ≤ faults_of faults mid → PoolRose faults mid new → PoolRose faults old new
rose_before faults old mid new le (inl lt) = inl (omega (arith, le, lt))
rose_before faults old mid new le (inr full) = inr full

module _ (M N : Order → Type 0) (F G : Type 0) (weaker : (o : Order) → M o → N o) (rose : F → G) where
  pub order_stops : (os : List Order) (o : Order) (e : PlanStop) → Has os o → StopsOrder M F o e → StopsBuild N G os e
  order_stops os o (stops.Merge s) has why = why
  order_stops os o (stops.Build id) has why = (o, has, why.0, rose why.1)
  order_stops os o (stops.Image id) has why = (o, has, why.0, weaker o why.1)

  pub says_before : (os : List Order) (e : PlanStop) → StopsBuild M F os e → SaysBuild N G os e
  says_before os (stops.Merge s) why = tt
  says_before os (stops.Build id) why = (why.0, why.1, why.2, rose why.3)
  says_before os (stops.Image id) why = (why.0, why.1, why.2, weaker why.0 why.3)

pub build_plain : (M : Order → Type 0) (F : Type 0) (os : List Order) (e : PlanStop) → StopsBuild M F os e → IfErr (merge_end {A = Unit {0}} tt (Err e)) (λ s. IsOfGroup s → ⊥)
build_plain M F os (stops.Merge s) why = subst (λ (x : Stop). IsOfGroup x → ⊥) (sym why) (λ of. of)
build_plain M F os (stops.Build id) why = tt
build_plain M F os (stops.Image id) why = tt

-- a stop of a build is one of the merge for want of memory alone
built_other : (M : Order → Type 0) (F : Type 0) (os : List Order) (e : PlanStop) (s : Stop) → StopsBuild M F os e → (s ≡ merges.Tree trees.Memory → ⊥) → fails_so (Err e) s → ⊥
built_other M F os (stops.Merge r) s why other failed = let same : r ≡ s = cc failed in other (sym same ∙ why)
built_other M F os (stops.Build id) s why other failed = absurd (cc failed)
built_other M F os (stops.Image id) s why other failed = absurd (cc failed)

pub build_counts : (M : Order → Type 0) (F : Type 0) (os : List Order) (e : PlanStop) (s : Stop) (a b : ℕ) → StopsBuild M F os e → (s ≡ merges.Tree trees.Memory → ⊥) → a ≤ b → CountsFault (fails_so (Err e) s) a b
build_counts M F os e s a b why other le = record { later = le; rose = λ failed. absurd (built_other M F os e s why other failed) }

-- one newcomer more
pub brings_more : (old new : List Newcomer) (n : Newcomer) (ps : List Package) (i : ℕ) (p : Package) → i < length ps → p ≡ get_or ps i p → map package_of old ≡ take i ps → n.pkg ≡ p → new ≡ old ++ n ∷ [] → map package_of new ≡ take (i + 1) ps
brings_more old new n ps i p lt is so_far same pushed =
    ap (map package_of) pushed ∙ (map-append package_of old (n ∷ []) ∙ (ap (λ (l : List Package). l ++ n.pkg ∷ []) so_far
    ∙ (ap (λ (x : Package). take i ps ++ x ∷ []) (same ∙ is) ∙ sym (take_more ps i p lt))))

pub images_more : (P : Order → Newcomer → Type 0) (old new : List Newcomer) (n : Newcomer) (os : List Order) (i : ℕ) (o : Order) → i < length os → o ≡ get_or os i o → AllZip P (take i os) old → P o n → new ≡ old ++ n ∷ [] → AllZip P (take (i + 1) os) new
images_more P old new n os i o lt is so_far one pushed =
    subst (λ (l : List Newcomer). AllZip P (take (i + 1) os) l) (sym pushed)
    (subst (λ (l : List Order). AllZip P l (old ++ n ∷ [])) (ap (λ (x : Order). take i os ++ x ∷ []) is ∙ sym (take_more os i o lt)) (zip_push P (take i os) old o n so_far one))
