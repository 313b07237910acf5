-- Paths that are held, package by package.
use Rattle.std.proofs.Common.{◌≡◌, ◌∙◌, ◌++◌, ◌||◌, ◌<◌, ◌≤◌, ◌+◌, ℕ, zero, suc, Bool, true, false, cond, List, [], ◌∷◌, Option, Some, Vec, Global, ap, append-nil, arith, get_or, inl, inr, length, map, refl, subst, sym, take}
use Rattle.std.specs.Prelude.{◌↔◌, bytes_eq, if◌then◌else◌}
use Rattle.std.specs.List.{list_any}
use Rattle.std.proofs.lemmas.Bool.{cases_Bool}
use Rattle.std.proofs.lemmas.List.{map-append}
use Rattle.std.proofs.lemmas.List.Folds.{list_any_more}
use Rattle.std.proofs.lemmas.Slice.Eq.{bytes_eq-Decides}
use Rattle.basics.specs.Members.{AreDistinct, Has}
use Rattle.basics.proofs.Membership.{has-append_cases, has-append_right, has-map}
use Rattle.basics.proofs.Tests.{cond-or, or-assoc}
use Rattle.basics.proofs.Texts.{bytes_eq-same}
use Rattle.dep_atom.specs.Ids.{id_text}
use Rattle.file_tree.specs.Disk.{Map}
use Rattle.law_package.proofs.Places.{distinct_front}
use Rattle.plan_law.specs.Plans.{Group, Removal}
use Rattle.basics.proofs.Members.{passes_some}
use Rattle.vdb_law.specs.Database.{folder_name}
use Rattle.vdb_law.specs.Packages.{Installed}
use Rattle.vdb_law.specs.Step.{Owns}
use Rattle.merge_group.specs.Working.{all_in}
use Rattle.merge_group.specs.declared.files.Files.{Files}
use Rattle.merge_fit.specs.Images.{path_of}
use Rattle.file_tree.specs.PathSets.{HasSame}
use Rattle.run_files.specs.Keys.{folder_of}
use Rattle.run_files.specs.Removing.{AddsFree}
use Rattle.run_files.specs.declared.newcomer.Newcomer.{Newcomer}
use Rattle.run_turns.specs.Held.{HoldOwned, Holdings, holding, holding_all, paths_or_none}
use Rattle.run_turns.specs.Plans.{names_folder}

pub held_cond : (b : Bool) (v : Vec (List ℕ) Global) (o : Option (Vec (List ℕ) Global)) → paths_or_none (cond b (Some v) o) ≡ (if b then v.items else paths_or_none o)
held_cond true v o = refl
held_cond false v o = refl

last_new : (xs : List (List ℕ)) (y : List ℕ) → AreDistinct (xs ++ y ∷ []) → Has xs y → ⊥
last_new [] y distinct has = has
last_new (x ∷ xs) y distinct (inl e) = distinct.0 (has-append_right xs (y ∷ []) x (inl (sym e)))
last_new (x ∷ xs) y distinct (inr has) = last_new xs y distinct.1 has

module _ (m : Map) (plan : List Group) (ps : List Installed) (p : Installed) (old : Holdings) (before : HoldOwned m ps plan old) where
  pushed : map folder_name (ps ++ p ∷ []) ≡ map folder_name ps ++ folder_name p ∷ []
  pushed = map-append folder_name ps (p ∷ [])

  first : AreDistinct (map folder_name (ps ++ p ∷ [])) → AreDistinct (map folder_name ps)
  first distinct = distinct_front (map folder_name ps) (folder_name p ∷ []) (subst (λ (l : List (List ℕ)). AreDistinct l) pushed distinct)

  other : AreDistinct (map folder_name (ps ++ p ∷ [])) → (r : Installed) → Has ps r → bytes_eq (folder_name p) (folder_name r) ≡ true → ⊥
  other distinct r has e =
      last_new (map folder_name ps) (folder_name p) (subst (λ (l : List (List ℕ)). AreDistinct l) pushed distinct)
      (subst (λ (t : List ℕ). Has (map folder_name ps) t) (sym ((bytes_eq-Decides (folder_name p) (folder_name r)).0 e)) (has-map folder_name ps r has))

  -- one package more, whose paths are held
  pub hold_more : (paths : List (List ℕ)) (new : Holdings) → ((q : List ℕ) → Has paths q ↔ Owns m p q) → ((f : List ℕ) → new f ≡ holding (folder_name p) paths old f) → HoldOwned m (ps ++ p ∷ []) plan new
  hold_more paths new owned is distinct r g has hasg named q = elim (has-append_cases ps (p ∷ []) r has) [
    | inl earlier ↦ (
        let apart : bytes_eq (folder_name p) (folder_name r) ≡ false = elim (cases_Bool (bytes_eq (folder_name p) (folder_name r))) [
          | inl e ↦ absurd (other distinct r earlier e)
          | inr e ↦ e
        ] in
        let same : new (folder_name r) ≡ old (folder_name r) = is (folder_name r) ∙ ap (λ (b : Bool). if b then paths else old (folder_name r)) apart in
        subst (λ (l : List (List ℕ)). Has l q ↔ Owns m r q) (sym same) (before (first distinct) r g earlier hasg named q))
    | inr last ↦ elim last [
      | inl e ↦ (
          let mine : new (folder_name p) ≡ paths = is (folder_name p) ∙ ap (λ (b : Bool). if b then paths else old (folder_name p)) (bytes_eq-same (folder_name p)) in
          subst (λ (x : Installed). Has (new (folder_name x)) q ↔ Owns m x q) e (subst (λ (l : List (List ℕ)). Has l q ↔ Owns m p q) (sym mine) (owned q)))
      | inr none ↦ absurd none
    ]
  ]

  -- .. and one that no removal names
  pub hold_other : list_any (λ (g : Group). names_folder g.removals (folder_name p)) plan ≡ false → HoldOwned m (ps ++ p ∷ []) plan old
  hold_other unnamed distinct r g has hasg named q = elim (has-append_cases ps (p ∷ []) r has) [
    | inl earlier ↦ before (first distinct) r g earlier hasg named q
    | inr last ↦ elim last [
      | inl e ↦ absurd (
          let there : list_any (λ (x : Group). names_folder x.removals (folder_name r)) plan ≡ true = passes_some (λ (x : Group). names_folder x.removals (folder_name r)) plan g hasg named in
          let here : list_any (λ (x : Group). names_folder x.removals (folder_name p)) plan ≡ true = subst (λ (x : Installed). list_any (λ (y : Group). names_folder y.removals (folder_name x)) plan ≡ true) (sym e) there in
          cc (here, unnamed))
      | inr none ↦ absurd none
    ]
  ]

-- ---- the folders that removals name

-- one folder more
pub folder_more : (rs : List Removal) (i : ℕ) (r : Removal) (folder : List ℕ) (was old new : List ℕ → Bool) → i < length rs → r ≡ get_or rs i r → folder ≡ id_text r.id
    → ((q : List ℕ) → old q ≡ (was q || names_folder (take i rs) q)) → ((q : List ℕ) → new q ≡ cond (bytes_eq folder q) true (old q)) → (q : List ℕ) → new q ≡ (was q || names_folder (take (i + 1) rs) q)
folder_more rs i r folder was old new lt is text so_far changed q =
    let f : Removal → Bool = λ x. bytes_eq (id_text x.id) q in
    changed q ∙ (cond-or (bytes_eq folder q) (old q)
    ∙ (ap (λ (b : Bool). old q || b) (ap (λ (t : List ℕ). bytes_eq t q) text ∙ ap f is)
    ∙ (ap (λ (b : Bool). b || f (get_or rs i r)) (so_far q)
    ∙ (or-assoc (was q) (names_folder (take i rs) q) (f (get_or rs i r)) ∙ ap (λ (b : Bool). was q || b) (sym (list_any_more f rs i r lt))))))

-- ---- what a site is opened for

pub take_whole : {A : Type 0} (xs : List A) (n : ℕ) → length xs ≤ n → take n xs ≡ xs
take_whole [] zero le = refl
take_whole [] (suc n) le = refl
take_whole (x ∷ xs) zero le = absurd (omega (arith, le))
take_whole {A = A} (x ∷ xs) (suc n) le = ap (λ (l : List A). x ∷ l) (take_whole xs n (omega (arith, le)))

-- ---- packages that come

pub holding_push : (ns : List Newcomer) (fs : List Files) (n : Newcomer) (f : Files) (held : Holdings) (q : List ℕ) → length fs ≡ length ns
    → holding_all (ns ++ n ∷ []) (fs ++ f ∷ []) held q ≡ holding (folder_of n.pkg) (map path_of (all_in f)) (holding_all ns fs held) q
holding_push [] [] n f held q e = refl
holding_push [] (x ∷ fs) n f held q e = absurd (cc e)
holding_push (x ∷ ns) [] n f held q e = absurd (cc e)
holding_push (x ∷ ns) (y ∷ fs) n f held q e = holding_push ns fs n f (holding (folder_of x.pkg) (map path_of (all_in y)) held) q (omega (arith, e))

pub holding_next : (ns : List Newcomer) (fs : List Files) (n : Newcomer) (f : Files) (held mid new : Holdings) → length fs ≡ length ns → ((q : List ℕ) → mid q ≡ holding_all ns fs held q)
    → ((q : List ℕ) → new q ≡ holding (folder_of n.pkg) (map path_of (all_in f)) mid q) → (q : List ℕ) → new q ≡ holding_all (ns ++ n ∷ []) (fs ++ f ∷ []) held q
holding_next ns fs n f held mid new long before is q =
    is q ∙ (ap (λ (l : List (List ℕ)). if bytes_eq (folder_of n.pkg) q then map path_of (all_in f) else l) (before q) ∙ sym (holding_push ns fs n f held q long))

-- what is removed of what is held
pub removed_of : (going placed old new : List (List ℕ)) → old ≡ [] → AddsFree placed going old new → (q : List ℕ) → Has new q ↔ (Has going q × ¬ Has placed q)
removed_of going placed old new none adds q = (
  λ has. elim ((adds.members q).0 has) [
    | inl before ↦ absurd (subst (λ (l : List (List ℕ)). Has l q) none before)
    | inr k ↦ k
  ],
  λ k. (adds.members q).1 (inr k),
)

pub none_old : (placed taken old : List (List ℕ)) → old ≡ [] → HasSame taken placed → HasSame taken (placed ++ old)
none_old placed taken old none same = subst (λ (l : List (List ℕ)). HasSame taken l) (sym (append-nil placed) ∙ ap (λ (l : List (List ℕ)). placed ++ l) (sym none)) same
