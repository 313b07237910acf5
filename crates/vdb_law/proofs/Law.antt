-- A group takes a kept tree with a database to a kept tree with the database after it.
use Rattle.std.proofs.Common.{◌≡◌, ◌⊎◌, ◌∙◌, ◌||◌, ℕ, Bool, true, false, cond, List, [], ◌∷◌, Option, Some, None, refl, ap, sym, subst, inl, inr}
use Rattle.std.specs.Prelude.{bytes_eq, IsSome}
use Rattle.std.proofs.lemmas.Bool.{true≢false, cases_Bool, cond-true, cond-false, false≢true, or_parts}
use Rattle.basics.specs.Members.{Has}
use Rattle.basics.proofs.Membership.{has-map, has-map_back}
use Rattle.basics.proofs.Tests.{none_is_not_some, some-IsSome}
use Rattle.file_tree.specs.Disk.{Map}
use Rattle.file_tree.specs.Paths.{is_below}
use Rattle.file_tree.specs.ObjectValue.{ObjectValue}
use Rattle.merge_journal.specs.Judging.{meets_jobs}
use Rattle.file_tree.specs.PathSets.{is_in}
use Rattle.file_tree.specs.Fixed.{jobs}
use Rattle.merge_record.specs.declared.record.Placement.{Placement}
use Rattle.file_tree.proofs.PathSets.{has_if_in, in_if_has}
use Rattle.vdb_contents.specs.Contents.{is_dropped, meets, path_of}
use Rattle.vdb_law.specs.Database.{Holds, IsCounted, IsDatabase, IsKept, IsOf, folder}
use Rattle.vdb_law.specs.Fields.{Folder, Says}
use Rattle.dep_atom.specs.Ids.{IsId, id_text}
use Rattle.dep_atom.specs.declared.package.PackageId.{PackageId}
use Rattle.dep_atom.proofs.Joined.{ComesApart}
use Rattle.vdb_paths.specs.Files.{package_file_path}
use Rattle.file_tree.specs.Fixed.{database_path}
use Rattle.vdb_paths.proofs.Packages.{OneSpelling, one_id}
use Rattle.merge_journal.specs.Group.{Group, applied, with_group, with_groups, with_placements}
use Rattle.vdb_contents.specs.declared.owned.Content.{Content}
use Rattle.vdb_contents.specs.declared.owned.Content.TheVariants.{File, Link}
use Rattle.vdb_contents.specs.declared.owned.Owned.{Owned}
use Rattle.vdb_law.specs.Packages.{Installed, id_of, paths}
use Rattle.vdb_law.specs.Step.{GroupKeepsDatabase, GroupsKeepDatabase, IsAfter, IsApart, IsStep, Puts, Removes, Stays, groups_of, put}
use Rattle.vdb_law.proofs.Places.{cases_option, counted_below, counted_dropped, counted_of, counted_outside, mark, one_of_rising, path_free, says_mark}

-- one more placement, by whether it is at the path
placed_step : (p : Placement) (ps : List Placement) (o : ObjectValue) (os : List ObjectValue) (q : List ℕ) (x : Option ObjectValue) (b : Bool) → bytes_eq q p.path ≡ b → with_placements (p ∷ ps) (o ∷ os) q x ≡ with_placements ps os q (cond b (Some o) x)
placed_step p ps o os q x b is = ap (λ (c : Bool). with_placements ps os q (cond c (Some o) x)) is

-- an object that is put stays till a later placement
placed_not_none : (ps : List Placement) (os : List ObjectValue) (q : List ℕ) (t : ObjectValue) → with_placements ps os q (Some t) ≡ None → ⊥
placed_not_none [] os q t e = cc e
placed_not_none (p ∷ ps) [] q t e = cc e
placed_not_none (p ∷ ps) (o ∷ os) q t e = elim (cases_Bool (bytes_eq q p.path)) [
  | inl is ↦ placed_not_none ps os q o (sym (placed_step p ps o os q (Some t) true is) ∙ e)
  | inr is ↦ placed_not_none ps os q t (sym (placed_step p ps o os q (Some t) false is) ∙ e)
]

-- what is put, whatever stood there
placed_some : (ps : List Placement) (os : List ObjectValue) (q : List ℕ) (x : Option ObjectValue) (t : ObjectValue) → with_placements ps os q None ≡ Some t → with_placements ps os q x ≡ Some t
placed_some [] os q x t e = absurd (cc e)
placed_some (p ∷ ps) [] q x t e = absurd (cc e)
placed_some (p ∷ ps) (o ∷ os) q x t e = elim (cases_Bool (bytes_eq q p.path)) [
  | inl is ↦ placed_step p ps o os q x true is ∙ (sym (placed_step p ps o os q None true is) ∙ e)
  | inr is ↦ placed_step p ps o os q x false is ∙ placed_some ps os q x t (sym (placed_step p ps o os q None false is) ∙ e)
]

-- what is not put is as it was
placed_none : (ps : List Placement) (os : List ObjectValue) (q : List ℕ) (x : Option ObjectValue) → with_placements ps os q None ≡ None → with_placements ps os q x ≡ x
placed_none [] os q x e = refl
placed_none (p ∷ ps) [] q x e = refl
placed_none (p ∷ ps) (o ∷ os) q x e = elim (cases_Bool (bytes_eq q p.path)) [
  | inl is ↦ absurd (placed_not_none ps os q o (sym (placed_step p ps o os q None true is) ∙ e))
  | inr is ↦ placed_step p ps o os q x false is ∙ placed_none ps os q x (sym (placed_step p ps o os q None false is) ∙ e)
]

module _ (does : Group) (m : Map) (q : List ℕ) (outside : is_below jobs q ≡ false) where
  out : applied m (does ∷ []) q ≡ with_placements does.content.placements does.objects q (cond (is_in does.content.removals q) None (m q))
  out = cond-false (is_below jobs q) None (with_group does q (m q)) outside

  holds_put : (t : ObjectValue) → put does q ≡ Some t → applied m (does ∷ []) q ≡ Some t
  holds_put t e = out ∙ placed_some does.content.placements does.objects q (cond (is_in does.content.removals q) None (m q)) t e

  loses : put does q ≡ None → is_in does.content.removals q ≡ true → applied m (does ∷ []) q ≡ None
  loses e is = out ∙ placed_none does.content.placements does.objects q (cond (is_in does.content.removals q) None (m q)) e ∙ cond-true (is_in does.content.removals q) None (m q) is

  keeps : put does q ≡ None → is_in does.content.removals q ≡ false → applied m (does ∷ []) q ≡ m q
  keeps e is = out ∙ placed_none does.content.placements does.objects q (cond (is_in does.content.removals q) None (m q)) e ∙ cond-false (is_in does.content.removals q) None (m q) is

dropped_if_jobs : (q : List ℕ) → is_dropped q ≡ false → is_below jobs q ≡ false
dropped_if_jobs q h =
    let journal : meets_jobs q ≡ false = (or_parts (meets database_path q) (meets_jobs q) h).1 in
    let rest : (is_below jobs q || is_below q jobs) ≡ false = (or_parts (bytes_eq q jobs) (is_below jobs q || is_below q jobs) journal).1 in
    (or_parts (is_below jobs q) (is_below q jobs) rest).0

holds_some : (x : Option ObjectValue) (c : Content) → Holds x c → IsSome x
holds_some x (File digest) h = some-IsSome x h.0 h.1
holds_some x (Link target) h = some-IsSome x _ h

module _ (comes : ComesApart) (spells : OneSpelling) (m : Map) (ps added qs : List Installed) (gone : Installed → Bool) (does : Group)
    (db : IsDatabase m ps) (kept : IsKept m ps) (removes : Removes m ps gone does) (puts : Puts added does) (free : IsApart m ps gone added does) (after : IsAfter ps gone added qs) where
  -- the map with the group applied
  abbrev new : Map
  new = applied m (does ∷ [])

  same_folder : (p g : Installed) → Has ps p → Has ps g → (id_of p) ≡ (id_of g) → p ≡ g
  same_folder p g hp hg e = one_of_rising ps p g db.rising hp hg (ap id_text e)

  same_id : (a b : Installed) (x y : List ℕ) → IsId (id_of a) → IsId (id_of b) → package_file_path (id_of a) x ≡ package_file_path (id_of b) y → (id_of a) ≡ (id_of b)
  same_id a b x y = one_id comes spells (id_of a) (id_of b) x y

  -- no coming package has the folder of one that stays
  not_both : (p a : Installed) → Stays ps gone p → Has added a → (id_of p) ≡ (id_of a) → ⊥
  not_both p a stays has e =
      let none = free.free p (package_file_path (id_of p) mark) stays (inr ((mark, refl), says_mark (folder m (id_of p)) p (db.says p stays.0))) in
      let some = says_mark (folder (put does) (id_of a)) a (puts.says a has) in
      none_is_not_some (put does (package_file_path (id_of p) mark)) none (subst (λ (i : PackageId). IsSome (put does (package_file_path i mark))) (sym e) some)

  module _ (p : Installed) (stays : Stays ps gone p) where
    unput : (name : List ℕ) → put does (package_file_path (id_of p) name) ≡ None
    unput name = elim (cases_option (put does (package_file_path (id_of p) name))) [
      | inl none ↦ none
      | inr some ↦ (
          let q : List ℕ = package_file_path (id_of p) name in
          let from = puts.inside q (counted_below q (counted_of (id_of p) name (db.ids p stays.0))) (some-IsSome (put does q) some.0 some.1) in
          absurd (not_both p from.0 stays from.1 (same_id p from.0 name from.2.0 (db.ids p stays.0) (puts.ids from.0 from.1) from.2.1)))
    ]

    unremoved : (name : List ℕ) → is_in does.content.removals (package_file_path (id_of p) name) ≡ false
    unremoved name = elim (cases_Bool (is_in does.content.removals (package_file_path (id_of p) name))) [
      | inr e ↦ e
      | inl e ↦ (
          let q : List ℕ = package_file_path (id_of p) name in
          let from = removes.only q (has_if_in does.content.removals q e) in
          let is = counted_of (id_of p) name (db.ids p stays.0) in
          elim from.2 [
            | inl own ↦ absurd (true≢false (sym (counted_dropped q is) ∙ (path_free (folder m (id_of from.0)) from.0 q (db.says from.0 from.1.0) own)))
            | inr in-folder ↦ (
                let same : p ≡ from.0 = same_folder p from.0 stays.0 from.1.0 (same_id p from.0 name in-folder.0.0 (db.ids p stays.0) (db.ids from.0 from.1.0) in-folder.0.1) in
                absurd (true≢false (sym (ap gone same ∙ from.1.1) ∙ stays.1)))
          ])
    ]

    pub folder_stays : folder new (id_of p) ≡ folder m (id_of p)
    folder_stays = λ i name.
        keeps does m (package_file_path (id_of p) name) (counted_outside (package_file_path (id_of p) name) (counted_of (id_of p) name (db.ids p stays.0))) (unput name) (unremoved name) i

    says_stays : Says (folder new (id_of p)) p
    says_stays = subst (λ (f : Folder). Says f p) (sym folder_stays) (db.says p stays.0)

  -- what stands in a coming package's folder was put
  module _ (a : Installed) (has : Has added a) (name : List ℕ) where
    unput_is_none : put does (package_file_path (id_of a) name) ≡ None → is_in does.content.removals (package_file_path (id_of a) name) ≡ false → m (package_file_path (id_of a) name) ≡ None
    unput_is_none none in-place = elim (cases_option (m (package_file_path (id_of a) name))) [
      | inl e ↦ e
      | inr some ↦ (
          let q : List ℕ = package_file_path (id_of a) name in
          let there = some-IsSome (m q) some.0 some.1 in
          let from = db.all q (counted_of (id_of a) name (puts.ids a has)) there in
          let same = same_id from.0 a from.2.0 name (db.ids from.0 from.1) (puts.ids a has) (sym from.2.1) in
          elim (cases_Bool (gone from.0)) [
            | inl leaves ↦ absurd (true≢false (sym (in_if_has does.content.removals q (removes.all from.0 q (from.1, leaves) (inr (from.2, there)) none)) ∙ in-place))
            | inr stays ↦ absurd (not_both from.0 a (from.1, stays) has same)
          ])
    ]

    pub name_comes : applied m (does ∷ []) (package_file_path (id_of a) name) ≡ put does (package_file_path (id_of a) name)
    name_comes =
        let q : List ℕ = package_file_path (id_of a) name in
        let outside = counted_outside q (counted_of (id_of a) name (puts.ids a has)) in
        elim (cases_option (put does q)) [
          | inr some ↦ holds_put does m q outside some.0 some.1 ∙ sym some.1
          | inl none ↦ elim (cases_Bool (is_in does.content.removals q)) [
            | inl e ↦ loses does m q outside none e ∙ sym none
            | inr e ↦ keeps does m q outside none e ∙ (unput_is_none none e ∙ sym none)
          ]
        ]

  says_comes : (a : Installed) → Has added a → Says (folder new (id_of a)) a
  says_comes a has =
      let same : folder (put does) (id_of a) ≡ folder new (id_of a) = λ i name. sym (name_comes a has name) i in
      subst (λ (f : Folder). Says f a) same (puts.says a has)

  every : (q : List ℕ) → IsCounted q → IsSome (new q) → (p : Installed) × Has qs p × IsOf (id_of p) q
  every q is there = elim (cases_option (put does q)) [
    | inr some ↦ (
        let from = puts.inside q (counted_below q is) (some-IsSome (put does q) some.0 some.1) in
        (from.0, (after.members from.0).1 (inr from.1), from.2))
    | inl none ↦ elim (cases_Bool (is_in does.content.removals q)) [
      | inl e ↦ absurd (none_is_not_some (new q) (loses does m q (counted_outside q is) none e) there)
      | inr e ↦ (
          let before = subst (λ (x : Option ObjectValue). IsSome x) (keeps does m q (counted_outside q is) none e) there in
          let from = db.all q is before in
          elim (cases_Bool (gone from.0)) [
            | inl leaves ↦ absurd (true≢false (sym (in_if_has does.content.removals q (removes.all from.0 q (from.1, leaves) (inr (from.2, before)) none)) ∙ e))
            | inr stays ↦ (from.0, (after.members from.0).1 (inl (from.1, stays)), from.2)
          ])
    ]
  ]

  database_after : IsDatabase new qs
  database_after = record {
    rising = after.rising;
    ids = λ p has. elim ((after.members p).0 has) [ inl stays ↦ db.ids p stays.0 | inr comes ↦ puts.ids p comes ];
    says = λ p has. elim ((after.members p).0 has) [ inl stays ↦ says_stays p stays | inr comes ↦ says_comes p comes ];
    all = every;
  }

  -- a path that a staying package recorded
  module _ (p : Installed) (stays : Stays ps gone p) (q : List ℕ) (own : Has (paths p) q) where
    own_free : is_dropped q ≡ false
    own_free = path_free (folder m (id_of p)) p q (db.says p stays.0) own

    own_unremoved : is_in does.content.removals q ≡ false
    own_unremoved = elim (cases_Bool (is_in does.content.removals q)) [
      | inr e ↦ e
      | inl e ↦ (
          let from = removes.only q (has_if_in does.content.removals q e) in
          elim from.2 [
            | inl theirs ↦ (let same : p ≡ from.0 = kept.tidy.once p from.0 q stays.0 from.1.0 own theirs in absurd (true≢false (sym (ap gone same ∙ from.1.1) ∙ stays.1)))
            | inr in-folder ↦ absurd (true≢false (sym (counted_dropped q (subst IsCounted (sym in-folder.0.1) (counted_of (id_of from.0) in-folder.0.0 (db.ids from.0 from.1.0)))) ∙ own_free))
          ])
    ]

    own_same : applied m (does ∷ []) q ≡ m q
    own_same = keeps does m q (dropped_if_jobs q own_free) (free.free p q stays (inl own)) own_unremoved

  -- a path that a coming package records
  module _ (a : Installed) (has : Has added a) (q : List ℕ) (own : Has (paths a) q) where
    pub own_put : IsSome (put does q)
    own_put =
        let o = has-map_back path_of a.owned q own in
        subst (λ (s : List ℕ). IsSome (put does s)) o.2 (holds_some (put does o.0.path) o.0.content (puts.owned a o.0 has o.1))

  not_owned_twice : (a p : Installed) (q : List ℕ) → Has added a → Stays ps gone p → Has (paths a) q → Has (paths p) q → ⊥
  not_owned_twice a p q has stays mine theirs = none_is_not_some (put does q) (free.free p q stays (inl theirs)) (own_put a has q mine)

  one_owner : (p s : Installed) (q : List ℕ) → (Stays ps gone p ⊎ Has added p) → (Stays ps gone s ⊎ Has added s) → Has (paths p) q → Has (paths s) q → p ≡ s
  one_owner p s q (inl a) (inl b) mine theirs = kept.tidy.once p s q a.0 b.0 mine theirs
  one_owner p s q (inl a) (inr b) mine theirs = absurd (not_owned_twice s p q b a theirs mine)
  one_owner p s q (inr a) (inl b) mine theirs = absurd (not_owned_twice p s q a b mine theirs)
  one_owner p s q (inr a) (inr b) mine theirs = free.once p s q a b mine theirs

  none_above : (p s : Installed) (q t : List ℕ) → (Stays ps gone p ⊎ Has added p) → (Stays ps gone s ⊎ Has added s) → Has (paths p) q → Has (paths s) t → is_below q t ≡ false
  none_above p s q t (inl a) (inl b) mine theirs = kept.tidy.flat p s q t a.0 b.0 mine theirs
  none_above p s q t (inl a) (inr b) mine theirs = (free.beside s p t q b a theirs mine).1
  none_above p s q t (inr a) (inl b) mine theirs = (free.beside p s q t a b mine theirs).0
  none_above p s q t (inr a) (inr b) mine theirs = free.flat p s q t a b mine theirs

  holds_after : (p : Installed) (o : Owned) → (Stays ps gone p ⊎ Has added p) → Has p.owned o → Holds (new o.path) o.content
  holds_after p o (inl stays) has = subst (λ (x : Option ObjectValue). Holds x o.content) (sym (own_same p stays o.path (has-map path_of p.owned o has))) (kept.held p o stays.0 has)
  holds_after p o (inr comes) has =
      let there = puts.owned p o comes has in
      let free' = path_free (folder (put does) (id_of p)) p o.path (puts.says p comes) (has-map path_of p.owned o has) in
      elim (cases_option (put does o.path)) [
        | inl none ↦ absurd (none_is_not_some (put does o.path) none (holds_some (put does o.path) o.content there))
        | inr some ↦ subst (λ (x : Option ObjectValue). Holds x o.content) (some.1 ∙ sym (holds_put does m o.path (dropped_if_jobs o.path free') some.0 some.1)) there
      ]

  kept_after : IsKept new qs
  kept_after = record {
    tidy = record {
      once = λ p s q hp hs mine theirs. one_owner p s q ((after.members p).0 hp) ((after.members s).0 hs) mine theirs;
      flat = λ p s q t hp hs mine theirs. none_above p s q t ((after.members p).0 hp) ((after.members s).0 hs) mine theirs;
    };
    held = λ p o hp has. holds_after p o ((after.members p).0 hp) has;
  }

pub group_keeps : ComesApart → OneSpelling → GroupKeepsDatabase
group_keeps comes spells m ps added qs gone does db kept step after =
    (database_after comes spells m ps added qs gone does db kept step.removes step.puts step.apart after, kept_after comes spells m ps added qs gone does db kept step.removes step.puts step.apart after)

-- groups one after another are groups at once
pub applied_behind : (m : Map) (g : Group) (gs : List Group) (q : List ℕ) → applied (applied m (g ∷ [])) gs q ≡ applied m (g ∷ gs) q
applied_behind m g gs q = elim (cases_Bool (is_below jobs q)) [
  | inl e ↦ cond-true (is_below jobs q) None (with_groups gs q (applied m (g ∷ []) q)) e ∙ sym (cond-true (is_below jobs q) None (with_groups gs q (with_group g q (m q))) e)
  | inr e ↦ cond-false (is_below jobs q) None (with_groups gs q (applied m (g ∷ []) q)) e
      ∙ ap (λ (x : Option ObjectValue). with_groups gs q x) (cond-false (is_below jobs q) None (with_group g q (m q)) e)
      ∙ sym (cond-false (is_below jobs q) None (with_groups gs q (with_group g q (m q))) e)
]

-- a group that does nothing
abbrev nothing : Group
nothing = record { content = record { group = 0; removals = []; placements = [] }; objects = [] }

abbrev stay_all : Installed → Bool
stay_all p = false

nothing_is_step : (m : Map) (ps : List Installed) → IsStep m ps stay_all [] nothing
nothing_is_step m ps = record {
  removes = record { only = λ q has. absurd has; all = λ p q leaves own none. absurd (false≢true leaves.1) };
  puts = record {
    ids = λ a has. absurd has;
    says = λ a has. absurd has;
    owned = λ a o has own. absurd has;
    inside = λ q below some. absurd (none_is_not_some (put nothing q) refl some);
  };
  apart = record {
    free = λ p q stays own. refl;
    beside = λ a p q s has. absurd has;
    once = λ a b q has. absurd has;
    flat = λ a b q s has. absurd has;
  };
}

after_nothing : (m : Map) (ps : List Installed) → IsDatabase m ps → IsAfter ps stay_all [] ps
after_nothing m ps db = record { rising = db.rising; members = λ p. ((λ has. inl (has, refl)), (λ either. elim either [ inl stays ↦ stays.0 | inr none ↦ absurd none ])) }

pub groups_keep : ComesApart → OneSpelling → GroupsKeepDatabase
groups_keep comes spells [] m ps qs db kept same =
    let one = group_keeps comes spells m ps [] ps stay_all nothing db kept (nothing_is_step m ps) (after_nothing m ps db) in (
      subst (λ (x : List Installed). IsDatabase (applied m []) x) (sym same) one.0,
      subst (λ (x : List Installed). IsKept (applied m []) x) (sym same) one.1,
    )
groups_keep comes spells (c ∷ cs) m ps qs db kept steps =
    let one = group_keeps comes spells m ps c.added steps.1.0 c.gone c.does db kept steps.0 steps.1.1 in
    let rest = groups_keep comes spells cs (applied m (c.does ∷ [])) steps.1.0 qs one.0 one.1 steps.1.2 in
    let whole : applied (applied m (c.does ∷ [])) (groups_of cs) ≡ applied m (groups_of (c ∷ cs)) = λ i q. applied_behind m c.does (groups_of cs) q i in
    (subst (λ (n : Map). IsDatabase n qs) whole rest.0, subst (λ (n : Map). IsKept n qs) whole rest.1)
