-- A change that may come may still come once another one, beside it, was made.
use Rattle.std.proofs.Common.{◌≡◌, ◌∙◌, ℕ, true, false, List, [], ◌∷◌, Option, None, map, inl, inr, sym, ap, subst}
use Rattle.std.specs.Prelude.{IsSome}
use Rattle.std.proofs.lemmas.Bool.{cases_Bool, cond-false, or_parts, true≢false}
use Rattle.basics.specs.Members.{Has}
use Rattle.basics.proofs.Tests.{none_is_not_some}
use Rattle.file_tree.specs.Disk.{Map}
use Rattle.file_tree.specs.Paths.{is_below}
use Rattle.merge_journal.specs.Judging.{path_of}
use Rattle.file_tree.specs.PathSets.{is_in}
use Rattle.file_tree.specs.Fixed.{jobs}
use Rattle.file_tree.proofs.PathSets.{in_if_has}
use Rattle.file_tree.proofs.PathSets.{is_in-append}
use Rattle.dep_atom.proofs.Joined.{ComesApart}
use Rattle.vdb_paths.specs.Files.{package_file_path}
use Rattle.vdb_paths.proofs.Packages.{OneSpelling}
use Rattle.merge_journal.specs.Group.{Group, applied, covers, with_group}
use Rattle.merge_journal.proofs.Changes.{outside, placed_outside}
use Rattle.vdb_law.specs.Database.{IsDatabase, IsKept}
use Rattle.vdb_law.specs.Packages.{Installed, id_of}
use Rattle.vdb_law.specs.Step.{Change, IsAfter, IsApart, Owns, Removes, Stays, put}
use Rattle.vdb_law.proofs.Law.{folder_stays, name_comes, own_put}
use Rattle.vdb_law.proofs.Places.{counted_of, counted_outside}
use Rattle.law_commit.specs.Claims.{AreBeside, MayCome}

-- a path of no group is neither removed nor placed
uncovered : (g : Group) (q : List ℕ) → covers g q ≡ false → (is_in g.content.removals q ≡ false) × (is_in (map path_of g.content.placements) q ≡ false)
uncovered g q e = or_parts (is_in g.content.removals q) (is_in (map path_of g.content.placements) q) (sym (is_in-append g.content.removals (map path_of g.content.placements) q) ∙ e)

-- a path that a group puts or removes is one of its own
removed_covered : (g : Group) (q : List ℕ) → Has g.content.removals q → covers g q ≡ true
removed_covered g q has = elim (cases_Bool (covers g q)) [
  | inl e ↦ e
  | inr e ↦ (
      let parts = uncovered g q e in
      absurd (true≢false (sym (in_if_has g.content.removals q has) ∙ parts.0)))
]

put_covered : (g : Group) (q : List ℕ) → IsSome (put g q) → covers g q ≡ true
put_covered g q some = elim (cases_Bool (covers g q)) [
  | inl e ↦ e
  | inr e ↦ (
      let parts = uncovered g q e in
      absurd (none_is_not_some (put g q) (placed_outside g.content.placements g.objects q None parts.1) some))
]

unput : (g : Group) (q : List ℕ) → covers g q ≡ false → put g q ≡ None
unput g q e =
    let parts = uncovered g q e in
    placed_outside g.content.placements g.objects q None parts.1

-- a path of no group is as it was
stays_as : (g : Group) (m : Map) (q : List ℕ) → is_below jobs q ≡ false → covers g q ≡ false → applied m (g ∷ []) q ≡ m q
stays_as g m q out e = cond-false (is_below jobs q) None (with_group g q (m q)) out ∙ outside g q (m q) e

not_covered : (g : Group) (q : List ℕ) → ¬ (covers g q ≡ true) → covers g q ≡ false
not_covered g q none = elim (cases_Bool (covers g q)) [ inl e ↦ absurd (none e) | inr e ↦ e ]

pub back : (ps : List Installed) (c d : Change) → AreBeside ps c d → AreBeside ps d c
back ps c d b = record {
  leaves = λ p has mine theirs. b.leaves p has theirs mine;
  first_stays = b.second_stays;
  second_stays = b.first_stays;
  paths_apart = λ q mine theirs. b.paths_apart q theirs mine;
  folders_apart = λ p r hp hr e. b.folders_apart r p hr hp (sym e);
  flat = λ p r q s hp hr own theirs. let k = b.flat r p s q hr hp theirs own in (k.1, k.0);
}

module _ (comes : ComesApart) (spells : OneSpelling) (m : Map) (ps qs : List Installed) (c d : Change) (db : IsDatabase m ps) (kept : IsKept m ps)
    (mine : MayCome m ps c) (other : MayCome m ps d) (beside : AreBeside ps c d) (after : IsAfter ps d.gone d.added qs) where
  abbrev new : Map
  new = applied m (d.does ∷ [])

  -- a path of the other group, or of this one
  theirs_free : (q : List ℕ) → covers d.does q ≡ true → put c.does q ≡ None
  theirs_free q e = unput c.does q (not_covered c.does q (λ own. beside.paths_apart q own e))

  mine_as : (q : List ℕ) → covers c.does q ≡ true → is_below jobs q ≡ false → new q ≡ m q
  mine_as q own out = stays_as d.does m q out (not_covered d.does q (beside.paths_apart q own))

  -- what owns a path now owned it before, or came with the other
  owned_before : (p : Installed) (q : List ℕ) → Stays ps d.gone p → Owns new p q → Owns m p q
  owned_before p q stays (inl own) = inl own
  owned_before p q stays (inr there) =
      let same = folder_stays comes spells m ps d.added qs d.gone d.does db kept other.step.removes other.step.puts other.step.apart after p stays in
      inr (there.0, subst (λ (x : Option _). IsSome x) (ap (λ (s : List ℕ). new s) there.0.1 ∙ ap (λ (f : List ℕ → Option _). f there.0.0) same ∙ sym (ap m there.0.1)) there.1)

  came_covered : (p : Installed) (q : List ℕ) → Has d.added p → Owns new p q → covers d.does q ≡ true
  came_covered p q has (inl own) = put_covered d.does q (own_put comes spells m ps d.added qs d.gone d.does db kept other.step.removes other.step.puts other.step.apart after p has q own)
  came_covered p q has (inr there) =
      let same = name_comes comes spells m ps d.added qs d.gone d.does db kept other.step.removes other.step.puts other.step.apart after p has there.0.0 in
      put_covered d.does q (subst (λ (x : Option _). IsSome x) (ap (λ (s : List ℕ). new s) there.0.1 ∙ same ∙ sym (ap (put d.does) there.0.1)) there.1)

  removes_still : Removes new qs c.gone c.does
  removes_still = record {
    only = λ q has.
        let from = mine.step.removes.only q has in
        let stays : d.gone from.0 ≡ false = elim (cases_Bool (d.gone from.0)) [ inl e ↦ absurd (beside.leaves from.0 from.1.0 from.1.1 e) | inr e ↦ e ] in (
          from.0,
          ((after.members from.0).1 (inl (from.1.0, stays)), from.1.1),
          elim from.2 [
            | inl own ↦ inl own
            | inr there ↦ (
                let out : is_below jobs q ≡ false = subst (λ (s : List ℕ). is_below jobs s ≡ false) (sym there.0.1) (counted_outside (package_file_path (id_of from.0) there.0.0) (counted_of (id_of from.0) there.0.0 (db.ids from.0 from.1.0))) in
                inr (there.0, subst (λ (x : Option _). IsSome x) (sym (mine_as q (removed_covered c.does q has) out)) there.1))
          ],
        );
    all = λ p q leaves owns none. elim ((after.members p).0 leaves.0) [
      | inl stays ↦ mine.step.removes.all p q (stays.0, leaves.1) (owned_before p q stays owns) none
      | inr came ↦ absurd (true≢false (sym leaves.1 ∙ beside.second_stays p came))
    ];
  }

  apart_still : IsApart new qs c.gone c.added c.does
  apart_still = record {
    free = λ p q stays owns. elim ((after.members p).0 stays.0) [
      | inl before ↦ mine.step.apart.free p q (before.0, stays.1) (owned_before p q before owns)
      | inr came ↦ theirs_free q (came_covered p q came owns)
    ];
    beside = λ a p q s ha stays own theirs. elim ((after.members p).0 stays.0) [
      | inl before ↦ mine.step.apart.beside a p q s ha (before.0, stays.1) own theirs
      | inr came ↦ beside.flat a p q s ha came own theirs
    ];
    once = mine.step.apart.once;
    flat = mine.step.apart.flat;
  }

  pub still_comes : MayCome new qs c
  still_comes = record {
    step = record { removes = removes_still; puts = mine.step.puts; apart = apart_still };
    own = record {
      apart = mine.own.apart;
      new = λ a p ha stays e. elim ((after.members p).0 stays.0) [
        | inl before ↦ mine.own.new a p ha (before.0, stays.1) e
        | inr came ↦ beside.folders_apart a p ha came e
      ];
    };
  }

  -- two changes beside this one and one another are so afterwards
  pub still_beside : (e : Change) → AreBeside ps c e → AreBeside ps d e → AreBeside qs c e
  still_beside e b there = record {
    leaves = λ p has mine' theirs. elim ((after.members p).0 has) [
      | inl before ↦ b.leaves p before.0 mine' theirs
      | inr came ↦ true≢false (sym mine' ∙ beside.second_stays p came)
    ];
    first_stays = b.first_stays;
    second_stays = b.second_stays;
    paths_apart = b.paths_apart;
    folders_apart = b.folders_apart;
    flat = b.flat;
  }
