-- What a folder says of a package can be recorded again.
use Rattle.std.proofs.Common.{◌≡◌, ◌∙◌, ◌&&◌, ◌+◌, ◌≤◌, ℕ, Bool, true, false, max, List, [], ◌∷◌, Option, Some, None, refl, ap, map, subst, sym}
use Rattle.std.specs.Prelude.{◌↔◌, if◌then◌else◌, unwrap_or}
use Rattle.std.specs.List.{AllByRecursion}
use Rattle.basics.specs.Members.{AreDistinct}
use Rattle.basics.proofs.Each.{all-append, all_by_has}
use Rattle.file_tree.specs.Paths.{IsPathText}
use Rattle.pms_names.specs.Names.{IsName}
use Rattle.pms_names.specs.declared.kind.Kind.TheVariants as kinds
use Rattle.dep_atom.specs.Atoms.{IsAtomValue}
use Rattle.dep_atom.specs.Form.{IsSlotForm}
use Rattle.dep_atom.specs.Values.{AtomValue}
use Rattle.dep_atom.specs.declared.slot.SlotPart.{SlotPart}
use Rattle.dep_atom.specs.declared.slot.SlotPart.TheVariants.{Equals, Free, Given, Star}
use Rattle.dep_group.specs.Tokens.{AreMadeOf, IsFlag, IsInForm, IsMadeOf, tree_words}
use Rattle.dep_group.specs.Trees.{Tree, all_depth, all_free, depth, group, is_any_of, is_free, leaf, no_trees, tree}
use Rattle.dep_group.specs.Words.{words_of}
use Rattle.dep_group.specs.declared.token.Opener.{Opener}
use Rattle.dep_tree.specs.Grammar.{AreAtomsInGroups, grammar, is_block}
use Rattle.dep_tree.specs.Texts.{AtomTrees, Dependencies}
use Rattle.pms_slot.specs.Slots.{IsWritten}
use Rattle.pkg_state.specs.Package.{tree_of}
use Rattle.vdb_contents.specs.Contents.{IsContent, IsLine, IsOwnable, Line, TellsOwned, dir, is_dropped, obj, owned_by, owned_in, path_of, sym as link_line}
use Rattle.vdb_contents.specs.declared.owned.Content.{Content}
use Rattle.vdb_contents.specs.declared.owned.Content.TheVariants.{File, Link}
use Rattle.vdb_contents.specs.declared.owned.Owned.{Owned}
use Rattle.vdb_law.specs.Fields.{AreFlags, AreSlots, ReadsNeeds, all_bound, bound_alone, bound_of, contents, flags, known, needs, needs_text, required, slots, tree_bound, without_equals}
use Rattle.vdb_law.proofs.NoWords.{no_words}
use Rattle.pkg_state.specs.Eapis.{empty_holds, has_class}
use Rattle.pkg_state.specs.declared.class.Class.{Class}
use Rattle.pkg_state.specs.declared.eapi.Eapi.{Eapi}
use Rattle.vdb_files.specs.Recorded.{AreBound, IsFlagSet, SaidIsRecordable}

-- ---- names

written_name : (slot : List ℕ) (written : Option (List ℕ)) → IsName kinds.Slot slot → IsWritten written → IsName kinds.Slot (unwrap_or written slot)
written_name slot None is form = is
written_name slot (Some w) is form = form

subslot_name : (ws : List (List ℕ)) (slot subslot : List ℕ) → AreSlots ws slot subslot → IsName kinds.Slot subslot
subslot_name ws slot subslot are = subst (IsName kinds.Slot) (sym are.says.means) (written_name slot are.says.written are.says.named are.says.form)

flag_set : (ws set : List (List ℕ)) → AreFlags ws set → IsFlagSet set
flag_set ws set are = record { rising = are.rising; names = all_by_has IsFlag set are.each }

-- ---- trees whose equals operators are bound

pub slot_again : (s : SlotPart) → without_equals (without_equals s) ≡ without_equals s
slot_again Free = refl
slot_again Star = refl
slot_again Equals = refl
slot_again (Given slot None equals) = refl
slot_again (Given slot (Some subslot) equals) = refl

pub slot_kept : (s : SlotPart) → IsSlotForm s → IsSlotForm (without_equals s)
slot_kept Free h = h
slot_kept Star h = h
slot_kept Equals h = h
slot_kept (Given slot None equals) h = h
slot_kept (Given slot (Some subslot) equals) h = h

atom_again : (a : AtomValue) → bound_alone (bound_alone a) ≡ bound_alone a
atom_again a = λ i. record { block = a.block; op = a.op; name = a.name; version = a.version; star = a.star; slot = slot_again a.slot i; uses = a.uses }

atom_kept : (a : AtomValue) → IsAtomValue a → IsAtomValue (bound_alone a)
atom_kept a is = record { package_form = is.package_form; slot_form = slot_kept a.slot is.slot_form; use_forms = is.use_forms }

mutual
  tree_again : (t : Tree (Opener (List ℕ)) AtomValue) → tree_bound (tree_bound t) ≡ tree_bound t
  tree_again (leaf a) = ap leaf (atom_again a)
  tree_again (group opener ts) = ap (group opener) (all_again ts)

  all_again : (ts : AtomTrees) → all_bound (all_bound ts) ≡ all_bound ts
  all_again no_trees = refl
  all_again (tree t ts) = ap (λ (u : Tree (Opener (List ℕ)) AtomValue). tree u (all_bound (all_bound ts))) (tree_again t) ∙ ap (tree (tree_bound t)) (all_again ts)

mutual
  tree_made : (t : Tree (Opener (List ℕ)) AtomValue) → IsMadeOf grammar t → IsMadeOf grammar (tree_bound t)
  tree_made (leaf a) is = atom_kept a is
  tree_made (group opener ts) is = (is.0, all_made ts is.1)

  all_made : (ts : AtomTrees) → AreMadeOf grammar ts → AreMadeOf grammar (all_bound ts)
  all_made no_trees is = tt
  all_made (tree t ts) is = (tree_made t is.0, all_made ts is.1)

mutual
  tree_deep : (t : Tree (Opener (List ℕ)) AtomValue) → depth (tree_bound t) ≡ depth t
  tree_deep (leaf a) = refl
  tree_deep (group opener ts) = ap (λ (n : ℕ). 1 + n) (all_deep ts)

  all_deep : (ts : AtomTrees) → all_depth (all_bound ts) ≡ all_depth ts
  all_deep no_trees = refl
  all_deep (tree t ts) = ap (λ (n : ℕ). max n (all_depth (all_bound ts))) (tree_deep t) ∙ ap (max (depth t)) (all_deep ts)

mutual
  tree_free : (inside : Bool) (t : Tree (Opener (List ℕ)) AtomValue) → is_free is_any_of is_block inside (tree_bound t) ≡ is_free is_any_of is_block inside t
  tree_free inside (leaf a) = refl
  tree_free inside (group None ts) = all_free_too inside ts
  tree_free inside (group (Some opener) ts) = all_free_too _ ts

  all_free_too : (inside : Bool) (ts : AtomTrees) → all_free is_any_of is_block inside (all_bound ts) ≡ all_free is_any_of is_block inside ts
  all_free_too inside no_trees = refl
  all_free_too inside (tree t ts) =
      ap (λ (b : Bool). b && all_free is_any_of is_block inside (all_bound ts)) (tree_free inside t)
      ∙ ap (λ (b : Bool). is_free is_any_of is_block inside t && b) (all_free_too inside ts)

-- in form are just atoms in groups
abbrev pub FormIsAtoms : Type 0
FormIsAtoms = (ts : AtomTrees) → IsInForm grammar is_block ts ↔ AreAtomsInGroups ts

bound_again : (x : Dependencies) → bound_of (bound_of x) ≡ bound_of x
bound_again x = λ i. record { groups = all_again x.groups i; empty_holds = x.empty_holds }

are_bound : FormIsAtoms → (x : Dependencies) → IsInForm grammar is_block x.groups → AreBound (bound_of x)
are_bound law x form =
    let are = (law x.groups).0 form in
    record {
      form = (law (all_bound x.groups)).1 (record {
        made = all_made x.groups are.made;
        low = subst (λ (n : ℕ). n ≤ 64) (sym (all_deep x.groups)) are.low;
        free = all_free_too false x.groups ∙ are.free;
      });
      bound = bound_again x;
    }

-- ---- the edition

-- nothing is read of a class that the edition lacks
none_needed : (e : Eapi) (class : Class) (text : List ℕ) (x : Dependencies) → ReadsNeeds e class text x → has_class e class ≡ false → x.groups ≡ no_trees
none_needed e class text x r none =
    let empty : needs_text e class text ≡ [] = ap (λ (b : Bool). if b then text else []) none in
    let words : tree_words grammar r.0.groups ≡ [] = sym r.1.atoms.1 ∙ ap words_of empty in
    ap (λ (y : Dependencies). y.groups) r.2 ∙ ap all_bound (no_words grammar r.0.groups words)

-- ---- owned paths

ownable_if : (b : Bool) (path : List ℕ) (content : Content) → is_dropped path ≡ b → IsPathText path → IsContent content → AllByRecursion IsOwnable (if b then [] else record { path = path; content = content } ∷ [])
ownable_if true path content e is good = tt
ownable_if false path content e is good = (record { path = is; content = good; free = e }, tt)

line_ownable : (l : Line) → IsLine l → AllByRecursion IsOwnable (owned_by l)
line_ownable (obj path digest time) is = ownable_if (is_dropped path) path (File digest) refl is.0 is.1.0
line_ownable (link_line path target time) is = ownable_if (is_dropped path) path (Link target) refl is.0 is.1.0
line_ownable (dir path) is = tt

lines_ownable : (ls : List Line) → AllByRecursion IsLine ls → AllByRecursion IsOwnable (owned_in ls)
lines_ownable [] is = tt
lines_ownable (l ∷ ls) is = all-append IsOwnable (owned_by l) (owned_in ls) (line_ownable l is.0) (lines_ownable ls is.1)

told_ownable : (text : List ℕ) (owned : List Owned) → TellsOwned text owned → AllByRecursion IsOwnable owned
told_ownable text owned tells = subst (AllByRecursion IsOwnable) (sym tells.means) (lines_ownable tells.ls tells.are.form)

told_once : (text : List ℕ) (owned : List Owned) → TellsOwned text owned → AreDistinct (map path_of owned)
told_once text owned tells = subst (λ (l : List Owned). AreDistinct (map path_of l)) (sym tells.means) tells.are.once

-- ---- the package

pub said_recordable : FormIsAtoms → SaidIsRecordable
said_recordable law f p says = (
  record {
    slot = (says.reads slots).says.named;
    subslot = subslot_name _ p.package_is.facts.slot p.package_is.facts.subslot (says.reads slots);
    known = flag_set _ p.package_is.facts.iuse (says.reads known);
    enabled = flag_set _ p.package_is.facts.enabled (says.reads flags);
  },
  record {
    edition = record {
      lacking = λ class. none_needed p.package_is.eapi class _ (tree_of class p.package_is) (says.reads (needs class));
      needs = λ class. (let r = says.reads (needs class) in ap (λ (x : Dependencies). x.empty_holds) r.2 ∙ r.1.flag);
      required = (says.reads required).flag;
    };
    needs = λ class. (let r = says.reads (needs class) in subst AreBound (sym r.2) (are_bound law r.0 r.1.atoms.0));
    required = (says.reads required).items.0;
    owned = told_ownable _ p.owned (says.reads contents);
  },
  told_once _ p.owned (says.reads contents),
)
