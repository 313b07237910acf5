-- What the files of a package's folder say of it.
use Rattle.std.specs.Prelude.{◌≡◌, ◌↔◌, ℕ, Bool, true, false, List, [], ◌∷◌, Option, None, Some, codes, map, unwrap_or, if◌then◌else◌, IsSome}
use Rattle.basics.specs.Members.{Has}
use Rattle.pms_names.specs.Flags.{IsRising}
use Rattle.pms_names.specs.Names.{IsName}
use Rattle.pms_names.specs.declared.kind.Kind.TheVariants as kinds
use Rattle.dep_atom.specs.Values.{AtomValue}
use Rattle.dep_atom.specs.declared.slot.SlotPart.{SlotPart}
use Rattle.dep_atom.specs.declared.slot.SlotPart.TheVariants.{Equals, Free, Given, Star}
use Rattle.dep_group.specs.Trees.{Tree, Trees, group, leaf, no_trees, tree}
use Rattle.dep_group.specs.Words.{words_of}
use Rattle.dep_group.specs.declared.token.Opener.{Opener}
use Rattle.dep_tree.specs.Texts as dependencies
use Rattle.required_use.specs.Texts as expressions
use Rattle.pms_slot.specs.Slots.{IsSlotValue}
use Rattle.use_flags.specs.Items.{flag_of}
use Rattle.file_tree.specs.ObjectValue.{ObjectValue}
use Rattle.file_tree.specs.declared.objects.Kind.{Kind}
use Rattle.file_tree.specs.declared.objects.Kind.TheVariants.{Exec, Link, Plain}
use Rattle.pkg_state.specs.Eapis.{eapi_text, empty_holds, has_class}
use Rattle.pkg_state.specs.Package.{class_word, tree_of}
use Rattle.pkg_state.specs.declared.class.Class.{Class}
use Rattle.pkg_state.specs.declared.eapi.Eapi.{Eapi}
use Rattle.vdb_contents.specs.Contents.{TellsOwned}
use Rattle.vdb_law.specs.Packages.{Installed}

-- what the files of a folder hold, by what is written behind the folder's slash
abbrev pub Folder : Type 0
Folder = List ℕ → Option ObjectValue

abbrev pub is_file : Kind → Bool
is_file Plain = true
is_file Exec = true
is_file Link = false

-- the bytes of a file; a link in its place counts as missing
abbrev pub text_of : Option ObjectValue → Option (List ℕ)
text_of None = None
text_of (Some x) = if is_file x.kind then Some x.bytes else None

-- what the database keeps in a file of a package's folder
pub data Field : Type 0 where
  contents : Field
  eapi : Field
  slots : Field
  flags : Field
  known : Field
  required : Field
  needs : Class → Field

-- the name of the file
abbrev pub name_of : Field → List ℕ
name_of contents = codes "CONTENTS"
name_of eapi = codes "EAPI"
name_of slots = codes "SLOT"
name_of flags = codes "USE"
name_of known = codes "IUSE"
name_of required = codes "REQUIRED_USE"
name_of (needs class) = class_word class

-- the file must be there
abbrev pub is_needed : Field → Bool
is_needed contents = true
is_needed eapi = true
is_needed slots = true
is_needed flags = false
is_needed known = false
is_needed required = false
is_needed (needs class) = false

-- the slots that the words say
pub record AreSlots (words : List (List ℕ)) (slot subslot : List ℕ) : Type 0 where
  pub word : List ℕ
  pub alone : words ≡ word ∷ []
  pub says : IsSlotValue word slot subslot

-- a set of flags has just these
pub record AreFlags (words set : List (List ℕ)) : Type 0 where
  pub rising : IsRising set
  pub each : (flag : List ℕ) → Has set flag → IsName kinds.Flag flag
  pub members : (flag : List ℕ) → Has set flag ↔ Has words flag

-- the equals operator of a slot part that names no subslot is read as absent
abbrev pub without_equals : SlotPart → SlotPart
without_equals Free = Free
without_equals Star = Star
without_equals Equals = Free
without_equals (Given slot None equals) = Given slot None false
without_equals (Given slot (Some subslot) equals) = Given slot (Some subslot) equals

abbrev pub bound_alone : AtomValue → AtomValue
bound_alone a =
    record {
      block = a.block;
      op = a.op;
      name = a.name;
      version = a.version;
      star = a.star;
      slot = without_equals a.slot;
      uses = a.uses;
    }

-- the same in each leaf of trees
abbrev mutual
  pub tree_bound : Tree (Opener (List ℕ)) AtomValue → Tree (Opener (List ℕ)) AtomValue
  tree_bound (leaf a) = leaf (bound_alone a)
  tree_bound (group opener ts) = group opener (all_bound ts)

  pub all_bound : Trees (Opener (List ℕ)) AtomValue → Trees (Opener (List ℕ)) AtomValue
  all_bound no_trees = no_trees
  all_bound (tree t ts) = tree (tree_bound t) (all_bound ts)

-- dependencies as a record has them
abbrev pub bound_of : dependencies.Dependencies → dependencies.Dependencies
bound_of x = record { groups = all_bound x.groups; empty_holds = x.empty_holds }

-- the text of a class of dependencies, which is ignored where the edition lacks the class
abbrev pub needs_text : Eapi → Class → List ℕ → List ℕ
needs_text e class text = if has_class e class then text else []

-- in a record of the edition the text of the class has these dependencies
abbrev pub ReadsNeeds : Eapi → Class → List ℕ → dependencies.Dependencies → Type 0
ReadsNeeds e class text told =
    (x : dependencies.Dependencies)
    × dependencies.Writes (empty_holds e) (needs_text e class text) x × (told ≡ bound_of x)

-- the text of a file says this of the package
abbrev pub Reads : Field → List ℕ → Installed → Type 0
Reads contents text p = TellsOwned text p.owned
Reads eapi text p = words_of text ≡ eapi_text p.package_is.eapi ∷ []
Reads slots text p = AreSlots (words_of text) p.package_is.facts.slot p.package_is.facts.subslot
Reads flags text p = AreFlags (words_of text) p.package_is.facts.enabled
Reads known text p = AreFlags (map flag_of (words_of text)) p.package_is.facts.iuse
Reads required text p =
    expressions.Writes (empty_holds p.package_is.eapi) text p.package_is.required
Reads (needs class) text p =
    ReadsNeeds p.package_is.eapi class text (tree_of class p.package_is)

-- the text of a field, which is empty where its file is missing
abbrev pub field_text : Folder → Field → List ℕ
field_text f k = unwrap_or (text_of (f (name_of k))) []

-- the files of a folder say this of its package; other files say nothing
pub record Says (f : Folder) (p : Installed) : Type 0 where
  pub there : (k : Field) → is_needed k ≡ true → IsSome (text_of (f (name_of k)))
  pub reads : (k : Field) → Reads k (field_text f k) p
