-- The files of a record, read one after another.
use Rattle.std.proofs.Common.{◌≡◌, ◌∙◌, ◌+◌, ℕ, true, false, List, [], ◌∷◌, get_or, map, Some, refl, ap, sym, subst, inl, inr, arith}
use Rattle.std.specs.Prelude.{min}
use Rattle.std.specs.Str.{IsUtf8}
use Rattle.config_text.specs.Lines.{most_lines}
use Rattle.vdb_contents.specs.Contents.{TellsOwned}
use Rattle.vdb_contents.specs.Contents as contents_texts
use Rattle.vdb_contents.specs.declared.fault.ContentsFault.{ContentsFault}
use Rattle.vdb_contents.specs.declared.fault.ContentsFault.TheVariants as contents_faults
use Rattle.vdb_contents.specs.declared.owned.Owned.{Owned}
use Rattle.dep_atom.specs.declared.package.Facts.{Facts}
use Rattle.dep_atom.specs.declared.package.PackageId.{PackageId}
use Rattle.dep_group.specs.Words.{words_of}
use Rattle.dep_tree.specs.Faults as trees
use Rattle.dep_tree.specs.Texts.{Dependencies, no_dependencies}
use Rattle.dep_tree.specs.declared.fault.TreeTextFault.{TreeTextFault}
use Rattle.dep_tree.specs.declared.fault.TreeTextFault.TheVariants as tree_faults
use Rattle.required_use.specs.Faults as expressions
use Rattle.required_use.specs.Texts.{Expressions, no_expressions}
use Rattle.required_use.specs.Texts as expression_texts
use Rattle.required_use.specs.declared.fault.RequiredFault.{RequiredFault}
use Rattle.required_use.specs.declared.fault.RequiredFault.TheVariants as required_faults
use Rattle.pms_slot.specs.Slots.{IsSlotValue}
use Rattle.use_flags.specs.Items.{flag_of}
use Rattle.pkg_state.proofs.Editions.{one_eapi}
use Rattle.pkg_state.specs.Eapis.{empty_holds}
use Rattle.pkg_state.specs.Package.{Package, tree_of}
use Rattle.pkg_state.specs.declared.class.Class.{Class}
use Rattle.pkg_state.specs.declared.class.Class.TheVariants.{Bdepend, Depend, Idepend, Pdepend, Rdepend}
use Rattle.pkg_state.specs.declared.eapi.Eapi.{Eapi}
use Rattle.vdb_law.specs.Fields.{AreFlags, AreSlots, Field, Reads, ReadsNeeds, contents, eapi, flags, known, needs, required, slots}
use Rattle.vdb_law.specs.Packages.{Installed}
use Rattle.vdb_values.specs.Values as values
use Rattle.vdb_values.specs.declared.fault.FlagFault.{FlagFault}
use Rattle.vdb_values.specs.declared.fault.FlagFault.TheVariants as flag_faults
use Rattle.vdb_record.specs.Faults.{AreThere, FirstFault, IsBadLine, IsFileFault, IsFirstBad, IsFirstOfFiles, IsGood, dep_fault, files, flag_fault, line_at, required_place, tree_place, value_start}
use Rattle.vdb_record.specs.Texts.{IsOfEdition, ReadAll, Texts, text_for, value}
use Rattle.vdb_record.specs.declared.fault.RecordFault.{RecordFault}
use Rattle.vdb_record.specs.declared.fault.RecordFault.TheVariants as faults
use Rattle.vdb_record.specs.declared.file.RecordFile.TheVariants as files_of

-- a package of which nothing is said
abbrev blank : Eapi → PackageId → Dependencies → Expressions → Package
blank e id x r =
    record {
      facts = record { id = id; slot = []; subslot = []; iuse = []; enabled = [] };
      eapi = e;
      rdepend = x;
      pdepend = x;
      depend = x;
      bdepend = x;
      idepend = x;
      required = r;
    }

abbrev with_facts : Eapi → Facts → Package
with_facts e f =
    record {
      facts = f;
      eapi = e;
      rdepend = no_dependencies true;
      pdepend = no_dependencies true;
      depend = no_dependencies true;
      bdepend = no_dependencies true;
      idepend = no_dependencies true;
      required = no_expressions true;
    }

pub good_owned : (e : Eapi) (id : PackageId) (text : List ℕ) (owned : List Owned) → TellsOwned text owned → IsGood e contents text
good_owned e id text owned h = (record { package_is = blank e id (no_dependencies true) (no_expressions true); owned = owned }, refl, h)

pub good_slots : (e : Eapi) (id : PackageId) (text slot subslot : List ℕ) → AreSlots (words_of text) slot subslot → IsGood e slots text
good_slots e id text slot subslot h =
    (record { package_is = with_facts e (record { id = id; slot = slot; subslot = subslot; iuse = []; enabled = [] }); owned = [] }, refl, h)

pub good_known : (e : Eapi) (id : PackageId) (text : List ℕ) (set : List (List ℕ)) → AreFlags (map flag_of (words_of text)) set → IsGood e known text
good_known e id text set h =
    (record { package_is = with_facts e (record { id = id; slot = []; subslot = []; iuse = set; enabled = [] }); owned = [] }, refl, h)

pub good_required : (e : Eapi) (id : PackageId) (text : List ℕ) (x : Expressions) → expression_texts.Writes (empty_holds e) text x → IsGood e required text
good_required e id text x h = (record { package_is = blank e id (no_dependencies true) x; owned = [] }, refl, h)

pub good_needs : (e : Eapi) (id : PackageId) (class : Class) (text : List ℕ) (x : Dependencies) → ReadsNeeds e class text x → IsGood e (needs class) text
good_needs e id Rdepend text x h = (record { package_is = blank e id x (no_expressions true); owned = [] }, refl, h)
good_needs e id Pdepend text x h = (record { package_is = blank e id x (no_expressions true); owned = [] }, refl, h)
good_needs e id Depend text x h = (record { package_is = blank e id x (no_expressions true); owned = [] }, refl, h)
good_needs e id Bdepend text x h = (record { package_is = blank e id x (no_expressions true); owned = [] }, refl, h)
good_needs e id Idepend text x h = (record { package_is = blank e id x (no_expressions true); owned = [] }, refl, h)

-- what each file says of a package
pub record AreRead (t : Texts) (p : Installed) : Type 0 where
  pub of_contents : Reads contents (value (t contents)) p
  pub of_eapi : Reads eapi (value (t eapi)) p
  pub of_slots : Reads slots (value (t slots)) p
  pub of_flags : Reads flags (value (t flags)) p
  pub of_known : Reads known (value (t known)) p
  pub of_required : Reads required (value (t required)) p
  pub of_rdepend : Reads (needs Rdepend) (value (t (needs Rdepend))) p
  pub of_pdepend : Reads (needs Pdepend) (value (t (needs Pdepend))) p
  pub of_depend : Reads (needs Depend) (value (t (needs Depend))) p
  pub of_bdepend : Reads (needs Bdepend) (value (t (needs Bdepend))) p
  pub of_idepend : Reads (needs Idepend) (value (t (needs Idepend))) p

pub read_all : (t : Texts) (p : Installed) → AreRead t p → ReadAll t p
read_all t p r contents = r.of_contents
read_all t p r eapi = r.of_eapi
read_all t p r slots = r.of_slots
read_all t p r flags = r.of_flags
read_all t p r known = r.of_known
read_all t p r required = r.of_required
read_all t p r (needs Rdepend) = r.of_rdepend
read_all t p r (needs Pdepend) = r.of_pdepend
read_all t p r (needs Depend) = r.of_depend
read_all t p r (needs Bdepend) = r.of_bdepend
read_all t p r (needs Idepend) = r.of_idepend

-- a record is of one edition
pub one_edition : (t : Texts) (e : Eapi) (p : Installed) → IsOfEdition t e → ReadAll t p → p.package_is.eapi ≡ e
one_edition t e p is reads =
    one_eapi p.package_is.eapi e (ap (λ (l : List (List ℕ)). get_or l 0 []) (sym (reads eapi) ∙ is))

pub needs_in : (t : Texts) (e : Eapi) (p : Installed) → IsOfEdition t e → ReadAll t p → (class : Class) → ReadsNeeds e class (value (t (needs class))) (tree_of class p.package_is)
needs_in t e p is reads class =
    subst (λ (x : Eapi). ReadsNeeds x class (value (t (needs class))) (tree_of class p.package_is)) (one_edition t e p is reads) (reads (needs class))

pub required_in : (t : Texts) (e : Eapi) (p : Installed) → IsOfEdition t e → ReadAll t p → expression_texts.Writes (empty_holds e) (value (t required)) p.package_is.required
required_in t e p is reads =
    subst (λ (x : Eapi). expression_texts.Writes (empty_holds x) (value (t required)) p.package_is.required) (one_edition t e p is reads) (reads required)

pub same_package : (a b : Package) → a.eapi ≡ b.eapi → a.facts ≡ b.facts → a.rdepend ≡ b.rdepend → a.pdepend ≡ b.pdepend → a.depend ≡ b.depend → a.bdepend ≡ b.bdepend → a.idepend ≡ b.idepend → a.required ≡ b.required → a ≡ b
same_package a b edition facts rdepend pdepend depend bdepend idepend required' =
    λ i. record { facts = facts i; eapi = edition i; rdepend = rdepend i; pdepend = pdepend i; depend = depend i; bdepend = bdepend i; idepend = idepend i; required = required' i }

pub same_installed : (a b : Installed) → a.package_is ≡ b.package_is → a.owned ≡ b.owned → a ≡ b
same_installed a b is owned = λ i. record { package_is = is i; owned = owned i }

-- the first fault of the files is the first of all
has_none : (e : Eapi) (t : Texts) (fault : RecordFault) (ks : List Field) → ((k : Field) → IsFileFault k (text_for e t k) fault → ⊥)
    → IsFirstBad (λ k. IsGood e k (value (t k))) (λ k. IsFileFault k (text_for e t k) fault) ks → ⊥
has_none e t fault [] none h = h
has_none e t fault (k ∷ ks) none (inl bad) = none k bad
has_none e t fault (k ∷ ks) none (inr later) = has_none e t fault ks none later.1

pub first_fault : (t : Texts) (e : Eapi) (fault : RecordFault) → AreThere t → IsOfEdition t e → IsFirstOfFiles e t fault → FirstFault t fault
first_fault t e (faults.Missing file) there is h = absurd (has_none e t (faults.Missing file) files (λ k bad. bad) h)
first_fault t e faults.Eapi there is h = absurd (has_none e t faults.Eapi files (λ k bad. bad) h)
first_fault t e (faults.Text file line) there is h = (there, (e, is, h))
first_fault t e (faults.Dep file place) there is h = (there, (e, is, h))
first_fault t e faults.Memory there is h = tt

-- the faults of the values as those of their files
pub line_of_number : (text : List ℕ) (number : ℕ) → contents_texts.FirstFault text (contents_faults.Line number) → IsBadLine contents text (min number most_lines)
line_of_number text number h =
    let e : number ≡ h.0 + 1 = h.1 ∙ omega arith in
    (h.0, h.2, ap (λ (n : ℕ). min n most_lines) e)

pub plain_fault : (text : List ℕ) (f : FlagFault) → IsUtf8 text → values.FirstFault false text f → IsFileFault flags text (flag_fault files_of.Use text f)
plain_fault text (flag_faults.Word from) is h = (refl, inr (is, (from, h, refl)))
plain_fault text flag_faults.Memory is h = tt

pub marked_fault : (text : List ℕ) (f : FlagFault) → IsUtf8 text → values.FirstFault true text f → IsFileFault known text (flag_fault files_of.Iuse text f)
marked_fault text (flag_faults.Word from) is h = (refl, inr (is, (from, h, refl)))
marked_fault text flag_faults.Memory is h = tt

placed_needs : (class : Class) (text : List ℕ) (f : TreeTextFault) (from : ℕ) → tree_place f ≡ Some from → IsUtf8 text → trees.FirstFault text f → IsFileFault (needs class) text (dep_fault (files_of.Needs class) text (Some from))
placed_needs class text f from place is h = (refl, (is, (f, h, (from, place, refl))))

pub needs_fault : (class : Class) (text : List ℕ) (f : TreeTextFault) → IsUtf8 text → values.IsFirstFault text f → IsFileFault (needs class) text (dep_fault (files_of.Needs class) text (tree_place f))
needs_fault class text (tree_faults.Atom from) is h = placed_needs class text (tree_faults.Atom from) from refl is (h (λ e. cc))
needs_fault class text (tree_faults.Open from) is h = placed_needs class text (tree_faults.Open from) from refl is (h (λ e. cc))
needs_fault class text (tree_faults.Close from) is h = placed_needs class text (tree_faults.Close from) from refl is (h (λ e. cc))
needs_fault class text (tree_faults.NoSpace from) is h = placed_needs class text (tree_faults.NoSpace from) from refl is (h (λ e. cc))
needs_fault class text (tree_faults.BlockInAnyOf from) is h = placed_needs class text (tree_faults.BlockInAnyOf from) from refl is (h (λ e. cc))
needs_fault class text tree_faults.Depth is h = placed_needs class text tree_faults.Depth 0 refl is (h (λ e. cc))
needs_fault class text tree_faults.Memory is h = tt

placed_required : (text : List ℕ) (f : RequiredFault) (from : ℕ) → required_place f ≡ Some from → IsUtf8 text → expressions.FirstFault text f → IsFileFault required text (dep_fault files_of.RequiredUse text (Some from))
placed_required text f from place is h = (refl, (is, (f, h, (from, place, refl))))

pub required_fault : (text : List ℕ) (f : RequiredFault) → IsUtf8 text → expressions.FirstFault text f → IsFileFault required text (dep_fault files_of.RequiredUse text (required_place f))
required_fault text (required_faults.Item from) is h = placed_required text (required_faults.Item from) from refl is h
required_fault text (required_faults.Open from) is h = placed_required text (required_faults.Open from) from refl is h
required_fault text (required_faults.Close from) is h = placed_required text (required_faults.Close from) from refl is h
required_fault text (required_faults.NoSpace from) is h = placed_required text (required_faults.NoSpace from) from refl is h
required_fault text required_faults.Depth is h = placed_required text required_faults.Depth 0 refl is h
required_fault text required_faults.Memory is h = tt

-- what the words of SLOT say is one thing
abbrev pub OneSlotValue : Type 0
OneSlotValue = (t a b c d : List ℕ) → IsSlotValue t a b → IsSlotValue t c d → (a ≡ c) × (b ≡ d)

pub one_slots : OneSlotValue → (ws : List (List ℕ)) (a b c d : List ℕ) → AreSlots ws a b → AreSlots ws c d → (a ≡ c) × (b ≡ d)
one_slots one ws a b c d x y =
    let word : x.word ≡ y.word = ap (λ (l : List (List ℕ)). get_or l 0 []) (sym x.alone ∙ y.alone) in
    one x.word a b c d x.says (subst (λ (w : List ℕ). IsSlotValue w c d) (sym word) y.says)

pub slot_line : (text v a b : List ℕ) (start line : ℕ) → v ≡ text → a ≡ v → b ≡ v → start ≡ value_start a → line ≡ line_at b start → line ≡ line_at text (value_start text)
slot_line text v a b start line e f g h k =
    k ∙ ap (λ (x : List ℕ). line_at x start) (g ∙ e) ∙ ap (line_at text) (h ∙ ap value_start (f ∙ e))

-- a faulty line of CONTENTS is no want of memory
pub no_line : (f : ContentsFault) (number : ℕ) → f ≡ contents_faults.Line number → f ≡ contents_faults.Memory → ⊥
no_line f number a b = let e : contents_faults.Line number ≡ contents_faults.Memory = sym a ∙ b in cc
