-- The texts of a folder's files, as they were read one after the other.
use Rattle.std.proofs.Common.{◌≡◌, ◌∙◌, ℕ, List, Option, ap}
use Rattle.pkg_state.specs.declared.class.Class.TheVariants.{Bdepend, Depend, Idepend, Pdepend, Rdepend}
use Rattle.dep_atom.specs.Ids.{id_text}
use Rattle.dep_atom.specs.declared.package.PackageId.{PackageId}
use Rattle.file_tree.specs.Disk.{Map}
use Rattle.vdb_paths.specs.Files.{package_file_path}
use Rattle.vdb_law.specs.Database.{folder}
use Rattle.vdb_law.specs.Fields.{Field, contents, eapi, flags, known, needs, required, slots, text_of, name_of}
use Rattle.vdb_record.specs.Texts.{Texts, folder_texts}
use Rattle.vdb_record.specs.Views.{texts_in}
use Rattle.vdb_record.specs.declared.texts.RecordTexts.{RecordTexts}
use Rattle.vdb_text.specs.Telling.{file_path, texts_at}

-- each file's text is that of the map
pub record AreRead (r : RecordTexts) (t : Texts) : Type 0 where
  pub contents-is : r.contents ≡ t contents
  pub eapi-is : r.eapi ≡ t eapi
  pub slot-is : r.slot ≡ t slots
  pub enabled-is : r.enabled ≡ t flags
  pub iuse-is : r.iuse ≡ t known
  pub required-is : r.required_use ≡ t required
  pub rdepend-is : r.rdepend ≡ t (needs Rdepend)
  pub pdepend-is : r.pdepend ≡ t (needs Pdepend)
  pub depend-is : r.depend ≡ t (needs Depend)
  pub bdepend-is : r.bdepend ≡ t (needs Bdepend)
  pub idepend-is : r.idepend ≡ t (needs Idepend)

each : (r : RecordTexts) (t : Texts) → AreRead r t → (k : Field) → texts_in r k ≡ t k
each r t are contents = are.contents-is
each r t are eapi = are.eapi-is
each r t are slots = are.slot-is
each r t are flags = are.enabled-is
each r t are known = are.iuse-is
each r t are required = are.required-is
each r t are (needs Rdepend) = are.rdepend-is
each r t are (needs Pdepend) = are.pdepend-is
each r t are (needs Depend) = are.depend-is
each r t are (needs Bdepend) = are.bdepend-is
each r t are (needs Idepend) = are.idepend-is

pub all_read : (r : RecordTexts) (t : Texts) → AreRead r t → texts_in r ≡ t
all_read r t are = λ i k. each r t are k i

-- a text that was read from a map that is the same
pub same_text_of : (m n : Map) (text : List ℕ) (k : Field) (x : Option (List ℕ)) → n ≡ m → x ≡ texts_at n text k → x ≡ texts_at m text k
same_text_of m n text k x same e = e ∙ ap (λ (y : Map). texts_at y text k) same

one_path : (id : PackageId) (text : List ℕ) (k : Field) → text ≡ id_text id → file_path text k ≡ package_file_path id (name_of k)
unfolding package_file_path
one_path id text k e = ap (λ (t : List ℕ). file_path t k) e

-- the files in the folder of a package's text are those of the package's folder
pub own_texts : (m : Map) (id : PackageId) (text : List ℕ) → text ≡ id_text id → texts_at m text ≡ folder_texts (folder m id)
own_texts m id text e = λ i k. text_of (m (one_path id text k e i))
