-- The texts of the files of a package's folder, and what they tell of it.
use Rattle.std.specs.Prelude.{◌≡◌, ℕ, true, List, [], ◌∷◌, Option, unwrap_or, IsSome}
use Rattle.dep_atom.specs.declared.package.PackageId.{PackageId}
use Rattle.dep_group.specs.Words.{words_of}
use Rattle.pkg_state.specs.Eapis.{eapi_text}
use Rattle.pkg_state.specs.declared.eapi.Eapi.{Eapi}
use Rattle.vdb_law.specs.Fields.{Field, Folder, Reads, contents, eapi, flags, is_needed, known, name_of, needs, needs_text, required, slots, text_of}
use Rattle.vdb_law.specs.Packages.{Installed, id_of}

-- the text of each file that is there
abbrev pub Texts : Type 0
Texts = Field → Option (List ℕ)

-- what a file says, which is nothing where it is missing
abbrev pub value : Option (List ℕ) → List ℕ
value text = unwrap_or text []

-- EAPI says this edition
abbrev pub IsOfEdition : Texts → Eapi → Type 0
IsOfEdition t e = words_of (value (t eapi)) ≡ eapi_text e ∷ []

-- what is read of a file in a record of the edition: nothing of a class that the edition lacks
abbrev pub text_for : Eapi → Texts → Field → List ℕ
text_for e t contents = value (t contents)
text_for e t eapi = value (t eapi)
text_for e t slots = value (t slots)
text_for e t flags = value (t flags)
text_for e t known = value (t known)
text_for e t required = value (t required)
text_for e t (needs class) = needs_text e class (value (t (needs class)))

-- each file says this of the package
abbrev pub ReadAll : Texts → Installed → Type 0
ReadAll t p = (k : Field) → Reads k (value (t k)) p

-- the files that must be there are, and all say this of the package with this id
pub record Tell (t : Texts) (id : PackageId) (p : Installed) : Type 0 where
  pub of : id_of p ≡ id
  pub there : (k : Field) → is_needed k ≡ true → IsSome (t k)
  pub reads : ReadAll t p

-- the texts of the files of a folder
abbrev pub folder_texts : Folder → Texts
folder_texts f k = text_of (f (name_of k))
