-- The editions of the standard that are read (PMS 2.2), and what differs between them.
use Rattle.std.specs.Prelude.{◌≡◌, ℕ, Bool, true, false, List, codes}
use Rattle.pkg_state.specs.declared.class.Class.{Class}
use Rattle.pkg_state.specs.declared.class.Class.TheVariants.{Rdepend, Pdepend, Depend, Bdepend, Idepend}
use Rattle.pkg_state.specs.declared.eapi.Eapi.{Eapi}
use Rattle.pkg_state.specs.declared.eapi.Eapi.TheVariants.{Five, Six, Seven, Eight}

abbrev pub eapi_text : Eapi → List ℕ
eapi_text Five = codes "5"
eapi_text Six = codes "6"
eapi_text Seven = codes "7"
eapi_text Eight = codes "8"

-- no edition that is read has this text
abbrev pub IsNoEapi : List ℕ → Type 0
IsNoEapi text = (e : Eapi) → ¬ (eapi_text e ≡ text)

-- an any-of or an exactly-one group without members holds (PMS 8.2)
abbrev pub empty_holds : Eapi → Bool
empty_holds Five = true
empty_holds Six = true
empty_holds Seven = false
empty_holds Eight = false

-- packages have needs of this class (PMS 8.1)
abbrev pub has_class : Eapi → Class → Bool
has_class e Rdepend = true
has_class e Pdepend = true
has_class e Depend = true
has_class Five Bdepend = false
has_class Six Bdepend = false
has_class Seven Bdepend = true
has_class Eight Bdepend = true
has_class Five Idepend = false
has_class Six Idepend = false
has_class Seven Idepend = false
has_class Eight Idepend = true
