-- The files of a package's folder as the code names them.
use Rattle.pkg_state.specs.declared.class.Class.TheVariants.{Bdepend, Depend, Idepend, Pdepend, Rdepend}
use Rattle.vdb_law.specs.Fields.{Field, contents, eapi, flags, known, needs, required, slots}
use Rattle.vdb_record.specs.Texts.{Texts}
use Rattle.vdb_record.specs.declared.file.RecordFile.{RecordFile}
use Rattle.vdb_record.specs.declared.file.RecordFile.TheVariants as files
use Rattle.vdb_record.specs.declared.texts.RecordTexts.{RecordTexts}

-- which file it is
abbrev pub field_of : RecordFile → Field
field_of files.Contents = contents
field_of files.Eapi = eapi
field_of files.Slot = slots
field_of files.Use = flags
field_of files.Iuse = known
field_of files.RequiredUse = required
field_of (files.Needs class) = needs class

-- the text of each file
abbrev pub texts_in : RecordTexts → Texts
texts_in r contents = r.contents
texts_in r eapi = r.eapi
texts_in r slots = r.slot
texts_in r flags = r.enabled
texts_in r known = r.iuse
texts_in r required = r.required_use
texts_in r (needs Rdepend) = r.rdepend
texts_in r (needs Pdepend) = r.pdepend
texts_in r (needs Depend) = r.depend
texts_in r (needs Bdepend) = r.bdepend
texts_in r (needs Idepend) = r.idepend
