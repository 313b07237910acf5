use Rattle.std.proofs.Common.{◌∙◌, sym, inl, inr}
use Rattle.std.proofs.lemmas.Result.{err_from_is_err_and}
use Rattle.dep_tree.specs.View.{trees}
use Rattle.required_use.specs.View.{trees as required_trees}
use Rattle.pkg_state.specs.declared.class.Class.TheVariants.{Bdepend, Depend, Idepend, Pdepend, Rdepend}
use Rattle.vdb_law.specs.Fields.{contents, flags, known, needs, required, slots}
use Rattle.dep_atom.proofs.SameParts.{same_facts}
use Rattle.vdb_record.specs.Texts.{value}
use Rattle.vdb_record.specs.Views.{texts_in}
use Rattle.vdb_record.proofs.Files.{good_known, good_needs, good_owned, good_required, good_slots, needs_in, one_edition, read_all, required_in, same_installed, same_package}
use Rattle.vdb_record.proofs.reading.read_files.Goals as goal

pub returns-in_err-bdepend-clause-only : goal.returns-in_err-bdepend-clause-only
returns-in_err-bdepend-clause-only c q is reads =
    let p = err_from_is_err_and c.from_residual.result c.from_residual.ensures.1 in
    rw (p.1, p.2) (c.in_err-bdepend.ensures.only (needs_in (texts_in c.args.texts.now) c.args.edition q c.requires.edition reads Bdepend).0 (needs_in (texts_in c.args.texts.now) c.args.edition q c.requires.edition reads Bdepend).1)

pub returns-in_err-owned-clause-only : goal.returns-in_err-owned-clause-only
returns-in_err-owned-clause-only c q is reads =
    let p = err_from_is_err_and c.from_residual-in_err-owned.result c.from_residual-in_err-owned.ensures.1 in
    rw (p.1, p.2) (c.in_err-owned.ensures.only q.owned (reads contents))

pub returns-in_err-owned-clause-fault : goal.returns-in_err-owned-clause-fault
returns-in_err-owned-clause-fault c =
    let p = err_from_is_err_and c.from_residual-in_err-owned.result c.from_residual-in_err-owned.ensures.1 in
    rw (p.1, p.2)
    (inr (good_needs c.args.edition c.args.id Bdepend (value c.args.texts.now.bdepend) (trees c.in_ok-bdepend.bdepend) c.in_ok-bdepend.ensures.found, inl c.in_err-owned.ensures.fault))

pub returns-in_err-depend-clause-only : goal.returns-in_err-depend-clause-only
returns-in_err-depend-clause-only c q is reads =
    let p = err_from_is_err_and c.from_residual-in_err-depend.result c.from_residual-in_err-depend.ensures.1 in
    rw (p.1, p.2) (c.in_err-depend.ensures.only (needs_in (texts_in c.args.texts.now) c.args.edition q c.requires.edition reads Depend).0 (needs_in (texts_in c.args.texts.now) c.args.edition q c.requires.edition reads Depend).1)

pub returns-in_err-depend-clause-fault : goal.returns-in_err-depend-clause-fault
returns-in_err-depend-clause-fault c =
    let p = err_from_is_err_and c.from_residual-in_err-depend.result c.from_residual-in_err-depend.ensures.1 in
    rw (p.1, p.2)
    (inr (good_needs c.args.edition c.args.id Bdepend (value c.args.texts.now.bdepend) (trees c.in_ok-bdepend.bdepend) c.in_ok-bdepend.ensures.found, inr (good_owned c.args.edition c.args.id (value c.args.texts.now.contents) c.in_ok-owned.owned.items c.in_ok-owned.ensures.found, inl c.in_err-depend.ensures.fault)))

pub returns-in_err-idepend-clause-only : goal.returns-in_err-idepend-clause-only
returns-in_err-idepend-clause-only c q is reads =
    let p = err_from_is_err_and c.from_residual-in_err-idepend.result c.from_residual-in_err-idepend.ensures.1 in
    rw (p.1, p.2) (c.in_err-idepend.ensures.only (needs_in (texts_in c.args.texts.now) c.args.edition q c.requires.edition reads Idepend).0 (needs_in (texts_in c.args.texts.now) c.args.edition q c.requires.edition reads Idepend).1)

pub returns-in_err-idepend-clause-fault : goal.returns-in_err-idepend-clause-fault
returns-in_err-idepend-clause-fault c =
    let p = err_from_is_err_and c.from_residual-in_err-idepend.result c.from_residual-in_err-idepend.ensures.1 in
    rw (p.1, p.2)
    (inr (good_needs c.args.edition c.args.id Bdepend (value c.args.texts.now.bdepend) (trees c.in_ok-bdepend.bdepend) c.in_ok-bdepend.ensures.found, inr (good_owned c.args.edition c.args.id (value c.args.texts.now.contents) c.in_ok-owned.owned.items c.in_ok-owned.ensures.found, inr (good_needs c.args.edition c.args.id Depend (value c.args.texts.now.depend) (trees c.in_ok-depend.depend) c.in_ok-depend.ensures.found, inl c.in_err-idepend.ensures.fault))))

pub returns-in_err-iuse-clause-only : goal.returns-in_err-iuse-clause-only
returns-in_err-iuse-clause-only c q is reads =
    let p = err_from_is_err_and c.from_residual-in_err-iuse.result c.from_residual-in_err-iuse.ensures.1 in
    rw (p.1, p.2) (c.in_err-iuse.ensures.only q.package_is.facts.iuse (reads known))

pub returns-in_err-iuse-clause-fault : goal.returns-in_err-iuse-clause-fault
returns-in_err-iuse-clause-fault c =
    let p = err_from_is_err_and c.from_residual-in_err-iuse.result c.from_residual-in_err-iuse.ensures.1 in
    rw (p.1, p.2)
    (inr (good_needs c.args.edition c.args.id Bdepend (value c.args.texts.now.bdepend) (trees c.in_ok-bdepend.bdepend) c.in_ok-bdepend.ensures.found, inr (good_owned c.args.edition c.args.id (value c.args.texts.now.contents) c.in_ok-owned.owned.items c.in_ok-owned.ensures.found, inr (good_needs c.args.edition c.args.id Depend (value c.args.texts.now.depend) (trees c.in_ok-depend.depend) c.in_ok-depend.ensures.found, inr (good_needs c.args.edition c.args.id Idepend (value c.args.texts.now.idepend) (trees c.in_ok-idepend.idepend) c.in_ok-idepend.ensures.found, inl c.in_err-iuse.ensures.fault)))))

pub returns-in_err-pdepend-clause-only : goal.returns-in_err-pdepend-clause-only
returns-in_err-pdepend-clause-only c q is reads =
    let p = err_from_is_err_and c.from_residual-in_err-pdepend.result c.from_residual-in_err-pdepend.ensures.1 in
    rw (p.1, p.2) (c.in_err-pdepend.ensures.only (needs_in (texts_in c.args.texts.now) c.args.edition q c.requires.edition reads Pdepend).0 (needs_in (texts_in c.args.texts.now) c.args.edition q c.requires.edition reads Pdepend).1)

pub returns-in_err-pdepend-clause-fault : goal.returns-in_err-pdepend-clause-fault
returns-in_err-pdepend-clause-fault c =
    let p = err_from_is_err_and c.from_residual-in_err-pdepend.result c.from_residual-in_err-pdepend.ensures.1 in
    rw (p.1, p.2)
    (inr (good_needs c.args.edition c.args.id Bdepend (value c.args.texts.now.bdepend) (trees c.in_ok-bdepend.bdepend) c.in_ok-bdepend.ensures.found, inr (good_owned c.args.edition c.args.id (value c.args.texts.now.contents) c.in_ok-owned.owned.items c.in_ok-owned.ensures.found, inr (good_needs c.args.edition c.args.id Depend (value c.args.texts.now.depend) (trees c.in_ok-depend.depend) c.in_ok-depend.ensures.found, inr (good_needs c.args.edition c.args.id Idepend (value c.args.texts.now.idepend) (trees c.in_ok-idepend.idepend) c.in_ok-idepend.ensures.found, inr (good_known c.args.edition c.args.id (value c.args.texts.now.iuse) c.in_ok-iuse.iuse c.in_ok-iuse.ensures.found, inl c.in_err-pdepend.ensures.fault))))))

pub returns-in_err-rdepend-clause-only : goal.returns-in_err-rdepend-clause-only
returns-in_err-rdepend-clause-only c q is reads =
    let p = err_from_is_err_and c.from_residual-in_err-rdepend.result c.from_residual-in_err-rdepend.ensures.1 in
    rw (p.1, p.2) (c.in_err-rdepend.ensures.only (needs_in (texts_in c.args.texts.now) c.args.edition q c.requires.edition reads Rdepend).0 (needs_in (texts_in c.args.texts.now) c.args.edition q c.requires.edition reads Rdepend).1)

pub returns-in_err-rdepend-clause-fault : goal.returns-in_err-rdepend-clause-fault
returns-in_err-rdepend-clause-fault c =
    let p = err_from_is_err_and c.from_residual-in_err-rdepend.result c.from_residual-in_err-rdepend.ensures.1 in
    rw (p.1, p.2)
    (inr (good_needs c.args.edition c.args.id Bdepend (value c.args.texts.now.bdepend) (trees c.in_ok-bdepend.bdepend) c.in_ok-bdepend.ensures.found, inr (good_owned c.args.edition c.args.id (value c.args.texts.now.contents) c.in_ok-owned.owned.items c.in_ok-owned.ensures.found, inr (good_needs c.args.edition c.args.id Depend (value c.args.texts.now.depend) (trees c.in_ok-depend.depend) c.in_ok-depend.ensures.found, inr (good_needs c.args.edition c.args.id Idepend (value c.args.texts.now.idepend) (trees c.in_ok-idepend.idepend) c.in_ok-idepend.ensures.found, inr (good_known c.args.edition c.args.id (value c.args.texts.now.iuse) c.in_ok-iuse.iuse c.in_ok-iuse.ensures.found, inr (good_needs c.args.edition c.args.id Pdepend (value c.args.texts.now.pdepend) (trees c.in_ok-pdepend.pdepend) c.in_ok-pdepend.ensures.found, inl c.in_err-rdepend.ensures.fault)))))))

pub returns-in_err-required_use-clause-only : goal.returns-in_err-required_use-clause-only
returns-in_err-required_use-clause-only c q is reads =
    let p = err_from_is_err_and c.from_residual-in_err-required_use.result c.from_residual-in_err-required_use.ensures.1 in
    rw (p.1, p.2) (c.in_err-required_use.ensures.only q.package_is.required (required_in (texts_in c.args.texts.now) c.args.edition q c.requires.edition reads))

pub returns-in_err-required_use-clause-fault : goal.returns-in_err-required_use-clause-fault
returns-in_err-required_use-clause-fault c =
    let p = err_from_is_err_and c.from_residual-in_err-required_use.result c.from_residual-in_err-required_use.ensures.1 in
    rw (p.1, p.2)
    (inr (good_needs c.args.edition c.args.id Bdepend (value c.args.texts.now.bdepend) (trees c.in_ok-bdepend.bdepend) c.in_ok-bdepend.ensures.found, inr (good_owned c.args.edition c.args.id (value c.args.texts.now.contents) c.in_ok-owned.owned.items c.in_ok-owned.ensures.found, inr (good_needs c.args.edition c.args.id Depend (value c.args.texts.now.depend) (trees c.in_ok-depend.depend) c.in_ok-depend.ensures.found, inr (good_needs c.args.edition c.args.id Idepend (value c.args.texts.now.idepend) (trees c.in_ok-idepend.idepend) c.in_ok-idepend.ensures.found, inr (good_known c.args.edition c.args.id (value c.args.texts.now.iuse) c.in_ok-iuse.iuse c.in_ok-iuse.ensures.found, inr (good_needs c.args.edition c.args.id Pdepend (value c.args.texts.now.pdepend) (trees c.in_ok-pdepend.pdepend) c.in_ok-pdepend.ensures.found, inr (good_needs c.args.edition c.args.id Rdepend (value c.args.texts.now.rdepend) (trees c.in_ok-rdepend.rdepend) c.in_ok-rdepend.ensures.found, inl c.in_err-required_use.ensures.fault))))))))

pub returns-in_err-slots-clause-only : goal.returns-in_err-slots-clause-only
returns-in_err-slots-clause-only c q is reads =
    let p = err_from_is_err_and c.from_residual-in_err-slots.result c.from_residual-in_err-slots.ensures.1 in
    rw (p.1, p.2) (c.in_err-slots.ensures.only q.package_is.facts.slot q.package_is.facts.subslot (reads slots))

pub returns-in_err-slots-clause-fault : goal.returns-in_err-slots-clause-fault
returns-in_err-slots-clause-fault c =
    let p = err_from_is_err_and c.from_residual-in_err-slots.result c.from_residual-in_err-slots.ensures.1 in
    rw (p.1, p.2)
    (inr (good_needs c.args.edition c.args.id Bdepend (value c.args.texts.now.bdepend) (trees c.in_ok-bdepend.bdepend) c.in_ok-bdepend.ensures.found, inr (good_owned c.args.edition c.args.id (value c.args.texts.now.contents) c.in_ok-owned.owned.items c.in_ok-owned.ensures.found, inr (good_needs c.args.edition c.args.id Depend (value c.args.texts.now.depend) (trees c.in_ok-depend.depend) c.in_ok-depend.ensures.found, inr (good_needs c.args.edition c.args.id Idepend (value c.args.texts.now.idepend) (trees c.in_ok-idepend.idepend) c.in_ok-idepend.ensures.found, inr (good_known c.args.edition c.args.id (value c.args.texts.now.iuse) c.in_ok-iuse.iuse c.in_ok-iuse.ensures.found, inr (good_needs c.args.edition c.args.id Pdepend (value c.args.texts.now.pdepend) (trees c.in_ok-pdepend.pdepend) c.in_ok-pdepend.ensures.found, inr (good_needs c.args.edition c.args.id Rdepend (value c.args.texts.now.rdepend) (trees c.in_ok-rdepend.rdepend) c.in_ok-rdepend.ensures.found, inr (good_required c.args.edition c.args.id (value c.args.texts.now.required_use) (required_trees c.in_ok-required_use.required_use) c.in_ok-required_use.ensures.found, inl c.in_err-slots.ensures.fault)))))))))

pub returns-in_err-enabled-clause-only : goal.returns-in_err-enabled-clause-only
returns-in_err-enabled-clause-only c q is reads =
    let p = err_from_is_err_and c.from_residual-in_err-enabled.result c.from_residual-in_err-enabled.ensures.1 in
    rw (p.1, p.2) (c.in_err-enabled.ensures.only q.package_is.facts.enabled (reads flags))

pub returns-in_err-enabled-clause-fault : goal.returns-in_err-enabled-clause-fault
returns-in_err-enabled-clause-fault c =
    let p = err_from_is_err_and c.from_residual-in_err-enabled.result c.from_residual-in_err-enabled.ensures.1 in
    rw (p.1, p.2)
    (inr (good_needs c.args.edition c.args.id Bdepend (value c.args.texts.now.bdepend) (trees c.in_ok-bdepend.bdepend) c.in_ok-bdepend.ensures.found, inr (good_owned c.args.edition c.args.id (value c.args.texts.now.contents) c.in_ok-owned.owned.items c.in_ok-owned.ensures.found, inr (good_needs c.args.edition c.args.id Depend (value c.args.texts.now.depend) (trees c.in_ok-depend.depend) c.in_ok-depend.ensures.found, inr (good_needs c.args.edition c.args.id Idepend (value c.args.texts.now.idepend) (trees c.in_ok-idepend.idepend) c.in_ok-idepend.ensures.found, inr (good_known c.args.edition c.args.id (value c.args.texts.now.iuse) c.in_ok-iuse.iuse c.in_ok-iuse.ensures.found, inr (good_needs c.args.edition c.args.id Pdepend (value c.args.texts.now.pdepend) (trees c.in_ok-pdepend.pdepend) c.in_ok-pdepend.ensures.found, inr (good_needs c.args.edition c.args.id Rdepend (value c.args.texts.now.rdepend) (trees c.in_ok-rdepend.rdepend) c.in_ok-rdepend.ensures.found, inr (good_required c.args.edition c.args.id (value c.args.texts.now.required_use) (required_trees c.in_ok-required_use.required_use) c.in_ok-required_use.ensures.found, inr (good_slots c.args.edition c.args.id (value c.args.texts.now.slot) c.in_ok-slots.slots.slot c.in_ok-slots.slots.subslot c.in_ok-slots.ensures.found, inl c.in_err-enabled.ensures.fault))))))))))

pub returns-clause-found : goal.returns-clause-found
returns-clause-found c =
    read_all (texts_in c.args.texts.now) _
    (record {
      of_contents = c.in_ok-owned.ensures.found;
      of_eapi = c.requires.edition;
      of_slots = c.in_ok-slots.ensures.found;
      of_flags = c.in_ok-enabled.ensures.found;
      of_known = c.in_ok-iuse.ensures.found;
      of_required = c.in_ok-required_use.ensures.found;
      of_rdepend = c.in_ok-rdepend.ensures.found;
      of_pdepend = c.in_ok-pdepend.ensures.found;
      of_depend = c.in_ok-depend.ensures.found;
      of_bdepend = c.in_ok-bdepend.ensures.found;
      of_idepend = c.in_ok-idepend.ensures.found;
    })

pub returns-clause-only : goal.returns-clause-only
returns-clause-only c q is reads =
    let both = c.in_ok-slots.ensures.only q.package_is.facts.slot q.package_is.facts.subslot (reads slots) in
    same_installed _ q
    (same_package _ q.package_is (sym (one_edition (texts_in c.args.texts.now) c.args.edition q c.requires.edition reads))
    (same_facts _ q.package_is.facts (sym is) both.0 both.1 (c.in_ok-iuse.ensures.only q.package_is.facts.iuse (reads known)) (c.in_ok-enabled.ensures.only q.package_is.facts.enabled (reads flags)))
    (c.in_ok-rdepend.ensures.only (needs_in (texts_in c.args.texts.now) c.args.edition q c.requires.edition reads Rdepend).0 (needs_in (texts_in c.args.texts.now) c.args.edition q c.requires.edition reads Rdepend).1 ∙ sym (needs_in (texts_in c.args.texts.now) c.args.edition q c.requires.edition reads Rdepend).2)
    (c.in_ok-pdepend.ensures.only (needs_in (texts_in c.args.texts.now) c.args.edition q c.requires.edition reads Pdepend).0 (needs_in (texts_in c.args.texts.now) c.args.edition q c.requires.edition reads Pdepend).1 ∙ sym (needs_in (texts_in c.args.texts.now) c.args.edition q c.requires.edition reads Pdepend).2)
    (c.in_ok-depend.ensures.only (needs_in (texts_in c.args.texts.now) c.args.edition q c.requires.edition reads Depend).0 (needs_in (texts_in c.args.texts.now) c.args.edition q c.requires.edition reads Depend).1 ∙ sym (needs_in (texts_in c.args.texts.now) c.args.edition q c.requires.edition reads Depend).2)
    (c.in_ok-bdepend.ensures.only (needs_in (texts_in c.args.texts.now) c.args.edition q c.requires.edition reads Bdepend).0 (needs_in (texts_in c.args.texts.now) c.args.edition q c.requires.edition reads Bdepend).1 ∙ sym (needs_in (texts_in c.args.texts.now) c.args.edition q c.requires.edition reads Bdepend).2)
    (c.in_ok-idepend.ensures.only (needs_in (texts_in c.args.texts.now) c.args.edition q c.requires.edition reads Idepend).0 (needs_in (texts_in c.args.texts.now) c.args.edition q c.requires.edition reads Idepend).1 ∙ sym (needs_in (texts_in c.args.texts.now) c.args.edition q c.requires.edition reads Idepend).2)
    (c.in_ok-required_use.ensures.only q.package_is.required (required_in (texts_in c.args.texts.now) c.args.edition q c.requires.edition reads)))
    (c.in_ok-owned.ensures.only q.owned (reads contents))
