use Rattle.std.proofs.Common.{◌∙◌, length, sym, subst}
use Rattle.pms_names.specs.Names.{IsName}
use Rattle.pms_names.specs.declared.kind.Kind.TheVariants.{Package}
use Rattle.dep_atom.specs.Naming.{IsReadableText}
use Rattle.dep_atom.proofs.Named.{is_version, then_at, then_seam}
use Rattle.dep_atom.proofs.naming.read_package_version.Goals as goal

pub returns-in_default : goal.returns-in_default
returns-in_default c = λ t. c.in_default.ensures (length t.0) (then_seam IsReadableText c.args.text.now is_version t)

pub returns-in_default-2 : goal.returns-in_default-2
returns-in_default-2 c =
    λ t.
    let none = rw c.in_default-2.is at c.in_ok-package.ensures in
    let same = then_at IsReadableText c.args.text.now c.in-Some.at is_version c.in-Some.ensures t in
    none (subst (λ l. IsName Package l) (sym (c.split_at.ensures.front ∙ same.0)) t.2)

pub returns-in_default-3 : goal.returns-in_default-3
returns-in_default-3 c =
    λ t.
    let none = rw c.in_default-3.is at c.in_ok-version.ensures in
    let same = then_at IsReadableText c.args.text.now c.in-Some.at is_version c.in-Some.ensures t in
    none (subst IsReadableText (sym (c.split_at-2.ensures.back ∙ same.1)) t.3)
