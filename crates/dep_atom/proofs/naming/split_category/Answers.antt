use Rattle.std.proofs.Common.{sym, subst}
use Rattle.std.proofs.lemmas.Bool.{both_ways}
use Rattle.pms_names.specs.Names.{IsName}
use Rattle.pms_names.specs.declared.kind.Kind.TheVariants.{Category}
use Rattle.dep_atom.proofs.Named.{category_once}
use Rattle.dep_atom.proofs.naming.split_category.Goals as goal

pub returns-else-is_one : goal.returns-else-is_one
returns-else-is_one c =
    λ category rest is.
    let same = category_once c.args.text.now c.split_before.result.0.now c.split_before.result.1.now category rest c.split_before.ensures.parts c.split_before.ensures.lacks c.split_before.ensures.starts is in
    both_ways _ c.if-is_one.false (c.is_one.ensures.1 (subst (λ l. IsName Category l) (sym same) is.named))
