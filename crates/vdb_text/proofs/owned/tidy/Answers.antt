use Rattle.std.proofs.Common.{List, subst}
use Rattle.std.proofs.lemmas.Option.{MatchOption-at_none}
use Rattle.vdb_law.specs.Packages.{Installed}
use Rattle.vdb_overlap.specs.Overlaps.{AreApart, IsFirstOverlap}
use Rattle.vdb_text.specs.Owned.{all_paths}
use Rattle.vdb_text.proofs.Tidy.{tidy_if_apart}
use Rattle.vdb_text.proofs.owned.tidy.Goals as goal

pub returns-in-None-clause-tidy : goal.returns-in-None-clause-tidy
returns-in-None-clause-tidy c =
    let seen : List Installed = c.deref.result.now in
    let apart = MatchOption-at_none (AreApart (all_paths seen)) (IsFirstOverlap (all_paths seen)) c.in-None.is c.in_ok-first_overlap.ensures in
    tidy_if_apart c.args.packages.items (subst (λ (ps : List Installed). AreApart (all_paths ps)) c.deref.ensures.value apart)
