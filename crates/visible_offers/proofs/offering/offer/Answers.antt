use Rattle.std.proofs.Common.{◌∙◌, List, ap, subst, ℕ}
use Rattle.std.specs.List.{AllZip}
use Rattle.visible_flags.specs.Variants.{Setting}
use Rattle.pkg_state.specs.Package.{Package, with_enabled}
use Rattle.pms_names.specs.Flags.{has}
use Rattle.visible_offers.specs.Flags.{settings_of}
use Rattle.visible_offers.specs.Offered.{HasOn}
use Rattle.visible_offers.proofs.Each.{zip_mapped}
use Rattle.visible_offers.proofs.offering.offer.Goals as goal

pub returns : goal.returns
returns c =
    let p = c.pkg_of-pkg.result.now in
    let vs = c.in_ok-variants.variants.items in
    record {
      bare = c.in_ok-offered.ensures ∙ (ap (λ (on : List (List ℕ)). with_enabled on p) c.in_ok-implicit.ensures ∙ ap (λ (x : Package). with_enabled c.args.config.now.implicit x) c.pkg_of-pkg.ensures);
      each = subst (λ (x : Package). AllZip (HasOn x) (settings_of c.args.config.now c.args.entry.now c.args.flips) vs) c.pkg_of-pkg.ensures (subst (λ (ss : List Setting). AllZip (HasOn p) ss vs) c.in_ok-settings.ensures (zip_mapped has (HasOn p) c.in_ok-settings.settings.items vs (subst (λ (l : List (List (List ℕ))). AllZip (λ (on : List (List ℕ)). HasOn p (has on)) l vs) c.deref.ensures.value c.in_ok-variants.ensures)));
    }
