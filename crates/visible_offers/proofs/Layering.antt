-- Layers of changes, and what they make of a flag.
use denote.Ref.{Bor}
use Rattle.std.proofs.Common.{◌≡◌, ◌∙◌, ◌+◌, ◌||◌, ◌&&◌, ℕ, Bool, true, false, not, List, [], ◌∷◌, ap, filter, map, refl}
use Rattle.std.proofs.lemmas.List.Sums.{fold-append}
use Rattle.visible_flags.specs.Settings.{after_layers}
use Rattle.visible_flags.specs.Settings as chosen
use Rattle.visible_flags.specs.Variants.{Setting, lists_below, settings, variants}
use Rattle.visible_flags.specs.declared.base.FlagRules.{FlagRules}
use Rattle.visible_rules.specs.Items.{changes_for, is_turned_on}
use Rattle.dep_atom.specs.declared.package.Facts.{Facts}
use Rattle.md5_cache.specs.Entries.{CacheEntryValue}
use Rattle.pms_names.specs.Flags.{has}
use Rattle.required_use.specs.Texts.{Expressions}
use Rattle.use_flags.specs.Changes.{has_after}
use Rattle.use_flags.specs.declared.change.Change.{Change}
use Rattle.visible_offers.specs.Flags.{FlagConfigValue, after_items, is_base, is_configured, is_forced, is_free, is_masked, settings_of}
use Rattle.visible_offers.specs.Layers.{after_all, base_by, changes_by, free_by, layers_of, settings_by}
use Rattle.visible_offers.specs.Words.{after_words}
use Rattle.visible_offers.proofs.Saying.{said_of_known}

pub after_all-is : (layers : List (Bor (List Change))) (flag : List ℕ) (on : Bool) → after_layers layers flag on ≡ after_all (map {A = Bor (List Change)} {B = List Change} (λ c. c.now) layers) flag on
after_all-is [] flag on = refl
after_all-is (l ∷ ls) flag on = after_all-is ls flag (has_after l.now flag on)

-- the layers of a candidate make of a flag that it knows what the configuration does
pub configured_by : (c : FlagConfigValue) (facts : Facts) (defaults conf : List Change) (flag : List ℕ) (on : Bool) → ((had : Bool) → has_after defaults flag had ≡ after_words c.defaults flag had) → ((had : Bool) → has_after conf flag had ≡ after_words c.conf flag had) → after_all (layers_of facts defaults c.profile_uses conf c.uses) flag on ≡ is_configured c facts flag on
configured_by c facts defaults conf flag on first second =
    fold-append (λ (b : Bool) (changes : List Change). has_after changes flag b) on (defaults ∷ changes_for facts c.profile_uses) (conf ∷ changes_for facts c.uses)
    ∙ (ap (λ (b : Bool). after_items facts c.uses flag b) (second (after_items facts c.profile_uses flag (has_after defaults flag on)))
    ∙ ap (λ (b : Bool). after_items facts c.uses flag (after_words c.conf flag (after_items facts c.profile_uses flag b))) (first on))

known_only : (known : Bool) (a b : Bool) → (known ≡ true → a ≡ b) → (known && a) ≡ (known && b)
known_only true a b same = same refl
known_only false a b same = refl

-- the flags that are on by the layers are those that the configuration has on
pub base_alike : (implicit known masked masked' forced forced' on on' : Bool) → masked ≡ masked' → forced ≡ forced' → (known ≡ true → on ≡ on') → (implicit || (known && (not masked && (forced || on)))) ≡ (implicit || (known && (not masked' && (forced' || on'))))
base_alike implicit known masked masked' forced forced' on on' m f same =
    ap (λ (b : Bool). implicit || b) (known_only known _ _ (λ knows. ap (λ (b : Bool). not b && (forced || on)) m ∙ (ap (λ (b : Bool). not masked' && (b || on)) f ∙ ap (λ (b : Bool). not masked' && (forced' || b)) (same knows))))

pub free_alike : (implicit masked masked' forced forced' : Bool) → masked ≡ masked' → forced ≡ forced' → not (forced || (masked || implicit)) ≡ not (forced' || (masked' || implicit))
free_alike implicit masked masked' forced forced' m f = ap (λ (b : Bool). not (b || (masked || implicit))) f ∙ ap (λ (b : Bool). not (forced' || (b || implicit))) m

-- the settings by these layers are those that may be chosen
pub settings_alike : (c : FlagConfigValue) (e : CacheEntryValue) (flips : ℕ) (facts : Facts) (defaults conf : List Change) (layers : List (List Change)) (forced masked : List (List ℕ)) → facts ≡ e.package_is.facts → defaults ≡ changes_by c.defaults facts.iuse → conf ≡ changes_by c.conf facts.iuse → layers ≡ layers_of facts defaults c.profile_uses conf c.uses → ((flag : List ℕ) → has forced flag ≡ is_turned_on (changes_for facts c.forces) flag) → ((flag : List ℕ) → has masked flag ≡ is_turned_on (changes_for facts c.masks) flag) → settings_by e.package_is.required e.package_is.facts.iuse (base_by layers forced masked c.implicit e.package_is.facts.iuse e.on) (free_by forced masked c.implicit) flips ≡ settings_of c e flips
settings_alike c e flips facts defaults conf layers forced masked facts-is d k l f m =
    ap (λ (s : Setting). settings_by e.package_is.required e.package_is.facts.iuse s (free_by forced masked c.implicit) flips) (λ i q. base q i)
    ∙ ap (λ (p : List ℕ → Bool). settings e.package_is.required (is_base c e) (lists_below (flips + 1) (filter p e.package_is.facts.iuse))) (λ i q. free q i)
  where
    forced-is : (q : List ℕ) → has forced q ≡ is_forced c e.package_is.facts q
    forced-is q = f q ∙ ap (λ (x : Facts). is_forced c x q) facts-is

    masked-is : (q : List ℕ) → has masked q ≡ is_masked c e.package_is.facts q
    masked-is q = m q ∙ ap (λ (x : Facts). is_masked c x q) facts-is

    on : (q : List ℕ) → has e.package_is.facts.iuse q ≡ true → after_all layers q (has e.on q) ≡ is_configured c e.package_is.facts q (has e.on q)
    on q knows =
        let knows' : has facts.iuse q ≡ true = ap (λ (x : Facts). has x.iuse q) facts-is ∙ knows in
        ap (λ (ls : List (List Change)). after_all ls q (has e.on q)) l
        ∙ (configured_by c facts defaults conf q (has e.on q) (said_of_known c.defaults q facts.iuse defaults d knows') (said_of_known c.conf q facts.iuse conf k knows')
        ∙ ap (λ (x : Facts). is_configured c x q (has e.on q)) facts-is)

    base : (q : List ℕ) → base_by layers forced masked c.implicit e.package_is.facts.iuse e.on q ≡ is_base c e q
    base q = base_alike (has c.implicit q) (has e.package_is.facts.iuse q) (has masked q) _ (has forced q) _ _ _ (masked-is q) (forced-is q) (on q)

    free : (q : List ℕ) → free_by forced masked c.implicit q ≡ is_free c e.package_is.facts q
    free q = free_alike (has c.implicit q) (has masked q) _ (has forced q) _ (masked-is q) (forced-is q)

-- the settings of known flags by these rules
abbrev by_rules : FlagRules → ℕ → Expressions → List (List ℕ) → List (List ℕ) → List Setting
by_rules rules flips required known on = settings_by required known (base_by (map {A = Bor (List Change)} {B = List Change} (λ c. c.now) rules.layers.now) rules.forced.now rules.masked.now rules.implicit.now known on) (free_by rules.forced.now rules.masked.now rules.implicit.now) flips

-- the variants by these rules are those of the entry
pub settings_from : (e : CacheEntryValue) (rules : FlagRules) (flips : ℕ) (required : Expressions) (known on base : List (List ℕ)) → required ≡ e.package_is.required → known ≡ e.package_is.facts.iuse → on ≡ e.on → ((q : List ℕ) → has base q ≡ chosen.is_base rules known on q) → variants required rules known (has base) flips ≡ settings_by e.package_is.required e.package_is.facts.iuse (base_by (map {A = Bor (List Change)} {B = List Change} (λ c. c.now) rules.layers.now) rules.forced.now rules.masked.now rules.implicit.now e.package_is.facts.iuse e.on) (free_by rules.forced.now rules.masked.now rules.implicit.now) flips
settings_from e rules flips required known on base r k o is =
    ap (λ (s : Setting). settings_by required known s (free_by rules.forced.now rules.masked.now rules.implicit.now) flips) (λ i q. base-is q i)
    ∙ (ap (λ (x : Expressions). by_rules rules flips x known on) r
    ∙ (ap (λ (x : List (List ℕ)). by_rules rules flips e.package_is.required x on) k
    ∙ ap (λ (x : List (List ℕ)). by_rules rules flips e.package_is.required e.package_is.facts.iuse x) o))
  where
    base-is : (q : List ℕ) → has base q ≡ base_by (map {A = Bor (List Change)} {B = List Change} (λ c. c.now) rules.layers.now) rules.forced.now rules.masked.now rules.implicit.now known on q
    base-is q = is q ∙ ap (λ (b : Bool). has rules.implicit.now q || (has known q && (not (has rules.masked.now q) && (has rules.forced.now q || b)))) (after_all-is rules.layers.now q (has on q))
