-- Entries that are told of one text are kept back for one reason.
use Rattle.std.proofs.Common.{◌≡◌, ◌∙◌, ◌&&◌, ◌||◌, ℕ, Bool, false, cond, not, List, [], ◌∷◌, Option, None, Some, ap, filter, sym}
use Rattle.std.specs.List.{flat_map, list_all, list_any}
use Rattle.std.specs.Option.{option_map_or}
use Rattle.pms_names.specs.Flags.{has}
use Rattle.dep_atom.specs.Match.{accepts_slot, accepts_use, accepts_version, agrees_with, same_name}
use Rattle.dep_atom.specs.Values.{AtomValue, atom_value}
use Rattle.dep_atom.specs.declared.atom.Atom.{Atom}
use Rattle.dep_atom.specs.declared.package.Facts.{Facts}
use Rattle.dep_atom.specs.declared.package.PackageId.{PackageId}
use Rattle.dep_atom.specs.declared.uses.UseDep.{UseDep}
use Rattle.dep_atom.proofs.SameParts.{same_facts}
use Rattle.pms_slot.specs.Slots.{IsSlotValue}
use Rattle.md5_cache.specs.Entries.{CacheEntryValue, Tells}
use Rattle.md5_cache.specs.declared.pair.Pair.{Pair}
use Rattle.visible_rules.specs.Items.{is_meant}
use Rattle.visible_rules.specs.Keywords.{every, is_accepted, words_of}
use Rattle.visible_verdicts.specs.Verdicts.{kept_back}
use Rattle.visible_verdicts.specs.declared.reason.Reason.{Reason}
use Rattle.visible_verdicts.specs.declared.reason.Reason.TheVariants.{Keyword, Masked}
use Rattle.visible_verdicts.specs.declared.rules.VisibleRules.{VisibleRules}

-- a value of SLOT says one slot and one subslot
abbrev pub SaysOnce : Type 0
SaysOnce = (t a b c d : List ℕ) → IsSlotValue t a b → IsSlotValue t c d → (a ≡ c) × (b ≡ d)

same_use : (f : Facts) (iuse : List (List ℕ)) → ((q : List ℕ) → has f.iuse q ≡ has iuse q) → (item : UseDep) → accepts_use f.iuse f.enabled [] item ≡ accepts_use iuse f.enabled [] item
same_use f iuse same item =
    ap (λ (b : Bool). agrees_with item.kind (has [] item.flag) (cond (b || has f.enabled item.flag) (Some (has f.enabled item.flag)) item.otherwise)) (same item.flag)

-- of the flags that a package knows only which they are counts
same_match : (f g : Facts) → f.id ≡ g.id → f.slot ≡ g.slot → f.subslot ≡ g.subslot → f.enabled ≡ g.enabled → ((q : List ℕ) → has f.iuse q ≡ has g.iuse q) → (atom : Atom) → is_meant f atom ≡ is_meant g atom
same_match f g id slot subslot enabled same atom =
    let a : AtomValue = atom_value atom in
    let h : Facts = record { id = f.id; slot = f.slot; subslot = f.subslot; iuse = g.iuse; enabled = f.enabled } in
    let first : is_meant f atom ≡ is_meant h atom = λ i. same_name a.name f.id.name && (accepts_version a.op a.star a.version f.id.version && (accepts_slot a.slot f.slot f.subslot && list_all (λ item. same_use f g.iuse same item i) a.uses)) in
    first ∙ ap (λ (x : Facts). is_meant x atom) (same_facts h g id slot subslot (λ i. g.iuse) enabled)

-- what keeps an entry back, by what its atoms mean
abbrev by_atoms : VisibleRules → (Atom → Bool) → List (List ℕ) → Option Reason
by_atoms rules is keywords =
    cond (list_any (is_accepted rules.keywords.standing (flat_map (words_of rules.keywords.bare) (filter (λ l. is l.atom) rules.keywords.lines))) (every ∷ keywords))
    (cond (list_any (λ i. option_map_or is i.atom false) rules.masks && not (list_any (λ i. option_map_or is i.atom false) rules.unmasks)) (Some Masked) None) (Some Keyword)

pub kept_alike : (rules : VisibleRules) (pairs : List Pair) (id : PackageId) (e d : CacheEntryValue) → SaysOnce → Tells pairs id e → Tells pairs id d → kept_back rules e ≡ kept_back rules d
kept_alike rules pairs id e d once h k =
    let f = e.package_is.facts in
    let g = d.package_is.facts in
    let slots = once _ f.slot f.subslot g.slot g.subslot h.facts.slots k.facts.slots in
    let same = same_match f g (h.facts.named ∙ sym k.facts.named) slots.0 slots.1 (h.facts.none_on ∙ sym k.facts.none_on) (λ q. h.facts.known q ∙ sym (k.facts.known q)) in
    let atoms : is_meant f ≡ is_meant g = λ i atom. same atom i in
    ap (λ (is : Atom → Bool). by_atoms rules is e.keywords) atoms ∙ ap (λ (ks : List (List ℕ)). by_atoms rules (is_meant g) ks) (h.keywords ∙ sym k.keywords)
