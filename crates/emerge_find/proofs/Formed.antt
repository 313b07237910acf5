-- The packages that are offered are in form, with just the implicit flags on.
use Rattle.std.proofs.Common.{◌≡◌, ◌∙◌, ℕ, Bool, false, List, [], ◌∷◌, ap, inl, inr, map, subst, sym}
use Rattle.std.specs.Prelude.{if◌then◌else◌}
use Rattle.std.specs.List.{AllByRecursion, filter_map}
use Rattle.basics.specs.Members.{Has}
use Rattle.basics.proofs.Each.{zip_has}
use Rattle.basics.proofs.Membership.{has-filter_back, has-map_back}
use Rattle.dep_group.specs.Trees.{no_trees}
use Rattle.dep_group.specs.Words.{words_of}
use Rattle.dep_tree.specs.Grammar as dependencies
use Rattle.dep_tree.specs.Texts.{Dependencies}
use Rattle.file_tree.specs.Disk.{Map}
use Rattle.pkg_state.specs.Eapis.{has_class}
use Rattle.pkg_state.specs.Editions.{FitsEdition}
use Rattle.pkg_state.specs.Package.{Package, class_word, tree_of, with_enabled}
use Rattle.pkg_state.specs.declared.class.Class.{Class}
use Rattle.pkg_state.specs.declared.class.Class.TheVariants.{Bdepend, Depend, Idepend, Pdepend, Rdepend}
use Rattle.pkg_state.specs.declared.eapi.Eapi.{Eapi}
use Rattle.vdb_law.proofs.NoWords.{no_words}
use Rattle.md5_cache.specs.Entries.{CacheEntryValue, Needs, TellsNeeds, needs_text, value_of}
use Rattle.md5_cache.specs.declared.pair.Pair.{Pair}
use Rattle.visible_verdicts.specs.Candidates.{IsVerdict, visible_of}
use Rattle.visible_verdicts.specs.declared.rules.VisibleRules.{VisibleRules}
use Rattle.visible_verdicts.specs.declared.verdict.Verdict.{Verdict}
use Rattle.visible_verdicts.specs.declared.verdict.Verdict.TheVariants as verdicts
use Rattle.visible_offers.specs.Offered.{IsOffered, has_variant}
use Rattle.visible_offers.specs.declared.candidate.Candidate.{Candidate}
use Rattle.visible_set.specs.Offers.{AreOffers}
use Rattle.visible_set.specs.declared.offers.Hidden.{Hidden}
use Rattle.plan_model.specs.Laws.{AreOffered, IsFormed}
use Rattle.emerge_find.specs.Choices.{bare_of}

entry_needs : (pairs : List Pair) (p : Package) → TellsNeeds pairs p → (on : List (List ℕ)) (class : Class) → Needs pairs p.eapi class (tree_of class (with_enabled on p))
entry_needs pairs p tells on Rdepend = tells.rdepend
entry_needs pairs p tells on Pdepend = tells.pdepend
entry_needs pairs p tells on Depend = tells.depend
entry_needs pairs p tells on Bdepend = tells.bdepend
entry_needs pairs p tells on Idepend = tells.idepend

-- nothing is told of a class that the edition lacks
none_told : (pairs : List Pair) (e : Eapi) (class : Class) (x : Dependencies) → Needs pairs e class x → has_class e class ≡ false → x.groups ≡ no_trees
none_told pairs e class x told none =
    let empty : needs_text pairs e class ≡ [] = ap (λ (b : Bool). if b then value_of pairs (class_word class) else []) none in
    no_words dependencies.grammar x.groups (sym told.atoms.1 ∙ ap words_of empty)

entry_fits : (pairs : List Pair) (p : Package) → TellsNeeds pairs p → (on : List (List ℕ)) → FitsEdition (with_enabled on p)
entry_fits pairs p tells on = record {
  lacking = λ class. none_told pairs p.eapi class (tree_of class (with_enabled on p)) (entry_needs pairs p tells on class);
  needs = λ class. (entry_needs pairs p tells on class).flag;
  required = tells.required.flag;
}

formed_with : (pairs : List Pair) (p : Package) → TellsNeeds pairs p → (on : List (List ℕ)) → IsFormed (with_enabled on p)
formed_with pairs p tells on = record {
  needs = λ class. (entry_needs pairs p tells on class).atoms.0;
  required = tells.required.items.0;
  edition = entry_fits pairs p tells on;
}

visible_formed : (m : Map) (rules : VisibleRules) (vs : List Verdict) → AllByRecursion (IsVerdict m rules) vs → (e : CacheEntryValue) → Has (filter_map visible_of vs) e → (on : List (List ℕ)) → IsFormed (with_enabled on e.package_is)
visible_formed m rules [] all e is on = absurd is
visible_formed m rules (verdicts.Visible f ∷ vs) all e (inl same) on = subst (λ (x : CacheEntryValue). IsFormed (with_enabled on x.package_is)) same (formed_with _ f.package_is all.0.judged.has.tells.needs on)
visible_formed m rules (verdicts.Visible f ∷ vs) all e (inr is) on = visible_formed m rules vs all.1 e is on
visible_formed m rules (verdicts.Hidden h ∷ vs) all e is on = visible_formed m rules vs all.1 e is on

pub offered_formed : (m : Map) (flips : ℕ) (implicit : List (List ℕ)) (candidates : List Candidate) (hidden : List Hidden) → AreOffers m flips implicit candidates hidden → AreOffered implicit (map bare_of candidates)
offered_formed m flips implicit candidates hidden are = λ p is.
    let of = are.offers in
    let all : List Candidate = of.tried.tried in
    let from = has-map_back bare_of candidates p is in
    let tried = has-filter_back has_variant all from.0 (subst (λ (cs : List Candidate). Has cs from.0) of.tried.candidates_are from.1) in
    let entry = zip_has (IsOffered of.flags flips) of.visible all from.0 of.tried.each tried.0 in
    let judged = of.judged.are in
    let visible = subst (λ (es : List CacheEntryValue). Has es entry.0) judged.visible_are entry.1 in
    let formed = visible_formed m of.judged.rules judged.verdicts judged.each entry.0 visible of.flags.implicit in
    subst (λ (q : Package). IsFormed q × (q.facts.enabled ≡ implicit)) (sym entry.2.bare ∙ from.2) (formed, sym of.implicit_are)
