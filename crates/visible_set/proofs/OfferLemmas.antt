-- One item, one candidate more, and what offers of a setup are to a tree.
use Rattle.std.proofs.Common.{◌≡◌, ◌∙◌, ◌⊎◌, ◌+◌, ◌++◌, ◌<◌, ℕ, Bool, List, [], ◌∷◌, None, Option, Some, ap, append_assoc, cond, filter, get_or, inl, inr, length, map, not, refl, subst, sym, take, true}
use Rattle.std.specs.Prelude.{is_some}
use Rattle.std.specs.List.{AllZip}
use Rattle.std.specs.Option.{option_map}
use Rattle.std.proofs.lemmas.List.{map-append}
use Rattle.std.proofs.lemmas.List.Elements.{filter-append}
use Rattle.visible_rules.specs.declared.line.KeywordLine.{KeywordLine}
use Rattle.visible_verdicts.specs.declared.verdict.Hidden.{Hidden as KeptBack}
use Rattle.config_vars.proofs.Stacking.{next}
use Rattle.config_vars.specs.Judged.{FirstFault}
use Rattle.config_vars.specs.declared.fault.VarFault.{VarFault}
use Rattle.config_vars.specs.declared.fault.VarFault.TheVariants as values
use Rattle.dep_atom.specs.Values.{AtomValue, atom_value}
use Rattle.dep_atom.specs.declared.atom.Atom.{Atom}
use Rattle.file_tree.specs.Disk.{Map}
use Rattle.file_tree.specs.declared.fault.TreeFault.TheVariants as trees
use Rattle.md5_cache.specs.Entries.{CacheEntryValue}
use Rattle.visible_offers.specs.Flags.{FlagConfigValue}
use Rattle.visible_offers.specs.Offered.{IsOffered, has_variant}
use Rattle.visible_offers.specs.declared.candidate.Candidate.{Candidate}
use Rattle.profile_lines.specs.declared.item.Item.{Item}
use Rattle.profile_folders.proofs.Followed.{zip_more}
use Rattle.visible_set.specs.Configured.{IsLineOf, IsSetup, Setup, is_for_some}
use Rattle.visible_set.specs.Faults.{IsBehind, IsHeldBack, IsOfMachine, fault_of_value}
use Rattle.visible_set.specs.Offers.{AreOffers, AreOffersOf, AreTried, kept_back, refused}
use Rattle.visible_set.specs.declared.fault.OffersFault.{OffersFault}
use Rattle.visible_set.specs.declared.offers.Hidden.{Hidden}

zip_push : {A B : Type 0} (R : A → B → Type 0) (xs : List A) (ys : List B) (x : A) (y : B) → AllZip R xs ys → R x y → AllZip R (xs ++ x ∷ []) (ys ++ y ∷ [])
zip_push R [] [] x y all one = (one, tt)
zip_push R [] (b ∷ ys) x y all one = absurd all
zip_push R (a ∷ xs) [] x y all one = absurd all
zip_push R (a ∷ xs) (b ∷ ys) x y all one = (all.0, zip_push R xs ys x y all.1 one)

some_before : (o : Option Atom) (v : AtomValue) → option_map atom_value o ≡ Some v → is_some o ≡ true
some_before (Some a) v is = refl
some_before None v is = absurd (cc is)

-- the line of an item is one more
pub line_more : (item : Item) (line : KeywordLine) (before : List Item) (old new : List KeywordLine) → IsLineOf item line → new ≡ old ++ line ∷ [] → AllZip IsLineOf before old → AllZip IsLineOf (before ++ filter is_for_some (item ∷ [])) new
line_more item line before old new is pushed all =
    let one : filter is_for_some (item ∷ []) ≡ item ∷ [] = ap (λ (b : Bool). if_kept b) (some_before item.atom _ is.atom) in
    subst (λ (l : List KeywordLine). AllZip IsLineOf (before ++ filter is_for_some (item ∷ [])) l) (sym pushed) (subst (λ (l : List Item). AllZip IsLineOf (before ++ l) (old ++ line ∷ [])) (sym one) (zip_push IsLineOf before old item line all is))
  where
    if_kept : Bool → List Item
    if_kept b = cond b (item ∷ []) []

-- the items so far, with one more
pub items_more : (items : List Item) (i : ℕ) (x : Item) → i < length items → x ≡ get_or items i x → filter is_for_some (take (i + 1) items) ≡ filter is_for_some (take i items) ++ filter is_for_some (x ∷ [])
items_more items i x lt is = ap (filter is_for_some) (next items i x lt is) ∙ filter-append is_for_some (take i items) (x ∷ [])

-- no setting of the candidate may be chosen
abbrev without : Candidate → Bool
without k = not (has_variant k)

-- one candidate more is tried
pub tried_more : (flags : FlagConfigValue) (flips : ℕ) (visible : List CacheEntryValue) (i : ℕ) (x : CacheEntryValue) (one : Candidate) (others : List KeptBack) (old new : List Candidate) (was is : List Hidden) → i < length visible → x ≡ get_or visible i x → AreTried flags flips (take i visible) others old was → IsOffered flags flips x one → new ≡ old ++ filter has_variant (one ∷ []) → is ≡ was ++ map refused (filter (λ c. not (has_variant c)) (one ∷ [])) → AreTried flags flips (take (i + 1) visible) others new is
tried_more flags flips visible i x one others old new was is lt at-x so offered c h = record {
  tried = so.tried ++ one ∷ [];
  each = zip_more (IsOffered flags flips) visible i x so.tried (so.tried ++ one ∷ []) one lt at-x so.each offered refl;
  candidates_are = c ∙ (ap (λ (l : List Candidate). l ++ filter has_variant (one ∷ [])) so.candidates_are ∙ sym (filter-append has_variant so.tried (one ∷ [])));
  hidden_are =
      h ∙ (ap (λ (l : List Hidden). l ++ map refused (filter without (one ∷ []))) so.hidden_are
      ∙ (append_assoc (map kept_back others) (map refused (filter without so.tried)) (map refused (filter without (one ∷ [])))
      ∙ ap (λ (l : List Hidden). map kept_back others ++ l) (sym (ap (map refused) (filter-append without so.tried (one ∷ [])) ∙ map-append refused (filter without so.tried) (filter without (one ∷ []))))));
}

module _ (m n : Map) (same : n ≡ m) (s : Setup) (is : IsSetup m s) where
  pub are_offers : (flips : ℕ) (implicit : List (List ℕ)) (candidates : List Candidate) (hidden : List Hidden) → AreOffersOf n s flips implicit candidates hidden → AreOffers m flips implicit candidates hidden
  are_offers flips implicit candidates hidden offers = record { setup = s; is = is; offers = subst (λ (y : Map). AreOffersOf y s flips implicit candidates hidden) same offers }

  pub is_behind : (fault : OffersFault) → IsHeldBack n s fault → IsBehind m fault
  is_behind fault held = (s, is, subst (λ (y : Map). IsHeldBack y s fault) same held)

-- what the fault of a variable's value is to the offers
pub held_value : (m : Map) (s : Setup) (e : VarFault) → FirstFault s.files e → IsOfMachine (fault_of_value e) ⊎ IsHeldBack m s (fault_of_value e)
held_value m s (values.Value path line) bad = inr bad
held_value m s values.Memory bad = inl (trees.Memory, refl)
