-- One more item of a USE part, and its end.
use Rattle.std.proofs.Common.{◌≡◌, ℕ, ◌<◌, List, [], ◌∷◌, ◌++◌, length, get_or, drop, refl, sym, ◌∙◌, ap, arith, length-append, append_assoc, append-nil}
use Rattle.std.specs.List.{AllByRecursion, flat_map}
use Rattle.std.proofs.lemmas.Grind.{flat_map-append}
use Rattle.std.proofs.lemmas.List.{nil_from_length}
use Rattle.dep_atom.specs.declared.uses.UseDep.{UseDep}
use Rattle.dep_atom.specs.Cuts.{Starts}
use Rattle.dep_atom.specs.Form.{IsUseForm}
use Rattle.dep_atom.specs.Text.{use_text, further_use_text, opened_text, uses_text}

pub opened_text-more : (items : List UseDep) (item : UseDep) → 0 < length items → opened_text (items ++ (item ∷ [])) ≡ opened_text items ++ further_use_text item
opened_text-more [] item some = absurd (omega arith)
opened_text-more (first ∷ others) item some =
    ap (λ more. 91 ∷ (use_text first ++ more)) (flat_map-append further_use_text others (item ∷ []) ∙ ap (λ last. flat_map further_use_text others ++ last) (append-nil (further_use_text item))) ∙ ap (λ more. 91 ∷ more) (sym (append_assoc (use_text first) (flat_map further_use_text others) (further_use_text item)))

pub uses_text-closed : (items : List UseDep) → 0 < length items → uses_text items ≡ opened_text items ++ (93 ∷ [])
uses_text-closed [] some = absurd (omega arith)
uses_text-closed (first ∷ others) some = ap (λ more. 91 ∷ more) (sym (append_assoc (use_text first) (flat_map further_use_text others) (93 ∷ [])))

pub opened_text-step : (items : List UseDep) (u : UseDep) (text rest more behind : List ℕ) → 0 < length items → text ≡ opened_text items ++ rest → rest ≡ 44 ∷ more → more ≡ use_text u ++ behind → text ≡ opened_text (items ++ (u ∷ [])) ++ behind
opened_text-step items u text rest more behind some found begins parts =
    found ∙ ap (λ r. opened_text items ++ r) (begins ∙ ap (λ m. 44 ∷ m) parts) ∙ sym (append_assoc (opened_text items) (further_use_text u) behind) ∙ ap (λ o. o ++ behind) (sym (opened_text-more items u some))

pub opened_first : (u : UseDep) (text first rest : List ℕ) → text ≡ 91 ∷ first → first ≡ use_text u ++ rest → text ≡ opened_text (u ∷ []) ++ rest
opened_first u text first rest e k = e ∙ ap (λ l. 91 ∷ l) (k ∙ ap (λ l. l ++ rest) (sym (append-nil (use_text u))))

pub opened_last : (items : List UseDep) (text rest end : List ℕ) → 0 < length items → text ≡ opened_text items ++ rest → rest ≡ 93 ∷ end → length end ≡ 0 → text ≡ uses_text items
opened_last items text rest end some found e none = found ∙ ap (λ r. opened_text items ++ r) (e ∙ ap (λ l. 93 ∷ l) (nil_from_length end none)) ∙ sym (uses_text-closed items some)

pub length-more : (items : List UseDep) (u : UseDep) → 0 < length (items ++ (u ∷ []))
length-more items u = omega (arith, length-append items (u ∷ []))

pub use_forms-more : (items : List UseDep) (u : UseDep) → AllByRecursion IsUseForm items → IsUseForm u → AllByRecursion IsUseForm (items ++ (u ∷ []))
use_forms-more [] u forms form = (form, tt)
use_forms-more (item ∷ items) u forms form = (forms.0, use_forms-more items u forms.1 form)

-- what stands behind an item: the others, and the closing bracket
abbrev pub closing : List UseDep → List ℕ
closing others = flat_map further_use_text others ++ (93 ∷ [])

pub closing_starts : (others : List UseDep) → Starts 44 93 (closing others)
closing_starts [] = refl
closing_starts (u ∷ others) = refl

pub record Next (us : List UseDep) (text : List ℕ) : Type 0 where
  pub item : UseDep
  pub others : List UseDep
  pub same : us ≡ item ∷ others
  pub form : IsUseForm item
  pub forms : AllByRecursion IsUseForm others
  pub spelled : text ≡ use_text item ++ closing others

pub opened : (us : List UseDep) (first text : List ℕ) → AllByRecursion IsUseForm us → text ≡ 91 ∷ first → text ≡ uses_text us → Next us first
opened [] first text forms e k = absurd (omega (arith, ap length (sym e ∙ k)))
opened (u ∷ others) first text forms e k = record { item = u; others = others; same = refl; form = forms.0; forms = forms.1; spelled = ap (drop 1) (sym e ∙ k) }

pub continued : (others : List UseDep) (rest more : List ℕ) → AllByRecursion IsUseForm others → rest ≡ closing others → rest ≡ 44 ∷ more → Next others more
continued [] rest more forms e k = absurd (omega (arith, ap (λ l. get_or l 0 0) (sym e ∙ k)))
continued (u ∷ others) rest more forms e k = record { item = u; others = others; same = refl; form = forms.0; forms = forms.1; spelled = ap (drop 1) (sym k ∙ e) ∙ append_assoc (use_text u) (flat_map further_use_text others) (93 ∷ []) }

pub closed : (others : List UseDep) (rest : List ℕ) → rest ≡ closing others → ((more : List ℕ) → rest ≡ 44 ∷ more → ⊥) → (others ≡ []) × (rest ≡ 93 ∷ [])
closed [] rest e none = (refl, e)
closed (u ∷ others) rest e none = absurd (none (drop 1 (closing (u ∷ others))) e)

-- what is still to be read of a list of items, and how it is spelled
pub record IsLeft (us read : List UseDep) (rest : List ℕ) : Type 0 where
  pub left : List UseDep
  pub forms : AllByRecursion IsUseForm left
  pub same : us ≡ read ++ left
  pub spelled : rest ≡ flat_map further_use_text left ++ (93 ∷ [])

pub left_first : (us : List UseDep) (first : List ℕ) (items : List UseDep) (rest : List ℕ) (u : UseDep) (next : Next us first) → items ≡ u ∷ [] → (u ≡ next.item) × (rest ≡ closing next.others) → IsLeft us items rest
left_first us first items rest u next e once = record { left = next.others; forms = next.forms; same = next.same ∙ ap (λ i. i ∷ next.others) (sym once.0) ∙ ap (λ l. l ++ next.others) (sym e); spelled = once.1 }

pub left_more : (us items new : List UseDep) (rest more behind : List ℕ) (u : UseDep) (left : IsLeft us items rest) (next : Next left.left more) → new ≡ items ++ (u ∷ []) → (u ≡ next.item) × (behind ≡ closing next.others) → IsLeft us new behind
left_more us items new rest more behind u left next e once =
    record {
      left = next.others;
      forms = next.forms;
      same = left.same ∙ ap (λ l. items ++ l) (next.same ∙ ap (λ i. i ∷ next.others) (sym once.0)) ∙ sym (append_assoc items (u ∷ []) next.others) ∙ ap (λ l. l ++ next.others) (sym e);
      spelled = once.1;
    }

-- where nothing but the bracket stands, each item is read
pub left_none : (us items : List UseDep) (rest : List ℕ) (left : IsLeft us items rest) → ((more : List ℕ) → rest ≡ 44 ∷ more → ⊥) → (items ≡ us) × (rest ≡ 93 ∷ [])
left_none us items rest left none =
    let end = closed left.left rest left.spelled none in
    (sym (left.same ∙ ap (λ l. items ++ l) end.0 ∙ append-nil items), end.1)
