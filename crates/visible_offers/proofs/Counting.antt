-- One assignment and one text more.
use Rattle.std.proofs.Common.{◌≡◌, ◌∙◌, ◌++◌, ℕ, Bool, true, false, cond, List, [], ◌∷◌, ap, append-nil, append_assoc, sym}
use Rattle.std.specs.List.{flat_map, list_any}
use Rattle.config_text.specs.declared.assignment.Assignment.{Assignment}
use Rattle.config_vars.specs.Judged.{counted}
use Rattle.config_vars.specs.Values.{is_of}
use Rattle.visible_offers.specs.Words.{words_by}
use Rattle.visible_offers.specs.declared.word.FlagWord.{FlagWord}

module _ (vs : List (List ℕ)) where
  abbrev words_of_all : List Assignment → List FlagWord
  words_of_all assigned = flat_map (words_by vs) assigned

  next_by : (b : Bool) (a : Assignment) (behind : List Assignment) (found more all : List FlagWord) → more ≡ found ++ cond b [] (words_by vs a) → found ++ words_of_all (cond b (counted behind) (a ∷ counted behind)) ≡ all → more ++ words_of_all (counted behind) ≡ all
  next_by true a behind found more all added before = ap (λ (l : List FlagWord). l ++ words_of_all (counted behind)) (added ∙ append-nil found) ∙ before
  next_by false a behind found more all added before = ap (λ (l : List FlagWord). l ++ words_of_all (counted behind)) added ∙ (append_assoc found (words_by vs a) (words_of_all (counted behind)) ∙ before)

  -- the words of one assignment more, if none behind it replaces it
  pub next_counted : (rest : List Assignment) (a : Assignment) (behind : List Assignment) (found more all : List FlagWord) → rest ≡ a ∷ behind → more ≡ found ++ cond (list_any (is_of a.key) behind) [] (words_by vs a) → found ++ flat_map (words_by vs) (counted rest) ≡ all → more ++ flat_map (words_by vs) (counted behind) ≡ all
  next_counted rest a behind found more all cut added before = next_by (list_any (is_of a.key) behind) a behind found more all added (ap (λ (l : List Assignment). found ++ words_of_all (counted l)) (sym cut) ∙ before)
