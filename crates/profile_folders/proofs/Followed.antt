-- The lines that were followed so far, and the first that leads nowhere.
use Rattle.std.specs.Prelude.{MatchOption}
use Rattle.std.specs.List.{AllZip}
use Rattle.std.specs.Str.{IsTrimAscii, IsUtf8}
use Rattle.std.proofs.Common.{◌≡◌, ◌∙◌, ◌<◌, ◌++◌, ◌+◌, ℕ, List, [], ◌∷◌, Option, None, Some, ap, drop, get_or, length, refl, subst, sym, take}
use Rattle.std.proofs.lemmas.List.{drop_more, take-append-drop, take_more}
use Rattle.std.proofs.lemmas.Str.Ascii.{trim_ascii_is}
use Rattle.config_text.specs.Lines.{lines}
use Rattle.config_text.specs.declared.line.Line.{Line}
use Rattle.profile_folders.specs.Parents.{LeadsNowhereAt, LeadsTo}
use Rattle.profile_folders.specs.Places.{place_from}
use Rattle.profile_folders.specs.declared.parents.Parent.{Parent}

pub none_of : {A : Type 0} (r : Option A) (N : Type 0) (S : A → Type 0) → r ≡ None → MatchOption r N S → N
none_of {A = A} r N S is h = subst (λ (o : Option A). MatchOption o N S) is h

pub some_of : {A : Type 0} (r : Option A) (N : Type 0) (S : A → Type 0) (x : A) → r ≡ Some x → MatchOption r N S → S x
some_of {A = A} r N S x is h = subst (λ (o : Option A). MatchOption o N S) is h

-- a text has no two texts without its white space
pub trimmed_once : (s a b : List ℕ) → IsTrimAscii s a → IsTrimAscii s b → a ≡ b
trimmed_once s a b first second = trim_ascii_is s a _ refl first ∙ sym (trim_ascii_is s b _ refl second)

-- a line whose text leads nowhere leads to no parent
pub leads_nowhere : (folder : List ℕ) (line : Line) (text : List ℕ) → IsTrimAscii line.text text → place_from folder text ≡ None → (p : Parent) → ¬ LeadsTo folder line p
leads_nowhere folder line text trimmed nowhere p leads =
    let same : leads.text ≡ text = trimmed_once line.text leads.text text leads.trimmed trimmed in
    let no_place : None ≡ Some p.folder = sym nowhere ∙ ap (place_from folder) (sym same) ∙ leads.leads in
    absurd (cc no_place)

module _ {A B : Type 0} (R : A → B → Type 0) where
  zip_push : (xs : List A) (ys : List B) (x : A) (y : B) → AllZip R xs ys → R x y → AllZip R (xs ++ x ∷ []) (ys ++ y ∷ [])
  zip_push [] [] x y all one = (one, tt)
  zip_push [] (b ∷ ys) x y all one = absurd all
  zip_push (a ∷ xs) [] x y all one = absurd all
  zip_push (a ∷ xs) (b ∷ ys) x y all one = (all.0, zip_push xs ys x y all.1 one)

  -- one more item, and what it goes with
  pub zip_more : (xs : List A) (i : ℕ) (x : A) (ys new : List B) (y : B) → i < length xs → x ≡ get_or xs i x → AllZip R (take i xs) ys → R x y → new ≡ ys ++ y ∷ [] → AllZip R (take (i + 1) xs) new
  zip_more xs i x ys new y lt at all one pushed =
      let front : take (i + 1) xs ≡ take i xs ++ x ∷ [] = take_more xs i x lt ∙ ap (λ (z : A). take i xs ++ z ∷ []) (sym at) in
      subst (λ (l : List A). AllZip R l new) (sym front) (subst (AllZip R (take i xs ++ x ∷ [])) (sym pushed) (zip_push (take i xs) ys x y all one))

-- a list is its items in front of a place, the one there and those behind it
pub split_at : {A : Type 0} (xs : List A) (i : ℕ) (x : A) → i < length xs → x ≡ get_or xs i x → xs ≡ take i xs ++ (x ∷ drop (i + 1) xs)
split_at {A = A} xs i x lt at =
    let behind : drop i xs ≡ x ∷ drop (i + 1) xs = drop_more xs i x lt ∙ ap (λ (z : A). z ∷ drop (i + 1) xs) (sym at) in
    sym (take-append-drop i xs) ∙ ap (λ (l : List A). take i xs ++ l) behind

-- the first line that leads nowhere
pub nowhere_at : (folder bytes : List ℕ) (ls : List Line) (i : ℕ) (line : Line) (parents : List Parent) → ls ≡ lines bytes → IsUtf8 bytes → i < length ls → line ≡ get_or ls i line → AllZip (LeadsTo folder) (take i ls) parents → ((p : Parent) → ¬ LeadsTo folder line p) → LeadsNowhereAt folder bytes line.number
nowhere_at folder bytes ls i line parents are utf8 lt at each nowhere = record {
  utf8 = utf8;
  front = take i ls;
  good = parents;
  bad = line;
  rest = drop (i + 1) ls;
  place = sym are ∙ split_at ls i line lt at;
  each = each;
  nowhere = nowhere;
  counted = refl;
}
