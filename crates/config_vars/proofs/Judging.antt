-- What the tests on words and on assignments say.
use denote.Ref.{Bor}
use Rattle.std.specs.Prelude.{◌≡◌, ◌↔◌, ◌⊎◌, MatchBool, bytes_eq, not}
use Rattle.std.specs.List.{AllByRecursion, list_any}
use Rattle.std.specs.Option.{unwrap_or}
use Rattle.std.proofs.Common.{◌∙◌, ◌<◌, ◌==◌, ◌||◌, ℕ, zero, suc, Bool, true, false, cond, List, [], ◌∷◌, ◌++◌, Some, None, ap, append_assoc, arith, drop, get_or, inl, inr, length, map, refl, subst, sym, take}
use Rattle.std.proofs.lemmas.Bool.{cases_Bool}
use Rattle.basics.proofs.Each.{all-push}
use Rattle.config_text.specs.declared.assignment.Assignment.{Assignment}
use Rattle.dep_group.specs.Views.{spot}
use Rattle.dep_group.specs.Words.{texts}
use Rattle.dep_group.specs.declared.word.Word.{Word}
use Rattle.dep_group.proofs.WordLemmas.{each_at}
use Rattle.pms_names.specs.Names.{IsName}
use Rattle.pms_names.specs.declared.kind.Kind.TheVariants.{Flag}
use Rattle.profile_folders.specs.Stacks.{hyphen, unsigned}
use Rattle.use_flags.specs.Changes.{IsChange, IsWellNamed}
use Rattle.use_flags.specs.declared.change.Change.TheVariants.{Add, Clear, Take}
use Rattle.config_vars.specs.Judged.{IsBad, IsBadAt, IsBadFile, IsFine, IsGood, IsGoodFile, counted}
use Rattle.config_vars.specs.Values.{is_clear, is_of}
use Rattle.config_vars.specs.declared.vars.FileVars.{FileVars}

abbrev named : Bool → Bool → List ℕ → List ℕ → Type 0
named clear sign bytes all = IsWellNamed (cond clear Clear (cond sign (Take bytes) (Add all)))

-- the words that are changes
pub change_word : (word : List ℕ) → IsChange word ↔ ((is_clear word ≡ true) ⊎ IsName Flag (unsigned word))
change_word [] = (λ good. inr good, λ (h : (is_clear [] ≡ true) ⊎ IsName Flag (unsigned [])). elim h [ inl e ↦ absurd (cc e) | inr good ↦ good ])
change_word (b ∷ bytes) = by_tests (is_clear (b ∷ bytes)) (b == hyphen)
  where
    by_tests : (clear sign : Bool) → named clear sign bytes (b ∷ bytes) ↔ ((clear ≡ true) ⊎ IsName Flag (unwrap_or (cond sign (Some bytes) None) (b ∷ bytes)))
    by_tests true sign = (λ any. inl refl, λ any. tt)
    by_tests false true = (λ good. inr good, λ (h : (false ≡ true) ⊎ IsName Flag bytes). elim h [ inl e ↦ absurd (cc e) | inr good ↦ good ])
    by_tests false false = (λ good. inr good, λ (h : (false ≡ true) ⊎ IsName Flag (b ∷ bytes)). elim h [ inl e ↦ absurd (cc e) | inr good ↦ good ])

-- a word that is the one or passes the other test
pub either : (a b : Bool) (P : Type 0) → (b ≡ true) ↔ P → ((a || b) ≡ true) ↔ ((a ≡ true) ⊎ P)
either true b P is = (λ any. inl refl, λ any. refl)
either false b P is = (λ good. inr (is.0 good), λ (h : (false ≡ true) ⊎ P). elim h [ inl e ↦ absurd (cc e) | inr p ↦ is.1 p ])

-- one of the words hasn't what all would have
pub none_all : (P : List ℕ → Type 0) (ws : List Word) (i : ℕ) (d : Word) → i < length ws → (false ≡ true) ↔ P (get_or ws i d).text.now → (false ≡ true) ↔ AllByRecursion P (texts (map spot ws))
none_all P ws i d lt is = (λ e. absurd (cc e), λ all. is.1 (each_at P ws i d lt all))

-- what holds of the variable's values, where it is one
pub guarded : (a b : Bool) (P : Type 0) → (b ≡ true) ↔ P → ((not a || b) ≡ true) ↔ (a ≡ true → P)
guarded true b P is = (λ good e. is.0 good, λ h. is.1 (h refl))
guarded false b P is = (λ good e. absurd (cc e), λ h. refl)

-- the test of a list of texts, as the code has it
pub any_told : (key : List ℕ) (vs : List (Bor (List ℕ))) → list_any (λ (v : Bor (List ℕ)). bytes_eq key v.now) vs ≡ list_any (bytes_eq key) (map {A = Bor (List ℕ)} {B = List ℕ} (λ v. v.now) vs)
any_told key [] = refl
any_told key (v ∷ vs) = ap (λ (b : Bool). bytes_eq key v.now || b) (any_told key vs)

-- up to the rest each assignment that counts is good
pub record SoFar (variables : List (List ℕ)) (all rest : List Assignment) : Type 0 where
  pub front : List Assignment
  pub place : counted all ≡ front ++ counted rest
  pub good : AllByRecursion (IsGood variables) front

pub begin : (variables : List (List ℕ)) (all : List Assignment) → SoFar variables all all
begin variables all = record { front = []; place = refl; good = tt }

-- an assignment that is replaced
pub passed : (variables : List (List ℕ)) (all : List Assignment) (a : Assignment) (rest : List Assignment) → list_any (is_of a.key) rest ≡ true → SoFar variables all (a ∷ rest) → SoFar variables all rest
passed variables all a rest set so = record {
  front = so.front;
  place = so.place ∙ ap (λ (b : Bool). so.front ++ cond b (counted rest) (a ∷ counted rest)) set;
  good = so.good;
}

-- a good one
pub onward : (variables : List (List ℕ)) (all : List Assignment) (a : Assignment) (rest : List Assignment) → IsGood variables a → SoFar variables all (a ∷ rest) → SoFar variables all rest
onward variables all a rest good so = elim (cases_Bool (list_any (is_of a.key) rest)) [
  | inl set ↦ passed variables all a rest set so
  | inr last ↦ record {
    front = so.front ++ a ∷ [];
    place = so.place ∙ (ap (λ (b : Bool). so.front ++ cond b (counted rest) (a ∷ counted rest)) last ∙ sym (append_assoc so.front (a ∷ []) (counted rest)));
    good = all-push (IsGood variables) so.front a so.good good;
  }
]

-- one that is bad and counts
pub stopped : (variables : List (List ℕ)) (all : List Assignment) (a : Assignment) (rest : List Assignment) → list_any (is_of a.key) rest ≡ false → ¬ IsGood variables a → SoFar variables all (a ∷ rest) → IsBadAt variables all a.line
stopped variables all a rest last other so = record {
  front = so.front;
  bad = a;
  rest = counted rest;
  place = so.place ∙ ap (λ (b : Bool). so.front ++ cond b (counted rest) (a ∷ counted rest)) last;
  good = so.good;
  other = other;
  lined = refl;
}

-- an assignment is judged, by whether it is good and whether one behind it replaces it
pub by_set : (set : Bool) (G : Type 0) → ¬ G → MatchBool (not set) ((¬ G) × (set ≡ false)) (G ⊎ (set ≡ true))
by_set true G other = inr refl
by_set false G other = (other, refl)

pub fine_step : (variables : List (List ℕ)) (all left : List Assignment) (a : Assignment) (rest : List Assignment) (bad : Bool) → left ≡ a ∷ rest → bad ≡ false → MatchBool bad (IsBad variables a rest) (IsFine variables a rest) → SoFar variables all left → SoFar variables all rest
fine_step variables all left a rest bad cut e is so = by_bad bad e is (subst (SoFar variables all) cut so)
  where
    by_bad : (b : Bool) → b ≡ false → MatchBool b (IsBad variables a rest) (IsFine variables a rest) → SoFar variables all (a ∷ rest) → SoFar variables all rest
    by_bad true e is so = absurd (cc e)
    by_bad false e (inl good) so = onward variables all a rest good so
    by_bad false e (inr set) so = passed variables all a rest set so

pub bad_stop : (variables : List (List ℕ)) (all left : List Assignment) (a : Assignment) (rest : List Assignment) (bad : Bool) → left ≡ a ∷ rest → bad ≡ true → MatchBool bad (IsBad variables a rest) (IsFine variables a rest) → SoFar variables all left → IsBadAt variables all a.line
bad_stop variables all left a rest bad cut e is so = by_bad bad e is (subst (SoFar variables all) cut so)
  where
    by_bad : (b : Bool) → b ≡ true → MatchBool b (IsBad variables a rest) (IsFine variables a rest) → SoFar variables all (a ∷ rest) → IsBadAt variables all a.line
    by_bad true e is so = stopped variables all a rest is.1 is.0 so
    by_bad false e is so = absurd (cc e)

-- none is left
pub ended : (variables : List (List ℕ)) (all left : List Assignment) → left ≡ [] → SoFar variables all left → AllByRecursion (IsGood variables) (counted all)
ended variables all left none at_end = let so : SoFar variables all [] = subst (SoFar variables all) none at_end in subst (AllByRecursion (IsGood variables)) (sym so.place) (nothing_more so.front so.good)
  where
    nothing_more : (front : List Assignment) → AllByRecursion (IsGood variables) front → AllByRecursion (IsGood variables) (front ++ [])
    nothing_more [] each = tt
    nothing_more (x ∷ xs) each = (each.0, nothing_more xs each.1)

-- a list, cut at one of its places
cut_at : {A : Type 0} (xs : List A) (i : ℕ) (d : A) → i < length xs → xs ≡ take i xs ++ (get_or xs i d ∷ drop (suc i) xs)
cut_at [] i d lt = absurd (omega (arith, lt))
cut_at (x ∷ xs) zero d lt = refl
cut_at {A = A} (x ∷ xs) (suc i) d lt = ap (λ (l : List A). x ∷ l) (cut_at xs i d (omega (arith, lt)))

-- the first file that is bad
pub bad_file : (variables told : List (List ℕ)) (files : List FileVars) (i : ℕ) (f : FileVars) (path : List ℕ) (line : ℕ) → told ≡ variables → path ≡ f.path → i < length files → f ≡ get_or files i f → AllByRecursion (IsGoodFile variables) (take i files) → IsBadAt told f.assigned.items line → IsBadFile variables files path line
bad_file variables told files i f path line same named lt is good bad = record {
  front = take i files;
  bad = f;
  rest = drop (suc i) files;
  place = cut_at files i f lt ∙ ap (λ (g : FileVars). take i files ++ (g ∷ drop (suc i) files)) (sym is);
  good = good;
  at_line = subst (λ (vs : List (List ℕ)). IsBadAt vs f.assigned.items line) same bad;
  named = named;
}

amid : {A : Type 0} (P : A → Type 0) (front : List A) (x : A) (rest : List A) → AllByRecursion P (front ++ (x ∷ rest)) → P x
amid P [] x rest all = all.0
amid P (y ∷ front) x rest all = amid P front x rest all.1

-- where every file is good none is bad
pub none_bad : (variables : List (List ℕ)) (files : List FileVars) (path : List ℕ) (line : ℕ) → IsBadFile variables files path line → AllByRecursion (IsGoodFile variables) files → ⊥
none_bad variables files path line b all =
    let good : IsGoodFile variables b.bad = amid (IsGoodFile variables) b.front b.bad b.rest (subst (AllByRecursion (IsGoodFile variables)) b.place all) in
    b.at_line.other (amid (IsGood variables) b.at_line.front b.at_line.bad b.at_line.rest (subst (AllByRecursion (IsGood variables)) b.at_line.place good))
