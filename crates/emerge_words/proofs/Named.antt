-- How further words are read as atoms, one by one.
use Rattle.std.proofs.Common.{◌≡◌, ◌∙◌, ◌<◌, ◌+◌, ℕ, Bool, true, if◌then◌else◌, refl, sym, ap, subst, inl, inr, List, [], ◌∷◌, ◌++◌, map, drop, length, Bor, slice_index_or}
use Rattle.std.specs.Prelude.{string_bytes}
use Rattle.std.specs.List.{AllByRecursion}
use Rattle.std.proofs.lemmas.List.{drop_more}
use Rattle.dep_atom.specs.Text.{atom_text}
use Rattle.dep_atom.specs.declared.atom.Atom.{Atom}
use Rattle.emerge_words.specs.Named.{FirstNoAtom, HasNoAtom, IsFree, IsNoAtom, TellsNoAtom, TellsAtom, atom_words, is_kept}
use Rattle.emerge_words.specs.declared.request.WordFault.{WordFault}
use Rattle.emerge_words.specs.declared.request.WordFault.TheVariants.{Usage, BadAtom, BadNumber, Memory}

-- a word that is no atom, told so
pub no_atom_told : (word : List ℕ) (fault : WordFault) → TellsAtom word fault → IsNoAtom word → TellsNoAtom word fault
no_atom_told word Usage told none = told
no_atom_told word (BadAtom said) told none = (told, none)
no_atom_told word (BadNumber said) told none = told
no_atom_told word Memory told none = tt

-- the first word behind atoms is no atom
first_here : (atoms : List Atom) (word : List ℕ) (rest : List (List ℕ)) → AllByRecursion IsFree atoms → IsNoAtom word
    → FirstNoAtom (map atom_text atoms ++ word ∷ rest) word
first_here [] word rest free none = inl (refl, none)
first_here (atom ∷ atoms) word rest free none = inr ((atom, free.0, refl), first_here atoms word rest free.1 none)

pub fault_here : (words : List (List ℕ)) (atoms : List Atom) (word : List ℕ) (rest : List (List ℕ)) (fault : WordFault) → words ≡ map atom_text atoms ++ word ∷ rest
    → AllByRecursion IsFree atoms → TellsNoAtom word fault → HasNoAtom words fault
fault_here words atoms word rest Usage cut free told = told
fault_here words atoms word rest (BadAtom said) cut free told =
    subst (λ (all : List (List ℕ)). FirstNoAtom all (string_bytes said)) (sym cut)
    (subst (FirstNoAtom (map atom_text atoms ++ word ∷ rest)) (sym told.0) (first_here atoms word rest free told.1))
fault_here words atoms word rest (BadNumber said) cut free told = told
fault_here words atoms word rest Memory cut free told = tt

-- a word that isn't the one for the world file is kept
pub kept_here : (may : Bool) (words : List (Bor (List ℕ))) (i : ℕ) (d : Bor (List ℕ)) → i < length words → is_kept may (slice_index_or words i d).now ≡ true
    → atom_words may (map (λ s. s.now) (drop i words)) ≡ (slice_index_or words i d).now ∷ atom_words may (map (λ s. s.now) (drop (i + 1) words))
kept_here may words i d lt kept =
    let rest : List (List ℕ) = atom_words may (map (λ s. s.now) (drop (i + 1) words)) in
    ap (λ (ws : List (Bor (List ℕ))). atom_words may (map (λ s. s.now) ws)) (drop_more words i d lt)
    ∙ ap (λ b. if b then (slice_index_or words i d).now ∷ rest else rest) kept
