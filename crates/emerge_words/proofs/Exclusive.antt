-- No words ask for something and are refused too, and words are refused for one cause.
use Rattle.std.proofs.Common.{◌≡◌, sym, ◌∙◌, ◌&&◌, ◌==◌, ℕ, Bool, true, false, not, refl, subst, inl, inr, List, [], ◌∷◌, map, Option, Some, None, length, arith, eqb-true}
use Rattle.std.specs.Prelude.{string_bytes, slice_get, is_some, if◌then◌else◌}
use Rattle.std.specs.List.{AllByRecursion}
use Rattle.clap.proofs.WalkLemmas.{both}
use Rattle.clap.specs.Words.{Text}
use Rattle.dep_atom.specs.Text.{atom_text}
use Rattle.dep_atom.specs.Values.{atom_value}
use Rattle.dep_atom.specs.declared.atom.Atom.{Atom}
use Rattle.emerge_words.specs.Commands.{asks_of_merge, asks_of_run, is_load, is_merge, is_plan_file, is_unmerge, kind_of, names_none}
use Rattle.emerge_words.specs.Lines.{LineValue, line_of}
use Rattle.emerge_words.specs.Named.{AreNamed, FirstNoAtom, IsFree, atom_words}
use Rattle.emerge_words.specs.Numbers.{bad_numbers}
use Rattle.emerge_words.specs.Requests.{IsCommand, IsRefusal, IsRequest, SameTold, words_of_atoms}
use Rattle.emerge_words.specs.declared.kind.Kind.{Kind}
use Rattle.emerge_words.specs.declared.kind.Kind.TheVariants as kinds
use Rattle.emerge_words.specs.declared.request.Command.{Command}
use Rattle.emerge_words.specs.declared.request.Command.TheVariants.{Merge, PlanFile, Unmerge, Load}
use Rattle.emerge_words.specs.declared.request.Request.{Request}
use Rattle.emerge_words.specs.declared.request.WordFault.{WordFault}
use Rattle.emerge_words.specs.declared.request.WordFault.TheVariants.{Usage, BadAtom, BadNumber, Memory}

-- among the texts of atoms none is no atom
all_atoms : (atoms : List Atom) (bad : List ℕ) → AllByRecursion IsFree atoms → FirstNoAtom (map atom_text atoms) bad → ⊥
all_atoms [] bad free first = first
all_atoms (atom ∷ atoms) bad free (inl none) = none.1 (atom_value atom) free.0.form free.0.no_block refl
all_atoms (atom ∷ atoms) bad free (inr rest) = all_atoms atoms bad free.1 rest.1

named_apart : (words : List (List ℕ)) (atoms : List Atom) (bad : List ℕ) → AreNamed words atoms → FirstNoAtom words bad → ⊥
named_apart words atoms bad named first =
    all_atoms atoms bad named.free (subst (λ (ws : List (List ℕ)). FirstNoAtom ws bad) named.texts first)

-- no further word, so none that is no atom
none_apart : (may : Bool) (words : List (List ℕ)) (bad : List ℕ) → (length words == 0) ≡ true → FirstNoAtom (atom_words may words) bad → ⊥
none_apart may [] bad none first = first
none_apart may (word ∷ words) bad none first = absurd (omega (arith, eqb-true _ _ none))

abbrev kind_by : (m p u l : Bool) → Option Kind
kind_by m p u l = if m then Some kinds.Merge else (if p then Some kinds.PlanFile
    else (if u then Some kinds.Unmerge else (if l then Some kinds.Load else None)))

kind_is_plan : (m p u l : Bool) → kind_by m p u l ≡ Some kinds.PlanFile → p ≡ true
kind_is_plan true p u l e = absurd (cc)
kind_is_plan false true u l e = refl
kind_is_plan false false true l e = absurd (cc)
kind_is_plan false false false true e = absurd (cc)
kind_is_plan false false false false e = absurd (cc)

kind_is_load : (m p u l : Bool) → kind_by m p u l ≡ Some kinds.Load → l ≡ true
kind_is_load true p u l e = absurd (cc)
kind_is_load false true u l e = absurd (cc)
kind_is_load false false true l e = absurd (cc)
kind_is_load false false false true e = refl
kind_is_load false false false false e = absurd (cc)

fourth : (a b c d e : Bool) → (a && (b && (c && (d && e)))) ≡ true → d ≡ true
fourth a b c d e h = (both d e (both c (d && e) (both b (c && (d && e)) (both a (b && (c && (d && e))) h).1).1).1).0

-- a plan, and a load, stand without further words
plan_alone : (line : LineValue) → kind_of line ≡ Some kinds.PlanFile → names_none line ≡ true
plan_alone line e = fourth (not line.unmerge) (is_some line.plan) (not (is_some line.load)) (names_none line) (not (asks_of_merge line))
    (kind_is_plan (is_merge line) (is_plan_file line) (is_unmerge line) (is_load line) e)

load_alone : (line : LineValue) → kind_of line ≡ Some kinds.Load → names_none line ≡ true
load_alone line e = fourth (not line.unmerge) (not (is_some line.plan)) (is_some line.load) (names_none line) (not (asks_of_merge line) && not (asks_of_run line))
    (kind_is_load (is_merge line) (is_plan_file line) (is_unmerge line) (is_load line) e)

command_apart : (line : LineValue) (command : Command) (bad : List ℕ) → IsCommand line command → FirstNoAtom (words_of_atoms line) bad → ⊥
command_apart line (Merge atoms world update repair backtrack flips) bad is first = named_apart (words_of_atoms line) atoms.items bad is.1 first
command_apart line (PlanFile path) bad is first = none_apart (is_merge line) line.further bad (plan_alone line is.0) first
command_apart line (Unmerge atoms) bad is first = named_apart (words_of_atoms line) atoms.items bad is.1 first
command_apart line (Load n) bad is first = none_apart (is_merge line) line.further bad (load_alone line is.0) first

none_first : {A : Type 0} (xs : List A) (x : A) → xs ≡ [] → slice_get xs 0 ≡ Some x → ⊥
none_first [] x none first = absurd (cc)
none_first (y ∷ ys) x none first = absurd (cc)

pub never_refused : (words : List Text) (r : Request) (fault : WordFault) → IsRequest words r → IsRefusal words fault → fault ≡ Memory
never_refused words r Usage is refused = absurd (refused (record { cut = is.cut; command = is.asked.is_good }))
never_refused words r (BadNumber word) is refused = absurd (none_first (bad_numbers (line_of words)) (string_bytes word) is.asked.numbers refused.1)
never_refused words r (BadAtom word) is refused = absurd (command_apart (line_of words) r.command (string_bytes word) is.asked.command refused.1.atom)
never_refused words r Memory is refused = refl

first_once : (words : List (List ℕ)) (a b : List ℕ) → FirstNoAtom words a → FirstNoAtom words b → a ≡ b
first_once [] a b x y = absurd x
first_once (word ∷ words) a b (inl x) (inl y) = sym x.0 ∙ y.0
first_once (word ∷ words) a b (inl x) (inr y) = absurd (x.1 (atom_value y.0.0) y.0.1.form y.0.1.no_block y.0.2)
first_once (word ∷ words) a b (inr x) (inl y) = absurd (y.1 (atom_value x.0.0) x.0.1.form x.0.1.no_block x.0.2)
first_once (word ∷ words) a b (inr x) (inr y) = first_once words a b x.1 y.1

same_first : {A : Type 0} (o : Option A) (a b : A) → o ≡ Some a → o ≡ Some b → a ≡ b
same_first None a b x y = absurd (cc)
same_first (Some c) a b x y = cc

pub refused_once : (words : List Text) (a b : WordFault) → IsRefusal words a → IsRefusal words b → SameTold a b
refused_once words Usage Usage x y = tt
refused_once words Usage (BadAtom v) x y = absurd (x y.0)
refused_once words Usage (BadNumber v) x y = absurd (x y.0)
refused_once words (BadAtom w) Usage x y = absurd (y x.0)
refused_once words (BadAtom w) (BadAtom v) x y =
    first_once (words_of_atoms (line_of words)) (string_bytes w) (string_bytes v) x.1.atom y.1.atom
refused_once words (BadAtom w) (BadNumber v) x y = absurd (none_first (bad_numbers (line_of words)) (string_bytes v) x.1.numbers y.1)
refused_once words (BadNumber w) Usage x y = absurd (y x.0)
refused_once words (BadNumber w) (BadAtom v) x y = absurd (none_first (bad_numbers (line_of words)) (string_bytes w) y.1.numbers x.1)
refused_once words (BadNumber w) (BadNumber v) x y = same_first (slice_get (bad_numbers (line_of words)) 0) (string_bytes w) (string_bytes v) x.1 y.1
refused_once words Memory b x y = tt
refused_once words Usage Memory x y = tt
refused_once words (BadAtom w) Memory x y = tt
refused_once words (BadNumber w) Memory x y = tt
