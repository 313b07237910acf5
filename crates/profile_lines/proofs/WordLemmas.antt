-- What the words of a line are, from what was found of each.
use Rattle.std.specs.Prelude.{map}
use Rattle.std.specs.List.{AllByRecursion}
use Rattle.std.proofs.Common.{◌≡◌, ◌∙◌, ◌⊎◌, ℕ, Bool, true, false, List, ◌∷◌, Some, ap, inl, inr, refl, subst, sym}
use Rattle.dep_atom.specs.Atoms.{IsAtomValue}
use Rattle.dep_atom.specs.Text.{value_text}
use Rattle.dep_atom.specs.Values.{AtomValue, atom_value}
use Rattle.dep_atom.specs.declared.atom.Atom.{Atom}
use Rattle.dep_atom.specs.declared.atom.Block.TheVariants.{No}
use Rattle.dep_atom.specs.declared.fault.AtomFault.{AtomFault}
use Rattle.dep_atom.specs.declared.fault.AtomFault.TheVariants as atoms
use Rattle.dep_group.specs.Views.{spot}
use Rattle.dep_group.specs.Words.{spaced_after, texts}
use Rattle.dep_group.specs.declared.word.Word.{Word}
use Rattle.profile_folders.specs.Stacks.{unsigned}
use Rattle.use_flags.specs.Changes.{IsChange}
use Rattle.profile_lines.specs.Faults.{ChangesNothing, IsBadBy, NamesNothing}
use Rattle.profile_lines.specs.Items.{IsPlainAtom, NamesPackages, is_signed}
use Rattle.profile_lines.specs.declared.fault.LineFault.{LineFault}
use Rattle.profile_lines.specs.declared.fault.LineFault.TheVariants.{Memory, NoAtom, NoChange}
use Rattle.profile_lines.specs.declared.item.Entry.{Entry}
use Rattle.profile_lines.specs.declared.item.Form.TheVariants.{Rules}

pub untrue : (b : Bool) → b ≡ false → b ≡ true → ⊥
untrue b off on = let bad : false ≡ true = sym off ∙ on in absurd (cc bad)

-- an atom with a block is no other one
pub blocked : (word : List ℕ) (atom : Atom) → ((a : AtomValue) → IsAtomValue a → word ≡ value_text a → atom_value atom ≡ a) → ¬ (atom.block ≡ No) → (other : Atom) → ¬ IsPlainAtom word other
blocked word atom only block other plain = block (ap (λ (a : AtomValue). a.block) (only (atom_value other) plain.form plain.spelled) ∙ plain.plain)

-- a word that is refused as an atom is none
pub refused : (word : List ℕ) (fault : AtomFault) (told : LineFault) → ((a : AtomValue) → IsAtomValue a → word ≡ value_text a → fault ≡ atoms.Memory) → ((fault ≡ atoms.Memory) × (told ≡ Memory)) ⊎ ((¬ (fault ≡ atoms.Memory)) × (told ≡ NoAtom)) → (told ≡ Memory) ⊎ ((told ≡ NoAtom) × ((atom : Atom) → ¬ IsPlainAtom word atom))
refused word fault told only (inl memory) = inl memory.1
refused word fault told only (inr other) = inr (other.1, λ atom plain. other.0 (only (atom_value atom) plain.form plain.spelled))

-- the first word is an atom, and the others stand behind it
pub names_packages : (first : Word) (rest : List Word) (word : List ℕ) (atom : Atom) (entry : Entry) → word ≡ unsigned first.text.now → IsPlainAtom word atom → entry.item.atom ≡ Some atom → entry.takes_back ≡ is_signed first.text.now → entry.item.text ≡ spaced_after word (texts (map spot rest)) → NamesPackages (texts (map spot (first ∷ rest))) (texts (map spot rest)) entry
names_packages first rest word atom entry sign named has signed text = record {
  word = first.text.now;
  cut = refl;
  atom = atom;
  named = subst (λ (w : List ℕ). IsPlainAtom w atom) sign named;
  has = has;
  signed = signed;
  text = text ∙ ap (λ (w : List ℕ). spaced_after w (texts (map spot rest))) sign;
}

-- so it is of any entry with this atom and this text
pub names_again : (ws rest : List (List ℕ)) (entry other : Entry) → NamesPackages ws rest entry → other.item.atom ≡ entry.item.atom → other.takes_back ≡ entry.takes_back → other.item.text ≡ entry.item.text → NamesPackages ws rest other
names_again ws rest entry other names atom signed text = record {
  word = names.word;
  cut = names.cut;
  atom = names.atom;
  named = names.named;
  has = atom ∙ names.has;
  signed = signed ∙ names.signed;
  text = text ∙ names.text;
}

-- or it is no atom
pub names_nothing : (first : Word) (rest : List Word) (word : List ℕ) → word ≡ unsigned first.text.now → ((atom : Atom) → ¬ IsPlainAtom word atom) → NamesNothing (texts (map spot (first ∷ rest)))
names_nothing first rest word sign none atom plain = none atom (subst (λ (w : List ℕ). IsPlainAtom w atom) (sym sign) plain)

module _ (ws : List Word) (first : Word) (rest : List Word) (cut : ws ≡ first ∷ rest) where
  cut_here : texts (map spot ws) ≡ texts (map spot (first ∷ rest))
  cut_here = ap (λ (l : List Word). texts (map spot l)) cut

  -- what is said of these words is said of all
  pub names_here : (entry : Entry) → NamesPackages (texts (map spot (first ∷ rest))) (texts (map spot rest)) entry → NamesPackages (texts (map spot ws)) (texts (map spot rest)) entry
  names_here entry names = subst (λ (l : List (List ℕ)). NamesPackages l (texts (map spot rest)) entry) (sym cut_here) names

  pub nothing_here : NamesNothing (texts (map spot (first ∷ rest))) → NamesNothing (texts (map spot ws))
  nothing_here nothing = subst NamesNothing (sym cut_here) nothing

  -- a word behind the atom is no change
  pub bad_rule : (entry : Entry) (fault : LineFault) → NamesPackages (texts (map spot (first ∷ rest))) (texts (map spot rest)) entry → fault ≡ NoChange → ¬ AllByRecursion IsChange (texts (map spot rest)) → IsBadBy Rules (texts (map spot ws)) fault
  bad_rule entry fault names is none = subst (λ (f : LineFault). IsBadBy Rules (texts (map spot ws)) f) (sym is) (subst ChangesNothing (sym cut_here) ((names.atom, by_word), none))
    where
      by_word : IsPlainAtom (unsigned first.text.now) names.atom
      by_word = let same : first.text.now ≡ names.word = cc (names.cut) in subst (λ (w : List ℕ). IsPlainAtom (unsigned w) names.atom) (sym same) names.named
