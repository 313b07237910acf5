-- A line that says something has no fault.
use Rattle.std.proofs.Common.{◌≡◌, ◌∙◌, ◌<◌, ◌++◌, ◌+◌, ℕ, List, [], ◌∷◌, arith, drop, get_or, inl, inr, length, subst, sym, take}
use Rattle.dep_group.specs.Words.{words_of}
use Rattle.profile_folders.specs.declared.line_file.FileLine.{FileLine}
use Rattle.profile_folders.proofs.Followed.{split_at}
use Rattle.profile_lines.specs.Faults.{ChangesNothing, FirstBad, IsBadBy, NamesNothing, device_failed, fault_at}
use Rattle.profile_lines.specs.Items.{AreEntries, IsEntry, IsRule, NamesPackages, Says}
use Rattle.profile_lines.specs.declared.fault.LineFault.{LineFault}
use Rattle.profile_lines.specs.declared.fault.LineFault.TheVariants.{Memory, NoAtom, NoChange}
use Rattle.profile_lines.specs.declared.fault.ReadFault.{ReadFault}
use Rattle.profile_lines.specs.declared.item.Entry.{Entry}
use Rattle.profile_lines.specs.declared.item.Form.{Form}
use Rattle.profile_lines.specs.declared.item.Form.TheVariants.{Flags, Keywords, Masks, Rules}

names_something : (ws rest : List (List ℕ)) (entry : Entry) → NamesPackages ws rest entry → NamesNothing ws → ⊥
names_something ws rest entry names nothing =
    let none : NamesNothing (names.word ∷ rest) = subst NamesNothing names.cut nothing in
    none names.atom names.named

changes_something : (ws : List (List ℕ)) (entry : Entry) → IsRule ws entry → ChangesNothing ws → ⊥
changes_something ws entry rule nothing =
    let none : ChangesNothing (rule.names.word ∷ rule.rest) = subst ChangesNothing rule.names.cut nothing in
    none.1 rule.changes.each

says_or_not : (form : Form) (ws : List (List ℕ)) (entry : Entry) (why : LineFault) → Says form ws entry → IsBadBy form ws why → ⊥
says_or_not Masks ws entry NoAtom says (inl nothing) = names_something ws says.0.rest entry says.0.names nothing
says_or_not Masks ws entry NoAtom says (inr more) = absurd (omega (arith, says.1, more))
says_or_not Masks ws entry NoChange says bad = bad
says_or_not Masks ws entry Memory says bad = bad
says_or_not Rules ws entry NoAtom says nothing = names_something ws says.rest entry says.names nothing
says_or_not Rules ws entry NoChange says nothing = changes_something ws entry says nothing
says_or_not Rules ws entry Memory says bad = bad
says_or_not Flags ws entry NoAtom says bad = bad
says_or_not Flags ws entry NoChange says bad = bad says.changes.each
says_or_not Flags ws entry Memory says bad = bad
says_or_not Keywords ws entry NoAtom says nothing = names_something ws says.rest entry says.names nothing
says_or_not Keywords ws entry NoChange says bad = bad
says_or_not Keywords ws entry Memory says bad = bad

has_entry : (form : Form) (front : List FileLine) (line : FileLine) (rest : List FileLine) (those : List Entry) → AreEntries form (front ++ (line ∷ rest)) those → (entry : Entry) × IsEntry form line entry
has_entry form [] line rest [] none = absurd none
has_entry form [] line rest (entry ∷ those) all = (entry, all.0)
has_entry form (x ∷ front) line rest [] none = absurd none
has_entry form (x ∷ front) line rest (entry ∷ those) all = has_entry form front line rest those all.1

-- where all lines are in form none is the first that isn't
pub in_form_or_not : (form : Form) (lines : List FileLine) (those : List Entry) (fault : ReadFault) → AreEntries form lines those → FirstBad form lines fault → ⊥
in_form_or_not form lines those fault are first =
    let one = has_entry form first.front first.bad first.rest those (subst (λ (l : List FileLine). AreEntries form l those) first.place are) in
    says_or_not form (words_of first.bad.text) one.0 first.why one.1 first.has

-- the first line that isn't in form
pub first_bad : (form : Form) (lines : List FileLine) (i : ℕ) (line : FileLine) (good : List Entry) → i < length lines → line ≡ get_or lines i line → AreEntries form (take i lines) good → (why : LineFault) → IsBadBy form (words_of line.text) why → (fault : ReadFault) → fault ≡ fault_at line why → FirstBad form lines fault
first_bad form lines i line good lt at each why has fault told = record {
  front = take i lines;
  good = good;
  bad = line;
  rest = drop (i + 1) lines;
  place = split_at lines i line lt at;
  each = each;
  why = why;
  has = has;
  told = told;
}

-- a line is never told as a fault of the device
pub no_failure : (form : Form) (lines : List FileLine) (fault : ReadFault) → FirstBad form lines fault → ¬ (fault ≡ device_failed)
no_failure form lines fault first is = by_why first.bad first.why (sym first.told ∙ is)
  where
    by_why : (line : FileLine) (why : LineFault) → fault_at line why ≡ device_failed → ⊥
    by_why line NoAtom e = absurd (cc e)
    by_why line NoChange e = absurd (cc e)
    by_why line Memory e = absurd (cc e)
