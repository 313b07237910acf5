-- A map's profile is read in one way at most.
use Rattle.std.specs.Prelude.{IfErr, MatchResult, OnOk}
use Rattle.std.specs.List.{AllZip}
use Rattle.std.proofs.Common.{◌≡◌, ◌∙◌, ◌++◌, ◌⊎◌, ℕ, zero, suc, List, [], ◌∷◌, Option, None, Some, Result, Ok, Err, ap, arith, inl, inr, refl, subst, sym, take}
use Rattle.std.proofs.lemmas.Str.{utf8_valid_len-IsValidUpTo}
use Rattle.config_text.specs.Faults.{NotUtf8At}
use Rattle.config_text.specs.Lines.{line_behind}
use Rattle.config_text.specs.declared.line.Line.{Line}
use Rattle.config_text.proofs.BadBytes.{no_bad_byte}
use Rattle.file_tree.specs.Disk.{Map}
use Rattle.file_tree.specs.ObjectValue.{ObjectValue}
use Rattle.profile_folders.specs.Begins.{BeginsAt, BeginsNowhere, IsFolder, IsTarget, Starts, StartsNowhere}
use Rattle.profile_folders.specs.Folders.{AreFolders, Ends, FirstFault, MayNotRead, MayRead, Reads, ReadsEach, Walks, with_folder}
use Rattle.profile_folders.specs.Machine.{IsOfMachine}
use Rattle.profile_folders.specs.Parents.{AreNamed, IsMisnamed, LeadsNowhereAt, LeadsTo}
use Rattle.profile_folders.specs.Places.{place_from}
use Rattle.profile_folders.specs.declared.fault.ProfileFault.{ProfileFault}
use Rattle.profile_folders.specs.declared.fault.ProfileFault.TheVariants.{Deep, Loop, Missing, Text, Tree}
use Rattle.profile_folders.specs.declared.parents.Parent.{Parent}
use Rattle.profile_folders.proofs.Followed.{trimmed_once}
use Rattle.profile_folders.proofs.Places.{some_one}

abbrev parent_with : List ℕ → ℕ → List ℕ → Parent
parent_with file line folder = record { file = file; line = line; folder = folder }

one_parent : (folder : List ℕ) (line : Line) (p q : Parent) → LeadsTo folder line p → LeadsTo folder line q → p ≡ q
one_parent folder line p q a b =
    let text : a.text ≡ b.text = trimmed_once line.text a.text b.text a.trimmed b.trimmed in
    let place : p.folder ≡ q.folder = some_one p.folder q.folder (sym a.leads ∙ ap (place_from folder) text ∙ b.leads) in
    let file : p.file ≡ q.file = a.filed ∙ sym b.filed in
    let number : p.line ≡ q.line = a.numbered ∙ sym b.numbered in
    ap (λ (f : List ℕ). parent_with f p.line p.folder) file ∙ (ap (λ (n : ℕ). parent_with q.file n p.folder) number ∙ ap (λ (f : List ℕ). parent_with q.file q.line f) place)

one_list : (folder : List ℕ) (ls : List Line) (ps qs : List Parent) → AllZip (LeadsTo folder) ls ps → AllZip (LeadsTo folder) ls qs → ps ≡ qs
one_list folder [] [] [] a b = refl
one_list folder [] [] (q ∷ qs) a b = absurd b
one_list folder [] (p ∷ ps) qs a b = absurd a
one_list folder (l ∷ ls) [] qs a b = absurd a
one_list folder (l ∷ ls) (p ∷ ps) [] a b = absurd b
one_list folder (l ∷ ls) (p ∷ ps) (q ∷ qs) a b =
    ap (λ (x : Parent). x ∷ ps) (one_parent folder l p q a.0 b.0) ∙ ap (λ (xs : List Parent). q ∷ xs) (one_list folder ls ps qs a.1 b.1)

-- a line that leads nowhere is none of those that lead to parents
has_parent : (folder : List ℕ) (front : List Line) (bad : Line) (rest : List Line) (ps : List Parent) → AllZip (LeadsTo folder) (front ++ (bad ∷ rest)) ps → (p : Parent) × LeadsTo folder bad p
has_parent folder [] bad rest [] all = absurd all
has_parent folder [] bad rest (p ∷ ps) all = (p, all.0)
has_parent folder (l ∷ front) bad rest [] all = absurd all
has_parent folder (l ∷ front) bad rest (p ∷ ps) all = has_parent folder front bad rest ps all.1

head_one : (a b : Line) (xs ys : List Line) → a ∷ xs ≡ b ∷ ys → a ≡ b
head_one a b xs ys e = cc e

tail_one : (a b : Line) (xs ys : List Line) → a ∷ xs ≡ b ∷ ys → xs ≡ ys
tail_one a b xs ys e = cc e

-- of two lists of lines that lead somewhere up to a first that doesn't, the first are the same
one_bad : (folder : List ℕ) (front : List Line) (good : List Parent) (bad : Line) (rest : List Line) (front' : List Line) (good' : List Parent) (bad' : Line) (rest' : List Line) → front ++ (bad ∷ rest) ≡ front' ++ (bad' ∷ rest') → AllZip (LeadsTo folder) front good → ((p : Parent) → ¬ LeadsTo folder bad p) → AllZip (LeadsTo folder) front' good' → ((p : Parent) → ¬ LeadsTo folder bad' p) → bad ≡ bad'
one_bad folder [] good bad rest [] good' bad' rest' e each wrong each' wrong' = head_one bad bad' rest rest' e
one_bad folder [] good bad rest (l ∷ front') [] bad' rest' e each wrong each' wrong' = absurd each'
one_bad folder [] good bad rest (l ∷ front') (p ∷ good') bad' rest' e each wrong each' wrong' =
    absurd (wrong p (subst (λ (x : Line). LeadsTo folder x p) (sym (head_one bad l rest (front' ++ (bad' ∷ rest')) e)) each'.0))
one_bad folder (l ∷ front) [] bad rest front' good' bad' rest' e each wrong each' wrong' = absurd each
one_bad folder (l ∷ front) (p ∷ good) bad rest [] good' bad' rest' e each wrong each' wrong' =
    absurd (wrong' p (subst (λ (x : Line). LeadsTo folder x p) (head_one l bad' (front ++ (bad ∷ rest)) rest' e) each.0))
one_bad folder (l ∷ front) (p ∷ good) bad rest (l' ∷ front') [] bad' rest' e each wrong each' wrong' = absurd each'
one_bad folder (l ∷ front) (p ∷ good) bad rest (l' ∷ front') (p' ∷ good') bad' rest' e each wrong each' wrong' =
    one_bad folder front good bad rest front' good' bad' rest' (tail_one l l' (front ++ (bad ∷ rest)) (front' ++ (bad' ∷ rest')) e) each.1 wrong each'.1 wrong'

one_bad_byte : (bytes : List ℕ) (a b : ℕ) → NotUtf8At bytes a → NotUtf8At bytes b → a ≡ b
one_bad_byte bytes a b x y =
    let same : x.good ≡ y.good = sym (utf8_valid_len-IsValidUpTo bytes x.good x.front) ∙ utf8_valid_len-IsValidUpTo bytes y.good y.front in
    x.place ∙ (ap (λ (n : ℕ). line_behind (take n bytes)) same ∙ sym y.place)

one_line : (folder bytes : List ℕ) (a b : ℕ) → NotUtf8At bytes a ⊎ LeadsNowhereAt folder bytes a → NotUtf8At bytes b ⊎ LeadsNowhereAt folder bytes b → a ≡ b
one_line folder bytes a b (inl x) (inl y) = one_bad_byte bytes a b x y
one_line folder bytes a b (inl x) (inr y) = absurd (no_bad_byte bytes a y.utf8 x)
one_line folder bytes a b (inr x) (inl y) = absurd (no_bad_byte bytes b x.utf8 y)
one_line folder bytes a b (inr x) (inr y) =
    x.counted ∙ (ap (λ (l : Line). l.number) (one_bad folder x.front x.good x.bad x.rest y.front y.good y.bad y.rest (sym x.place ∙ y.place) x.each x.nowhere y.each y.nowhere) ∙ sym y.counted)

one_misnamed : (folder bytes : List ℕ) (f g : ProfileFault) → IsMisnamed folder bytes f → IsMisnamed folder bytes g → f ≡ g
one_misnamed folder bytes (Text path line) (Text path' line') a b =
    ap (λ (p : List ℕ). Text p line) (a.0 ∙ sym b.0) ∙ ap (λ (n : ℕ). Text path' n) (one_line folder bytes line line' a.1 b.1)
one_misnamed folder bytes (Text path line) (Missing path') a b = absurd b
one_misnamed folder bytes (Text path line) (Loop path' line') a b = absurd b
one_misnamed folder bytes (Text path line) (Deep path' line') a b = absurd b
one_misnamed folder bytes (Text path line) (Tree of) a b = absurd b
one_misnamed folder bytes (Missing path) g a b = absurd a
one_misnamed folder bytes (Loop path line) g a b = absurd a
one_misnamed folder bytes (Deep path line) g a b = absurd a
one_misnamed folder bytes (Tree of) g a b = absurd a

named_or_not : (folder bytes : List ℕ) (ps : List Parent) (f : ProfileFault) → AreNamed folder bytes ps → IsMisnamed folder bytes f → ⊥
named_or_not folder bytes ps (Text path line) are (path-is, inl x) = no_bad_byte bytes line are.utf8 x
named_or_not folder bytes ps (Text path line) are (path-is, inr x) =
    let p = has_parent folder x.front x.bad x.rest ps (subst (λ (ls : List Line). AllZip (LeadsTo folder) ls ps) x.place are.each) in
    x.nowhere p.0 p.1
named_or_not folder bytes ps (Missing path) are bad = bad
named_or_not folder bytes ps (Loop path line) are bad = bad
named_or_not folder bytes ps (Deep path line) are bad = bad
named_or_not folder bytes ps (Tree of) are bad = bad

module _ (m : Map) (above before : List (List ℕ)) (parent : Parent) where
  may_or_not : (f : ProfileFault) → MayRead m above before parent.folder → MayNotRead m above before parent f → ⊥
  may_or_not (Loop path line) may why = may.other why.0
  may_or_not (Deep path line) may why = omega (arith, may.room, why.1)
  may_or_not (Missing path) may why = why.2 may.there
  may_or_not (Text path line) may why = why
  may_or_not (Tree of) may why = why

  one_reason : (f g : ProfileFault) → MayNotRead m above before parent f → MayNotRead m above before parent g → f ≡ g
  one_reason (Loop path line) (Loop path' line') a b = ap (λ (p : List ℕ). Loop p line) (a.1 ∙ sym b.1) ∙ ap (λ (n : ℕ). Loop path' n) (a.2 ∙ sym b.2)
  one_reason (Loop path line) (Deep path' line') a b = absurd (b.0 a.0)
  one_reason (Loop path line) (Missing path') a b = absurd (b.0 a.0)
  one_reason (Loop path line) (Text path' line') a b = absurd b
  one_reason (Loop path line) (Tree of) a b = absurd b
  one_reason (Deep path line) (Loop path' line') a b = absurd (a.0 b.0)
  one_reason (Deep path line) (Deep path' line') a b = ap (λ (p : List ℕ). Deep p line) (a.2 ∙ sym b.2) ∙ ap (λ (n : ℕ). Deep path' n) (a.3 ∙ sym b.3)
  one_reason (Deep path line) (Missing path') a b = absurd (omega (arith, a.1, b.1))
  one_reason (Deep path line) (Text path' line') a b = absurd b
  one_reason (Deep path line) (Tree of) a b = absurd b
  one_reason (Missing path) (Loop path' line') a b = absurd (a.0 b.0)
  one_reason (Missing path) (Deep path' line') a b = absurd (omega (arith, a.1, b.1))
  one_reason (Missing path) (Missing path') a b = ap Missing (a.3 ∙ sym b.3)
  one_reason (Missing path) (Text path' line') a b = absurd b
  one_reason (Missing path) (Tree of) a b = absurd b
  one_reason (Text path line) g a b = absurd a
  one_reason (Tree of) g a b = absurd a

-- two endings from one beginning are the same
abbrev AreOne : Ends → Ends → Type 0
AreOne E F = (before now now' : List (List ℕ)) (fault fault' : Option ProfileFault) → E before now fault → F before now' fault' → (now ≡ now') × (fault ≡ fault')

no_fault : {f : ProfileFault} → None ≡ Some f → ⊥
no_fault e = absurd (cc e)

module _ (m : Map) (above : List (List ℕ)) (R S : List ℕ → Ends) (one : (folder : List ℕ) → AreOne (R folder) (S folder)) where
  one_each : (parents : List Parent) → AreOne (ReadsEach m above R parents) (ReadsEach m above S parents)
  one_each [] before now now' fault fault' a b = (a.0 ∙ sym b.0, a.1 ∙ sym b.1)
  one_each (p ∷ rest) before now now' fault fault' (inl a) (inl b) =
      (a.2 ∙ sym b.2, a.3 ∙ ap Some (one_reason m above before p a.0 b.0 a.1 b.1) ∙ sym b.3)
  one_each (p ∷ rest) before now now' fault fault' (inl a) (inr b) = absurd (may_or_not m above before p a.0 b.0 a.1)
  one_each (p ∷ rest) before now now' fault fault' (inr a) (inl b) = absurd (may_or_not m above before p b.0 a.0 b.1)
  one_each (p ∷ rest) before now now' fault fault' (inr (may, inl a)) (inr (may', inl b)) =
      let e = one p.folder before now now' (Some a.0) (Some b.0) a.1 b.1 in (e.0, a.2 ∙ e.1 ∙ sym b.2)
  one_each (p ∷ rest) before now now' fault fault' (inr (may, inl a)) (inr (may', inr b)) =
      absurd (no_fault (sym (one p.folder before now b.0 (Some a.0) None a.1 b.1).1))
  one_each (p ∷ rest) before now now' fault fault' (inr (may, inr a)) (inr (may', inl b)) =
      absurd (no_fault (one p.folder before a.0 now' None (Some b.0) a.1 b.1).1)
  one_each (p ∷ rest) before now now' fault fault' (inr (may, inr a)) (inr (may', inr b)) =
      let e = one p.folder before a.0 b.0 None None a.1 b.1 in
      one_each rest a.0 now now' fault fault' a.2 (subst (λ (f : List (List ℕ)). ReadsEach m above S rest f now' fault') (sym e.0) b.2)

one_reading : (d d' : ℕ) (m : Map) (above : List (List ℕ)) (folder : List ℕ) → AreOne (Reads d m above folder) (Reads d' m above folder)
one_reading zero d' m above folder before now now' fault fault' a b = absurd a
one_reading (suc d) zero m above folder before now now' fault fault' a b = absurd b
one_reading (suc d) (suc d') m above folder before now now' fault fault' (inl a) (inl b) =
    (a.2 ∙ sym b.2, a.3 ∙ ap Some (one_misnamed folder _ a.0 b.0 a.1 b.1) ∙ sym b.3)
one_reading (suc d) (suc d') m above folder before now now' fault fault' (inl a) (inr b) = absurd (named_or_not folder _ b.0 a.0 b.1 a.1)
one_reading (suc d) (suc d') m above folder before now now' fault fault' (inr a) (inl b) = absurd (named_or_not folder _ a.0 b.0 a.1 b.1)
one_reading (suc d) (suc d') m above folder before now now' fault fault' (inr (ps, are, (between, each, now-is))) (inr (qs, are', (between', each', now'-is))) =
    let inner = above ++ folder ∷ [] in
    let same : qs ≡ ps = one_list folder _ qs ps are'.each are.each in
    let e = one_each m inner (Reads d m inner) (Reads d' m inner) (λ f. one_reading d d' m inner f) ps before between between' fault fault' each (subst (λ (xs : List Parent). ReadsEach m inner (Reads d' m inner) xs before between' fault') same each') in
    (now-is ∙ (ap (λ (f : List (List ℕ)). with_folder f folder fault) e.0 ∙ ap (λ (x : Option ProfileFault). with_folder between' folder x) e.1) ∙ sym now'-is, e.1)

one_target : (path target a b : List ℕ) → IsTarget path target a → IsTarget path target b → a ≡ b
one_target path target a b x y = some_one a b (sym x.leads ∙ y.leads)

one_start : (x : Option ObjectValue) (path a b : List ℕ) → Starts x path a → Starts x path b → a ≡ b
one_start None path a b s u = s ∙ sym u
one_start (Some x) path a b s u = one_target path x.bytes a b s.1 u.1

starts_or_not : (x : Option ObjectValue) (path a : List ℕ) (f : ProfileFault) → Starts x path a → StartsNowhere x path f → ⊥
starts_or_not None path a f s wrong = wrong
starts_or_not (Some x) path a f s (inl bad) =
    let e : None ≡ Some a = sym (bad.1.0 s.1.utf8) ∙ s.1.leads in absurd (cc e)
starts_or_not (Some x) path a f s (inr other) = other.0 s.0

one_no_start : (x : Option ObjectValue) (path : List ℕ) (f g : ProfileFault) → StartsNowhere x path f → StartsNowhere x path g → f ≡ g
one_no_start None path f g a b = absurd a
one_no_start (Some x) path f g (inl a) (inl b) = a.1.1 ∙ sym b.1.1
one_no_start (Some x) path f g (inl a) (inr b) = absurd (b.0 a.0)
one_no_start (Some x) path f g (inr a) (inl b) = absurd (a.0 b.0)
one_no_start (Some x) path f g (inr a) (inr b) = a.1 ∙ sym b.1

module _ (m : Map) (path : List ℕ) where
  begins_or_not : (folder : List ℕ) (f : ProfileFault) → BeginsAt m path folder → BeginsNowhere m path f → ⊥
  begins_or_not folder f at (inl wrong) = starts_or_not (m path) path folder f at.0 wrong
  begins_or_not folder f at (inr wrong) = wrong.2 (subst (IsFolder m) (one_start (m path) path folder wrong.0 at.0 wrong.1) at.1)

  one_beginning : (f g : ProfileFault) → BeginsNowhere m path f → BeginsNowhere m path g → f ≡ g
  one_beginning f g (inl a) (inl b) = one_no_start (m path) path f g a b
  one_beginning f g (inl a) (inr b) = absurd (starts_or_not (m path) path b.0 f b.1 a)
  one_beginning f g (inr a) (inl b) = absurd (starts_or_not (m path) path a.0 g a.1 b)
  one_beginning f g (inr a) (inr b) = a.3 ∙ ap Missing (one_start (m path) path a.0 b.0 a.1 b.1) ∙ sym b.3

  pub one_walk : (folders folders' : List (List ℕ)) (fault fault' : Option ProfileFault) → Walks m path folders fault → Walks m path folders' fault' → (folders ≡ folders') × (fault ≡ fault')
  one_walk folders folders' fault fault' (inl a) (inl b) = (a.2 ∙ sym b.2, a.3 ∙ ap Some (one_beginning a.0 b.0 a.1 b.1) ∙ sym b.3)
  one_walk folders folders' fault fault' (inl a) (inr b) = absurd (begins_or_not b.0 a.0 b.1 a.1)
  one_walk folders folders' fault fault' (inr a) (inl b) = absurd (begins_or_not a.0 b.0 a.1 b.1)
  one_walk folders folders' fault fault' (inr (at, begins, (depth, read))) (inr (at', begins', (depth', read'))) =
      one_reading depth depth' m [] at [] folders folders' fault fault' read (subst (λ (f : List ℕ). Reads depth' m [] f [] folders' fault') (one_start (m path) path at' at begins'.0 begins.0) read')

  -- what is read is all that may be read
  pub only_walk : (r : Result (Unit {0}) ProfileFault) (now folders : List (List ℕ)) → OnOk r (AreFolders m path now) → IfErr r (λ e. IsOfMachine e ⊎ FirstFault m path now e) → AreFolders m path folders → MatchResult r (λ _. now ≡ folders) IsOfMachine
  only_walk (Ok u) now folders found fault are = (one_walk now folders None None found are).0
  only_walk (Err e) now folders found (inl machine) are = machine
  only_walk (Err e) now folders found (inr first) are = absurd (no_fault (sym (one_walk now folders (Some e) None first are).1))
