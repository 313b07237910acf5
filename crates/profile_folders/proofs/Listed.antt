-- The files at a path, and their lines: which they are, and that they are these alone.
use Rattle.std.specs.Prelude.{IsSome, filter}
use Rattle.std.specs.Cmp.Lexicographic.{slice_cmp}
use Rattle.std.specs.List.{AllByRecursion, flat_map}
use Rattle.std.specs.List.Sorted.{IsStrictlySortedBy}
use Rattle.std.specs.Ordering.{nat_cmp}
use Rattle.std.specs.declared.cmp.Ordering.TheVariants.{Less}
use Rattle.std.proofs.Common.{◌≡◌, ◌&&◌, ◌∙◌, ◌<◌, ◌≤◌, ◌++◌, ◌+◌, ℕ, Bool, true, false, List, [], ◌∷◌, None, Some, ap, drop, get_or, inl, inr, length, refl, subst, sym, take}
use Rattle.std.proofs.lemmas.List.{take_all}
use Rattle.std.proofs.lemmas.List.Kept.{IsStrictlySortedBy-filter}
use Rattle.basics.specs.Members.{Has}
use Rattle.basics.proofs.Membership.{contains-from_has, has-filter, has-filter_back, has-from_contains}
use Rattle.basics.proofs.Texts.{less_one_way}
use Rattle.config_text.proofs.BadBytes.{no_bad_byte}
use Rattle.basics.proofs.Each.{all_has}
use Rattle.file_tree.specs.Disk.{Lists, Map}
use Rattle.file_tree.specs.Paths.{is_below}
use Rattle.profile_folders.specs.LineFiles.{AreFiles, AreFilesIn, AreLines, HasBadByte, HasText, IsLinesFault, is_file_in, is_shown, lines_of}
use Rattle.profile_folders.specs.declared.fault.ProfileFault.{ProfileFault}
use Rattle.profile_folders.specs.declared.fault.ProfileFault.TheVariants.{Deep, Loop, Missing, Text, Tree}
use Rattle.profile_folders.specs.declared.line_file.FileLine.{FileLine}
use Rattle.profile_folders.proofs.Followed.{split_at}

abbrev IsRising : List (List ℕ) → Type 0
IsRising ts = IsStrictlySortedBy (slice_cmp nat_cmp) ts

behind_head : (x y : List ℕ) (xs : List (List ℕ)) → IsRising (x ∷ xs) → Has xs y → slice_cmp nat_cmp x y ≡ Less
unfolding IsStrictlySortedBy
behind_head x y xs rise has = all_has (λ (z : List ℕ). slice_cmp nat_cmp x z ≡ Less) xs y rise.0 has

tail_rises : (x : List ℕ) (xs : List (List ℕ)) → IsRising (x ∷ xs) → IsRising xs
unfolding IsStrictlySortedBy
tail_rises x xs rise = rise.1

heads : (x y : List ℕ) (xs ys : List (List ℕ)) → IsRising (x ∷ xs) → IsRising (y ∷ ys) → Has (y ∷ ys) x → Has (x ∷ xs) y → x ≡ y
heads x y xs ys rx ry (inl e) there = sym e
heads x y xs ys rx ry (inr h) (inl e) = e
heads x y xs ys rx ry (inr h) (inr k) = absurd (less_one_way x y (behind_head x y xs rx k) (behind_head y x ys ry h))

tail_in : (x : List ℕ) (xs ys : List (List ℕ)) (y q : List ℕ) → IsRising (x ∷ xs) → x ≡ y → Has xs q → Has (y ∷ ys) q → Has ys q
tail_in x xs ys y q rise same has (inl e) =
    let here : x ≡ q = same ∙ e in
    let less : slice_cmp nat_cmp q q ≡ Less = subst (λ (z : List ℕ). slice_cmp nat_cmp z q ≡ Less) here (behind_head x q xs rise has) in
    absurd (less_one_way q q less less)
tail_in x xs ys y q rise same has (inr k) = k

-- two rising lists with the same members are one
pub one_rising : (xs ys : List (List ℕ)) → IsRising xs → IsRising ys → ((q : List ℕ) → Has xs q → Has ys q) → ((q : List ℕ) → Has ys q → Has xs q) → xs ≡ ys
one_rising [] [] rx ry to back = refl
one_rising [] (y ∷ ys) rx ry to back = absurd (back y (inl refl))
one_rising (x ∷ xs) [] rx ry to back = absurd (to x (inl refl))
one_rising (x ∷ xs) (y ∷ ys) rx ry to back =
    let head : x ≡ y = heads x y xs ys rx ry (to x (inl refl)) (back y (inl refl)) in
    let tail : xs ≡ ys = one_rising xs ys (tail_rises x xs rx) (tail_rises y ys ry) (λ q has. tail_in x xs ys y q rx head has (to q (inr has))) (λ q has. tail_in y ys xs x q ry (sym head) has (back q (inr has))) in
    ap (λ (z : List ℕ). z ∷ xs) head ∙ ap (λ (zs : List (List ℕ)). y ∷ zs) tail

first_of : (a b : Bool) → (a && b) ≡ true → a ≡ true
first_of true b e = refl
first_of false b e = absurd (cc e)

module _ (m : Map) where
  -- the files of a folder are those of the paths below it
  pub are_files_in : (folder : List ℕ) (below files : List (List ℕ)) → Lists m folder below → IsRising below → files ≡ filter (is_file_in folder) below → AreFilesIn m folder files
  are_files_in folder below files lists rise are = record {
    rising = subst IsRising (sym are) (IsStrictlySortedBy-filter (slice_cmp nat_cmp) (is_file_in folder) below rise);
    members = λ q. (
      λ has. there q (has-filter_back (is_file_in folder) below q (subst (λ (l : List (List ℕ)). Has l q) are has)),
      λ here. subst (λ (l : List (List ℕ)). Has l q) (sym are) (has-filter (is_file_in folder) below q (listed q here.0 here.1) here.1),
    );
  }
    where
      there : (q : List ℕ) → Has below q × (is_file_in folder q ≡ true) → IsSome (m q) × (is_file_in folder q ≡ true)
      there q has = (((lists q).0 (contains-from_has below q has.0)).1, has.1)

      listed : (q : List ℕ) → IsSome (m q) → is_file_in folder q ≡ true → Has below q
      listed q some is = has-from_contains below q ((lists q).1 (first_of (is_below folder q) (is_shown (drop (length folder + 1) q)) is, some))

  pub one_files : (path : List ℕ) (fs gs : List (List ℕ)) → AreFiles m path fs → AreFiles m path gs → fs ≡ gs
  one_files path fs gs (inl a) (inl b) = a.2 ∙ sym b.2
  one_files path fs gs (inl a) (inr b) = let e : Some a.0 ≡ None = sym a.1 ∙ b.0 in absurd (cc e)
  one_files path fs gs (inr a) (inl b) = let e : Some b.0 ≡ None = sym b.1 ∙ a.0 in absurd (cc e)
  one_files path fs gs (inr a) (inr b) = one_rising fs gs a.1.rising b.1.rising (λ q has. (b.1.members q).1 ((a.1.members q).0 has)) (λ q has. (a.1.members q).1 ((b.1.members q).0 has))

  pub one_lines : (path : List ℕ) (these those : List FileLine) → AreLines m path these → AreLines m path those → these ≡ those
  one_lines path these those a b = a.all ∙ (ap (flat_map (lines_of m)) (one_files path a.files b.files a.are b.are) ∙ sym b.all)

  bad_text : (file : List ℕ) (fault : ProfileFault) → HasText m file → HasBadByte m file fault → ⊥
  bad_text file (Text path line) good bad = no_bad_byte _ line good bad.1
  bad_text file (Missing path) good bad = bad
  bad_text file (Loop path line) good bad = bad
  bad_text file (Deep path line) good bad = bad
  bad_text file (Tree of) good bad = bad

  each_in : (front : List (List ℕ)) (file : List ℕ) (rest : List (List ℕ)) → AllByRecursion (HasText m) (front ++ (file ∷ rest)) → HasText m file
  each_in [] file rest all = all.0
  each_in (f ∷ front) file rest all = each_in front file rest all.1

  pub lines_or_not : (path : List ℕ) (these : List FileLine) (fault : ProfileFault) → AreLines m path these → IsLinesFault m path fault → ⊥
  lines_or_not path these fault are bad = bad_text bad.bad fault (each_in bad.front bad.bad bad.rest (subst (AllByRecursion (HasText m)) (one_files path are.files (bad.front ++ (bad.bad ∷ bad.rest)) are.are bad.are) are.texts)) bad.has

  module _ (path : List ℕ) (files : List (List ℕ)) (are : AreFiles m path files) (i : ℕ) (all : List FileLine) (texts : AllByRecursion (HasText m) (take i files)) (all-is : all ≡ flat_map (lines_of m) (take i files)) where
    pub all_lines : length files ≤ i → AreLines m path all
    all_lines past = record {
      files = files;
      are = are;
      texts = subst (AllByRecursion (HasText m)) (take_all i files past) texts;
      all = all-is ∙ ap (flat_map (lines_of m)) (take_all i files past);
    }

    pub fault_at : (file : List ℕ) → i < length files → file ≡ get_or files i file → (fault : ProfileFault) → HasBadByte m file fault → IsLinesFault m path fault
    fault_at file lt at fault has = record {
      front = take i files;
      bad = file;
      rest = drop (i + 1) files;
      are = subst (AreFiles m path) (split_at files i file lt at) are;
      texts = texts;
      has = has;
    }
