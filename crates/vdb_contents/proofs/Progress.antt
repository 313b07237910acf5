-- How far the reading of CONTENTS has come.
use Rattle.std.proofs.Common.{◌≡◌, ◌∙◌, ◌||◌, ◌≤◌, ◌+◌, ℕ, suc, Bool, true, false, cond, List, [], ◌∷◌, ◌++◌, length, take, map, MatchBool, Some, Result, Ok, Err, refl, ap, sym, subst, arith, append_assoc}
use Rattle.std.specs.Prelude.{IfOk, slice_get}
use Rattle.std.specs.List.{AllByRecursion}
use Rattle.std.proofs.Math.Bool.{or_comm}
use Rattle.std.proofs.lemmas.List.{append-nil, length-append, map-append, take_at}
use Rattle.basics.specs.Members.{AreDistinct, Has}
use Rattle.basics.proofs.Membership.{distinct-append, has-map_back}
use Rattle.file_tree.specs.PathSets.{is_in}
use Rattle.file_tree.proofs.PathSets.{has_if_in, in_if_has}
use Rattle.file_tree.proofs.PathSets.{is_in-append}
use Rattle.vdb_contents.specs.Contents.{FirstFault, IsLine, Line, TellsOwned, dir, is_dropped, line_text, lines, obj, owned_by, owned_in, path_of, sym as link_line, unless_dropped}
use Rattle.vdb_contents.specs.Cuts.{IsFirstLine}
use Rattle.vdb_contents.specs.Reading.{Adds, Bars, Goes, Reads, Stops, item_of}
use Rattle.vdb_contents.specs.declared.fault.ContentsFault.TheVariants as faults
use Rattle.vdb_contents.specs.declared.owned.Content.TheVariants.{File, Link}
use Rattle.vdb_contents.specs.declared.owned.Owned.{Owned}
use Rattle.vdb_contents.specs.declared.line.Item.TheVariants as items
use Rattle.vdb_contents.proofs.Lines.{line_once, owned_in-append}

-- a number of lines before the rest are good, and these are the paths that they own
pub record IsReadTo (text rest : List ℕ) (number : ℕ) (taken : List (List ℕ)) (owned : List Owned) : Type 0 where
  pub before : List Line
  pub parts : lines text ≡ map line_text before ++ lines rest
  pub form : AllByRecursion IsLine before
  pub count : number ≡ length before
  pub means : owned ≡ owned_in before
  pub once : AreDistinct (map path_of (owned_in before))
  pub same : (q : List ℕ) → is_in taken q ≡ is_in (map path_of owned) q
  pub room : number + length rest ≤ length text

pub begun : (text : List ℕ) → IsReadTo text text 0 [] []
begun text = record { before = []; parts = refl; form = tt; count = refl; means = refl; once = tt; same = λ q. refl; room = omega arith }

all_more : (ls : List Line) (l : Line) → AllByRecursion IsLine ls → IsLine l → AllByRecursion IsLine (ls ++ (l ∷ []))
all_more [] l h is = (is, tt)
all_more (k ∷ ls) l h is = (h.0, all_more ls l h.1 is)

one_at_most : (o : Owned) (b : Bool) → AreDistinct (map path_of (cond b [] (o ∷ [])))
one_at_most o true = tt
one_at_most o false = ((λ h. h), tt)

one_owned : (l : Line) → AreDistinct (map path_of (owned_by l))
one_owned (obj p d t) = one_at_most (record { path = p; content = File d }) (is_dropped p)
one_owned (link_line p t u) = one_at_most (record { path = p; content = Link t }) (is_dropped p)
one_owned (dir p) = tt

-- what the lines and one more own
owned_more : (before : List Line) (l : Line) → owned_in (before ++ (l ∷ [])) ≡ owned_in before ++ owned_by l
owned_more before l = owned_in-append before (l ∷ []) ∙ ap (λ (os : List Owned). owned_in before ++ os) (append-nil (owned_by l))

-- one more good line
pub gone : (text rest line behind : List ℕ) (number : ℕ) (was taken : List (List ℕ)) (old new : List Owned) → IsReadTo text rest number was old
    → IsFirstLine rest line behind → Goes line was old taken new → IsReadTo text behind (number + 1) taken new
gone text rest line behind number was taken old new r first goes =
    let l : Line = goes.0 in
    let adds = goes.2.1 in
    let more = owned_more r.before l in
    let paths : map path_of (owned_in (r.before ++ (l ∷ []))) ≡ map path_of (owned_in r.before) ++ map path_of (owned_by l) =
    ap (map path_of) more ∙ map-append path_of (owned_in r.before) (owned_by l) in
    let apart : (q : List ℕ) → Has (map path_of (owned_in r.before)) q → Has (map path_of (owned_by l)) q → ⊥ =
    (λ q h k. (let o = has-map_back path_of (owned_by l) q k in
    let there : is_in (map path_of old) q ≡ true = in_if_has (map path_of old) q (subst (λ (os : List Owned). Has (map path_of os) q) (sym r.means) h) in
    let free : is_in was q ≡ false = ap (is_in was) (sym o.2) ∙ adds.free o.0 o.1 in
    cc (there, r.same q, free))) in
    record {
      before = r.before ++ (l ∷ []);
      parts = r.parts ∙ ap (λ (x : List (List ℕ)). map line_text r.before ++ x) (first.first ∙ ap (λ (t : List ℕ). t ∷ lines behind) goes.2.0)
          ∙ sym (append_assoc (map line_text r.before) (line_text l ∷ []) (lines behind))
          ∙ ap (λ (x : List (List ℕ)). x ++ lines behind) (sym (map-append line_text r.before (l ∷ [])));
      form = all_more r.before l r.form goes.1;
      count = omega (arith, r.count, length-append r.before (l ∷ []));
      means = adds.behind ∙ ap (λ (os : List Owned). os ++ owned_by l) r.means ∙ sym more;
      once = subst (λ (ps : List (List ℕ)). AreDistinct ps) (sym paths) (distinct-append (map path_of (owned_in r.before)) (map path_of (owned_by l)) r.once (one_owned l) apart);
      same = λ q. adds.now q ∙ is_in-append (map path_of (owned_by l)) was q ∙ ap (λ (b : Bool). is_in (map path_of (owned_by l)) q || b) (r.same q)
          ∙ or_comm (is_in (map path_of (owned_by l)) q) (is_in (map path_of old) q)
          ∙ sym (is_in-append (map path_of old) (map path_of (owned_by l)) q)
          ∙ ap (λ (ps : List (List ℕ)). is_in ps q) (sym (map-append path_of old (owned_by l)) ∙ ap (map path_of) (sym adds.behind));
      room = omega (arith, r.room, first.shorter);
    }

get_behind : (a b : List (List ℕ)) (x : List ℕ) (n : ℕ) → n ≡ length a → slice_get (a ++ (x ∷ b)) n ≡ Some x
get_behind a b x n e = subst (λ (k : ℕ). slice_get (a ++ (x ∷ b)) k ≡ Some x) (sym e) (there a) where
  there : (xs : List (List ℕ)) → slice_get (xs ++ (x ∷ b)) (length xs) ≡ Some x
  there [] = refl
  there (y ∷ xs) = there xs

length-map : (ls : List Line) → length (map line_text ls) ≡ length ls
length-map [] = refl
length-map (l ∷ ls) = ap suc (length-map ls)

-- the next line is faulty
pub stopped : (text rest line behind : List ℕ) (number : ℕ) (was : List (List ℕ)) (old : List Owned) → IsReadTo text rest number was old
    → IsFirstLine rest line behind → Stops line was → FirstFault text (faults.Line (number + 1))
stopped text rest line behind number was old r first stops =
    let whole : lines text ≡ map line_text r.before ++ (line ∷ lines behind) = r.parts ∙ ap (λ (x : List (List ℕ)). map line_text r.before ++ x) first.first in
    let size : number ≡ length (map line_text r.before) = r.count ∙ sym (length-map r.before) in (
      number,
      omega arith,
      record {
        before = r.before;
        good = record {
          spelled = ap (take number) whole ∙ take_at (map line_text r.before) (line ∷ lines behind) number (sym size);
          form = r.form;
          once = r.once;
        };
        here = line;
        there = ap (λ (x : List (List ℕ)). slice_get x number) whole ∙ get_behind (map line_text r.before) (lines behind) line number size;
        bad = λ l is e. (let b = stops l is e in
            (b.0, b.1, subst (λ (os : List Owned). Has (map path_of os) b.0.path) r.means (has_if_in (map path_of old) b.0.path (sym (r.same b.0.path) ∙ b.2))));
      },
    )

-- nothing is left
pub ended : (text rest : List ℕ) (number : ℕ) (taken : List (List ℕ)) (owned : List Owned) → rest ≡ [] → IsReadTo text rest number taken owned → TellsOwned text owned
ended text rest number taken owned none r = record {
  ls = r.before;
  are = record {
    spelled = r.parts ∙ ap (λ (x : List ℕ). map line_text r.before ++ lines x) none ∙ append-nil (map line_text r.before);
    form = r.form;
    once = r.once;
  };
  means = r.means;
}

-- what the line of an item owns
owned_of_item : (l : Line) (o : Owned) → items.Owned o ≡ item_of l → owned_by l ≡ unless_dropped o
owned_of_item (obj p d t) o e = let same : o ≡ record { path = p; content = File d } = cc in ap unless_dropped (sym same)
owned_of_item (link_line p t u) o e = let same : o ≡ record { path = p; content = Link t } = cc in ap unless_dropped (sym same)
owned_of_item (dir p) o e = absurd cc

-- what adding the item of a line does is what adding the line does
pub added : {E : Type 0} (line : List ℕ) (o : Owned) (was : List (List ℕ)) (old : List Owned) (taken : List (List ℕ)) (new : List Owned) (r : Result Bool E)
    → Reads line (Some (items.Owned o)) → IfOk r (λ good. MatchBool good (Adds (unless_dropped o) was old taken new) (Bars (unless_dropped o) was))
    → IfOk r (λ good. MatchBool good (Goes line was old taken new) (Stops line was))
added line o was old taken new (Err e) reads h = h
added line o was old taken new (Ok true) reads h =
    (reads.0, reads.1, (reads.2.0, subst (λ (os : List Owned). Adds os was old taken new) (sym (owned_of_item reads.0 o reads.2.1)) h))
added line o was old taken new (Ok false) reads h =
    λ l is e. subst (λ (os : List Owned). Bars os was) (sym (owned_of_item reads.0 o reads.2.1) ∙ line_once reads.0 l reads.1 is (sym reads.2.0 ∙ e)) h
