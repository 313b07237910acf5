-- The flags of words, one word after another.
use Rattle.std.proofs.Common.{◌≡◌, ◌∙◌, ◌||◌, ◌<◌, ◌+◌, ℕ, zero, suc, Bool, true, false, List, [], ◌∷◌, ◌++◌, length, get_or, map, take, Some, Result, Ok, Err, refl, ap, sym, subst, inl, inr, arith}
use Rattle.std.specs.Prelude.{IfErr, IfOk, bytes_eq, slice_get}
use Rattle.std.specs.List.{AllByRecursion}
use Rattle.std.specs.List.Sorted.{IsStrictlySortedBy}
use Rattle.std.proofs.Math.Bool.{or_comm}
use Rattle.std.proofs.lemmas.List.{map-append}
use Rattle.std.proofs.lemmas.List.Folds.{list_any-append}
use Rattle.basics.specs.Members.{Has}
use Rattle.basics.proofs.Membership.{has-map, has-map_back, has-slice_get}
use Rattle.basics.proofs.Tests.{or-false}
use Rattle.file_tree.proofs.PathSets.{has_if_in, in_if_has}
use Rattle.pms_names.specs.Flags.{IsRising, has}
use Rattle.pms_names.specs.Names.{IsName}
use Rattle.pms_names.specs.declared.kind.Kind.TheVariants as kinds
use Rattle.dep_group.specs.Words.{Spot, place, texts}
use Rattle.dep_group.specs.Views.{spot}
use Rattle.dep_group.specs.declared.word.Word.{Word}
use Rattle.vdb_law.specs.Fields.{AreFlags}
use Rattle.vdb_values.specs.declared.fault.FlagFault.{FlagFault}
use Rattle.vdb_values.specs.declared.fault.FlagFault.TheVariants as faults
use Rattle.vdb_values.specs.Values.{AddsWord, HasFlags, IsFault, IsFlagWord, flag_in}

-- the set has just the flags of these words
pub record IsReadOf (marked : Bool) (ws set : List (List ℕ)) : Type 0 where
  pub good : AllByRecursion (IsFlagWord marked) ws
  pub same : (q : List ℕ) → has set q ≡ has (map (flag_in marked) ws) q
  pub rising : IsRising set

all_more : (marked : Bool) (ws : List (List ℕ)) (w : List ℕ) → AllByRecursion (IsFlagWord marked) ws → IsFlagWord marked w → AllByRecursion (IsFlagWord marked) (ws ++ (w ∷ []))
all_more marked [] w h is = (is, tt)
all_more marked (x ∷ ws) w h is = (h.0, all_more marked ws w h.1 is)

pub none_read : (marked : Bool) → IsRising [] → IsReadOf marked [] []
none_read marked rising = record { good = tt; same = λ q. refl; rising = rising }

-- one more word
pub one_more : (marked : Bool) (ws was set : List (List ℕ)) (w : List ℕ) → IsReadOf marked ws was → AddsWord marked w was set → IsReadOf marked (ws ++ (w ∷ [])) set
one_more marked ws was set w r adds = record {
  good = all_more marked ws w r.good adds.good;
  same = λ q. adds.now q ∙ ap (λ (b : Bool). bytes_eq q (flag_in marked w) || b) (r.same q)
      ∙ or_comm (bytes_eq q (flag_in marked w)) (has (map (flag_in marked) ws) q)
      ∙ ap (λ (b : Bool). has (map (flag_in marked) ws) q || b) (sym (or-false (bytes_eq q (flag_in marked w))))
      ∙ sym (list_any-append (bytes_eq q) (map (flag_in marked) ws) (flag_in marked w ∷ []))
      ∙ ap (λ (l : List (List ℕ)). has l q) (sym (map-append (flag_in marked) ws (w ∷ [])));
  rising = adds.rising;
}

good_of : (marked : Bool) (ws : List (List ℕ)) (w : List ℕ) → AllByRecursion (IsFlagWord marked) ws → Has ws w → IsFlagWord marked w
good_of marked [] w h has = absurd has
good_of marked (x ∷ ws) w h (inl e) = subst (IsFlagWord marked) e h.0
good_of marked (x ∷ ws) w h (inr there) = good_of marked ws w h.1 there

-- all words are read
pub all_read : (marked : Bool) (ws set : List (List ℕ)) → IsReadOf marked ws set → AreFlags (map (flag_in marked) ws) set
all_read marked ws set r =
    let there : (q : List ℕ) → Has set q → Has (map (flag_in marked) ws) q = λ q h. has_if_in (map (flag_in marked) ws) q (sym (r.same q) ∙ in_if_has set q h) in
    record {
      rising = r.rising;
      each = λ q h. (let back = has-map_back (flag_in marked) ws q (there q h) in subst (λ (x : List ℕ). IsName kinds.Flag x) back.2 (good_of marked ws back.0 r.good back.1));
      members = λ q. (there q, λ h. has_if_in set q (r.same q ∙ in_if_has (map (flag_in marked) ws) q h));
    }

-- words that have no mark are their flags
pub plain_words : (ws : List (List ℕ)) → map (flag_in false) ws ≡ ws
plain_words [] = refl
plain_words (w ∷ ws) = ap (λ (l : List (List ℕ)). w ∷ l) (plain_words ws)

-- the words of a list, up to one of them
front_words : (ws : List Word) (i : ℕ) → take i (texts (map spot ws)) ≡ texts (map spot (take i ws))
front_words ws zero = refl
front_words [] (suc i) = refl
front_words (w ∷ ws) (suc i) = ap (λ (l : List (List ℕ)). w.text.now ∷ l) (front_words ws i)

more_words : (ws : List Word) (i : ℕ) (d : Word) → i < length ws → texts (map spot (take (suc i) ws)) ≡ texts (map spot (take i ws)) ++ ((get_or ws i d).text.now ∷ [])
more_words [] i d lt = absurd (omega (arith, lt))
more_words (w ∷ ws) zero d lt = refl
more_words (w ∷ ws) (suc i) d lt = ap (λ (l : List (List ℕ)). w.text.now ∷ l) (more_words ws i d (omega (arith, lt)))

word_there : (ws : List Word) (i : ℕ) (d : Word) → i < length ws → slice_get (texts (map spot ws)) i ≡ Some (get_or ws i d).text.now
word_there [] i d lt = absurd (omega (arith, lt))
word_there (w ∷ ws) zero d lt = refl
word_there (w ∷ ws) (suc i) d lt = word_there ws i d (omega (arith, lt))

place_there : (ws : List Word) (i : ℕ) (d : Word) → i < length ws → place (map spot ws) i ≡ (get_or ws i d).at
place_there [] i d lt = absurd (omega (arith, lt))
place_there (w ∷ ws) zero d lt = refl
place_there (w ∷ ws) (suc i) d lt = place_there ws i d (omega (arith, lt))

pub next_word : (marked : Bool) (ws : List Word) (i : ℕ) (d : Word) (was set : List (List ℕ)) → i < length ws → IsReadOf marked (texts (map spot (take i ws))) was
    → AddsWord marked (get_or ws i d).text.now was set → IsReadOf marked (texts (map spot (take (i + 1) ws))) set × HasFlags marked (map spot (take (i + 1) ws)) set
next_word marked ws i d was set lt r adds =
    let e : i + 1 ≡ suc i = omega arith in
    let read : IsReadOf marked (texts (map spot (take (i + 1) ws))) set =
    subst (λ (n : ℕ). IsReadOf marked (texts (map spot (take n ws))) set) (sym e)
    (subst (λ (l : List (List ℕ)). IsReadOf marked l set) (sym (more_words ws i d lt)) (one_more marked (texts (map spot (take i ws))) was set (get_or ws i d).text.now r adds)) in
    (read, all_read marked (texts (map spot (take (i + 1) ws))) set read)

pub first_word : (marked : Bool) (set : List (List ℕ)) → set ≡ [] → IsReadOf marked [] set × AreFlags [] set
unfolding IsStrictlySortedBy
first_word marked set e =
    let read : IsReadOf marked [] set = subst (λ (l : List (List ℕ)). IsReadOf marked [] l) (sym e) (none_read marked tt) in
    (read, all_read marked [] set read)

pub bad_word : (marked : Bool) (ws : List Word) (i : ℕ) (d : Word) (was : List (List ℕ)) → i < length ws → IsReadOf marked (texts (map spot (take i ws))) was
    → ¬ IsFlagWord marked (get_or ws i d).text.now → IsFault marked (map spot ws) (faults.Word (get_or ws i d).at)
bad_word marked ws i d was lt r bad = (
  i,
  record {
    word = (get_or ws i d).text.now;
    there = word_there ws i d lt;
    bad = bad;
    before = subst (λ (l : List (List ℕ)). AllByRecursion (IsFlagWord marked) l) (sym (front_words ws i)) r.good;
  },
  sym (place_there ws i d lt),
)

-- words of flags have no fault but want of memory
pub only_memory : (marked : Bool) (ws : List Spot) (set : List (List ℕ)) (r : Result (List (List ℕ)) FlagFault) → IfErr r (IsFault marked ws) → HasFlags marked ws set
    → IfErr r (λ e. e ≡ faults.Memory)
only_memory marked ws set (Ok s) h are = h
only_memory marked ws set (Err (faults.Word at)) h are =
    absurd (h.1.bad (are.each (flag_in marked h.1.word) ((are.members (flag_in marked h.1.word)).1 (has-map (flag_in marked) (texts ws) h.1.word (has-slice_get (texts ws) h.0 h.1.word h.1.there)))))
only_memory marked ws set (Err faults.Memory) h are = refl

-- the same for the words of a text
pub found_plain : (ws vs : List Spot) (r : Result (List (List ℕ)) FlagFault) → ws ≡ vs → IfOk r (HasFlags false ws) → IfOk r (λ s. AreFlags (texts vs) s)
found_plain ws vs (Ok s) e h = subst (λ (l : List (List ℕ)). AreFlags l s) (plain_words (texts ws) ∙ ap texts e) h
found_plain ws vs (Err f) e h = h

pub only_plain : (ws vs : List Spot) (set : List (List ℕ)) (r : Result (List (List ℕ)) FlagFault) → ws ≡ vs → IfErr r (IsFault false ws) → AreFlags (texts vs) set
    → IfErr r (λ e. e ≡ faults.Memory)
only_plain ws vs set r e h are = only_memory false ws set r h (subst (λ (l : List (List ℕ)). AreFlags l set) (sym (plain_words (texts ws) ∙ ap texts e)) are)

pub only_marked : (ws vs : List Spot) (set : List (List ℕ)) (r : Result (List (List ℕ)) FlagFault) → ws ≡ vs → IfErr r (IsFault true ws) → HasFlags true vs set
    → IfErr r (λ e. e ≡ faults.Memory)
only_marked ws vs set r e h are = only_memory true ws set r h (subst (λ (l : List Spot). HasFlags true l set) (sym e) are)
