-- The packages of a state, by their lines.
use Rattle.std.proofs.Common.{◌≡◌, ◌∙◌, ℕ, Bool, cond, List, [], ◌∷◌, Option, Some, refl, ap, sym, subst, inl, inr}
use Rattle.std.specs.Prelude.{bytes_eq}
use Rattle.std.specs.BTreeMap.{insert_entry, is_at}
use Rattle.std.specs.Cmp.Lexicographic.{slice_cmp}
use Rattle.std.specs.Map.{keys_of, lookup, remove_entry, values_of}
use Rattle.std.specs.Ordering.{is_eq, match_ordering, nat_cmp}
use Rattle.std.specs.declared.cmp.Ordering.{Ordering}
use Rattle.std.specs.declared.cmp.Ordering.TheVariants as ordering
use Rattle.std.proofs.lemmas.Bool.{cases_Bool}
use Rattle.std.proofs.lemmas.Map.Text.{is_eq-slice_cmp}
use Rattle.std.proofs.lemmas.Slice.Eq.{bytes_eq-Decides}
use Rattle.pms_names.specs.Flags.{IsRising}
use Rattle.pkg_state.specs.Package.{Package, line_of, lines_of}
use Rattle.pkg_state.specs.State.{ChangesLine, HasLines, IsState, on_line}

abbrev pub Entries : Type 0
Entries = List (List ℕ × Package)

abbrev pub cmp : List ℕ → List ℕ → Ordering
cmp a b = slice_cmp nat_cmp a b

-- each package stands at its own line
abbrev pub AreOwn : Entries → Type 0
AreOwn es = keys_of es ≡ lines_of (values_of es)

first : {A : Type 0} {x y : A} {xs ys : List A} → x ∷ xs ≡ y ∷ ys → x ≡ y
first e = cc e

rest : {A : Type 0} {x y : A} {xs ys : List A} → x ∷ xs ≡ y ∷ ys → xs ≡ ys
rest e = cc e

cons : {A : Type 0} {x y : A} {xs ys : List A} → x ≡ y → xs ≡ ys → x ∷ xs ≡ y ∷ ys
cons e h i = e i ∷ h i

pub lookup_line : (es : Entries) (q : List ℕ) → AreOwn es → lookup (is_at (cmp q)) es ≡ on_line (values_of es) q
lookup_line [] q own = refl
lookup_line (e ∷ es) q own =
    ap (λ (b : Bool). cond b (Some e.1) (lookup (is_at (cmp q)) es)) (is_eq-slice_cmp q e.0 ∙ ap (bytes_eq q) (first own))
    ∙ ap (λ (o : Option Package). cond (bytes_eq q (line_of e.1.facts)) (Some e.1) o) (lookup_line es q (rest own))

pub own_removed : (es : Entries) (test : List ℕ → Bool) → AreOwn es → AreOwn (remove_entry test es)
own_removed [] test own = refl
own_removed (e ∷ es) test own = elim (cases_Bool (test e.0)) [
  | inl y ↦ subst (λ (b : Bool). AreOwn (cond b es (e ∷ remove_entry test es))) (sym y) (rest own)
  | inr n ↦ subst (λ (b : Bool). AreOwn (cond b es (e ∷ remove_entry test es))) (sym n) (cons (first own) (own_removed es test (rest own)))
]

-- one of three answers of a comparison
pub data Answer (o : Ordering) : Type 0 where
  less : o ≡ ordering.Less → Answer o
  equal : o ≡ ordering.Equal → Answer o
  greater : o ≡ ordering.Greater → Answer o

pub answer_of : (o : Ordering) → Answer o
answer_of ordering.Less = less refl
answer_of ordering.Equal = equal refl
answer_of ordering.Greater = greater refl

pub own_inserted : (es : Entries) (k : List ℕ) (p : Package) → k ≡ line_of p.facts → AreOwn es → AreOwn (insert_entry cmp es k p)
own_inserted [] k p is own = cons is refl
own_inserted (e ∷ es) k p is own = elim (answer_of (cmp k e.0)) [
  | less a ↦ subst (λ (o : Ordering). AreOwn (match_ordering o ((k, p) ∷ e ∷ es) ((e.0, p) ∷ es) (e ∷ insert_entry cmp es k p))) (sym a) (cons is own)
  | equal a ↦ (
      let same : k ≡ e.0 = (bytes_eq-Decides k e.0).0 (sym (is_eq-slice_cmp k e.0) ∙ ap is_eq a) in
      subst (λ (o : Ordering). AreOwn (match_ordering o ((k, p) ∷ e ∷ es) ((e.0, p) ∷ es) (e ∷ insert_entry cmp es k p))) (sym a) (cons (sym same ∙ is) (rest own)))
  | greater a ↦ subst (λ (o : Ordering). AreOwn (match_ordering o ((k, p) ∷ e ∷ es) ((e.0, p) ∷ es) (e ∷ insert_entry cmp es k p))) (sym a) (cons (first own) (own_inserted es k p is (rest own)))
]

-- where a look-up by key has changed at one key, so has that by line
pub changes_line : (old new : Entries) (line : List ℕ) (w : Option Package) → AreOwn old → AreOwn new
    → ((q : List ℕ) → lookup (is_at (cmp q)) new ≡ cond (is_at (cmp line) q) w (lookup (is_at (cmp q)) old))
    → ChangesLine (values_of old) (values_of new) line w
changes_line old new line w own own' h q =
    sym (lookup_line new q own') ∙ (h q ∙ (ap (λ (b : Bool). cond b w (lookup (is_at (cmp q)) old)) (is_eq-slice_cmp line q)
    ∙ ap (cond (bytes_eq line q) w) (lookup_line old q own)))

pub lines_rise : (es : Entries) → HasLines es → IsState (values_of es)
lines_rise es h = subst (λ (ls : List (List ℕ)). IsRising ls) h.own h.rising
