-- What the runs of a value give.
use denote.Ref.{Bor}
use Rattle.std.proofs.Common.{◌≡◌, ◌∙◌, ◌<◌, ◌==◌, ◌||◌, ℕ, Bool, true, false, not, List, [], ◌∷◌, ◌++◌, Option, Some, None, ap, append-nil, append_assoc, arith, inl, inr, length, refl, subst, sym}
use Rattle.std.specs.Prelude.{MatchOption}
use Rattle.std.specs.List.{flat_map}
use Rattle.std.proofs.lemmas.Bool.{eqb-true, ne_eqb}
use Rattle.std.proofs.lemmas.Bool.Decides.{nat_tests}
use Rattle.std.proofs.lemmas.List.{flat_map_more, length-append}
use Rattle.config_text.specs.AssignFaults.{IsOpen}
use Rattle.config_text.specs.Assignments.{is_solid, part_value}
use Rattle.config_text.specs.Follow.{Follow, Stops}
use Rattle.basics.specs.Blanks.{is_blank}
use Rattle.config_text.specs.Reading.{Begins, BeginsOther, Gives, GivesAll, GivesPart, GivesRun, GivesRuns, IsWhole}
use Rattle.config_text.specs.Stretches.{IsCut}
use Rattle.config_text.specs.Values.{AreRuns, IsPart, Part, Run, Bare, Single, Double, is_in_single, may_stand, spell_part, spell_parts, spell_run, spell_runs}
use Rattle.config_text.specs.declared.stretch.Stretch.TheVariants as stretches
use Rattle.config_text.proofs.Wholes.{clean_whole, skip, whole_stretch}

module _ {A : Type 0} (IsIn : A → List ℕ → Type 0) (spell means : A → List ℕ) where
  pub flat_push : (xs : List A) (x : A) (more : List ℕ) → flat_map spell (xs ++ (x ∷ [])) ++ more ≡ flat_map spell xs ++ (spell x ++ more)
  flat_push [] x more = ap (λ l. l ++ more) (append-nil (spell x))
  flat_push (y ∷ ys) x more =
      append_assoc (spell y) (flat_map spell (ys ++ (x ∷ []))) more
      ∙ (ap (λ l. spell y ++ l) (flat_push ys x more) ∙ sym (append_assoc (spell y) (flat_map spell ys) (spell x ++ more)))

  pub follow_push : (xs : List A) (x : A) (more : List ℕ) → Follow IsIn spell xs (spell x ++ more) → IsIn x more → Follow IsIn spell (xs ++ (x ∷ [])) more
  follow_push [] x more f is = (is, tt)
  follow_push (y ∷ ys) x more f is =
      (subst (IsIn y) (sym (flat_push ys x more)) f.0, follow_push ys x more f.1 is)

  pub gives_none : (text was : List ℕ) → GivesAll IsIn spell means text text was was
  gives_none text was = record { items = []; form = tt; spelled = refl; gives = sym (append-nil was); whole = λ w. w }

  pub gives_more : (text rest more was mid now : List ℕ) → GivesAll IsIn spell means text rest was mid → Gives IsIn spell means rest more mid now → GivesAll IsIn spell means text more was now
  gives_more text rest more was mid now a g =
      record {
        items = a.items ++ (g.item ∷ []);
        form = follow_push a.items g.item more (subst (Follow IsIn spell a.items) g.spelled a.form) g.form;
        spelled = a.spelled ∙ (ap (λ l. flat_map spell a.items ++ l) g.spelled ∙ sym (flat_push a.items g.item more));
        gives = g.gives ∙ (ap (λ l. l ++ means g.item) a.gives ∙ flat_map_more means was a.items g.item);
        whole = λ w. g.whole (a.whole w);
      }

pub nothing_left : (bytes : List ℕ) → true ≡ (length bytes == 0) → bytes ≡ []
nothing_left [] e = refl
nothing_left (b ∷ bytes) e = absurd (omega (arith, eqb-true (length (b ∷ bytes)) 0 (sym e)))

pub some_of : {X : Type 0} (r : Option X) (P : Type 0) (Q : X → Type 0) (x : X) → MatchOption r P Q → r ≡ Some x → Q x
some_of r P Q x h is = subst (λ o. MatchOption o P Q) is h

pub none_of : {X : Type 0} (r : Option X) (P : Type 0) (Q : X → Type 0) → MatchOption r P Q → r ≡ None → P
none_of r P Q h is = subst (λ o. MatchOption o P Q) is h

-- what is left is shorter
pub part_shorter : (quoted : Bool) (named : List ℕ → List ℕ) (text more was now : List ℕ) → GivesPart quoted named text more was now → length more < length text
part_shorter quoted named text more was now g = shorter g.item
  where
    longer : (x : Part) → length more < length (spell_part x ++ more)
    longer (Part.Plain b) = omega arith
    longer (Part.Escaped b) = omega arith
    longer (Part.Named n) = omega (arith, length-append n more)
    longer (Part.Braced n) = omega (arith, length-append (n ++ (125 ∷ [])) more)

    shorter : (x : Part) → length more < length text
    shorter x = subst (λ l. length more < length l) (sym g.spelled) (longer g.item)

pub run_shorter : (named : List ℕ → List ℕ) (text more was now : List ℕ) → GivesRun named text more was now → length more < length text
run_shorter named text more was now g = subst (λ l. length more < length l) (sym g.spelled) (longer g.item)
  where
    longer_part : (x : Part) → length more < length (spell_part x ++ more)
    longer_part (Part.Plain b) = omega arith
    longer_part (Part.Escaped b) = omega arith
    longer_part (Part.Named n) = omega (arith, length-append n more)
    longer_part (Part.Braced n) = omega (arith, length-append (n ++ (125 ∷ [])) more)

    longer : (x : Run) → length more < length (spell_run x ++ more)
    longer (Bare x) = longer_part x
    longer (Single t) = omega (arith, length-append (t ++ (39 ∷ [])) more)
    longer (Double xs) = omega (arith, length-append (spell_parts xs ++ (34 ∷ [])) more)

quote_skip : (value rest : List ℕ) (q : ℕ) → q < 128 → IsWhole value (q ∷ rest) → IsWhole value rest
quote_skip value rest q low w = clean_whole value rest (skip value rest q low w)

in_single : (b : ℕ) → is_in_single b ≡ false → b ≡ 39
in_single b h = grind (arith, nat_tests)

nothing_behind : (rest : List ℕ) → Stops is_in_single rest → BeginsOther 39 rest → rest ≡ []
nothing_behind [] stops other = refl
nothing_behind (b ∷ rest) stops other = absurd (other rest (ap (λ x. x ∷ rest) (in_single b stops)))

pub single_open : (text front rest : List ℕ) → IsCut stretches.Single text front rest → BeginsOther 39 rest → IsOpen (39 ∷ text)
single_open text front rest cut other =
    inl (front, cut.each, ap (λ l. 39 ∷ l) (cut.whole ∙ (ap (λ l. front ++ l) (nothing_behind rest cut.ends other) ∙ append-nil front)))

pub single_run : (named : List ℕ → List ℕ) (text front rest more was now : List ℕ) → IsCut stretches.Single text front rest → rest ≡ 39 ∷ more → now ≡ was ++ front → GivesRun named (39 ∷ text) more was now
single_run named text front rest more was now cut closed put =
    let whole : text ≡ front ++ (39 ∷ more) = cut.whole ∙ ap (λ l. front ++ l) closed in
    record {
      item = Single front;
      form = cut.each;
      spelled = ap (λ l. 39 ∷ l) (whole ∙ sym (append_assoc front (39 ∷ []) more));
      gives = put;
      whole = λ w.
          subst (λ l. IsWhole l more) (sym put)
          (quote_skip (was ++ front) more 39 (omega arith) (whole_stretch was (39 ∷ more) front (subst (IsWhole was) whole (quote_skip was text 39 (omega arith) w))));
    }

pub double_open : (named : List ℕ → List ℕ) (text rest was now : List ℕ) → GivesAll (IsPart true) spell_part (part_value named) text rest was now → rest ≡ [] → IsOpen (34 ∷ text)
double_open named text rest was now a end =
    inr (a.items, subst (Follow (IsPart true) spell_part a.items) end a.form, ap (λ l. 34 ∷ l) (a.spelled ∙ (ap (λ l. spell_parts a.items ++ l) end ∙ append-nil (spell_parts a.items))))

pub double_run : (named : List ℕ → List ℕ) (text rest more was now : List ℕ) → GivesAll (IsPart true) spell_part (part_value named) text rest was now → rest ≡ 34 ∷ more → GivesRun named (34 ∷ text) more was now
double_run named text rest more was now a closed =
    record {
      item = Double a.items;
      form = subst (Follow (IsPart true) spell_part a.items) closed a.form;
      spelled = ap (λ l. 34 ∷ l) (a.spelled ∙ (ap (λ l. spell_parts a.items ++ l) closed ∙ sym (append_assoc (spell_parts a.items) (34 ∷ []) more)));
      gives = a.gives;
      whole = λ w. quote_skip now more 34 (omega arith) (subst (IsWhole now) closed (a.whole (quote_skip was text 34 (omega arith) w)));
    }

-- the first byte may stand in double quotes where it is none
pub quoted_begins : (rest : List ℕ) → (rest ≡ [] → ⊥) → BeginsOther 34 rest → Begins (may_stand true) rest
quoted_begins [] some other = absurd (some refl)
quoted_begins (b ∷ rest) some other = not_quote
  where
    not_quote : not (b == 34) ≡ true
    not_quote = ap not (ne_eqb b 34 (λ e. other rest (ap (λ x. x ∷ rest) e)))

pub bare_begins : (text : List ℕ) → Begins is_solid text → BeginsOther 39 text → BeginsOther 34 text → Begins (may_stand false) text
bare_begins [] begins no_single no_double = begins
bare_begins (b ∷ rest) begins no_single no_double = bare (is_blank b) (b == 34) (b == 39) begins (ne_eqb b 34 (λ e. no_double rest (ap (λ x. x ∷ rest) e))) (ne_eqb b 39 (λ e. no_single rest (ap (λ x. x ∷ rest) e)))
  where
    bare : (w d s : Bool) → not w ≡ true → d ≡ false → s ≡ false → not (w || (d || s)) ≡ true
    bare true d s e f g = e
    bare false true s e f g = absurd (cc f)
    bare false false true e f g = absurd (cc g)
    bare false false false e f g = refl

pub bare_run : (named : List ℕ → List ℕ) (text more was now : List ℕ) → GivesPart false named text more was now → GivesRun named text more was now
bare_run named text more was now g = record { item = Bare g.item; form = g.form; spelled = g.spelled; gives = g.gives; whole = g.whole }

abbrev pub ReadsRun : (List ℕ → List ℕ) → List ℕ → List ℕ → List ℕ → Option (Bor (List ℕ)) → Type 0
ReadsRun named text was now r = MatchOption r (IsOpen text) (λ more. GivesRun named text more.now was now)

pub single_run_at : (named : List ℕ → List ℕ) (text inner was now : List ℕ) (r : Option (Bor (List ℕ))) → text ≡ 39 ∷ inner → MatchOption r (IsOpen (39 ∷ inner)) (λ more. (any : List ℕ → List ℕ) → GivesRun any (39 ∷ inner) more.now was now) → ReadsRun named text was now r
single_run_at named text inner was now None is h = subst IsOpen (sym is) h
single_run_at named text inner was now (Some more) is h = subst (λ l. GivesRun named l more.now was now) (sym is) (h named)

pub double_run_at : (named : List ℕ → List ℕ) (text inner was now : List ℕ) (r : Option (Bor (List ℕ))) → text ≡ 34 ∷ inner → ReadsRun named (34 ∷ inner) was now r → ReadsRun named text was now r
double_run_at named text inner was now r is h = subst (λ l. ReadsRun named l was now r) (sym is) h

pub open_value : (named : List ℕ → List ℕ) (text rest was now : List ℕ) → GivesRuns named text rest was now → IsOpen rest → (runs : List Run) × AreRuns runs rest × (text ≡ spell_runs runs ++ rest) × IsOpen rest
open_value named text rest was now a o = (a.items, a.form, a.spelled, o)
