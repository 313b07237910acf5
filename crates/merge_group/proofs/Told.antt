-- The line of a group that is done.
use Rattle.std.proofs.Common.{◌≡◌, ◌<◌, ◌++◌, ◌∙◌, ℕ, zero, suc, Bool, true, false, List, [], ◌∷◌, Some, refl, sym, ap, subst, length, take, append-nil, append_assoc, inl, inr, ◌⊎◌, arith}
use Rattle.std.specs.List.{flat_map}
use Rattle.std.specs.Prelude.{slice_get, ⊤}
use Rattle.std.proofs.lemmas.Grind.{flat_map-append}
use Rattle.std.proofs.lemmas.List.{length-append}
use Rattle.merge_core.specs.Event.{Acknowledge, answered}
use Rattle.merge_core.specs.CoreValue.{machine_of}
use Rattle.merge_core.specs.Payloads.{IsAt}
use Rattle.merge_core.specs.Roll.{Machine, Standing}
use Rattle.merge_core.specs.declared.phase.Phase.TheVariants as phases
use Rattle.merge_core.proofs.Standings.{set_here}
use Rattle.merge_site.specs.Site.{SiteValue, Adds, Writes}
use Rattle.merge_site.specs.declared.group.SiteGroup.{SiteGroup}
use Rattle.merge_group.specs.Lines.{AreLines, line_in, line_or_none}
use Rattle.file_tree.specs.Output.{Wrote}
use Rattle.merge_group.specs.Working.{is_shut, standing_at}
use Rattle.merge_group.proofs.Worked.{at_after}

group_there : (xs : List SiteGroup) (g : ℕ) → g < length xs → (x : SiteGroup) × (slice_get xs g ≡ Some x)
group_there [] g lt = absurd (omega (arith, lt))
group_there (x ∷ xs) zero lt = (x, refl)
group_there (x ∷ xs) (suc g) lt = group_there xs g (omega (arith, lt))

pub whole_written : (xs : List SiteGroup) (g : ℕ) (old new : List ℕ) → g < length xs → Writes xs g true old new → new ≡ old ++ line_in xs g
whole_written xs g old new lt writes =
    let k = group_there xs g lt in
    writes.whole refl k.0 k.1 ∙ ap (λ x. old ++ line_or_none x) (sym k.1)

pub part_written : (xs : List SiteGroup) (g : ℕ) (ok : Bool) (old new : List ℕ) → g < length xs → Writes xs g ok old new → (n : ℕ) × (new ≡ old ++ take n (line_in xs g))
part_written xs g ok old new lt writes =
    let k = group_there xs g lt in
    let p = writes.part k.0 k.1 in
    (p.0, p.1 ∙ ap (λ x. old ++ take p.0 (line_or_none x)) (sym k.1))

pub told_at : {T S : Type 0} (old new : SiteValue T S) (g : ℕ) → IsAt old.keeping g phases.Done → Adds old new (Acknowledge g) true → IsAt new.keeping g phases.Told
told_at old new g at adds = at_after old new g (Acknowledge g) phases.Told _ adds at.running refl (set_here (machine_of old.keeping).roll g _) refl

told_answered : (m : Machine) (g : ℕ) (ok : Bool) → is_shut (m.roll.standing g).phase ≡ true → is_shut ((answered m (Acknowledge g) ok).roll.standing g).phase ≡ true
told_answered m g true shut = ap (λ (s : Standing). is_shut s.phase) (set_here m.roll g _)
told_answered m g false shut = shut

pub told_shut : {T S : Type 0} (old new : SiteValue T S) (g : ℕ) (ok : Bool) → IsAt old.keeping g phases.Done → Adds old new (Acknowledge g) ok → is_shut (standing_at new g).phase ≡ true
told_shut old new g ok at adds = ap (λ (m : Machine). is_shut (m.roll.standing g).phase) adds.machine ∙ told_answered (machine_of old.keeping) g ok (ap is_shut at.phase)

-- where nothing was told nothing was written
pub lines_none : (failed : Type 0) (line : ℕ → List ℕ) (history acknowledged : List ℕ) → acknowledged ≡ [] → AreLines failed line history acknowledged []
lines_none failed line history acknowledged none = subst (λ (a : List ℕ). AreLines failed line history a []) (sym none) (record { rest = history; order = refl; cut = []; begun = (0, refl); uncut = inl refl; whole = refl })

-- what was written has the same lines where the output may have failed for more
pub wrote_anyhow : (failed failed' : Type 0) (line : ℕ → List ℕ) (history acknowledged old new : List ℕ) → (failed → failed') → Wrote (AreLines failed line history acknowledged) old new → Wrote (AreLines failed' line history acknowledged) old new
wrote_anyhow failed failed' line history acknowledged old new more (text, are, e) =
    (text, record { rest = are.rest; order = are.order; cut = are.cut; begun = are.begun; uncut = elim are.uncut [ inl none ↦ inl none | inr f ↦ inr (more f) ]; whole = are.whole }, e)

take_zero : (xs : List ℕ) → take 0 xs ≡ []
take_zero [] = refl
take_zero (x ∷ xs) = refl

pub take_none : (n : ℕ) → take {A = ℕ} n [] ≡ []
take_none zero = refl
take_none (suc n) = refl

pub none_of : {A : Type 0} (xs : List A) → length xs ≡ 0 → xs ≡ []
none_of [] e = refl
none_of (x ∷ xs) e = absurd (omega (arith, e))

nothing_behind : (xs ys : List ℕ) → xs ≡ xs ++ ys → ys ≡ []
nothing_behind xs ys is = none_of ys (let n = ap length is ∙ length-append xs ys in omega (arith, n))

-- where all groups are acknowledged, just their lines were written
lines_all : (failed : Type 0) (line : ℕ → List ℕ) (history text : List ℕ) → AreLines failed line history history text → text ≡ flat_map line history
lines_all failed line history text lines =
    let none = nothing_behind history lines.rest lines.order in
    lines.whole
    ∙ (ap (λ (l : List ℕ). flat_map line history ++ l) (lines.begun.1 ∙ (ap (λ (l : List ℕ). take lines.begun.0 (flat_map line l)) none ∙ take_none lines.begun.0)) ∙ append-nil (flat_map line history))

-- just their lines
lines_just : (failed : Type 0) (line : ℕ → List ℕ) (history text : List ℕ) → text ≡ flat_map line history → AreLines failed line history history text
lines_just failed line history text is = record {
  rest = [];
  order = sym (append-nil history);
  cut = [];
  begun = (0, refl);
  uncut = inl refl;
  whole = is ∙ sym (append-nil (flat_map line history));
}

-- some groups more, of whose lines a beginning was written
lines_on : (failed : Type 0) (line : ℕ → List ℕ) (history more text new : List ℕ) (n : ℕ) → (take n (flat_map line more) ≡ []) ⊎ failed → new ≡ history ++ more → text ≡ flat_map line history → AreLines failed line new history (text ++ take n (flat_map line more))
lines_on failed line history more text new n uncut is all = record {
  rest = more;
  order = is;
  cut = take n (flat_map line more);
  begun = (n, refl);
  uncut = uncut;
  whole = ap (λ (l : List ℕ). l ++ take n (flat_map line more)) all;
}

one_line : (line : ℕ → List ℕ) (g : ℕ) → flat_map line (g ∷ []) ≡ line g
one_line line g = append-nil (line g)

module _ (failed : Type 0) (line : ℕ → List ℕ) (g : ℕ) (history acknowledged start old new : List ℕ) (told : acknowledged ≡ history) (wrote : Wrote (AreLines ⊤ line history acknowledged) start old) where
  all_now : wrote.0 ≡ flat_map line history
  all_now = lines_all ⊤ line history wrote.0 (subst (λ (l : List ℕ). AreLines ⊤ line history l wrote.0) told wrote.1)

  -- nothing was written, whether the group is in the tree or not
  pub wrote_none : (history' acknowledged' : List ℕ) → (history' ≡ history) ⊎ (history' ≡ history ++ g ∷ []) → acknowledged' ≡ acknowledged → new ≡ old → Wrote (AreLines failed line history' acknowledged') start new
  wrote_none history' acknowledged' (inl same) untold is =
      (wrote.0, subst (λ (l : List ℕ). AreLines failed line l acknowledged' wrote.0) (sym same) (subst (λ (l : List ℕ). AreLines failed line history l wrote.0) (sym (untold ∙ told)) (lines_just failed line history wrote.0 all_now)), is ∙ wrote.2)
  wrote_none history' acknowledged' (inr more) untold is = (
    wrote.0 ++ take 0 (flat_map line (g ∷ [])),
    subst (λ (l : List ℕ). AreLines failed line history' l (wrote.0 ++ take 0 (flat_map line (g ∷ [])))) (sym (untold ∙ told)) (lines_on failed line history (g ∷ []) wrote.0 history' 0 (inl (take_zero (flat_map line (g ∷ [])))) more all_now),
    is ∙ (wrote.2 ∙ ap (λ (l : List ℕ). start ++ l) (sym (ap (λ (l : List ℕ). wrote.0 ++ l) (take_zero (flat_map line (g ∷ []))) ∙ append-nil wrote.0))),
  )

  -- a beginning of the line of a group that is in the tree, since the output failed
  pub wrote_part : failed → (history' acknowledged' : List ℕ) (n : ℕ) → history' ≡ history ++ g ∷ [] → acknowledged' ≡ acknowledged → new ≡ old ++ take n (line g) → Wrote (AreLines failed line history' acknowledged') start new
  wrote_part fails history' acknowledged' n more untold is = (
    wrote.0 ++ take n (flat_map line (g ∷ [])),
    subst (λ (l : List ℕ). AreLines failed line history' l (wrote.0 ++ take n (flat_map line (g ∷ [])))) (sym (untold ∙ told)) (lines_on failed line history (g ∷ []) wrote.0 history' n (inr fails) more all_now),
    is
        ∙ (ap (λ (l : List ℕ). l ++ take n (line g)) wrote.2
        ∙ (append_assoc start wrote.0 (take n (line g)) ∙ ap (λ (l : List ℕ). start ++ (wrote.0 ++ take n l)) (sym (one_line line g)))),
  )

  -- its whole line
  pub wrote_whole : (history' acknowledged' : List ℕ) → history' ≡ history ++ g ∷ [] → acknowledged' ≡ acknowledged ++ g ∷ [] → new ≡ old ++ line g → Wrote (AreLines failed line history' acknowledged') start new
  wrote_whole history' acknowledged' more all is =
      let both : acknowledged' ≡ history' = all ∙ (ap (λ (l : List ℕ). l ++ g ∷ []) told ∙ sym more) in (
        wrote.0 ++ line g,
        subst (λ (l : List ℕ). AreLines failed line history' l (wrote.0 ++ line g)) (sym both) (lines_just failed line history' (wrote.0 ++ line g)
            (ap (λ (l : List ℕ). l ++ line g) all_now
            ∙ (ap (λ (l : List ℕ). flat_map line history ++ l) (sym (one_line line g)) ∙ (sym (flat_map-append line history (g ∷ [])) ∙ ap (flat_map line) (sym more))))),
        is ∙ (ap (λ (l : List ℕ). l ++ line g) wrote.2 ∙ append_assoc start wrote.0 (line g)),
      )
