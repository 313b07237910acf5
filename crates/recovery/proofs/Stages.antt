-- The stages of a group by their places, and the disk behind each change of a group's paths.
use Rattle.std.proofs.Common.{◌≡◌, ◌<◌, ◌+◌, ℕ, zero, suc, false, Option, None, refl, subst, List, [], ◌∷◌, ◌++◌, sym, ap, ◌∙◌, inl, inr, arith, length, get_or, drop, add-zero, zero-add, add-one}
use Rattle.std.specs.Prelude.{IsSome}
use Rattle.basics.specs.Members.{Has}
use Rattle.file_tree.specs.Disk.{Disk, write}
use Rattle.file_tree.specs.Paths.{is_below}
use Rattle.file_tree.specs.ObjectValue.{ObjectValue}
use Rattle.merge_core.specs.Recovery.{with_placed, with_removed}
use Rattle.merge_core.proofs.Keeps.{write_reads}
use Rattle.merge_core.proofs.Paths.{file_below}
use Rattle.merge_journal.specs.Names.{stage_path}
use Rattle.file_tree.specs.Fixed.{jobs}
use Rattle.merge_journal.specs.Names.Part.{Stage}
use Rattle.merge_record.specs.declared.record.Placement.{Placement}
use Rattle.merge_journal.proofs.Form.{shift}
use Rattle.recovery.specs.Stages.{stages_from}
use Rattle.recovery.proofs.Places.{journal_apart}

stages_from-push : (g i n : ℕ) → stages_from g i (suc n) ≡ stages_from g i n ++ stage_path g (i + n) ∷ []
stages_from-push g i zero = ap (λ (k : ℕ). stage_path g k ∷ []) (sym (add-zero i))
stages_from-push g i (suc n) =
    ap (λ (l : List (List ℕ)). stage_path g i ∷ l) (stages_from-push g (suc i) n ∙ ap (λ (k : ℕ). stages_from g (suc i) n ++ stage_path g k ∷ []) (shift i n))

-- one more stage
pub stages_more : (g n : ℕ) → stages_from g 0 (n + 1) ≡ stages_from g 0 n ++ stage_path g n ∷ []
stages_more g n = rw add-one (stages_from-push g 0 n ∙ ap (λ (k : ℕ). stages_from g 0 n ++ stage_path g k ∷ []) (zero-add n))

stages_from-at : (g i n k : ℕ) (d : List ℕ) → k < n → get_or (stages_from g i n) k d ≡ stage_path g (i + k)
stages_from-at g i zero k d lt = absurd (omega arith)
stages_from-at g i (suc n) zero d lt = ap (stage_path g) (sym (add-zero i))
stages_from-at g i (suc n) (suc k) d lt = stages_from-at g (suc i) n k d (omega arith) ∙ ap (stage_path g) (shift i k)

pub stage_at : (g n k : ℕ) (d : List ℕ) → k < n → get_or (stages_from g 0 n) k d ≡ stage_path g k
stage_at g n k d lt = stages_from-at g 0 n k d lt ∙ ap (stage_path g) (zero-add k)

-- ---- one more change, and the rest after it

pub removed_step : (i : ℕ) (ps : List (List ℕ)) (p : List ℕ) (d d' : Disk) → i < length ps → p ≡ get_or ps i p → d' ≡ write d p None → with_removed (drop (suc i) ps) d' ≡ with_removed (drop i ps) d
removed_step i [] p d d' lt is wrote = absurd (omega arith)
removed_step zero (x ∷ ps) p d d' lt is wrote = ap (with_removed ps) (wrote ∙ ap (λ (y : List ℕ). write d y None) is)
removed_step (suc i) (x ∷ ps) p d d' lt is wrote = removed_step i ps p d d' (omega arith) is wrote

pub placed_step : (g i : ℕ) (ps : List Placement) (p : Placement) (d d' : Disk) → i < length ps → p ≡ get_or ps i p → d' ≡ write d p.path (d.holds (stage_path g i))
    → with_placed g (suc i) (drop (suc i) ps) d' ≡ with_placed g i (drop i ps) d
placed_step g i ps p d d' lt is wrote = rest ps i lt is where
  rest : (xs : List Placement) (j : ℕ) → j < length xs → p ≡ get_or xs j p → with_placed g (suc i) (drop (suc j) xs) d' ≡ with_placed g i (drop j xs) d
  rest [] j l e = absurd (omega arith)
  rest (x ∷ xs) zero l e = ap (with_placed g (suc i) xs) (wrote ∙ ap (λ (y : Placement). write d y.path (d.holds (stage_path g i))) e)
  rest (x ∷ xs) (suc j) l e = rest xs j (omega arith) e

-- ---- what the changed disk holds

-- a path outside the journal leaves the stages as they are
pub stage_stays : (d : Disk) (p : List ℕ) (x : Option ObjectValue) (g i : ℕ) → is_below jobs p ≡ false → IsSome (d.holds (stage_path g i)) → IsSome ((write d p x).holds (stage_path g i))
stage_stays d p x g i out some =
    subst IsSome (sym (write_reads d p (stage_path g i) x (d.holds (stage_path g i)) (inr ((λ e. journal_apart (stage_path g i) p (file_below g (Stage i)) out (sym e)), refl)))) some

-- removals outside the journal leave the stages as they are
pub removed_stays : (rs : List (List ℕ)) (d : Disk) (g i : ℕ) → ((q : List ℕ) → Has rs q → is_below jobs q ≡ false) → IsSome (d.holds (stage_path g i)) → IsSome ((with_removed rs d).holds (stage_path g i))
removed_stays [] d g i out some = some
removed_stays (p ∷ ps) d g i out some = removed_stays ps (write d p None) g i (λ q has. out q (inr has)) (stage_stays d p None g i (out p (inl refl)) some)
