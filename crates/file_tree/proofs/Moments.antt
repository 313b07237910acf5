-- How what a crash may leave goes on from call to call.
use Rattle.std.proofs.Common.{◌≡◌, ℕ, List, [], ◌∷◌, ◌++◌, Option, ap, sym, ◌∙◌, subst, refl, append_assoc, append-nil, inl, inr}
use Rattle.file_tree.specs.ObjectValue.{ObjectValue}
use Rattle.file_tree.specs.Disk.{Map, Disk, Story, IsImage, Moves, Syncs, next, settled, write}
use Rattle.file_tree.specs.Moments.{EachLeaves, Leaves, Since}

each-append : (P : Map → Type 0) (xs ys : List Disk) → EachLeaves P xs → EachLeaves P ys → EachLeaves P (xs ++ ys)
each-append P [] ys a b = b
each-append P (x ∷ xs) ys a b = (a.0, each-append P xs ys a.1 b)

each-weaker : (P Q : Map → Type 0) → ((c : Map) → P c → Q c) → (xs : List Disk) → EachLeaves P xs → EachLeaves Q xs
each-weaker P Q f [] a = tt
each-weaker P Q f (x ∷ xs) a = (λ c i. f c (a.0 c i), each-weaker P Q f xs a.1)

-- at the beginning the one moment is now
pub since_start : (P : Map → Type 0) (s : Story) → Leaves P s.now → Since P s s
since_start P s h = record { between = []; grows = sym (append-nil s.past); each = tt; now = h }

-- one more disk
pub since_next : (P : Map → Type 0) (old mid : Story) (d : Disk) → Since P old mid → Leaves P d → Since P old (next mid d)
since_next P old mid d s h = record {
  between = s.between ++ mid.now ∷ [];
  grows = ap (λ (l : List Disk). l ++ mid.now ∷ []) s.grows ∙ append_assoc old.past s.between (mid.now ∷ []);
  each = each-append P s.between (mid.now ∷ []) s.each (s.now, tt);
  now = h;
}

-- a call that changed nothing
pub since_same : (P : Map → Type 0) (old mid new : Story) → Since P old mid → new ≡ mid → Since P old new
since_same P old mid new s e = subst (λ (t : Story). Since P old t) (sym e) s

pub since_moves : (P : Map → Type 0) (old mid new : Story) (p : List ℕ) → Since P old mid → ((x : Option ObjectValue) → Leaves P (write mid.now p x)) → Moves mid p new → Since P old new
since_moves P old mid new p s h (inl e) = since_same P old mid new s e
since_moves P old mid new p s h (inr (x, e)) = since_same P old (next mid (write mid.now p x)) new (since_next P old mid (write mid.now p x) s (h x)) e

pub since_syncs : (P : Map → Type 0) (old mid new : Story) → Since P old mid → Leaves P (settled mid.now) → Syncs mid new → Since P old new
since_syncs P old mid new s h (inl e) = since_same P old mid new s e
since_syncs P old mid new s h (inr e) = since_same P old (next mid (settled mid.now)) new (since_next P old mid (settled mid.now) s h) e

-- one stretch of moments after another
pub since_then : (P : Map → Type 0) (old mid new : Story) → Since P old mid → Since P mid new → Since P old new
since_then P old mid new a b = record {
  between = a.between ++ b.between;
  grows = b.grows ∙ (ap (λ (l : List Disk). l ++ b.between) a.grows ∙ append_assoc old.past a.between b.between);
  each = each-append P a.between b.between a.each b.each;
  now = b.now;
}

pub since_weaker : (P Q : Map → Type 0) → ((c : Map) → P c → Q c) → (old new : Story) → Since P old new → Since Q old new
since_weaker P Q f old new s = record {
  between = s.between;
  grows = s.grows;
  each = each-weaker P Q f s.between s.each;
  now = λ c i. f c (s.now c i);
}

-- a disk as it reads is one of its images
pub image_as_read : (d : Disk) → IsImage d d.holds
image_as_read d q e = refl

-- A run of calls in one phase Q, each image of which has P: the phase has to survive anything that is written at the
-- paths which the calls are asked to change, and a sync. No call's answer is looked at.
pub record Runs (Q : Disk → Type 0) (P : Map → Type 0) (old new : Story) : Type 0 where
  pub since : Since P old new
  pub phase : Q new.now

pub runs_start : (Q : Disk → Type 0) (P : Map → Type 0) → ((d : Disk) → Q d → Leaves P d) → (s : Story) → Q s.now → Runs Q P s s
runs_start Q P leaves s q = record { since = since_start P s (leaves s.now q); phase = q }

pub runs_same : (Q : Disk → Type 0) (P : Map → Type 0) (old mid new : Story) → Runs Q P old mid → new ≡ mid → Runs Q P old new
runs_same Q P old mid new r e = subst (λ (t : Story). Runs Q P old t) (sym e) r

pub runs_move : (Q : Disk → Type 0) (P : Map → Type 0) → ((d : Disk) → Q d → Leaves P d) → (old mid new : Story) (p : List ℕ)
    → ((d : Disk) (x : Option ObjectValue) → Q d → Q (write d p x)) → Runs Q P old mid → Moves mid p new → Runs Q P old new
runs_move Q P leaves old mid new p keep r (inl e) = runs_same Q P old mid new r e
runs_move Q P leaves old mid new p keep r (inr (x, e)) =
    let q = keep mid.now x r.phase in
    let r' : Runs Q P old (next mid (write mid.now p x)) = record { since = since_next P old mid (write mid.now p x) r.since (leaves (write mid.now p x) q); phase = q } in
    runs_same Q P old (next mid (write mid.now p x)) new r' e

pub runs_sync : (Q : Disk → Type 0) (P : Map → Type 0) → ((d : Disk) → Q d → Leaves P d) → (old mid new : Story)
    → ((d : Disk) → Q d → Q (settled d)) → Runs Q P old mid → Syncs mid new → Runs Q P old new
runs_sync Q P leaves old mid new keep r (inl e) = runs_same Q P old mid new r e
runs_sync Q P leaves old mid new keep r (inr e) =
    let q = keep mid.now r.phase in
    let r' : Runs Q P old (next mid (settled mid.now)) = record { since = since_next P old mid (settled mid.now) r.since (leaves (settled mid.now) q); phase = q } in
    runs_same Q P old (next mid (settled mid.now)) new r' e
