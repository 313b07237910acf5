-- One more change in the record is one more state in the story.
use Rattle.std.specs.Prelude.{bytes_eq, reverse}
use Rattle.std.proofs.Common.{◌≡◌, ◌∙◌, ℕ, Bool, true, false, cond, List, [], ◌∷◌, ◌++◌, Option, sym, refl, ap}
use Rattle.std.proofs.lemmas.List.{reverse-append}
use Rattle.basics.proofs.Texts.{same_text}
use Rattle.file_tree.specs.ObjectValue.{ObjectValue}
use Rattle.file_tree.specs.Disk.{Map, Disk, Story, next, settled, with_path, write}
use Rattle.tree_mem.specs.declared.record.Change.{Change}
use Rattle.tree_mem.specs.declared.record.Change.TheVariants.{Wrote, Touched}
use Rattle.tree_mem.specs.Items.{Item, held}
use Rattle.tree_mem.specs.Record.{disk_of, earlier, is_among, story_of, undo}
use Rattle.tree_mem.proofs.Held.{cond-twice}

reverse-push : (cs : List Change) (c : Change) → reverse (cs ++ c ∷ []) ≡ c ∷ reverse cs
reverse-push cs c = reverse-append cs (c ∷ [])

-- a change that undoes to the state before it
pub story_of-push : (old new : Disk) (cs : List Change) (c : Change) → undo c new ≡ old → story_of new (cs ++ c ∷ []) ≡ next (story_of old cs) new
story_of-push old new cs c h =
    ap (λ (past : List Disk). let s : Story = record { past = past; now = new } in s)
    (ap (λ (xs : List Change). earlier xs new) (reverse-push cs c)
    ∙ ap (λ (d : Disk). earlier (reverse cs) d ++ d ∷ []) h)

-- a function that is given its own value at one point
stays : {A : Type 0} (f : List ℕ → A) (p q : List ℕ) → cond (bytes_eq p q) (f p) (f q) ≡ f q
stays f p q = go (bytes_eq p q) refl
  where
    go : (b : Bool) → bytes_eq p q ≡ b → cond b (f p) (f q) ≡ f q
    go true e = ap f (same_text p q e)
    go false e = refl

-- the value of a function at one point, put back
put_back : {A : Type 0} (f : List ℕ → A) (p q : List ℕ) (x : A) → cond (bytes_eq p q) (f p) (cond (bytes_eq p q) x (f q)) ≡ f q
put_back f p q x = cond-twice (bytes_eq p q) (f p) x (f q) ∙ stays f p q

disk-equal : {h k : Map} {t u : List ℕ → Bool} → h ≡ k → t ≡ u → (let d : Disk = record { holds = h; touched = t } in d) ≡ record { holds = k; touched = u }
disk-equal a b = λ i. record { holds = a i; touched = b i }

-- one more touched path
noted : (old new : List (List ℕ)) (p : List ℕ) → ((q : List ℕ) → is_among new q ≡ cond (bytes_eq p q) true (is_among old q)) → is_among new ≡ (λ q. cond (bytes_eq p q) true (is_among old q))
noted old new p h = λ i q. h q i

pub story_of-wrote :
    (es fs : List Item) (old new : List (List ℕ)) (cs : List Change) (p : List ℕ) (x before : Option ObjectValue) (was : Bool)
    → held fs ≡ with_path (held es) p x
    → ((q : List ℕ) → is_among new q ≡ cond (bytes_eq p q) true (is_among old q))
    → before ≡ held es p
    → was ≡ is_among old p
    → story_of (disk_of fs new) (cs ++ Wrote p before was ∷ []) ≡ next (story_of (disk_of es old) cs) (write (disk_of es old) p x)
story_of-wrote es fs old new cs p x before was h t b w =
    let now : disk_of fs new ≡ write (disk_of es old) p x = disk-equal h (noted old new p t) in
    ap (λ (d : Disk). story_of d (cs ++ Wrote p before was ∷ [])) now
    ∙ story_of-push (disk_of es old) (write (disk_of es old) p x) cs (Wrote p before was)
    (disk-equal
    (λ i q. (ap (λ (y : Option ObjectValue). cond (bytes_eq p q) y (cond (bytes_eq p q) x (held es q))) b ∙ put_back (held es) p q x) i)
    (λ i q. (ap (λ (y : Bool). cond (bytes_eq p q) y (cond (bytes_eq p q) true (is_among old q))) w ∙ put_back (is_among old) p q true) i))

pub story_of-touched :
    (es : List Item) (old new : List (List ℕ)) (cs : List Change) (p : List ℕ) (was : Bool)
    → ((q : List ℕ) → is_among new q ≡ cond (bytes_eq p q) true (is_among old q))
    → was ≡ is_among old p
    → story_of (disk_of es new) (cs ++ Touched p was ∷ []) ≡ next (story_of (disk_of es old) cs) (write (disk_of es old) p (held es p))
story_of-touched es old new cs p was t w =
    let same : held es ≡ with_path (held es) p (held es p) = λ i q. sym (stays (held es) p q) i in
    let now : disk_of es new ≡ write (disk_of es old) p (held es p) = disk-equal same (noted old new p t) in
    ap (λ (d : Disk). story_of d (cs ++ Touched p was ∷ [])) now
    ∙ story_of-push (disk_of es old) (write (disk_of es old) p (held es p)) cs (Touched p was)
    (disk-equal
    (λ i q. stays (held es) p q i)
    (λ i q. (ap (λ (y : Bool). cond (bytes_eq p q) y (cond (bytes_eq p q) true (is_among old q))) w ∙ put_back (is_among old) p q true) i))

pub story_of-synced : (es : List Item) (old : List (List ℕ)) (cs : List Change) (new : List (List ℕ)) (c : Change) → undo c (settled (disk_of es old)) ≡ disk_of es old → new ≡ [] → story_of (disk_of es new) (cs ++ c ∷ []) ≡ next (story_of (disk_of es old) cs) (settled (disk_of es old))
story_of-synced es old cs new c u e =
    ap (λ (names : List (List ℕ)). story_of (disk_of es names) (cs ++ c ∷ [])) e ∙ story_of-push (disk_of es old) (settled (disk_of es old)) cs c u
