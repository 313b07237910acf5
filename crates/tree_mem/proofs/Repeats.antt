-- A list of items that is gone through, and the first path that stands in it a second time.
use Rattle.std.specs.Prelude.{bytes_eq, IsSome, Contains}
use Rattle.std.proofs.Common.{◌≡◌, ◌∙◌, ◌⊎◌, ℕ, ◌<◌, suc, Bool, true, false, cond, List, [], ◌∷◌, ◌++◌, Option, Some, None, length, take, drop, get_or, inl, inr, sym, refl, ap, subst}
use Rattle.std.proofs.lemmas.List.{length_push, take_more}
use Rattle.std.proofs.Math.Seq.{split_at}
use Rattle.basics.specs.Members.{AreDistinct, Has}
use Rattle.file_tree.specs.Disk.{with_path}
use Rattle.file_tree.specs.ObjectValue.{ObjectValue}
use Rattle.tree_mem.specs.declared.fault.MemFault.{MemFault}
use Rattle.tree_mem.specs.declared.fault.MemFault.TheVariants.{Twice, Memory}
use Rattle.tree_mem.specs.Fault.{IsFaultAt, IsMemFault}
use Rattle.tree_mem.specs.Items.{Item, held, paths}
use Rattle.tree_mem.proofs.Held.{cond-swap}
use Rattle.basics.proofs.Texts.{bytes_eq-same, same_text}
use Rattle.basics.proofs.Membership.{contains-from_has, distinct-push}

pub paths-append : (xs ys : List Item) → paths (xs ++ ys) ≡ paths xs ++ paths ys
paths-append [] ys = refl
paths-append (x ∷ xs) ys = ap (λ (ns : List (List ℕ)). x.0 ∷ ns) (paths-append xs ys)

held-of_has : (es : List Item) (p : List ℕ) → Has (paths es) p → IsSome (held es p)
held-of_has [] p h = absurd h
held-of_has (e ∷ es) p (inl same) = subst (λ (b : Bool). IsSome (cond b (Some e.1) (held es p))) (sym (subst (λ (y : List ℕ). bytes_eq e.0 y ≡ true) same (bytes_eq-same e.0))) refl
held-of_has (e ∷ es) p (inr h) = go (bytes_eq e.0 p) (held-of_has es p h)
  where
    go : (b : Bool) → IsSome (held es p) → IsSome (cond b (Some e.1) (held es p))
    go true s = refl
    go false s = s

has-of_held : (es : List Item) (p : List ℕ) → IsSome (held es p) → Has (paths es) p
has-of_held [] p s = cc
has-of_held (e ∷ es) p s = go (bytes_eq e.0 p) refl s (has-of_held es p)
  where
    go : (b : Bool) → bytes_eq e.0 p ≡ b → IsSome (cond b (Some e.1) (held es p)) → (IsSome (held es p) → Has (paths es) p) → (e.0 ≡ p) ⊎ Has (paths es) p
    go true eq s rec = inl (same_text e.0 p eq)
    go false eq s rec = inr (rec s)

pub distinct-item : (done : List Item) (e : Item) → AreDistinct (paths done) → held done e.0 ≡ None → AreDistinct (paths (done ++ e ∷ []))
distinct-item done e d none =
    subst AreDistinct (sym (paths-append done (e ∷ []))) (distinct-push (paths done) e.0 d (λ h. let s = held-of_has done e.0 h in let t : false ≡ true = subst (λ (o : Option ObjectValue). IsSome o) none s in cc))

pub held-item : (done : List Item) (e : Item) → held done e.0 ≡ None → held (done ++ e ∷ []) ≡ with_path (held done) e.0 (Some e.1)
held-item done e none = λ i q. at done q none i
  where
    at : (done : List Item) (q : List ℕ) → held done e.0 ≡ None → held (done ++ e ∷ []) q ≡ cond (bytes_eq e.0 q) (Some e.1) (held done q)
    at [] q none = refl
    at (d ∷ done) q none = go (bytes_eq d.0 e.0) refl none (at done q)
      where
        go : (b : Bool) → bytes_eq d.0 e.0 ≡ b → cond b (Some d.1) (held done e.0) ≡ None
            → (held done e.0 ≡ None → held (done ++ e ∷ []) q ≡ cond (bytes_eq e.0 q) (Some e.1) (held done q))
            → cond (bytes_eq d.0 q) (Some d.1) (held (done ++ e ∷ []) q) ≡ cond (bytes_eq e.0 q) (Some e.1) (cond (bytes_eq d.0 q) (Some d.1) (held done q))
        go true h none rec = cc
        go false h none rec =
            ap (cond (bytes_eq d.0 q) (Some d.1)) (rec none)
            ∙ cond-swap (bytes_eq d.0 q) (bytes_eq e.0 q) (Some d.1) (Some e.1) (held done q)
            (λ a b. let same : d.0 ≡ e.0 = same_text d.0 q a ∙ sym (same_text e.0 q b) in
            let t : bytes_eq d.0 e.0 ≡ true = subst (λ (y : List ℕ). bytes_eq d.0 y ≡ true) same (bytes_eq-same d.0) in cc)

pub front-item : (all done : List Item) (e : Item) → done ≡ take (length done) all → length done < length all → e ≡ get_or all (length done) e → done ++ e ∷ [] ≡ take (length (done ++ e ∷ [])) all
front-item all done e front lt at =
    sym (ap (λ (n : ℕ). take n all) (length_push done e)
    ∙ take_more all (length done) e lt
    ∙ ap (λ (x : Item). take (length done) all ++ x ∷ []) (sym at)
    ∙ ap (λ (xs : List Item). xs ++ e ∷ []) (sym front))

-- the fault of the next item is the fault of the list
pub fault-next : (all done kept : List Item) (e : Item) (f : MemFault) → held kept ≡ held done → AreDistinct (paths done) → done ≡ take (length done) all → length done < length all → e ≡ get_or all (length done) e → IsFaultAt kept e.0 f → IsMemFault (paths all) f
fault-next all done kept e Memory same d front lt at h = tt
fault-next all done kept e (Twice q) same d front lt at h =
    let rest = drop (suc (length done)) all in
    let whole : all ≡ done ++ e ∷ rest = split_at all (length done) e lt
    ∙ ap (λ (x : Item). take (length done) all ++ x ∷ rest) (sym at)
    ∙ ap (λ (xs : List Item). xs ++ e ∷ rest) (sym front) in
    let some : IsSome (held done e.0) = subst (λ (m : List ℕ → Option ObjectValue). IsSome (m e.0)) same h.1 in
    record {
      before = paths done;
      behind = paths rest;
      parts = ap paths whole ∙ paths-append done (e ∷ rest) ∙ ap (λ (p : List ℕ). paths done ++ p ∷ paths rest) (sym h.0);
      distinct = d;
      repeated = subst (Contains (paths done)) (sym h.0) (contains-from_has (paths done) e.0 (has-of_held done e.0 some));
    }
