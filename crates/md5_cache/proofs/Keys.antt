-- Keys that come a second time.
use denote.Ref.{Bor}
use Rattle.std.proofs.Common.{◌≡◌, ◌∙◌, ◌+◌, ◌<◌, ℕ, suc, Bool, true, false, cond, List, [], ◌∷◌, ◌++◌, Option, Some, length, take, drop, get_or, ap, inl, inr, refl, subst, sym}
use Rattle.std.specs.Prelude.{IsTrue, bytes_eq, is_some}
use Rattle.std.specs.BTreeMap.{BTreeMap, get_by}
use Rattle.std.specs.Cmp.Lexicographic.{slice_cmp}
use Rattle.std.specs.Ordering.{nat_cmp}
use Rattle.std.proofs.lemmas.Bool.{cases_Bool, false≢true}
use Rattle.std.proofs.lemmas.List.{map-append, take_more, take-append-drop}
use Rattle.std.proofs.Math.Seq.{drop-cons}
use Rattle.std.proofs.lemmas.Slice.Eq.{bytes_eq-Decides}
use Rattle.basics.specs.Members.{AreDistinct, Has}
use Rattle.basics.proofs.Membership.{distinct-apart, distinct-push, has-append_cases, has-append_left, has-append_right}
use Rattle.md5_cache.specs.PairFaults.{IsFirstRepeated}
use Rattle.md5_cache.specs.Pairs.{keys_of}
use Rattle.md5_cache.specs.declared.pair.Pair.{Pair}
use Rattle.md5_cache.specs.Seen.{HasSeen, has_seen}

abbrev pub Seen : Type 0
Seen = BTreeMap (Bor (List ℕ)) (Unit {0})

abbrev pub found : Seen → List ℕ → Option (Unit {0})
found seen q = get_by (λ k. slice_cmp nat_cmp q k.now) seen

some_of : (b : Bool) (x : Unit {0}) (o : Option (Unit {0})) → b ≡ true → is_some (cond b (Some x) o) ≡ true
some_of true x o e = refl
some_of false x o e = absurd (cc e)

others : (b : Bool) (x : Unit {0}) (o : Option (Unit {0})) → b ≡ false → is_some (cond b (Some x) o) ≡ is_some o
others true x o e = absurd (cc e)
others false x o e = refl

module _ (old new : Seen) (key : List ℕ) (place : Unit {0}) (after : (q : List ℕ) → found new q ≡ cond (bytes_eq key q) (Some place) (found old q)) (keys : List (List ℕ)) (h : HasSeen old keys) where
  to_list : (q : List ℕ) → IsTrue (has_seen new q) → Has (keys ++ (key ∷ [])) q
  to_list q t = elim (cases_Bool (bytes_eq key q)) [
    | inl e ↦ has-append_right keys (key ∷ []) q (inl ((bytes_eq-Decides key q).0 e))
    | inr e ↦ has-append_left keys (key ∷ []) q ((h q).0 (sym (ap is_some (after q) ∙ others (bytes_eq key q) place (found old q) e) ∙ t))
  ]

  seen_old : (q : List ℕ) → Has keys q → has_seen new q ≡ true
  seen_old q there = elim (cases_Bool (bytes_eq key q)) [
    | inl e ↦ ap is_some (after q) ∙ some_of (bytes_eq key q) place (found old q) e
    | inr e ↦ ap is_some (after q) ∙ (others (bytes_eq key q) place (found old q) e ∙ (h q).1 there)
  ]

  seen_key : (q : List ℕ) → key ≡ q → has_seen new q ≡ true
  seen_key q e = ap is_some (after q) ∙ some_of (bytes_eq key q) place (found old q) ((bytes_eq-Decides key q).1 e)

  from_list : (q : List ℕ) → Has (keys ++ (key ∷ [])) q → IsTrue (has_seen new q)
  from_list q there = elim (has-append_cases keys (key ∷ []) q there) [
    | inl l ↦ seen_old q l
    | inr r ↦ elim r [ inl e ↦ seen_key q e | inr none ↦ absurd none ]
  ]

  pub seen_more : HasSeen new (keys ++ (key ∷ []))
  seen_more q = (to_list q, from_list q)

pub no_repeated : (keys : List (List ℕ)) (key : List ℕ) → AreDistinct keys → IsFirstRepeated keys key → ⊥
no_repeated keys key d r = distinct-apart r.front (key ∷ r.rest) key (subst AreDistinct r.place d) r.again (inl refl)

pub next_key : (pairs : List Pair) (place : ℕ) (d : Pair) → place < length pairs → keys_of (take (place + 1) pairs) ≡ keys_of (take place pairs) ++ ((get_or pairs place d).key ∷ [])
next_key pairs place d within = ap keys_of (take_more pairs place d within) ∙ map-append {A = Pair} {B = List ℕ} (λ p. p.key) (take place pairs) (get_or pairs place d ∷ [])

pub repeated_at : (pairs : List Pair) (place : ℕ) (d item : Pair) (seen : Seen) → place < length pairs → item ≡ get_or pairs place d → HasSeen seen (keys_of (take place pairs)) × AreDistinct (keys_of (take place pairs)) → has_seen seen item.key ≡ true → IsFirstRepeated (keys_of pairs) item.key
repeated_at pairs place d item seen within is before again =
    record {
      front = keys_of (take place pairs);
      rest = keys_of (drop (suc place) pairs);
      place =
          ap keys_of (sym (take-append-drop place pairs))
          ∙ (map-append {A = Pair} {B = List ℕ} (λ p. p.key) (take place pairs) (drop place pairs)
          ∙ (ap (λ l. keys_of (take place pairs) ++ keys_of l) (drop-cons pairs place d within)
          ∙ ap (λ p. keys_of (take place pairs) ++ (p.key ∷ keys_of (drop (suc place) pairs))) (sym is)));
      once = before.1;
      again = (before.0 item.key).0 again;
    }

pub seen_next : (pairs : List Pair) (place : ℕ) (d item : Pair) (old new : Seen) → place < length pairs → item ≡ get_or pairs place d → HasSeen old (keys_of (take place pairs)) × AreDistinct (keys_of (take place pairs)) → has_seen old item.key ≡ false
    → ((keys : List (List ℕ)) → HasSeen old keys → HasSeen new (keys ++ (item.key ∷ []))) → HasSeen new (keys_of (take (place + 1) pairs)) × AreDistinct (keys_of (take (place + 1) pairs))
seen_next pairs place d item old new within is before fresh after =
    let next : keys_of (take place pairs) ++ (item.key ∷ []) ≡ keys_of (take (place + 1) pairs) =
    ap (λ (p : Pair). keys_of (take place pairs) ++ (p.key ∷ [])) is ∙ sym (next_key pairs place d within) in (
      subst (HasSeen new) next (after (keys_of (take place pairs)) before.0),
      subst AreDistinct next (distinct-push (keys_of (take place pairs)) item.key before.1 (λ h. false≢true (sym fresh ∙ (before.0 item.key).1 h))),
    )
