-- What the rule of binds says, leaf by leaf and addition by addition.
use Rattle.std.proofs.Common.{◌≡◌, ◌∙◌, ◌<◌, ◌+◌, ℕ, List, [], ◌∷◌, ◌++◌, None, Some, append_assoc, drop, get_or, inl, inr, length, ap, map, refl, sym}
use Rattle.std.specs.List.{AllZip}
use Rattle.basics.specs.Members.{Has}
use Rattle.basics.proofs.Lists.{at_drop}
use Rattle.dep_atom.specs.Values.{AtomValue}
use Rattle.dep_atom.specs.declared.package.PackageId.{PackageId}
use Rattle.dep_atom.specs.declared.slot.Bind.{Bind}
use Rattle.pkg_state.specs.Package.{Package}
use Rattle.plan_law.specs.Plans.{Group}
use Rattle.plan_law.specs.Lives.{Life, Moment, commit, never, opening}
use Rattle.plan_lives.specs.Binding.{IsRightBind}
use Rattle.plan_lives.specs.Lives.{life_of, lives_of}
use Rattle.plan_lives.specs.declared.life.Life.{Life as CodeLife}
use Rattle.plan_check.specs.Asks.{AskedValue, asking, asks_behind, next_asked}
use Rattle.plan_check.specs.Binding.{IsBound, binds_rule}
use Rattle.plan_check.specs.PackageRules.{binding_rule}
use Rattle.plan_rules.specs.Refusals.{Refusal as refused}
use Rattle.plan_rules.specs.Verdicts.{demand}
use Rattle.plan_rules.proofs.Trying.{IsClear, both_clear}

module _ (R : AtomValue → Bind → Type 0) (id : PackageId) where
  all_right : (leaves : List AtomValue) (binds : List Bind) → binds_rule R id leaves binds None → AllZip R leaves binds
  all_right [] [] h = tt
  all_right [] (b ∷ binds) h = h
  all_right (a ∷ leaves) [] h = h
  all_right (a ∷ leaves) (b ∷ binds) h = (h.0, all_right leaves binds h.1)

  none_wrong : (leaves : List AtomValue) (binds : List Bind) → AllZip R leaves binds → binds_rule R id leaves binds None
  none_wrong [] [] h = tt
  none_wrong [] (b ∷ binds) h = h
  none_wrong (a ∷ leaves) [] h = h
  none_wrong (a ∷ leaves) (b ∷ binds) h = (h.0, none_wrong leaves binds h.1)

  pub binds_clear : (leaves : List AtomValue) (binds : List Bind) → IsClear (binds_rule R id leaves binds)
  binds_clear [] [] e h k = k
  binds_clear [] (b ∷ binds) e h k = h
  binds_clear (a ∷ leaves) [] e h k = h
  binds_clear (a ∷ leaves) (b ∷ binds) e h k = both_clear (demand (R a b) (refused.Binding id (Some a) (Some b))) (binds_rule R id leaves binds) (λ f h k. k.0 h) (binds_clear leaves binds) e h k

module _ (plan : List Group) (start : List Package) where
  pub bound : (p : Package) (b d : Moment) (asked : AskedValue) → binding_rule plan start (record { package_is = p; birth = b; death = d }) asked None → IsBound plan start b p asked
  bound p opening d asked h = tt
  bound p (commit g) d asked h = all_right (IsRightBind plan start g p.facts.enabled) p.facts.id asked.leaves asked.binds h
  bound p never d asked h = tt

  pub binding_none : (p : Package) (b d : Moment) (asked : AskedValue) → IsBound plan start b p asked → binding_rule plan start (record { package_is = p; birth = b; death = d }) asked None
  binding_none p opening d asked h = tt
  binding_none p (commit g) d asked h = none_wrong (IsRightBind plan start g p.facts.enabled) p.facts.id asked.leaves asked.binds h
  binding_none p never d asked h = tt

-- a life of the list has something that it asks
pub some_asked : (xs : List Life) (asks : List AskedValue) (x : Life) → Has xs x → (asked : AskedValue) × Has (asking xs asks) (x, asked)
some_asked [] asks x h = absurd h
some_asked (y ∷ xs) asks x (inl e) = (next_asked y.birth asks, inl (ap (λ (z : Life). (z, next_asked y.birth asks)) e))
some_asked (y ∷ xs) asks x (inr h) = let k = some_asked xs (asks_behind y.birth asks) x h in (k.0, inr k.1)

-- .. and what asks is one of the lives
pub life_asked : (xs : List Life) (asks : List AskedValue) (x : Life) (asked : AskedValue) → Has (asking xs asks) (x, asked) → Has xs x
life_asked [] asks x asked h = absurd h
life_asked (y ∷ xs) asks x asked (inl e) = inl (ap (λ (p : Life × AskedValue). p.0) e)
life_asked (y ∷ xs) asks x asked (inr h) = inr (life_asked xs (asks_behind y.birth asks) x asked h)

-- the lives are as they were
pub lives_asked : (xs : List Life) (asks : List AskedValue) → map (λ (it : Life × AskedValue). it.0) (asking xs asks) ≡ xs
lives_asked [] asks = refl
lives_asked (y ∷ xs) asks = ap (λ (ys : List Life). y ∷ ys) (lives_asked xs (asks_behind y.birth asks))

-- one life more goes to the end with what it asks
pub asked_more : (items : List CodeLife) (i : ℕ) (x : CodeLife) (asks : List AskedValue) (done whole : List (Life × AskedValue)) (it : Life × AskedValue) → i < length items → x ≡ get_or items i x → it ≡ (life_of x, next_asked (life_of x).birth asks)
    → done ++ asking (lives_of (drop i items)) asks ≡ whole → (done ++ it ∷ []) ++ asking (lives_of (drop (i + 1) items)) (asks_behind (life_of x).birth asks) ≡ whole
asked_more items i x asks done whole it lt is own so_far =
    let rest = asking (lives_of (drop (i + 1) items)) (asks_behind (life_of x).birth asks) in
    append_assoc done (it ∷ []) rest
    ∙ (ap (λ (z : Life × AskedValue). done ++ z ∷ rest) own
    ∙ (sym (ap (λ (ys : List CodeLife). done ++ asking (lives_of ys) asks) (at_drop items i x lt is)) ∙ so_far))
