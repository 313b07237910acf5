-- The lives that are gathered by names are those that serve a chain.
use Rattle.std.proofs.Common.{◌≡◌, ◌↔◌, ℕ, Bool, true, List, [], ◌∷◌, Result, Ok, Err, IfOk, IsTrue, bytes_eq, inl, inr}
use Rattle.std.proofs.lemmas.Bool.{or_cases, or_left, or_right}
use Rattle.basics.specs.Members.{Has}
use Rattle.basics.proofs.Membership.{has-append_cases, has-append_left, has-append_right, has-filter, has-filter_back}
use Rattle.dep_atom.specs.Match.{value_matches}
use Rattle.dep_atom.specs.Values.{AtomValue}
use Rattle.pkg_state.specs.Package.{Package}
use Rattle.pkg_state.proofs.Named.{same_package}
use Rattle.plan_law.specs.Plans.{Group}
use Rattle.plan_law.specs.Firm as firm
use Rattle.plan_law.specs.Firm.{IsChained, Serves, is_wanted}
use Rattle.plan_law.specs.Lives.{Life, Stretch}
use Rattle.plan_lives.specs.Chains.{AreJoined, Arrives, follows, starts}
use Rattle.plan_lives.specs.Gathered.{gathered, matching}
use Rattle.plan_lives.specs.Index.{keyed, name_key}
use Rattle.plan_lives.specs.Lives.{lives}
use Rattle.plan_lives.proofs.AllLives.{has_lives}

pub has_matching : (a : AtomValue) (asker : List (List ℕ)) (xs : List Life) (x : Life) → Has (matching a asker xs) x ↔ (Has xs x × (value_matches a x.package_is.facts asker ≡ true))
has_matching a asker xs x = (
  (λ h. let k = has-filter_back (λ (y : Life). value_matches a y.package_is.facts asker) (keyed name_key a.name.«package» xs) x h in
      ((has-filter_back (λ (y : Life). bytes_eq a.name.«package» (name_key y)) xs x k.0).0, k.1)),
  (λ h. has-filter (λ (y : Life). value_matches a y.package_is.facts asker) (keyed name_key a.name.«package» xs) x
      (has-filter (λ (y : Life). bytes_eq a.name.«package» (name_key y)) xs x h.0 (same_package a x.package_is.facts asker h.1)) h.1),
)

pub gathered_in : (atoms : List AtomValue) (asker : List (List ℕ)) (xs : List Life) (x : Life) → Has (gathered atoms asker xs) x → Has xs x × (is_wanted atoms asker x.package_is ≡ true)
gathered_in [] asker xs x h = absurd h
gathered_in (a ∷ atoms) asker xs x h = elim (has-append_cases (matching a asker xs) (gathered atoms asker xs) x h) [
  | inl here ↦ (let k = (has_matching a asker xs x).0 here in (k.0, or_left (value_matches a x.package_is.facts asker) (is_wanted atoms asker x.package_is) k.1))
  | inr later ↦ (let k = gathered_in atoms asker xs x later in (k.0, or_right (value_matches a x.package_is.facts asker) (is_wanted atoms asker x.package_is) k.1))
]

pub in_gathered : (atoms : List AtomValue) (asker : List (List ℕ)) (xs : List Life) (x : Life) → Has xs x → is_wanted atoms asker x.package_is ≡ true → Has (gathered atoms asker xs) x
in_gathered [] asker xs x h e = absurd (cc e)
in_gathered (a ∷ atoms) asker xs x h e = elim (or_cases (value_matches a x.package_is.facts asker) (is_wanted atoms asker x.package_is) e) [
  | inl here ↦ has-append_left (matching a asker xs) (gathered atoms asker xs) x ((has_matching a asker xs x).1 (h, here))
  | inr later ↦ has-append_right (matching a asker xs) (gathered atoms asker xs) x (in_gathered atoms asker xs x h later)
]

module _ (plan : List Group) (start : List Package) (atoms : List AtomValue) (asker : List (List ℕ)) (s : Stretch) where
  abbrev fits : List Life
  fits = gathered atoms asker (lives plan start)

  serving : (x : Life) → Has fits x → Serves plan start atoms asker x
  serving x h = let k = gathered_in atoms asker (lives plan start) x h in record { is = (has_lives plan start x).0 k.0; wanted = k.1 }

  fitting : (x : Life) → Serves plan start atoms asker x → Has fits x
  fitting x serves = in_gathered atoms asker (lives plan start) x ((has_lives plan start x).1 serves.is) serves.wanted

  arrives_law : (x : Life) → Arrives plan fits s x → firm.Arrives plan start atoms asker s x
  arrives_law x (starts y h past) = firm.starts y (serving y h) past
  arrives_law x (follows y z a h early) = firm.follows y z (arrives_law y a) (serving z h) early

  arrives_code : (x : Life) → firm.Arrives plan start atoms asker s x → Arrives plan fits s x
  arrives_code x (firm.starts y serves past) = starts y (fitting y serves) past
  arrives_code x (firm.follows y z a serves early) = follows y z (arrives_code y a) (fitting z serves) early

  pub joined_chained : AreJoined plan fits s ↔ IsChained plan start asker s atoms
  joined_chained = (
    (λ j. record { last = j.last; arrives = arrives_law j.last j.arrives; outlasts = j.outlasts }),
    (λ c. record { last = c.last; arrives = arrives_code c.last c.arrives; outlasts = c.outlasts }),
  )

pub ok_iff : {E P Q : Type 0} (r : Result Bool E) → P ↔ Q → IfOk r (λ b. IsTrue b ↔ P) → IfOk r (λ b. IsTrue b ↔ Q)
ok_iff (Ok b) e h = ((λ t. e.0 (h.0 t)), (λ q. h.1 (e.1 q)))
ok_iff (Err x) e h = h
