-- Packages that are picked out of lives.
use Rattle.std.proofs.Common.{◌≡◌, ◌↔◌, ◌∙◌, ◌∷◌, ◌++◌, List, [], inl, inr, ap, refl, subst, sym}
use Rattle.basics.specs.Members.{Has}
use Rattle.basics.proofs.Membership.{has-append_cases, has-append_left, has-append_right}
use Rattle.pkg_state.specs.Package.{Package}
use Rattle.plan_law.specs.Plans.{Group}
use Rattle.plan_law.specs.Lives.{IsLife, Life}
use Rattle.plan_lives.specs.Lives.{lives}
use Rattle.plan_lives.proofs.AllLives.{has_lives}

-- the packages are those of the lives that pass
abbrev pub ArePicked : (Life → Type 0) → List Life → List Package → Type 0
ArePicked Passes xs ps = (p : Package) → Has ps p ↔ ((x : Life) × Has xs x × Passes x × (x.package_is ≡ p))

module _ (Passes : Life → Type 0) where
  pub none_picked : ArePicked Passes [] []
  none_picked p = ((λ h. absurd h), (λ k. absurd k.1))

  module _ (xs : List Life) (ps : List Package) (x : Life) (so_far : ArePicked Passes xs ps) where
    pub picked_more : Passes x → ArePicked Passes (xs ++ x ∷ []) (ps ++ x.package_is ∷ [])
    picked_more passes p = (to, back) where
      to : Has (ps ++ x.package_is ∷ []) p → (y : Life) × Has (xs ++ x ∷ []) y × Passes y × (y.package_is ≡ p)
      to h = elim (has-append_cases ps (x.package_is ∷ []) p h) [
        | inl old ↦ (let k = (so_far p).0 old in (k.0, has-append_left xs (x ∷ []) k.0 k.1, k.2, k.3))
        | inr new ↦ elim new [ inl e ↦ (x, has-append_right xs (x ∷ []) x (inl refl), passes, e) | inr none ↦ absurd none ]
      ]

      back : ((y : Life) × Has (xs ++ x ∷ []) y × Passes y × (y.package_is ≡ p)) → Has (ps ++ x.package_is ∷ []) p
      back k = elim (has-append_cases xs (x ∷ []) k.0 k.1) [
        | inl old ↦ has-append_left ps (x.package_is ∷ []) p ((so_far p).1 (k.0, old, k.2, k.3))
        | inr new ↦ elim new [ inl e ↦ has-append_right ps (x.package_is ∷ []) p (inl (ap (λ (y : Life). y.package_is) e ∙ k.3)) | inr none ↦ absurd none ]
      ]

    pub picked_not : ¬ Passes x → ArePicked Passes (xs ++ x ∷ []) ps
    picked_not fails p = (to, back) where
      to : Has ps p → (y : Life) × Has (xs ++ x ∷ []) y × Passes y × (y.package_is ≡ p)
      to h = let k = (so_far p).0 h in (k.0, has-append_left xs (x ∷ []) k.0 k.1, k.2, k.3)

      back : ((y : Life) × Has (xs ++ x ∷ []) y × Passes y × (y.package_is ≡ p)) → Has ps p
      back k = elim (has-append_cases xs (x ∷ []) k.0 k.1) [
        | inl old ↦ (so_far p).1 (k.0, old, k.2, k.3)
        | inr new ↦ elim new [ inl e ↦ absurd (fails (subst Passes (sym e) k.2)) | inr none ↦ absurd none ]
      ]

  -- out of all lives
  pub picked_lives : (plan : List Group) (start ps : List Package) → ArePicked Passes (lives plan start) ps → (p : Package) → Has ps p ↔ ((x : Life) × IsLife plan start x × Passes x × (x.package_is ≡ p))
  picked_lives plan start ps are p = (
    (λ h. let k = (are p).0 h in (k.0, (has_lives plan start k.0).0 k.1, k.2, k.3)),
    (λ k. (are p).1 (k.0, (has_lives plan start k.0).1 k.1, k.2, k.3)),
  )
