-- Packages that are there together: no version of a name is there twice.
use Rattle.std.proofs.Common.{◌≡◌, List, [], ◌∷◌, map, inl, inr, refl, subst}
use Rattle.basics.specs.Members.{AreDistinct, Has}
use Rattle.basics.proofs.Membership.{has-map, has-map_back}

module _ {A B C : Type 0} (key : A → B) (other : A → C) where
  -- where equal second keys mean equal first ones, the second ones differ as the first do
  pub differ_too : (xs : List A) → ((x y : A) → Has xs x → Has xs y → other x ≡ other y → key x ≡ key y) → AreDistinct (map key xs) → AreDistinct (map other xs)
  differ_too [] same d = tt
  differ_too (x ∷ xs) same d = (
    (λ h. let k = has-map_back other xs (other x) h in
        d.0 (subst (λ (b : B). Has (map key xs) b) (same k.0 x (inr k.1) (inl refl) k.2) (has-map key xs k.0 k.1))),
    differ_too xs (λ a b ha hb. same a b (inr ha) (inr hb)) d.1,
  )
