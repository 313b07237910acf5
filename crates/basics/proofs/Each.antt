-- What holds of each element of a list.
use Rattle.std.specs.List.{AllByRecursion, AllZip}
use Rattle.std.proofs.Common.{List, [], ◌∷◌, ◌++◌, map, inl, inr, refl, subst}
use Rattle.basics.specs.Members.{Has}

-- what holds of each element holds of a member
pub all_has : {A : Type 0} (P : A → Type 0) (xs : List A) (x : A) → AllByRecursion P xs → Has xs x → P x
all_has P [] x all has = absurd has
all_has P (y ∷ ys) x all (inl e) = subst P e all.0
all_has P (y ∷ ys) x all (inr has) = all_has P ys x all.1 has

-- what holds of each member holds of each element
pub all_by_has : {A : Type 0} (P : A → Type 0) (xs : List A) → ((x : A) → Has xs x → P x) → AllByRecursion P xs
all_by_has P [] each = tt
all_by_has P (x ∷ xs) each = (each x (inl refl), all_by_has P xs (λ y has. each y (inr has)))

pub all-append : {A : Type 0} (P : A → Type 0) (xs ys : List A) → AllByRecursion P xs → AllByRecursion P ys → AllByRecursion P (xs ++ ys)
all-append P [] ys all more = more
all-append P (x ∷ xs) ys all more = (all.0, all-append P xs ys all.1 more)

pub all-push : {A : Type 0} (P : A → Type 0) (xs : List A) (x : A) → AllByRecursion P xs → P x → AllByRecursion P (xs ++ x ∷ [])
all-push P xs x all p = all-append P xs (x ∷ []) all (p, tt)

pub all-map_back : {A B : Type 0} (P : B → Type 0) (f : A → B) (xs : List A) → AllByRecursion P (map f xs) → AllByRecursion (λ x. P (f x)) xs
all-map_back P f [] all = tt
all-map_back P f (x ∷ xs) all = (all.0, all-map_back P f xs all.1)

-- a member of the second of two lists that go in pairs has a partner in the first
pub zip_has : {A B : Type 0} (R : A → B → Type 0) (xs : List A) (ys : List B) (y : B) → AllZip R xs ys → Has ys y → (x : A) × Has xs x × R x y
zip_has R [] [] y zip is = absurd is
zip_has R [] (z ∷ zs) y zip is = absurd zip
zip_has R (x ∷ xs) [] y zip is = absurd is
zip_has R (x ∷ xs) (z ∷ zs) y zip (inl e) = (x, inl refl, subst (R x) e zip.0)
zip_has R (x ∷ xs) (z ∷ zs) y zip (inr is) = let r = zip_has R xs zs y zip.1 is in (r.0, inr r.1, r.2)
