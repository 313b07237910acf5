-- No two editions have one text.
use Rattle.std.proofs.Common.{◌≡◌, ◌∙◌, ℕ, false, List, bytes_eq, refl, sym}
use Rattle.std.proofs.lemmas.Bool.{false≢true}
use Rattle.std.proofs.lemmas.Slice.Eq.{bytes_eq-Decides}
use Rattle.pkg_state.specs.Eapis.{eapi_text}
use Rattle.pkg_state.specs.declared.eapi.Eapi.{Eapi}
use Rattle.pkg_state.specs.declared.eapi.Eapi.TheVariants.{Five, Six, Seven, Eight}

apart : (a b : List ℕ) → bytes_eq a b ≡ false → a ≡ b → ⊥
apart a b differs e = false≢true (sym differs ∙ (bytes_eq-Decides a b).1 e)

pub one_eapi : (a b : Eapi) → eapi_text a ≡ eapi_text b → a ≡ b
one_eapi Five Five e = refl
one_eapi Five Six e = absurd (apart (eapi_text Five) (eapi_text Six) refl e)
one_eapi Five Seven e = absurd (apart (eapi_text Five) (eapi_text Seven) refl e)
one_eapi Five Eight e = absurd (apart (eapi_text Five) (eapi_text Eight) refl e)
one_eapi Six Five e = absurd (apart (eapi_text Six) (eapi_text Five) refl e)
one_eapi Six Six e = refl
one_eapi Six Seven e = absurd (apart (eapi_text Six) (eapi_text Seven) refl e)
one_eapi Six Eight e = absurd (apart (eapi_text Six) (eapi_text Eight) refl e)
one_eapi Seven Five e = absurd (apart (eapi_text Seven) (eapi_text Five) refl e)
one_eapi Seven Six e = absurd (apart (eapi_text Seven) (eapi_text Six) refl e)
one_eapi Seven Seven e = refl
one_eapi Seven Eight e = absurd (apart (eapi_text Seven) (eapi_text Eight) refl e)
one_eapi Eight Five e = absurd (apart (eapi_text Eight) (eapi_text Five) refl e)
one_eapi Eight Six e = absurd (apart (eapi_text Eight) (eapi_text Six) refl e)
one_eapi Eight Seven e = absurd (apart (eapi_text Eight) (eapi_text Seven) refl e)
one_eapi Eight Eight e = refl
