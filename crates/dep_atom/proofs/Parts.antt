-- What the first bytes tell, of a text that is spelled.
use Rattle.std.proofs.Common.{◌≡◌, ◌∙◌, ℕ, true, false, ◌==◌, List, ◌++◌, get_or, refl, sym, ap, arith}
use Rattle.std.proofs.lemmas.List.{append_cancel_left}
use Rattle.dep_atom.specs.declared.atom.Block.{Block}
use Rattle.dep_atom.specs.declared.atom.Block.TheVariants.{No, Weak, Strong}
use Rattle.dep_atom.specs.declared.atom.Op.{Op}
use Rattle.dep_atom.specs.declared.atom.Op.TheVariants.{Any, Less, LessEqual, Equal, Similar, GreaterEqual, Greater}
use Rattle.dep_atom.specs.declared.uses.UseKind.{UseKind}
use Rattle.dep_atom.specs.declared.uses.UseKind.TheVariants.{On, Off, Same, Opposite, OnIfOn, OffIfOff}
use Rattle.dep_atom.specs.Cuts.{is_plain}
use Rattle.dep_atom.specs.Reading.{block_at, op_at, use_kind_at, has_equals, has_question}
use Rattle.dep_atom.specs.Text.{block_text, op_text, before_flag}
use Rattle.dep_atom.proofs.Plain.{plain_differs}

block_told : (b : Block) (rest : List ℕ) → (get_or rest 0 0 == 33) ≡ false → block_at (get_or (block_text b ++ rest) 0 0) (get_or (block_text b ++ rest) 1 0) ≡ b
block_told No rest h = rw h refl
block_told Weak rest h = rw h refl
block_told Strong rest h = refl

pub block_once : (text rest behind : List ℕ) (got b : Block) → text ≡ block_text got ++ rest → got ≡ block_at (get_or text 0 0) (get_or text 1 0) → (get_or behind 0 0 == 33) ≡ false → text ≡ block_text b ++ behind → (got ≡ b) × (rest ≡ behind)
block_once text rest behind got b e told h k =
    let same : got ≡ b = told ∙ ap (λ t. block_at (get_or t 0 0) (get_or t 1 0)) k ∙ block_told b behind h in
    (same, append_cancel_left (block_text b) rest behind (sym (ap (λ o. block_text o ++ rest) same) ∙ sym e ∙ k))

op_told : (o : Op) (rest : List ℕ) → is_plain (get_or rest 0 0) ≡ true → op_at (get_or (op_text o ++ rest) 0 0) (get_or (op_text o ++ rest) 1 0) ≡ o
op_told Any rest h = rw (plain_differs (get_or rest 0 0) 60 refl h, plain_differs (get_or rest 0 0) 61 refl h, plain_differs (get_or rest 0 0) 62 refl h, plain_differs (get_or rest 0 0) 126 refl h) refl
op_told Less rest h = rw (plain_differs (get_or rest 0 0) 61 refl h) refl
op_told LessEqual rest h = refl
op_told Equal rest h = refl
op_told Similar rest h = refl
op_told GreaterEqual rest h = refl
op_told Greater rest h = rw (plain_differs (get_or rest 0 0) 61 refl h) refl

pub op_once : (text rest behind : List ℕ) (got o : Op) → text ≡ op_text got ++ rest → got ≡ op_at (get_or text 0 0) (get_or text 1 0) → is_plain (get_or behind 0 0) ≡ true → text ≡ op_text o ++ behind → (got ≡ o) × (rest ≡ behind)
op_once text rest behind got o e told h k =
    let same : got ≡ o = told ∙ ap (λ t. op_at (get_or t 0 0) (get_or t 1 0)) k ∙ op_told o behind h in
    (same, append_cancel_left (op_text o) rest behind (sym (ap (λ p. op_text p ++ rest) same) ∙ sym e ∙ k))

-- no block stands where an operator or a name begins
pub op_is_no_block : (o : Op) (rest : List ℕ) → is_plain (get_or rest 0 0) ≡ true → (get_or (op_text o ++ rest) 0 0 == 33) ≡ false
op_is_no_block Any rest h = plain_differs (get_or rest 0 0) 33 refl h
op_is_no_block Less rest h = refl
op_is_no_block LessEqual rest h = refl
op_is_no_block Equal rest h = refl
op_is_no_block Similar rest h = refl
op_is_no_block GreaterEqual rest h = refl
op_is_no_block Greater rest h = refl

-- the first byte of a flag is no sign
pub kind_told : (kind : UseKind) (rest : List ℕ) → (get_or rest 0 0 == 33) ≡ false → (get_or rest 0 0 == 45) ≡ false → use_kind_at (get_or (before_flag kind ++ rest) 0 0) (has_equals kind) (has_question kind) ≡ kind
kind_told On rest h k = rw k refl
kind_told Off rest h k = refl
kind_told Same rest h k = rw h refl
kind_told Opposite rest h k = refl
kind_told OnIfOn rest h k = rw h refl
kind_told OffIfOff rest h k = refl

pub kind_once : (text rest behind : List ℕ) (got kind : UseKind) → text ≡ before_flag got ++ rest → got ≡ use_kind_at (get_or text 0 0) (has_equals kind) (has_question kind) → (get_or behind 0 0 == 33) ≡ false → (get_or behind 0 0 == 45) ≡ false → text ≡ before_flag kind ++ behind → (got ≡ kind) × (rest ≡ behind)
kind_once text rest behind got kind e told h n k =
    let same : got ≡ kind = told ∙ ap (λ t. use_kind_at (get_or t 0 0) (has_equals kind) (has_question kind)) k ∙ kind_told kind behind h n in
    (same, append_cancel_left (before_flag kind) rest behind (sym (ap (λ p. before_flag p ++ rest) same) ∙ sym e ∙ k))
