-- From what the words behind a head say to what the line says.
use Rattle.std.proofs.Common.{◌≡◌, ◌∙◌, ℕ, Option, None, Some, List, ◌∷◌, sym, ap, subst, drop, get_or}
use Rattle.std.specs.Prelude.{IfOk, Result, Ok, Err}
use Rattle.std.specs.List.{slice_split}
use Rattle.std.specs.declared.alloc.AllocError.{AllocError}
use Rattle.plan_text.specs.Lines.{IsLine, IsSaid, LineValue, Said, head_text, line_text, line_words, said_words}
use Rattle.plan_text.specs.Reading.{IsLineOf, IsNoHead, ReadsLine, ReadsSaid, is_space, line_value, words_behind}
use Rattle.plan_text.specs.declared.kind.Kind.{Kind}
use Rattle.plan_text.specs.declared.line.Line.{Line}
use Rattle.plan_text.proofs.Once.{line_joined, line_split, one_head}

pub none_of : (k : Kind) (ws : List (List ℕ)) → ((said : Said k) → IsSaid k said → ws ≡ said_words k said → ⊥) → (l : LineValue) → IsLineOf k l → ws ≡ words_behind l → ⊥
none_of k ws none l is e = subst (λ j. (s : Said j) → IsSaid j s → ws ≡ said_words j s → ⊥) (sym is.0) none l.said is.1 e

split_of : (text head : List ℕ) (ws : List (List ℕ)) (l : LineValue) → slice_split is_space text ≡ head ∷ ws → IsLine l → text ≡ line_text l → (head ≡ head_text l.kind) × (ws ≡ words_behind l)
split_of text head ws l cut is e =
    let same : head ∷ ws ≡ line_words l = sym cut ∙ ap (slice_split is_space) e ∙ line_split l is in
    (ap (λ x. get_or x 0 head) same, ap (drop 1) same)

pub reads_line : (text head : List ℕ) (ws : List (List ℕ)) (k : Kind) (r : Option Line) → slice_split is_space text ≡ head ∷ ws → head ≡ head_text k → ReadsSaid k ws r → ReadsLine text r
reads_line text head ws k None cut h none = λ l is e.
    (let parts = split_of text head ws l cut is e in
    none l (sym (one_head k l.kind (sym h ∙ parts.0)), is) parts.1)
reads_line text head ws k (Some x) cut h found =
    let v : LineValue = line_value x in
    (found.0.1, line_joined text (line_words (line_value x)) (ap (λ y. y ∷ words_behind (line_value x)) (ap head_text found.0.0 ∙ sym h) ∙ ap (λ y. head ∷ y) (sym found.1) ∙ sym cut))

pub reads_line_if : (text head : List ℕ) (ws : List (List ℕ)) (k : Kind) (r : Result (Option Line) AllocError) → slice_split is_space text ≡ head ∷ ws → head ≡ head_text k → IfOk r (ReadsSaid k ws) → IfOk r (ReadsLine text)
reads_line_if text head ws k (Ok o) cut h reads = reads_line text head ws k o cut h reads
reads_line_if text head ws k (Err e) cut h reads = tt

pub no_line : (text head : List ℕ) (ws : List (List ℕ)) → slice_split is_space text ≡ head ∷ ws → IsNoHead head → (l : LineValue) → IsLine l → text ≡ line_text l → ⊥
no_line text head ws cut none l is e = none l.kind (split_of text head ws l cut is e).0
