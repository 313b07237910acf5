-- From what `clap` promises of one call to the words of `specs/Grammar.antt`.
use Rattle.std.proofs.Common.{◌≡◌, ◌∙◌, true, refl, sym, ap, subst, List, [], inl, inr}
use Rattle.clap.specs.Words.{App, Kinds, HasKind, Row, Text, fault_of, is_simple, is_simple_and_free, kind_of, matches_of}
use Rattle.clap.specs.declared.error.Error.{Error}
use Rattle.clap.specs.declared.error.kind.ErrorKind.TheVariants.{OutOfMemory}
use Rattle.clap.proofs.OnLiterals.{clap_on_literals}
use Rattle.emerge_words.specs.Grammar.{AreCut, rows_in, words_app}

is_known : is_simple words_app ≡ true
unfolding words_app clap_on_literals
is_known = refl

is_free : is_simple_and_free words_app ≡ true
unfolding words_app clap_on_literals
is_free = refl

-- a call that answers Ok
pub cut_of : (app : App) (words : List Text) → app ≡ words_app
    → (is_simple_and_free app ≡ true → fault_of app words ≡ []) → AreCut words
unfolding AreCut
cut_of app words is kinds = ap (λ (a : App). fault_of a words) (sym is) ∙ kinds (ap is_simple_and_free is ∙ is_free)

-- the rows of a call that answers Ok
pub rows_of_words : (app : App) (words : List Text) (rows : List Row) → app ≡ words_app
    → (is_simple app ≡ true → rows ≡ matches_of app words) → rows ≡ rows_in words
unfolding rows_in
rows_of_words app words rows is matches =
    matches (ap is_simple is ∙ is_known) ∙ ap (λ (a : App). matches_of a words) is

none_among : (kinds : Kinds) (e : Error) → kinds ≡ [] → HasKind kinds e → kind_of e ≡ OutOfMemory
none_among kinds e none has = go (subst (λ (ks : Kinds). HasKind ks e) none has)
  where
    go : HasKind [] e → kind_of e ≡ OutOfMemory
    go (inl k) = k
    go (inr k) = absurd k

-- a call that fails though the words are cut fails for want of memory
pub cut_fails : (app : App) (words : List Text) (e : Error) → app ≡ words_app
    → (is_simple_and_free app ≡ true → HasKind (fault_of app words) e) → AreCut words → kind_of e ≡ OutOfMemory
unfolding AreCut
cut_fails app words e is kinds cut =
    none_among (fault_of app words) e (ap (λ (a : App). fault_of a words) is ∙ cut)
    (kinds (ap is_simple_and_free is ∙ is_free))
