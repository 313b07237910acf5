-- Values that are spelled the same are the same.
use Rattle.std.proofs.Common.{◌≡◌, ◌∙◌, ℕ, Bool, true, false, not, ◌||◌, ◌==◌, List, [], ◌∷◌, ◌++◌, drop, ap, append_assoc, arith, refl, subst, sym}
use Rattle.std.specs.List.{AllByRecursion}
use Rattle.std.proofs.lemmas.Bool.{both_ways}
use Rattle.basics.proofs.Lists.{heads, heads_differ, tails}
use Rattle.config_text.specs.Assignments.{is_solid}
use Rattle.config_text.specs.Follow.{Stops}
use Rattle.basics.specs.Blanks.{is_blank}
use Rattle.config_text.specs.Values.{AreQuoted, AreRuns, IsKey, IsPart, IsPlain, IsRun, LacksQuote, Part, Plain, Escaped, Named, Braced, Run, Bare, Single, Double, begins_key, is_escapable, is_in_single, is_key_byte, may_stand, spell_part, spell_parts, spell_run, spell_runs}
use Rattle.config_text.proofs.Stretches.{one_stretch, same_list, stopped}

pub key_bytes : (key : List ℕ) → IsKey key → AllByRecursion (λ c. is_key_byte c ≡ true) key
key_bytes [] k = absurd k
key_bytes (b ∷ bytes) k = (rw k.0 refl, k.1)

-- where a key begins
pub key_begins : (key r s : List ℕ) → IsKey key → Stops begins_key r → r ≡ key ++ s → ⊥
key_begins [] r s k stops e = absurd k
key_begins (b ∷ bytes) r s k stops e = stopped begins_key b r (bytes ++ s) k.0 stops e

plain_escaped : (quoted : Bool) (b c : ℕ) (r s : List ℕ) → IsPlain quoted b r → (quoted ≡ true) × (is_escapable c ≡ true) → b ∷ r ≡ 92 ∷ c ∷ s → ⊥
plain_escaped quoted b c r s p k e =
    stopped is_escapable c r s k.1 (p.escapes_nothing (heads b 92 r (c ∷ s) e) k.0) (tails b 92 r (c ∷ s) e)

plain_named : (quoted : Bool) (b : ℕ) (n r s : List ℕ) → IsPlain quoted b r → IsKey n → b ∷ r ≡ 36 ∷ (n ++ s) → ⊥
plain_named quoted b n r s p k e =
    key_begins n r s k (p.names_nothing (heads b 36 r (n ++ s) e)).bare (tails b 36 r (n ++ s) e)

braces : (n s : List ℕ) → (n ++ (125 ∷ [])) ++ s ≡ n ++ (125 ∷ s)
braces n s = append_assoc n (125 ∷ []) s

plain_braced : (quoted : Bool) (b : ℕ) (n r s : List ℕ) → IsPlain quoted b r → IsKey n → b ∷ r ≡ 36 ∷ 123 ∷ ((n ++ (125 ∷ [])) ++ s) → ⊥
plain_braced quoted b n r s p k e =
    (p.names_nothing (heads b 36 r (123 ∷ ((n ++ (125 ∷ [])) ++ s)) e)).braced n s k
    (tails b 36 r (123 ∷ ((n ++ (125 ∷ [])) ++ s)) e ∙ ap (λ l. 123 ∷ l) (braces n s))

named_braced : (n m r s : List ℕ) → IsKey n → 36 ∷ (n ++ r) ≡ 36 ∷ 123 ∷ ((m ++ (125 ∷ [])) ++ s) → ⊥
named_braced n m r s k e =
    key_begins n (123 ∷ ((m ++ (125 ∷ [])) ++ s)) r k refl (sym (tails 36 36 (n ++ r) (123 ∷ ((m ++ (125 ∷ [])) ++ s)) e))

one_named : (n m r s : List ℕ) → IsKey n × Stops is_key_byte r → IsKey m × Stops is_key_byte s → 36 ∷ (n ++ r) ≡ 36 ∷ (m ++ s) → (n ≡ m) × (r ≡ s)
one_named n m r s h k e = one_stretch is_key_byte n m r s (key_bytes n h.0) (key_bytes m k.0) h.1 k.1 (tails 36 36 (n ++ r) (m ++ s) e)

one_braced : (n m r s : List ℕ) → IsKey n → IsKey m → 36 ∷ 123 ∷ ((n ++ (125 ∷ [])) ++ r) ≡ 36 ∷ 123 ∷ ((m ++ (125 ∷ [])) ++ s) → (n ≡ m) × (r ≡ s)
one_braced n m r s h k e =
    let inner : n ++ (125 ∷ r) ≡ m ++ (125 ∷ s) = sym (braces n r) ∙ (ap (λ l. drop 2 l) e ∙ braces m s) in
    let both : (n ≡ m) × (125 ∷ r ≡ 125 ∷ s) = one_stretch is_key_byte n m (125 ∷ r) (125 ∷ s) (key_bytes n h) (key_bytes m k) refl refl inner in
    (both.0, tails 125 125 r s both.1)

pub one_part : (quoted : Bool) (x y : Part) (r s : List ℕ) → IsPart quoted x r → IsPart quoted y s → spell_part x ++ r ≡ spell_part y ++ s → (x ≡ y) × (r ≡ s)
one_part quoted (Plain b) (Plain c) r s h k e = (ap Plain (heads b c r s e), tails b c r s e)
one_part quoted (Plain b) (Escaped c) r s h k e = absurd (plain_escaped quoted b c r s h k e)
one_part quoted (Plain b) (Named n) r s h k e = absurd (plain_named quoted b n r s h k.0 e)
one_part quoted (Plain b) (Braced n) r s h k e = absurd (plain_braced quoted b n r s h k e)
one_part quoted (Escaped b) (Plain c) r s h k e = absurd (plain_escaped quoted c b s r k h (sym e))
one_part quoted (Escaped b) (Escaped c) r s h k e =
    (ap Escaped (heads b c r s (tails 92 92 (b ∷ r) (c ∷ s) e)), tails b c r s (tails 92 92 (b ∷ r) (c ∷ s) e))
one_part quoted (Escaped b) (Named n) r s h k e = absurd (heads_differ 92 36 (b ∷ r) (n ++ s) (λ q. omega arith) e)
one_part quoted (Escaped b) (Braced n) r s h k e = absurd (heads_differ 92 36 (b ∷ r) (123 ∷ ((n ++ (125 ∷ [])) ++ s)) (λ q. omega arith) e)
one_part quoted (Named n) (Plain c) r s h k e = absurd (plain_named quoted c n s r k h.0 (sym e))
one_part quoted (Named n) (Escaped c) r s h k e = absurd (heads_differ 36 92 (n ++ r) (c ∷ s) (λ q. omega arith) e)
one_part quoted (Named n) (Named m) r s h k e = let both = one_named n m r s h k e in (ap Named both.0, both.1)
one_part quoted (Named n) (Braced m) r s h k e = absurd (named_braced n m r s h.0 e)
one_part quoted (Braced n) (Plain c) r s h k e = absurd (plain_braced quoted c n s r k h (sym e))
one_part quoted (Braced n) (Escaped c) r s h k e = absurd (heads_differ 36 92 (123 ∷ ((n ++ (125 ∷ [])) ++ r)) (c ∷ s) (λ q. omega arith) e)
one_part quoted (Braced n) (Named m) r s h k e = absurd (named_braced m n s r k.0 (sym e))
one_part quoted (Braced n) (Braced m) r s h k e = let both = one_braced n m r s h k e in (ap Braced both.0, both.1)

pub dollar_stands : (q : Bool) → may_stand q 36 ≡ true
dollar_stands true = refl
dollar_stands false = refl

-- with which byte a part begins
pub part_first : (quoted : Bool) (x : Part) (r more : List ℕ) (b : ℕ) → IsPart quoted x r → spell_part x ++ r ≡ b ∷ more → may_stand quoted b ≡ true
part_first quoted (Plain c) r more b h e = subst (λ y. may_stand quoted y ≡ true) (heads c b r more e) h.stands
part_first quoted (Escaped c) r more b h e =
    subst (λ q. may_stand q b ≡ true) (sym h.0) (subst (λ y. may_stand true y ≡ true) (heads 92 b (c ∷ r) more e) refl)
part_first quoted (Named n) r more b h e = subst (λ y. may_stand quoted y ≡ true) (heads 36 b (n ++ r) more e) (dollar_stands quoted)
part_first quoted (Braced n) r more b h e = subst (λ y. may_stand quoted y ≡ true) (heads 36 b (123 ∷ ((n ++ (125 ∷ [])) ++ r)) more e) (dollar_stands quoted)

pub part_some : (x : Part) (r : List ℕ) → spell_part x ++ r ≡ [] → ⊥
part_some (Plain c) r e = absurd (cc)
part_some (Escaped c) r e = absurd (cc)
part_some (Named n) r e = absurd (cc)
part_some (Braced n) r e = absurd (cc)

-- no part stands at the end of double quotes
pub quotes_end : (r : List ℕ) (x : Part) (t : List ℕ) → IsPart true x t → spell_part x ++ t ≡ 34 ∷ r → ⊥
quotes_end r x t h e = let no : false ≡ true = part_first true x t r 34 h e in absurd (cc)

quotes : (n s : List ℕ) (q : ℕ) → (n ++ (q ∷ [])) ++ s ≡ n ++ (q ∷ s)
quotes n s q = append_assoc n (q ∷ []) s

one_single : (t u r s : List ℕ) → LacksQuote t → LacksQuote u → 39 ∷ ((t ++ (39 ∷ [])) ++ r) ≡ 39 ∷ ((u ++ (39 ∷ [])) ++ s) → (t ≡ u) × (r ≡ s)
one_single t u r s h k e =
    let inner : t ++ (39 ∷ r) ≡ u ++ (39 ∷ s) = sym (quotes t r 39) ∙ (ap (λ l. drop 1 l) e ∙ quotes u s 39) in
    let both : (t ≡ u) × (39 ∷ r ≡ 39 ∷ s) = one_stretch is_in_single t u (39 ∷ r) (39 ∷ s) h k refl refl inner in
    (both.0, tails 39 39 r s both.1)

one_double : (xs ys : List Part) (r s : List ℕ) → AreQuoted xs (34 ∷ r) → AreQuoted ys (34 ∷ s) → 34 ∷ ((spell_parts xs ++ (34 ∷ [])) ++ r) ≡ 34 ∷ ((spell_parts ys ++ (34 ∷ [])) ++ s) → (xs ≡ ys) × (r ≡ s)
one_double xs ys r s h k e =
    let inner : spell_parts xs ++ (34 ∷ r) ≡ spell_parts ys ++ (34 ∷ s) = sym (quotes (spell_parts xs) r 34) ∙ (ap (λ l. drop 1 l) e ∙ quotes (spell_parts ys) s 34) in
    let both : (xs ≡ ys) × (34 ∷ r ≡ 34 ∷ s) = same_list (IsPart true) spell_part (one_part true) xs ys (34 ∷ r) (34 ∷ s) (quotes_end r) (quotes_end s) h k inner in
    (both.0, tails 34 34 r s both.1)

bare_single : (x : Part) (r more : List ℕ) → IsPart false x r → spell_part x ++ r ≡ 39 ∷ more → ⊥
bare_single x r more h e = let no : false ≡ true = part_first false x r more 39 h e in absurd (cc)

bare_double : (x : Part) (r more : List ℕ) → IsPart false x r → spell_part x ++ r ≡ 34 ∷ more → ⊥
bare_double x r more h e = let no : false ≡ true = part_first false x r more 34 h e in absurd (cc)

pub one_run : (x y : Run) (r s : List ℕ) → IsRun x r → IsRun y s → spell_run x ++ r ≡ spell_run y ++ s → (x ≡ y) × (r ≡ s)
one_run (Bare x) (Bare y) r s h k e = let both = one_part false x y r s h k e in (ap Bare both.0, both.1)
one_run (Bare x) (Single u) r s h k e = absurd (bare_single x r ((u ++ (39 ∷ [])) ++ s) h e)
one_run (Bare x) (Double ys) r s h k e = absurd (bare_double x r ((spell_parts ys ++ (34 ∷ [])) ++ s) h e)
one_run (Single t) (Bare y) r s h k e = absurd (bare_single y s ((t ++ (39 ∷ [])) ++ r) k (sym e))
one_run (Single t) (Single u) r s h k e = let both = one_single t u r s h k e in (ap Single both.0, both.1)
one_run (Single t) (Double ys) r s h k e = absurd (heads_differ 39 34 ((t ++ (39 ∷ [])) ++ r) ((spell_parts ys ++ (34 ∷ [])) ++ s) (λ q. omega arith) e)
one_run (Double xs) (Bare y) r s h k e = absurd (bare_double y s ((spell_parts xs ++ (34 ∷ [])) ++ r) k (sym e))
one_run (Double xs) (Single u) r s h k e = absurd (heads_differ 34 39 ((spell_parts xs ++ (34 ∷ [])) ++ r) ((u ++ (39 ∷ [])) ++ s) (λ q. omega arith) e)
one_run (Double xs) (Double ys) r s h k e = let both = one_double xs ys r s h k e in (ap Double both.0, both.1)

solid_first : (w q : Bool) → not (w || q) ≡ true → not w ≡ true
solid_first true q h = h
solid_first false q h = refl

bare_is_solid : (b : ℕ) → may_stand false b ≡ true → is_solid b ≡ true
bare_is_solid b h = solid_first (is_blank b) (b == 34 || b == 39) h

-- a run begins with no white space
pub run_first : (x : Run) (r more : List ℕ) (b : ℕ) → IsRun x r → spell_run x ++ r ≡ b ∷ more → is_solid b ≡ true
run_first (Bare x) r more b h e = bare_is_solid b (part_first false x r more b h e)
run_first (Single t) r more b h e = subst (λ y. is_solid y ≡ true) (heads 39 b ((t ++ (39 ∷ [])) ++ r) more e) refl
run_first (Double xs) r more b h e = subst (λ y. is_solid y ≡ true) (heads 34 b ((spell_parts xs ++ (34 ∷ [])) ++ r) more e) refl

run_some : (x : Run) (r : List ℕ) → spell_run x ++ r ≡ [] → ⊥
run_some (Bare x) r e = part_some x r e
run_some (Single t) r e = absurd (cc)
run_some (Double xs) r e = absurd (cc)

-- no run stands at the end of a value
pub value_ends : (s : List ℕ) → Stops is_solid s → (x : Run) (t : List ℕ) → IsRun x t → spell_run x ++ t ≡ s → ⊥
value_ends [] stops x t h e = run_some x t e
value_ends (b ∷ s) stops x t h e = both_ways (is_solid b) stops (run_first x t s b h e)

pub one_value : (xs ys : List Run) (r s : List ℕ) → Stops is_solid r → Stops is_solid s → AreRuns xs r → AreRuns ys s → spell_runs xs ++ r ≡ spell_runs ys ++ s → (xs ≡ ys) × (r ≡ s)
one_value xs ys r s m n h k e = same_list IsRun spell_run one_run xs ys r s (value_ends r m) (value_ends s n) h k e
