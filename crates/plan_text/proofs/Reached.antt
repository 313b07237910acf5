-- How reading a text goes on, stops and ends.
use denote.Ref.{Bor}
use Rattle.std.proofs.Common.{◌≡◌, ◌∙◌, ◌+◌, ◌<◌, ◌≤◌, ◌==◌, Bool, true, false, ℕ, zero, suc, Option, List, [], ◌∷◌, ◌++◌, length, get_or, drop, map, refl, sym, ap, subst, arith, append_assoc, append-nil}
use Rattle.std.specs.Prelude.{IfErr, IfOk, MatchResult, Result, Ok, Err}
use Rattle.std.specs.List.{slice_split}
use Rattle.std.proofs.lemmas.Bool.Decides.{nat_tests}
use Rattle.std.proofs.lemmas.List.Splits.{length-slice_split}
use Rattle.plan_text.specs.Faults.{IsFaulty, TellsLine}
use Rattle.plan_text.specs.Lines.{IsLine, LineValue, line_text}
use Rattle.plan_text.specs.Parsing.{StopsAtFault}
use Rattle.plan_text.specs.Plans.{GroupValue, plan_value}
use Rattle.plan_text.specs.Progress.{Grows, IsReadTo, Stops}
use Rattle.plan_text.specs.Reading.{is_newline}
use Rattle.plan_text.specs.Standing.{StandingValue, behind, may_end, follows, next, takes}
use Rattle.plan_text.specs.Texts.{IsPlan, plan_text}
use Rattle.plan_text.specs.declared.fault.PlanTextFault.{PlanTextFault}
use Rattle.plan_text.specs.declared.fault.PlanTextFault.TheVariants as faults
use Rattle.plan_text.specs.declared.plan.Plan.{Plan}
use Rattle.plan_text.proofs.Once.{one_line}
use Rattle.plan_text.proofs.Steps.{goes_on}
use Rattle.plan_text.proofs.Whole.{one_text}
use Rattle.plan_text.proofs.Readers.{from_one}

abbrev pub Texts : Type 0
Texts = List (Bor (List ℕ))

abbrev pub texts : Texts → List (List ℕ)
texts ws = map {A = Bor (List ℕ)} {B = List ℕ} (λ w. w.now) ws

pub stops_here : (words : Texts) (i : ℕ) (d : Bor (List ℕ)) (s : StandingValue) (gs : List GroupValue) (current : Option GroupValue) → i < length words → IsReadTo (texts words) (texts (drop i words)) i s gs current
    → Stops s (get_or words i d).now → (f : PlanTextFault) → TellsLine s.groups i f → StopsAtFault (texts words) f
stops_here words i d s gs current lt to stops f tells = (
  (get_or words i d).now,
  texts (drop (suc i) words),
  i,
  s,
  record {
    ls = to.ls;
    front = to.front;
    whole = to.whole ∙ ap (λ l. to.front ++ l) (from_one words i d lt);
    number = to.number;
    read = to.read;
    stands = to.holds.stands;
    stops = stops;
  },
  tells,
)

pub one_step : (words : Texts) (i : ℕ) (d : Bor (List ℕ)) (s t : StandingValue) (gs new : List GroupValue) (current now : Option GroupValue) (l : LineValue) → i < length words → IsReadTo (texts words) (texts (drop i words)) i s gs current
    → (IsLine l × ((get_or words i d).now ≡ line_text l)) × (follows s l ≡ true) → t ≡ behind l.kind s (get_or words i d).now → Grows s l gs current new now → IsReadTo (texts words) (texts (drop (i + 1) words)) (i + 1) t new now
one_step words i d s t gs new current now l lt to is at grows =
    let here : IsReadTo (texts words) ((get_or words i d).now ∷ texts (drop (suc i) words)) i s gs current = subst (λ r. IsReadTo (texts words) r i s gs current) (from_one words i d lt) to in
    let went = goes_on (texts words) (texts (drop (suc i) words)) (get_or words i d).now i s gs new current now l here is.0 is.1 grows in
    let place : next s l ≡ t = ap (behind l.kind s) (sym is.0.1) ∙ sym at in
    subst (λ n. IsReadTo (texts words) (texts (drop n words)) (i + 1) t new now) (plus i) (subst (λ z. IsReadTo (texts words) (texts (drop (suc i) words)) (i + 1) z new now) place went)
  where
    plus : (n : ℕ) → suc n ≡ n + 1
    plus n = omega arith

pub all_read : (words : Texts) (i : ℕ) (s : StandingValue) (gs : List GroupValue) (current : Option GroupValue) → length words ≤ i → i ≤ length words → IsReadTo (texts words) (texts (drop i words)) i s gs current → IsReadTo (texts words) [] (length (texts words)) s gs current
all_read words i s gs current le ge to =
    subst (λ n. IsReadTo (texts words) [] n s gs current) (same words i le ge) (subst (λ r. IsReadTo (texts words) r i s gs current) (ap texts (past words i le)) to)
  where
    past : (ws : Texts) (i : ℕ) → length ws ≤ i → drop i ws ≡ []
    past [] zero le = refl
    past [] (suc i) le = refl
    past (w ∷ ws) zero le = absurd (omega (arith, le))
    past (w ∷ ws) (suc i) le = past ws i (omega (arith, le))

    same : (ws : Texts) (i : ℕ) → length ws ≤ i → i ≤ length ws → i ≡ length (texts ws)
    same [] zero le ge = refl
    same [] (suc i) le ge = absurd (omega (arith, ge))
    same (w ∷ ws) zero le ge = absurd (omega (arith, le))
    same (w ∷ ws) (suc i) le ge = ap suc (same ws i (omega (arith, le)) (omega (arith, ge)))

pub next_stops : (s : StandingValue) (text : List ℕ) (v : LineValue) → IsLine v × (text ≡ line_text v) → takes v.kind v.said s text ≡ false → Stops s text
next_stops s text v is never = λ l form e.
    (let same : v ≡ l = one_line v l is.0 form (sym is.1 ∙ e) in
    subst (λ x. follows s x ≡ false) same (ap (takes v.kind v.said s) (sym is.1) ∙ never))

pub some_pieces : (text : List ℕ) → slice_split is_newline text ≡ [] → ⊥
some_pieces text e = omega (arith, length-slice_split is_newline text, ap length e)

pub is_memory : (f : PlanTextFault) → (((f ≡ faults.Memory) → ⊥) → ⊥) → f ≡ faults.Memory
is_memory (faults.Number line) h = absurd (h (λ e. absurd (cc e)))
is_memory (faults.NotBefore line) h = absurd (h (λ e. absurd (cc e)))
is_memory faults.Limit h = absurd (h (λ e. absurd (cc e)))
is_memory (faults.Line line) h = absurd (h (λ e. absurd (cc e)))
is_memory faults.Memory h = refl

not_zero : (n : ℕ) → (suc n == 0) ≡ false
not_zero n = grind (arith, nat_tests)

pub no_bytes : (text : List ℕ) (b : Bool) → b ≡ (length text == 0) → b ≡ true → text ≡ []
no_bytes [] b is true_one = refl
no_bytes (x ∷ text) b is true_one = absurd (let e : false ≡ true = sym (not_zero (length text)) ∙ sym is ∙ true_one in cc)

pub found_if : (text : List ℕ) (gs : List GroupValue) (r : Result Plan PlanTextFault) → IfOk r (λ p. plan_value p ≡ gs) → IsPlan gs × (text ≡ plan_text gs) → IfOk r (λ p. IsPlan (plan_value p) × (text ≡ plan_text (plan_value p)))
found_if text gs (Ok p) same is = subst (λ q. IsPlan q × (text ≡ plan_text q)) (sym same) is
found_if text gs (Err e) same is = tt

pub only_if : (text : List ℕ) (gs : List GroupValue) (r : Result Plan PlanTextFault) → IfOk r (λ p. plan_value p ≡ gs) → IfErr r (λ e. e ≡ faults.Memory) → IsPlan gs × (text ≡ plan_text gs)
    → (p : List GroupValue) → IsPlan p → text ≡ plan_text p → MatchResult r (λ q. plan_value q ≡ p) (λ e. e ≡ faults.Memory)
only_if text gs (Ok q) same err is p form e = same ∙ one_text gs p is.0 form (sym is.1 ∙ e)
only_if text gs (Err f) same err is p form e = err

-- which line of the text is faulty

pub stopped_at : (text : List ℕ) (lines : List (List ℕ)) (tail : List ℕ) (f : PlanTextFault) → slice_split is_newline text ≡ lines ++ (tail ∷ []) → StopsAtFault lines f → (n groups : ℕ) × IsFaulty text n groups × TellsLine groups n f
stopped_at text lines tail f cut (here, rest, n, s, stop, tells) = (
  n,
  s.groups,
  record {
    ls = stop.ls;
    front = stop.front;
    here = here;
    rest = rest ++ (tail ∷ []);
    cut = cut ∙ ap (λ l. l ++ (tail ∷ [])) stop.whole ∙ append_assoc stop.front (here ∷ rest) (tail ∷ []);
    number = stop.number;
    read = stop.read;
    begun = ap (λ (z : StandingValue). z.groups) stop.stands;
    inside = λ some. subst (λ z. Stops z here) (sym stop.stands) stop.stops;
    last = λ none bytes. absurd (some_rest rest none);
  },
  tells,
)
  where
    some_rest : (ts : List (List ℕ)) → ts ++ (tail ∷ []) ≡ [] → ⊥
    some_rest [] e = omega (arith, ap length e)
    some_rest (t ∷ ts) e = omega (arith, ap length e)

pub stopped_last : (text : List ℕ) (lines : List (List ℕ)) (tail : List ℕ) (f : PlanTextFault) (s : StandingValue) (gs : List GroupValue) (current : Option GroupValue) → slice_split is_newline text ≡ lines ++ (tail ∷ []) → IsReadTo lines [] (length lines) s gs current
    → (tail ≡ [] → may_end s.place ≡ false) → TellsLine s.groups (length lines) f → (n groups : ℕ) × IsFaulty text n groups × TellsLine groups n f
stopped_last text lines tail f s gs current cut to unfinished tells = (
  length lines,
  s.groups,
  record {
    ls = to.ls;
    front = to.front;
    here = tail;
    rest = [];
    cut = cut ∙ ap (λ l. l ++ (tail ∷ [])) (to.whole ∙ append-nil to.front);
    number = to.number;
    read = to.read;
    begun = ap (λ (z : StandingValue). z.groups) to.holds.stands;
    inside = λ some. absurd (some refl);
    last = λ none bytes. ap (λ (z : StandingValue). may_end z.place) to.holds.stands ∙ unfinished bytes;
  },
  tells,
)

pub tells_all : (ws : Texts) (groups begun : ℕ) (f : PlanTextFault) → begun ≡ groups → TellsLine groups (length ws) f → TellsLine begun (length (texts ws)) f
tells_all ws groups begun f is tells = subst (λ g. TellsLine g (length (texts ws)) f) (sym is) (subst (λ n. TellsLine groups n f) (same ws) tells)
  where
    same : (ws : Texts) → length ws ≡ length (texts ws)
    same [] = refl
    same (w ∷ ws) = ap suc (same ws)
