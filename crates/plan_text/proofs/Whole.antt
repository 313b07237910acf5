-- A text is one plan at most, and none where reading stops.
use Rattle.std.proofs.Common.{◌≡◌, ◌∙◌, true, false, ℕ, Option, List, [], ◌∷◌, ◌++◌, length, get_or, drop, map, refl, sym, ap, subst, arith, append-nil}
use Rattle.std.specs.List.{AllByRecursion, slice_split}
use Rattle.std.proofs.lemmas.Bool.{and_parts}
use Rattle.plan_text.specs.Lines.{IsLine, LineValue, line_text}
use Rattle.plan_text.specs.Plans.{GroupValue}
use Rattle.plan_text.specs.Progress.{AreStopped, IsReadTo}
use Rattle.plan_text.specs.Reading.{is_newline}
use Rattle.plan_text.specs.Standing.{StandingValue, ends, follows, may_end, next, runs, start}
use Rattle.plan_text.specs.Texts.{IsPlan, plan_lines, plan_text}
use Rattle.plan_text.proofs.Forms.{plan_ends, plan_form}
use Rattle.plan_text.proofs.Gathered.{one_plan}
use Rattle.plan_text.proofs.Once.{lines_joined, lines_split, one_line, one_list}
use Rattle.plan_text.specs.Drafts.{all_groups}
use Rattle.plan_text.proofs.Steps.{whole_plan}

-- two lists with one more at the end
last_same : (xs ys : List (List ℕ)) (a b : List ℕ) → xs ++ (a ∷ []) ≡ ys ++ (b ∷ []) → (xs ≡ ys) × (a ≡ b)
last_same [] [] a b e = (refl, ap (λ l. get_or l 0 a) e)
last_same [] (y ∷ []) a b e = absurd (omega (arith, ap length e))
last_same [] (y ∷ z ∷ ys) a b e = absurd (omega (arith, ap length e))
last_same (x ∷ []) [] a b e = absurd (omega (arith, ap length e))
last_same (x ∷ z ∷ xs) [] a b e = absurd (omega (arith, ap length e))
last_same (x ∷ xs) (y ∷ ys) a b e =
    let rest = last_same xs ys a b (ap (drop 1) e) in
    (ap (λ h. h ∷ xs) (ap (λ l. get_or l 0 x) e) ∙ ap (λ l. y ∷ l) rest.0, rest.1)

pub one_text : (p q : List GroupValue) → IsPlan p → IsPlan q → plan_text p ≡ plan_text q → p ≡ q
one_text p q is js e =
    let same = last_same (map line_text (plan_lines p)) (map line_text (plan_lines q)) [] [] (sym (lines_split (plan_lines p) (plan_form p is)) ∙ ap (slice_split is_newline) e ∙ lines_split (plan_lines q) (plan_form q js)) in
    one_plan p q (one_list (plan_lines p) (plan_lines q) (plan_form p is) (plan_form q js) same.0)

-- the lines of a text that is a plan, and what stands behind the last newline
parts_of : (text : List ℕ) (lines : List (List ℕ)) (tail : List ℕ) (gs : List GroupValue) → slice_split is_newline text ≡ lines ++ (tail ∷ []) → IsPlan gs → text ≡ plan_text gs
    → (lines ≡ map line_text (plan_lines gs)) × (tail ≡ [])
parts_of text lines tail gs cut is e =
    last_same lines (map line_text (plan_lines gs)) tail [] (sym cut ∙ ap (slice_split is_newline) e ∙ lines_split (plan_lines gs) (plan_form gs is))

-- lines that all follow have none at which reading stops
stops_nowhere : (s : StandingValue) (ls all : List LineValue) (here : List ℕ) (rest : List (List ℕ)) → AllByRecursion IsLine ls → AllByRecursion IsLine all → map line_text ls ++ (here ∷ rest) ≡ map line_text all → runs s all ≡ true
    → ((l : LineValue) → IsLine l → here ≡ line_text l → follows (ends s ls) l ≡ false) → ⊥
stops_nowhere s [] [] here rest f g e r stop = absurd (omega (arith, ap length e))
stops_nowhere s [] (m ∷ all) here rest f g e r stop =
    let no = stop m g.0 (ap (λ l. get_or l 0 here) e) in
    let yes = (and_parts (follows s m) (runs (next s m) all) r).0 in
    absurd (let x : false ≡ true = sym no ∙ yes in cc)
stops_nowhere s (l ∷ ls) [] here rest f g e r stop = absurd (omega (arith, ap length e))
stops_nowhere s (l ∷ ls) (m ∷ all) here rest f g e r stop =
    let same : l ≡ m = one_line l m f.0 g.0 (ap (λ x. get_or x 0 (line_text l)) e) in
    stops_nowhere (next s m) ls all here rest f.1 g.1 (ap (drop 1) e) (and_parts (follows s m) (runs (next s m) all) r).1
    (subst (λ x. (k : LineValue) → IsLine k → here ≡ line_text k → follows (ends (next s x) ls) k ≡ false) same stop)

pub stopped : (text : List ℕ) (lines : List (List ℕ)) (tail here : List ℕ) (rest : List (List ℕ)) (n : ℕ) (s : StandingValue) → slice_split is_newline text ≡ lines ++ (tail ∷ []) → AreStopped lines here rest n s
    → (gs : List GroupValue) → IsPlan gs → text ≡ plan_text gs → ⊥
stopped text lines tail here rest n s cut at_line gs is e =
    let parts = parts_of text lines tail gs cut is e in
    stops_nowhere start at_line.ls (plan_lines gs) here rest at_line.read.form (plan_form gs is) (ap (λ l. l ++ (here ∷ rest)) (sym at_line.read.spelled) ∙ sym at_line.whole ∙ parts.0) (plan_ends gs is).0
    (subst (λ z. (k : LineValue) → IsLine k → here ≡ line_text k → follows z k ≡ false) (sym at_line.stands) at_line.stops)

-- lines that have all been read are no plan where reading may not end
pub unfinished : (text : List ℕ) (lines : List (List ℕ)) (tail : List ℕ) (n : ℕ) (s : StandingValue) (was : List GroupValue) (current : Option GroupValue) → slice_split is_newline text ≡ lines ++ (tail ∷ []) → IsReadTo lines [] n s was current
    → may_end s.place ≡ false → (gs : List GroupValue) → IsPlan gs → text ≡ plan_text gs → ⊥
unfinished text lines tail n s was current cut to not_yet gs is e =
    let parts = parts_of text lines tail gs cut is e in
    let same : to.ls ≡ plan_lines gs = one_list to.ls (plan_lines gs) to.read.form (plan_form gs is) (sym to.read.spelled ∙ sym (append-nil to.front) ∙ sym to.whole ∙ parts.0) in
    let place : may_end s.place ≡ true = ap (λ (z : StandingValue). may_end z.place) (sym to.holds.stands) ∙ ap (λ ls. may_end (ends start ls).place) same ∙ (plan_ends gs is).1 in
    absurd (let x : false ≡ true = sym not_yet ∙ place in cc)

pub tail_none : (text : List ℕ) (lines : List (List ℕ)) (tail : List ℕ) → slice_split is_newline text ≡ lines ++ (tail ∷ []) → (tail ≡ [] → ⊥) → (gs : List GroupValue) → IsPlan gs → text ≡ plan_text gs → ⊥
tail_none text lines tail cut some gs is e = some (parts_of text lines tail gs cut is e).1

-- lines that have been read to an end are a plan
pub finished : (text : List ℕ) (lines : List (List ℕ)) (tail : List ℕ) (n : ℕ) (s : StandingValue) (was read : List GroupValue) (current : Option GroupValue) → slice_split is_newline text ≡ lines ++ (tail ∷ []) → tail ≡ [] → IsReadTo lines [] n s was current
    → may_end s.place ≡ true → read ≡ all_groups was current → IsPlan read × (text ≡ plan_text read)
finished text lines tail n s was read current cut none to end same =
    let w = whole_plan lines n s was current to end in
    subst (λ gs. IsPlan gs × (text ≡ plan_text gs)) (sym same)
    (w.0, lines_joined text (plan_lines (all_groups was current)) (cut ∙ ap (λ t. lines ++ (t ∷ [])) none ∙ ap (λ l. l ++ ([] ∷ [])) w.1))
