-- Reading goes on line by line, from the first line to the end.
use Rattle.std.proofs.Common.{◌≡◌, ◌∙◌, ◌+◌, ◌&&◌, ◌==◌, true, false, ℕ, Option, None, Some, List, [], ◌∷◌, ◌++◌, length, suc, map, refl, sym, ap, subst, arith, append_assoc, append-nil}
use Rattle.std.specs.Prelude.{nat_lt}
use Rattle.std.specs.List.{AllByRecursion, flat_map}
use Rattle.std.specs.Cmp.Derive.{both_true}
use Rattle.std.proofs.lemmas.Bool.{and_parts, eqb-true}
use Rattle.std.proofs.lemmas.Grind.{flat_map-append}
use Rattle.plan_text.specs.Drafts.{FitsPlace, FitsGroup, GrowsBy, all_groups, begun, lines_so_far}
use Rattle.plan_text.specs.Lines.{IsLine, LineValue, Said, line_of, line_text}
use Rattle.plan_text.specs.Plans.{GroupValue, group_value}
use Rattle.plan_text.specs.Progress.{Grows, IsReadTo, body, body_of, is_inner}
use Rattle.plan_text.specs.Standing.{StandingValue, ends, follows, is_start, may_end, next, runs, standing, start, takes, behind}
use Rattle.plan_text.specs.Texts.{IsPlan, group_lines, groups_lines, plan_lines}
use Rattle.basics.specs.Limits.{most_groups}
use Rattle.plan_text.specs.declared.kind.Kind.{Kind}
use Rattle.plan_text.specs.declared.kind.Kind.TheVariants as kinds
use Rattle.plan_text.specs.declared.standing.Place.{Place}
use Rattle.plan_text.specs.declared.standing.Place.TheVariants as places
use Rattle.plan_text.specs.declared.plan.Group.{Group}
use Rattle.plan_text.proofs.Forms.{plan_is}
use Rattle.plan_text.proofs.Runs.{all_both, ends-append, runs-append}

-- one line more

map-snoc : (ls : List LineValue) (l : LineValue) → map line_text (ls ++ (l ∷ [])) ≡ map line_text ls ++ (line_text l ∷ [])
map-snoc [] l = refl
map-snoc (x ∷ ls) l = ap (λ t. line_text x ∷ t) (map-snoc ls l)

longer : (ts : List (List ℕ)) (t : List ℕ) → length (ts ++ (t ∷ [])) ≡ length ts + 1
longer [] t = refl
longer (x ∷ ts) t = let e = longer ts t in omega (arith, e)

pub goes_on : (texts rest : List (List ℕ)) (here : List ℕ) (n : ℕ) (s : StandingValue) (gs new : List GroupValue) (current now : Option GroupValue) (l : LineValue)
    → IsReadTo texts (here ∷ rest) n s gs current → IsLine l × (here ≡ line_text l) → follows s l ≡ true → Grows s l gs current new now → IsReadTo texts rest (n + 1) (next s l) new now
goes_on texts rest here n s gs new current now l to is f grows =
    let h = to.holds in record {
      ls = to.ls ++ (l ∷ []);
      front = to.front ++ (here ∷ []);
      whole = to.whole ∙ sym (append_assoc to.front (here ∷ []) rest);
      number = longer to.front here ∙ ap (λ k. k + 1) to.number;
      read = record {
        spelled = ap (λ t. t ++ (here ∷ [])) to.read.spelled ∙ ap (λ t. map line_text to.ls ++ (t ∷ [])) is.1 ∙ sym (map-snoc to.ls l);
        form = all_both to.ls (l ∷ []) to.read.form (is.0, tt);
        follow = runs-append start to.ls (l ∷ []) ∙ both_true to.read.follow (ap (λ z. runs z (l ∷ [])) h.stands ∙ both_true f refl);
      };
      holds = record {
        stands = ends-append start to.ls (l ∷ []) ∙ ap (λ z. next z l) h.stands;
        lines = flat_map-append body to.ls (l ∷ []) ∙ ap (λ x. flat_map body to.ls ++ x) (append-nil (body l)) ∙ ap (λ x. x ++ body l) h.lines ∙ sym grows.lines;
        fits = grows.fits;
        count = grows.count;
      };
    }

pub begins : (texts : List (List ℕ)) (none : List GroupValue) → none ≡ [] → IsReadTo texts texts 0 start none None
begins texts none e = record {
  ls = [];
  front = [];
  whole = refl;
  number = refl;
  read = record { spelled = refl; form = tt; follow = refl };
  holds = record { stands = refl; lines = rw e refl; fits = tt; count = rw e refl };
}

-- what a line adds

pub plan_grows : (s : StandingValue) (gs : List GroupValue) (current : Option GroupValue) → FitsPlace s.place current → s.groups ≡ begun gs current → follows s (line_of kinds.Plan tt) ≡ true → Grows s (line_of kinds.Plan tt) gs current gs current
plan_grows s gs None fits count f = record { lines = sym (append-nil (lines_so_far gs None)); fits = tt; count = count }
plan_grows s gs (Some g) fits count f = absurd (go s.place f fits)
  where
    go : (p : Place) → is_start p ≡ true → FitsGroup p g → ⊥
    go places.Start e h = h
    go places.Header e h = h
    go places.Group e h = absurd (let x : false ≡ true = e in cc)
    go places.After e h = absurd (let x : false ≡ true = e in cc)
    go places.Removals e h = absurd (let x : false ≡ true = e in cc)
    go places.Additions e h = absurd (let x : false ≡ true = e in cc)

number_of : (s : StandingValue) (n : ℕ) → follows s (line_of kinds.Group n) ≡ true → n ≡ s.groups + 1
number_of s n f = eqb-true n (s.groups + 1) (and_parts (n == (s.groups + 1)) (nat_lt s.groups most_groups) (and_parts (may_end s.place) ((n == (s.groups + 1)) && nat_lt s.groups most_groups) f).1).0

bare_lines : (n : ℕ) (g : GroupValue) → FitsGroup places.Group g → group_lines n g ≡ line_of kinds.Group n ∷ []
bare_lines n g h = go g.after g.removals g.additions h.0 h.1 h.2
  where
    go : (ns : List ℕ) (rs : List _) (xs : List _) → ns ≡ [] → rs ≡ [] → xs ≡ [] → group_lines n (record { after = ns; removals = rs; additions = xs }) ≡ line_of kinds.Group n ∷ []
    go ns rs xs e f k = rw (e, f, k) refl

pub first_group : (s : StandingValue) (n : ℕ) (gs : List GroupValue) (g : GroupValue) → s.groups ≡ begun gs None → follows s (line_of kinds.Group n) ≡ true → FitsGroup places.Group g
    → Grows s (line_of kinds.Group n) gs None gs (Some g)
first_group s n gs g count f bare =
    let number : n ≡ length gs + 1 = number_of s n f ∙ ap (λ k. k + 1) count in record {
      lines = ap (λ l. groups_lines 1 gs ++ l) (bare_lines (length gs + 1) g bare ∙ ap (λ k. line_of kinds.Group k ∷ []) (sym number))
          ∙ ap (λ l. l ++ (line_of kinds.Group n ∷ [])) (sym (append-nil (groups_lines 1 gs)));
      fits = bare;
      count = ap (λ k. k + 1) count;
    }

groups-snoc : (n : ℕ) (gs : List GroupValue) (g : GroupValue) → groups_lines n (gs ++ (g ∷ [])) ≡ groups_lines n gs ++ group_lines (n + length gs) g
groups-snoc n [] g = append-nil (group_lines n g) ∙ ap (λ k. group_lines k g) (zero_right n)
  where
    zero_right : (n : ℕ) → n ≡ n + 0
    zero_right n = omega arith
groups-snoc n (x ∷ gs) g =
    ap (λ l. group_lines n x ++ l) (groups-snoc (n + 1) gs g)
    ∙ sym (append_assoc (group_lines n x) (groups_lines (n + 1) gs) (group_lines (n + 1 + length gs) g))
    ∙ ap (λ k. (group_lines n x ++ groups_lines (n + 1) gs) ++ group_lines k g) (later n (length gs))
  where
    later : (n k : ℕ) → n + 1 + k ≡ n + suc k
    later n k = omega arith

-- the group that was read last is whole
closed : (gs : List GroupValue) (g : GroupValue) → groups_lines 1 (gs ++ (g ∷ [])) ≡ lines_so_far gs (Some g)
closed gs g = groups-snoc 1 gs g ∙ ap (λ k. groups_lines 1 gs ++ group_lines k g) (turn (length gs))
  where
    turn : (k : ℕ) → 1 + k ≡ k + 1
    turn k = omega arith

length-snoc : (gs : List GroupValue) (g : GroupValue) → length (gs ++ (g ∷ [])) ≡ length gs + 1
length-snoc [] g = refl
length-snoc (x ∷ gs) g = ap suc (length-snoc gs g) ∙ next_is (length gs)
  where
    next_is : (k : ℕ) → suc (k + 1) ≡ suc k + 1
    next_is k = omega arith

pub next_group : (s : StandingValue) (n : ℕ) (gs new : List GroupValue) (g h : GroupValue) → s.groups ≡ begun gs (Some g) → follows s (line_of kinds.Group n) ≡ true → FitsGroup places.Group h → new ≡ gs ++ (g ∷ [])
    → Grows s (line_of kinds.Group n) gs (Some g) new (Some h)
next_group s n gs new g h count f bare pushed =
    let long : length new ≡ length gs + 1 = ap length pushed ∙ length-snoc gs g in
    let number : n ≡ length new + 1 = number_of s n f ∙ ap (λ k. k + 1) (count ∙ sym long) in record {
      lines = ap (λ l. groups_lines 1 new ++ l) (bare_lines (length new + 1) h bare ∙ ap (λ k. line_of kinds.Group k ∷ []) (sym number))
          ∙ ap (λ x. groups_lines 1 x ++ (line_of kinds.Group n ∷ [])) pushed ∙ ap (λ l. l ++ (line_of kinds.Group n ∷ [])) (closed gs g);
      fits = bare;
      count = ap (λ k. k + 1) (count ∙ sym long);
    }

pub inner_grows : (gs : List GroupValue) (g h : GroupValue) (l : LineValue) → GrowsBy g h l → lines_so_far gs (Some h) ≡ lines_so_far gs (Some g) ++ (l ∷ [])
inner_grows gs g h l grows =
    ap (λ x. groups_lines 1 gs ++ x) (grows (length gs + 1)) ∙ sym (append_assoc (groups_lines 1 gs) (group_lines (length gs + 1) g) (l ∷ []))

-- the end of a text

abbrev IsAlike : List LineValue → Type 0
IsAlike ls = (s : StandingValue) → is_start s.place ≡ false → runs s ls ≡ true → flat_map body ls ≡ ls

one_alike : (k : Kind) (said : Said k) (s : StandingValue) (ls : List LineValue) → IsAlike ls → is_start s.place ≡ false → takes k said s (line_text (line_of k said)) ≡ true → runs (behind k s (line_text (line_of k said))) ls ≡ true → flat_map body (line_of k said ∷ ls) ≡ line_of k said ∷ ls
one_alike kinds.Plan said s ls ih p f r = absurd (let e : false ≡ true = sym p ∙ f in cc)
one_alike kinds.Group n s ls ih p f r = ap (λ x. line_of kinds.Group n ∷ x) (ih _ refl r)
one_alike kinds.After ns s ls ih p f r = ap (λ x. line_of kinds.After ns ∷ x) (ih _ refl r)
one_alike kinds.Remove q s ls ih p f r = ap (λ x. line_of kinds.Remove q ∷ x) (ih _ refl r)
one_alike kinds.Add a s ls ih p f r = ap (λ x. line_of kinds.Add a ∷ x) (ih _ refl r)
one_alike kinds.Bind b s ls ih p f r = ap (λ x. line_of kinds.Bind b ∷ x) (ih s p r)

no_header : (ls : List LineValue) → IsAlike ls
no_header [] s p r = refl
no_header (l ∷ ls) s p r =
    let both = and_parts (follows s l) (runs (next s l) ls) r in
    one_alike l.kind l.said s ls (no_header ls) p both.0 both.1

header_first : (ls : List LineValue) → runs start ls ≡ true → may_end (ends start ls).place ≡ true → ls ≡ line_of kinds.Plan tt ∷ flat_map body ls
header_first [] r e = absurd (let x : false ≡ true = e in cc)
header_first (l ∷ ls) r e = go l.kind l.said (and_parts (follows start l) (runs (next start l) ls) r)
  where
    go : (k : Kind) (said : Said k) → (takes k said start (line_text (line_of k said)) ≡ true) × (runs (behind k start (line_text (line_of k said))) ls ≡ true) → line_of k said ∷ ls ≡ line_of kinds.Plan tt ∷ flat_map body (line_of k said ∷ ls)
    go kinds.Plan said h = ap (λ x. line_of kinds.Plan tt ∷ x) (sym (no_header ls (standing 0 places.Header []) refl h.1))
    go kinds.Group n h = absurd (let x : false ≡ true = h.0 in cc)
    go kinds.After ns h = absurd (let x : false ≡ true = h.0 in cc)
    go kinds.Remove q h = absurd (let x : false ≡ true = h.0 in cc)
    go kinds.Add a h = absurd (let x : false ≡ true = h.0 in cc)
    go kinds.Bind b h = absurd (let x : false ≡ true = h.0 in cc)

all_lines : (gs : List GroupValue) (current : Option GroupValue) → groups_lines 1 (all_groups gs current) ≡ lines_so_far gs current
all_lines gs None = sym (append-nil (groups_lines 1 gs))
all_lines gs (Some g) = closed gs g

-- what has been read up to here is a whole plan
pub whole_plan : (texts : List (List ℕ)) (n : ℕ) (s : StandingValue) (gs : List GroupValue) (current : Option GroupValue) → IsReadTo texts [] n s gs current → may_end s.place ≡ true
    → IsPlan (all_groups gs current) × (texts ≡ map line_text (plan_lines (all_groups gs current)))
whole_plan texts n s gs current to ended_at =
    let h = to.holds in
    let at_end : may_end (ends start to.ls).place ≡ true = ap (λ (z : StandingValue). may_end z.place) h.stands ∙ ended_at in
    let same : to.ls ≡ plan_lines (all_groups gs current) = header_first to.ls to.read.follow at_end ∙ ap (λ x. line_of kinds.Plan tt ∷ x) (h.lines ∙ sym (all_lines gs current)) in (
      plan_is (all_groups gs current) (subst (AllByRecursion IsLine) same to.read.form) (ap (runs start) (sym same) ∙ to.read.follow) (ap (λ ls. may_end (ends start ls).place) (sym same) ∙ at_end),
      to.whole ∙ append-nil to.front ∙ to.read.spelled ∙ ap (map line_text) same,
    )

-- a line inside a group

pub body_inner : (k : Kind) (said : Said k) → is_inner k ≡ true → line_of k said ∷ [] ≡ body_of k said
body_inner kinds.Plan said e = absurd (let x : false ≡ true = e in cc)
body_inner kinds.Group n e = absurd (let x : false ≡ true = e in cc)
body_inner kinds.After ns e = refl
body_inner kinds.Remove r e = refl
body_inner kinds.Add a e = refl
body_inner kinds.Bind b e = refl

inner_groups : (k : Kind) (s : StandingValue) (text : List ℕ) → is_inner k ≡ true → (behind k s text).groups ≡ s.groups
inner_groups kinds.Plan s text e = absurd (let x : false ≡ true = e in cc)
inner_groups kinds.Group s text e = absurd (let x : false ≡ true = e in cc)
inner_groups kinds.After s text e = refl
inner_groups kinds.Remove s text e = refl
inner_groups kinds.Add s text e = refl
inner_groups kinds.Bind s text e = refl

pub inner_added : (s : StandingValue) (l : LineValue) (gs : List GroupValue) (g h : GroupValue) → s.groups ≡ begun gs (Some g) → is_inner l.kind ≡ true → GrowsBy g h l → FitsGroup (next s l).place h → Grows s l gs (Some g) gs (Some h)
inner_added s l gs g h count inner grows fits = record {
  lines = inner_grows gs g h l grows ∙ ap (λ x. lines_so_far gs (Some g) ++ x) (body_inner l.kind l.said inner);
  fits = fits;
  count = inner_groups l.kind s (line_text l) inner ∙ count;
}

pub values-snoc : (was now : List Group) (g : Group) → now ≡ was ++ (g ∷ []) → map group_value now ≡ map group_value was ++ (group_value g ∷ [])
values-snoc was now g e = ap (map group_value) e ∙ go was
  where
    go : (gs : List Group) → map group_value (gs ++ (g ∷ [])) ≡ map group_value gs ++ (group_value g ∷ [])
    go [] = refl
    go (x ∷ gs) = ap (λ l. group_value x ∷ l) (go gs)
