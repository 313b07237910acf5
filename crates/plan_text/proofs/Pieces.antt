-- What is printed piece by piece is the text of the lines.
use Rattle.std.proofs.Common.{◌≡◌, ◌∙◌, ◌+◌, ℕ, List, [], ◌∷◌, ◌++◌, ◌<◌, ◌≤◌, zero, get_or, take, map, length, suc, refl, sym, ap, arith, append_assoc, append-nil}
use Rattle.std.specs.Prelude.{codes, decimal}
use Rattle.std.specs.List.{flat_map, join_with_byte}
use Rattle.std.proofs.lemmas.Grind.{flat_map-append}
use Rattle.build_pool.specs.declared.orders.Order.{Order}
use Rattle.dep_atom.specs.declared.slot.Bind.{Bind}
use Rattle.plan_text.specs.Lines.{LineValue, line_of}
use Rattle.plan_text.specs.Plans.{GroupValue, group_value}
use Rattle.plan_text.specs.Printed.{addition_text, after_text, bind_text, changes_text, entry_text, group_text, groups_text, number_text, removal_text, spaced}
use Rattle.plan_text.specs.Texts.{add_line, addition_lines, after_lines, ended, group_lines, groups_lines, plan_text, remove_line}
use Rattle.plan_text.specs.Words.{addition_word}
use Rattle.plan_text.specs.declared.kind.Kind.TheVariants as kinds
use Rattle.plan_text.specs.declared.plan.Group.{Group}
use Rattle.plan_text.specs.declared.plan.Removal.{Removal}
use Rattle.plan_text.proofs.Steps.{values-snoc}

abbrev text_of : List LineValue → List ℕ
text_of ls = flat_map ended ls

pub joined : (w : List ℕ) (ws : List (List ℕ)) → join_with_byte 32 (w ∷ ws) ≡ w ++ flat_map spaced ws
joined w [] = sym (append-nil w)
joined w (v ∷ ws) = ap (λ l. w ++ (32 ∷ l)) (joined v ws)

removals : (rs : List Removal) → text_of (map remove_line rs) ≡ flat_map removal_text rs
removals [] = refl
removals (r ∷ rs) = ap (λ l. removal_text r ++ l) (removals rs)

binds : (bs : List Bind) → text_of (map (line_of kinds.Bind) bs) ≡ flat_map bind_text bs
binds [] = refl
binds (b ∷ bs) = ap (λ l. bind_text b ++ l) (binds bs)

entered : (a : Order) → ended (add_line a) ≡ entry_text a
entered a =
    ap (λ l. (codes "add" ++ (32 ∷ l)) ++ (10 ∷ [])) (joined (addition_word a) a.enabled)
    ∙ ap (λ l. codes "add " ++ l) (append_assoc (addition_word a) (flat_map spaced a.enabled) (10 ∷ []))

additions : (xs : List Order) → text_of (flat_map addition_lines xs) ≡ flat_map addition_text xs
additions [] = refl
additions (a ∷ xs) =
    flat_map-append ended (addition_lines a) (flat_map addition_lines xs)
    ∙ ap (λ l. (ended (add_line a) ++ l) ++ text_of (flat_map addition_lines xs)) (binds a.binds)
    ∙ ap (λ l. (l ++ flat_map bind_text a.binds) ++ text_of (flat_map addition_lines xs)) (entered a)
    ∙ ap (λ l. addition_text a ++ l) (additions xs)

spaced_numbers : (ns : List ℕ) → flat_map spaced (map decimal ns) ≡ flat_map number_text ns
spaced_numbers [] = refl
spaced_numbers (n ∷ ns) = ap (λ l. number_text n ++ l) (spaced_numbers ns)

afters : (ns : List ℕ) → text_of (after_lines ns) ≡ after_text ns
afters [] = refl
afters (n ∷ ns) =
    append-nil (ended (line_of kinds.After (n ∷ ns)))
    ∙ ap (λ l. l ++ (10 ∷ [])) (joined (codes "after") (map decimal (n ∷ ns)))
    ∙ ap (λ l. (codes "after" ++ l) ++ (10 ∷ [])) (spaced_numbers (n ∷ ns))

grouped : (n : ℕ) (g : GroupValue) → text_of (group_lines n g) ≡ group_text n g
grouped n g =
    ap (λ l. ended (line_of kinds.Group n) ++ l)
    (flat_map-append ended (after_lines g.after) (map remove_line g.removals ++ flat_map addition_lines g.additions)
    ∙ ap (λ l. l ++ text_of (map remove_line g.removals ++ flat_map addition_lines g.additions)) (afters g.after)
    ∙ ap (λ l. after_text g.after ++ l) (flat_map-append ended (map remove_line g.removals) (flat_map addition_lines g.additions)
    ∙ ap (λ l. l ++ text_of (flat_map addition_lines g.additions)) (removals g.removals)
    ∙ ap (λ l. flat_map removal_text g.removals ++ l) (additions g.additions)))
    ∙ ap (λ l. codes "group " ++ l) (append_assoc (decimal n) (10 ∷ []) (after_text g.after ++ changes_text g))

groups : (n : ℕ) (gs : List GroupValue) → text_of (groups_lines n gs) ≡ groups_text n gs
groups n [] = refl
groups n (g ∷ gs) =
    flat_map-append ended (group_lines n g) (groups_lines (n + 1) gs)
    ∙ ap (λ l. l ++ text_of (groups_lines (n + 1) gs)) (grouped n g) ∙ ap (λ l. group_text n g ++ l) (groups (n + 1) gs)

pub printed : (gs : List GroupValue) → codes "plan 1\n" ++ groups_text 1 gs ≡ plan_text gs
printed gs = ap (λ l. codes "plan 1\n" ++ l) (sym (groups 1 gs))

-- one group more
pub groups-more : (n : ℕ) (gs : List GroupValue) (g : GroupValue) → groups_text n (gs ++ (g ∷ [])) ≡ groups_text n gs ++ group_text (n + length gs) g
groups-more n [] g = append-nil (group_text n g) ∙ ap (λ k. group_text k g) (zero_right n)
  where
    zero_right : (n : ℕ) → n ≡ n + 0
    zero_right n = omega arith
groups-more n (x ∷ gs) g =
    ap (λ l. group_text n x ++ l) (groups-more (n + 1) gs g)
    ∙ sym (append_assoc (group_text n x) (groups_text (n + 1) gs) (group_text (n + 1 + length gs) g))
    ∙ ap (λ k. (group_text n x ++ groups_text (n + 1) gs) ++ group_text k g) (next n (length gs))
  where
    next : (n k : ℕ) → n + 1 + k ≡ n + suc k
    next n k = omega arith

-- the printing of groups, one by one

take_more : (xs : List Group) (at : ℕ) (d : Group) → at < length xs → take (at + 1) xs ≡ take at xs ++ (get_or xs at d ∷ [])
take_more xs at d lt = ap (λ n. take n xs) (next at) ∙ go xs at lt
  where
    next : (n : ℕ) → n + 1 ≡ suc n
    next n = omega arith

    go : (xs : List Group) (at : ℕ) → at < length xs → take (suc at) xs ≡ take at xs ++ (get_or xs at d ∷ [])
    go [] at lt = absurd (omega (arith, lt))
    go (x ∷ xs) zero lt = refl
    go (x ∷ xs) (suc at) lt = ap (λ l. x ∷ l) (go xs at (omega (arith, lt)))

length_of : (xs : List Group) (at : ℕ) → at < length xs → 1 + length (map group_value (take at xs)) ≡ at + 1
length_of [] at lt = absurd (omega (arith, lt))
length_of (x ∷ xs) zero lt = refl
length_of (x ∷ xs) (suc at) lt = let e = length_of xs at (omega (arith, lt)) in omega (arith, e)

pub print_step : (pre old now : List ℕ) (xs : List Group) (at : ℕ) (d g : Group) → at < length xs → old ≡ pre ++ groups_text 1 (map group_value (take at xs)) → g ≡ get_or xs at d → now ≡ old ++ group_text (at + 1) (group_value g)
    → now ≡ pre ++ groups_text 1 (map group_value (take (at + 1) xs))
print_step pre old now xs at d g lt before is pushed =
    let gs : List GroupValue = map group_value (take at xs) in
    let whole : map group_value (take (at + 1) xs) ≡ map group_value (take at xs) ++ (group_value g ∷ []) = values-snoc (take at xs) (take (at + 1) xs) g (take_more xs at d lt ∙ ap (λ x. take at xs ++ (x ∷ [])) (sym is)) in
    pushed ∙ ap (λ l. l ++ group_text (at + 1) (group_value g)) before ∙ append_assoc pre (groups_text 1 (map group_value (take at xs))) (group_text (at + 1) (group_value g))
    ∙ ap (λ n. pre ++ (groups_text 1 (map group_value (take at xs)) ++ group_text n (group_value g))) (sym (length_of xs at lt))
    ∙ ap (λ l. pre ++ l) (sym (groups-more 1 (map group_value (take at xs)) (group_value g))) ∙ ap (λ l. pre ++ groups_text 1 l) (sym whole)

take_whole : (xs : List Group) (at : ℕ) → length xs ≤ at → take at xs ≡ xs
take_whole [] zero le = refl
take_whole [] (suc at) le = refl
take_whole (x ∷ xs) zero le = absurd (omega (arith, le))
take_whole (x ∷ xs) (suc at) le = ap (λ l. x ∷ l) (take_whole xs at (omega (arith, le)))

pub print_end : (out : List ℕ) (xs all : List Group) (at : ℕ) → length xs ≤ at → xs ≡ all → out ≡ codes "plan 1\n" ++ groups_text 1 (map group_value (take at xs)) → out ≡ plan_text (map group_value all)
print_end out xs all at le same e =
    e ∙ ap (λ l. codes "plan 1\n" ++ groups_text 1 (map group_value l)) (take_whole xs at le ∙ same) ∙ printed (map group_value all)
