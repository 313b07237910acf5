-- A text is one line at most.
use Rattle.std.proofs.Common.{◌≡◌, ◌∙◌, ◌+◌, ◌<◌, ◌==◌, false, if◌then◌else◌, ℕ, zero, suc, List, [], ◌∷◌, ◌++◌, length, get_or, drop, map, refl, sym, ap, subst, arith}
use Rattle.std.specs.Prelude.{decimal}
use Rattle.std.specs.List.{All, AllByRecursion, flat_map, join_with_byte, slice_split}
use Rattle.std.specs.Str.Parse.{digits_value}
use Rattle.std.specs.Int.Digits.{digits_of}
use Rattle.std.proofs.lemmas.Fmt.{decimal-digits_of, decimal_is_IsNumeral}
use Rattle.std.proofs.lemmas.Bool.Decides.{nat_tests}
use Rattle.std.proofs.lemmas.List.Elements.{All-from_recursion}
use Rattle.std.proofs.lemmas.List.Splits.{join_with_byte-slice_split, slice_split_at, slice_split_none}
use Rattle.std.proofs.lemmas.Bool.{eq-eqb}
use Rattle.basics.proofs.Lists.{heads_and_tails}
use Rattle.pms_names.specs.Names.{IsName}
use Rattle.pms_names.specs.declared.kind.Kind.TheVariants.{Flag, Slot}
use Rattle.build_pool.specs.declared.orders.Order.{Order}
use Rattle.dep_atom.specs.Cuts.{is_plain}
use Rattle.dep_atom.specs.Ids.{IsId, id_text, name_and_version}
use Rattle.dep_atom.specs.declared.package.PackageId.{PackageId}
use Rattle.dep_atom.specs.declared.slot.Bind.{Bind}
use Rattle.dep_atom.proofs.Joined.{id_same}
use Rattle.dep_atom.proofs.Named.{joined_once}
use Rattle.plan_text.specs.Lines.{IsLine, IsSaid, LineValue, Said, head_text, line_of, line_text, line_words, said_words}
use Rattle.plan_text.specs.Numbers.{IsNumber}
use Rattle.plan_text.specs.Reading.{is_newline, is_space}
use Rattle.plan_text.specs.Spelled.{Lacks}
use Rattle.plan_text.specs.Texts.{ended}
use Rattle.plan_text.specs.Words.{IsBare, IsBind, IsRemoval, addition_word, bind_word, removal_word, slots_word}
use Rattle.plan_text.specs.declared.kind.Kind.{Kind}
use Rattle.plan_text.specs.declared.kind.Kind.TheVariants as kinds
use Rattle.plan_text.specs.declared.plan.Removal.{Removal}
use Rattle.plan_text.proofs.Split.{colon_apart, id_lacks, lacks-append, lacks-cons, lacks_if_plain, name_lacks}

-- two texts cut at the first such byte

tail_lacks : (c b : ℕ) (bs : List ℕ) → Lacks c (b ∷ bs) → Lacks c bs
tail_lacks c b bs h i lt = h (suc i) (omega (arith, lt))

pub cut_same : (c : ℕ) (a x b y : List ℕ) → Lacks c a → Lacks c x → a ++ (c ∷ b) ≡ x ++ (c ∷ y) → (a ≡ x) × (b ≡ y)
cut_same c [] [] b y h k e = (refl, ap (drop 1) e)
cut_same c [] (z ∷ x) b y h k e = absurd (k 0 (omega arith) (sym (ap (λ l. get_or l 0 0) e)))
cut_same c (w ∷ a) [] b y h k e = absurd (h 0 (omega arith) (ap (λ l. get_or l 0 0) e))
cut_same c (w ∷ a) (z ∷ x) b y h k e =
    let rest = cut_same c a x b y (tail_lacks c w a h) (tail_lacks c z x k) (ap (drop 1) e) in
    (ap (λ l. w ∷ l) rest.0 ∙ ap (λ i. i ∷ x) (ap (λ l. get_or l 0 0) e), rest.1)

pub one_id : (a b : PackageId) → IsId a → IsId b → id_text a ≡ id_text b → a ≡ b
one_id a b is js e =
    let cut = cut_same 47 a.name.category b.name.category (name_and_version a) (name_and_version b) (name_lacks _ 47 a.name.category refl is.category) (name_lacks _ 47 b.name.category refl js.category) e in
    let parts = joined_once a.name.«package» b.name.«package» a.version b.version is.version js.version cut.1 in
    id_same a.name.category a.name.«package» a.version b cut.0 parts.0 parts.1

pub one_removal : (a b : Removal) → IsRemoval a → IsRemoval b → removal_word a ≡ removal_word b → a ≡ b
one_removal a b is js e =
    let cut = cut_same 58 (id_text a.id) (id_text b.id) a.slot b.slot (id_lacks 58 a.id refl colon_apart is.id) (id_lacks 58 b.id refl colon_apart js.id) e in
    let ids : a.id ≡ b.id = one_id a.id b.id is.id js.id cut.0 in
    λ i. record { id = ids i; slot = cut.1 i }

pub one_bind : (a b : Bind) → IsBind a → IsBind b → bind_word a ≡ bind_word b → a ≡ b
one_bind a b is js e =
    let cut = cut_same 47 a.slot b.slot a.subslot b.subslot (name_lacks Slot 47 a.slot refl is.slot) (name_lacks Slot 47 b.slot refl js.slot) e in
    λ i. record { slot = cut.0 i; subslot = cut.1 i }

pub one_addition : (a b : Order) → IsBare a → IsBare b → addition_word a ∷ a.enabled ≡ addition_word b ∷ b.enabled → a ≡ b
one_addition a b is js e =
    let ws = heads_and_tails (addition_word a) (addition_word b) a.enabled b.enabled e in
    let cut = cut_same 58 (id_text a.id) (id_text b.id) (slots_word a.slot a.subslot) (slots_word b.slot b.subslot) (id_lacks 58 a.id refl colon_apart is.0.id) (id_lacks 58 b.id refl colon_apart js.0.id) ws.0 in
    let slots = cut_same 47 a.slot b.slot a.subslot b.subslot (name_lacks Slot 47 a.slot refl is.0.slot) (name_lacks Slot 47 b.slot refl js.0.slot) cut.1 in
    let ids : a.id ≡ b.id = one_id a.id b.id is.0.id js.0.id cut.0 in
    let none : a.binds ≡ b.binds = is.1 ∙ sym js.1 in
    λ i. record { id = ids i; slot = slots.0 i; subslot = slots.1 i; enabled = ws.1 i; binds = none i }

pub one_number : (n m : ℕ) → IsNumber n → IsNumber m → decimal n ≡ decimal m → n ≡ m
one_number n m is js e =
    sym (decimal_is_IsNumeral n (omega (arith, is.few))).1 ∙ ap (digits_value 10) e ∙ (decimal_is_IsNumeral m (omega (arith, js.few))).1

pub some_numbers : (ns ms : List ℕ) → AllByRecursion IsNumber ns → AllByRecursion IsNumber ms → map decimal ns ≡ map decimal ms → ns ≡ ms
some_numbers [] [] h k e = refl
some_numbers [] (m ∷ ms) h k e = absurd (omega (arith, ap length e))
some_numbers (n ∷ ns) [] h k e = absurd (omega (arith, ap length e))
some_numbers (n ∷ ns) (m ∷ ms) h k e =
    let both = heads_and_tails (decimal n) (decimal m) (map decimal ns) (map decimal ms) e in
    ap (λ x. x ∷ ns) (one_number n m h.0 k.0 both.0) ∙ ap (λ l. m ∷ l) (some_numbers ns ms h.1 k.1 both.1)

one_said : (kind : Kind) (a b : Said kind) → IsSaid kind a → IsSaid kind b → said_words kind a ≡ said_words kind b → line_of kind a ≡ line_of kind b
one_said kinds.Plan a b is js e = refl
one_said kinds.Group a b is js e = ap (line_of kinds.Group) (one_number a b is js (heads_and_tails (decimal a) (decimal b) [] [] e).0)
one_said kinds.After a b is js e = ap (line_of kinds.After) (some_numbers a b is.1 js.1 e)
one_said kinds.Remove a b is js e = ap (line_of kinds.Remove) (one_removal a b is js (heads_and_tails (removal_word a) (removal_word b) [] [] e).0)
one_said kinds.Add a b is js e = ap (line_of kinds.Add) (one_addition a b is js e)
one_said kinds.Bind a b is js e = ap (line_of kinds.Bind) (one_bind a b is js (heads_and_tails (bind_word a) (bind_word b) [] [] e).0)

-- the heads are told apart by their first two bytes
abbrev kind_of : List ℕ → Kind
kind_of h =
    if get_or h 0 0 == 112 then kinds.Plan
    else (if get_or h 0 0 == 103 then kinds.Group
    else (if get_or h 0 0 == 114 then kinds.Remove
    else (if get_or h 0 0 == 98 then kinds.Bind
    else (if get_or h 1 0 == 102 then kinds.After else kinds.Add))))

of_head : (k : Kind) → kind_of (head_text k) ≡ k
of_head kinds.Plan = refl
of_head kinds.Group = refl
of_head kinds.After = refl
of_head kinds.Remove = refl
of_head kinds.Add = refl
of_head kinds.Bind = refl

pub one_head : (k j : Kind) → head_text k ≡ head_text j → k ≡ j
one_head k j e = sym (of_head k) ∙ ap kind_of e ∙ of_head j

words_once : (l m : LineValue) → IsLine l → IsLine m → line_words l ≡ line_words m → l ≡ m
words_once l m is js e =
    let both = heads_and_tails (head_text l.kind) (head_text m.kind) (said_words l.kind l.said) (said_words m.kind m.said) e in
    subst (λ j. (b : Said j) → IsSaid j b → said_words l.kind l.said ≡ said_words j b → line_of l.kind l.said ≡ line_of j b)
    (one_head l.kind m.kind both.0) (λ b form. one_said l.kind l.said b is form) m.said js both.1

-- no word has a space or a newline

abbrev AllLack : ℕ → List (List ℕ) → Type 0
AllLack c ws = AllByRecursion (Lacks c) ws

record IsBlank (c : ℕ) : Type 0 where
  low : c < 47
  foreign : is_plain c ≡ false

digit_lacks : (c : ℕ) (ds : List ℕ) → c < 47 → Lacks c (map (λ d. 48 + d) ds)
digit_lacks c [] low i lt = absurd (omega (arith, lt))
digit_lacks c (d ∷ ds) low zero lt = λ e. omega (arith, e, low)
digit_lacks c (d ∷ ds) low (suc i) lt = digit_lacks c ds low i (omega (arith, lt))

digits_lack : (c n : ℕ) → c < 47 → IsNumber n → Lacks c (decimal n)
digits_lack c n low is = subst (Lacks c) (sym (decimal-digits_of n is.some (omega (arith, is.few)))) (digit_lacks c (digits_of 10 n) low)

head_lacks : (c : ℕ) (k : Kind) → IsBlank c → Lacks c (head_text k)
head_lacks c kinds.Plan b = lacks_if_plain c (head_text kinds.Plan) b.foreign (refl, (refl, (refl, (refl, tt))))
head_lacks c kinds.Group b = lacks_if_plain c (head_text kinds.Group) b.foreign (refl, (refl, (refl, (refl, (refl, tt)))))
head_lacks c kinds.After b = lacks_if_plain c (head_text kinds.After) b.foreign (refl, (refl, (refl, (refl, (refl, tt)))))
head_lacks c kinds.Remove b = lacks_if_plain c (head_text kinds.Remove) b.foreign (refl, (refl, (refl, (refl, (refl, (refl, tt))))))
head_lacks c kinds.Add b = lacks_if_plain c (head_text kinds.Add) b.foreign (refl, (refl, (refl, tt)))
head_lacks c kinds.Bind b = lacks_if_plain c (head_text kinds.Bind) b.foreign (refl, (refl, (refl, (refl, tt))))

slots_lack : (c : ℕ) (s t : List ℕ) → IsBlank c → IsName Slot s → IsName Slot t → Lacks c (slots_word s t)
slots_lack c s t b is js = lacks-append c s (47 ∷ t) (name_lacks Slot c s b.foreign is) (lacks-cons c 47 t (λ e. omega (arith, e, b.low)) (name_lacks Slot c t b.foreign js))

id_slot_lacks : (c : ℕ) (id : PackageId) (rest : List ℕ) → IsBlank c → IsId id → Lacks c rest → Lacks c (id_text id ++ (58 ∷ rest))
id_slot_lacks c id rest b is h = lacks-append c (id_text id) (58 ∷ rest) (id_lacks c id b.foreign (λ e. omega (arith, e, b.low)) is) (lacks-cons c 58 rest (λ e. omega (arith, e, b.low)) h)

numbers_lack : (c : ℕ) (ns : List ℕ) → IsBlank c → AllByRecursion IsNumber ns → AllLack c (map decimal ns)
numbers_lack c [] b h = tt
numbers_lack c (n ∷ ns) b h = (digits_lack c n b.low h.0, numbers_lack c ns b h.1)

flags_lack : (c : ℕ) (fs : List (List ℕ)) → IsBlank c → AllByRecursion (IsName Flag) fs → AllLack c fs
flags_lack c [] b h = tt
flags_lack c (f ∷ fs) b h = (name_lacks Flag c f b.foreign h.0, flags_lack c fs b h.1)

said_lack : (c : ℕ) (k : Kind) (said : Said k) → IsBlank c → IsSaid k said → AllLack c (said_words k said)
said_lack c kinds.Plan said b is = (lacks_if_plain c (49 ∷ []) b.foreign (refl, tt), tt)
said_lack c kinds.Group n b is = (digits_lack c n b.low is, tt)
said_lack c kinds.After ns b is = numbers_lack c ns b is.1
said_lack c kinds.Remove r b is = (id_slot_lacks c r.id r.slot b is.id (name_lacks Slot c r.slot b.foreign is.slot), tt)
said_lack c kinds.Add a b is = (id_slot_lacks c a.id (slots_word a.slot a.subslot) b is.0.id (slots_lack c a.slot a.subslot b is.0.slot is.0.subslot), flags_lack c a.enabled b is.0.enabled.each)
said_lack c kinds.Bind x b is = (slots_lack c x.slot x.subslot b is.slot is.subslot, tt)

words_lack : (c : ℕ) (l : LineValue) → IsBlank c → IsLine l → AllLack c (line_words l)
words_lack c l b is = (head_lacks c l.kind b, said_lack c l.kind l.said b is)

space : IsBlank 32
space = record { low = omega arith; foreign = refl }

newline : IsBlank 10
newline = record { low = omega arith; foreign = refl }

-- lists of words and their texts

not_byte : (c x : ℕ) → (x ≡ c → ⊥) → (x == c) ≡ false
not_byte c x h = grind (arith, nat_tests, h)

none_is : (c : ℕ) (w : List ℕ) → Lacks c w → All (λ b. (b == c) ≡ false) w
none_is c w h = All-from_recursion (λ b. (b == c) ≡ false) w (go w h)
  where
    go : (bs : List ℕ) → Lacks c bs → AllByRecursion (λ b. (b == c) ≡ false) bs
    go [] k = tt
    go (b ∷ bs) k = (not_byte c b (k 0 (omega arith)), go bs (tail_lacks c b bs k))

split_words : (c : ℕ) (w : List ℕ) (ws : List (List ℕ)) → AllLack c (w ∷ ws) → slice_split (λ b. b == c) (join_with_byte c (w ∷ ws)) ≡ w ∷ ws
split_words c w [] h = slice_split_none (λ b. b == c) w (none_is c w h.0)
split_words c w (v ∷ ws) h =
    slice_split_at (λ b. b == c) w c (join_with_byte c (v ∷ ws)) (none_is c w h.0) (eq-eqb c c refl) ∙ ap (λ l. w ∷ l) (split_words c v ws h.1)

pub line_split : (l : LineValue) → IsLine l → slice_split is_space (line_text l) ≡ line_words l
line_split l is = split_words 32 (head_text l.kind) (said_words l.kind l.said) (words_lack 32 l space is)

pub line_joined : (text : List ℕ) (ws : List (List ℕ)) → ws ≡ slice_split is_space text → text ≡ join_with_byte 32 ws
line_joined text ws e = sym (join_with_byte-slice_split 32 text) ∙ ap (join_with_byte 32) (sym e)

pub one_line : (l m : LineValue) → IsLine l → IsLine m → line_text l ≡ line_text m → l ≡ m
one_line l m is js e = words_once l m is js (sym (line_split l is) ∙ ap (slice_split is_space) e ∙ line_split m js)

join_lacks : (c : ℕ) (ws : List (List ℕ)) → (◌≡◌ {A = ℕ} 32 c → ⊥) → AllLack c ws → Lacks c (join_with_byte 32 ws)
join_lacks c [] apart h = λ i lt. absurd (omega (arith, lt))
join_lacks c (w ∷ []) apart h = h.0
join_lacks c (w ∷ v ∷ ws) apart h = lacks-append c w (32 ∷ join_with_byte 32 (v ∷ ws)) h.0 (lacks-cons c 32 (join_with_byte 32 (v ∷ ws)) apart (join_lacks c (v ∷ ws) apart h.1))

line_lacks : (l : LineValue) → IsLine l → Lacks 10 (line_text l)
line_lacks l is = join_lacks 10 (line_words l) (λ e. omega (arith, e)) (words_lack 10 l newline is)

-- the text of lines is parted at newlines into the lines, and nothing behind them
pub lines_split : (ls : List LineValue) → AllByRecursion IsLine ls → slice_split is_newline (flat_map ended ls) ≡ map line_text ls ++ ([] ∷ [])
lines_split [] h = refl
lines_split (l ∷ ls) h =
    ap (slice_split is_newline) (assoc (line_text l) (flat_map ended ls))
    ∙ slice_split_at is_newline (line_text l) 10 (flat_map ended ls) (none_is 10 (line_text l) (line_lacks l h.0)) refl ∙ ap (λ x. line_text l ∷ x) (lines_split ls h.1)
  where
    assoc : (a b : List ℕ) → (a ++ (10 ∷ [])) ++ b ≡ a ++ (10 ∷ b)
    assoc [] b = refl
    assoc (x ∷ a) b = ap (λ l. x ∷ l) (assoc a b)

pub lines_joined : (text : List ℕ) (ls : List LineValue) → slice_split is_newline text ≡ map line_text ls ++ ([] ∷ []) → text ≡ flat_map ended ls
lines_joined text ls e = sym (join_with_byte-slice_split 10 text) ∙ ap (join_with_byte 10) e ∙ go ls
  where
    go : (ls : List LineValue) → join_with_byte 10 (map line_text ls ++ ([] ∷ [])) ≡ flat_map ended ls
    go [] = refl
    go (l ∷ []) = step (line_text l) []
      where
        step : (a b : List ℕ) → a ++ (10 ∷ b) ≡ (a ++ (10 ∷ [])) ++ b
        step [] b = refl
        step (x ∷ a) b = ap (λ l. x ∷ l) (step a b)
    go (l ∷ m ∷ ls) = ap (λ r. line_text l ++ (10 ∷ r)) (go (m ∷ ls)) ∙ step (line_text l) (flat_map ended (m ∷ ls))
      where
        step : (a b : List ℕ) → a ++ (10 ∷ b) ≡ (a ++ (10 ∷ [])) ++ b
        step [] b = refl
        step (x ∷ a) b = ap (λ l. x ∷ l) (step a b)

pub one_list : (ls ms : List LineValue) → AllByRecursion IsLine ls → AllByRecursion IsLine ms → map line_text ls ≡ map line_text ms → ls ≡ ms
one_list [] [] h k e = refl
one_list [] (m ∷ ms) h k e = absurd (omega (arith, ap length e))
one_list (l ∷ ls) [] h k e = absurd (omega (arith, ap length e))
one_list (l ∷ ls) (m ∷ ms) h k e =
    let both = heads_and_tails (line_text l) (line_text m) (map line_text ls) (map line_text ms) e in
    ap (λ x. x ∷ ls) (one_line l m h.0 k.0 both.0) ∙ ap (λ x. m ∷ x) (one_list ls ms h.1 k.1 both.1)
