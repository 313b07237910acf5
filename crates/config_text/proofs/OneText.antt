-- Texts of assignments are read in one way.
use Rattle.std.proofs.Common.{◌≡◌, ◌∙◌, ℕ, true, false, List, [], ◌∷◌, ◌++◌, ap, append_assoc, append-nil, arith, inl, inr, refl, subst, sym}
use Rattle.std.proofs.lemmas.Bool.Decides.{nat_tests}
use Rattle.std.specs.Str.{IsUtf8}
use Rattle.std.proofs.lemmas.Bool.{both_ways}
use Rattle.basics.proofs.Lists.{heads, tails}
use Rattle.config_text.specs.AssignFaults.{BadKeyAt, BeginsNoItem, FirstFault, IsOpen, OpenQuoteAt}
use Rattle.config_text.specs.Assignments.{AreItems, IsItem, Item, Blank, Comment, Assign, Says, is_in_line, is_solid, said, spell_item, spell_items}
use Rattle.config_text.specs.Follow.{Stops}
use Rattle.basics.specs.Blanks.{is_blank}
use Rattle.config_text.specs.Values.{AreQuoted, AreRuns, IsKey, IsPart, IsRun, Part, Run, Bare, Single, Double, begins_key, is_in_single, is_key_byte, spell_part, spell_parts, spell_run, spell_runs}
use Rattle.config_text.specs.declared.assignment.Assignment.{Assignment}
use Rattle.config_text.specs.declared.fault.TextFault.{TextFault}
use Rattle.config_text.specs.declared.fault.TextFault.TheVariants.{BadKey, Memory, NotUtf8, OpenQuote}
use Rattle.config_text.proofs.BadBytes.{no_bad_byte}
use Rattle.config_text.proofs.OneValue.{key_begins, key_bytes, one_part, one_run, one_value, part_first, quotes_end, value_ends}
use Rattle.config_text.proofs.Stretches.{not_inside, one_stretch, onward, same_list, stopped}

white_begins_no_key : (b : ℕ) → is_blank b ≡ true → begins_key b ≡ false
white_begins_no_key b h = grind (arith, nat_tests)

blank_assign : (b : ℕ) (key more r : List ℕ) → is_blank b ≡ true → IsKey key → b ∷ r ≡ key ++ more → ⊥
blank_assign b key more r h k e = key_begins key (b ∷ r) more k (white_begins_no_key b h) e

comment_assign : (key more r : List ℕ) → IsKey key → 35 ∷ r ≡ key ++ more → ⊥
comment_assign key more r k e = key_begins key (35 ∷ r) more k refl e

pub with_key : (key more r : List ℕ) → (key ++ (61 ∷ more)) ++ r ≡ key ++ (61 ∷ (more ++ r))
with_key key more r = append_assoc key (61 ∷ more) r

pub one_key : (key name r s : List ℕ) → IsKey key → IsKey name → key ++ (61 ∷ r) ≡ name ++ (61 ∷ s) → (key ≡ name) × (r ≡ s)
one_key key name r s h k e =
    let both : (key ≡ name) × (61 ∷ r ≡ 61 ∷ s) = one_stretch is_key_byte key name (61 ∷ r) (61 ∷ s) (key_bytes key h) (key_bytes name k) refl refl e in
    (both.0, tails 61 61 r s both.1)

one_assign : (key name : List ℕ) (xs ys : List Run) (r s : List ℕ) → IsKey key × (AreRuns xs r × Stops is_solid r) → IsKey name × (AreRuns ys s × Stops is_solid s) → (key ++ (61 ∷ spell_runs xs)) ++ r ≡ (name ++ (61 ∷ spell_runs ys)) ++ s → (Assign key xs ≡ Assign name ys) × (r ≡ s)
one_assign key name xs ys r s h k e =
    let keys : (key ≡ name) × (spell_runs xs ++ r ≡ spell_runs ys ++ s) =
    one_key key name (spell_runs xs ++ r) (spell_runs ys ++ s) h.0 k.0 (sym (with_key key (spell_runs xs) r) ∙ (e ∙ with_key name (spell_runs ys) s)) in
    let values : (xs ≡ ys) × (r ≡ s) = one_value xs ys r s h.1.1 k.1.1 h.1.0 k.1.0 keys.1 in
    (ap (λ n. Assign n xs) keys.0 ∙ ap (λ l. Assign name l) values.0, values.1)

blank_comment : (b : ℕ) (r s : List ℕ) → is_blank b ≡ true → b ∷ r ≡ 35 ∷ s → ⊥
blank_comment b r s h e = let no : false ≡ true = subst (λ y. is_blank y ≡ true) (heads b 35 r s e) h in absurd (cc)

pub one_item : (x y : Item) (r s : List ℕ) → IsItem x r → IsItem y s → spell_item x ++ r ≡ spell_item y ++ s → (x ≡ y) × (r ≡ s)
one_item (Blank b) (Blank c) r s h k e = (ap Blank (heads b c r s e), tails b c r s e)
one_item (Blank b) (Comment u) r s h k e = absurd (blank_comment b r (u ++ s) h e)
one_item (Blank b) (Assign n ys) r s h k e = absurd (blank_assign b n (61 ∷ (spell_runs ys ++ s)) r h k.0 (e ∙ with_key n (spell_runs ys) s))
one_item (Comment t) (Blank c) r s h k e = absurd (blank_comment c s (t ++ r) k (sym e))
one_item (Comment t) (Comment u) r s h k e =
    let both : (t ≡ u) × (r ≡ s) = one_stretch is_in_line t u r s h.0 k.0 h.1 k.1 (tails 35 35 (t ++ r) (u ++ s) e) in
    (ap Comment both.0, both.1)
one_item (Comment t) (Assign n ys) r s h k e = absurd (comment_assign n (61 ∷ (spell_runs ys ++ s)) (t ++ r) k.0 (e ∙ with_key n (spell_runs ys) s))
one_item (Assign n xs) (Blank c) r s h k e = absurd (blank_assign c n (61 ∷ (spell_runs xs ++ r)) s k h.0 (sym e ∙ with_key n (spell_runs xs) r))
one_item (Assign n xs) (Comment u) r s h k e = absurd (comment_assign n (61 ∷ (spell_runs xs ++ r)) (u ++ s) h.0 (sym e ∙ with_key n (spell_runs xs) r))
one_item (Assign n xs) (Assign m ys) r s h k e = one_assign n m xs ys r s h k e

-- no item has no bytes
pub item_some : (x : Item) (t : List ℕ) → IsItem x t → spell_item x ++ t ≡ [] → ⊥
item_some (Blank b) t h e = absurd (cc)
item_some (Comment u) t h e = absurd (cc)
item_some (Assign [] xs) t h e = absurd h.0
item_some (Assign (b ∷ n) xs) t h e = absurd (cc)

whole : (xs : List Item) (bytes : List ℕ) → bytes ≡ spell_items xs → spell_items xs ++ [] ≡ bytes
whole xs bytes e = append-nil (spell_items xs) ∙ sym e

pub one_list : (known : List Assignment) (bytes : List ℕ) (as' bs : List Assignment) → Says known bytes as' → Says known bytes bs → as' ≡ bs
one_list known bytes as' bs p q =
    let both : (p.items ≡ q.items) × ([] ≡ []) = same_list IsItem spell_item one_item p.items q.items [] [] item_some item_some p.form q.form (whole p.items bytes p.spelled ∙ sym (whole q.items bytes q.spelled)) in
    p.means ∙ (ap (λ xs. said known [] xs) both.0 ∙ sym q.means)

-- what stands behind the items of a fault, as items of the text
abbrev pub Rest : List ℕ → Type 0
Rest r = (zs : List Item) × AreItems zs [] × (r ≡ spell_items zs ++ [])

pub rest_of : (known : List Assignment) (bytes : List ℕ) (as' : List Assignment) (xs : List Item) (r : List ℕ) → Says known bytes as' → AreItems xs r → bytes ≡ spell_items xs ++ r → Rest r
rest_of known bytes as' xs r p f e =
    let on : (zs : List Item) × (p.items ≡ xs ++ zs) × AreItems zs [] × (r ≡ spell_items zs ++ []) =
    onward IsItem spell_item one_item xs p.items r [] item_some f p.form (sym e ∙ sym (whole p.items bytes p.spelled)) in
    (on.0, on.2, on.3)

bad_rest : (r : List ℕ) (zs : List Item) → BeginsNoItem r → AreItems zs [] → r ≡ spell_items zs ++ [] → ⊥
bad_rest [] zs bad f e = absurd bad
bad_rest (b ∷ r) [] bad f e = absurd (cc)
bad_rest (b ∷ r) (Blank c ∷ zs) bad f e = both_ways (is_blank b) bad.0 (subst (λ y. is_blank y ≡ true) (sym (heads b c r (spell_items zs ++ []) e)) f.0)
bad_rest (b ∷ r) (Comment u ∷ zs) bad f e = bad.1.0 (heads b 35 r ((u ++ spell_items zs) ++ []) e)
bad_rest (b ∷ r) (Assign n xs ∷ zs) bad f e =
    bad.1.1 n ((spell_runs xs ++ spell_items zs) ++ []) f.0.0 (e ∙ (ap (λ l. l ++ []) (with_key n (spell_runs xs) (spell_items zs)) ∙ with_key n (spell_runs xs ++ spell_items zs) []))

pub no_bad_key : (known : List Assignment) (bytes : List ℕ) (as' : List Assignment) (line : ℕ) → Says known bytes as' → BadKeyAt bytes line → ⊥
no_bad_key known bytes as' line p at' =
    let rest : Rest at'.rest = rest_of known bytes as' at'.items at'.rest p at'.form at'.spelled in
    bad_rest at'.rest rest.0 at'.bad rest.1 rest.2

parts_some : (zs : List Part) (b : ℕ) (s : List ℕ) → [] ≡ spell_parts zs ++ (b ∷ s) → ⊥
parts_some [] b s e = absurd (cc)
parts_some (Part.Plain c ∷ zs) b s e = absurd (cc)
parts_some (Part.Escaped c ∷ zs) b s e = absurd (cc)
parts_some (Part.Named c ∷ zs) b s e = absurd (cc)
parts_some (Part.Braced c ∷ zs) b s e = absurd (cc)

open_double : (xs ys : List Part) (s : List ℕ) → AreQuoted xs [] → AreQuoted ys (34 ∷ s) → spell_parts xs ≡ spell_parts ys ++ (34 ∷ s) → ⊥
open_double xs ys s h k e =
    let on : (zs : List Part) × (ys ≡ xs ++ zs) × AreQuoted zs (34 ∷ s) × ([] ≡ spell_parts zs ++ (34 ∷ s)) =
    onward (IsPart true) spell_part (one_part true) xs ys [] (34 ∷ s) (quotes_end s) h k (append-nil (spell_parts xs) ∙ e) in
    parts_some on.0 34 s on.3

-- a quote that is open begins no run, and is no end of a value
open_run : (r : List ℕ) (x : Run) (t : List ℕ) → IsOpen r → IsRun x t → r ≡ spell_run x ++ t → ⊥
open_run r (Bare x) t (inl o) h e =
    let no : false ≡ true = part_first false x t o.0 39 h (sym e ∙ o.2) in absurd (cc)
open_run r (Bare x) t (inr o) h e =
    let no : false ≡ true = part_first false x t (spell_parts o.0) 34 h (sym e ∙ o.2) in absurd (cc)
open_run r (Single u) t (inl o) h e =
    not_inside is_in_single o.0 u t 39 o.1 refl (tails 39 39 o.0 ((u ++ (39 ∷ [])) ++ t) (sym o.2 ∙ e) ∙ append_assoc u (39 ∷ []) t)
open_run r (Single u) t (inr o) h e =
    let no : 34 ≡ 39 = heads 34 39 (spell_parts o.0) ((u ++ (39 ∷ [])) ++ t) (sym o.2 ∙ e) in absurd (omega (arith, no))
open_run r (Double ys) t (inl o) h e =
    let no : 39 ≡ 34 = heads 39 34 o.0 ((spell_parts ys ++ (34 ∷ [])) ++ t) (sym o.2 ∙ e) in absurd (omega (arith, no))
open_run r (Double ys) t (inr o) h e =
    open_double o.0 ys t o.1 h (tails 34 34 (spell_parts o.0) ((spell_parts ys ++ (34 ∷ [])) ++ t) (sym o.2 ∙ e) ∙ append_assoc (spell_parts ys) (34 ∷ []) t)

open_end : (r : List ℕ) → IsOpen r → Stops is_solid r → ⊥
open_end r (inl o) stops = stopped is_solid 39 r o.0 refl stops o.2
open_end r (inr o) stops = stopped is_solid 34 r (spell_parts o.0) refl stops o.2

open_value : (zs : List Run) (r s : List ℕ) → IsOpen r → AreRuns zs s → Stops is_solid s → r ≡ spell_runs zs ++ s → ⊥
open_value [] r s o f stops e = open_end r o (subst (λ l. Stops is_solid l) (sym e) stops)
open_value (z ∷ zs) r s o f stops e = open_run r z (spell_runs zs ++ s) o f.0 (e ∙ append_assoc (spell_run z) (spell_runs zs) s)

open_rest : (key : List ℕ) (runs : List Run) (r : List ℕ) (zs : List Item) → IsKey key → AreRuns runs r → IsOpen r → AreItems zs [] → key ++ (61 ∷ (spell_runs runs ++ r)) ≡ spell_items zs ++ [] → ⊥
open_rest [] runs r zs k f o g e = absurd k
open_rest (b ∷ key) runs r [] k f o g e = absurd (cc)
open_rest key runs r (Blank c ∷ zs) k f o g e = blank_assign c key (61 ∷ (spell_runs runs ++ r)) (spell_items zs ++ []) g.0 k (sym e)
open_rest key runs r (Comment u ∷ zs) k f o g e = comment_assign key (61 ∷ (spell_runs runs ++ r)) ((u ++ spell_items zs) ++ []) k (sym e)
open_rest key runs r (Assign n xs ∷ zs) k f o g e =
    let behind : List ℕ = spell_items zs ++ [] in
    let shift : ((n ++ (61 ∷ spell_runs xs)) ++ spell_items zs) ++ [] ≡ n ++ (61 ∷ (spell_runs xs ++ (spell_items zs ++ []))) =
    append_assoc (n ++ (61 ∷ spell_runs xs)) (spell_items zs) [] ∙ with_key n (spell_runs xs) (spell_items zs ++ []) in
    let keys : (key ≡ n) × (spell_runs runs ++ r ≡ spell_runs xs ++ (spell_items zs ++ [])) =
    one_key key n (spell_runs runs ++ r) (spell_runs xs ++ (spell_items zs ++ [])) k g.0.0 (e ∙ shift) in
    let on : (ws : List Run) × (xs ≡ runs ++ ws) × AreRuns ws (spell_items zs ++ []) × (r ≡ spell_runs ws ++ (spell_items zs ++ [])) =
    onward IsRun spell_run one_run runs xs r (spell_items zs ++ []) (value_ends (spell_items zs ++ []) g.0.1.1) f g.0.1.0 keys.1 in
    open_value on.0 r (spell_items zs ++ []) o on.2 g.0.1.1 on.3

pub no_open_quote : (known : List Assignment) (bytes : List ℕ) (as' : List Assignment) (line : ℕ) → Says known bytes as' → OpenQuoteAt bytes line → ⊥
no_open_quote known bytes as' line p at' =
    let rest : Rest (at'.key ++ (61 ∷ (spell_runs at'.runs ++ at'.rest))) = rest_of known bytes as' at'.items (at'.key ++ (61 ∷ (spell_runs at'.runs ++ at'.rest))) p at'.form at'.spelled in
    open_rest at'.key at'.runs at'.rest rest.0 at'.named at'.closed at'.opened rest.1 rest.2

pub no_fault : (known : List Assignment) (bytes : List ℕ) (as' : List Assignment) (e : TextFault) → IsUtf8 bytes → Says known bytes as' → FirstFault bytes e → e ≡ Memory
no_fault known bytes as' (NotUtf8 line) u p f = absurd (no_bad_byte bytes line u f)
no_fault known bytes as' (BadKey line) u p f = absurd (no_bad_key known bytes as' line p f)
no_fault known bytes as' (OpenQuote line) u p f = absurd (no_open_quote known bytes as' line p f)
no_fault known bytes as' Memory u p f = refl
