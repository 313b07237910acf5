-- What an item of a text says, and the items up to a place.
use denote.Ref.{Bor}
use Rattle.std.proofs.Common.{◌≡◌, ◌∙◌, ◌<◌, ℕ, true, false, List, [], ◌∷◌, ◌++◌, Option, Some, None, ap, append-nil, append_assoc, arith, refl, subst, sym}
use Rattle.std.specs.Str.{IsUtf8}
use Rattle.std.proofs.lemmas.Bool.Decides.{nat_tests}
use Rattle.std.proofs.lemmas.List.{flat_map_more}
use Rattle.std.proofs.lemmas.Str.{IsUtf8-nil}
use Rattle.config_text.specs.AssignFaults.{BeginsNoItem, FirstFault, IsOpen}
use Rattle.config_text.specs.Assignments.{AreItems, IsItem, Item, Blank, Comment, Assign, Says, is_in_line, is_solid, last_value, next_said, said, said_by, spell_item, spell_items, value}
use Rattle.config_text.specs.Follow.{Stops}
use Rattle.config_text.specs.Known.{Knows, value_of}
use Rattle.basics.proofs.BlankBytes.{is_blank-small}
use Rattle.basics.specs.Blanks.{is_blank}
use Rattle.config_text.specs.Lines.{line_behind}
use Rattle.config_text.specs.Reading.{Assigns, BeginsWord, GivesRuns, ItemFault, LacksKey, OpensQuote, ReadsItem, ReadsValue, Skips, SoFar, listed}
use Rattle.config_text.specs.Stretches.{IsCut}
use Rattle.config_text.specs.Values.{AreRuns, Run, spell_runs}
use Rattle.config_text.specs.declared.assignment.Assignment.{Assignment}
use Rattle.config_text.specs.declared.fault.TextFault.{TextFault}
use Rattle.config_text.specs.declared.fault.TextFault.TheVariants.{BadKey, Memory, NotUtf8, OpenQuote}
use Rattle.config_text.specs.declared.stretch.Stretch.TheVariants as stretches
use Rattle.config_text.specs.declared.value.ValueEnd.{ValueEnd}
use Rattle.config_text.specs.declared.value.ValueEnd.TheVariants.{Closed}
use Rattle.config_text.proofs.KnownValues.{Values}
use Rattle.config_text.proofs.OneText.{with_key}
use Rattle.config_text.proofs.Runs.{flat_push, follow_push}
use Rattle.config_text.proofs.Wholes.{ascii_first, cut_at_ascii, whole_end, whole_start}

pub blank_skips : (text rest : List ℕ) (b : ℕ) → IsUtf8 text → text ≡ b ∷ rest → is_blank b ≡ true → Skips text rest
blank_skips text rest b good is white =
    record {
      item = Blank b;
      form = white;
      spelled = is;
      says = λ named line. refl;
      utf8 = (cut_at_ascii [] rest b (is_blank-small b white) (subst IsUtf8 is good)).1;
    }

line_byte : (b : ℕ) → is_in_line b ≡ false → b < 128
line_byte b h = grind (arith, nat_tests)

behind_line : (front rest : List ℕ) → Stops is_in_line rest → IsUtf8 (front ++ rest) → IsUtf8 rest
behind_line front [] stops good = IsUtf8-nil
behind_line front (b ∷ rest) stops good = ascii_first b rest (line_byte b stops) (cut_at_ascii front rest b (line_byte b stops) good).1

pub comment_skips : (text inner front rest : List ℕ) → IsUtf8 text → text ≡ 35 ∷ inner → IsCut stretches.Line inner front rest → Skips text rest
comment_skips text inner front rest good is cut =
    record {
      item = Comment front;
      form = (cut.each, cut.ends);
      spelled = is ∙ ap (λ l. 35 ∷ l) cut.whole;
      says = λ named line. refl;
      utf8 = behind_line (35 ∷ front) rest cut.ends (subst IsUtf8 (is ∙ ap (λ l. 35 ∷ l) cut.whole) good);
    }

pub bad_item : (text : List ℕ) → BeginsWord text → LacksKey 61 text → BeginsNoItem text
bad_item [] word lacks = word
bad_item (b ∷ text) word lacks = (word.0, (word.1, lacks))

pub value_is_text : (text key rest : List ℕ) → IsUtf8 text → Assigns 61 text key rest → IsUtf8 rest
value_is_text text key rest good a = (cut_at_ascii key rest 61 (omega arith) (subst IsUtf8 a.whole good)).1

pub both_texts : (named : List ℕ → List ℕ) (rest more now : List ℕ) → IsUtf8 rest → GivesRuns named rest more [] now → Stops is_solid more → IsUtf8 now × IsUtf8 more
both_texts named rest more now good g stops = whole_end now more stops (g.whole (whole_start rest good))

pub closed_value : (named : List ℕ → List ℕ) (text was now : List ℕ) (e : ValueEnd) (more : Bor (List ℕ)) → was ≡ [] → ReadsValue named text was now e → e ≡ Closed more → GivesRuns named text more.now [] now × Stops is_solid more.now
closed_value named text was now e more none h is =
    subst (λ (w : List ℕ). GivesRuns named text more.now w now × Stops is_solid more.now) none (subst (λ (x : ValueEnd). ReadsValue named text was now x) is h)

pub opens_quote : (line : ℕ) (text key rest more : List ℕ) (at_line : ℕ) → Assigns 61 text key rest → ((runs : List Run) × AreRuns runs more × (rest ≡ spell_runs runs ++ more) × IsOpen more)
    → ((front read : List ℕ) → line ≡ line_behind front → text ≡ read ++ more → at_line ≡ line_behind (front ++ read)) → OpensQuote line text at_line
opens_quote line text key rest more at_line a o after =
    let spelled : text ≡ key ++ (61 ∷ (spell_runs o.0 ++ more)) = a.whole ∙ ap (λ l. key ++ (61 ∷ l)) o.2 in
    record {
      key = key;
      runs = o.0;
      rest = more;
      named = a.named;
      closed = o.1;
      opened = o.3;
      spelled = spelled;
      place = λ front e. after front (key ++ (61 ∷ spell_runs o.0)) e (spelled ∙ sym (with_key key (spell_runs o.0) more));
    }

abbrev one_said : ℕ → List ℕ → List ℕ → List Assignment
one_said line key v = record { line = line; key = key; value = v } ∷ []

same_assignment : (line : ℕ) (k key v w : List ℕ) → k ≡ key → v ≡ w → one_said line k v ≡ one_said line key w
same_assignment line k key v w keys values = ap (λ n. one_said line n v) keys ∙ ap (λ l. one_said line key l) values

pub assigns : (named : List ℕ → List ℕ) (line : ℕ) (text key rest more now k v : List ℕ) → IsUtf8 text → Assigns 61 text key rest → GivesRuns named rest more [] now → Stops is_solid more → k ≡ key → v ≡ now
    → ReadsItem named line text more (Some (record { line = line; key = k; value = v }))
assigns named line text key rest more now k v good a g stops keys values =
    record {
      item = Assign key g.items;
      form = (a.named, (g.form, stops));
      spelled = a.whole ∙ (ap (λ l. key ++ (61 ∷ l)) g.spelled ∙ sym (with_key key (spell_runs g.items) more));
      says = same_assignment line k key v (value named g.items) keys (values ∙ g.gives);
      utf8 = (both_texts named rest more now (value_is_text text key rest good a) g stops).1;
    }

pub skips_item : (named : List ℕ → List ℕ) (line : ℕ) (text rest : List ℕ) → Skips text rest → ReadsItem named line text rest None
skips_item named line text rest s = record { item = s.item; form = s.form; spelled = s.spelled; says = sym (s.says named line); utf8 = s.utf8 }

said_push : (items : List Item) (item : Item) (known : List Assignment) (front : List ℕ) → said known front (items ++ (item ∷ [])) ≡ said known front items ++ next_said (known ++ said known front items) (front ++ spell_items items) item
said_push [] item known front =
    append-nil (next_said known front item)
    ∙ (ap (λ k. next_said k front item) (sym (append-nil known)) ∙ ap (λ f. next_said (known ++ []) f item) (sym (append-nil front)))
said_push (i ∷ is) item known front =
    let n : List Assignment = next_said known front i in
    let k : List Assignment = known ++ next_said known front i in
    let f : List ℕ = front ++ spell_item i in
    ap (λ l. next_said known front i ++ l) (said_push is item (known ++ next_said known front i) (front ++ spell_item i))
    ∙ (sym (append_assoc (next_said known front i) (said k f is) (next_said (k ++ said k f is) (f ++ spell_items is) item))
    ∙ (ap (λ l. (next_said known front i ++ said k f is) ++ next_said l (f ++ spell_items is) item) (append_assoc known (next_said known front i) (said k f is))
    ∙ ap (λ l. (next_said known front i ++ said k f is) ++ next_said (known ++ (next_said known front i ++ said k f is)) l item) (append_assoc front (spell_item i) (spell_items is))))

pub so_far_start : (before : List Assignment) (bytes rest : List ℕ) (found : List Assignment) → IsUtf8 bytes → bytes ≡ rest → found ≡ [] → SoFar before bytes rest found 1
so_far_start before bytes rest found good is none =
    record { items = []; form = tt; spelled = is; says = none; place = refl; utf8 = subst IsUtf8 is good }

pub so_far_more : (before : List Assignment) (bytes rest more : List ℕ) (found now : List Assignment) (line at_line : ℕ) (values : Values) (new : Option Assignment)
    → SoFar before bytes rest found line → Knows values (before ++ found) → ReadsItem (value_of values) line rest more new → now ≡ found ++ listed new
    → ((front read : List ℕ) → line ≡ line_behind front → rest ≡ read ++ more → at_line ≡ line_behind (front ++ read)) → SoFar before bytes more now at_line
so_far_more before bytes rest more found now line at_line values new so knows reads is after =
    let longer : spell_items so.items ++ spell_item reads.item ≡ spell_items (so.items ++ (reads.item ∷ [])) = flat_map_more spell_item [] so.items reads.item in
    let same : value_of values ≡ last_value (before ++ found) = λ i q. knows q i in
    let said_next : listed new ≡ next_said (before ++ said before [] so.items) (spell_items so.items) reads.item =
    reads.says
    ∙ (ap (λ f. said_by f line reads.item) same
    ∙ (ap (λ l. said_by (last_value (before ++ found)) l reads.item) so.place
    ∙ ap (λ l. next_said (before ++ l) (spell_items so.items) reads.item) so.says)) in
    record {
      items = so.items ++ (reads.item ∷ []);
      form = follow_push IsItem spell_item (λ _. []) so.items reads.item more (subst (AreItems so.items) reads.spelled so.form) reads.form;
      spelled = so.spelled ∙ (ap (λ l. spell_items so.items ++ l) reads.spelled ∙ sym (flat_push IsItem spell_item (λ _. []) so.items reads.item more));
      says = is ∙ (ap (λ l. l ++ listed new) so.says ∙ (ap (λ l. said before [] so.items ++ l) said_next ∙ sym (said_push so.items reads.item before [])));
      place = after (spell_items so.items) (spell_item reads.item) so.place reads.spelled ∙ ap line_behind longer;
      utf8 = reads.utf8;
    }

pub knows_on : (before found now more : List Assignment) (values : Values) → now ≡ found ++ more → Knows values ((before ++ found) ++ more) → Knows values (before ++ now)
knows_on before found now more values is knows = subst (Knows values) (append_assoc before found more ∙ ap (λ l. before ++ l) (sym is)) knows

pub so_far_fault : (before : List Assignment) (bytes rest : List ℕ) (found : List Assignment) (line : ℕ) (fault : TextFault) → SoFar before bytes rest found line → ItemFault line rest fault → FirstFault bytes fault
so_far_fault before bytes rest found line (NotUtf8 at_line) so f = absurd f
so_far_fault before bytes rest found line (BadKey at_line) so f =
    record { items = so.items; rest = rest; form = so.form; spelled = so.spelled; bad = f.0; place = f.1 ∙ so.place }
so_far_fault before bytes rest found line (OpenQuote at_line) so f =
    record {
      items = so.items;
      key = f.key;
      runs = f.runs;
      rest = f.rest;
      form = subst (AreItems so.items) f.spelled so.form;
      named = f.named;
      closed = f.closed;
      opened = f.opened;
      spelled = so.spelled ∙ ap (λ l. spell_items so.items ++ l) f.spelled;
      place = f.place (spell_items so.items) so.place;
    }
so_far_fault before bytes rest found line Memory so f = tt

pub so_far_end : (before : List Assignment) (bytes rest : List ℕ) (found : List Assignment) (line : ℕ) → SoFar before bytes rest found line → rest ≡ [] → Says before bytes found
so_far_end before bytes rest found line so end =
    record {
      items = so.items;
      form = subst (AreItems so.items) end so.form;
      spelled = so.spelled ∙ (ap (λ l. spell_items so.items ++ l) end ∙ append-nil (spell_items so.items));
      means = so.says;
    }
