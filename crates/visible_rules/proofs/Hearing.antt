-- What is remembered of words, word by word and line by line.
use denote.Ref.{Bor}
use Rattle.std.proofs.Common.{◌≡◌, ◌∙◌, ◌||◌, ◌+◌, ◌<◌, ◌≤◌, ℕ, Bool, true, false, cond, List, [], ◌∷◌, ◌++◌, Option, Some, None, append_assoc, ap, filter, get_or, length, map, refl, subst, sym, take}
use Rattle.std.specs.Prelude.{Vec, bytes_eq, codes}
use Rattle.std.specs.BTreeMap.{BTreeMap}
use Rattle.std.specs.Global.{Global}
use Rattle.std.specs.List.{find, flat_map}
use Rattle.std.specs.Option.{is_none, option_map, option_map_or, option_or, unwrap_or}
use Rattle.std.proofs.lemmas.List.{map-append, reverse-append, take_all, take_more}
use Rattle.std.proofs.lemmas.List.Concat.{flat_map-append}
use Rattle.std.proofs.lemmas.List.Elements.{filter-append}
use mathlib.Core.List.{reverse}
use Rattle.basics.proofs.Tests.{or-false, or-true}
use Rattle.pms_names.specs.Flags.{has}
use Rattle.dep_atom.specs.declared.package.Facts.{Facts}
use Rattle.pkg_state.specs.Index.{listed}
use Rattle.profile_folders.specs.Stacks.{taken_back}
use Rattle.visible_rules.specs.Heard.{Remembers, heard, said_by, told}
use Rattle.visible_rules.specs.Items.{is_meant}
use Rattle.visible_rules.specs.Keywords.{all_words, is_accepted, is_added, is_taken, speaks_of, words_of}
use Rattle.visible_rules.specs.declared.line.KeywordLine.{KeywordLine}
use Rattle.visible_rules.specs.declared.said.Said.{Said}

pub or_cond : {A : Type 0} (b : Bool) (x : A) (o rest : Option A) → option_or (cond b (Some x) o) rest ≡ cond b (Some x) (option_or o rest)
or_cond true x o rest = refl
or_cond false x o rest = refl

picked : {A : Type 0} (b : Bool) (x : A) (d : Option A) → cond b (Some x) d ≡ option_or (cond b (Some x) None) d
picked true x d = refl
picked false x d = refl

-- what a word says, by what it takes back
abbrev says_of : Option (List ℕ) → List ℕ → List ℕ → Option Bool
says_of o word q = cond (option_map_or (is_taken q) o (bytes_eq word q)) (Some (is_none o)) None

pub all_taken : (word t q : List ℕ) (d n : Option Bool) → taken_back word ≡ Some t → bytes_eq t (codes "*") ≡ true → n ≡ Some false → n ≡ option_or (said_by word q) d
all_taken word t q d n e star is =
    is ∙ sym (ap (λ (o : Option (List ℕ)). option_or (says_of o word q) d) e
    ∙ (ap (λ (b : Bool). option_or (cond (bytes_eq t q || b) (Some false) None) d) star
    ∙ ap (λ (b : Bool). option_or (cond b (Some false) None) d) (or-true (bytes_eq t q))))

pub one_taken : (word t q : List ℕ) (d n : Option Bool) → taken_back word ≡ Some t → bytes_eq t (codes "*") ≡ false → n ≡ cond (bytes_eq t q) (Some false) d → n ≡ option_or (said_by word q) d
one_taken word t q d n e star is =
    is ∙ (picked (bytes_eq t q) false d ∙ sym (ap (λ (o : Option (List ℕ)). option_or (says_of o word q) d) e
    ∙ (ap (λ (b : Bool). option_or (cond (bytes_eq t q || b) (Some false) None) d) star
    ∙ ap (λ (b : Bool). option_or (cond b (Some false) None) d) (or-false (bytes_eq t q)))))

pub one_added : (word q : List ℕ) (d n : Option Bool) → taken_back word ≡ None → n ≡ cond (bytes_eq word q) (Some true) d → n ≡ option_or (said_by word q) d
one_added word q d n e is =
    is ∙ (picked (bytes_eq word q) true d ∙ sym (ap (λ (o : Option (List ℕ)). option_or (says_of o word q) d) e))

map_cond : (b : Bool) (word : List ℕ) (o : Option (List ℕ)) → option_map is_added (cond b (Some word) o) ≡ option_or (cond b (Some (is_added word)) None) (option_map is_added o)
map_cond true word o = refl
map_cond false word o = refl

heard_more : (words : List (List ℕ)) (word q : List ℕ) → heard (words ++ word ∷ []) q ≡ option_or (said_by word q) (heard words q)
heard_more words word q =
    ap (λ (ws : List (List ℕ)). option_map is_added (find (speaks_of q) ws)) (reverse-append words (word ∷ []))
    ∙ map_cond (speaks_of q word) word (find (speaks_of q) (reverse words))

-- one word more
pub hear_more : (words before : List (List ℕ)) (i : ℕ) (word text q : List ℕ) (n d : Option Bool) → i < length words → word ≡ get_or words i word → text ≡ word
    → n ≡ option_or (said_by text q) d → d ≡ heard (before ++ take i words) q → n ≡ heard (before ++ take (i + 1) words) q
hear_more words before i word text q n d lt is same new old =
    let longer : take (i + 1) words ≡ take i words ++ word ∷ [] = take_more words i word lt ∙ ap (λ (w : List ℕ). take i words ++ w ∷ []) (sym is) in
    new ∙ (ap (λ (t : List ℕ). option_or (said_by t q) d) same
    ∙ (ap (option_or (said_by word q)) old
    ∙ (sym (heard_more (before ++ take i words) word q)
    ∙ ap (λ (ws : List (List ℕ)). heard ws q) (append_assoc before (take i words) (word ∷ []) ∙ ap (λ (ws : List (List ℕ)). before ++ ws) (sym longer)))))

-- one line more
pub all_words-more : (bare : List (List ℕ)) (facts : Facts) (items : List (Bor KeywordLine)) (i : ℕ) (item : Bor KeywordLine) → i < length items → item ≡ get_or items i item
    → all_words bare facts (map (λ x. x.now) (take i items)) ++ all_words bare facts (item.now ∷ []) ≡ all_words bare facts (map (λ x. x.now) (take (i + 1) items))
all_words-more bare facts items i item lt is =
    let p : KeywordLine → Bool = λ l. is_meant facts l.atom in
    let before = map (λ (x : Bor KeywordLine). x.now) (take i items) in
    let longer : map (λ (x : Bor KeywordLine). x.now) (take (i + 1) items) ≡ before ++ item.now ∷ [] =
    ap (map (λ (x : Bor KeywordLine). x.now)) (take_more items i item lt ∙ ap (λ (w : Bor KeywordLine). take i items ++ w ∷ []) (sym is))
    ∙ map-append (λ (x : Bor KeywordLine). x.now) (take i items) (item ∷ []) in
    sym (ap (all_words bare facts) longer
    ∙ (ap (flat_map (words_of bare)) (filter-append p before (item.now ∷ []))
    ∙ flat_map-append (words_of bare) (filter p before) (filter p (item.now ∷ []))))

from_or : {X : Type 0} (f : X → Bool) (o : Option X) (d : Bool) → unwrap_or (option_map f o) d ≡ option_map_or f o d
from_or f None d = refl
from_or f (Some x) d = refl

-- what is told of a keyword says whether it is accepted
pub told_accepted : (said : Said) (words standing : List (List ℕ)) (q : List ℕ) (t : Option Bool) → t ≡ told said q → Remembers said words → unwrap_or t (has standing q) ≡ is_accepted standing words q
told_accepted said words standing q t is remembers =
    ap (λ (o : Option Bool). unwrap_or o (has standing q)) (is ∙ remembers q) ∙ from_or is_added (find (speaks_of q) (reverse words)) (has standing q)

-- the words of all lines of the name were heard
pub all_heard : (said : Said) (bare : List (List ℕ)) (facts : Facts) (items : List (Bor KeywordLine)) (i : ℕ) (lists : BTreeMap (Bor (List ℕ)) (Vec (Bor KeywordLine) Global)) (text : List ℕ)
    → length items ≤ i → items ≡ listed lists text → text ≡ facts.id.name.«package» → Remembers said (all_words bare facts (map (λ l. l.now) (take i items)))
    → Remembers said (all_words bare facts (map (λ l. l.now) (listed lists facts.id.name.«package»)))
all_heard said bare facts items i lists text past those is heard =
    let whole : take i items ≡ listed lists facts.id.name.«package» = take_all i items past ∙ (those ∙ ap (listed lists) is) in
    subst (λ (ls : List (Bor KeywordLine)). Remembers said (all_words bare facts (map (λ (l : Bor KeywordLine). l.now) ls))) whole heard
