-- What the readers of words find, and why they find nothing.
use denote.Ref.{Bor}
use Rattle.std.proofs.Common.{◌≡◌, ◌∙◌, ◌<◌, ℕ, suc, List, [], ◌∷◌, ◌++◌, length, get_or, drop, map, refl, sym, ap, subst, arith}
use Rattle.std.specs.List.{AllByRecursion}
use Rattle.std.proofs.Math.Seq.{drop-cons}
use Rattle.std.specs.Fmt.{decimal}
use Rattle.basics.proofs.Lists.{heads_and_tails}
use Rattle.build_pool.specs.declared.orders.Order.{Order}
use Rattle.plan_text.specs.Numbers.{AreNumbers, IsNumber}
use Rattle.pms_names.specs.Names.{IsName}
use Rattle.pms_names.specs.declared.kind.Kind.TheVariants.{Flag, Slot}
use Rattle.dep_atom.specs.Ids.{IsId, id_text, name_and_version}
use Rattle.dep_atom.specs.declared.package.PackageId.{PackageId}
use Rattle.dep_atom.specs.declared.slot.Bind.{Bind}
use Rattle.plan_text.specs.Spelled.{Lacks}
use Rattle.plan_text.specs.Words.{AreFlags, IsBare, IsBind, IsRemoval, addition_word, addition_words, bind_word, removal_word, slots_word}
use Rattle.plan_text.specs.declared.plan.Removal.{Removal}
use Rattle.plan_text.proofs.Split.{colon_apart, id_lacks, name_lacks}

abbrev pub Found : ℕ → List ℕ → List ℕ → List ℕ → Type 0
Found byte text front back = (text ≡ front ++ (byte ∷ back)) × ((f b : List ℕ) → Lacks byte f → text ≡ f ++ (byte ∷ b) → (front ≡ f) × (back ≡ b))

abbrev pub NotFound : ℕ → List ℕ → Type 0
NotFound byte text = (f b : List ℕ) → Lacks byte f → text ≡ f ++ (byte ∷ b) → ⊥

removal_same : (id id' : PackageId) (slot slot' : List ℕ) → id ≡ id' → slot ≡ slot' → ◌≡◌ {A = Removal} (record { id = id; slot = slot }) (record { id = id'; slot = slot' })
removal_same id id' slot slot' e f = ap (λ i. record { id = i; slot = slot }) e ∙ ap (λ s. record { id = id'; slot = s }) f

-- removals

pub no_removal_cut : (text : List ℕ) → NotFound 58 text → (r : Removal) → IsRemoval r → text ≡ removal_word r → ⊥
no_removal_cut text none r is e = none (id_text r.id) r.slot (id_lacks 58 r.id refl colon_apart is.id) e

pub no_removal_id : (text front back : List ℕ) → Found 58 text front back → ((id : PackageId) → IsId id → front ≡ id_text id → ⊥) → (r : Removal) → IsRemoval r → text ≡ removal_word r → ⊥
no_removal_id text front back f none r is e = none r.id is.id (f.1 (id_text r.id) r.slot (id_lacks 58 r.id refl colon_apart is.id) e).0

pub no_removal_slot : (text front back : List ℕ) → Found 58 text front back → ((s : List ℕ) → IsName Slot s → back ≡ s → ⊥) → (r : Removal) → IsRemoval r → text ≡ removal_word r → ⊥
no_removal_slot text front back f none r is e = none r.slot is.slot (f.1 (id_text r.id) r.slot (id_lacks 58 r.id refl colon_apart is.id) e).1

pub a_removal : (text front back slot : List ℕ) (id : PackageId) → Found 58 text front back → IsId id × (front ≡ id_text id) → IsName Slot slot × (back ≡ slot) → IsRemoval (record { id = id; slot = slot }) × (text ≡ id_text id ++ (58 ∷ slot))
a_removal text front back slot id f i s =
    (record { id = i.0; slot = s.0 }, f.0 ∙ ap (λ l. l ++ (58 ∷ back)) i.1 ∙ ap (λ l. id_text id ++ (58 ∷ l)) s.1)

-- binds

pub no_bind_cut : (text : List ℕ) → NotFound 47 text → (b : Bind) → IsBind b → text ≡ bind_word b → ⊥
no_bind_cut text none b is e = none b.slot b.subslot (name_lacks Slot 47 b.slot refl is.slot) e

pub no_bind_slot : (text front back : List ℕ) → Found 47 text front back → ((s : List ℕ) → IsName Slot s → front ≡ s → ⊥) → (b : Bind) → IsBind b → text ≡ bind_word b → ⊥
no_bind_slot text front back f none b is e = none b.slot is.slot (f.1 b.slot b.subslot (name_lacks Slot 47 b.slot refl is.slot) e).0

pub no_bind_subslot : (text front back : List ℕ) → Found 47 text front back → ((s : List ℕ) → IsName Slot s → back ≡ s → ⊥) → (b : Bind) → IsBind b → text ≡ bind_word b → ⊥
no_bind_subslot text front back f none b is e = none b.subslot is.subslot (f.1 b.slot b.subslot (name_lacks Slot 47 b.slot refl is.slot) e).1

pub a_bind : (text front back slot subslot : List ℕ) → Found 47 text front back → IsName Slot slot × (front ≡ slot) → IsName Slot subslot × (back ≡ subslot) → IsBind (record { slot = slot; subslot = subslot }) × (text ≡ slot ++ (47 ∷ subslot))
a_bind text front back slot subslot f s t =
    (record { slot = s.0; subslot = t.0 }, f.0 ∙ ap (λ l. l ++ (47 ∷ back)) s.1 ∙ ap (λ l. slot ++ (47 ∷ l)) t.1)

-- packages

pub no_id_cut : (text : List ℕ) → NotFound 47 text → (id : PackageId) → IsId id → text ≡ id_text id → ⊥
no_id_cut text none id is e = none id.name.category (name_and_version id) (name_lacks _ 47 id.name.category refl is.category) e

pub id_parts : (text front back : List ℕ) → Found 47 text front back → (id : PackageId) → IsId id → text ≡ id_text id → (front ≡ id.name.category) × (back ≡ name_and_version id)
id_parts text front back f id is e = f.1 id.name.category (name_and_version id) (name_lacks _ 47 id.name.category refl is.category) e

pub an_id : (text front back : List ℕ) (id : PackageId) → Found 47 text front back → IsId id × (front ≡ id.name.category) × (back ≡ name_and_version id) → IsId id × (text ≡ id_text id)
an_id text front back id f is = (is.0, f.0 ∙ ap (λ l. l ++ (47 ∷ back)) is.1 ∙ ap (λ l. id.name.category ++ (47 ∷ l)) is.2)

-- additions

pub no_addition_word : (ws : List (List ℕ)) → ws ≡ [] → (a : Order) → IsBare a → ws ≡ addition_words a → ⊥
no_addition_word ws none a is e = absurd (omega (arith, ap length (sym none ∙ e)))

pub no_addition_cut : (word : List ℕ) (ws : List (List ℕ)) → NotFound 58 word → (a : Order) → IsBare a → word ∷ ws ≡ addition_words a → ⊥
no_addition_cut word ws none a is e = none (id_text a.id) (slots_word a.slot a.subslot) (id_lacks 58 a.id refl colon_apart is.0.id) (heads_and_tails word (addition_word a) ws a.enabled e).0

addition_parts : (word front back : List ℕ) (ws : List (List ℕ)) → Found 58 word front back → (a : Order) → IsBare a → word ∷ ws ≡ addition_words a → (front ≡ id_text a.id) × (back ≡ slots_word a.slot a.subslot)
addition_parts word front back ws f a is e = f.1 (id_text a.id) (slots_word a.slot a.subslot) (id_lacks 58 a.id refl colon_apart is.0.id) (heads_and_tails word (addition_word a) ws a.enabled e).0

pub no_addition_id : (word front back : List ℕ) (ws : List (List ℕ)) → Found 58 word front back → ((id : PackageId) → IsId id → front ≡ id_text id → ⊥) → (a : Order) → IsBare a → word ∷ ws ≡ addition_words a → ⊥
no_addition_id word front back ws f none a is e = none a.id is.0.id (addition_parts word front back ws f a is e).0

pub no_addition_slots : (word front back : List ℕ) (ws : List (List ℕ)) → Found 58 word front back → ((b : Bind) → IsBind b → back ≡ bind_word b → ⊥) → (a : Order) → IsBare a → word ∷ ws ≡ addition_words a → ⊥
no_addition_slots word front back ws f none a is e =
    none (record { slot = a.slot; subslot = a.subslot }) (record { slot = is.0.slot; subslot = is.0.subslot }) (addition_parts word front back ws f a is e).1

pub no_addition_flags : (word : List ℕ) (ws : List (List ℕ)) → ((fs : List (List ℕ)) → AreFlags fs → ws ≡ fs → ⊥) → (a : Order) → IsBare a → word ∷ ws ≡ addition_words a → ⊥
no_addition_flags word ws none a is e = none a.enabled is.0.enabled (heads_and_tails word (addition_word a) ws a.enabled e).1

abbrev pub bare : PackageId → List ℕ → List ℕ → List (List ℕ) → Order
bare id slot subslot flags = record { id = id; slot = slot; subslot = subslot; enabled = flags; binds = [] }

pub an_addition : (word front back slot subslot : List ℕ) (ws flags : List (List ℕ)) (id : PackageId) (binds : List Bind) → Found 58 word front back → IsId id × (front ≡ id_text id)
    → IsBind (record { slot = slot; subslot = subslot }) × (back ≡ slots_word slot subslot) → AreFlags flags × (ws ≡ flags) → binds ≡ []
    → IsBare (record { id = id; slot = slot; subslot = subslot; enabled = flags; binds = binds }) × (word ∷ ws ≡ (id_text id ++ (58 ∷ slots_word slot subslot)) ∷ flags)
an_addition word front back slot subslot ws flags id binds f i b g none = (
  (record { id = i.0; slot = b.0.slot; subslot = b.0.subslot; enabled = g.0 }, none),
  ap (λ w. w ∷ ws) (f.0 ∙ ap (λ l. l ++ (58 ∷ back)) i.1 ∙ ap (λ l. id_text id ++ (58 ∷ l)) b.1) ∙ ap (λ l. (id_text id ++ (58 ∷ slots_word slot subslot)) ∷ l) g.1,
)

-- lists of words, read one by one

module _ {A : Type 0} (P : A → Type 0) (f : A → List ℕ) where
  -- behind those that are read stands a word that none writes
  pub none_writes : (done : List A) (w : List ℕ) (rest ws : List (List ℕ)) → map f done ++ (w ∷ rest) ≡ ws → ((x : A) → P x → w ≡ f x → ⊥) → (xs : List A) → AllByRecursion P xs → ws ≡ map f xs → ⊥
  none_writes done w rest ws is none xs all e = go done xs all (is ∙ e)
    where
      go : (done xs : List A) → AllByRecursion P xs → map f done ++ (w ∷ rest) ≡ map f xs → ⊥
      go done [] all e = absurd (omega (arith, ap length e, lengths done))
        where
          lengths : (ds : List A) → 0 < length (map f ds ++ (w ∷ rest))
          lengths [] = omega arith
          lengths (d ∷ ds) = omega arith
      go [] (x ∷ xs) all e = none x all.0 (ap (λ l. get_or l 0 w) e)
      go (d ∷ done) (x ∷ xs) all e = go done xs all.1 (ap (drop 1) e)

  pub one_more : (done now : List A) (x : A) (w : List ℕ) (rest ws : List (List ℕ)) → map f done ++ (w ∷ rest) ≡ ws → w ≡ f x → now ≡ done ++ (x ∷ []) → map f now ++ rest ≡ ws
  one_more done now x w rest ws is e pushed = subst (λ l. map f l ++ rest ≡ ws) (sym pushed) (go done ∙ ap (λ v. map f done ++ (v ∷ rest)) (sym e) ∙ is)
    where
      go : (ds : List A) → map f (ds ++ (x ∷ [])) ++ rest ≡ map f ds ++ (f x ∷ rest)
      go [] = refl
      go (d ∷ ds) = ap (λ l. f d ∷ l) (go ds)

  pub all_more : (done now : List A) (x : A) → AllByRecursion P done → P x → now ≡ done ++ (x ∷ []) → AllByRecursion P now
  all_more done now x all is pushed = subst (AllByRecursion P) (sym pushed) (go done all)
    where
      go : (ds : List A) → AllByRecursion P ds → AllByRecursion P (ds ++ (x ∷ []))
      go [] h = (is, tt)
      go (d ∷ ds) h = (h.0, go ds h.1)

abbrev Texts : Type 0
Texts = List (Bor (List ℕ))

abbrev texts : Texts → List (List ℕ)
texts ws = map {A = Bor (List ℕ)} {B = List ℕ} (λ w. w.now) ws

-- from one word on
pub from_one : (words : Texts) (i : ℕ) (d : Bor (List ℕ)) → i < length words → texts (drop i words) ≡ (get_or words i d).now ∷ texts (drop (suc i) words)
from_one words i d lt = ap texts (drop-cons words i d lt)

pub numbers_stop : (words : Texts) (i : ℕ) (d : Bor (List ℕ)) (done : List ℕ) → i < length words → map decimal done ++ texts (drop i words) ≡ texts words
    → ((n : ℕ) → IsNumber n → (get_or words i d).now ≡ decimal n → ⊥) → (ns : List ℕ) → AreNumbers ns → texts words ≡ map decimal ns → ⊥
numbers_stop words i d done lt is none ns are e =
    none_writes IsNumber decimal done (get_or words i d).now (texts (drop (suc i) words)) (texts words) (ap (λ l. map decimal done ++ l) (sym (from_one words i d lt)) ∙ is) none ns are.1 e

last_part : (done : List (List ℕ)) (w : List ℕ) (rest : List (List ℕ)) → AllByRecursion (IsName Flag) (done ++ (w ∷ rest)) → IsName Flag w
last_part [] w rest h = h.0
last_part (x ∷ done) w rest h = last_part done w rest h.1

pub flags_stop : (words : Texts) (i : ℕ) (d : Bor (List ℕ)) (done : List (List ℕ)) → i < length words → done ++ texts (drop i words) ≡ texts words
    → ((f : List ℕ) → IsName Flag f → (get_or words i d).now ≡ f → ⊥) → (fs : List (List ℕ)) → AreFlags fs → texts words ≡ fs → ⊥
flags_stop words i d done lt is none fs are e =
    let whole : fs ≡ done ++ ((get_or words i d).now ∷ texts (drop (suc i) words)) = sym (ap (λ l. done ++ l) (sym (from_one words i d lt)) ∙ is ∙ e) in
    none (get_or words i d).now (last_part done (get_or words i d).now (texts (drop (suc i) words)) (subst (AllByRecursion (IsName Flag)) whole are.each)) refl
