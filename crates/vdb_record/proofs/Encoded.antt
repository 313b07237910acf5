-- A file that says something of a package is UTF-8.
use Rattle.std.proofs.Common.{◌≡◌, ◌||◌, ◌==◌, ◌<◌, ℕ, Bool, true, false, List, [], ◌∷◌, length, map, Option, Some, None, refl, sym, subst, inl, inr, arith}
use Rattle.std.specs.Prelude.{if◌then◌else◌}
use Rattle.std.specs.List.{AllByRecursion}
use Rattle.std.specs.Str.{IsUtf8}
use Rattle.std.proofs.lemmas.Bool.Decides.{nat_tests}
use Rattle.std.proofs.lemmas.Str.{utf8_valid_len-IsUtf8, utf8_valid_len-IsValidUpTo}
use Rattle.basics.specs.Members.{Has}
use Rattle.basics.proofs.Membership.{has-map}
use Rattle.config_text.specs.Faults.{NotUtf8At}
use Rattle.pms_names.specs.Names.{IsName}
use Rattle.pms_names.specs.declared.kind.Kind.TheVariants as kinds
use Rattle.pms_slot.specs.Slots.{IsWritten, slot_value}
use Rattle.use_flags.specs.Items.{flag_of, hyphen, plus}
use Rattle.dep_group.specs.Reading.{all_tokens}
use Rattle.dep_group.specs.Shapes.{condition}
use Rattle.dep_group.specs.Tokens.{EachWord, Grammar, IsOpener, IsToken, opener_text, token_text}
use Rattle.dep_group.specs.Words.{words_of}
use Rattle.dep_group.specs.declared.token.Opener.{Opener}
use Rattle.dep_group.specs.declared.token.Opener.TheVariants.{AnyOf, AtMostOne, ExactlyOne, When}
use Rattle.dep_group.specs.declared.token.Token.{Token}
use Rattle.dep_group.specs.declared.token.Token.TheVariants.{Begins, Closes, Glued, Leaf, Opens, Unknown}
use Rattle.dep_tree.specs.Grammar as dependencies
use Rattle.dep_tree.specs.Texts.{Dependencies, Writes}
use Rattle.required_use.specs.Grammar as expressions
use Rattle.required_use.specs.Texts.{Expressions}
use Rattle.required_use.specs.Texts as expression_texts
use Rattle.required_use.specs.declared.required.Item.{Item}
use Rattle.pkg_state.specs.Eapis.{eapi_text}
use Rattle.pkg_state.specs.declared.eapi.Eapi.{Eapi}
use Rattle.pkg_state.specs.declared.eapi.Eapi.TheVariants.{Five, Six, Seven, Eight}
use Rattle.vdb_law.specs.Fields.{AreFlags, AreSlots}
use Rattle.vdb_values.specs.Values.{IsAlone, SaysNoEapi}
use Rattle.vdb_record.proofs.Ascii.{AreSmall, is_small, small-append, small_atom, small_name, utf8_words}

-- a text that isn't UTF-8 has a first bad byte, and only such a one
pub not_utf8 : (text : List ℕ) (line : ℕ) → NotUtf8At text line → ¬ IsUtf8 text
not_utf8 text line bad is =
    let whole = utf8_valid_len-IsUtf8 text is in
    let part = utf8_valid_len-IsValidUpTo text bad.good bad.front in
    let short : bad.good < length text = bad.front.short in
    absurd (omega (arith, whole, part, short))

small_written : (slot : List ℕ) (written : Option (List ℕ)) → IsName kinds.Slot slot → IsWritten written → AreSmall (slot_value slot written)
small_written slot None is form = small_name kinds.Slot slot is
small_written slot (Some w) is form = small-append slot (47 ∷ w) (small_name kinds.Slot slot is) (refl, small_name kinds.Slot w form)

pub slots_utf8 : (text slot subslot : List ℕ) → AreSlots (words_of text) slot subslot → IsUtf8 text
slots_utf8 text slot subslot are =
    let word : AreSmall are.word = subst AreSmall (sym are.says.spelled) (small_written slot are.says.written are.says.named are.says.form) in
    utf8_words text (subst (AllByRecursion AreSmall) (sym are.alone) (word, tt))

all_has : (P : List ℕ → Type 0) (ws : List (List ℕ)) → ((w : List ℕ) → Has ws w → P w) → AllByRecursion P ws
all_has P [] h = tt
all_has P (w ∷ ws) h = (h w (inl refl), all_has P ws (λ v has. h v (inr has)))

pub flags_utf8 : (text : List ℕ) (set : List (List ℕ)) → AreFlags (words_of text) set → IsUtf8 text
flags_utf8 text set are =
    utf8_words text (all_has AreSmall (words_of text) (λ w has. small_name kinds.Flag w (are.each w ((are.members w).1 has))))

small_mark : (b : ℕ) → (b == plus || b == hyphen) ≡ true → is_small b ≡ true
small_mark b h = grind (arith, nat_tests)

small_marked_by : (marked : Bool) (b : ℕ) (bytes : List ℕ) → (b == plus || b == hyphen) ≡ marked → AreSmall (if marked then bytes else b ∷ bytes) → AreSmall (b ∷ bytes)
small_marked_by true b bytes e h = (small_mark b e, h)
small_marked_by false b bytes e h = h

small_marked : (word : List ℕ) → AreSmall (flag_of word) → AreSmall word
small_marked [] h = tt
small_marked (b ∷ bytes) h = small_marked_by (b == plus || b == hyphen) b bytes refl h

pub known_utf8 : (text : List ℕ) (set : List (List ℕ)) → AreFlags (map flag_of (words_of text)) set → IsUtf8 text
known_utf8 text set are =
    utf8_words text
    (all_has AreSmall (words_of text) (λ w has. small_marked w (small_name kinds.Flag (flag_of w) (are.each (flag_of w) ((are.members (flag_of w)).1 (has-map flag_of (words_of text) w has))))))

module _ {L : Type 0} (g : Grammar L) where
  small_condition : (flag : List ℕ) (on : Bool) → IsName kinds.Flag flag → AreSmall (condition flag on)
  small_condition flag true is = small-append flag (63 ∷ []) (small_name kinds.Flag flag is) (refl, tt)
  small_condition flag false is = (refl, small-append flag (63 ∷ []) (small_name kinds.Flag flag is) (refl, tt))

  small_opener : (opener : Opener (List ℕ)) → IsOpener g opener → AreSmall (opener_text opener)
  small_opener AnyOf is = (refl, (refl, tt))
  small_opener ExactlyOne is = (refl, (refl, tt))
  small_opener AtMostOne is = (refl, (refl, tt))
  small_opener (When flag on) is = small_condition flag on is

  small_token : ((a : L) → g.IsLeaf a → AreSmall (g.spell a)) → (t : Token (Opener (List ℕ)) L) → IsToken g (token_text g t) t → AreSmall (token_text g t)
  small_token leaf (Leaf a) is = leaf a is.1
  small_token leaf (Begins opener) is = small_opener opener is.1
  small_token leaf Opens is = (refl, tt)
  small_token leaf Closes is = (refl, tt)
  small_token leaf Glued is = tt
  small_token leaf Unknown is = tt

  small_tokens : ((a : L) → g.IsLeaf a → AreSmall (g.spell a)) → (ts : List (Token (Opener (List ℕ)) L)) → EachWord (IsToken g) (map (token_text g) ts) ts
      → AllByRecursion AreSmall (map (token_text g) ts)
  small_tokens leaf [] is = tt
  small_tokens leaf (t ∷ ts) is = (small_token leaf t is.0, small_tokens leaf ts is.1)

pub needs_utf8 : (empty : Bool) (text : List ℕ) (x : Dependencies) → Writes empty text x → IsUtf8 text
needs_utf8 empty text x writes =
    utf8_words text (subst (AllByRecursion AreSmall) (sym writes.atoms.1) (small_tokens dependencies.grammar small_atom (all_tokens x.groups []) writes.atoms.0.spelled))

small_item : (a : Item) → IsName kinds.Flag a.flag → AreSmall (expressions.item_text a.flag a.on)
small_item a is = small_denied a.flag a.on is
  where
    small_denied : (flag : List ℕ) (on : Bool) → IsName kinds.Flag flag → AreSmall (expressions.item_text flag on)
    small_denied flag true named = small_name kinds.Flag flag named
    small_denied flag false named = (refl, small_name kinds.Flag flag named)

pub required_utf8 : (empty : Bool) (text : List ℕ) (x : Expressions) → expression_texts.Writes empty text x → IsUtf8 text
required_utf8 empty text x writes =
    utf8_words text (subst (AllByRecursion AreSmall) (sym writes.items.1) (small_tokens expressions.grammar small_item (all_tokens x.groups []) writes.items.0.spelled))

small_eapi : (e : Eapi) → AreSmall (eapi_text e)
small_eapi Five = (refl, tt)
small_eapi Six = (refl, tt)
small_eapi Seven = (refl, tt)
small_eapi Eight = (refl, tt)

eapi_utf8 : (text : List ℕ) (e : Eapi) → IsAlone text (eapi_text e) → IsUtf8 text
eapi_utf8 text e alone = utf8_words text (subst (AllByRecursion AreSmall) (sym alone) (small_eapi e, tt))

pub says_no_eapi : (text : List ℕ) → ¬ IsUtf8 text → SaysNoEapi text
says_no_eapi text bad = λ e alone. bad (eapi_utf8 text e alone)

-- nothing is UTF-8
pub nothing_utf8 : IsUtf8 []
nothing_utf8 = utf8_words [] tt
