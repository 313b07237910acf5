-- What a part gives.
use denote.Ref.{Bor}
use Rattle.std.proofs.Common.{◌≡◌, ◌∙◌, ◌≢◌, ◌<◌, ◌==◌, ℕ, Bool, true, false, cond, List, [], ◌∷◌, ◌++◌, Option, Some, None, ap, append_assoc, arith, refl, subst, sym}
use Rattle.std.specs.Prelude.{MatchOption}
use Rattle.std.specs.Str.{IsUtf8}
use Rattle.std.proofs.lemmas.Bool.Decides.{nat_tests}
use Rattle.std.proofs.lemmas.Str.{IsUtf8-nil}
use Rattle.basics.proofs.Lists.{tails}
use Rattle.config_text.specs.Assignments.{part_value}
use Rattle.config_text.specs.Follow.{Stops}
use Rattle.config_text.specs.Reading.{Assigns, Begins, BeginsOther, Escapes, GivesPart, IsGiven, IsPiece, IsWhole, LacksKey, NamesVariable, piece_value}
use Rattle.config_text.specs.Values.{BeginsNoName, HasKey, IsKey, Plain, Escaped, Named, Braced, begins_key, is_escapable, is_key_byte, may_stand}
use Rattle.config_text.specs.declared.part.Piece.{Piece}
use Rattle.config_text.specs.declared.part.Piece.TheVariants.{Byte, Name}
use Rattle.config_text.proofs.OneValue.{dollar_stands, key_begins, key_bytes}
use Rattle.config_text.proofs.Stretches.{one_stretch}
use Rattle.config_text.proofs.Wholes.{IsClean, ascii_one, clean_key, clean_put, clean_skip, clean_whole, skip, whole_stretch}

pub gives_part : (quoted : Bool) (values : List ℕ → List ℕ) (text rest was now : List ℕ) (piece : Piece) → IsPiece quoted text rest piece → IsGiven values piece was now → GivesPart quoted values text rest was now
gives_part quoted values text rest was now piece is given =
    record {
      item = is.part;
      form = is.form;
      spelled = is.spelled;
      gives = given.gives ∙ ap (λ l. was ++ l) (sym (is.means values));
      whole = λ w. subst (λ l. IsWhole l rest) (sym given.gives) (is.whole values was given.text w);
    }

abbrev pub Cut : Type 0
Cut = Bor (List ℕ) × Bor (List ℕ)

pub key_lacks : (byte : ℕ) (text key rest : List ℕ) → is_key_byte byte ≡ false → HasKey text key rest → BeginsOther byte rest → LacksKey byte text
key_lacks byte text key rest off has other = λ name behind k e.
    let both : (key ≡ name) × (rest ≡ byte ∷ behind) =
    one_stretch is_key_byte key name rest (byte ∷ behind) (key_bytes key has.key_form) (key_bytes name k) has.ends off (sym has.whole ∙ e) in
    other behind both.1

pub stops_lacks : (byte : ℕ) (text : List ℕ) → Stops begins_key text → LacksKey byte text
stops_lacks byte text stops = λ name behind k e. key_begins name text (byte ∷ behind) k stops e

dollar_skip : (value rest : List ℕ) → IsWhole value (36 ∷ rest) → IsClean value rest
dollar_skip value rest w = skip value rest 36 (omega arith) w

named_whole : (value given text key rest : List ℕ) → IsKey key → text ≡ key ++ rest → IsUtf8 given → IsWhole value (36 ∷ text) → IsWhole (value ++ given) rest
named_whole value given text key rest k e good w =
    clean_whole (value ++ given) rest (clean_put value rest given good (clean_key key value rest k (subst (IsClean value) e (dollar_skip value text w))))

braced_whole : (value given text key rest : List ℕ) → IsKey key → text ≡ 123 ∷ (key ++ (125 ∷ rest)) → IsUtf8 given → IsWhole value (36 ∷ text) → IsWhole (value ++ given) rest
braced_whole value given text key rest k e good w =
    let inner : IsClean value (key ++ (125 ∷ rest)) = clean_skip value (key ++ (125 ∷ rest)) 123 (omega arith) (subst (IsClean value) e (dollar_skip value text w)) in
    clean_whole (value ++ given) rest (clean_put value rest given good (clean_skip value rest 125 (omega arith) (clean_key key value (125 ∷ rest) k inner)))

pub named_variable : (text : List ℕ) (r : Option Cut) → BeginsOther 123 text → MatchOption r (Stops begins_key text) (λ x. HasKey text x.0.now x.1.now) → MatchOption r (BeginsNoName text) (λ x. NamesVariable text x.0.now x.1.now)
named_variable text None other h = record { bare = h; braced = λ name rest k e. other (name ++ (125 ∷ rest)) e }
named_variable text (Some x) other h =
    record {
      part = Named x.0.now;
      form = λ quoted. (h.key_form, h.ends);
      spelled = ap (λ l. 36 ∷ l) h.whole;
      named = λ values. refl;
      whole = λ value given good w. named_whole value given text x.0.now x.1.now h.key_form h.whole good w;
    }

pub braced_variable : (text inner : List ℕ) (r : Option Cut) → text ≡ 123 ∷ inner → MatchOption r (LacksKey 125 inner) (λ x. Assigns 125 inner x.0.now x.1.now) → MatchOption r (BeginsNoName text) (λ x. NamesVariable text x.0.now x.1.now)
braced_variable text inner None is h =
    record {
      bare = subst (Stops begins_key) (sym is) refl;
      braced = λ name rest k e. h name rest k (tails 123 123 inner (name ++ (125 ∷ rest)) (sym is ∙ e));
    }
braced_variable text inner (Some x) is h =
    record {
      part = Braced x.0.now;
      form = λ quoted. h.named;
      spelled = ap (λ l. 36 ∷ l) is ∙ ap (λ l. 36 ∷ 123 ∷ l) (h.whole ∙ sym (append_assoc x.0.now (125 ∷ []) x.1.now));
      named = λ values. refl;
      whole = λ value given good w. braced_whole value given text x.0.now x.1.now h.named (is ∙ ap (λ l. 123 ∷ l) h.whole) good w;
    }

pub name_piece : (text : List ℕ) (name : Bor (List ℕ)) (rest : List ℕ) (quoted : Bool) → NamesVariable text name.now rest → IsPiece quoted (36 ∷ text) rest (Name name)
name_piece text name rest quoted h =
    record {
      part = h.part;
      form = h.form quoted;
      spelled = h.spelled;
      means = h.named;
      whole = λ values value good w. h.whole value (values name.now) good w;
    }

pub dollar_piece : (text : List ℕ) (quoted : Bool) → BeginsNoName text → IsPiece quoted (36 ∷ text) text (Byte 36)
dollar_piece text quoted h =
    record {
      part = Plain 36;
      form = record { stands = dollar_stands quoted; names_nothing = λ e. h; escapes_nothing = λ e q. absurd (omega (arith, e)) };
      spelled = refl;
      means = λ values. refl;
      whole = λ values value good w. whole_stretch value text (36 ∷ []) w;
    }

escapable_is_ascii : (b : ℕ) → is_escapable b ≡ true → b < 128
escapable_is_ascii b h = grind (arith, nat_tests)

escaped_text : (values : List ℕ → List ℕ) (b : ℕ) → is_escapable b ≡ true → IsUtf8 (part_value values (Escaped b))
escaped_text values b h = go (b == 10)
  where
    go : (c : Bool) → IsUtf8 (cond c [] (b ∷ []))
    go true = IsUtf8-nil
    go false = ascii_one b (escapable_is_ascii b h)

pub escaped_piece : (text rest : List ℕ) (b : ℕ) (piece : Piece) → Escapes text b rest → ((values : List ℕ → List ℕ) → part_value values (Escaped b) ≡ piece_value values piece) → IsPiece true (92 ∷ text) rest piece
escaped_piece text rest b piece h means =
    record {
      part = Escaped b;
      form = (refl, h.meant);
      spelled = ap (λ l. 92 ∷ l) h.whole;
      means = means;
      whole = λ values value good w.
          clean_whole (value ++ piece_value values piece) rest
          (clean_put value rest (piece_value values piece) (subst IsUtf8 (means values) (escaped_text values b h.meant))
          (clean_skip value rest b (escapable_is_ascii b h.meant) (subst (IsClean value) h.whole (skip value text 92 (omega arith) w))));
    }

pub backslash_piece : (text : List ℕ) → Stops is_escapable text → IsPiece true (92 ∷ text) text (Byte 92)
backslash_piece text stops =
    record {
      part = Plain 92;
      form = record { stands = refl; names_nothing = λ e. absurd (omega (arith, e)); escapes_nothing = λ e q. stops };
      spelled = refl;
      means = λ values. refl;
      whole = λ values value good w. whole_stretch value text (92 ∷ []) w;
    }

pub plain_piece : (text rest : List ℕ) (b : ℕ) (quoted : Bool) → Begins (may_stand quoted) text → text ≡ b ∷ rest → (b ≢ 36) × (quoted ≡ true → b ≢ 92) → IsPiece quoted text rest (Byte b)
plain_piece text rest b quoted begins is no_sign =
    record {
      part = Plain b;
      form = record { stands = subst (Begins (may_stand quoted)) is begins; names_nothing = λ e. absurd (no_sign.0 e); escapes_nothing = λ e q. absurd (no_sign.1 q e) };
      spelled = is;
      means = λ values. refl;
      whole = λ values value good w. whole_stretch value rest (b ∷ []) (subst (IsWhole value) is w);
    }
