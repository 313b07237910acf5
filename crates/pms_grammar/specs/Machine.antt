-- What the recogniser knows of the bytes that it has read.
use Rattle.std.specs.Prelude.{ℕ, Bool, true, false, ◌==◌, if◌then◌else◌, List}
use Rattle.std.specs.List.{fold}
use Rattle.basics.specs.Bytes.{is_digit, is_lower}
use Rattle.pms_grammar.specs.declared.place.Place.{Place}
use Rattle.pms_grammar.specs.declared.place.Place.TheVariants.{Number, MoreNumber, Letter, Underscore, GotA, GotAl, GotAlp, GotAlph, GotB, GotBe, GotBet, GotR, GotP, GotPr, Suffix, Hyphen, HyphenR, Revision, Nowhere}

-- a suffix or a revision may follow
abbrev pub next_part : ℕ → Place
next_part b = if b == 95 then Underscore else (if b == 45 then Hyphen else Nowhere)

-- behind the digits of a number
abbrev pub behind_number : ℕ → Place
behind_number b = if b == 46 then Number else (if is_lower b then Letter else next_part b)

-- behind "_p": the suffix itself, or the start of "_pre"
abbrev pub behind_p : ℕ → Place
behind_p b = if b == 114 then GotPr else next_part b

-- one byte alone may follow
abbrev pub expect : ℕ → Place → ℕ → Place
expect want to b = if b == want then to else Nowhere

-- the first byte of a suffix's word
abbrev pub start_word : ℕ → Place
start_word b = if b == 97 then GotA else
    (if b == 98 then GotB else (if b == 114 then GotR else expect 112 GotP b))

-- where a byte leads from a place
abbrev pub next : Place → ℕ → Place
next Number b = if is_digit b then MoreNumber else Nowhere
next MoreNumber b = if is_digit b then MoreNumber else behind_number b
next Letter b = next_part b
next Underscore b = start_word b
next GotA b = expect 108 GotAl b
next GotAl b = expect 112 GotAlp b
next GotAlp b = expect 104 GotAlph b
next GotAlph b = expect 97 Suffix b
next GotB b = expect 101 GotBe b
next GotBe b = expect 116 GotBet b
next GotBet b = expect 97 Suffix b
next GotR b = expect 99 Suffix b
next GotP b = if is_digit b then Suffix else behind_p b
next GotPr b = expect 101 Suffix b
next Suffix b = if is_digit b then Suffix else next_part b
next Hyphen b = expect 114 HyphenR b
next HyphenR b = if is_digit b then Revision else Nowhere
next Revision b = if is_digit b then Revision else Nowhere
next Nowhere b = Nowhere

-- a version may end here
abbrev pub may_end : Place → Bool
may_end MoreNumber = true
may_end Letter = true
may_end GotP = true
may_end Suffix = true
may_end Revision = true
may_end _ = false

-- no version begins so
abbrev pub is_nowhere : Place → Bool
is_nowhere Nowhere = true
is_nowhere _ = false

-- where the bytes lead from a place
abbrev pub run : Place → List ℕ → Place
run place bytes = fold next place bytes
