-- The first line of a world file that is no atom.
use Rattle.std.proofs.Common.{◌≡◌, ◌∙◌, ◌<◌, ◌+◌, ℕ, List, drop, get_or, length, refl, sym, take}
use Rattle.std.specs.List.{AllZip}
use Rattle.std.specs.Str.{IsUtf8}
use Rattle.config_text.specs.Lines.{lines}
use Rattle.config_text.specs.declared.line.Line.{Line}
use Rattle.dep_atom.specs.declared.atom.Atom.{Atom}
use Rattle.profile_folders.proofs.Followed.{split_at}
use Rattle.world_text.specs.World.{FirstBad, IsWorldLine}

pub first_bad : (text : List ℕ) (ls : List Line) (i : ℕ) (line : Line) (atoms : List Atom) → ls ≡ lines text → IsUtf8 text → i < length ls → line ≡ get_or ls i line → AllZip IsWorldLine (take i ls) atoms → ((atom : Atom) → ¬ IsWorldLine line atom) → FirstBad text line.number
first_bad text ls i line atoms are utf8 lt at each none = record {
  utf8 = utf8;
  front = take i ls;
  good = atoms;
  bad = line;
  rest = drop (i + 1) ls;
  place = sym are ∙ split_at ls i line lt at;
  each = each;
  none = none;
  told = refl;
}
