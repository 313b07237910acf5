-- What a list of words gives: which flags, the text of each option, and the further words.
use Rattle.std.specs.Prelude.{Bool, false, List, [], Option, codes, unwrap_or, map, option_map}
use Rattle.std.specs.Str.{bytes_eq}
use Rattle.std.specs.Option.{option_map_or}
use Rattle.clap.specs.Words.{Row, Text, all_of, first_of}
use Rattle.emerge_words.specs.Grammar.{rows_in}
use Rattle.emerge_words.specs.declared.line.Line.{Line}

-- a line: the words cut, and not yet judged
pub record LineValue : Type 0 where
  pub pretend : Bool
  pub update : Bool
  pub repair : Bool
  pub keep_going : Bool
  pub unmerge : Bool
  pub jobs : Option Text
  pub backtrack : Option Text
  pub flag_changes : Option Text
  pub load : Option Text
  pub plan : Option Text
  pub tree : Option Text
  pub images : Option Text
  pub build_with : Option Text
  pub further : List Text

-- the flag is given
abbrev pub has_flag : List Row → Text → Bool
has_flag rows name = option_map_or (λ text. bytes_eq text (codes "true")) (first_of name rows) false

-- the value of the option
abbrev pub text_of : List Row → Text → Option Text
text_of rows name = first_of name rows

-- the matches of `clap`, field by field
abbrev pub line_of_rows : List Row → LineValue
line_of_rows rows = record {
  pretend = has_flag rows (codes "pretend");
  update = has_flag rows (codes "update");
  repair = has_flag rows (codes "repair");
  keep_going = has_flag rows (codes "keep-going");
  unmerge = has_flag rows (codes "unmerge");
  jobs = text_of rows (codes "jobs");
  backtrack = text_of rows (codes "backtrack");
  flag_changes = text_of rows (codes "flag-changes");
  load = text_of rows (codes "load");
  plan = text_of rows (codes "plan");
  tree = text_of rows (codes "tree");
  images = text_of rows (codes "images");
  build_with = text_of rows (codes "build-with");
  further = unwrap_or (all_of (codes "further") rows) [];
}

-- the line of the words
abbrev pub line_of : List Text → LineValue
line_of words = line_of_rows (rows_in words)

-- what is seen of a line in the code
abbrev pub line_value : Line → LineValue
line_value line = record {
  pretend = line.pretend;
  update = line.update;
  repair = line.repair;
  keep_going = line.keep_going;
  unmerge = line.unmerge;
  jobs = option_map (λ s. s.now) line.jobs;
  backtrack = option_map (λ s. s.now) line.backtrack;
  flag_changes = option_map (λ s. s.now) line.flag_changes;
  load = option_map (λ s. s.now) line.load;
  plan = option_map (λ s. s.now) line.plan;
  tree = option_map (λ s. s.now) line.tree;
  images = option_map (λ s. s.now) line.images;
  build_with = option_map (λ s. s.now) line.build_with;
  further = map (λ s. s.now) line.further.items;
}
