-- What a contract sees of a version.
use Rattle.std.specs.Prelude.{◌≡◌}
use Rattle.std.specs.Option.{option_to_list}
use Rattle.pms_grammar.specs.Grammar.{VersionValue, spelling}
use Rattle.pms_version.specs.Limits.{IsReadable}
use Rattle.pms_version.specs.declared.version.Version.TheInside.{Inside}

abbrev pub parts_of : Inside → VersionValue
parts_of v =
    record {
      first = v.first;
      more = v.more.items;
      letter = option_to_list v.letter;
      suffixes = v.suffixes.items;
      revision = v.revision;
    }

-- the text is that of the parts, which are within the limits
pub record IsRead (v : Inside) : Type 0 where
  pub readable : IsReadable (parts_of v)
  pub text : v.text ≡ spelling (parts_of v)
