-- What a contract sees of the structs.
use Rattle.pms_grammar.specs.Grammar.{SuffixKind}
use Rattle.pms_grammar.specs.Grammar.SuffixKind.{Alpha as AlphaKind, Beta as BetaKind, Pre as PreKind, Rc as RcKind, P as PKind}
use Rattle.pms_version.specs.declared.suffix.Kind.{Kind}
use Rattle.pms_version.specs.declared.suffix.Kind.TheVariants.{Alpha, Beta, Pre, Rc, P}

abbrev pub kind_of : Kind → SuffixKind
kind_of Alpha = AlphaKind
kind_of Beta = BetaKind
kind_of Pre = PreKind
kind_of Rc = RcKind
kind_of P = PKind
