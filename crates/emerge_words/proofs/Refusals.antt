-- Why a line with good numbers asks for nothing.
use Rattle.std.proofs.Common.{◌≡◌, true, []}
use Rattle.emerge_words.specs.Commands.{is_command}
use Rattle.emerge_words.specs.Lines.{LineValue}
use Rattle.emerge_words.specs.Named.{HasNoAtom}
use Rattle.emerge_words.specs.Numbers.{bad_numbers}
use Rattle.emerge_words.specs.Requests.{IsRefused, words_of_atoms}
use Rattle.emerge_words.specs.declared.request.WordFault.{WordFault}
use Rattle.emerge_words.specs.declared.request.WordFault.TheVariants.{Usage, BadAtom, BadNumber, Memory}

pub refused_for_atom : (line : LineValue) (fault : WordFault) → is_command line ≡ true → bad_numbers line ≡ [] → HasNoAtom (words_of_atoms line) fault → IsRefused line fault
refused_for_atom line Usage good numbers h = absurd h
refused_for_atom line (BadAtom word) good numbers h = (good, record { numbers = numbers; atom = h })
refused_for_atom line (BadNumber word) good numbers h = absurd h
refused_for_atom line Memory good numbers h = tt
