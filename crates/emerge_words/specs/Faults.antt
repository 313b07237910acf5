-- What becomes of words that aren't cut, and of a text that is no path.
use Rattle.file_tree.specs.declared.fault.PathFault.{PathFault}
use Rattle.file_tree.specs.declared.fault.PathFault.TheVariants as path
use Rattle.emerge_words.specs.declared.line.LineFault.{LineFault}
use Rattle.emerge_words.specs.declared.line.LineFault.TheVariants as line
use Rattle.emerge_words.specs.declared.request.WordFault.{WordFault}
use Rattle.emerge_words.specs.declared.request.WordFault.TheVariants.{Usage, Memory}

-- words that aren't cut are no command
abbrev pub word_fault : LineFault → WordFault
word_fault line.NotCut = Usage
word_fault line.Memory = Memory

-- a text that is no path is no command
abbrev pub path_fault : PathFault → WordFault
path_fault path.Memory = Memory
path_fault _ = Usage
