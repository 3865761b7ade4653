-- Scaffold: why the words of the command line aren't there.
use Rattle.std.specs.declared.io.ErrorKind.{ErrorKind}
use Rattle.std.specs.declared.io.ErrorKind.TheVariants as kinds
use Rattle.host_runs.specs.declared.words.NoWords.{NoWords}
use Rattle.host_runs.specs.declared.words.NoWords.TheVariants.{NotText, OutOfMemory}

-- memory ran out where the error says so, and else a word isn't text
abbrev pub why_none : ErrorKind → NoWords
why_none kinds.OutOfMemory = OutOfMemory
why_none _ = NotText
