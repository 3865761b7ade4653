use Rattle.code_text.proofs.KnownNumbers.{known_numbers}
use Rattle.code_text.proofs.RangesApart.{image_numbers}
use Rattle.code_text.proofs.known_numbers_are_put.Goals as goal

pub returns-clause-text : goal.returns-clause-text
returns-clause-text c = known_numbers

pub returns-clause-image : goal.returns-clause-image
returns-clause-image c = image_numbers
