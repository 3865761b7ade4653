use Rattle.std.proofs.Common.{refl}
use Rattle.stack_laws.specs.Stacks.IsWordCovered.{tied as tied_word}
use Rattle.stack_checks.proofs.words.is_tied_by.Goals as goal

pub returns : goal.returns
returns c so = tied_word c.args.r c.args.more (c.requires.some, c.requires.register) (c.if-not-is_left.ensures refl) c.requires.named c.requires.missed (c.is_more_covered.ensures so)
