use Rattle.stack_tables.proofs.Public.{word_so}
use Rattle.stack_tables.proofs.predicates.word_at.Goals as goal

pub returns-clause-arc : goal.returns-clause-arc
returns-clause-arc c a at = word_so c.args.claim.now c.args.k c.args.word c.word.result.arc c.word.ensures.arc a at
