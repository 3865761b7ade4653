use Rattle.stack_tables.proofs.Seen.{place_seen}
use Rattle.stack_tables.proofs.reading.place.Goals as goal

pub returns-clause-place : goal.returns-clause-place
returns-clause-place c j = place_seen c.args.claim.now j
