use Rattle.std.proofs.Common.{◌≡◌, List, subst, sym}
use Rattle.std.specs.Prelude.{slice_get}
use Rattle.bound_laws.specs.Values.{Arc}
use Rattle.stack_tables.specs.Tables.{stacks_in}
use Rattle.stack_tables.proofs.Seen.{areas_seen}
use Rattle.stack_tables.proofs.reading.areas.Goals as goal

pub returns-clause-areas : goal.returns-clause-areas
returns-clause-areas c k = subst (λ (xs : List Arc). slice_get xs k ≡ (stacks_in c.args.claim.now).areas k) (sym c.deref.ensures.value) (areas_seen c.args.claim.now k)
