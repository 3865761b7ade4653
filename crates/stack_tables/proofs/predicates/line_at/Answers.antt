use Rattle.std.proofs.Common.{◌≡◌, ℕ, Some}
use Rattle.std.specs.Prelude.{slice_get}
use Rattle.wrapped_intervals.specs.Small.{measure_view}
use Rattle.stack_tables.specs.Tables.{IsLineOf, address, claim_values, values_in}
use Rattle.stack_tables.proofs.Seen.{if_some}
use Rattle.stack_tables.proofs.Public.{line_so}
use Rattle.stack_tables.proofs.predicates.line_at.Goals as goal

pub returns-clause-line : goal.returns-clause-line
returns-clause-line c = if_some c.line_found.result (λ arc. IsLineOf (values_in c.args.claim.now) (address c.args.claim.now c.args.k) (measure_view c.args.m) arc) (λ arc. (a : ℕ) → slice_get c.args.claim.now.graph.now.code.nodes c.args.k ≡ Some a → IsLineOf (claim_values c.args.claim.now) a (measure_view c.args.m) arc)
    (λ arc given. line_so c.args.claim.now c.args.k (measure_view c.args.m) arc given) c.line_found.ensures.line
