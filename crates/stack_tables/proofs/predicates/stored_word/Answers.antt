use Rattle.std.proofs.Common.{◌≡◌, ℕ, Some}
use Rattle.std.specs.Prelude.{slice_get}
use Rattle.stack_laws.specs.Stacks.{IsStoredFrom}
use Rattle.stack_tables.specs.Tables.{address, claim_stacks, stacks_in}
use Rattle.stack_tables.proofs.Seen.{if_some}
use Rattle.stack_tables.proofs.Public.{stored_so}
use Rattle.stack_tables.proofs.predicates.stored_word.Goals as goal

pub returns : goal.returns
returns c = if_some c.stored_from.result (λ p. IsStoredFrom (stacks_in c.args.claim.now) (address c.args.claim.now c.args.k) c.args.i p.0 p.1) (λ p. (a : ℕ) → slice_get c.args.claim.now.graph.now.code.nodes c.args.k ≡ Some a → IsStoredFrom (claim_stacks c.args.claim.now) a c.args.i p.0 p.1)
    (λ p given. stored_so c.args.claim.now c.args.i c.args.k p.0 p.1 given) c.stored_from.ensures
