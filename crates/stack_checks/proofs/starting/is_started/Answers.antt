use Rattle.std.proofs.Common.{ℕ, ◌∙◌, refl, subst, sym}
use Rattle.std.proofs.lemmas.Option.{slice_get_within}
use Rattle.stack_tables.specs.Tables.{stacks_in, values_in}
use Rattle.stack_checks.specs.Checked.{IsStart}
use Rattle.stack_tables.proofs.Laws.{address_is}
use Rattle.stack_checks.proofs.starting.is_started.Goals as goal

pub is_started_at-requires-clause-node : goal.is_started_at-requires-clause-node
is_started_at-requires-clause-node c = slice_get_within c.args.claim.now.graph.now.code.nodes c.in-Some.k c.entry.result ((c.in-Some.ensures c.in-Some.k).0 refl)

pub returns-in-Some : goal.returns-in-Some
returns-in-Some c so = subst (λ (x : ℕ). IsStart (values_in c.args.claim.now) (stacks_in c.args.claim.now) x) (sym (address_is c.args.claim.now c.in-Some.k c.entry.result ((c.in-Some.ensures c.in-Some.k).0 refl)) ∙ c.entry.ensures) (c.is_started_at.ensures so)
