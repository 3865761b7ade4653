use Rattle.std.proofs.Common.{sym, ◌∙◌, subst}
use Rattle.scale_base.specs.declared.instruction.Instr.{Instr}
use Rattle.flow_graph.proofs.Laws.{some_is}
use Rattle.jump_checks.specs.Claimed.{IsReadThere}
use Rattle.jump_checks.proofs.edges.is_so_behind.Goals as goal

pub returns-in-Some : goal.returns-in-Some
returns-in-Some c so i at = subst (λ (j : Instr). IsReadThere c.args.claim.now c.args.k j c.args.x) (some_is c.in-Some.i i (sym c.in-Some.ensures ∙ at)) (c.is_read_over.ensures so)
