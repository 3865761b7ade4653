use Rattle.std.proofs.Common.{◌<◌, ◌∙◌, sym}
use Rattle.std.specs.Prelude.{replicate}
use Rattle.std.proofs.lemmas.List.{get_or-replicate, get_or-set_other}
use Rattle.scale_base.specs.Run.{STACK_POINTER}
use Rattle.stack_checks.proofs.starting.starting_register.Goals as goal

pub returns-else-r-eq2 : goal.returns-else-r-eq2
returns-else-r-eq2 c =
    let within : c.args.r < 32 = c.requires in
    sym (get_or-set_other (replicate 32 0) 2 c.args.r STACK_POINTER 0 c.if-r-eq2.false ∙ get_or-replicate 32 c.args.r 0 0 within)
