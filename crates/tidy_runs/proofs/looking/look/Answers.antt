use Rattle.std.proofs.Common.{◌∙◌, sym, ap}
use Rattle.std.specs.Prelude.{option_copied}
use Rattle.rv_machine.proofs.Laws.{known_fixed}
use Rattle.tidy_runs.proofs.looking.look.Goals as goal

pub look_known-requires-clause-known : goal.look_known-requires-clause-known
look_known-requires-clause-known g c =
    known_fixed (g.M.Memory.layout c.args.machine.now.memory) (g.M.Memory.bytes c.args.machine.now.memory) c.args.code.now c.args.machine.now.pc c.in-Some.known.now
    c.requires.code (sym c.instr.ensures ∙ ap option_copied c.in-Some.is)
