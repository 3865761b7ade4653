use Rattle.std.proofs.Common.{refl}
use Rattle.stack_tables.specs.Tables.{address}
use Rattle.stack_checks.proofs.Confirmed.{in_starts}
use Rattle.stack_checks.proofs.starting.is_started_at.Goals as goal

pub returns : goal.returns
returns c so = record {
  beginning = c.if-not-is_beginning.ensures refl;
  starts = in_starts c.args.claim.now (address c.args.claim.now c.args.k) (c.if-not-is_alive.ensures refl) (c.if-not-are_registers_started.ensures refl) (c.if-not-are_lines_started.ensures refl);
  begins = c.is_stack_started.ensures so;
}
