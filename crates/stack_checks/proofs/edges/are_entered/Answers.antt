use Rattle.std.proofs.Common.{refl}
use Rattle.stack_checks.proofs.edges.are_entered.Goals as goal

pub returns : goal.returns
returns c so = record {
  live = c.if-not-is_alive.ensures refl;
  registers = c.if-not-are_registers_covered.ensures refl;
  lines = λ j. (c.if-not-are_lines_covered.ensures refl j).covered;
  beginning = c.if-not-is_beginning.ensures refl;
  stack = (c.if-not-is_quiet.ensures refl).0;
  quiet = (c.if-not-is_quiet.ensures refl).1;
  begins = c.is_begun.ensures so;
}
