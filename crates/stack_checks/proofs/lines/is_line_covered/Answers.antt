use Rattle.std.proofs.Common.{inl, inr, refl}
use Rattle.stack_checks.proofs.lines.is_line_covered.Goals as goal

pub returns-then-is_line_passed : goal.returns-then-is_line_passed
returns-then-is_line_passed c so = record { covered = inl (c.if-is_line_passed.ensures refl) }

pub returns-then-is_line_by_registers : goal.returns-then-is_line_by_registers
returns-then-is_line_by_registers c so = record { covered = inl (inl (c.if-is_line_by_registers.ensures refl)) }

pub returns : goal.returns
returns c so = record { covered = inr (c.is_line_made.ensures so) }
