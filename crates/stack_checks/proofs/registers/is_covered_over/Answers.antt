use Rattle.std.proofs.Common.{inl, inr, refl}
use Rattle.stack_checks.proofs.registers.is_covered_over.Goals as goal

pub returns-then-is_covered : goal.returns-then-is_covered
returns-then-is_covered c so = inl (c.if-is_covered.ensures refl)

pub returns-then-is_covered_by_name : goal.returns-then-is_covered_by_name
returns-then-is_covered_by_name c so = inr (inl (c.if-is_covered_by_name.ensures refl))

pub returns-then-is_subtracted : goal.returns-then-is_subtracted
returns-then-is_subtracted c so = inr (inr (inl (c.if-is_subtracted.ensures refl)))

pub returns-then-is_cell_loaded : goal.returns-then-is_cell_loaded
returns-then-is_cell_loaded c so = inr (inr (inr (inl (c.if-is_cell_loaded.ensures refl))))

pub returns-then-is_told_to : goal.returns-then-is_told_to
returns-then-is_told_to c so = inr (inr (inr (inr (inl (c.if-is_told_to.ensures refl)))))

pub returns-then-is_covered_by_access : goal.returns-then-is_covered_by_access
returns-then-is_covered_by_access c so = inr (inr (inr (inr (inr (inl (c.if-is_covered_by_access.ensures refl))))))

pub returns-then-is_limited_by : goal.returns-then-is_limited_by
returns-then-is_limited_by c so = inr (inr (inr (inr (inr (inr (inl (c.if-is_limited_by.ensures refl)))))))

pub returns-then-is_solved_by_access : goal.returns-then-is_solved_by_access
returns-then-is_solved_by_access c so = inr (inr (inr (inr (inr (inr (inr (inl (c.if-is_solved_by_access.ensures refl))))))))

pub returns : goal.returns
returns c so = inr (inr (inr (inr (inr (inr (inr (inr (c.is_fixed_loaded.ensures so))))))))
