use Rattle.std.proofs.Common.{◌∙◌, ℕ, List, sym, ap}
use Rattle.scale_base.specs.State.{reg}
use Rattle.tidy_runs.proofs.Missing.{read_leaves, no_read_leaves}
use Rattle.tidy_runs.proofs.writing.read_by.Goals as goal

pub returns-then-regs-eq-READ : goal.returns-then-regs-eq-READ
returns-then-regs-eq-READ c env s i at same low apart =
    read_leaves env s at i _ _ _ low (c.fits-regs 11) (ap (λ (rs : List ℕ). reg rs 11) (sym same)) (ap (λ (rs : List ℕ). reg rs 12) (sym same)) c.min.ensures apart

pub returns-else-regs-eq-READ : goal.returns-else-regs-eq-READ
returns-else-regs-eq-READ c env s i at same low misses =
    no_read_leaves env s at i (λ is. c.if-regs-eq-READ.false (ap (λ (rs : List ℕ). reg rs 17) (sym same) ∙ is))
