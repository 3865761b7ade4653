use Rattle.scale_base.specs.Step.{performs}
use Rattle.stack_tables.specs.Tables.{claim_stacks}
use Rattle.tidy_runs.proofs.Keeping.{none_written, missed_kept}
use Rattle.tidy_runs.proofs.looking.broken_at.Goals as goal

pub returns-in_err-written-clause-tidy : goal.returns-in_err-written-clause-tidy
returns-in_err-written-clause-tidy c none env s same doubtful =
    none_written (claim_stacks c.args.claim.now) s.bytes (performs env s c.args.instr.now c.args.instr.now).state.bytes c.written_by.result
    (λ at low misses. c.written_by.ensures env s at same low misses) c.in_err-written.was _

pub returns-then-is_doubtful_at-clause-tidy : goal.returns-then-is_doubtful_at-clause-tidy
returns-then-is_doubtful_at-clause-tidy c none env s same doubtful =
    missed_kept (claim_stacks c.args.claim.now) s.bytes (performs env s c.args.instr.now c.args.instr.now).state.bytes c.written_by.result
    (λ at low misses. c.written_by.ensures env s at same low misses) c.in_ok-written.written c.in_ok-written.was c.args.active.now (c.broken_by.ensures.missed none)
