-- Every kept run of an image whose tables keep budgets is safe; and a tuned image is one whose budgets are all the deadline.
use Rattle.std.proofs.Common.{length, arith}
use Rattle.paid_runs.proofs.Kept.{kept_patched}
use Rattle.power_model.specs.Switches.{costs_of}
use Rattle.paid_runs.specs.Laws.{BudgetedRunsAreSafe, TunedImagesAreBudgeted, TunedRunsAreSafe}
use Rattle.paid_runs.proofs.Constant.{tables_within, tables_in_time}
use Rattle.paid_runs.proofs.Paid.{paid_within, within_deadline, saved_by, bounded_by}

pub budgeted_safe : BudgetedRunsAreSafe
budgeted_safe = λ power budget image patched limits sites start code l extent is_of n least more is input count c kept.
    let f = kept_patched image patched (length power.levels) limits sites start is.patched_is code l extent is_of (costs_of power) is.program is.counters is.counted input count c kept in
    let low = is.patched_is.start_is_level in
    let both = paid_within power budget is.power_is image patched sites start code l extent is_of is.program is.counters.loops is.counters.countable is.counted n least is.analyzed is.least_is is.tables low is.budgets input count c f.kept f.followed in
    let paid = both.0 in
    let bounded = bounded_by power is.power_is image patched sites start code l extent more is.added input count c f.kept f.followed in
    let late = paid.in_time in (
      record {
        followed = f;
        paid = paid;
        starts = is.patched_is.start_is;
        standing = f.followed.standing;
        output = f.followed.meets.output;
        not_fewer = bounded.0;
        not_more = bounded.1;
        cycles = bounded.2;
        time = omega (arith, late);
        falls = paid.falls;
        energy = λ status exited. saved_by power is.power_is image patched sites start code l n low input count status c f.kept f.followed paid exited;
      },
      both.1,
    )

pub tuned_budgeted : TunedImagesAreBudgeted
tuned_budgeted = λ power image patched limits sites start code l extent is_of n least more. (
  λ is. record {
    power_is = is.power_is;
    patched_is = is.patched_is;
    program = is.program;
    counters = is.counters;
    counted = is.counted;
    analyzed = is.analyzed;
    least_is = is.least_is;
    added = is.added;
    tables = tables_within power _ code l sites is_of n least is.tables;
    budgets = within_deadline power start (n.worst 0) is.worst;
  },
  λ is. record {
    power_is = is.power_is;
    patched_is = is.patched_is;
    program = is.program;
    counters = is.counters;
    counted = is.counted;
    analyzed = is.analyzed;
    least_is = is.least_is;
    added = is.added;
    tables = tables_in_time power _ code l sites is_of n least is.tables;
    worst = is.budgets.first;
  },
)

pub tuned_safe : TunedRunsAreSafe
tuned_safe = λ power image patched limits sites start code l extent is_of n least more is input count c kept.
    (budgeted_safe power (λ i. power.deadline) image patched limits sites start code l extent is_of n least more
    ((tuned_budgeted power image patched limits sites start code l extent is_of n least more).0 is) input count c kept).0
