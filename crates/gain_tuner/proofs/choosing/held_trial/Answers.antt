use Rattle.std.proofs.Common.{ℕ, List, Option, None, refl, sym, subst}
use Rattle.gain_tuner.specs.Finding.{RunsAlways, IsSpentOr}
use Rattle.gain_tuner.specs.Spending.{counts, counting}
use Rattle.gain_tuner.proofs.Runs.{stored_runs, held_ends, all_end}
use Rattle.gain_tuner.proofs.Steps.{items_of, is_some}
use Rattle.scaler.proofs.Laws.{held_promise}
use Rattle.gain_tuner.proofs.choosing.held_trial.Goals as goal

pub spent_over-requires-clause-runs : goal.spent_over-requires-clause-runs
spent_over-requires-clause-runs g c =
    let files = c.args.files.now in
    subst (λ (s : List ℕ). RunsAlways s files.machine.now None) (sym c.deref.ensures.value)
    (stored_runs files.image.now files.machine.now files.loops.now c.args.held.0.items c.args.held.1
    (held_promise files.image.now files.machine.now files.loops.now c.args.held.0.items c.args.held.1 c.requires.image c.requires.held))

pub unwrap-energy-requires : goal.unwrap-energy-requires
unwrap-energy-requires g c =
    let files = c.args.files.now in
    let safe = held_promise files.image.now files.machine.now files.loops.now c.args.held.0.items c.args.held.1 c.requires.image c.requires.held in
    let inputs = counting files.image.now files.machine.now files.loops.now (items_of files.inputs.now) in
    is_some c.args.held.0.items files.machine.now inputs c.in_ok-spent_over.field-0
    (subst (λ (s : List ℕ). IsSpentOr s files.machine.now inputs c.in_ok-spent_over.field-0) c.deref.ensures.value c.in_ok-spent_over.ensures)
    (all_end files.image.now files.machine.now files.loops.now c.args.held.0.items c.args.held.1 c.requires.held (counts files.image.now files.machine.now files.loops.now) (items_of files.inputs.now)
    (held_ends files.image.now files.machine.now files.loops.now c.args.held.0.items c.args.held.1 c.requires.held safe c.requires.image c.requires.machine c.requires.loops))

pub returns : goal.returns
returns g c =
    let files = c.args.files.now in
    let inputs = counting files.image.now files.machine.now files.loops.now (items_of files.inputs.now) in
    record {
      candidate = refl;
      trial = record {
        answer_is = refl;
        spent = subst (λ (o : Option ℕ). IsSpentOr c.args.held.0.items files.machine.now inputs o) c.unwrap-energy.ensures
            (subst (λ (s : List ℕ). IsSpentOr s files.machine.now inputs c.in_ok-spent_over.field-0) c.deref.ensures.value c.in_ok-spent_over.ensures);
      };
      safe = held_promise files.image.now files.machine.now files.loops.now c.args.held.0.items c.args.held.1 c.requires.image c.requires.held;
    }
