use Rattle.std.proofs.Common.{◌≡◌, ◌+◌, ◌≤◌, length, arith, sym, subst}
use Rattle.gain_tuner.specs.declared.choosing.Trial.{Trial}
use Rattle.pace_fit.proofs.Fits.{IsCheapestSo, all_so, cheaper_saves, first_so, next_so, slice_get_item}
use Rattle.pace_fit.proofs.choosing.cheapest.Goals as goal

pub loop-k-init : goal.loop-k-init
loop-k-init g c = record { so = first_so c.args.files.now c.args.proposals.now c.args.held c.requires.held; saves = omega arith }

pub loop-k-preserved : goal.loop-k-preserved
loop-k-preserved g c = record {
  so = subst (λ (t : Trial). IsCheapestSo c.args.files.now c.args.proposals.now (c.loop-k.k + 1) t) (sym c.cheaper-best.ensures)
      (next_so c.args.files.now c.args.proposals.now c.loop-k.k c.loop-k.best c.loop-k.invariant.so c.index-proposals-k.result c.in_ok-trial_of.field-0
      (slice_get_item c.args.proposals.now c.loop-k.k c.index-proposals-k.result c.loop-k-test.true c.index-proposals-k.is) c.in_ok-trial_of.ensures);
  saves = subst (λ (t : Trial). t.energy ≤ c.args.held.energy) (sym c.cheaper-best.ensures) (cheaper_saves c.loop-k.best c.in_ok-trial_of.field-0 c.args.held.energy c.loop-k.invariant.saves);
}

pub returns-clause-fit : goal.returns-clause-fit
returns-clause-fit g c =
    let last : c.loop-k.k ≡ length c.args.proposals.now = omega (arith, c.loop-k-test.false, c.loop-k.auto.k-end) in
    all_so c.args.files.now c.args.proposals.now c.loop-k.best (subst (λ n. IsCheapestSo c.args.files.now c.args.proposals.now n c.loop-k.best) last c.loop-k.invariant.so)

pub returns-clause-safe : goal.returns-clause-safe
returns-clause-safe g c = c.loop-k.invariant.so.choice.safe
