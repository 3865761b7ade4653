use Rattle.std.proofs.Common.{◌≡◌, ◌+◌, length, Option, arith, subst}
use Rattle.gain_tuner.specs.declared.choosing.Trial.{Trial}
use Rattle.pace_fit.specs.Fitting.{AreOut}
use Rattle.pace_fit.specs.Finding.{IsProposalTried}
use Rattle.pace_fit.proofs.Built.{built_here, held_only, out_more}
use Rattle.pace_fit.proofs.Fits.{slice_get_item}
use Rattle.pace_fit.proofs.choosing.first_built.Goals as goal

pub loop-k-init : goal.loop-k-init
loop-k-init g c = λ k proposal lt there. absurd (omega (arith, lt))

pub loop-k-preserved : goal.loop-k-preserved
loop-k-preserved g c =
    out_more c.args.files.now c.requires.none c.args.proposals.now c.loop-k.k c.index-proposals-k.result (slice_get_item c.args.proposals.now c.loop-k.k c.index-proposals-k.result c.loop-k-test.true c.index-proposals-k.is) c.loop-k.invariant
    (subst (λ (tried : Option Trial). IsProposalTried c.args.files.now c.index-proposals-k.result (c.loop-k.k + 1) tried) c.in_default.is c.in_ok-trial.ensures)

pub returns-in-Some-clause-first : goal.returns-in-Some-clause-first
returns-in-Some-clause-first g c =
    built_here c.args.files.now c.requires.none c.args.proposals.now c.loop-k.k c.index-proposals-k.result c.in-Some.trial
    (slice_get_item c.args.proposals.now c.loop-k.k c.index-proposals-k.result c.loop-k-test.true c.index-proposals-k.is) c.loop-k.invariant
    (subst (λ (tried : Option Trial). IsProposalTried c.args.files.now c.index-proposals-k.result (c.loop-k.k + 1) tried) c.in-Some.is c.in_ok-trial.ensures)

pub returns-clause-first : goal.returns-clause-first
returns-clause-first g c =
    let last : c.loop-k.k ≡ length c.args.proposals.now = omega (arith, c.loop-k-test.false, c.loop-k.auto.k-end) in
    held_only c.args.files.now c.requires.none c.args.proposals.now c.args.held c.requires.held
    (subst (λ n. AreOut c.args.files.now.image.now c.args.files.now.machine.now c.args.files.now.loops.now c.args.proposals.now n) last c.loop-k.invariant)
