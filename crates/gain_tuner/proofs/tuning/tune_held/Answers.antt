use Rattle.std.proofs.Common.{Ok, refl, inl, ◌∙◌}
use Rattle.gain_tuner.specs.Candidates.{IsCandidate}
use Rattle.gain_tuner.proofs.Chosen.{tried_safe}
use Rattle.gain_tuner.proofs.Runs.{original_runs}
use Rattle.gain_tuner.proofs.Steps.{items_of, choice_made}
use Rattle.gain_tuner.proofs.Trials.{candidates_one}
use Rattle.gain_tuner.proofs.tuning.tune_held.Goals as goal

pub counting_of-requires : goal.counting_of-requires
counting_of-requires g c = original_runs c.args.given.now.image.now c.args.given.now.machine.now c.args.given.now.loops.now c.in_ok-held.held.0.items c.in_ok-held.held.1 (c.in_ok-held.ensures c.args.given.now.image.now c.args.given.now.machine.now c.args.given.now.loops.now c.requires.prepared)

pub cheapest-requires-clause-held : goal.cheapest-requires-clause-held
cheapest-requires-clause-held g c =
    tried_safe (IsCandidate c.args.given.now.image.now c.args.given.now.machine.now c.args.given.now.loops.now) (candidates_one c.args.given.now.image.now c.args.given.now.machine.now c.args.given.now.loops.now) c.args.given.now.image.now c.args.given.now.machine.now c.args.given.now.loops.now (items_of c.args.given.now.inputs.now)
    (Ok (c.in_ok-held.held.0.items, c.in_ok-held.held.1)) 0 c.in_ok-first.first (inl (refl, (c.in_ok-held.ensures c.args.given.now.image.now c.args.given.now.machine.now c.args.given.now.loops.now c.requires.prepared))) c.in_ok-first.ensures

pub returns-clause-choice : goal.returns-clause-choice
returns-clause-choice g c =
    let first = tried_safe (IsCandidate c.args.given.now.image.now c.args.given.now.machine.now c.args.given.now.loops.now) (candidates_one c.args.given.now.image.now c.args.given.now.machine.now c.args.given.now.loops.now) c.args.given.now.image.now c.args.given.now.machine.now c.args.given.now.loops.now (items_of c.args.given.now.inputs.now)
    (Ok (c.in_ok-held.held.0.items, c.in_ok-held.held.1)) 0 c.in_ok-first.first (inl (refl, (c.in_ok-held.ensures c.args.given.now.image.now c.args.given.now.machine.now c.args.given.now.loops.now c.requires.prepared))) c.in_ok-first.ensures in
    choice_made c.args.given.now.image.now c.args.given.now.machine.now c.args.given.now.loops.now c.args.given.now.inputs.now c.deref-2.result.now c.in_ok-best.best c.in_ok-first.first.stored.items c.in_ok-first.first.summary c.in_ok-first.first.energy
    c.choice_of.result.0.items c.choice_of.result.1 (c.deref-2.ensures.value ∙ c.in_ok-flags.ensures) c.in_ok-best.ensures first.trial c.choice_of.ensures.stored c.choice_of.ensures.tuned
