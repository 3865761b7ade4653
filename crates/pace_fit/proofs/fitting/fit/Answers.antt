use Rattle.std.proofs.Common.{List, ap, sym, subst, ◌∙◌}
use Rattle.std.specs.Prelude.{ℕ, Ok, sum_by}
use Rattle.std.specs.List.{filter}
use Rattle.scaler.specs.Held.{IsHeld}
use Rattle.pace_fit.specs.declared.endings.Ending.{Ending}
use Rattle.pace_fit.specs.Endings.{is_counted}
use Rattle.pace_fit.specs.Least.{least_energy}
use Rattle.pace_fit.proofs.Built.{chosen_useful}
use Rattle.pace_fit.proofs.Numbers.{counted, flags_few, held_trial_is, hold_found, if_ok, left_of}
use Rattle.pace_fit.proofs.Runs.{least_found}
use Rattle.pace_fit.specs.Finding.{counted_inputs, given_inputs}
use Rattle.pace_fit.proofs.fitting.fit.Goals as goal

pub held_trial-requires-clause-held : goal.held_trial-requires-clause-held
held_trial-requires-clause-held g c =
    let files = c.args.files.now in
    let p = c.args.prepared.now in
    subst (λ (bytes : List ℕ). IsHeld files.image.now files.machine.now files.loops.now (Ok (bytes, p.summary))) (sym (c.in_ok-stored.ensures.items ∙ c.deref.ensures.value)) c.requires.prepared.held

pub chosen-requires-clause-held : goal.chosen-requires-clause-held
chosen-requires-clause-held g c =
    let files = c.args.files.now in
    let p = c.args.prepared.now in
    let held = subst (λ (bytes : List ℕ). IsHeld files.image.now files.machine.now files.loops.now (Ok (bytes, p.summary))) (sym (c.in_ok-stored.ensures.items ∙ c.deref.ensures.value)) c.requires.prepared.held in
    held_trial_is files (c.in_ok-stored.stored.items, p.summary) c.in_ok-first.first held c.in_ok-first.ensures

pub inputs_of-inputs-requires : goal.inputs_of-inputs-requires
inputs_of-inputs-requires g c = flags_few c.args.files.now c.requires.files

pub left_out_of-left_out-requires : goal.left_out_of-left_out-requires
left_out_of-left_out-requires g c = flags_few c.args.files.now c.requires.files

pub returns-clause-fitted : goal.returns-clause-fitted
returns-clause-fitted g c =
    let files = c.args.files.now in
    let p = c.args.prepared.now in
    let held = subst (λ (bytes : List ℕ). IsHeld files.image.now files.machine.now files.loops.now (Ok (bytes, p.summary))) (sym (c.in_ok-stored.ensures.items ∙ c.deref.ensures.value)) c.requires.prepared.held in
    record {
      chosen = c.in_ok-best.ensures.chosen;
      hold = hold_found files (c.in_ok-stored.stored.items, p.summary) c.in_ok-first.first held c.in_ok-first.ensures;
      rewrite = c.in_ok-rewrite_energy.ensures;
      least = least_found files.image.now files.machine.now files.loops.now p.power (given_inputs files) p.endings.items c.least_over-least_energy.result c.requires.prepared.power_is c.requires.prepared.endings
          (c.least_over-least_energy.ensures ∙ ap (λ (es : List Ending). sum_by (λ ending. least_energy p.power ending.cycles) (filter is_counted es)) c.deref-2.ensures.value);
      inputs = c.inputs_of-inputs.ensures ∙ (counted files c.requires.files).count;
      left_out = left_of files c.requires.files c.inputs_of-inputs.result c.left_out_of-left_out.result c.inputs_of-inputs.ensures c.left_out_of-left_out.ensures;
    }

pub returns-clause-useful : goal.returns-clause-useful
returns-clause-useful g c =
    let files = c.args.files.now in
    chosen_useful files.image.now files.machine.now files.loops.now c.args.proposals.now c.in_ok-best.best.candidate c.in_ok-best.best.stored.items c.in_ok-best.best.summary (counted_inputs files) c.in_ok-best.best.energy c.in_ok-best.ensures.chosen
