use Rattle.std.proofs.Common.{◌≡◌, ◌≤◌, length, sym, ◌∙◌, arith}
use Rattle.gain_tuner.specs.declared.choosing.Trial.{Trial}
use Rattle.pace_fit.specs.Fitting.{IsCheapestFit, IsFirstBuilt}
use Rattle.pace_fit.specs.Finding.{counted_inputs}
use Rattle.pace_fit.proofs.Built.{chosen_none, chosen_some, none_of}
use Rattle.pace_fit.proofs.Numbers.{counted, if_ok, if_ok_both}
use Rattle.pace_fit.proofs.choosing.chosen.Goals as goal

pub first_built-requires-clause-none : goal.first_built-requires-clause-none
first_built-requires-clause-none g c =
    let count : length (counted_inputs c.args.files.now) ≡ 0 = sym (counted c.args.files.now c.requires.files).count ∙ (sym c.count_of.ensures ∙ c.if-count_of-eq0.true) in
    none_of (counted_inputs c.args.files.now) count

pub returns-then-count_of-eq0-clause-chosen : goal.returns-then-count_of-eq0-clause-chosen
returns-then-count_of-eq0-clause-chosen g c =
    let files = c.args.files.now in
    let count : length (counted_inputs files) ≡ 0 = sym (counted files c.requires.files).count ∙ (sym c.count_of.ensures ∙ c.if-count_of-eq0.true) in
    if_ok_both c.first_built.result
    (λ (t : Trial) (first : IsFirstBuilt files.image.now files.machine.now files.loops.now c.args.proposals.now t.candidate t.stored.items t.summary) (zero : t.energy ≡ 0).
    chosen_none files.image.now files.machine.now files.loops.now c.args.proposals.now t.candidate t.stored.items t.summary t.energy (counted_inputs files) count first zero)
    c.first_built.ensures.first c.first_built.ensures.energy

pub returns-else-count_of-eq0-clause-chosen : goal.returns-else-count_of-eq0-clause-chosen
returns-else-count_of-eq0-clause-chosen g c =
    let files = c.args.files.now in
    let count = (counted files c.requires.files).count in
    let some : 1 ≤ length (counted_inputs files) = omega (arith, count, c.count_of.ensures, c.if-count_of-eq0.false) in
    if_ok c.cheapest.result
    (λ (t : Trial) (fit : IsCheapestFit files.image.now files.machine.now files.loops.now (counted_inputs files) c.args.proposals.now t.candidate t.stored.items t.summary t.energy).
    chosen_some files.image.now files.machine.now files.loops.now c.args.proposals.now t.candidate t.stored.items t.summary t.energy (counted_inputs files) some fit)
    c.cheapest.ensures.fit
