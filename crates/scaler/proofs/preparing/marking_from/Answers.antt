use Rattle.std.proofs.Common.{length, ap, ◌∙◌, subst}
use Rattle.std.proofs.lemmas.Result.{err_from_is_err_and}
use Rattle.power_model.specs.Numbers.{PowerModel}
use Rattle.scale_sites.specs.Sites.{AreSites}
use Rattle.scaler.proofs.MarkingFacts.{marks_found}
use Rattle.scaler.proofs.PreparedFacts.{counters_stop, counts_are, marking_given, sites_are}
use Rattle.scaler.proofs.preparing.marking_from.Goals as goal

pub choose-requires-clause-slacks : goal.choose-requires-clause-slacks
choose-requires-clause-slacks c = ap length c.slacks.ensures ∙ c.requires.2.sizes.slacks

pub marking_with-requires-clause-marks : goal.marking_with-requires-clause-marks
marking_with-requires-clause-marks c =
    let h = c.requires.2 in
    let found = sites_are c.args.power.now c.requires.0 c.requires.1 c.args.program.now c.args.plain.now h c.in_ok-counters.counters c.in_ok-sites.sites c.in_ok-counters.ensures
    (subst (λ q. AreSites c.args.program.now.graph c.args.program.now.tree c.in_ok-counters.counters q c.args.power.now.min_gain c.in_ok-sites.sites) c.slacks.ensures
    (subst (λ g. AreSites c.args.program.now.graph c.args.program.now.tree c.in_ok-counters.counters c.slacks.result.now g c.in_ok-sites.sites) (ap (λ (p : PowerModel). p.min_gain) c.power.view_is) c.in_ok-sites.ensures)) in
    (_, found.2)

pub returns-in_err-counters : goal.returns-in_err-counters
returns-in_err-counters c = λ image notes h.
    let p = err_from_is_err_and c.from_residual.result c.from_residual.ensures.1 in
    rw (p.1, p.2) (counters_stop c.args.power.now image notes c.args.program.now c.args.plain.now h c.in_err-counters.field-0.0 c.in_err-counters.ensures)

pub returns : goal.returns
returns c = λ image notes h.
    let v = c.args.program.now.graph in
    let t = c.args.program.now.tree in
    let found = sites_are c.args.power.now image notes c.args.program.now c.args.plain.now h c.in_ok-counters.counters c.in_ok-sites.sites c.in_ok-counters.ensures
    (subst (λ q. AreSites v t c.in_ok-counters.counters q c.args.power.now.min_gain c.in_ok-sites.sites) c.slacks.ensures
    (subst (λ g. AreSites v t c.in_ok-counters.counters c.slacks.result.now g c.in_ok-sites.sites) (ap (λ (p : PowerModel). p.min_gain) c.power.view_is) c.in_ok-sites.ensures)) in
    marking_given c.args.power.now image notes c.args.program.now c.args.plain.now h (counts_are c.args.power.now image notes c.args.program.now c.args.plain.now h c.in_ok-counters.counters c.in_ok-counters.ensures) c.marking_with.result
    (marks_found c.args.power.now image v t found.0 found.1 c.marking_with.result (c.marking_with.ensures image _ h.code_is found.2))
