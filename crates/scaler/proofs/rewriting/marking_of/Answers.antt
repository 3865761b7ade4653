use Rattle.std.proofs.Common.{◌≤◌, ℕ, List, length, refl, subst}
use Rattle.std.proofs.lemmas.Result.{err_from_is_err_and}
use Rattle.scaler.proofs.MarkingFacts.{marks_found, sites_stopped}
use Rattle.scaler.proofs.rewriting.marking_of.Goals as goal

pub returns-in_err-sites : goal.returns-in_err-sites
returns-in_err-sites c = λ image is.
    let p = err_from_is_err_and c.from_residual.result c.from_residual.ensures.1 in
    rw (p.1, p.2) (sites_stopped c.args.power.now image c.requires.program.1 c.args.graph.now c.args.tree.now is c.requires.program.3 (c.requires.counters.0, refl, subst (λ (l : List ℕ). length l ≤ 509) c.requires.counters.1 c.requires.counters.2) c.in_err-sites.field-0.0 (c.in_err-sites.ensures image is))

pub marking_with-requires-clause-marks : goal.marking_with-requires-clause-marks
marking_with-requires-clause-marks c = let found = c.in_ok-sites.ensures c.requires.program.0 c.requires.program.2 in (_, found.2)

pub returns : goal.returns
returns c = λ image is.
    let found = c.in_ok-sites.ensures image is in
    marks_found c.args.power.now image c.args.graph.now c.args.tree.now found.0 found.1 c.marking_with.result (c.marking_with.ensures image _ is found.2)
