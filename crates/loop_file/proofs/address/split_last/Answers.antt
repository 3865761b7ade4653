use Rattle.std.proofs.Common.{sym, refl}
use Rattle.loop_file.proofs.Splits.{split_last-none, no_plus, split_found}
use Rattle.loop_file.proofs.address.split_last.Goals as goal

pub returns-in_err-name : goal.returns-in_err-name
returns-in_err-name c = rw (c.from_residual.ensures, split_last-none _ (no_plus _ c.in_err-name.ensures.cases)) (record { parts = refl; no_plus = tt })

pub returns-clause-parts : goal.returns-clause-parts
returns-clause-parts c =
    let w = c.in_ok-name.ensures.cases in
    sym (split_found c.args.text.now c.in_ok-name.name.now c.in_ok-name.offset.now w.0 w.1 w.2.0 w.2.1 w.3 w.4).0

pub returns-clause-no_plus : goal.returns-clause-no_plus
returns-clause-no_plus c =
    let w = c.in_ok-name.ensures.cases in
    (split_found c.args.text.now c.in_ok-name.name.now c.in_ok-name.offset.now w.0 w.1 w.2.0 w.2.1 w.3 w.4).1
