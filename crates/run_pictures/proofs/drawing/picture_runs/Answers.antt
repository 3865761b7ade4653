use Rattle.std.proofs.Common.{Vec, Global, ◌≡◌, ◌++◌, ◌∷◌, [], refl, rules}
use Rattle.std.proofs.lemmas.Result.{err_from_is_err_and}
use Rattle.run_pictures.specs.declared.picture.PictureRun.{PictureRun}
use Rattle.run_pictures.proofs.RunFacts.{run_stops, runs_more, runs_all}
use Rattle.run_pictures.proofs.drawing.picture_runs.Goals as goal

pub loop-pair-init : goal.loop-pair-init
loop-pair-init g c = record { runs_are = search rules; others = refl }

pub loop-pair-preserved : goal.loop-pair-preserved
loop-pair-preserved g c =
    let pushed : c.push.new.self.items ≡ c.loop-pair.runs.items ++ c.in_ok-run.run' ∷ [] = search rules in
    runs_more c.args.power.now c.args.files.now c.loop-pair.pair-index _ c.loop-pair.runs.items c.push.new.self.items c.in_ok-run.run' c.loop-pair-test.true pushed c.in_ok-run.ensures c.loop-pair.invariant

pub returns-in_err-run : goal.returns-in_err-run
returns-in_err-run g c =
    let p = err_from_is_err_and c.from_residual.result c.from_residual.ensures.1 in
    rw (p.1, p.2) (run_stops (λ (runs : Vec PictureRun Global). runs.items) c.args.power.now c.args.files.now c.loop-pair.pair-index _ c.loop-pair.runs.items c.in_err-run.field-0.0 c.loop-pair-test.true c.in_err-run.ensures c.loop-pair.invariant)

pub returns : goal.returns
returns g c = runs_all c.args.power.now c.args.files.now c.loop-pair.pair-index _ c.loop-pair-test.false c.loop-pair.invariant
