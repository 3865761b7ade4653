use Rattle.std.proofs.Common.{rules, ◌≡◌, [], sym, length, arith, ◌∷◌, ◌++◌}
use Rattle.std.proofs.lemmas.List.{map-append}
use Rattle.std.proofs.lemmas.Grind.{common_steps}
use Rattle.host_runs.specs.declared.loading.Want.{Want}
use Rattle.host_runs.specs.Views.{want_views, files_view}
use Rattle.host_runs.proofs.Loads.{want_at, loaded_next, too_long_here, missing_here, all_loaded}
use Rattle.host_runs.proofs.loading.load_all.Goals as goal

abbrev nothing : Want
nothing = record { name = record { ref_ptr = (0, 0); now = [] }; limit = 0 }

pub returns-in-Ok-TooLong-clause-told : goal.returns-in-Ok-TooLong-clause-told
returns-in-Ok-TooLong-clause-told g c =
    let next = want_at c.args.wants.now c.loop-index.index nothing c.loop-index-test.true in
    let told = rw c.in-Ok-TooLong.field-0-is at c.in-Ok-TooLong.ensures.told in
    too_long_here (want_views c.args.wants.now) c.loop-index.index _ _ _ _ c.loop-index.invariant next told

pub returns-in-Err-clause-steady : goal.returns-in-Err-clause-steady
returns-in-Err-clause-steady g c = λ failed room.
    let next = want_at c.args.wants.now c.loop-index.index nothing c.loop-index-test.true in
    let steady = rw (sym c.loop-index.invariant.untouched.room) at room in
    missing_here (want_views c.args.wants.now) c.loop-index.index _ _ _ _ c.loop-index.invariant next (c.in-Err.ensures.steady failed steady)

pub loop-index-preserved : goal.loop-index-preserved
loop-index-preserved g c =
    let next = want_at c.args.wants.now c.loop-index.index nothing c.loop-index-test.true in
    let told = rw c.in-Ok-Whole.field-0-is at c.in-Ok-Whole.ensures.told in
    let within = rw c.in-Ok-Whole.field-0-is at c.in-Ok-Whole.ensures.within in
    let untouched = c.in-Ok-Whole.ensures.untouched in
    let more = loaded_next (want_views c.args.wants.now) c.loop-index.index _ _ _ _ c.loop-index.invariant next c.in-Ok-Whole.bytes.items _ told within untouched c.in-Ok-Whole.ensures.faults in
    let pushed : c.push.new.self.items ≡ c.loop-index.loaded.items ++ c.in-Ok-Whole.bytes ∷ [] = search rules in
    rw (pushed, map-append) more

pub returns-clause-told : goal.returns-clause-told
returns-clause-told g c =
    let all : c.loop-index.index ≡ length (want_views c.args.wants.now) = grind (arith, common_steps) in
    all_loaded (want_views c.args.wants.now) (files_view c.loop-index.loaded.items) (g.H.Host.state c.args.host.now).files (rw (← all) c.loop-index.invariant.told)
