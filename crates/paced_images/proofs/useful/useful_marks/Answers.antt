use Rattle.std.proofs.Common.{ℕ, Bool, List, map, Err, refl}
use Rattle.std.proofs.lemmas.Result.{err_from_is_err_and}
use Rattle.scale_base.specs.declared.refusal.Stop.{Stop}
use Rattle.scale_base.specs.declared.refusal.Stop.TheVariants.{Refused, Memory}
use Rattle.scale_base.specs.Answer.{AnswersBy}
use Rattle.stub_writer.specs.Sites.{site_of}
use Rattle.rewritten_runs.specs.Stubs.{rewritten_file}
use Rattle.marked_images.specs.declared.scaling.Program.{Program}
use Rattle.paced_images.specs.declared.useful.KeptMarks.{KeptMarks}
use Rattle.paced_images.specs.declared.wanted.SwitchSite.{SwitchSite}
use Rattle.paced_images.specs.Programs.{IsProgramFound}
use Rattle.paced_images.specs.Useful.{AreUseful, Marks}
use Rattle.paced_images.proofs.KeptFacts.{are_kept, has_marking}
use Rattle.paced_images.proofs.ProgramFacts.{files_given}
use Rattle.paced_images.proofs.useful.useful_marks.Goals as goal

program_stops : (image machine loops : List ℕ) (sites : List SwitchSite) (counted : Bool) (tallied : List ℕ) (share : ℕ) (stop : Stop) → AnswersBy {X = Program} {Y = Program} (λ p. p) (Err stop) (IsProgramFound image machine loops sites counted tallied share)
    → AnswersBy {X = KeptMarks} {Y = Marks} (λ kept. (kept.sites.items, kept.tallied.items)) (Err stop) (AreUseful image machine loops sites counted tallied share)
program_stops image machine loops sites counted tallied share (Refused refusal) h = h
program_stops image machine loops sites counted tallied share Memory h = tt

pub kept_marks-requires : goal.kept_marks-requires
kept_marks-requires c = has_marking c.args.image.now c.args.machine.now c.args.loops.now c.args.marks.now.sites.now c.args.marks.now.counted c.args.marks.now.tallied.now c.args.marks.now.share c.in_ok-program.program c.in_ok-program.ensures

pub returns-in_err-program : goal.returns-in_err-program
returns-in_err-program c =
    let p = err_from_is_err_and c.from_residual.result c.from_residual.ensures.1 in
    rw (p.1, p.2) (program_stops c.args.image.now c.args.machine.now c.args.loops.now c.args.marks.now.sites.now c.args.marks.now.counted c.args.marks.now.tallied.now c.args.marks.now.share c.in_err-program.field-0.0 c.in_err-program.ensures)

pub returns : goal.returns
returns c =
    let p = c.in_ok-program.program in
    let kept = c.in_ok-kept_marks.field-0 in
    let bytes = rewritten_file p.view (map site_of p.scaling.stubs.items) p.scaling.base p.scaling.summary.start in (
      (bytes, p.scaling.summary),
      files_given c.args.image.now c.args.machine.now c.args.loops.now c.args.marks.now.sites.now c.args.marks.now.counted c.args.marks.now.tallied.now c.args.marks.now.share p bytes c.in_ok-program.ensures refl,
      are_kept c.args.image.now c.args.machine.now c.args.loops.now c.args.marks.now.sites.now c.args.marks.now.counted c.args.marks.now.tallied.now c.args.marks.now.share p c.in_ok-program.ensures kept.sites.items kept.tallied.items c.in_ok-kept_marks.ensures.sites c.in_ok-kept_marks.ensures.tallied,
    )
