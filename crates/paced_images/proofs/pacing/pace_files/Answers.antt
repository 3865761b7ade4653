use Rattle.std.proofs.Common.{ℕ, Bool, List, Err}
use Rattle.std.proofs.lemmas.Result.{err_from_is_err_and}
use Rattle.scale_base.specs.declared.refusal.Stop.{Stop}
use Rattle.scale_base.specs.declared.refusal.Stop.TheVariants.{Refused, Memory}
use Rattle.scale_base.specs.Answer.{AnswersBy}
use Rattle.marked_images.proofs.Laws.{HoldAnswers, file_is, no_key, read_again}
use Rattle.marked_images.specs.declared.scaling.Program.{Program}
use Rattle.paced_images.specs.declared.wanted.SwitchSite.{SwitchSite}
use Rattle.paced_images.specs.Paced.{IsPaced}
use Rattle.paced_images.specs.Programs.{IsProgramFound}
use Rattle.paced_images.specs.Wanted.{notes_by}
use Rattle.paced_images.proofs.ProgramFacts.{files_given}
use Rattle.paced_images.proofs.pacing.pace_files.Goals as goal

program_stops : (image machine loops : List ℕ) (sites : List SwitchSite) (counted : Bool) (tallied : List ℕ) (share : ℕ) (stop : Stop) → AnswersBy {X = Program} {Y = Program} (λ p. p) (Err stop) (IsProgramFound image machine loops sites counted tallied share) → HoldAnswers (Err stop) (IsPaced image machine loops sites counted tallied share)
program_stops image machine loops sites counted tallied share (Refused refusal) h = h
program_stops image machine loops sites counted tallied share Memory h = tt

pub stored_file-requires-clause-read : goal.stored_file-requires-clause-read
stored_file-requires-clause-read c = let p = c.in_ok-program.program in read_again c.args.image.now p.view c.in_ok-program.ensures.view_is

pub stored_file-requires-clause-file : goal.stored_file-requires-clause-file
stored_file-requires-clause-file c = let p = c.in_ok-program.program in rw (file_is c.args.image.now p.view c.in_ok-program.ensures.view_is) c.requires.image

pub stored_file-requires-clause-no_key : goal.stored_file-requires-clause-no_key
stored_file-requires-clause-no_key c = let p = c.in_ok-program.program in no_key p.view.keyed_segment c.in_ok-program.ensures.unscaled

pub stored_file-requires-clause-scaled : goal.stored_file-requires-clause-scaled
stored_file-requires-clause-scaled c = let p = c.in_ok-program.program in let h = c.in_ok-program.ensures in (p.power, notes_by c.args.marks.now.counted c.args.marks.now.tallied.now h.notes, _, _, _, _, h.in_range, h.scaled)

pub returns-in_err-program : goal.returns-in_err-program
returns-in_err-program c =
    let p = err_from_is_err_and c.from_residual.result c.from_residual.ensures.1 in
    rw (p.1, p.2) (program_stops c.args.image.now c.args.machine.now c.args.loops.now c.args.marks.now.sites.now c.args.marks.now.counted c.args.marks.now.tallied.now c.args.marks.now.share c.in_err-program.field-0.0 c.in_err-program.ensures)

pub returns : goal.returns
returns c = files_given c.args.image.now c.args.machine.now c.args.loops.now c.args.marks.now.sites.now c.args.marks.now.counted c.args.marks.now.tallied.now c.args.marks.now.share c.in_ok-program.program c.in_ok-bytes.bytes.items c.in_ok-program.ensures c.in_ok-bytes.ensures
