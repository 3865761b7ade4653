use Rattle.std.proofs.Common.{refl, map}
use Rattle.std.proofs.lemmas.Result.{err_from_is_err_and}
use Rattle.marked_images.proofs.Laws.{file_is, no_key, read_again}
use Rattle.stub_writer.specs.Sites.{site_of}
use Rattle.rewritten_runs.specs.Stubs.{rewritten_file}
use Rattle.paced_images.specs.Wanted.{notes_by}
use Rattle.paced_images.proofs.KeptFacts.{dead_mark, kept_of, no_dead_mark, paced_of, program_is}
use Rattle.paced_images.proofs.proposed.pace_all.Goals as goal

pub stored_file-requires-clause-read : goal.stored_file-requires-clause-read
stored_file-requires-clause-read c = let p = c.in_ok-program.program in read_again c.args.image.now p.view c.in_ok-program.ensures.view_is

pub stored_file-requires-clause-file : goal.stored_file-requires-clause-file
stored_file-requires-clause-file c = let p = c.in_ok-program.program in rw (file_is c.args.image.now p.view c.in_ok-program.ensures.view_is) c.requires

pub stored_file-requires-clause-no_key : goal.stored_file-requires-clause-no_key
stored_file-requires-clause-no_key c = let p = c.in_ok-program.program in no_key p.view.keyed_segment c.in_ok-program.ensures.unscaled

pub stored_file-requires-clause-scaled : goal.stored_file-requires-clause-scaled
stored_file-requires-clause-scaled c =
    let p = c.in_ok-program.program in
    let q = c.args.proposal.now in
    let h = c.in_ok-program.ensures in (p.power, notes_by c.marks-marks.result.counted c.marks-marks.result.tallied.now h.notes, _, _, _, _, h.in_range, h.scaled)

pub returns-in_err-bytes : goal.returns-in_err-bytes
returns-in_err-bytes c =
    let p = err_from_is_err_and c.from_residual-in_err-bytes.result c.from_residual-in_err-bytes.ensures.1 in
    rw (p.1, p.2) tt

pub returns-then-not-are_all : goal.returns-then-not-are_all
returns-then-not-are_all c =
    let p = c.in_ok-program.program in
    let q = c.args.proposal.now in
    let kept = c.in_ok-kept.kept in
    let is = program_is c.args.image.now c.args.machine.now c.args.loops.now q c.marks-marks.result.sites.now c.marks-marks.result.counted c.marks-marks.result.tallied.now c.marks-marks.result.share c.marks-marks.ensures.sites c.marks-marks.ensures.counted c.marks-marks.ensures.tallied c.marks-marks.ensures.share p c.in_ok-program.ensures in
    let are = kept_of c.args.image.now c.args.machine.now c.args.loops.now q p is kept.sites.items kept.tallied.items c.marks-marks.result.sites.now c.marks-marks.result.tallied.now c.marks-marks.ensures.sites c.marks-marks.ensures.tallied c.in_ok-kept.ensures.sites c.in_ok-kept.ensures.tallied in
    let bytes = rewritten_file p.view (map site_of p.scaling.stubs.items) p.scaling.base p.scaling.summary.start in (
      ((bytes, p.scaling.summary), paced_of c.args.image.now c.args.machine.now c.args.loops.now q p is bytes refl),
      dead_mark c.args.image.now c.args.machine.now c.args.loops.now q kept.sites.items kept.tallied.items are (λ all. let on = c.are_all.ensures.1 all in let off = c.if-not-are_all.true in let bad : ⊥ = cc in bad),
    )

pub returns : goal.returns
returns c =
    let p = c.in_ok-program.program in
    let q = c.args.proposal.now in
    let kept = c.in_ok-kept.kept in
    let is = program_is c.args.image.now c.args.machine.now c.args.loops.now q c.marks-marks.result.sites.now c.marks-marks.result.counted c.marks-marks.result.tallied.now c.marks-marks.result.share c.marks-marks.ensures.sites c.marks-marks.ensures.counted c.marks-marks.ensures.tallied c.marks-marks.ensures.share p c.in_ok-program.ensures in
    let are = kept_of c.args.image.now c.args.machine.now c.args.loops.now q p is kept.sites.items kept.tallied.items c.marks-marks.result.sites.now c.marks-marks.result.tallied.now c.marks-marks.ensures.sites c.marks-marks.ensures.tallied c.in_ok-kept.ensures.sites c.in_ok-kept.ensures.tallied in
    let all = c.are_all.ensures.0 c.if-not-are_all.false in (
      paced_of c.args.image.now c.args.machine.now c.args.loops.now q p is c.in_ok-bytes.bytes.items c.in_ok-bytes.ensures,
      no_dead_mark c.args.image.now c.args.machine.now c.args.loops.now q kept.sites.items kept.tallied.items are all.0 all.1,
    )
