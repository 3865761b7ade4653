use Rattle.code_text.specs.Text.{text_of, is_target}
use Rattle.code_text.proofs.Laws.{sorted_rise}
use Rattle.image_lower.proofs.Rows.{all_noted}
use Rattle.image_lower.proofs.far.entered_by.Goals as goal

pub returns-clause-entered : goal.returns-clause-entered
returns-clause-entered c =
    all_noted (is_target (text_of c.args.view.now)) c.args.notes.now c.loop-note.entered.items c.sort.new.self.items c.loop-note.note-index c.loop-note-test.false c.loop-note.invariant c.sort.ensures.permutation

pub returns-clause-rising : goal.returns-clause-rising
returns-clause-rising c = sorted_rise c.sort.new.self.items c.in_ok-sort.ensures.sorted
