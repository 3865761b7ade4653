use Rattle.std.proofs.Common.{◌∙◌, ap, sym}
use Rattle.scale_base.specs.Image.{loaded_byte}
use Rattle.scale_base.specs.State.{half_at, word_at}
use Rattle.stack_laws.specs.Cells.{number_at}
use Rattle.stack_laws.proofs.Laws.{one_byte, two_bytes, four_bytes}
use Rattle.stack_checks.proofs.memory.cell_number.Goals as goal

pub returns-in-1 : goal.returns-in-1
returns-in-1 c =
    c.from.ensures
    ∙ (c.byte_at.ensures
    ∙ (ap (loaded_byte c.args.view.now) c.from-at.ensures
    ∙ (sym (one_byte (loaded_byte c.args.view.now) c.args.cell.now.at) ∙ ap (number_at (loaded_byte c.args.view.now) c.args.cell.now.at) (sym c.in-1.is))))

pub returns-in-2 : goal.returns-in-2
returns-in-2 c =
    c.half.ensures.number
    ∙ (ap (half_at (loaded_byte c.args.view.now)) c.from-at.ensures
    ∙ (sym (two_bytes (loaded_byte c.args.view.now) c.args.cell.now.at) ∙ ap (number_at (loaded_byte c.args.view.now) c.args.cell.now.at) (sym c.in-2.is)))

pub returns-in-4 : goal.returns-in-4
returns-in-4 c =
    c.word.ensures
    ∙ (ap (word_at (loaded_byte c.args.view.now)) c.from-at.ensures
    ∙ (sym (four_bytes (loaded_byte c.args.view.now) c.args.cell.now.at) ∙ ap (number_at (loaded_byte c.args.view.now) c.args.cell.now.at) (sym c.in-4.is)))
