use Rattle.std.proofs.Common.{[]}
use Rattle.pace_tool.proofs.Wants.{input_missed, input_read}
use Rattle.pace_tool.proofs.command.input_want.Goals as goal

pub returns-then-number-inputs : goal.returns-then-number-inputs
returns-then-number-inputs c =
    input_read c.args.limit c.args.inputs.now c.args.number (record { ref_ptr = (0, 0); now = [] }) c.want.result c.if-number-inputs.true c.want.ensures.0 c.want.ensures.1

pub returns-else-number-inputs : goal.returns-else-number-inputs
returns-else-number-inputs c = input_missed c.args.limit c.args.inputs.now c.args.number c.if-number-inputs.false
