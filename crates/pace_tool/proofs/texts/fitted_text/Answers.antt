use Rattle.std.proofs.Common.{string_bytes}
use Rattle.std.specs.Prelude.{codes}
use Rattle.scale_report.specs.Texts.{number_line, numbered_lines, summary_text}
use Rattle.pace_tool.specs.Texts.{left_line_if, rewrite_line, switches_text}
use Rattle.pace_tool.proofs.SwitchLines.{glued}
use Rattle.pace_tool.proofs.texts.fitted_text.Goals as goal

pub returns : goal.returns
returns c =
    let f = c.args.fitted.now in
    glued (summary_text f.summary) (number_line (codes "inputs ") f.inputs) (number_line (codes "left out ") f.left_out) (numbered_lines left_line_if 1 c.args.endings.now) (number_line (codes "energy ") f.energy)
    (number_line (codes "hold energy ") f.hold_energy) (rewrite_line f.rewrite_energy) (number_line (codes "least energy ") f.least_energy) (switches_text c.args.proposals.now f.candidate)
    (string_bytes c.in_ok-text.text) (string_bytes c.push_count.new.text) (string_bytes c.push_count-2.new.text) (string_bytes c.push_left_out.new.text) (string_bytes c.push_number.new.text) (string_bytes c.push_number-2.new.text)
    (string_bytes c.push_rewrite.new.text) (string_bytes c.push_number-3.new.text) (string_bytes c.push_switches.new.text)
    c.in_ok-text.ensures c.in_ok-push_count.ensures c.in_ok-push_count-2.ensures c.in_ok-push_left_out.ensures c.in_ok-push_number.ensures c.in_ok-push_number-2.ensures c.in_ok-push_rewrite.ensures c.in_ok-push_number-3.ensures c.in_ok-push_switches.ensures
