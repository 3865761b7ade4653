use Rattle.std.proofs.Common.{List, ℕ, ◌++◌, ap, string_bytes, append_assoc, ◌∙◌}
use Rattle.worst_lines.specs.LineTexts.{head_words, place_text, times_words, cycle_words, line_text}
use Rattle.scale_report.specs.Texts.{address}
use Rattle.worst_lines.proofs.TextLines.{three_parts}
use Rattle.worst_lines.proofs.texts.push_line.Goals as goal

pub returns : goal.returns
unfolding line_text
returns c =
    let line = c.args.line.now in
    three_parts (string_bytes c.args.text.now) (string_bytes c.push_head.new.text) (string_bytes c.push_place.new.text) (string_bytes c.push_cycles.new.text)
    (head_words line.part) (address line.at) (place_text line.place) (times_words line.part) (cycle_words line.own line.all)
    c.in_ok-push_head.ensures c.in_ok-push_place.ensures c.in_ok-push_cycles.ensures
