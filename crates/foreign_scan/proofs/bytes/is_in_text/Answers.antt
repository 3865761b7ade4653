use Rattle.std.proofs.Common.{◌∙◌}
use Rattle.foreign_scan.proofs.LoadedLaws.{text_address}
use Rattle.foreign_scan.proofs.bytes.is_in_text.Goals as goal

pub returns : goal.returns
returns c = c.is_text_word.ensures ∙ text_address c.args.view.now.file c.args.view.now c.args.at c.file-file.ensures.image
