use Rattle.std.proofs.Common.{sym, ◌∙◌}
use Rattle.foreign_scan.proofs.KeyLaws.{keyed_is}
use Rattle.foreign_scan.proofs.bytes.is_keyed.Goals as goal

pub returns : goal.returns
returns c = c.is_in_key.ensures ∙ sym (keyed_is c.args.view.now c.keyed.result c.args.at (sym c.keyed.ensures))
