use Rattle.std.proofs.Common.{refl}
use Rattle.std.specs.Prelude.{string_bytes}
use Rattle.code_text.specs.Text.{text_of}
use Rattle.copy_bounds.specs.Meanings.{meaning}
use Rattle.copy_checks.specs.declared.tables.CopyCode.{CopyCode}
use Rattle.version_loops.specs.Checked.{IsRightFile, IsShownFile}
use Rattle.version_loops.proofs.Stops.{some_too}
use Rattle.version_loops.proofs.files.meant_text.Goals as goal

pub returns-clause-shown : goal.returns-clause-shown
returns-clause-shown c =
    let case = c.args.case.now in
    let version = case.version.now in
    let code : CopyCode = record { graph = case.graph; entry = c.entry.result; meant = c.args.meant } in
    some_too c.proposed_text.result (λ text. IsRightFile case.view.now code case.olds.now case.drafted.now (string_bytes text))
    (λ text. IsShownFile case.view.now case.graph.now version case.olds.now case.drafted.now (string_bytes text)) c.proposed_text.ensures.right
    (λ text right. record {
      code = code;
      graph_is = refl;
      entry_is = c.entry.ensures;
      meant = c.requires.meant;
      calls = c.if-not-are_calls_kept.ensures refl (meaning version.pieces.items version.sites.items version.base) (text_of case.view.now) c.requires.graph c.requires.meant;
      right = right;
    })
