use Rattle.std.proofs.Common.{◌<◌, ◌≤◌, length, ap, sym, arith, ◌∙◌}
use Rattle.std.proofs.lemmas.List.Elements.{All-same}
use Rattle.std.proofs.lemmas.Result.{IfOk-weaker}
use Rattle.scale_base.specs.declared.instruction.Instr.{Instr}
use Rattle.scale_base.specs.Word.{FieldsInRange}
use Rattle.std.specs.Prelude.{List}
use Rattle.versioned_images.proofs.Fit.{words_there, fields_there, code_short}
use Rattle.versioned_images.proofs.making.pieces_bytes.Goals as goal

pub pieces_code-requires-clause-words : goal.pieces_code-requires-clause-words
pieces_code-requires-clause-words c = words_there c.args.view.now c.args.pieces.now c.args.sites.now c.args.base c.requires.fit

pub code_bytes-requires : goal.code_bytes-requires
code_bytes-requires c =
    All-same FieldsInRange _ _ (c.deref.ensures.value ∙ c.in_ok-code.ensures)
    (fields_there c.args.view.now c.args.pieces.now c.args.sites.now c.args.base c.requires.fit c.args.view.now.file c.file.ensures.image (All-same (λ b. b < 256) _ _ (sym c.file.ensures.bytes) c.are_bytes.ensures))

pub returns-clause-few : goal.returns-clause-few
returns-clause-few c =
    let few = code_short c.args.view.now c.args.pieces.now c.args.sites.now c.args.base c.requires.fit in
    let same = ap (λ (is : List Instr). length is) (c.deref.ensures.value ∙ c.in_ok-code.ensures) in
    let pieces = c.requires.few in
    IfOk-weaker c.code_bytes.result _ (λ out. length out.items ≤ 147456) (λ out e. omega (arith, few, same, pieces, e)) c.code_bytes.ensures.len
