use Rattle.std.proofs.Common.{ℕ, ap, ◌∙◌}
use Rattle.std.specs.Prelude.{Vec}
use Rattle.std.specs.declared.alloc.Global.{Global}
use Rattle.std.proofs.lemmas.Result.{err_from_is_err_and}
use Rattle.loop_drafts.specs.declared.drafted.LoopDraft.{LoopDraft}
use Rattle.loop_drafts.specs.Drafted.{IsDrafted}
use Rattle.loop_drafts.specs.Pieces.{printed}
use Rattle.pace_tool.specs.Drafts.{Drafts}
use Rattle.pace_tool.specs.Texts.{drafted_text}
use Rattle.pace_tool.specs.Told.{FileOf, written_view}
use Rattle.pace_tool.proofs.Told.{stopped}
use Rattle.pace_tool.proofs.loops.drafted.Goals as goal

pub returns-in_err-draft : goal.returns-in_err-draft
returns-in_err-draft g c =
    let p = err_from_is_err_and c.from_residual.result c.from_residual.ensures.1 in
    rw (p.1, p.2) (stopped (λ (x : LoopDraft). x) written_view c.in_err-draft.field-0.0 (IsDrafted c.args.image.now c.args.inputs.now.most)
    (FileOf (Drafts c.args.image.now c.args.inputs.now.most c.args.inputs.now.trusts) drafted_text) c.in_err-draft.ensures.drafted (λ r h. h))

pub returns : goal.returns
returns g c = (c.in_ok-draft.draft, record { drafted = c.in_ok-draft.ensures.drafted; allowed = c.in_ok-draft.ensures.allowed; is_printed = ap (λ (v : Vec ℕ Global). v.items) c.into_bytes.ensures.value ∙ c.in_ok-file.ensures ∙ ap printed c.deref.ensures.value }, c.in_ok-text.ensures)
