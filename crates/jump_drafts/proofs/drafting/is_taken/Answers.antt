use Rattle.std.proofs.lemmas.Result.{IfOk-weaker}
use Rattle.jump_drafts.proofs.drafting.is_taken.Goals as goal

pub returns : goal.returns
returns c =
    let taken = rw (c.file-image.ensures.bytes, c.as_bytes.ensures.value) at c.is_lowerable.ensures in
    IfOk-weaker c.is_lowerable.result _ _ (λ t h so few. h so) taken
