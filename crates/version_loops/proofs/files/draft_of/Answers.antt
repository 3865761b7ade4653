use Rattle.std.proofs.Common.{Ok, List, ℕ, subst}
use Rattle.std.specs.Prelude.{None, IfOk}
use Rattle.loop_drafts.specs.declared.drafted.LoopDraft.{LoopDraft}
use Rattle.loop_drafts.specs.Drafted.{IsDrafted}
use Rattle.version_loops.proofs.Stops.{ok_by}
use Rattle.version_loops.proofs.files.draft_of.Goals as goal

pub returns-clause-drafted : goal.returns-clause-drafted
returns-clause-drafted g c =
    subst (λ (file : List ℕ). IfOk c.draft_loops.result (λ draft. IsDrafted file None (Ok draft))) c.deref.ensures.value
    (ok_by (λ (draft : LoopDraft). draft) c.draft_loops.result (IsDrafted c.deref.result.now None) (λ draft. IsDrafted c.deref.result.now None (Ok draft)) c.draft_loops.ensures.drafted (λ draft h. h))
