use Rattle.loop_versions.proofs.GuardSteps.{guard_leads}
use Rattle.loop_versions.proofs.runs.guards_lead_on.Goals as goal

pub returns : goal.returns
returns c = guard_leads
