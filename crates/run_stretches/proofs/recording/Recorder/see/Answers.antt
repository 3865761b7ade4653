use Rattle.std.proofs.Common.{◌∙◌, sym}
use Rattle.run_stretches.proofs.PayLaws.{can_few, can_port}
use Rattle.run_stretches.proofs.recording.Recorder.see.Goals as goal

pub pay-requires-clause-few : goal.pay-requires-clause-few
pay-requires-clause-few c = can_few c.args.self.now c.args.step.now (sym c.can_pay.ensures ∙ c.if-can_pay.true)

pub pay-requires-clause-port : goal.pay-requires-clause-port
pay-requires-clause-port c = can_port c.args.self.now c.args.step.now (sym c.can_pay.ensures ∙ c.if-can_pay.true)
