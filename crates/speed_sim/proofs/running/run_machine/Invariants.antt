use Rattle.rv_machine.specs.Code.{IsDecodedCode}
use Rattle.rv_machine.specs.Machine.{state_of, machine_setting}
use Rattle.speed_sim.specs.Progress.{Job, Progress}
use Rattle.speed_sim.specs.Tallied.{tallied, AreCosts}
use Rattle.speed_sim.proofs.running.run_machine.Given as goal

abbrev pub invariant-loop-step : goal.invariant-loop-step
invariant-loop-step g l =
    let job : Job _ = record {
      power = l.fn.given.power.now;
      env = machine_setting g.M.Memory.layout l.initial.machine;
      first = state_of g.M.Memory.bytes l.initial.machine;
      start = l.fn.given.start;
      see = g.W.Watches.watched;
      unseen = l.initial.watcher;
    } in
    record {
      progress : Progress job l.step (machine_setting g.M.Memory.layout l.machine) (state_of g.M.Memory.bytes l.machine) (tallied l.fn.given.power.now l.tally) l.watcher;
      code : IsDecodedCode (g.M.Memory.layout l.machine.memory) (g.M.Memory.bytes l.machine.memory) l.code;
      costs : AreCosts l.fn.given.power.now.costs l.prices.costs.by_class;
    }
