-- The graph that is drawn of a program is that of one whose worst cycles are explained, and so of one that `hold` stores.
use Rattle.std.proofs.Common.{ℕ, List, None, Ok}
use Rattle.scale_base.specs.declared.summary.Summary.{Summary}
use Rattle.scaler.specs.Held.{IsHeld}
use Rattle.worst_reports.specs.declared.explained.Explained.{Explained}
use Rattle.worst_reports.specs.Explained.{AreExplained}
use Rattle.worst_reports.proofs.Laws.{explained_held}
use Rattle.plan_graphs.specs.declared.plan.PlanGraph.{PlanGraph}
use Rattle.plan_graphs.specs.Program.{IsPlanDrawn}

plan_explained : (image machine loops : List ℕ) (plan : PlanGraph) → IsPlanDrawn image machine loops (Ok plan) → AreExplained image machine loops (Ok (record { worst = plan.worst; lines = None }))
plan_explained image machine loops plan h = record {
  power = h.power;
  original = h.original;
  notes = h.notes;
  power_is = h.power_is;
  original_is = h.original_is;
  unscaled = h.unscaled;
  notes_are = h.notes_are;
  program = record {
    code = h.program.code;
    tree = h.program.tree;
    numbers = h.program.told.numbers;
    code_is = h.program.code_is;
    tree_is = h.program.tree_is;
    numbers_are = h.program.numbers_are;
    short = h.program.short;
    worst = h.program.worst;
    start = h.program.in_time.0;
    in_time = h.program.in_time.1;
    lines = tt;
  };
}

pub plan_held : (image machine loops : List ℕ) (plan : PlanGraph) → IsPlanDrawn image machine loops (Ok plan) → (stored : List ℕ) × (summary : Summary) × IsHeld image machine loops (Ok ((stored, summary)))
plan_held image machine loops plan h =
    let explained : Explained = record { worst = plan.worst; lines = None } in
    let held = explained_held image machine loops explained (plan_explained image machine loops plan h) in
    (held.0, held.1, held.2)
