use Rattle.code_text.specs.Text.{text_of}
use Rattle.run_traces.proofs.WorstRanges.{worst_in_range}
use Rattle.run_traces.proofs.numbers.numbers_of.Goals as goal

pub worst-requires-clause-calls : goal.worst-requires-clause-calls
worst-requires-clause-calls c = c.in_ok-weights.ensures.calls (text_of c.requires.0) c.requires.2

pub least-requires-clause-calls : goal.least-requires-clause-calls
least-requires-clause-calls c = c.in_ok-weights.ensures.calls (text_of c.requires.0) c.requires.2

pub least-requires-clause-worst : goal.least-requires-clause-worst
least-requires-clause-worst c = worst_in_range c.args.graph.now _ _ c.in_ok-worst.worst c.requires.2.flow c.in_ok-worst.ensures.found
