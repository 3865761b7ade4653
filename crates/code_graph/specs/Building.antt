-- What building the graph of a text answers.
use Rattle.std.specs.Prelude.{Result, Ok, Err}
use Rattle.scale_base.specs.declared.refusal.Refusal.{Refusal}
use Rattle.code_text.specs.Text.{Text}
use Rattle.flow_graph.specs.FlowGraph.{FlowGraph, IsGraphOf}
use Rattle.flow_graph.specs.Refused.{IsRefusedBy}

-- its graph, or why its code is refused
abbrev pub IsBuilt : Text → Result FlowGraph Refusal → Type 0
IsBuilt t (Ok v) = IsGraphOf t v
IsBuilt t (Err refusal) = IsRefusedBy t refusal
