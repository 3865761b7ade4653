-- What an edge of the graph costs: the cycles of the class of its instruction.
use Rattle.std.specs.Prelude.{ℕ, Bool, true, false, slice_get, Option, Some, None}
use Rattle.scale_base.specs.declared.instruction.Instr.{Instr}
use Rattle.scale_base.specs.declared.instruction.Instr.TheVariants as instr
use Rattle.scale_base.specs.declared.stepping.Class.{Class}
use Rattle.scale_base.specs.Class.{class_of}
use Rattle.scale_base.specs.declared.edges.Edge.{Edge}
use Rattle.scale_base.specs.declared.edges.EdgeKind.{EdgeKind}
use Rattle.cost_theory.specs.Reached.{Code}
use Rattle.scale_base.specs.declared.edges.EdgeKind.TheVariants.{Taken, Untaken, Jump, Next, CallNext, End}
use Rattle.code_text.specs.Text.{Text, instr_at}

abbrev pub is_taken_kind : EdgeKind → Bool
is_taken_kind Taken = true
is_taken_kind Untaken = false
is_taken_kind Jump = false
is_taken_kind Next = false
is_taken_kind CallNext = false
is_taken_kind End = false

-- the class of the step over an edge. An EBREAK traps, so it has none, and costs nothing.
abbrev pub class_by : Option Instr → EdgeKind → Option Class
class_by None kind = None
class_by (Some instr.Ebreak) kind = None
class_by (Some i) kind = Some (class_of i (is_taken_kind kind))

abbrev pub edge_class : Text → Option Edge → Option Class
edge_class t None = None
edge_class t (Some e) = class_by (instr_at t e.at) e.kind

abbrev pub cost_of : (Class → ℕ) → Option Class → ℕ
cost_of costs None = 0
cost_of costs (Some class) = costs class

-- the cost of each edge, by its number, in cycles
abbrev pub weights : Text → Code → (Class → ℕ) → ℕ → ℕ
weights t code costs e = cost_of costs (edge_class t (slice_get code.edges e))
