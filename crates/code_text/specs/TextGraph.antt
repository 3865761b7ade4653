-- The graph of the reached code of a text.
use Rattle.std.specs.Prelude.{ℕ}
use Rattle.cost_theory.specs.Graph.{Graph}
use Rattle.cost_theory.specs.Reached.{Code, graph_of, IsCodeOf, HasNoBadWord}
use Rattle.code_text.specs.Text.{Text, kind_at}

abbrev pub text_graph : Text → Code → Graph
text_graph t code = graph_of (kind_at t) code

-- the lists are the reached code of the text, and no word of it is refused
pub record IsReachedCode (t : Text) (code : Code) : Type 0 where
  pub lists : IsCodeOf (kind_at t) t.entry code
  pub words : HasNoBadWord (kind_at t) t.entry
