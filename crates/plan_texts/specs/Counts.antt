-- The lines that count what is drawn. Each ends with one line feed, and numbers are decimal.
use Rattle.std.specs.Prelude.{codes, ℕ, Bool, true, false, not, nat_eq, List, ◌++◌, length, sum_by, count_by}
use Rattle.scale_report.specs.Texts.{number_line}
use Rattle.plan_graphs.specs.declared.plan.Leads.{Leads}
use Rattle.plan_graphs.specs.declared.plan.Leads.TheVariants as leads
use Rattle.plan_graphs.specs.declared.plan.DrawnBlock.{DrawnBlock}
use Rattle.plan_graphs.specs.declared.plan.PlanGraph.{PlanGraph}

-- whether an edge leads to a block
abbrev pub is_to_block : Leads → Bool
is_to_block (leads.Block at) = true
is_to_block leads.Return = false
is_to_block leads.Exit = false
is_to_block leads.Nowhere = false

-- how many edges lead from block to block, and how many have marks
abbrev pub edges_between : List DrawnBlock → ℕ
edges_between blocks = sum_by (λ b. count_by (λ e. is_to_block e.leads) b.edges.items) blocks

abbrev pub marked_edges : List DrawnBlock → ℕ
marked_edges blocks = sum_by (λ b. count_by (λ e. not (nat_eq (length e.marks.items) 0)) b.edges.items) blocks

abbrev pub plan_text : PlanGraph → List ℕ
plan_text p =
    number_line (codes "functions ") (length p.functions.items)
    ++ number_line (codes "blocks ") (length p.blocks.items)
    ++ number_line (codes "loops ") (length p.loops.items)
    ++ number_line (codes "edges ") (edges_between p.blocks.items)
    ++ number_line (codes "marked ") (marked_edges p.blocks.items)
    ++ number_line (codes "worst cycles ") p.worst
