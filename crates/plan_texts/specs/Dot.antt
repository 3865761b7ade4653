-- The picture of a drawn graph for Graphviz, byte for byte.
use Rattle.std.specs.Prelude.{codes, cond, ℕ, ◌+◌, nat_lt, Bool, List, [], ◌++◌, length, flat_map, slice_get, sum_by, Option, Some, None}
use Rattle.std.specs.List.{list_any}
use Rattle.std.specs.Fmt.{decimal}
use Rattle.scale_report.specs.Texts.{address}
use Rattle.plan_graphs.specs.declared.plan.Leads.TheVariants as leads
use Rattle.plan_graphs.specs.declared.plan.DrawnEdge.{DrawnEdge}
use Rattle.plan_graphs.specs.declared.plan.DrawnCall.{DrawnCall}
use Rattle.plan_graphs.specs.declared.plan.DrawnBlock.{DrawnBlock}
use Rattle.plan_graphs.specs.declared.plan.DrawnFunction.{DrawnFunction}
use Rattle.plan_graphs.specs.declared.plan.DrawnLoop.{DrawnLoop}
use Rattle.plan_graphs.specs.declared.plan.PlanGraph.{PlanGraph}
use Rattle.plan_texts.specs.Words.{name_line, opened_function, opened, closed, line_style, arrow_head, line_width, line_color, mark_line, times_line, end_line}

-- ---- functions and loops

unfoldable pub function_words : DrawnFunction → List ℕ
function_words f =
    name_line f.name ++ address f.entry ++ codes "\\lworst " ++ decimal f.worst ++ codes " cycles, called " ++ decimal f.calls
    ++ codes "x\\l"

abbrev pub function_style : List ℕ
function_style = codes "style=\"filled,rounded\" fillcolor=\"#f6f8fa\" color=\"#d0d7de\" "

unfoldable pub function_line : DrawnFunction → List ℕ
function_line f = opened_function f.number ++ function_style ++ codes "label=\"" ++ function_words f ++ codes "\" }\n"

unfoldable pub loop_words : DrawnLoop → List ℕ
loop_words l =
    codes "style=\"filled,rounded\" fillcolor=\"#0969da14\" color=\"#0969da55\" label=\"loop " ++ decimal (l.number + 1) ++ codes " at "
    ++ address l.header
    ++ codes "\\lbound " ++ decimal l.bound ++ codes ", turn " ++ decimal l.turn ++ codes " cycles\\l\" "

unfoldable pub loop_line : DrawnLoop → List ℕ
loop_line l = opened l.function l.around.items ++ loop_words l ++ closed l.around.items

-- ---- blocks

-- A block by the address where it begins, with further words.
unfoldable pub block_words : DrawnBlock → List ℕ
block_words b =
    codes "b" ++ address b.range.from ++ codes " [label=\"" ++ name_line b.name ++ address b.range.from ++ codes " to "
    ++ address b.range.to
    ++ codes "\\lleft " ++ decimal b.left ++ codes "\\l" ++ flat_map (λ e. end_line e.leads) b.edges.items

unfoldable pub block_line : (more : List ℕ) → DrawnBlock → List ℕ
block_line more b = opened b.function b.around.items ++ block_words b ++ more ++ codes "\"] " ++ closed b.around.items

-- an arrow from a block to another
unfoldable pub arrow : (from to : ℕ) → List ℕ
arrow from to = codes "b" ++ address from ++ codes " -> b" ++ address to

abbrev pub is_marked : DrawnEdge → Bool
is_marked e = nat_lt 0 (length e.marks.items)

abbrev pub is_taken : DrawnEdge → Bool
is_taken e = nat_lt 0 e.taken

unfoldable pub edge_style : DrawnEdge → List ℕ
edge_style e =
    codes " [style=\"" ++ line_style e.edge.kind ++ codes "\" arrowhead=\"" ++ arrow_head e.edge.kind ++ codes "\" color=\""
    ++ line_color (is_marked e) (is_taken e)
    ++ codes "\" fontcolor=\"" ++ line_color (is_marked e) (is_taken e) ++ codes "\" penwidth=\"" ++ line_width (is_taken e)
    ++ codes "\" label=\""

unfoldable pub edge_to : (from to : ℕ) → DrawnEdge → List ℕ
edge_to from to e = arrow from to ++ edge_style e ++ flat_map mark_line e.marks.items ++ times_line e.taken ++ codes "\"]\n"

-- an edge that leads to a block
abbrev pub edge_line : (from : ℕ) → DrawnEdge → List ℕ
edge_line from e = elim e.leads [ leads.Block to ↦ edge_to from to e | leads.Return ↦ [] | leads.Exit ↦ [] | leads.Nowhere ↦ [] ]

-- ---- calls, as arrows or as words of the block that calls

unfoldable pub call_to : (from to : ℕ) → Bool → List ℕ
call_to from to taken =
    arrow from to ++ codes " [style=\"dashed\" arrowhead=\"open\" color=\"#8250df\" penwidth=\"" ++ line_width taken ++ codes "\"]\n"

abbrev pub call_line : (from : ℕ) → Bool → Option DrawnCall → List ℕ
call_line from taken None = []
call_line from taken (Some call) = call_to from call.entry taken

-- the name of a function, if there is one
abbrev pub function_name : Option DrawnFunction → List ℕ
function_name None = []
function_name (Some f) = name_line f.name

-- the name and the entry of the function that is called, one of these
unfoldable pub callee_words : List DrawnFunction → DrawnCall → List ℕ
callee_words functions call = codes "calls " ++ function_name (slice_get functions call.function) ++ address call.entry ++ codes "\\l"

abbrev pub call_words : List DrawnFunction → Option DrawnCall → List ℕ
call_words functions None = []
call_words functions (Some call) = callee_words functions call

-- a block and its edges, with its call as an arrow, and with its call as words
unfoldable pub block_lines : DrawnBlock → List ℕ
block_lines b = block_line [] b ++ flat_map (edge_line b.range.from) b.edges.items ++ call_line b.range.from
    (list_any is_taken b.edges.items) b.call

unfoldable pub calling_lines : List DrawnFunction → DrawnBlock → List ℕ
calling_lines functions b = block_line (call_words functions b.call) b ++ flat_map (edge_line b.range.from) b.edges.items

-- ---- functions alone

unfoldable pub function_node : DrawnFunction → List ℕ
function_node f =
    opened_function f.number ++ function_style ++ codes "f" ++ decimal f.number ++ codes " [label=\"" ++ function_words f ++ codes "\"] }\n"

-- a call, with how often the edges behind it are taken: so often the walk calls there
unfoldable pub function_arrow : (from to times : ℕ) → List ℕ
function_arrow from to times =
    codes "f" ++ decimal from ++ codes " -> f" ++ decimal to ++ codes " [label=\" " ++ decimal times ++ codes "x\"]\n"

abbrev pub function_call : (from times : ℕ) → Option DrawnCall → List ℕ
function_call from times None = []
function_call from times (Some call) = function_arrow from call.function times

abbrev pub function_calls : DrawnBlock → List ℕ
function_calls b = function_call b.function (sum_by (λ e. e.taken) b.edges.items) b.call

-- ---- the whole

abbrev pub head : List ℕ
head =
    codes "digraph plan {\ngraph [bgcolor=\"#ffffff\" fontname=\"Helvetica\" fontsize=\"11\" fontcolor=\"#24292f\" labeljust=\"l\" labelloc=\"t\" nodesep=\"0.25\" ranksep=\"0.35\"]\n"
    ++ codes "node [shape=\"box\" style=\"filled\" fillcolor=\"#ffffff\" color=\"#8c959f\" fontname=\"Helvetica\" fontsize=\"10\" fontcolor=\"#24292f\" margin=\"0.12,0.06\" height=\"0\" width=\"0\"]\n"
    ++ codes "edge [color=\"#57606a\" fontname=\"Helvetica\" fontsize=\"9\" fontcolor=\"#57606a\" arrowsize=\"0.7\"]\n"

abbrev pub legend : List ℕ
legend =
    codes "thick: a walk that takes them, and how often it goes there\\lorange: marked by rewrite\\l"
    ++ codes "solid: taken, or jump (open arrow), or next (hollow arrow)\\ldashed: untaken\\ldotted: behind a call\\lviolet: call\\l\"\n"

unfoldable pub title : ℕ → List ℕ
title worst = codes "label=\"worst case " ++ decimal worst ++ codes " cycles\\l" ++ legend

-- so many blocks have arrows for calls, and so many are drawn at all
abbrev pub most_with_arrows : ℕ
most_with_arrows = 100

abbrev pub most_blocks : ℕ
most_blocks = 2000

abbrev pub clusters : PlanGraph → List ℕ
clusters p = flat_map function_line p.functions.items ++ flat_map loop_line p.loops.items

abbrev pub small_picture : PlanGraph → List ℕ
small_picture p = clusters p ++ flat_map block_lines p.blocks.items

-- Graphviz is to place the blocks in few steps: `nslimit`, https://graphviz.org/docs/attrs/nslimit/.
abbrev pub few_steps : List ℕ
few_steps = codes "nslimit=\"0.05\"\n"

abbrev pub large_picture : PlanGraph → List ℕ
large_picture p = few_steps ++ clusters p ++ flat_map (calling_lines p.functions.items) p.blocks.items

abbrev pub overview : PlanGraph → List ℕ
overview p = flat_map function_node p.functions.items ++ flat_map function_calls p.blocks.items

-- of many blocks calls in words, and of more the functions alone
abbrev pub whole_picture : PlanGraph → List ℕ
whole_picture p = cond (nat_lt most_with_arrows (length p.blocks.items)) (large_picture p) (small_picture p)

abbrev pub picture : PlanGraph → List ℕ
picture p = cond (nat_lt most_blocks (length p.blocks.items)) (overview p) (whole_picture p)

abbrev pub plan_dot : PlanGraph → List ℕ
plan_dot p = head ++ title p.worst ++ picture p ++ codes "}\n"
