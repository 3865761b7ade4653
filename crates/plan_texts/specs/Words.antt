-- Words of a picture for Graphviz. Lines of a label end with `\l`, which sets them to the left.
-- DOT language: https://graphviz.org/doc/info/lang.html. A subgraph whose name stands twice in one graph is one subgraph.
use Rattle.std.specs.Prelude.{codes, cond, ℕ, ◌+◌, ◌&&◌, ◌||◌, ◌==◌, nat_le, Bool, List, [], ◌++◌, flat_map, string_bytes, Option, Some, None}
use Rattle.std.specs.List.{list_all}
use Rattle.std.specs.Fmt.{decimal}
use Rattle.scale_base.specs.declared.edges.EdgeKind.{EdgeKind}
use Rattle.scale_base.specs.declared.edges.EdgeKind.TheVariants as kinds
use Rattle.scale_base.specs.declared.fragments.Mark.{Mark}
use Rattle.scale_base.specs.declared.fragments.Mark.TheVariants as marks
use Rattle.code_names.specs.Places.{place_words}
use Rattle.plan_graphs.specs.declared.plan.PlaceName.{PlaceName}
use Rattle.plan_graphs.specs.declared.plan.DrawnMark.{DrawnMark}
use Rattle.plan_graphs.specs.declared.plan.Leads.{Leads}
use Rattle.plan_graphs.specs.declared.plan.Leads.TheVariants as leads

-- the bytes of letters, of digits, and of `_`, `.` and `$`: none of them means anything in a string of DOT
abbrev pub is_plain_byte : ℕ → Bool
is_plain_byte b = (nat_le 97 b && nat_le b 122) || ((nat_le 65 b && nat_le b 90) ||
    ((nat_le 48 b && nat_le b 57) || ((b == 95) || ((b == 46) || (b == 36)))))

-- the line of a name, if there is one; a symbol of other bytes isn't shown
abbrev pub name_line : Option PlaceName → List ℕ
name_line None = []
name_line (Some p) = cond (list_all is_plain_byte (string_bytes p.symbol)) (place_words (string_bytes p.symbol) p.offset ++ codes "\\l") []

-- ---- clusters

abbrev pub opened_loop : ℕ → List ℕ
opened_loop l = codes "subgraph cluster_l" ++ decimal l ++ codes " { "

abbrev pub opened_function : ℕ → List ℕ
opened_function f = codes "subgraph cluster_f" ++ decimal f ++ codes " { "

abbrev pub closed_loop : ℕ → List ℕ
closed_loop l = codes "} "

-- the beginnings of the clusters of a function and, within it, of loops, the outermost first; and their ends
unfoldable pub opened : (function : ℕ) → (around : List ℕ) → List ℕ
opened function around = opened_function function ++ flat_map opened_loop around

unfoldable pub closed : (around : List ℕ) → List ℕ
closed around = flat_map closed_loop around ++ codes "}\n"

-- ---- edges

-- the line and the arrow of the edges of a kind
abbrev pub line_style : EdgeKind → List ℕ
line_style kinds.Taken = codes "solid"
line_style kinds.Untaken = codes "dashed"
line_style kinds.Jump = codes "solid"
line_style kinds.Next = codes "solid"
line_style kinds.CallNext = codes "dotted"
line_style kinds.End = codes "solid"

abbrev pub arrow_head : EdgeKind → List ℕ
arrow_head kinds.Taken = codes "normal"
arrow_head kinds.Untaken = codes "normal"
arrow_head kinds.Jump = codes "vee"
arrow_head kinds.Next = codes "empty"
arrow_head kinds.CallNext = codes "empty"
arrow_head kinds.End = codes "normal"

-- thick where the walk goes, orange where there is a mark, else blue where the walk goes
abbrev pub line_width : Bool → List ℕ
line_width taken = cond taken (codes "2.4") (codes "1.0")

abbrev pub line_color : (marked taken : Bool) → List ℕ
line_color marked taken = cond marked (codes "#bc4c00") (cond taken (codes "#0550ae") (codes "#57606a"))

abbrev pub mark_name : Mark → List ℕ
mark_name marks.Switch = codes "switch"
mark_name (marks.Exit counter) = codes "exit"
mark_name (marks.Reset counter) = codes "reset"
mark_name (marks.Count counter) = codes "count"
mark_name marks.Lowest = codes "lowest"
mark_name (marks.Tally counter) = codes "tally"

-- the loop of a mark, by its number in the loop file
abbrev pub loop_words : Option ℕ → List ℕ
loop_words None = []
loop_words (Some l) = codes " loop " ++ decimal (l + 1)

unfoldable pub mark_line : DrawnMark → List ℕ
mark_line m = codes " " ++ mark_name m.mark ++ loop_words m.counted ++ codes "\\l"

-- how often the walk goes, where it does
abbrev pub times_line : ℕ → List ℕ
times_line times = cond (times == 0) [] (codes " " ++ decimal times ++ codes "x\\l")

-- ---- blocks

-- where a run leaves its function at a block's end
abbrev pub end_line : Leads → List ℕ
end_line (leads.Block at) = []
end_line leads.Return = codes "returns\\l"
end_line leads.Exit = codes "exits\\l"
end_line leads.Nowhere = []
