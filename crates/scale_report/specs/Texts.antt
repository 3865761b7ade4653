-- The texts that the program prints, byte for byte. Each line ends with one line feed. Numbers are decimal, without leading zeros;
-- an address is `0x` and eight lower-case hexadecimal digits.
use Rattle.std.specs.Prelude.{codes, cond, ℕ, zero, suc, ◌+◌, ◌/◌, ◌%◌, nat_lt, if◌then◌else◌, List, [], ◌∷◌, ◌++◌, length, flat_map, Option, Some, None}
use Rattle.std.specs.Fmt.{decimal}
use Rattle.scale_base.specs.declared.summary.Summary.{Summary}
use Rattle.scale_base.specs.declared.summary.Lowered.{Lowered}
use Rattle.scale_base.specs.declared.summary.Tuned.{Tuned}
use Rattle.scale_base.specs.declared.verdict.Verdict.{Verdict}
use Rattle.scale_base.specs.declared.verdict.Verdict.TheVariants.{Yes, No}
use Rattle.scale_base.specs.declared.verdict.Why.{Why}
use Rattle.scale_base.specs.declared.verdict.Why.TheVariants as why
use Rattle.scale_base.specs.declared.edges.EdgeKind.{EdgeKind}
use Rattle.scale_base.specs.declared.edges.EdgeKind.TheVariants as edge
use Rattle.scale_base.specs.declared.fragments.Fragment.{Fragment}
use Rattle.scale_base.specs.declared.fragments.Fragment.TheVariants as fragment
use Rattle.scale_base.specs.declared.plan.SiteLine.{SiteLine}
use Rattle.scale_base.specs.declared.plan.ScalePlan.{ScalePlan}
use Rattle.scale_base.specs.declared.refusal.Field.{Field}
use Rattle.scale_base.specs.declared.refusal.Field.TheVariants as field
use Rattle.scale_base.specs.declared.refusal.Refusal.{Refusal}
use Rattle.scale_base.specs.declared.refusal.Refusal.TheVariants as refusal
use Rattle.scale_base.specs.declared.endings.End.{End}
use Rattle.scale_base.specs.declared.endings.End.TheVariants.{Exited, Trapped, OutOfSteps}
use Rattle.scale_base.specs.declared.endings.Kept.{Kept}
use Rattle.scale_base.specs.declared.endings.Kept.TheVariants as kept
use Rattle.scale_base.specs.declared.stepping.TrapKind.{TrapKind}
use Rattle.scale_base.specs.declared.stepping.TrapKind.TheVariants as trap
use Rattle.power_model.specs.Report.{Report}
use Rattle.power_model.specs.Survey.{Survey, Surveyed}
use Rattle.power_model.specs.declared.survey.Totals.{Totals}

-- a line of some words and a number
unfoldable pub number_line : List ℕ → ℕ → List ℕ
number_line words n = words ++ decimal n ++ 10 ∷ []

-- the line of the worst time and the deadline
unfoldable pub times_line : ℕ → ℕ → List ℕ
times_line time deadline = codes "worst time " ++ decimal time ++ codes " of " ++ decimal deadline ++ 10 ∷ []

-- the summary
abbrev pub summary_text : Summary → List ℕ
summary_text s =
    number_line (codes "start level ") s.start
    ++ number_line (codes "worst cycles ") s.worst
    ++ times_line s.time s.deadline
    ++ number_line (codes "stub cycles at most ") s.stub_cycles
    ++ number_line (codes "switch edges ") s.switch_edges
    ++ number_line (codes "exit edges ") s.exit_edges
    ++ number_line (codes "count edges ") s.count_edges
    ++ number_line (codes "stub bytes ") s.stub_bytes

-- what was lowered: how many far jumps and how many listed ones, the bytes of the block of trees, and the greatest depth of a tree
abbrev pub lowered_text : Lowered → List ℕ
lowered_text l =
    number_line (codes "pairs ") l.pairs
    ++ number_line (codes "jumps ") l.jumps
    ++ number_line (codes "block bytes ") l.block
    ++ number_line (codes "depth ") l.depth

-- the hexadecimal digit of a number below 16
abbrev pub hex_digit : ℕ → ℕ
hex_digit n = if nat_lt n 10 then 48 + n else 87 + n

-- the last hexadecimal digits of a number, so many
unfoldable pub hex_digits : ℕ → ℕ → List ℕ
hex_digits zero n = []
hex_digits (suc k) n = hex_digits k (n / 16) ++ hex_digit (n % 16) ∷ []

unfoldable pub address : ℕ → List ℕ
address n = codes "0x" ++ hex_digits 8 n

-- the name of a field of an ELF header
abbrev pub field_name : Field → List ℕ
field_name field.Class = codes "class"
field_name field.Encoding = codes "data"
field_name field.Version = codes "version"
field_name field.Kind = codes "type"
field_name field.Machine = codes "machine"
field_name field.Flags = codes "flags"
field_name field.PhEntSize = codes "phentsize"
field_name field.PhNum = codes "phnum"
field_name field.ShEntSize = codes "shentsize"

-- where an edge starts and leads to
unfoldable pub from_to : ℕ → ℕ → List ℕ
from_to a b = address a ++ codes " to " ++ address b

-- a side entry of a loop
unfoldable pub side_entry : ℕ → ℕ → ℕ → List ℕ
side_entry k a b = codes "33 loop " ++ decimal k ++ codes " side entry " ++ from_to a b

-- the addresses of a cycle, with a space before each
abbrev pub spaced : List ℕ → List ℕ
spaced addresses = flat_map (λ a. 32 ∷ address a) addresses

-- what a refusal says, with its number
abbrev pub refusal_words : Refusal → List ℕ
refusal_words refusal.NotElf = codes "1 not an ELF file"
refusal_words (refusal.UnsupportedElf f) = codes "2 unsupported ELF: " ++ field_name f
refusal_words refusal.TruncatedElf = codes "3 truncated ELF"
refusal_words refusal.DynamicImage = codes "4 dynamic image"
refusal_words (refusal.BadSegment k) = codes "5 bad segment: header " ++ decimal k
refusal_words (refusal.BadText a) = codes "6 bad text at " ++ address a
refusal_words (refusal.WritableText a) = codes "7 writable text at " ++ address a
refusal_words refusal.AlreadyScaled = codes "8 already scaled"
refusal_words (refusal.StartLevel level levels) = codes "9 start level " ++ decimal level ++ codes " of " ++ decimal levels
refusal_words refusal.MachineText = codes "10 machine file text"
refusal_words (refusal.MachineKey name) = codes "11 machine file key " ++ name
refusal_words (refusal.MachineValue name) = codes "12 machine file value " ++ name
refusal_words (refusal.LevelOrder k) = codes "13 level order " ++ decimal k
refusal_words refusal.LoopText = codes "14 loop file text"
refusal_words (refusal.LoopKey k name) = codes "15 loop " ++ decimal k ++ codes " key " ++ name
refusal_words (refusal.LoopValue k name) = codes "16 loop " ++ decimal k ++ codes " value " ++ name
refusal_words (refusal.UnknownSymbol k) = codes "17 loop " ++ decimal k ++ codes " symbol"
refusal_words (refusal.TooManyLoops n) = codes "18 too many loops: " ++ decimal n
refusal_words (refusal.IllegalWord a) = codes "20 illegal word at " ++ address a
refusal_words (refusal.OutsideText a) = codes "21 outside text at " ++ address a
refusal_words (refusal.MisalignedTarget a) = codes "22 misaligned target at " ++ address a
refusal_words (refusal.OddLink a) = codes "23 odd link at " ++ address a
refusal_words (refusal.IndirectJump a) = codes "24 indirect jump at " ++ address a
refusal_words (refusal.SharedCode a) = codes "25 shared code at " ++ address a
refusal_words (refusal.Recursion cycle) = codes "26 recursion:" ++ spaced cycle
refusal_words (refusal.HeaderNotReached k) = codes "30 loop " ++ decimal k ++ codes " header not reached"
refusal_words (refusal.SameHeader j k) = codes "31 loops " ++ decimal j ++ codes " " ++ decimal k ++ codes " same header"
refusal_words (refusal.NoBackEdge k) = codes "32 loop " ++ decimal k ++ codes " no back edge"
refusal_words (refusal.SideEntry k a b) = side_entry k a b
refusal_words (refusal.CrossingLoops j k) = codes "34 loops " ++ decimal j ++ codes " " ++ decimal k ++ codes " cross"
refusal_words (refusal.TooDeep k) = codes "35 loop " ++ decimal k ++ codes " too deep"
refusal_words (refusal.UnboundedCycle cycle) = codes "36 unbounded cycle:" ++ spaced cycle
refusal_words refusal.TooLong = codes "40 worst cycles over 281474976710656"
refusal_words (refusal.DeadlineMissed need have) = codes "41 deadline missed: need " ++ decimal need ++ codes " have " ++ decimal have
refusal_words (refusal.Uncountable k a) = codes "42 loop " ++ decimal k ++ codes " uncountable at " ++ address a
refusal_words (refusal.TooManyCounters n) = codes "43 too many counters: " ++ decimal n
refusal_words (refusal.StubOutOfReach a) = codes "44 stub out of reach at " ++ address a
refusal_words (refusal.TooLarge name) = codes "50 too large: " ++ name
refusal_words refusal.JumpText = codes "61 jump file text"
refusal_words (refusal.JumpKey k name) = codes "62 jump " ++ decimal k ++ codes " key " ++ name
refusal_words (refusal.JumpValue k name) = codes "63 jump " ++ decimal k ++ codes " value " ++ name
refusal_words (refusal.BadJump a) = codes "64 bad jump at " ++ address a
refusal_words (refusal.NoRoom n) = codes "65 no room: refusal " ++ decimal n
refusal_words (refusal.LowerOutOfReach a) = codes "66 lowered jump out of reach at " ++ address a

-- the line of a refusal
abbrev pub refusal_text : Refusal → List ℕ
refusal_text r = codes "refused " ++ refusal_words r ++ 10 ∷ []

-- the name of a kind of trap
abbrev pub trap_name : TrapKind → List ℕ
trap_name trap.Breakpoint = codes "breakpoint"
trap_name trap.IllegalWord = codes "illegal-word"
trap_name trap.FetchFault = codes "fetch-fault"
trap_name trap.MisalignedTarget = codes "misaligned-target"
trap_name trap.LoadMisaligned = codes "load-misaligned"
trap_name trap.StoreMisaligned = codes "store-misaligned"
trap_name trap.LoadFault = codes "load-fault"
trap_name trap.StoreFault = codes "store-fault"

-- how a run ended
abbrev pub end_words : End → List ℕ
end_words (Exited status) = codes "exit " ++ decimal status
end_words (Trapped t) = codes "trap " ++ trap_name t.kind ++ codes " " ++ address t.at
end_words OutOfSteps = codes "steps"

-- whether a run was kept, or what it broke first
abbrev pub kept_words : Option Kept → List ℕ
kept_words None = codes "unchecked"
kept_words (Some kept.Kept) = codes "yes"
kept_words (Some (kept.BrokeBound k n)) = codes "no bound " ++ decimal k ++ codes " " ++ decimal n
kept_words (Some (kept.BrokeReturn a b)) = codes "no return " ++ address a ++ codes " " ++ address b
kept_words (Some (kept.BrokeDepth a)) = codes "no depth " ++ address a

unfoldable pub end_line : End → List ℕ
end_line end = codes "end " ++ end_words end ++ 10 ∷ []

unfoldable pub kept_line : Option Kept → List ℕ
kept_line k = codes "kept " ++ kept_words k ++ 10 ∷ []

-- the report of a simulated run: how it ended, what it cost, how many bytes it wrote, and whether it was kept
abbrev pub run_text : Report → List ℕ
run_text r =
    end_line r.end
    ++ number_line (codes "steps ") r.paid.steps
    ++ number_line (codes "cycles ") r.paid.cycles
    ++ number_line (codes "time ") r.paid.time
    ++ number_line (codes "energy ") r.paid.energy
    ++ number_line (codes "held ") r.held
    ++ number_line (codes "switches ") r.paid.switches
    ++ number_line (codes "level ") r.paid.level
    ++ number_line (codes "keyed ") r.paid.keyed
    ++ number_line (codes "output ") (length r.output)
    ++ kept_line r.kept

-- ---- the plan of a rewriting

-- a word in eight hexadecimal digits
unfoldable pub word_digits : ℕ → List ℕ
word_digits word = hex_digits 8 word

-- the edges that may have fragments
abbrev pub HasSiteLine : EdgeKind → Type 0
HasSiteLine edge.Taken = Unit {0}
HasSiteLine edge.Untaken = Unit {0}
HasSiteLine edge.Jump = Unit {0}
HasSiteLine edge.Next = ⊥
HasSiteLine edge.CallNext = ⊥
HasSiteLine edge.End = ⊥

-- the name of the kind of such an edge
abbrev pub kind_name : EdgeKind → List ℕ
kind_name edge.Taken = codes "taken"
kind_name edge.Untaken = codes "untaken"
kind_name edge.Jump = codes "jump"
kind_name edge.Next = []
kind_name edge.CallNext = []
kind_name edge.End = []

-- the words of rows, with a space before each
abbrev pub spaced_words : List ℕ → List ℕ
spaced_words rows = flat_map (λ word. 32 ∷ word_digits word) rows

-- a fragment, with the number of its loop
abbrev pub fragment_words : ℕ → Fragment → List ℕ
fragment_words loop_no (fragment.Switch word) = codes "switch " ++ word_digits word
fragment_words loop_no (fragment.Exit counter shift rows) =
    codes "exit " ++ decimal loop_no ++ codes " " ++ decimal shift ++ spaced_words rows
fragment_words loop_no (fragment.Reset counter) = codes "reset " ++ decimal loop_no
fragment_words loop_no (fragment.Count counter) = codes "count " ++ decimal loop_no
fragment_words loop_no (fragment.Lowest down) = codes "lowest" ++ cond down [] (codes " off")
fragment_words loop_no (fragment.Tally counter shift from) =
    codes "tally " ++ decimal loop_no ++ codes " " ++ decimal shift ++ codes " " ++ decimal from

-- the line of a fragment
unfoldable pub site_line : SiteLine → List ℕ
site_line l =
    codes "site " ++ address l.edge.at ++ codes " " ++ kind_name l.edge.kind ++ codes " " ++ fragment_words l.loop_no l.fragment ++ 10 ∷ []

-- the summary, and a line for each fragment
abbrev pub plan_text : ScalePlan → List ℕ
plan_text p = summary_text p.summary ++ flat_map site_line p.lines.items

-- ---- the check of an image of other make

-- why an image isn't known to be safe
abbrev pub why_words : Why → List ℕ
why_words (why.Image number) = codes "image " ++ decimal number
why_words why.NoKey = codes "key missing"
why_words why.Layout = codes "layout"
why_words (why.Byte a) = codes "byte " ++ address a
why_words (why.Patch a) = codes "patch " ++ address a
why_words (why.Stub a) = codes "stub " ++ address a
why_words (why.Counter counter) = codes "counter " ++ decimal counter
why_words why.TooLong = codes "worst cycles"
why_words (why.Start level levels) = codes "start level " ++ decimal level ++ codes " of " ++ decimal levels
why_words (why.TooSlow need have) = codes "deadline need " ++ decimal need ++ codes " have " ++ decimal have
why_words (why.Level a from) = codes "level " ++ address a ++ codes " from " ++ decimal from

-- what a check found: that the image is safe, with the lines of its summary up to the stub cycles, or why it isn't known to be
abbrev pub verdict_text : Verdict → List ℕ
verdict_text (Yes checked) =
    codes "check yes\n"
    ++ number_line (codes "start level ") checked.start
    ++ number_line (codes "worst cycles ") checked.worst
    ++ times_line checked.time checked.deadline
    ++ number_line (codes "stub cycles at most ") checked.stub_cycles
verdict_text (No why) = codes "check no " ++ why_words why ++ 10 ∷ []

-- ---- the survey over a list of inputs

-- a line for each item, numbered from k on
unfoldable pub numbered_lines : {A : Type 0} → (ℕ → A → List ℕ) → ℕ → List A → List ℕ
numbered_lines line k [] = []
numbered_lines line k (item ∷ items) = line k item ++ numbered_lines line (k + 1) items

-- what the scaled run took
unfoldable pub scaled_words : (cycles time energy : ℕ) → List ℕ
scaled_words cycles time energy =
    codes "scaled cycles " ++ decimal cycles ++ codes " time " ++ decimal time ++ codes " energy " ++ decimal energy

-- the line of an input: the cycles of the original run, and what the scaled one took
unfoldable pub input_line : ℕ → Surveyed → List ℕ
input_line k runs =
    codes "input " ++ decimal k ++ codes " cycles " ++ decimal runs.paid.cycles ++ codes " "
    ++ scaled_words runs.scaled_paid.cycles runs.scaled_paid.time runs.scaled_paid.energy ++ 10 ∷ []

-- the line of a loop: the most back edges that an entry of it took
unfoldable pub most_line : ℕ → ℕ → List ℕ
most_line loop_no most = codes "loop " ++ decimal loop_no ++ codes " most " ++ decimal most ++ 10 ∷ []

-- a line for each total
abbrev pub totals_text : Totals → List ℕ
totals_text t =
    number_line (codes "inputs ") t.inputs
    ++ number_line (codes "kept ") t.kept
    ++ number_line (codes "late ") t.late
    ++ number_line (codes "differ ") t.differ
    ++ number_line (codes "original cycles ") t.cycles
    ++ number_line (codes "scaled cycles ") t.scaled_cycles
    ++ number_line (codes "energy ") t.energy
    ++ number_line (codes "held ") t.held
    ++ number_line (codes "switches ") t.switches

-- a line for each input, for each loop and for each total
abbrev pub survey_text : Survey → List ℕ
survey_text s = numbered_lines input_line 1 s.lines ++ numbered_lines most_line 1 s.most ++ totals_text s.totals

-- ---- the choice of a tuning

-- the chosen candidate with its summary, how many inputs count and how many don't, and the energy of the choice and of the image that runs at one level
abbrev pub tuned_text : Tuned → List ℕ
tuned_text t =
    number_line (codes "candidate ") t.candidate
    ++ summary_text t.summary
    ++ number_line (codes "inputs ") t.inputs
    ++ number_line (codes "left out ") t.left_out
    ++ number_line (codes "energy ") t.energy
    ++ number_line (codes "hold energy ") t.hold_energy
