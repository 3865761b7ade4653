-- The numbers of an accepted program, as a pass over its nodes needs them and finds them.
use Rattle.std.proofs.Common.{◌≡◌, ℕ, Bool, ◌+◌, ◌^◌, ◌<◌, ◌≤◌, List, length, Err, Some, refl, sym, ap, ◌∙◌, arith}
use Rattle.std.proofs.lemmas.Option.{slice_get-get_or}
use Rattle.scale_base.specs.declared.refusal.Stop.{Stop}
use Rattle.scale_base.specs.declared.refusal.Stop.TheVariants.{Refused, Memory}
use Rattle.scale_base.specs.Answer.{AnswersBy}
use Rattle.graph_algorithms.specs.Arcs.{number_in_place}
use Rattle.cost_theory.specs.Graph.{Graph, Loops}
use Rattle.cost_theory.specs.Worst.{Numbers, AreNumbers, cost}
use Rattle.cost_theory.specs.Accepted.{IsProgram, AreAccepted, AreWeights}
use Rattle.cost_theory.specs.Laws.{IsAnalyzed}
use Rattle.cost_theory.proofs.Laws as theory
use Rattle.cost_theory.proofs.Laws.{call_order, plain_order, turns-worst, left-worst, function-worst, closing-worst, accepted_entered, header_held, entered_at_headers, first_uncalled, slack-le}
use Rattle.cycle_laws.proofs.Laws.{charged_on, charged_back, charged_into, headers_different, iteration_closing, closing_over, worst_plain, plain_within_worst, plain_over}
use Rattle.flow_graph.specs.FlowGraph.{FlowGraph, graph, IsFlowGraph}
use Rattle.loop_forest.specs.Noted.{node_address}
use Rattle.loop_forest.specs.Tree.{LoopView, loops}
use Rattle.worst_cycles.specs.declared.visits.Visit.{Visit}
use Rattle.worst_cycles.specs.declared.parts.LeftParts.{LeftParts}
use Rattle.worst_cycles.specs.Worst.{WorstView, WorstView, IsWorstFound, IsWorstInRange, IsWorstTooLong, IsLeftOf}
use Rattle.worst_cycles.specs.Lefts.{HasSolved, AreParts}
use Rattle.worst_cycles.specs.Needs.{AreEntries, HasTree}
use Rattle.worst_cycles.specs.Solved.{AreSolved}
use Rattle.worst_cycles.specs.Visits.{visit_at, IsVisit, AreSolvedBy, IsOverLimit, AreAllVisited, AreVisitsFound}
use Rattle.worst_cycles.proofs.BodyLaws.{node_here, loop_count, header_number, header_address}
use Rattle.worst_cycles.proofs.VisitLaws.{worst_at}
use Rattle.worst_cycles.proofs.SlackLaws.{holds_left}

-- an accepted program with weights
pub record IsWeighted (g : Graph) (l : Loops) (extent : ℕ → ℕ → Bool) (w : ℕ → ℕ) : Type 0 where
  pub program : IsProgram g
  pub accepted : AreAccepted g l extent
  pub weights : AreWeights g w

solved : (g : Graph) (l : Loops) (extent : ℕ → ℕ → Bool) (w : ℕ → ℕ) (n : Numbers) → IsAnalyzed g l extent w n → AreSolved g l w n
solved g l extent w n is =
    let calls = call_order g is.program in
    record {
      on = charged_on g l extent w n is;
      back = charged_back g l extent w n is;
      into = charged_into g l extent w n is;
      plain = plain_over g l extent w n is;
      closing = closing_over g l extent w n is;
      iteration = iteration_closing g l extent w n is;
      worst = worst_plain g l extent w n is;
      plain_within = plain_within_worst g l extent w n is;
      turns_within = turns-worst g l extent w n is.program is.accepted is.weights is.numbers calls.0 calls.1;
      closing_near = λ most light. closing-worst g l extent w n is most light calls.0 calls.1;
      left_within = left-worst g l extent w n is.program is.accepted is.weights is.numbers calls.0 calls.1;
      context_within = λ f fl.
          let both : n.worst f + n.context f ≤ n.worst 0 = function-worst g l extent w n is.program is.accepted is.weights is.numbers calls.0 calls.1 f fl in
          let r : n.context f ≤ n.worst 0 = omega arith in r;
      left = is.numbers.loops.left;
      over_edge = slack-le g l (cost g n w) n is.numbers.loops (entered_at_headers g l extent is.program (accepted_entered is.accepted));
      context = is.numbers.context;
      uncalled = λ e f lt calls_f. first_uncalled g l extent w n is.program is.accepted is.weights is.numbers calls.0 calls.1 (g.source e) f (e, lt, refl, calls_f);
      different = headers_different g l extent w n is;
      held = header_held g l extent is.program (accepted_entered is.accepted);
    }

pub numbers : (g : Graph) (l : Loops) (extent : ℕ → ℕ → Bool) (w : ℕ → ℕ) → IsWeighted g l extent w → (n : Numbers) × AreNumbers g l w n × AreSolved g l w n
numbers g l extent w is =
    let plain = plain_order g is.program l extent is.accepted in
    let calls = call_order g is.program in
    let n = theory.numbers_exist g l extent w is.program is.accepted plain.0 plain.1.0 plain.1.1 calls.0 calls.1 in
    let analyzed : IsAnalyzed g l extent w n.0 = record { program = is.program; accepted = is.accepted; weights = is.weights; numbers = n.1 } in
    (n.0, n.1, solved g l extent w n.0 analyzed)

pub too_long : (v : FlowGraph) (t : LoopView) (extent : ℕ → ℕ → Bool) (w : ℕ → ℕ) → IsWeighted (graph v) (loops v t) extent w → IsOverLimit v t w → IsWorstTooLong (graph v) (loops v t) w
too_long v t extent w is long = let n = numbers (graph v) (loops v t) extent w is in (n.0, n.1, long n.0 n.2)

pub stops_so : {X : Type 0} {extent : ℕ → ℕ → Bool} {w : ℕ → ℕ} (v : FlowGraph) (t : LoopView) (view : X → List Visit) (stop : Stop) → IsWeighted (graph v) (loops v t) extent w → AnswersBy view (Err stop) (AreVisitsFound v t w) →
    AnswersBy (λ (n : WorstView). n) (Err stop) (IsWorstFound (graph v) (loops v t) w)
stops_so {extent = extent} {w = w} v t view (Refused e) is found = (found.0, too_long v t extent w is found.1)
stops_so {extent = extent} {w = w} v t view Memory is found = tt

-- what the table has at an entry
pub entry_worst : {v : FlowGraph} {t : LoopView} {w : ℕ → ℕ} {entries : List ℕ} {visits : List Visit} {n : Numbers} (f : ℕ) → AreEntries v entries → AreAllVisited v t w visits → AreSolvedBy v t w n → f < length v.code.functions →
    (visit_at visits (number_in_place entries f)).plain + (visit_at visits (number_in_place entries f)).turns ≡ n.worst f
entry_worst {v = v} {t = t} {w = w} {entries = entries} {visits = visits} {n = n} f are found s fl =
    worst_at f s fl (found.each n s (number_in_place entries f) ((graph v).entry f) (are.each f fl))

-- what it has at the header of a loop
pub header_iteration : {v : FlowGraph} {t : LoopView} {w : ℕ → ℕ} {visits : List Visit} {n : Numbers} (k : ℕ) → HasTree v t → AreAllVisited v t w visits → AreSolvedBy v t w n → k < length t.headers → (visit_at visits (number_in_place t.headers k)).iteration ≡ n.iteration k
header_iteration {v = v} {t = t} {w = w} {visits = visits} {n = n} k tree found s kl =
    let count = loop_count v t in
    let within : k < (loops v t).loops = omega arith in
    let visit : IsVisit (loops v t) n (node_address v (number_in_place t.headers k)) (visit_at visits (number_in_place t.headers k)) =
    found.each n s (number_in_place t.headers k) (node_address v (number_in_place t.headers k)) (node_here v (number_in_place t.headers k) (header_number v t tree.0 tree.1 k kl)) in
    visit.iteration k within (header_address v t k kl)

pub worst_in_range : {v : FlowGraph} {t : LoopView} {w : ℕ → ℕ} {entries : List ℕ} {visits others : List Visit} (x : WorstView) (tree : HasTree v t) → IsFlowGraph v → IsWeighted (graph v) (loops v t) tree.0 w → AreEntries v entries → AreAllVisited v t w visits → AreAllVisited v t w others →
    length x.worst ≡ length v.code.functions → ((f : ℕ) → f < length v.code.functions → number_in_place x.worst f ≡ (visit_at visits (number_in_place entries f)).plain + (visit_at visits (number_in_place entries f)).turns) →
    length x.iteration ≡ length t.headers → ((k : ℕ) → k < length t.headers → number_in_place x.iteration k ≡ (visit_at others (number_in_place t.headers k)).iteration) →
    number_in_place x.worst 0 ≤ 2 ^ 48 → IsWorstInRange (graph v) (loops v t) w x
worst_in_range {v = v} {t = t} {w = w} {entries = entries} {visits = visits} {others = others} x tree flow is are found others_found size each loops_size loops_each small =
    let n = numbers (graph v) (loops v t) tree.0 w is in
    let count = loop_count v t in
    record {
      numbers = (
        n.0,
        n.1,
        λ f lt. slice_get-get_or x.worst f 0 (let low : f < length x.worst = omega arith in low) ∙ ap Some (each f lt ∙ entry_worst f are found n.2 lt),
        λ k lt.
            let kl : k < length t.headers = omega arith in
            slice_get-get_or x.iteration k 0 (let low : k < length x.iteration = omega arith in low) ∙ ap Some (loops_each k kl ∙ header_iteration k tree others_found n.2 kl),
      );
      size = size;
      loops_size = loops_size ∙ sym (loop_count v t);
      small = small;
    }

-- those of the program are over the limit
pub total_too_long : {v : FlowGraph} {t : LoopView} {extent : ℕ → ℕ → Bool} {w : ℕ → ℕ} {entries : List ℕ} {visits : List Visit} (worst : List ℕ) → IsFlowGraph v → IsWeighted (graph v) (loops v t) extent w → AreEntries v entries → AreAllVisited v t w visits →
    ((f : ℕ) → f < length v.code.functions → number_in_place worst f ≡ (visit_at visits (number_in_place entries f)).plain + (visit_at visits (number_in_place entries f)).turns) → 2 ^ 48 < number_in_place worst 0 → IsWorstTooLong (graph v) (loops v t) w
total_too_long {v = v} {t = t} {extent = extent} {w = w} {entries = entries} {visits = visits} worst flow is are found each more =
    let n = numbers (graph v) (loops v t) extent w is in
    let first : number_in_place worst 0 ≡ n.0.worst 0 = each 0 flow.program.main ∙ entry_worst 0 are found n.2 flow.program.main in
    (n.0, n.1, (let r : 2 ^ 48 < n.0.worst 0 = omega arith in r))

-- its numbers are in range
pub has_solved : {v : FlowGraph} {t : LoopView} {extent : ℕ → ℕ → Bool} {w : ℕ → ℕ} {entries : List ℕ} {visits : List Visit} (worst : List ℕ) → IsFlowGraph v → IsWeighted (graph v) (loops v t) extent w → AreEntries v entries → AreAllVisited v t w visits →
    ((f : ℕ) → f < length v.code.functions → number_in_place worst f ≡ (visit_at visits (number_in_place entries f)).plain + (visit_at visits (number_in_place entries f)).turns) → number_in_place worst 0 ≤ 2 ^ 48 → HasSolved v t w
has_solved {v = v} {t = t} {extent = extent} {w = w} {entries = entries} {visits = visits} worst flow is are found each small =
    let n = numbers (graph v) (loops v t) extent w is in
    let first : number_in_place worst 0 ≡ n.0.worst 0 = each 0 flow.program.main ∙ entry_worst 0 are found n.2 flow.program.main in
    (n.0, n.2, (let r : n.0.worst 0 ≤ 2 ^ 48 = omega arith in r))

pub left_of : {v : FlowGraph} {t : LoopView} {extent : ℕ → ℕ → Bool} {w : ℕ → ℕ} {parts : LeftParts} (worst iteration : List ℕ) → IsWeighted (graph v) (loops v t) extent w → AreParts v t w parts →
    IsLeftOf v (loops v t) w (record { worst = worst; iteration = iteration; left = parts.left.items; context = parts.context.items; slacks = parts.slacks.items; rests = parts.rests.items })
left_of {v = v} {t = t} {extent = extent} {w = w} {parts = parts} worst iteration is are n nums =
    holds_left worst iteration are (solved (graph v) (loops v t) extent w n (record { program = is.program; accepted = is.accepted; weights = is.weights; numbers = nums }))
