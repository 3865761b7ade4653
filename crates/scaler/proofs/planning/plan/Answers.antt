use Rattle.std.proofs.Common.{◌≡◌, ℕ, Bool, List, map, Err, refl, subst}
use Rattle.std.proofs.lemmas.Result.{err_from_is_err_and}
use Rattle.scale_base.specs.declared.plan.ScalePlan.{ScalePlan}
use Rattle.scale_base.specs.declared.plan.SiteLine.{SiteLine}
use Rattle.scale_base.specs.declared.refusal.Stop.{Stop}
use Rattle.scale_base.specs.declared.refusal.Stop.TheVariants.{Refused, Memory}
use Rattle.scale_base.specs.declared.summary.Summary.{Summary}
use Rattle.scale_base.specs.Answer.{AnswersBy}
use Rattle.scale_base.specs.declared.fragments.Mark.{Mark}
use Rattle.cost_theory.specs.Worst.{AreNumbers}
use Rattle.cycle_laws.specs.Charged.{AreCharged}
use Rattle.flow_graph.specs.FlowGraph.{graph}
use Rattle.level_tables.specs.Tables as tables
use Rattle.level_tables.specs.declared.edge_numbers.EdgeNumbers.{EdgeNumbers}
use Rattle.loop_forest.specs.Tree.{loops as tree_loops}
use Rattle.scale_sites.specs.Counters.{counted_loops}
use Rattle.stub_writer.specs.Sites.{site_of}
use Rattle.rewritten_runs.specs.Stubs.{fragments_with, rewritten_file, stored_weights}
use Rattle.marked_images.specs.declared.scaling.Program.{Program}
use Rattle.marked_images.specs.Markings.{HasMarking}
use Rattle.marked_images.specs.Wanted.{marked_where}
use Rattle.scaler.specs.Lines.{AreLinesOf}
use Rattle.scaler.specs.Planned.{IsPlanned, HasLines, lines_from}
use Rattle.scaler.specs.Scalings.{IsProgramFrom, IsProgramFound, wanted_by_slack}
use Rattle.scaler.proofs.LineFacts.{few_headers}
use Rattle.scaler.proofs.LineKinds.{lines_of_sites}
use Rattle.scaler.proofs.ProgramFacts.{files_given}
use Rattle.scaler.proofs.SlackMarks.{marks_are, test_of_is}
use Rattle.scaler.proofs.planning.plan.Goals as goal

program_stops : (image machine loops : List ℕ) (stop : Stop) → AnswersBy {X = Program} {Y = Program} (λ p. p) (Err stop) (IsProgramFound image machine loops)
    → AnswersBy {X = ScalePlan} {Y = Summary × List SiteLine} (λ p. (p.summary, p.lines.items)) (Err stop) (IsPlanned image machine loops)
program_stops image machine loops (Refused refusal) h = h
program_stops image machine loops Memory h = tt

has_marking : (image machine loops : List ℕ) (p : Program) → IsProgramFrom image machine loops p → HasMarking p.power p.marked.graph p.marked.tree p.marked.marking
has_marking image machine loops p h = let m = h.marked.found in (p.view, _, m.0, m.1, m.2.marking)

has_lines : (image machine loops : List ℕ) (p : Program) (lines : List SiteLine) → IsProgramFrom image machine loops p → AreLinesOf p.power p.marked.graph p.marked.tree p.marked.marking lines → HasLines image machine loops lines
has_lines image machine loops p lines h are =
    let v = p.marked.graph in
    let t = p.marked.tree in
    let m = h.marked.found in
    let wanted = wanted_by_slack p.power p.view v t h.plain in
    let same = marks_are p.power p.view v t h.plain in
    let given = are p.view wanted m.0 m.1 m.2.marking in
    record {
      power = p.power;
      original = p.view;
      notes = h.notes;
      power_is = h.power_is;
      original_is = h.view_is;
      notes_are = h.notes_are;
      code = v;
      tree = t;
      plain = h.plain;
      stored = m.0;
      least = m.1;
      weighed = record {
        code_is = h.marked.code_is;
        tree_is = h.marked.tree_is;
        counters = h.marked.counters;
        plain_are = h.plain_are;
        stored_are = subst (λ (marked : ℕ → List Mark). AreNumbers (graph v) (tree_loops v t) (stored_weights p.power p.view v marked) m.0) same m.2.stored_are;
      };
      least_are = subst (λ (marked : ℕ → List Mark). AreCharged (graph v) (tree_loops v t) (stored_weights p.power p.view v marked) m.1) same m.2.least_are;
      lines_are = subst (λ (marked : ℕ → List Mark). lines ≡ lines_from (counted_loops t) (fragments_with p.power (tables.meets_both p.power) p.view v t marked m.0 m.1) 0 v.code.edges) same
          (subst (λ (test : EdgeNumbers → ℕ → ℕ → Bool). lines ≡ lines_from (counted_loops t) (fragments_with p.power test p.view v t (marked_where v t wanted) m.0 m.1) 0 v.code.edges) (test_of_is p.power p.marked.marking m.2.budgets) given);
    }

pub site_lines-requires-clause-marking : goal.site_lines-requires-clause-marking
site_lines-requires-clause-marking c = has_marking c.args.image.now c.args.machine.now c.args.loops.now c.in_ok-program.program c.in_ok-program.ensures

pub site_lines-requires-clause-few : goal.site_lines-requires-clause-few
site_lines-requires-clause-few c =
    let p = c.in_ok-program.program in
    let h = c.in_ok-program.ensures in
    few_headers p.view c.args.loops.now h.notes p.marked.graph p.marked.tree h.notes_are h.marked.tree_is

pub returns-in_err-program : goal.returns-in_err-program
returns-in_err-program c =
    let p = err_from_is_err_and c.from_residual.result c.from_residual.ensures.1 in
    rw (p.1, p.2) (record { plan = program_stops c.args.image.now c.args.machine.now c.args.loops.now c.in_err-program.field-0.0 c.in_err-program.ensures; sites = tt })

pub returns : goal.returns
returns c =
    let image = c.args.image.now in
    let machine = c.args.machine.now in
    let loops = c.args.loops.now in
    let p = c.in_ok-program.program in
    let bytes = rewritten_file p.view (map site_of p.scaling.stubs.items) p.scaling.base p.scaling.summary.start in
    let lines = has_lines image machine loops p c.in_ok-lines.lines.items c.in_ok-program.ensures c.in_ok-lines.ensures in
    record {
      plan = (bytes, files_given image machine loops p bytes c.in_ok-program.ensures refl, lines);
      sites = lines_of_sites image machine loops c.in_ok-lines.lines.items lines;
    }
