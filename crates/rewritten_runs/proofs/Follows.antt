-- What is supplied makes the stored run follow the original, and keep the promise.
use Rattle.std.proofs.Common.{◌≡◌, ◌≢◌, ℕ, ◌+◌, ◌-◌, ◌*◌, ◌<◌, ◌≤◌, Bool, true, false, ◌&&◌, List, [], length, map, slice_index, sym, ap, ◌∙◌, subst, arith, Some, inl, inr, eqb-true, eq-eqb}
use Rattle.std.specs.Prelude.{nat_eq}
use Rattle.std.specs.List.{sum_by, list_any}
use Rattle.std.proofs.lemmas.Bool.{and_from, and_parts, both_ways, false_from_ne_true}
use Rattle.std.proofs.lemmas.List.{length-map}
use Rattle.scale_base.specs.declared.stepping.Class.{Class}
use Rattle.scale_base.specs.declared.stepping.Class.TheVariants as class
use Rattle.scale_base.specs.Image.{Image, is_in as in_range}
use Rattle.scale_base.specs.Layout.{layout_of, is_keyed}
use Rattle.scale_base.specs.Run.{Run, GoesOn, HasExited, run_of, setting_of, start_of, starting_level}
use Rattle.scale_base.proofs.Laws.{run_stays}
use Rattle.power_model.specs.Numbers.{PowerModel, IsPowerModel, RunPrice as Metered}
use Rattle.power_model.specs.Price.{price, held_energy}
use Rattle.power_model.proofs.Laws.{cycles-price}
use Rattle.cost_theory.specs.Graph.{Graph, Loops}
use Rattle.cycle_laws.specs.Charged.{Charged}
use Rattle.cost_theory.specs.Worst.{Numbers}
use Rattle.cost_theory.specs.Steps as steps
use Rattle.cost_theory.proofs.Laws.{search_below}
use Rattle.code_text.specs.Text.{Text, text_of}
use Rattle.graph_runs.specs.RunTransitions.{after_transitions, StandsBy}
use Rattle.code_text.specs.TextGraph.{text_graph}
use Rattle.graph_runs.specs.KeptSteps.{Carried, by_extents}
use Rattle.graph_runs.specs.KeptRuns.{kept_of, KeptAt, ExitsBy}
use Rattle.graph_runs.proofs.Laws.{text_of_layout, going_length, image_runs_are_below, image_runs_end}
use Rattle.code_text.proofs.Laws.{kind_facts}
use Rattle.flow_graph.specs.FlowGraph.{FlowGraph, graph}
use Rattle.loop_file.specs.declared.notes.LoopNote.{LoopNote}
use Rattle.loop_file.specs.Kept.{noted_loops}
use Rattle.loop_forest.specs.Tree.{LoopView, loops}
use Rattle.stub_writer.specs.Fragments.{IsShadow}
use Rattle.stub_writer.specs.Stubs.{Site}
use Rattle.stored_runs.specs.Marks.{shadow_first, shadow_after}
use Rattle.stored_runs.specs.Legs.{Leg, originals, steps_to}
use Rattle.stored_runs.specs.Laws.{text_steps}
use Rattle.stored_runs.proofs.Laws.{frame, text_of_legs, meetings_once}
use Rattle.paid_runs.specs.Marked.{IsKeptFollowed, AreHeld}
use Rattle.paid_runs.proofs.Laws.{kept_followed, energy_sum, switches_save, runs_within, stubs_bounded}
use Rattle.power_model.specs.Switches.{period, costs_of, NeverRises, switches_from, saved, fee, AllPay}
use Rattle.paid_runs.specs.Timely.{weights_of, IsPaidRun}
use Rattle.rewritten_runs.specs.Prices.{price_of}
use Rattle.rewritten_runs.specs.Stubs.{Rule, stored_weights, marks_by, is_counted, counter_of}
use Rattle.rewritten_runs.specs.Promise.{KeepsThePromise}
use Rattle.rewritten_runs.specs.Followed.{graph_place, ShowsCounts, IsMeeting, MeetsInTime, HasEnded, SwitchesPay, EndsInTime, FollowsInTime}
use Rattle.rewritten_runs.proofs.Ended.{over_stays, taken, taken_within}
use Rattle.rewritten_runs.proofs.Supplied.{IsSuppliedBy}
use Rattle.rewritten_runs.proofs.Places.{calls_back, left_same, in_same}

-- each class costs a cycle at least
each_cost : (power : PowerModel) → IsPowerModel power → (c : Class) → 1 ≤ costs_of power c
each_cost power ok class.Alu = ok.costs.alu
each_cost power ok class.Load = ok.costs.load
each_cost power ok class.Store = ok.costs.store
each_cost power ok class.Taken = ok.costs.taken
each_cost power ok class.Untaken = ok.costs.untaken
each_cost power ok class.Jump = ok.costs.jump
each_cost power ok class.Mul = ok.costs.mul
each_cost power ok class.Div = ok.costs.div
each_cost power ok class.Ecall = ok.costs.ecall
each_cost power ok class.Fence = ok.costs.fence

module _ {budget : ℕ → ℕ} {rule : Rule} (power : PowerModel) (file : List ℕ) (image : Image) (notes : List LoopNote) (v : FlowGraph) (tree : LoopView) (plain stored extra : Numbers) (least : Charged) (sites : List Site) (base start : ℕ) (rewritten : Image)
    (s : IsSuppliedBy power budget file image notes v tree rule plain stored extra least sites base start rewritten)
    (off_key : (a : ℕ) → list_any (in_range a) image.text ≡ true → is_keyed (layout_of rewritten) a ≡ false) where
  abbrev levels : ℕ
  levels = length power.levels

  abbrev t : Text
  t = text_of image

  abbrev g : Graph
  g = text_graph (text_of image) v.code

  abbrev l : Loops
  l = loops v tree

  abbrev extent : ℕ → ℕ → Bool
  extent = (noted_loops notes).inside

  abbrev first_level : ℕ
  first_level = starting_level levels rewritten.keyed_segment

  start_is : starting_level levels rewritten.keyed_segment ≡ start
  start_is = (frame file image rewritten sites base start levels [] s.stubbed.read s.stubbed.storable s.stubbed.stored_is s.stubbed.ascending).start_is

  abbrev Followed : List ℕ → ℕ → Carried → Type 0
  Followed input n c = IsKeptFollowed image rewritten levels sites start input v.code l (is_counted tree) (counter_of tree) (costs_of power) n c

  by_tree : (input : List ℕ) (n : ℕ) (c : Carried) → kept_of image levels input (noted_loops notes) n ≡ Some c → kept_of image levels input (by_extents l extent) n ≡ Some c
  by_tree input n c k = s.kept_by_tree input n c k

  followed : (input : List ℕ) (n : ℕ) (c : Carried) → kept_of image levels input (noted_loops notes) n ≡ Some c → Followed input n c
  followed input n c k =
      kept_followed file image levels s.limits sites base start rewritten s.stubbed v.code l extent (is_counted tree) (counter_of tree) (costs_of power) s.program s.countable s.marked s.limited input n c (by_tree input n c k)

  -- ---- prices

  abbrev stored_run : (input : List ℕ) (n : ℕ) (c : Carried) → Followed input n c → Run
  stored_run input n c f = run_of rewritten levels input f.followed.after

  paid : (input : List ℕ) (n : ℕ) (c : Carried) (f : Followed input n c) → IsPaidRun power t v.code l sites start stored f.kept.moves (stored_run input n c f).steps
  paid input n c f =
      (runs_within power s.ok budget image rewritten sites start v.code l extent (is_counted tree) (counter_of tree) s.program s.countable s.marked stored least s.analyzed s.least_are s.tables s.stubbed.start_is_level s.budgets input n c f).0

  -- a fact of what the stored run costs, from its starting level
  from_start : (input : List ℕ) (n : ℕ) (c : Carried) (f : Followed input n c) (P : Metered → Type 0) → P (price power start (stored_run input n c f).steps) → P (price_of power rewritten input f.followed.after)
  from_start input n c f P h = subst (λ i. P (price power i (stored_run input n c f).steps)) (sym start_is) h

  pub record IsBounded (input : List ℕ) (n after : ℕ) : Type 0 where
    pub from : length (run_of image levels input n).steps ≤ length (run_of rewritten levels input after).steps
    pub to : length (run_of rewritten levels input after).steps ≤ length (run_of image levels input n).steps + extra.worst 0
    pub cycles : (price_of power rewritten input after).cycles ≤ (price_of power image input n).cycles + extra.worst 0

  bounded : (input : List ℕ) (n : ℕ) (c : Carried) (f : Followed input n c) → IsBounded input n f.followed.after
  bounded input n c f =
      let b = stubs_bounded power s.ok image rewritten sites start v.code l extent (is_counted tree) (counter_of tree) extra s.extra_analyzed input n c f in
      let one = cycles-price power (starting_level levels image.keyed_segment) (run_of image levels input n).steps in
      let other = cycles-price power (starting_level levels rewritten.keyed_segment) (stored_run input n c f).steps in
      record { from = b.0; to = b.1; cycles = omega (arith, one, other, b.2) }

  -- ---- at the end

  exits_by : (input : List ℕ) (n status : ℕ) (c : Carried) (f : Followed input n c) → (run_of image levels input n).standing ≡ HasExited status → steps.EndsByExit f.kept.moves
  exits_by input n status c f exited = subst (λ st. ExitsBy st f.kept.moves) exited f.kept.exits

  switches_pay : (input : List ℕ) (n status : ℕ) (c : Carried) (f : Followed input n c) → (run_of image levels input n).standing ≡ HasExited status → SwitchesPay power rewritten input f.followed.after
  switches_pay input n status c f exited =
      let p = paid input n c f in
      let xs = (stored_run input n c f).steps in
      let sum = energy_sum power start xs s.ok.ranked s.stubbed.start_is_level p.falls in
      record {
        sum = subst (λ i. held_energy power (price power i xs) + sum_by (fee power) (switches_from power i xs) ≡ (price power i xs).energy + sum_by (saved power) (switches_from power i xs)) (sym start_is) sum;
        terms = subst (λ i. AllPay power (switches_from power i xs)) (sym start_is) (p.pays (exits_by input n status c f exited));
      }

  in_time_of : (time left period deadline : ℕ) → time + left * period ≤ deadline → time ≤ deadline
  in_time_of time left period deadline h = omega (arith, h)

  -- ---- the end of the stored run, also where the number of steps of the original is past its end

  -- what is so of the stored run
  record IsEnd (input : List ℕ) (n : ℕ) (r : Run) : Type 0 where
    standing : r.standing ≡ (run_of image levels input n).standing
    output : r.state.output ≡ (run_of image levels input n).state.output
    from : length (run_of image levels input n).steps ≤ length r.steps
    to : length r.steps ≤ length (run_of image levels input n).steps + extra.worst 0
    cycles : (price power first_level r.steps).cycles ≤ (price_of power image input n).cycles + extra.worst 0
    in_time : (price power first_level r.steps).time ≤ power.deadline
    falls : NeverRises first_level r.steps
    sum : (status : ℕ) → (run_of image levels input n).standing ≡ HasExited status → held_energy power (price power first_level r.steps) + sum_by (fee power) (switches_from power first_level r.steps) ≡ (price power first_level r.steps).energy + sum_by (saved power) (switches_from power first_level r.steps)
    terms : (status : ℕ) → (run_of image levels input n).standing ≡ HasExited status → AllPay power (switches_from power first_level r.steps)
    energy : (status : ℕ) → (run_of image levels input n).standing ≡ HasExited status → (price power first_level r.steps).energy ≤ held_energy power (price power first_level r.steps)

  end_is : (input : List ℕ) (n : ℕ) (c : Carried) (f : Followed input n c) → IsEnd input n (stored_run input n c f)
  end_is input n c f =
      let p = paid input n c f in
      let b = bounded input n c f in
      let pays = λ (status : ℕ) (exited : (run_of image levels input n).standing ≡ HasExited status). switches_pay input n status c f exited in
      record {
        standing = f.followed.standing;
        output = f.followed.meets.output;
        from = b.from;
        to = b.to;
        cycles = b.cycles;
        in_time = from_start input n c f (λ m. m.time ≤ power.deadline) (in_time_of _ _ _ _ p.in_time);
        falls = subst (λ i. NeverRises i (stored_run input n c f).steps) (sym start_is) p.falls;
        sum = λ status exited. (pays status exited).sum;
        terms = λ status exited. (pays status exited).terms;
        energy = λ status exited. from_start input n c f (λ m. m.energy ≤ held_energy power m)
            (switches_save power start (stored_run input n c f).steps s.ok.ranked s.stubbed.start_is_level p.falls (p.pays (exits_by input n status c f exited)));
      }

  -- the greater of the two numbers of steps
  abbrev last : (input : List ℕ) (n : ℕ) (c : Carried) → Followed input n c → ℕ
  last input n c f = n + (f.followed.after - n)

  stays_ended : (input : List ℕ) (n : ℕ) (c : Carried) (f : Followed input n c) → HasEnded (run_of image levels input n).standing → run_of rewritten levels input (last input n c f) ≡ stored_run input n c f
  unfolding run_of
  stays_ended input n c f over =
      let a = f.followed.after in
      let most : last input n c f ≡ (n - a) + a = omega arith in
      let here : HasEnded (run_of rewritten levels input a).standing = subst HasEnded (sym f.followed.standing) over in
      ap (run_of rewritten levels input) most ∙ run_stays (setting_of rewritten levels input) (start_of rewritten levels) a (n - a) (over_stays (setting_of rewritten levels input) (stored_run input n c f) here)

  taken_by : (input : List ℕ) (n : ℕ) → taken (run_of image levels input n) ≤ n
  unfolding run_of
  taken_by input n = taken_within (setting_of image levels input) (start_of image levels) n

  -- the stored run has come to its end by then
  last_within : (input : List ℕ) (n : ℕ) (c : Carried) (f : Followed input n c) → last input n c f ≤ n + extra.worst 0
  last_within input n c f =
      let b = bounded input n c f in
      let all = ap length f.followed.steps in
      let asked = taken_by input n in
      omega (arith, f.followed.after_is, all, b.to, asked)

  last_is : (input : List ℕ) (n : ℕ) (c : Carried) (f : Followed input n c) → HasEnded (run_of image levels input n).standing → IsEnd input n (run_of rewritten levels input (last input n c f))
  last_is input n c f over = subst (IsEnd input n) (sym (stays_ended input n c f over)) (end_is input n c f)

  ended : (input : List ℕ) (n : ℕ) (c : Carried) → kept_of image levels input (noted_loops notes) n ≡ Some c → HasEnded (run_of image levels input n).standing → EndsInTime power image rewritten (extra.worst 0) input n
  ended input n c k over =
      let f = followed input n c k in
      let e = last_is input n c f over in
      record {
        after = last input n c f;
        from = omega arith;
        to = last_within input n c f;
        standing = e.standing;
        output = e.output;
        steps_from = e.from;
        steps_to = e.to;
        cycles = e.cycles;
        in_time = e.in_time;
        falls = e.falls;
        pays = λ status exited. record { sum = e.sum status exited; terms = e.terms status exited };
      }

  promise : KeepsThePromise power image notes rewritten (extra.worst 0)
  promise = λ input n status kept exited.
      let f = followed input n kept.carried kept.kept in
      let e = last_is input n kept.carried f (subst HasEnded (sym exited) tt) in
      record {
        after = last input n kept.carried f;
        from = omega arith;
        to = last_within input n kept.carried f;
        exits = e.standing ∙ exited;
        output = e.output;
        steps_from = e.from;
        steps_to = e.to;
        cycles = e.cycles;
        is_level = subst (λ i. i < levels) (sym start_is) s.stubbed.start_is_level;
        in_time = e.in_time;
        falls = e.falls;
        energy = e.energy status exited;
      }

  -- ---- meetings

  at_node : (input : List ℕ) (n : ℕ) (c : Carried) (f : Followed input n c) → (run_of image levels input n).standing ≡ GoesOn → KeptAt t v.code l (run_of image levels input n) c f.kept.moves
  at_node input n c f goes = subst (λ q. StandsBy q (KeptAt t v.code l (run_of image levels input n) c f.kept.moves)) goes f.kept.stands

  calls_are : (input : List ℕ) (n : ℕ) (c : Carried) (f : Followed input n c) (goes : (run_of image levels input n).standing ≡ GoesOn) → (after_transitions t v.code l f.kept.moves).calls ≡ map (λ a. a - 4) c.returns
  calls_are input n c f goes =
      let at = at_node input n c f goes in
      let back = calls_back t (setting_of image levels input) (text_of_layout file image levels input s.stubbed.read) s.program.reached.words at.function at.calls at.stack in
      at.suspended ∙ (sym back ∙ ap (map (λ a. a - 4)) (sym at.returns))

  counts_show : (input : List ℕ) (n : ℕ) (c : Carried) (f : Followed input n c) (goes : (run_of image levels input n).standing ≡ GoesOn) → ShowsCounts v tree (graph_place (run_of image levels input n) c) (stored_run input n c f).state.window
  counts_show input n c f goes = record { counts = within; others = others }
    where
      place : steps.GraphState
      place = graph_place (run_of image levels input n) c

      at : KeptAt t v.code l (run_of image levels input n) c f.kept.moves
      at = at_node input n c f goes

      held : AreHeld t v.code l (is_counted tree) (counter_of tree) sites start (run_of image levels input n) f.kept.moves
      held = f.held goes

      same : (k : ℕ) → Rattle.paid_runs.specs.Shadows.is_within_loop l k (after_transitions t v.code l f.kept.moves) ≡ Rattle.paid_runs.specs.Shadows.is_within_loop l k place
      same k = in_same l k (after_transitions t v.code l f.kept.moves) (run_of image levels input n).state.pc (map (λ a. a - 4) c.returns) c.counts at.node (calls_are input n c f goes)

      within : (k : ℕ) → k < l.loops → is_counted tree k ≡ true → Rattle.paid_runs.specs.Shadows.is_within_loop l k place ≡ true → slice_index (stored_run input n c f).state.window (counter_of tree k) ≡ place.counts k
      within k kl ck on = f.followed.holds.counters (counter_of tree k) (s.shadows k kl ck) ∙ (held.shown.within k kl ck (same k ∙ on) ∙ at.counted k kl)

      others : (w : ℕ) → IsShadow w → ((k : ℕ) → k < l.loops → is_counted tree k ≡ true → Rattle.paid_runs.specs.Shadows.is_within_loop l k place ≡ true → counter_of tree k ≢ w) → slice_index (stored_run input n c f).state.window w ≡ 0
      others w shadow none = f.followed.holds.counters w shadow ∙ elim (search_below l.loops (λ k. is_counted tree k && nat_eq (counter_of tree k) w)) [
        | inl found ↦
            let k = found.0 in
            let parts = and_parts (is_counted tree k) (nat_eq (counter_of tree k) w) found.2 in
            let here : counter_of tree k ≡ w = eqb-true (counter_of tree k) w parts.1 in
            let off = false_from_ne_true (Rattle.paid_runs.specs.Shadows.is_within_loop l k (after_transitions t v.code l f.kept.moves)) (λ on. none k found.1 parts.0 (sym (same k) ∙ on) here) in
            ap (shadow_after sites (shadow_first start) (run_of image levels input n).steps).counters (sym here) ∙ held.shown.outside k found.1 parts.0 off
        | inr absent ↦ held.others w (λ k kl ck is. both_ways (is_counted tree k && nat_eq (counter_of tree k) w) (absent k kl) (and_from (is_counted tree k) (nat_eq (counter_of tree k) w) ck (eq-eqb (counter_of tree k) w is)))
      ]

  in_text_at : (input : List ℕ) (n : ℕ) (c : Carried) (f : Followed input n c) → (run_of image levels input n).standing ≡ GoesOn → list_any (in_range (run_of image levels input n).state.pc) image.text ≡ true
  in_text_at input n c f goes = let at = at_node input n c f goes in (kind_facts t (run_of image levels input n).state.pc (s.program.reached.words at.function (run_of image levels input n).state.pc at.reached)).1

  goes_length : (input : List ℕ) (n : ℕ) → (run_of image levels input n).standing ≡ GoesOn → length (run_of image levels input n).steps ≡ n
  unfolding run_of
  goes_length input n goes = going_length (setting_of image levels input) (start_of image levels) n goes

  legs_length : (legs : List Leg) → length (originals legs) ≡ length legs
  legs_length legs = length-map legs (λ x. x.step)

  meeting : (input : List ℕ) (n : ℕ) (c : Carried) (f : Followed input n c) → (run_of image levels input n).standing ≡ GoesOn → IsMeeting image rewritten levels v tree input n c f.followed.after
  meeting input n c f goes =
      let legs = f.followed.legs in
      record {
        goes_on = f.followed.standing ∙ goes;
        text = ap (λ xs. length (text_steps xs)) f.followed.steps ∙ (text_of_legs sites (shadow_first start) legs f.followed.are ∙ (sym (legs_length legs) ∙ (ap length f.followed.originals_are ∙ goes_length input n goes)));
        states = f.followed.meets;
        counters = counts_show input n c f goes;
      }

  one_meeting : (input : List ℕ) (n i j : ℕ) (c : Carried) (f : Followed input n c) → (run_of image levels input n).standing ≡ GoesOn → IsMeeting image rewritten levels v tree input n c i → IsMeeting image rewritten levels v tree input n c j → i ≡ j
  unfolding run_of
  one_meeting input n i j c f goes one other =
      let off = off_key (run_of image levels input n).state.pc (in_text_at input n c f goes) in
      meetings_once (setting_of rewritten levels input) (start_of rewritten levels) i j one.goes_on other.goes_on
      (ap (is_keyed (layout_of rewritten)) one.states.pc ∙ off) (ap (is_keyed (layout_of rewritten)) other.states.pc ∙ off) (one.text ∙ sym other.text)

  time_left : (input : List ℕ) (n : ℕ) (c : Carried) (f : Followed input n c) → (run_of image levels input n).standing ≡ GoesOn → (price_of power rewritten input f.followed.after).time
      + steps.cycles_left (graph v) (loops v tree) (stored_weights power image v (marks_by v tree rule)) stored (graph_place (run_of image levels input n) c) * period power (price_of power rewritten input f.followed.after).level ≤ power.deadline
  time_left input n c f goes =
      let at = at_node input n c f goes in
      let w = weights_of power t v.code sites in
      let moved = left_same g l w stored (after_transitions t v.code l f.kept.moves) (run_of image levels input n).state.pc (map (λ a. a - 4) c.returns) c.counts at.node (calls_are input n c f goes) at.counted in
      let there : steps.cycles_left g l w stored (after_transitions t v.code l f.kept.moves) ≡ steps.cycles_left (graph v) l (stored_weights power image v (marks_by v tree rule)) stored (graph_place (run_of image levels input n) c) =
      moved ∙ (ap (λ q. steps.cycles_left q l w stored (graph_place (run_of image levels input n) c)) s.graph_is ∙ ap (λ q. steps.cycles_left (graph v) l q stored (graph_place (run_of image levels input n) c)) s.weights_are) in
      from_start input n c f (λ m. m.time + steps.cycles_left (graph v) l (stored_weights power image v (marks_by v tree rule)) stored (graph_place (run_of image levels input n) c) * period power m.level ≤ power.deadline)
      (subst (λ x. (price power start (stored_run input n c f).steps).time + x * period power (price power start (stored_run input n c f).steps).level ≤ power.deadline) there (paid input n c f).in_time)

  after_steps : (input : List ℕ) (n : ℕ) (c : Carried) (f : Followed input n c) → (run_of image levels input n).standing ≡ GoesOn → f.followed.after ≡ length (stored_run input n c f).steps
  after_steps input n c f goes =
      let no_more : steps_to (run_of image levels input n).standing ≡ 0 = ap steps_to goes in
      let e = ap length f.followed.steps in
      omega (arith, f.followed.after_is, no_more, e)

  meets : (input : List ℕ) (n : ℕ) (c : Carried) → kept_of image levels input (noted_loops notes) n ≡ Some c → (run_of image levels input n).standing ≡ GoesOn
      → MeetsInTime power image rewritten v tree (stored_weights power image v (marks_by v tree rule)) stored (extra.worst 0) input n c
  meets input n c k goes =
      let f = followed input n c k in
      let b = bounded input n c f in
      let e = after_steps input n c f goes in
      let d = goes_length input n goes in
      let m = meeting input n c f goes in
      record {
        after = f.followed.after;
        from = omega (arith, b.from, e, d);
        to = omega (arith, b.to, e, d);
        meeting = m;
        once = λ other is. one_meeting input n other f.followed.after c f goes is m;
        cycles = b.cycles;
        time_left = time_left input n c f goes;
      }

  pub follows : FollowsInTime power image rewritten notes v tree (stored_weights power image v (marks_by v tree rule)) plain stored (extra.worst 0)
  follows = record {
    cycles = λ input n kept.
        let one = cycles-price power (starting_level levels image.keyed_segment) (run_of image levels input n).steps in
        let below = image_runs_are_below file image levels input v.code l extent (costs_of power) plain s.stubbed.read s.program s.plain_are n kept.carried (by_tree input n kept.carried kept.kept) in
        omega (arith, one, below);
    ends = λ input n kept goes.
        image_runs_end file image levels input v.code l extent (costs_of power) plain s.stubbed.read s.program s.plain_are (each_cost power s.ok) n kept.carried (by_tree input n kept.carried kept.kept) goes;
    meets = meets;
    ended = λ input n kept over. ended input n kept.carried kept.kept over;
  }

  pub keeps : KeepsThePromise power image notes rewritten (extra.worst 0)
  keeps = promise
