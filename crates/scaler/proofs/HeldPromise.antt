-- A held image keeps the promise of a rewritten one, with no cycle more than the original: its run takes the same steps at one level.
use Rattle.std.proofs.Common.{◌≡◌, ℕ, ◌+◌, ◌<◌, ◌≤◌, List, [], ◌∷◌, length, None, Ok, refl, sym, ap, ◌∙◌, subst, arith}
use Rattle.std.specs.Prelude.{All, Some, nat_lt, sum_by, unwrap_or}
use Rattle.std.proofs.Math.Nat.{le_refl}
use Rattle.std.proofs.lemmas.List.Elements.{All-head, All-tail}
use Rattle.scale_base.specs.declared.stepping.Stepped.{Stepped}
use Rattle.scale_base.specs.declared.summary.Summary.{Summary}
use Rattle.scale_base.specs.Image.{Image, image_of, contents}
use Rattle.scale_base.specs.Run.{run_of, starting_level, HasExited}
use Rattle.power_model.specs.Numbers.{PowerModel}
use Rattle.power_model.specs.Price.{cycles_of, energy_at, held_energy, level_after, step_cycles, time_at}
use Rattle.power_model.specs.Slowest.{slowest_of, is_in_time}
use Rattle.power_model.specs.Switches.{NeverRises}
use Rattle.power_model.proofs.Laws.{cycles-price, start-price}
use Rattle.machine_file.proofs.Laws.{model-from_bytes}
use Rattle.elf_patch.specs.Stored.{stored_image, held_base}
use Rattle.stored_laws.specs.Held.{IsHeldImage}
use Rattle.stored_laws.proofs.Laws.{a_held_image}
use Rattle.loop_forest.specs.Tree.{loops as tree_loops}
use Rattle.code_text.specs.Text.{text_of}
use Rattle.graph_runs.proofs.Laws.{image_runs_are_below}
use Rattle.loop_file.specs.Kept.{noted_loops}
use Rattle.rewritten_runs.specs.Prices.{price_of}
use Rattle.rewritten_runs.specs.Promise.{EndsAsPromised, KeepsThePromise}
use Rattle.rewritten_runs.proofs.Laws.{kept_by_tree, program_of}
use Rattle.scaler.specs.Held.{IsHeld, held_summary}
use Rattle.rewritten_runs.specs.FilePromise.{FilesKeepThePromise}
use Rattle.marked_images.specs.Promise.{IsStoredSafely}
use Rattle.scaler.specs.Runs.{IsAsPrinted}
use Rattle.marked_images.proofs.Laws.{file_is, found_below, found_in_time}
use Rattle.scaler.proofs.HeldRuns.{runs_alike, printed, no_ports}
use Rattle.scaler.proofs.Safe.{went_through, starts_within}

-- ---- no step changes the level

never_rises : (i : ℕ) (xs : List Stepped) → All (λ x. x.port ≡ None) xs → NeverRises i xs
never_rises i [] all = tt
never_rises i (x ∷ xs) all =
    let same : level_after i x ≡ i = ap (λ o. unwrap_or o i) (All-head (λ (y : Stepped). y.port ≡ None) x xs all) in
    (subst (λ l. l ≤ i) (sym same) (le_refl i), subst (λ l. NeverRises l xs) (sym same) (never_rises i xs (All-tail (λ (y : Stepped). y.port ≡ None) x xs all)))

-- ---- the run of a held image

module _ (file : List ℕ) (power : PowerModel) (original held : Image) (base level worst : ℕ) (none : original.keyed_segment ≡ None) (lawful : IsHeldImage file original base level held)
    (slow : slowest_of power worst ≡ Some level) where
  -- the price of the held run starts at the level, and has the original's cycles
  starts : (input : List ℕ) (n : ℕ) → (price_of power held input n).start ≡ level
  starts input n = start-price power (starting_level (length power.levels) held.keyed_segment) (run_of held (length power.levels) input n).steps ∙ ap (starting_level (length power.levels)) lawful.keyed

  same_steps : (input : List ℕ) (n : ℕ) → (run_of held (length power.levels) input n).steps ≡ (run_of original (length power.levels) input n).steps
  same_steps input n = (runs_alike file original held base level (length power.levels) none lawful input n).steps

  same_cycles : (input : List ℕ) (n : ℕ) → (price_of power held input n).cycles ≡ (price_of power original input n).cycles
  same_cycles input n =
      cycles-price power (starting_level (length power.levels) held.keyed_segment) (run_of held (length power.levels) input n).steps
      ∙ (ap (λ (xs : List Stepped). sum_by (step_cycles power) xs) (same_steps input n)
      ∙ sym (cycles-price power (starting_level (length power.levels) original.keyed_segment) (run_of original (length power.levels) input n).steps))

  is_level : starting_level (length power.levels) held.keyed_segment < length power.levels
  is_level =
      let below = found_below (is_in_time power worst) 0 (length power.levels) level slow in
      let small : level < length power.levels = omega (arith, below) in
      subst (λ l. l < length power.levels) (sym (ap (starting_level (length power.levels)) lawful.keyed)) small

  within : (a b : ℕ) → a ≡ b → a ≤ b + 0
  within a b e = omega arith

  in_time_of : (t s d : ℕ) → t ≤ s → s ≤ d → t ≤ d
  in_time_of t s d one two = omega arith

  pub ends_as_held : (input : List ℕ) (n status : ℕ) → IsAsPrinted power (held_summary power worst level) (price_of power held input n) → (run_of original (length power.levels) input n).standing ≡ HasExited status →
      EndsAsPromised power original held 0 input n status
  ends_as_held input n status paid exits =
      let alike = runs_alike file original held base level (length power.levels) none lawful input n in
      let energy : (price_of power held input n).energy ≡ held_energy power (price_of power held input n) =
      paid.at_start.energy ∙ ap (λ i. energy_at power i (price_of power held input n).cycles) (sym (starts input n)) in
      record {
        after = n;
        from = le_refl n;
        to = within n n refl;
        exits = alike.standing ∙ exits;
        output = alike.output;
        steps_from = subst (λ k. length (run_of original (length power.levels) input n).steps ≤ k) (sym (ap length (same_steps input n))) (le_refl (length (run_of original (length power.levels) input n).steps));
        steps_to = within (length (run_of held (length power.levels) input n).steps) (length (run_of original (length power.levels) input n).steps) (ap length (same_steps input n));
        cycles = within (price_of power held input n).cycles (price_of power original input n).cycles (same_cycles input n);
        is_level = is_level;
        in_time = in_time_of (price_of power held input n).time (time_at power level worst) power.deadline paid.time paid.in_time;
        falls = subst (λ (xs : List Stepped). NeverRises (starting_level (length power.levels) held.keyed_segment) xs) (sym (same_steps input n))
            (never_rises (starting_level (length power.levels) held.keyed_segment) (run_of original (length power.levels) input n).steps (no_ports original (length power.levels) input n none));
        energy = subst (λ e. e ≤ held_energy power (price_of power held input n)) (sym energy) (le_refl (held_energy power (price_of power held input n)));
      }

-- ---- the law

pub held_promise : (image machine loops stored : List ℕ) (summary : Summary) → length image ≤ 4194304 → IsHeld image machine loops (Ok ((stored, summary))) → IsStoredSafely image machine loops stored summary
held_promise image machine loops stored summary short h =
    let went = went_through image machine loops (stored, summary) h in
    let power = went.power in
    let original = went.original in
    let notes = went.notes in
    let p = went.program in
    let worst = p.numbers.worst 0 in
    let started = starts_within power original worst (stored, summary) (nat_lt 281474976710656 worst) (sym p.answer_is) in
    let level = started.level in
    let base = held_base original in
    let model = model-from_bytes machine power went.power_is in
    let few = model.few in
    let small = found_below (is_in_time power worst) 0 (length power.levels) level started.slow in
    let held : Image = contents (stored_image image [] base [] level) in
    let lawful = a_held_image image original level went.original_is went.no_key short (omega arith) in
    let bytes : stored ≡ stored_image image [] base [] level =
    ap (λ (g : List ℕ × Summary). g.0) started.given_is ∙ ap (λ f. stored_image f [] base [] level) (file_is image original went.original_is) in
    let numbers : summary ≡ held_summary power worst level = ap (λ (g : List ℕ × Summary). g.1) started.given_is in
    let program = program_of (text_of original) p.code notes p.tree p.code_is p.tree_is in
    let promise : KeepsThePromise power original notes held 0 = λ input n status k exits.
    ends_as_held image power original held base level worst went.no_key lawful started.slow input n status
    (printed power image original held base level worst input n went.no_key lawful started.slow
    (image_runs_are_below image original (length power.levels) input p.code.code (tree_loops p.code p.tree) (noted_loops notes).inside (cycles_of power.costs) p.numbers went.original_is program p.numbers_are
    n k.carried (kept_by_tree p.code notes p.tree p.tree_is original (length power.levels) input n k.carried k.kept))) exits in
    let files : FilesKeepThePromise image machine loops stored summary.start summary.worst summary.time summary.stub_cycles = record {
      power = power;
      original = original;
      notes = notes;
      rewritten = held;
      power_is = went.power_is;
      original_is = went.original_is;
      notes_are = went.notes_are;
      rewritten_is = ap image_of bytes ∙ lawful.accepted;
      same_text = lawful.text;
      key = record { range = record { from = base; to = base }; start = level };
      keyed = lawful.keyed;
      starts = sym (ap (λ (s : Summary). s.start) numbers);
      time = subst (λ (s : Summary). s.time ≡ time_at power s.start s.worst) (sym numbers) refl;
      in_time = subst (λ (s : Summary). s.time ≤ power.deadline) (sym numbers) (found_in_time power worst level started.slow);
      promise = subst (λ (s : Summary). KeepsThePromise power original notes held s.stub_cycles) (sym numbers) promise;
    } in
    record { files = files; slow = subst (λ (s : Summary). slowest_of power s.worst ≡ Some s.start) (sym numbers) started.slow }
