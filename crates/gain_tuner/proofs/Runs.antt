-- No run of the original or of a stored image is refused, and the runs of the held one end where those that count do.
use Rattle.std.proofs.Common.{◌≡◌, ℕ, ◌<◌, ◌≤◌, Bool, true, false, ◌&&◌, cond, List, [], ◌∷◌, length, Option, Some, None, Result, Ok, Err, refl, sym, ap, ◌∙◌, subst, arith}
use Rattle.std.specs.Prelude.{IsSome}
use Rattle.std.specs.List.{All, filter}
use Rattle.std.specs.Result.{IsOk}
use Rattle.std.proofs.lemmas.Bool.{lt-ltb}
use Rattle.std.proofs.lemmas.List.Elements.{All-nil, All-cons}
use Rattle.scale_base.specs.declared.endings.End.{End}
use Rattle.scale_base.specs.declared.endings.End.TheVariants.{Exited, Trapped, OutOfSteps}
use Rattle.scale_base.specs.declared.ranges.Keyed.{Keyed}
use Rattle.scale_base.specs.declared.refusal.Refusal.{Refusal}
use Rattle.scale_base.specs.declared.refusal.Refusal.TheVariants.{StartLevel}
use Rattle.scale_base.specs.declared.summary.Summary.{Summary}
use Rattle.scale_base.specs.Image.{Image, image_of}
use Rattle.scale_base.specs.Run.{run_of}
use Rattle.power_model.specs.Numbers.{PowerModel}
use Rattle.power_model.specs.Report.{Report}
use Rattle.power_model.specs.Slowest.{is_in_time}
use Rattle.machine_file.specs.Machine.{read_machine}
use Rattle.table_keys.specs.Keys.{◌>>=◌}
use Rattle.loop_file.specs.declared.notes.LoopNote.{LoopNote}
use Rattle.loop_file.specs.Loops.{read_loops}
use Rattle.speed_sim.specs.Simulated.{simulated, report_of, run_end, loops_allowed, level_allowed, given_notes}
use Rattle.scaler.specs.Held.{IsHeld}
use Rattle.marked_images.specs.Promise.{IsStoredSafely}
use Rattle.scaler.proofs.Laws.{held_parts, held_safe}
use Rattle.marked_images.proofs.Laws.{found_below}
use Rattle.gain_tuner.specs.Finding.{RunsAlways}
use Rattle.gain_tuner.specs.Spending.{ends_by_exit, was_kept, exits_kept, counts, unless_out_of_steps, spent_by, spent_on}

-- ---- what is simulated

then_is : {A B : Type 0} (part : Result A Refusal) (a : A) (next : A → Result B Refusal) → part ≡ Ok a → (part >>= next) ≡ next a
then_is part a next e = ap (λ q. q >>= next) e

pub simulated_plain : (image machine loops input : List ℕ) (power : PowerModel) (original : Image) (notes : List LoopNote) → read_machine machine ≡ Ok power → image_of image ≡ Ok original → original.keyed_segment ≡ None →
    read_loops original loops ≡ Ok notes → simulated image machine input (Some loops) ≡ Ok (report_of power original input (Some notes))
unfolding simulated
simulated_plain image machine loops input power original notes a b c d =
    then_is (read_machine machine) power _ a ∙ (then_is (image_of image) original _ b ∙ (then_is (loops_allowed (Some loops) original.keyed_segment) tt _ (ap (loops_allowed (Some loops)) c)
    ∙ (then_is (level_allowed (length power.levels) original.keyed_segment) tt _ (ap (level_allowed (length power.levels)) c) ∙ then_is (given_notes original (Some loops)) (Some notes) _ (then_is (read_loops original loops) notes _ d))))

is_allowed : (levels : ℕ) (key : Keyed) → key.start < levels → level_allowed levels (Some key) ≡ Ok tt
is_allowed levels key lt = ap (λ b. cond b (Ok tt) (Err (StartLevel key.start levels))) (lt-ltb key.start levels lt)

simulated_keyed : (stored machine input : List ℕ) (power : PowerModel) (image : Image) (key : Keyed) → read_machine machine ≡ Ok power → image_of stored ≡ Ok image → image.keyed_segment ≡ Some key → key.start < length power.levels →
    simulated stored machine input None ≡ Ok (report_of power image input None)
unfolding simulated
simulated_keyed stored machine input power image key a b c d =
    then_is (read_machine machine) power _ a ∙ (then_is (image_of stored) image _ b ∙ (refl
    ∙ (then_is (level_allowed (length power.levels) image.keyed_segment) tt _ (ap (level_allowed (length power.levels)) c ∙ is_allowed (length power.levels) key d) ∙ refl)))

ok_of : {A : Type 0} (r : Result A Refusal) (a : A) → r ≡ Ok a → IsOk r
ok_of r a e = subst (λ q. IsOk q) (sym e) refl

pub starts_below : (image machine loops stored : List ℕ) (summary : Summary) (s : IsStoredSafely image machine loops stored summary) → s.files.key.start < length s.files.power.levels
starts_below image machine loops stored summary s =
    let below = found_below (is_in_time s.files.power summary.worst) 0 (length s.files.power.levels) summary.start s.slow in
    let small : summary.start < length s.files.power.levels = omega (arith, below) in
    subst (λ l. l < length s.files.power.levels) (sym s.files.starts) small

pub stored_runs : (image machine loops stored : List ℕ) (summary : Summary) → IsStoredSafely image machine loops stored summary → RunsAlways stored machine None
stored_runs image machine loops stored summary s input = ok_of (simulated stored machine input None) (report_of s.files.power s.files.rewritten input None)
    (simulated_keyed stored machine input s.files.power s.files.rewritten s.files.key s.files.power_is s.files.rewritten_is s.files.keyed (starts_below image machine loops stored summary s))

-- ---- the held image

module _ (image machine loops stored : List ℕ) (summary : Summary) (is : IsHeld image machine loops (Ok (stored, summary))) where
  pub original_runs : RunsAlways image machine (Some loops)
  original_runs input =
      let p = held_parts image machine loops (stored, summary) is in
      ok_of (simulated image machine input (Some loops)) (report_of p.power p.original input (Some p.notes)) (simulated_plain image machine loops input p.power p.original p.notes p.power_is p.original_is p.no_key p.notes_are)

  and_left : (a b : Bool) → (a && b) ≡ true → a ≡ true
  and_left true b e = refl
  and_left false b e = let bad : ⊥ = cc in absurd bad

  ended_some : (end : End) (energy : ℕ) → ends_by_exit end ≡ true → IsSome (unless_out_of_steps end energy)
  ended_some (Exited status) energy e = refl
  ended_some (Trapped trap) energy e = refl
  ended_some OutOfSteps energy e = let bad : ⊥ = cc in absurd bad

  report_end : (power : PowerModel) (o : Image) (input : List ℕ) (notes : Option (List LoopNote)) → (report_of power o input notes).end ≡ run_end (run_of o (length power.levels) input power.steps).standing
  unfolding report_of
  report_end power o input notes = refl

  same_ok : {A : Type 0} (r : Result A Refusal) (a b : A) → r ≡ Ok a → r ≡ Ok b → a ≡ b
  same_ok r a b e e' = let both : Ok a ≡ Ok b = sym e ∙ e' in cc

  -- an input that counts has the held run end within its steps
  pub held_ends : IsStoredSafely image machine loops stored summary → length image ≤ 4194304 → length machine ≤ 1048576 → length loops ≤ 1048576 → (input : List ℕ) → counts image machine loops input ≡ true → IsSome (spent_on stored machine input)
  held_ends safely si sm sl input counted =
      let p = held_parts image machine loops (stored, summary) is in
      let h = held_safe image machine loops stored summary si sm sl is in
      let power : p.power ≡ h.power = same_ok (read_machine machine) p.power h.power p.power_is h.power_is in
      let key = subst (λ (o : Image). o.keyed_segment ≡ None) (same_ok (image_of image) p.original h.original p.original_is h.original_is) p.no_key in
      let plain = simulated_plain image machine loops input h.power h.original h.notes h.power_is h.original_is key h.notes_are in
      let exited : ends_by_exit (report_of h.power h.original input (Some h.notes)).end ≡ true =
      and_left (ends_by_exit (report_of h.power h.original input (Some h.notes)).end) (was_kept (report_of h.power h.original input (Some h.notes)).kept) (subst (λ (r : Result Report Refusal). exits_kept r ≡ true) plain counted) in
      let stands = (h.runs input h.power.steps).standing in
      let ends : (report_of h.power h.held input None).end ≡ (report_of h.power h.original input (Some h.notes)).end =
      report_end h.power h.held input None ∙ (ap run_end stands ∙ sym (report_end h.power h.original input (Some h.notes))) in
      let s = safely.files in
      let other : s.power ≡ h.power = same_ok (read_machine machine) s.power h.power s.power_is h.power_is in
      let held : s.rewritten ≡ h.held = same_ok (image_of stored) s.rewritten h.held s.rewritten_is h.held_is in
      let keyed = simulated_keyed stored machine input s.power s.rewritten s.key s.power_is s.rewritten_is s.keyed (starts_below image machine loops stored summary safely) in
      let there : simulated stored machine input None ≡ Ok (report_of h.power h.held input None) =
      keyed ∙ (ap (λ (q : PowerModel). Ok (report_of q s.rewritten input None)) other ∙ ap (λ (o : Image). Ok (report_of h.power o input None)) held) in
      subst (λ (r : Result Report Refusal). IsSome (spent_by r)) (sym there)
      (ended_some (report_of h.power h.held input None).end (report_of h.power h.held input None).paid.energy (ap ends_by_exit ends ∙ exited))

  pub all_end : (p : List ℕ → Bool) (xs : List (List ℕ)) → ((input : List ℕ) → p input ≡ true → IsSome (spent_on stored machine input)) → All (λ input. IsSome (spent_on stored machine input)) (filter p xs)
  all_end p [] each = All-nil (λ input. IsSome (spent_on stored machine input))
  all_end p (x ∷ xs) each = one (p x) refl (all_end p xs each)
    where
      one : (b : Bool) → p x ≡ b → All (λ input. IsSome (spent_on stored machine input)) (filter p xs) → All (λ input. IsSome (spent_on stored machine input)) (cond b (x ∷ filter p xs) (filter p xs))
      one true e rest = All-cons (λ input. IsSome (spent_on stored machine input)) x (filter p xs) (each x e) rest
      one false e rest = rest
