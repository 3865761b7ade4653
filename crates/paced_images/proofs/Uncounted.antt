-- A promise says nothing of which loops are counted: the same runs are kept by notes of which others are.
use Rattle.std.proofs.Common.{◌≡◌, ℕ, zero, suc, Bool, List, [], ◌∷◌, length, refl, sym, ap, ◌∙◌, subst}
use Rattle.std.proofs.lemmas.List.{length-map}
use Rattle.std.proofs.Math.Path.{fun_ext}
use Rattle.scale_base.specs.Image.{Image}
use Rattle.power_model.specs.Numbers.{PowerModel}
use Rattle.cost_theory.specs.Graph.{Loops}
use Rattle.loop_file.specs.declared.notes.LoopNote.{LoopNote}
use Rattle.loop_file.specs.Kept.{in_extent, note_at, noted_loops}
use Rattle.loop_file.specs.Notes.{uncounted_note}
use Rattle.graph_runs.specs.KeptRuns.{IsKeptUpTo}
use Rattle.rewritten_runs.specs.Promise.{KeepsThePromise}
use Rattle.paced_images.specs.Wanted.{note_by, notes_by}

-- but for whether its loop is counted, each note is the same
note_changed : (counted : Bool) (tallied : List ℕ) (notes : List LoopNote) (k : ℕ) → uncounted_note (note_at (notes_by counted tallied notes) k) ≡ uncounted_note (note_at notes k)
note_changed counted tallied [] k = refl
note_changed counted tallied (note ∷ notes) zero = refl
note_changed counted tallied (note ∷ notes) (suc k) = note_changed counted tallied notes k

abbrev of_parts : ℕ → (header bound least : ℕ → ℕ) → (ℕ → ℕ → Bool) → Loops
of_parts n header bound least inside = record { loops = n; header = header; bound = bound; least_trips = least; inside = inside }

same_loops : (counted : Bool) (tallied : List ℕ) (notes : List LoopNote) → noted_loops notes ≡ noted_loops (notes_by counted tallied notes)
same_loops counted tallied notes =
    let less = notes_by counted tallied notes in
    let header : (λ (k : ℕ). (note_at notes k).header) ≡ (λ (k : ℕ). (note_at less k).header) = fun_ext (λ k. ap (λ (note : LoopNote). note.header) (sym (note_changed counted tallied notes k))) in
    let bound : (λ (k : ℕ). (note_at notes k).bound) ≡ (λ (k : ℕ). (note_at less k).bound) = fun_ext (λ k. ap (λ (note : LoopNote). note.bound) (sym (note_changed counted tallied notes k))) in
    let least : (λ (k : ℕ). (note_at notes k).at_least) ≡ (λ (k : ℕ). (note_at less k).at_least) = fun_ext (λ k. ap (λ (note : LoopNote). note.at_least) (sym (note_changed counted tallied notes k))) in
    let inside : (λ (k v : ℕ). in_extent (note_at notes k) v) ≡ (λ (k v : ℕ). in_extent (note_at less k) v) = fun_ext (λ k. ap in_extent (sym (note_changed counted tallied notes k))) in
    ap (λ n. of_parts n (λ k. (note_at notes k).header) (λ k. (note_at notes k).bound) (λ k. (note_at notes k).at_least) (λ k v. in_extent (note_at notes k) v)) (sym (length-map notes (note_by counted tallied)))
    ∙ (ap (λ f. of_parts (length less) f (λ k. (note_at notes k).bound) (λ k. (note_at notes k).at_least) (λ k v. in_extent (note_at notes k) v)) header
    ∙ (ap (λ f. of_parts (length less) (λ k. (note_at less k).header) f (λ k. (note_at notes k).at_least) (λ k v. in_extent (note_at notes k) v)) bound
    ∙ (ap (λ f. of_parts (length less) (λ k. (note_at less k).header) (λ k. (note_at less k).bound) f (λ k v. in_extent (note_at notes k) v)) least
    ∙ ap (λ f. of_parts (length less) (λ k. (note_at less k).header) (λ k. (note_at less k).bound) (λ k. (note_at less k).at_least) f) inside)))

pub promise_of : (power : PowerModel) (counted : Bool) (tallied : List ℕ) (original : Image) (notes : List LoopNote) (stored : Image) (bound : ℕ) → KeepsThePromise power original (notes_by counted tallied notes) stored bound → KeepsThePromise power original notes stored bound
promise_of power counted tallied original notes stored bound promise input n status kept exits =
    promise input n status (subst (λ (l : Loops). IsKeptUpTo original (length power.levels) input l n) (same_loops counted tallied notes) kept) exits
