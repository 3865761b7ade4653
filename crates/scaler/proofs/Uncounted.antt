-- The loops of notes where none is counted: the same loops, which are refused nowhere else.
use Rattle.std.proofs.Common.{◌≡◌, ℕ, ◌<◌, Bool, List, [], ◌∷◌, map, length, refl, sym, ap, ◌∙◌, subst}
use Rattle.std.specs.Prelude.{slice_index}
use Rattle.std.proofs.lemmas.List.{length-map}
use Rattle.scale_base.specs.declared.refusal.Refusal.{Refusal}
use Rattle.scale_base.specs.Image.{Image}
use Rattle.cost_theory.specs.Graph.{Loops}
use Rattle.code_text.specs.Text.{text_of}
use Rattle.flow_graph.specs.FlowGraph.{FlowGraph, IsGraphOf}
use Rattle.loop_file.specs.declared.notes.LoopNote.{LoopNote}
use Rattle.loop_file.specs.Kept.{note_at, noted_loops}
use Rattle.loop_file.specs.Notes.{uncounted_note}
use Rattle.loop_forest.specs.Tree.{LoopView, loops, IsLeastTrips, IsLoopTree, IsTreeOf, IsTreeRefusal}
use Rattle.answer_laws.proofs.Laws.{tree_is_not_refused, trees_agree}
use Rattle.scaler.proofs.agree.Pairs.{renumbered}
use Rattle.scaler.proofs.SafeAs.{note_changed, same_without}

-- ---- the notes

headers_kept : (notes : List LoopNote) → map (λ (note : LoopNote). note.header) notes ≡ map (λ (note : LoopNote). note.header) (map uncounted_note notes)
headers_kept [] = refl
headers_kept (note ∷ notes) = ap (λ xs. note.header ∷ xs) (headers_kept notes)

bounds_kept : (notes : List LoopNote) → map (λ (note : LoopNote). note.bound) notes ≡ map (λ (note : LoopNote). note.bound) (map uncounted_note notes)
bounds_kept [] = refl
bounds_kept (note ∷ notes) = ap (λ xs. note.bound ∷ xs) (bounds_kept notes)

-- ---- the tree

abbrev flags_without : List LoopNote → List Bool
flags_without notes = map (λ (note : LoopNote). note.counted) (map uncounted_note notes)

abbrev pub without : List LoopNote → LoopView → LoopView
without notes t = record t { counted = flags_without notes }

module _ (v : FlowGraph) (notes : List LoopNote) (t : LoopView) (h : IsTreeOf v notes t) where
  flags_size : length (flags_without notes) ≡ length t.headers
  flags_size =
      length-map (map uncounted_note notes) (λ (note : LoopNote). note.counted) ∙ (length-map notes uncounted_note
      ∙ (sym (ap length h.counted ∙ length-map notes (λ (note : LoopNote). note.counted)) ∙ h.tree.counted_size))

  changed : IsLoopTree v (noted_loops notes).inside (without notes t)
  changed = record {
    accepted = h.tree.accepted;
    whole = h.tree.whole;
    order = h.tree.order;
    bounds_size = h.tree.bounds_size;
    counted_size = flags_size;
    trips_size = h.tree.trips_size;
    bodies_size = h.tree.bodies_size;
    parent_size = h.tree.parent_size;
    header = h.tree.header;
    bound = h.tree.bound;
    trips = h.tree.trips;
    body = h.tree.body;
    parents = h.tree.parents;
    backs_size = h.tree.backs_size;
    backs = h.tree.backs;
    innermost_size = h.tree.innermost_size;
    innermost = h.tree.innermost;
  }

  trips_there : (k : ℕ) → k < length (map uncounted_note notes) → IsLeastTrips v (loops v t) (noted_loops (map uncounted_note notes)).inside k (note_at (map uncounted_note notes) k).at_least (slice_index t.least_trips k)
  trips_there k kl =
      let low : k < length notes = subst (λ n. k < n) (length-map notes uncounted_note) kl in
      subst (λ a. IsLeastTrips v (loops v t) (noted_loops (map uncounted_note notes)).inside k a (slice_index t.least_trips k)) (ap (λ (note : LoopNote). note.at_least) (sym (note_changed notes k)))
      (subst (λ (l : Loops). IsLeastTrips v (loops v t) l.inside k (note_at notes k).at_least (slice_index t.least_trips k)) (same_without notes) (h.trips k low))

  pub tree_without : IsTreeOf v (map uncounted_note notes) (without notes t)
  tree_without = record {
    tree = subst (λ (l : Loops). IsLoopTree v l.inside (without notes t)) (same_without notes) changed;
    headers = h.headers ∙ headers_kept notes;
    bounds = h.bounds ∙ bounds_kept notes;
    counted = refl;
    trips = trips_there;
  }

  module _ (image : Image) (is : IsGraphOf (text_of image) v) where
    pub not_refused : (refusal : Refusal) → IsTreeRefusal v (map uncounted_note notes) refusal → ⊥
    not_refused refusal why = tree_is_not_refused v v (map uncounted_note notes) (without notes t) refusal (renumbered image v v is is) is.flow tree_without why

    -- any tree of them has the same loops
    pub loops_kept : (t' : LoopView) → IsTreeOf v (map uncounted_note notes) t' → loops v t ≡ loops v t'
    loops_kept t' there = (trees_agree v v (map uncounted_note notes) (without notes t) t' (renumbered image v v is is) is.flow tree_without there).loops
