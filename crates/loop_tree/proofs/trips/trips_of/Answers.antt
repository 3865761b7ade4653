use Rattle.std.proofs.Common.{◌≡◌, ◌<◌, length, Vec, Global, ℕ, List, sym, ap, ◌∙◌, Some, map, slice_get, arith, subst, option_map}
use Rattle.std.proofs.lemmas.List.{length-map}
use Rattle.std.proofs.lemmas.Option.{slice_get-map, slice_get-get_or, get_or_from_slice_get}
use Rattle.cost_theory.specs.Lists.{body_of}
use Rattle.loop_file.specs.declared.notes.LoopNote.{LoopNote}
use Rattle.loop_file.specs.Kept.{note_at}
use Rattle.loop_forest.specs.Found.{LoopsView}
use Rattle.loop_forest.proofs.Laws.{body_at}
use Rattle.loop_forest.specs.Stored.{IsRising}
use Rattle.loop_tree.specs.Trips.{AreTripsOf}
use Rattle.loop_tree.proofs.TripLaws.{trips_more}
use Rattle.loop_tree.proofs.trips.trips_of.Goals as goal

pub trips-requires-clause-rising : goal.trips-requires-clause-rising
trips-requires-clause-rising c =
    let k : ℕ = c.loop-k.k in
    let kl : k < length c.args.notes.now = omega (arith, c.count-k-end.ensures.count) in
    let size : length (map (λ (body : Vec ℕ Global). body.items) c.found.inside.bodies.items) ≡ length c.args.notes.now = ap (λ (t : LoopsView). length t.bodies) c.found.view_is ∙ c.requires.bodies_size in
    let same : length (map (λ (body : Vec ℕ Global). body.items) c.found.inside.bodies.items) ≡ length c.found.inside.bodies.items = length-map c.found.inside.bodies.items (λ (body : Vec ℕ Global). body.items) in
    let low : k < length c.found.inside.bodies.items = omega arith in
    let got : slice_get c.found.inside.bodies.items k ≡ Some c.index-in-loop-k.result.now = slice_get-get_or c.found.inside.bodies.items k c.index-in-loop-k.result.now low ∙ ap Some (sym c.index-in-loop-k.ensures) in
    let body : slice_get (map (λ (body : Vec ℕ Global). body.items) c.found.inside.bodies.items) k ≡ Some c.index-in-loop-k.result.now.items = slice_get-map (λ (body : Vec ℕ Global). body.items) c.found.inside.bodies.items k ∙ ap (option_map (λ (body : Vec ℕ Global). body.items)) got in
    let is : body_of c.args.found.now.bodies k ≡ c.index-in-loop-k.result.now.items = body_at c.args.found.now.bodies k c.index-in-loop-k.result.now.items (subst (λ (t : LoopsView). slice_get t.bodies k ≡ Some c.index-in-loop-k.result.now.items) c.found.view_is body) in
    subst IsRising (is ∙ sym c.deref.ensures.value) (c.requires.body k kl).ascending

pub loop-k-preserved : goal.loop-k-preserved
loop-k-preserved c =
    let k : ℕ = c.loop-k.k in
    let kl : k < length c.args.notes.now = omega (arith, c.count-k-end.ensures.count) in
    let size : length (map (λ (body : Vec ℕ Global). body.items) c.found.inside.bodies.items) ≡ length c.args.notes.now = ap (λ (t : LoopsView). length t.bodies) c.found.view_is ∙ c.requires.bodies_size in
    let same : length (map (λ (body : Vec ℕ Global). body.items) c.found.inside.bodies.items) ≡ length c.found.inside.bodies.items = length-map c.found.inside.bodies.items (λ (body : Vec ℕ Global). body.items) in
    let low : k < length c.found.inside.bodies.items = omega arith in
    let got : slice_get c.found.inside.bodies.items k ≡ Some c.index-in-loop-k.result.now = slice_get-get_or c.found.inside.bodies.items k c.index-in-loop-k.result.now low ∙ ap Some (sym c.index-in-loop-k.ensures) in
    let body : slice_get (map (λ (body : Vec ℕ Global). body.items) c.found.inside.bodies.items) k ≡ Some c.index-in-loop-k.result.now.items = slice_get-map (λ (body : Vec ℕ Global). body.items) c.found.inside.bodies.items k ∙ ap (option_map (λ (body : Vec ℕ Global). body.items)) got in
    let is : body_of c.args.found.now.bodies k ≡ c.index-in-loop-k.result.now.items = body_at c.args.found.now.bodies k c.index-in-loop-k.result.now.items (subst (λ (t : LoopsView). slice_get t.bodies k ≡ Some c.index-in-loop-k.result.now.items) c.found.view_is body) in
    let note : note_at c.args.notes.now k ≡ c.note.result.now = get_or_from_slice_get c.args.notes.now k c.note.result.now _ c.note.ensures.note in
    let one : AreTripsOf c.args.graph.now (note_at c.args.notes.now k) (body_of c.args.found.now.bodies k) c.in_ok-trips.field-0 =
    subst (λ (n : LoopNote). AreTripsOf c.args.graph.now n (body_of c.args.found.now.bodies k) c.in_ok-trips.field-0) (sym note)
    (subst (λ (xs : List ℕ). AreTripsOf c.args.graph.now c.note.result.now xs c.in_ok-trips.field-0) (c.deref.ensures.value ∙ sym is) c.in_ok-trips.ensures) in
    trips_more c.args.graph.now c.args.notes.now c.args.found.now.bodies k c.in_ok-trips.field-0 c.loop-k.all.items c.push.new.self.items c.loop-k.invariant c.in_ok-push.ensures.items one
