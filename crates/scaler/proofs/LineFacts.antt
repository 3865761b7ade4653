-- The lines of a plan: one more fragment of an edge, one more edge, and the loops of their counters.
use Rattle.std.proofs.Common.{◌≡◌, ℕ, zero, suc, ◌+◌, ◌-◌, ◌<◌, ◌≤◌, List, [], ◌∷◌, ◌++◌, map, take, length, slice_get, get_or, Option, Some, None, Result, Ok, Err, refl, sym, ap, ◌∙◌, subst, arith, append_assoc}
use Rattle.std.specs.Prelude.{slice_index, nat_le, Bool, true, false, if◌then◌else◌}
use Rattle.std.proofs.lemmas.List.{append-nil, map-append, length-map}
use Rattle.std.proofs.lemmas.Bool.Decides.{nat_tests}
use Rattle.std.proofs.lemmas.Option.{slice_get_within, get_or_from_slice_get}
use Rattle.scale_base.specs.declared.fragments.Fragment.{Fragment}
use Rattle.scale_base.specs.declared.fragments.Mark.{Mark}
use Rattle.scale_base.specs.declared.fragments.Mark.TheVariants as marks
use Rattle.scale_base.specs.declared.plan.SiteLine.{SiteLine}
use Rattle.scale_base.specs.declared.refusal.Refusal.{Refusal}
use Rattle.scale_base.specs.declared.refusal.Refusal.TheVariants.{LoopText, LoopKey}
use Rattle.scale_base.specs.Image.{Image}
use Rattle.power_model.specs.Numbers.{PowerModel}
use Rattle.toml.specs.Data.{Members}
use Rattle.table_keys.specs.Keys.{document_of, or_refuse, none_or_refuse, least_unknown, ◌>>=◌}
use Rattle.loop_file.specs.declared.notes.LoopNote.{LoopNote}
use Rattle.loop_file.specs.Loops.{read_loops, notes_of, note_of, notes_from, few_loops, loop_version, file_keys, loop_tables}
use Rattle.scale_base.specs.declared.edges.Edge.{Edge}
use Rattle.scale_base.specs.declared.edges.EdgeKind.TheVariants.{End}
use Rattle.cost_theory.specs.Graph.{Loops}
use Rattle.cost_theory.specs.Worst.{Numbers}
use Rattle.cycle_laws.specs.Charged.{Charged}
use Rattle.flow_graph.specs.FlowGraph.{FlowGraph, graph}
use Rattle.loop_forest.specs.Noted.{node_address}
use Rattle.loop_forest.specs.Tree.{LoopView, loops, IsTreeOf}
use Rattle.level_tables.specs.declared.edge_numbers.EdgeNumbers.{EdgeNumbers}
use Rattle.scale_sites.specs.Counters.{counted_loops}
use Rattle.scale_sites.specs.Marks.{first_counter}
use Rattle.scale_sites.specs.Sites.{marks_at_edge}
use Rattle.rewritten_runs.specs.Stubs.{fragment_by, loop_of}
use Rattle.rewritten_runs.proofs.Laws.{IsCounter, IsMarkOf}
use Rattle.marked_images.specs.declared.stubs.Marking.{Marking}
use Rattle.marked_images.specs.Markings.{IsMarking}
use Rattle.marked_images.specs.Wanted.{Wanted}
use Rattle.marked_images.proofs.Laws.{counted_loop, get_some, map_take_more, mark_is, step_is}
use Rattle.scaler.specs.Lines.{IsLoopCounter, IsOfLoop}
use Rattle.scaler.specs.Planned.{loop_number, line_of, lines_from}

-- ---- one fragment more, and one edge more

pub some_same : {A : Type 0} {x y : A} → Some x ≡ Some y → x ≡ y
some_same e = cc

pub line_more : (counted : List ℕ) (edge : Edge) (f : Mark → Fragment) (xs : List Mark) (i : ℕ) (d : Mark) (fragment : Fragment) (loop_no : ℕ) (old lines new : List SiteLine) → i < length xs
    → lines ≡ old ++ map (line_of counted edge) (map f (take i xs)) → fragment ≡ f (get_or xs i d) → loop_no ≡ loop_number counted fragment
    → new ≡ lines ++ record { edge = edge; loop_no = loop_no; fragment = fragment } ∷ [] → new ≡ old ++ map (line_of counted edge) (map f (take (i + 1) xs))
line_more counted edge f xs i d fragment loop_no old lines new lt before is number pushed =
    let g = line_of counted edge in
    let line : SiteLine = record { edge = edge; loop_no = loop_no; fragment = fragment } in
    let same : line ≡ g (f (get_or xs i d)) = (let own : line ≡ g fragment = ap (λ n. record { edge = edge; loop_no = n; fragment = fragment }) number in own ∙ ap g is) in
    let more : map g (map f (take (i + 1) xs)) ≡ map g (map f (take i xs)) ++ g (f (get_or xs i d)) ∷ [] =
    ap (λ n. map g (map f (take n xs))) (step_is i) ∙ (ap (map g) (map_take_more f xs i d lt) ∙ map-append g (map f (take i xs)) (f (get_or xs i d) ∷ [])) in
    pushed ∙ (ap (λ ls. ls ++ line ∷ []) before ∙ (append_assoc old (map g (map f (take i xs))) (line ∷ [])
    ∙ (ap (λ l. old ++ (map g (map f (take i xs)) ++ l ∷ [])) same ∙ ap (λ ls. old ++ ls) (sym more))))

edge_more : (counted : List ℕ) (fragments : ℕ → List Fragment) (k : ℕ) (edges : List Edge) (e : ℕ) (edge : Edge) → slice_get edges e ≡ Some edge
    → lines_from counted fragments k (take (suc e) edges) ≡ lines_from counted fragments k (take e edges) ++ map (line_of counted edge) (fragments (k + e))
edge_more counted fragments k [] e edge at = let never : ⊥ = cc in absurd never
edge_more counted fragments k (x ∷ edges) zero edge at =
    let same : x ≡ edge = cc in
    let here : k ≡ k + 0 = omega arith in
    append-nil (map (line_of counted x) (fragments k)) ∙ (ap (λ y. map (line_of counted y) (fragments k)) same ∙ ap (λ n. map (line_of counted edge) (fragments n)) here)
edge_more counted fragments k (x ∷ edges) (suc e) edge at =
    let here : k + 1 + e ≡ k + suc e = omega arith in
    let first = map (line_of counted x) (fragments k) in
    ap (λ ls. first ++ ls) (edge_more counted fragments (k + 1) edges e edge at)
    ∙ (sym (append_assoc first (lines_from counted fragments (k + 1) (take e edges)) (map (line_of counted edge) (fragments (k + 1 + e))))
    ∙ ap (λ n. (first ++ lines_from counted fragments (k + 1) (take e edges)) ++ map (line_of counted edge) (fragments n)) here)

no_edge : Edge
no_edge = record { at = 0; kind = End; to = 0 }

pub lines_more : (counted : List ℕ) (fragments : ℕ → List Fragment) (edges : List Edge) (e : ℕ) (lines new : List SiteLine) → e < length edges → lines ≡ lines_from counted fragments 0 (take e edges)
    → ((edge : Edge) → slice_get edges e ≡ Some edge → new ≡ lines ++ map (line_of counted edge) (fragments e)) → new ≡ lines_from counted fragments 0 (take (e + 1) edges)
lines_more counted fragments edges e lines new lt before pushed = go (slice_get edges e) refl
  where
    go : (o : Option Edge) → slice_get edges e ≡ o → new ≡ lines_from counted fragments 0 (take (e + 1) edges)
    go None at = let some = get_some edges e no_edge lt in let never : ⊥ = cc in absurd never
    go (Some edge) at =
        let here : 0 + e ≡ e = omega arith in
        pushed edge at ∙ (ap (λ ls. ls ++ map (line_of counted edge) (fragments e)) before
        ∙ (ap (λ n. lines_from counted fragments 0 (take e edges) ++ map (line_of counted edge) (fragments n)) (sym here)
        ∙ (sym (edge_more counted fragments 0 edges e edge at) ∙ ap (λ n. lines_from counted fragments 0 (take n edges)) (sym (step_is e)))))

-- ---- the loops of counters

counter_holds : (counted : List ℕ) (c : ℕ) (P : ℕ → Type 0) → IsCounter counted c P → ((place loop : ℕ) → slice_get counted place ≡ Some loop → loop < 4096) → IsLoopCounter counted c
counter_holds counted c P h small =
    let is = h.is in
    let within = slice_get_within counted h.place h.loop h.get in
    let back : c - first_counter ≡ h.place = omega (arith, is) in
    let loop : loop_of counted c ≡ h.loop = ap (slice_index counted) back ∙ get_or_from_slice_get counted h.place h.loop 0 h.get in
    (omega (arith, is), subst (λ n. n < length counted) (sym back) within, subst (λ n. n < 4096) (sym loop) (small h.place h.loop h.get))

mark_holds : (power : PowerModel) (test : EdgeNumbers → ℕ → ℕ → Bool) (l other : Loops) (counted : List ℕ) (n : Numbers) (told : EdgeNumbers) (branch : Bool) (u : ℕ) (p : Option ℕ) (mark : Mark) → IsMarkOf l counted branch u p mark
    → ((place loop : ℕ) → slice_get counted place ≡ Some loop → loop < 4096) → IsOfLoop counted (fragment_by power test other counted n told mark)
mark_holds power test l other counted n told branch u p marks.Switch h small = tt
mark_holds power test l other counted n told branch u p (marks.Exit c) h small = counter_holds counted c _ h small
mark_holds power test l other counted n told branch u p (marks.Reset c) h small = counter_holds counted c _ h small
mark_holds power test l other counted n told branch u p (marks.Count c) h small = counter_holds counted c _ h small
mark_holds power test l other counted n told branch u p marks.Lowest h small = tt
mark_holds power test l other counted n told branch u p (marks.Tally c) h small = counter_holds counted c _ h small

-- the fragments of a marking are of loops that have numbers
pub of_loop : (power : PowerModel) (image : Image) (v : FlowGraph) (t : LoopView) (wanted : Wanted) (stored : Numbers) (least : Charged) (m : Marking) → IsMarking power image v t wanted stored least m → length t.headers ≤ 4096
    → (test : EdgeNumbers → ℕ → ℕ → Bool) (e i : ℕ) (mark : Mark) (told : EdgeNumbers) → e < length v.code.edges → slice_get (marks_at_edge m.sites e) i ≡ Some mark → IsOfLoop m.counters (fragment_by power test (loops v t) (counted_loops t) stored told mark)
of_loop power image v t wanted stored least m is few test e i mark told lt at =
    subst (λ cs. IsOfLoop cs (fragment_by power test (loops v t) (counted_loops t) stored told mark)) (sym is.counters)
    (mark_holds power test (loops v t) (loops v t) (counted_loops t) stored told (wanted.switch e) ((graph v).source e) ((graph v).target e) mark (mark_is power image v t wanted stored least m is e i mark lt at)
    (λ place loop get. let k = counted_loop v t is.tree.0 place loop is.tree.1 get in omega (arith, k, few)))

-- ---- a loop file has at most 4,096 loops

bind_ok : {A B : Type 0} (r : Result A Refusal) (next : A → Result B Refusal) (y : B) → (r >>= next) ≡ Ok y → (x : A) × (r ≡ Ok x) × (next x ≡ Ok y)
bind_ok (Ok x) next y e = (x, refl, e)
bind_ok (Err refusal) next y e = let never : ⊥ = cc in absurd never

few_by : (b : Bool) (n : ℕ) (refusal : Refusal) (x : Unit {0}) → nat_le n 4096 ≡ b → (if b then Ok tt else Err refusal) ≡ Ok x → n ≤ 4096
few_by true n refusal x at e = grind (arith, nat_tests)
few_by false n refusal x at e = let never : ⊥ = cc in absurd never

few_tables : (tables : List Members) (x : Unit {0}) → few_loops tables ≡ Ok x → length tables ≤ 4096
few_tables tables x e = few_by (nat_le (length tables) 4096) (length tables) _ x refl e

notes_len : (image : Image) (version k : ℕ) (tables : List Members) (notes : List LoopNote) → notes_from image version k tables ≡ Ok notes → length notes ≡ length tables
notes_len image version k [] notes e = let none : notes ≡ [] = cc in ap length none
notes_len image version k (table ∷ tables) notes e =
    let one = bind_ok (note_of image version k table) _ notes e in
    let two = bind_ok (notes_from image version (k + 1) tables) _ notes one.2 in
    let others = notes_len image version (k + 1) tables two.0 two.1 in
    let whole : notes ≡ one.0 ∷ two.0 = (let q = two.2 in cc) in
    ap length whole ∙ ap suc others

few_noted : (image : Image) (bytes : List ℕ) (notes : List LoopNote) → read_loops image bytes ≡ Ok notes → length notes ≤ 4096
unfolding read_loops notes_of
few_noted image bytes notes e =
    let one = bind_ok (or_refuse LoopText (document_of bytes)) _ notes e in
    let two = bind_ok (loop_version one.0) _ notes one.2 in
    let three = bind_ok (none_or_refuse (LoopKey 0) (least_unknown file_keys one.0)) _ notes two.2 in
    let four = bind_ok (loop_tables one.0) _ notes three.2 in
    let five = bind_ok (few_loops four.0) _ notes four.2 in
    let few = few_tables four.0 five.0 five.1 in
    let same = notes_len image two.0 1 four.0 notes five.2 in
    omega (arith, few, same)

pub few_headers : (image : Image) (bytes : List ℕ) (notes : List LoopNote) (v : FlowGraph) (t : LoopView) → read_loops image bytes ≡ Ok notes → IsTreeOf v notes t → length t.headers ≤ 4096
few_headers image bytes notes v t e tree =
    let few = few_noted image bytes notes e in
    let same = ap length tree.headers in
    let a = length-map t.headers (node_address v) in
    let b = length-map notes (λ note. note.header) in
    omega (arith, few, same, a, b)
