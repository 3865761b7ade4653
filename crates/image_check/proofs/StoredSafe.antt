-- What a rewritten program stores is a safe image.
use Rattle.std.proofs.Common.{◌≡◌, ◌≢◌, ℕ, suc, ◌+◌, ◌*◌, ◌%◌, ◌^◌, ◌<◌, ◌≤◌, Bool, true, false, cond, List, [], ◌∷◌, map, length, refl, arith, sym, ap, ◌∙◌, subst, slice_get, Some, None, Ok}
use Rattle.std.specs.Prelude.{All, nat_le, nat_lt, filter, ◌==◌}
use Rattle.std.specs.List.{list_any}
use Rattle.std.proofs.lemmas.List.Elements.{All-nil, All-cons}
use Rattle.std.proofs.lemmas.Bool.{and_parts, and_from, eqb-true, leb-true, ltb-true, le-leb, lt-ltb}
use Rattle.scale_base.specs.Image.{Image, LoadSegment, image_of, contents, is_in, is_word_address}
use Rattle.scale_base.specs.Layout.{layout_of, is_plain_segment, is_keyed}
use Rattle.scale_base.specs.Run.{setting_of, starting_level}
use Rattle.scale_base.proofs.Laws.{contents-are}
use Rattle.power_model.specs.Numbers.{PowerModel, IsPowerModel}
use Rattle.power_model.specs.Slowest.{slowest_of}
use Rattle.power_model.specs.Switches.{period, costs_of}
use Rattle.cost_theory.specs.Graph.{Graph, Loops}
use Rattle.cost_theory.specs.Laws.{IsAnalyzed}
use Rattle.cost_theory.specs.Reached.{Code, edge_at}
use Rattle.cost_theory.specs.Worst.{Numbers}
use Rattle.cycle_laws.specs.Charged.{Charged, AreCharged}
use Rattle.code_text.specs.Text.{Text, text_of}
use Rattle.code_text.specs.TextGraph.{text_graph}
use Rattle.graph_runs.proofs.Laws.{text_of_layout, word_bound}
use Rattle.flow_graph.specs.FlowGraph.{FlowGraph}
use Rattle.loop_file.specs.declared.notes.LoopNote.{LoopNote}
use Rattle.loop_file.specs.Kept.{noted_loops}
use Rattle.loop_forest.specs.Tree.{LoopView, loops}
use Rattle.elf_patch.specs.Stored.{stored_image}
use Rattle.stored_laws.specs.StoredView.{over_file, insert_segment, block_segment, stored_view}
use Rattle.stub_writer.specs.Stubs.{Site, Place, out_of_reach, patches_from, block_words, block_bytes}
use Rattle.stored_runs.proofs.Laws.{block_length, frame, stubbed_patched}
use Rattle.stored_runs.specs.Marks.{place_at}
use Rattle.stored_runs.specs.Stubbed.{IsOfImage}
use Rattle.stored_runs.specs.Patched.{IsPatched}
use Rattle.paid_runs.specs.Marked.{extra_site_weights}
use Rattle.paid_runs.specs.Timely.{weights_of}
use Rattle.foreign_scan.specs.Scanned.{Found, segment_place, segment_places}
use Rattle.rewritten_runs.specs.Stubs.{IsWeighed, HasStubs, rewritten_file, by_slack, marks_by_slack, fragment_of, fragments_at, told_at}
use Rattle.rewritten_runs.proofs.Laws.{IsPlainMark, IsSupplied, program_is, rule_marks, supplied}
use Rattle.image_check.specs.RewrittenSafe.{IsSafeAt, RewrittenImagesAreSafe}
use Rattle.image_check.specs.Safe.{Owner, sites_of, IsSafeImage}
use Rattle.image_check.proofs.StoredTables.{IsPlain}
use Rattle.image_check.proofs.StoredPlaces.{all_on}
use Rattle.image_check.proofs.StoredStubs.{HasWholeWords}
use Rattle.image_check.proofs.StoredScan.{IsMarkedAt}
use Rattle.image_check.proofs.StoredOwners as owned
use Rattle.image_check.proofs.StoredRows as rowed
use Rattle.scale_base.specs.declared.fragments.Fragment.{Fragment}
use Rattle.scale_base.specs.declared.fragments.Mark.{Mark}
use Rattle.scale_base.specs.declared.fragments.Mark.TheVariants as marks
use Rattle.level_tables.specs.declared.edge_numbers.EdgeNumbers.{EdgeNumbers}
use Rattle.scale_sites.specs.Counters.{counted_loops}
use Rattle.image_check.proofs.StoredLevels as leveled

-- ---- the file and the segments

contents_file : (file : List ℕ) → (contents file).file ≡ file
unfolding contents
contents_file file = refl

file_is : (file : List ℕ) (image : Image) → image_of file ≡ Ok image → image.file ≡ file
file_is file image e = sym (ap (λ (i : Image). i.file) (contents-are file image e)) ∙ contents_file file

-- a segment that is put in with the key is none of those without
plain_out : (xs : List LoadSegment) (s : LoadSegment) → is_plain_segment s ≡ false → filter is_plain_segment (insert_segment xs s) ≡ filter is_plain_segment xs
plain_out [] s e = rw e refl
plain_out (x ∷ xs) s e = plain_step (nat_le s.from x.from) (plain_out xs s e)
  where
    plain_step : (b : Bool) → filter is_plain_segment (insert_segment xs s) ≡ filter is_plain_segment xs
        → filter is_plain_segment (cond b (s ∷ x ∷ xs) (x ∷ insert_segment xs s)) ≡ cond (is_plain_segment x) (x ∷ filter is_plain_segment xs) (filter is_plain_segment xs)
    plain_step true go = rw e refl
    plain_step false go = rw go refl

-- over another file segments have their places
plain_places : (s : List ℕ) (xs : List LoadSegment) → map segment_place (filter is_plain_segment (map (over_file s) xs)) ≡ map segment_place (filter is_plain_segment xs)
plain_places s [] = refl
plain_places s (x ∷ xs) = places_step (is_plain_segment x) (plain_places s xs)
  where
    places_step : (b : Bool) → map segment_place (filter is_plain_segment (map (over_file s) xs)) ≡ map segment_place (filter is_plain_segment xs)
        → map segment_place (cond b (over_file s x ∷ filter is_plain_segment (map (over_file s) xs)) (filter is_plain_segment (map (over_file s) xs))) ≡ map segment_place (cond b (x ∷ filter is_plain_segment xs) (filter is_plain_segment xs))
    places_step true go = rw go refl
    places_step false go = go

places_of : (image : Image) (s : List ℕ) (base : ℕ) (block : List ℕ) (start : ℕ) → segment_places (stored_view image s base block start) ≡ segment_places image
unfolding stored_view
places_of image s base block start = ap (map segment_place) (plain_out (map (over_file s) image.segments) (block_segment image.file base block) refl) ∙ plain_places s image.segments

has_key : (image : Image) (s : List ℕ) (base : ℕ) (block : List ℕ) (start : ℕ) → (stored_view image s base block start).keyed_segment ≢ None
unfolding stored_view
has_key image s base block start e = let never : ⊥ = cc in never

-- the block's addresses are those of the key
keyed_is : (image : Image) (s : List ℕ) (base : ℕ) (block : List ℕ) (start a : ℕ) → is_keyed (layout_of (stored_view image s base block start)) a ≡ is_in a (record { from = base; to = base + length block })
unfolding layout_of stored_view
keyed_is image s base block start a = refl

whole_words : (image : Image) (s : List ℕ) (base : ℕ) (block : List ℕ) (start n : ℕ) → base % 4 ≡ 0 → length block ≡ 4 * n → HasWholeWords (stored_view image s base block start)
whole_words image s base block start n even size a j word on lt =
    let here = sym (keyed_is image s base block start a) ∙ on in
    let parts = and_parts (nat_le base a) (nat_lt a (base + length block)) here in
    let from = leb-true base a parts.0 in
    let to = ltb-true a (base + length block) parts.1 in
    keyed_is image s base block start (a + j)
    ∙ and_from (nat_le base (a + j)) (nat_lt (a + j) (base + length block)) (le-leb base (a + j) (omega (arith, from))) (lt-ltb (a + j) (base + length block) (omega (arith, even, size, word, from, to, lt)))

-- ---- marked instructions

-- at the address of an instruction of the text an edge starts
record IsEdgeAt (original : Image) (code : Code) (at : ℕ) : Type 0 where
  word : is_word_address original at ≡ true
  edge : ℕ
  low : edge < length code.edges
  starts : edge_at (slice_get code.edges edge) ≡ at

marked_in : (original : Image) (code : Code) (frags : ℕ → List Fragment) (sites : List Site) (at : ℕ) (q : Place) → All (λ site. (is_word_address original site.at ≡ true) × IsOfImage original site.at site.place) sites
    → All (λ site. (e : ℕ) × (e < length code.edges) × (edge_at (slice_get code.edges e) ≡ site.at) × (frags e ≢ [])) sites → place_at sites at ≡ Some q → IsEdgeAt original code at
marked_in original code frags [] at q words some e = let never : ⊥ = cc in absurd never
marked_in original code frags (s ∷ sites) at q words some e =
    step (s.at == at) refl e (λ f. marked_in original code frags sites at q (λ k d lt. words (suc k) d (omega (arith, lt))) (λ k d lt. some (suc k) d (omega (arith, lt))) f)
  where
    step : (b : Bool) → (s.at == at) ≡ b → cond b (Some s.place) (place_at sites at) ≡ Some q → (place_at sites at ≡ Some q → IsEdgeAt original code at) → IsEdgeAt original code at
    step true is f go =
        let same : s.at ≡ at = eqb-true s.at at is in
        let w = words 0 s (omega arith) in
        let x = some 0 s (omega arith) in
        record { word = ap (is_word_address original) (sym same) ∙ w.0; edge = x.0; low = x.1; starts = x.2 ∙ same }
    step false is f go = go f

-- fragments of plain marks are of the forms that a scan finds
plain_of_marks : (power : PowerModel) (l : Loops) (counted : List ℕ) (n : Numbers) (told : EdgeNumbers) (ms : List Mark) → All IsPlainMark ms → All IsPlain (map (fragment_of power l counted n told) ms)
plain_of_marks power l counted n told [] plain = All-nil IsPlain
plain_of_marks power l counted n told (m ∷ ms) plain =
    All-cons IsPlain (fragment_of power l counted n told m) (map (fragment_of power l counted n told) ms) (by m (plain 0 m (omega arith)))
    (plain_of_marks power l counted n told ms (λ k d lt. plain (suc k) d (omega (arith, lt))))
  where
    by : (m : Mark) → IsPlainMark m → IsPlain (fragment_of power l counted n told m)
    by marks.Switch p = tt
    by (marks.Exit c) p = tt
    by (marks.Reset c) p = tt
    by (marks.Count c) p = tt
    by marks.Lowest p = absurd p
    by (marks.Tally c) p = absurd p

-- one file is of one image
one_image : (file : List ℕ) (one other : Image) → image_of file ≡ Ok one → image_of file ≡ Ok other → one ≡ other
one_image file one other x y = cc

module _ (power : PowerModel) (ok : IsPowerModel power) (file : List ℕ) (original : Image) (notes : List LoopNote) (v : FlowGraph) (tree : LoopView) (plain stored extra : Numbers) (least : Charged) (sites : List Site) (base start : ℕ)
    (read : image_of file ≡ Ok original) (no_key : original.keyed_segment ≡ None) (short_file : length file ≤ 4194304) (weighed : IsWeighed power original notes v tree plain stored) (slow : slowest_of power (stored.worst 0) ≡ Some start)
    (stubs : HasStubs power original v tree plain stored extra least sites base) (near : out_of_reach base sites ≡ None) where
  abbrev t : Text
  t = text_of original

  abbrev code : Code
  code = v.code

  abbrev l : Loops
  l = loops v tree

  abbrev g : Graph
  g = text_graph t code

  abbrev extent : ℕ → ℕ → Bool
  extent = (noted_loops notes).inside

  abbrev rewritten : Image
  rewritten = stored_view original (stored_image file (patches_from base sites) base (block_bytes base sites) start) base (block_bytes base sites) start

  sup : IsSupplied power file original notes v tree plain stored extra least sites base start rewritten
  sup = supplied power ok file original notes v tree plain stored extra least sites base start read no_key short_file weighed slow stubs near

  patched : IsPatched original rewritten (length power.levels) sup.limits sites start
  patched = stubbed_patched file original (length power.levels) sup.limits sites base start rewritten sup.stubbed

  abbrev marked : ℕ → List Mark
  marked = marks_by_slack power original v tree plain

  abbrev frags : ℕ → List Fragment
  frags = fragments_at power original v tree marked stored least

  plain_fragments : (e : ℕ) → e < length code.edges → All IsPlain (frags e)
  plain_fragments e lt =
      plain_of_marks power l (counted_loops tree) stored (told_at power original v tree marked stored least e) (marked e) (rule_marks v tree (by_slack power original v tree plain) e)

  marked_at : (at : ℕ) (q : Place) → place_at sites at ≡ Some q → IsMarkedAt original code at q
  marked_at at q e =
      let m = marked_in original code frags sites at q stubs.sites_are.words stubs.sites_are.some e in
      let reached = (program_is power original notes v tree plain stored weighed).reached in
      record {
        word = m.word;
        edge = m.edge;
        low = m.low;
        starts = m.starts;
        plain = all_on original code reached frags sites stubs.sites_are IsPlain plain_fragments at m.edge m.low m.starts q e (patched.stubs [] at q m.word e).of_image;
      }

  low : (at : ℕ) → is_word_address original at ≡ true → at < 2 ^ 32
  low at word = let b = word_bound t (setting_of original 0 []) (text_of_layout file original 0 [] read) at (and_parts (at % 4 == 0) (list_any (is_in at) original.text) word).1 in omega (arith, b)

  whole : HasWholeWords rewritten
  whole =
      let page = stubs.base_is.place.page in
      whole_words original (stored_image file (patches_from base sites) base (block_bytes base sites) start) base (block_bytes base sites) start (length (block_words base sites)) (omega (arith, page)) (block_length base sites)

  off : (a : ℕ) → list_any (is_in a) original.text ≡ true → is_keyed (layout_of rewritten) a ≡ false
  off a on = ((frame file original rewritten sites base start (length power.levels) [] read sup.stubbed.storable sup.stubbed.stored_is stubs.sites_are.ascending).alike a on).right

  keyed : rewritten.keyed_segment ≢ None
  keyed = has_key original (stored_image file (patches_from base sites) base (block_bytes base sites) start) base (block_bytes base sites) start

  places : segment_places rewritten ≡ segment_places original
  places = places_of original (stored_image file (patches_from base sites) base (block_bytes base sites) start) base (block_bytes base sites) start

  abbrev found : Found
  found = owned.found power original rewritten notes v tree plain stored weighed least sites stubs.sites_are sup.limits start patched marked_at low whole off

  abbrev owner : Owner
  owner = owned.owner power original rewritten notes v tree plain stored weighed least sites stubs.sites_are sup.limits start patched marked_at low whole off

  abbrev its_sites : List Site
  its_sites = sites_of original rewritten code l owner found

  weights_same : weights_of power t code its_sites ≡ weights_of power t code sites
  weights_same = rowed.weights_same power original rewritten notes v tree plain stored weighed least sites stubs.sites_are sup.limits start patched marked_at low whole off keyed places

  extra_same : extra_site_weights t code (costs_of power) its_sites ≡ extra_site_weights t code (costs_of power) sites
  extra_same = rowed.extra_same power original rewritten notes v tree plain stored weighed least sites stubs.sites_are sup.limits start patched marked_at low whole off keyed places (costs_of power)

  starts : starting_level (length power.levels) rewritten.keyed_segment ≡ start
  starts = patched.start_is

  safe : stored.worst 0 ≤ 281474976710656 → IsSafeImage power original rewritten code l extent found owner stored least extra
  safe short = record {
    scanned = rowed.scanned power original rewritten notes v tree plain stored weighed least sites stubs.sites_are sup.limits start patched marked_at low whole off keyed places;
    owners = owned.owners power original rewritten notes v tree plain stored weighed least sites stubs.sites_are sup.limits start patched marked_at low whole off;
    analyzed = subst (λ (w : ℕ → ℕ). IsAnalyzed g l extent w stored) (sym weights_same) sup.analyzed;
    least_is = subst (λ (w : ℕ → ℕ). AreCharged g l w least) (sym weights_same) sup.least_are;
    added = subst (λ (w : ℕ → ℕ). IsAnalyzed g l extent w extra) (sym extra_same) sup.extra_analyzed;
    not_long = short;
    start = (let lt = patched.start_is_level in omega (arith, lt, starts));
    in_time = subst (λ s. stored.worst 0 * period power s ≤ power.deadline) (sym starts) sup.in_time;
    levels = leveled.levels power original rewritten notes v tree plain stored weighed least sites stubs.sites_are sup.limits start patched marked_at low whole off keyed places ok.few sup.weights_are;
  }

  -- the image of the stored file is that image
  same_image : (foreign : Image) → image_of (rewritten_file original sites base start) ≡ Ok foreign → rewritten ≡ foreign
  same_image foreign e =
      let there = ap (λ f. image_of (stored_image f (patches_from base sites) base (block_bytes base sites) start)) (file_is file original read) ∙ sup.stubbed.stored_is in
      one_image (rewritten_file original sites base start) rewritten foreign there e

  pub safe_at : (foreign : Image) → stored.worst 0 ≤ 281474976710656 → image_of (rewritten_file original sites base start) ≡ Ok foreign → IsSafeAt power original foreign code l extent stored least extra start
  safe_at foreign short e =
      subst (λ i. IsSafeAt power original i code l extent stored least extra start) (same_image foreign e) (record { found = found; owner = owner; safe = safe short; starts = starts })

pub rewritten_safe : RewrittenImagesAreSafe
rewritten_safe = λ power ok file original foreign notes v tree plain stored extra least sites base start read no_key short_file weighed short slow stubs near is.
    safe_at power ok file original notes v tree plain stored extra least sites base start read no_key short_file weighed slow stubs near foreign short is
