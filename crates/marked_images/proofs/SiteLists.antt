-- The marked instructions of a program, one after another.
use Rattle.std.proofs.Common.{◌≡◌, ◌≢◌, ℕ, ℤ, suc, ◌+◌, ◌<◌, ◌≤◌, ◌==◌, true, cond, List, [], ◌∷◌, ◌++◌, map, length, slice_get, Option, Some, None, refl, sym, ap, ◌∙◌, subst, arith, ⊎_elim}
use Rattle.std.specs.Prelude.{All, IfSome, Ok, ◌&&◌, ◌%◌}
use Rattle.std.proofs.lemmas.Bool.{eq-eqb, ne_eqb, cases_lt}
use Rattle.std.proofs.lemmas.List.Elements.{All-nil, All-cons, All-append, All-map}
use Rattle.std.proofs.lemmas.Option.{slice_get_within}
use Rattle.scale_base.specs.declared.fragments.Fragment.{Fragment}
use Rattle.scale_base.specs.declared.instruction.Instr.{Instr}
use Rattle.scale_base.specs.declared.instruction.Instr.TheVariants as instr
use Rattle.scale_base.specs.declared.stepping.Class.{Class}
use Rattle.scale_base.specs.declared.stepping.Class.TheVariants as classes
use Rattle.scale_base.specs.Image.{Image, image_of, is_word_address, is_in, text_word}
use Rattle.scale_base.specs.Reading.{instr_of}
use Rattle.flow_graph.proofs.Laws.{instr_stored}
use Rattle.std.specs.List.{list_any}
use Rattle.scale_base.specs.Arith.{moved_by}
use Rattle.scale_base.specs.Word.{FieldsInRange, Encodes}
use Rattle.scale_base.specs.declared.edges.Edge.{Edge}
use Rattle.scale_base.specs.declared.edges.EdgeKind.{EdgeKind}
use Rattle.scale_base.specs.declared.edges.EdgeKind.TheVariants.{Taken, Untaken, Jump, Next, CallNext, End}
use Rattle.cost_theory.specs.declared.flow.Flow.TheVariants as flow
use Rattle.cost_theory.specs.Reached.{edge_at, edges_of, call_returns}
use Rattle.cost_theory.proofs.Laws.{some_get, Within}
use Rattle.code_text.specs.EdgeCosts.{edge_class, class_by}
use Rattle.code_text.specs.Text.{text_of, instr_at, instr_kind, kind_at, is_text_address}
use Rattle.flow_graph.specs.FlowGraph.{FlowGraph, IsGraphOf}
use Rattle.scale_sites.specs.Sites.{is_branch_kind, edge_branches}
use Rattle.stored_runs.specs.Marks as stored
use Rattle.stored_runs.specs.Stubbed.{IsOfImage, AreAscending}
use Rattle.stub_writer.specs.declared.site.StubEdge.{StubEdge}
use Rattle.stub_writer.specs.declared.site.StubSite.{StubSite}
use Rattle.stub_writer.specs.Fragments.{IsFragment}
use Rattle.stub_writer.specs.Stubs.{Site}
use Rattle.stub_writer.specs.Sites.{kind_number, fragments_by, IsSite, IsSitesInstr, place_of, site_of}
use Rattle.rewritten_runs.specs.Stubs.{AreSitesOf}
use Rattle.rewritten_runs.proofs.Laws.{edge_is, branch_kind}
use Rattle.marked_images.specs.Markings.{IsMarkedEdge, AreMarkedEdges, AreEdgesOfNode}
use Rattle.marked_images.proofs.Markable.{IsMarkable}

-- ---- lists of sites, one more at the end

pub map_end : {A B : Type 0} (f : A → B) (xs : List A) (x : A) → map f (xs ++ x ∷ []) ≡ map f xs ++ f x ∷ []
map_end f [] x = refl
map_end f (y ∷ xs) x = ap (λ ys. f y ∷ ys) (map_end f xs x)

place_none : (sites : List Site) (a : ℕ) → All (λ (z : Site). z.at ≢ a) sites → stored.place_at sites a ≡ None
place_none [] a off = refl
place_none (z ∷ sites) a off = ap (λ b. cond b (Some z.place) (stored.place_at sites a)) (ne_eqb z.at a (off 0 z (omega arith))) ∙ place_none sites a (λ k d lt. off (suc k) d (omega arith))

place_new : (sites : List Site) (s : Site) → All (λ (z : Site). z.at ≢ s.at) sites → stored.place_at (sites ++ s ∷ []) s.at ≡ Some s.place
place_new [] s off = ap (λ b. cond b (Some s.place) None) (eq-eqb s.at s.at refl)
place_new (z ∷ sites) s off = ap (λ b. cond b (Some z.place) (stored.place_at (sites ++ s ∷ []) s.at)) (ne_eqb z.at s.at (off 0 z (omega arith))) ∙ place_new sites s (λ k d lt. off (suc k) d (omega arith))

place_old : (sites : List Site) (s : Site) (a : ℕ) → s.at ≢ a → stored.place_at (sites ++ s ∷ []) a ≡ stored.place_at sites a
place_old [] s a off = ap (λ b. cond b (Some s.place) None) (ne_eqb s.at a off)
place_old (z ∷ sites) s a off = ap (cond (z.at == a) (Some z.place)) (place_old sites s a off)

ascending_end : (sites : List Site) (s : Site) → AreAscending sites → All (λ (z : Site). z.at < s.at) sites → AreAscending (sites ++ s ∷ [])
ascending_end [] s up below = (All-nil (λ (later : Site). s.at < later.at), tt)
ascending_end (z ∷ sites) s up below = (
  All-append (λ (later : Site). z.at < later.at) sites (s ∷ []) up.0 (All-cons (λ (later : Site). z.at < later.at) s [] (below 0 s (omega arith)) (All-nil (λ (later : Site). z.at < later.at))),
  ascending_end sites s up.1 (λ k d lt. below (suc k) d (omega arith)),
)

-- ---- the marked instructions of the first nodes

pub record IsStubAt (image : Image) (v : FlowGraph) (frags : ℕ → List Fragment) (n : ℕ) (s : StubSite) : Type 0 where
  pub site : IsSite s
  pub node : ℕ
  pub below : node < n
  pub get : slice_get v.code.nodes node ≡ Some s.at
  pub word : is_word_address image s.at ≡ true
  pub place : IsOfImage image s.at (place_of s.at s.instr s.edges)
  pub edge : (e : ℕ) × (e < length v.code.edges) × (edge_at (slice_get v.code.edges e) ≡ s.at) × (frags e ≢ [])

pub record AreStubsBelow (image : Image) (v : FlowGraph) (frags : ℕ → List Fragment) (n : ℕ) (stubs : List StubSite) : Type 0 where
  pub each : All (IsStubAt image v frags n) stubs
  pub ascending : AreAscending (map site_of stubs)
  pub ways : (e j : ℕ) (x : Edge) (class : Class) → j < n → slice_get v.code.nodes j ≡ Some x.at → slice_get v.code.edges e ≡ Some x → edge_class (text_of image) (Some x) ≡ Some class
      → stored.fragments_of_class (stored.place_at (map site_of stubs) x.at) class ≡ frags e

pub record IsDecoded (image : Image) (at : ℕ) (i : Instr) : Type 0 where
  pub word : is_word_address image at ≡ true
  pub read : instr_at (text_of image) at ≡ Some i
  pub fields : FieldsInRange i

module _ (image : Image) (v : FlowGraph) (is : IsGraphOf (text_of image) v) (frags : ℕ → List Fragment)
    (good : (e : ℕ) → e < length v.code.edges → (length (frags e) ≤ 17) × All IsFragment (frags e))
    (marked : (e : ℕ) (x : Edge) (i : Instr) → slice_get v.code.edges e ≡ Some x → frags e ≢ [] → instr_at (text_of image) x.at ≡ Some i → IsMarkable i) where
  wider : (n : ℕ) (stubs : List StubSite) → All (IsStubAt image v frags n) stubs → All (IsStubAt image v frags (n + 1)) stubs
  wider n stubs all k d lt = let m = all k d lt in record { site = m.site; node = m.node; below = (let b = m.below in omega (arith, b)); get = m.get; word = m.word; place = m.place; edge = m.edge }

  rising : (i j a b : ℕ) → i < j → slice_get v.code.nodes i ≡ Some a → slice_get v.code.nodes j ≡ Some b → a < b
  rising i j a b lt g h = is.flow.ascending i j a b lt g h

  before : (n at : ℕ) (stubs : List StubSite) → All (IsStubAt image v frags n) stubs → slice_get v.code.nodes n ≡ Some at → All (λ (z : Site). z.at < at) (map site_of stubs)
  before n at stubs all node = All-map (λ (z : Site). z.at < at) site_of stubs (λ k d lt. let m = all k d lt in rising m.node n _ at m.below m.get node)

  off_before : (n at : ℕ) (stubs : List StubSite) → All (IsStubAt image v frags n) stubs → slice_get v.code.nodes n ≡ Some at → All (λ (z : Site). z.at ≢ at) (map site_of stubs)
  off_before n at stubs all node k d lt same = let less = before n at stubs all node k d lt in let bad : ⊥ = omega (arith, less, same) in bad

  same_node : (n j at : ℕ) → slice_get v.code.nodes n ≡ Some at → slice_get v.code.nodes j ≡ Some at → (j < n → ⊥) × (n < j → ⊥)
  same_node n j at g h = (λ lt. let less = rising j n at at lt h g in let bad : ⊥ = omega (arith, less) in bad, λ lt. let less = rising n j at at lt g h in let bad : ⊥ = omega (arith, less) in bad)

  pub stubs_none : AreStubsBelow image v frags 0 []
  stubs_none = record { each = All-nil (IsStubAt image v frags 0); ascending = tt; ways = λ e j x class lt node get c. let bad : ⊥ = omega (arith, lt) in absurd bad }

  pub stubs_skip : (n at : ℕ) (stubs : List StubSite) → AreStubsBelow image v frags n stubs → slice_get v.code.nodes n ≡ Some at → AreMarkedEdges v frags at (length v.code.edges) [] → AreStubsBelow image v frags (n + 1) stubs
  stubs_skip n at stubs so node bare = record {
    each = wider n stubs so.each;
    ascending = so.ascending;
    ways = λ e j x class lt nj get c. ⊎_elim (λ less. so.ways e j x class less nj get c)
        (λ more. let same : j ≡ n = omega (arith, lt, more) in
        let here : x.at ≡ at = (let a = ap (slice_get v.code.nodes) (sym same) ∙ nj in cc) in
        ap (λ a. stored.fragments_of_class (stored.place_at (map site_of stubs) a) class) here
        ∙ (ap (λ o. stored.fragments_of_class o class) (place_none (map site_of stubs) at (off_before n at stubs so.each node))
        ∙ bare.whole e x (slice_get_within v.code.edges e x get) get here))
        (cases_lt j n);
  }

  -- ---- one instruction

  instr_is : (i : Instr) → IsMarkable i → FieldsInRange i → IsSitesInstr i
  instr_is (instr.Lui rd imm) m f = absurd m
  instr_is (instr.Auipc rd imm) m f = absurd m
  instr_is (instr.Jal rd offset) m f = (m, f)
  instr_is (instr.Jalr rd rs1 offset) m f = absurd m
  instr_is (instr.Branch op rs1 rs2 offset) m f = f
  instr_is (instr.Load op rd rs1 offset) m f = absurd m
  instr_is (instr.Store op rs1 rs2 offset) m f = absurd m
  instr_is (instr.Imm op rd rs1 imm) m f = absurd m
  instr_is (instr.Reg op rd rs1 rs2) m f = absurd m
  instr_is (instr.Fence rd rs1 imm) m f = absurd m
  instr_is instr.Ecall m f = absurd m
  instr_is instr.Ebreak m f = absurd m

  place_is : (at : ℕ) (i : Instr) (es : List StubEdge) → IsMarkable i → instr_at (text_of image) at ≡ Some i → IsOfImage image at (place_of at i es)
  place_is at (instr.Lui rd imm) es m r = absurd m
  place_is at (instr.Auipc rd imm) es m r = absurd m
  place_is at (instr.Jal rd offset) es m r = (offset, r ∙ ap (λ q. Some (instr.Jal q offset)) m, refl)
  place_is at (instr.Jalr rd rs1 offset) es m r = absurd m
  place_is at (instr.Branch op rs1 rs2 offset) es m r = (offset, r, refl, refl)
  place_is at (instr.Load op rd rs1 offset) es m r = absurd m
  place_is at (instr.Store op rs1 rs2 offset) es m r = absurd m
  place_is at (instr.Imm op rd rs1 imm) es m r = absurd m
  place_is at (instr.Reg op rd rs1 rs2) es m r = absurd m
  place_is at (instr.Fence rd rs1 imm) es m r = absurd m
  place_is at instr.Ecall es m r = absurd m
  place_is at instr.Ebreak es m r = absurd m

  -- the fragments of a way are those of the edge of its kind
  forked : (es : List StubEdge) (at : ℕ) (op : _) (rs1 rs2 : ℕ) (offset : ℤ) (k : EdgeKind) (class : Class) → is_branch_kind k ≡ true → class_by (Some (instr.Branch op rs1 rs2 offset)) k ≡ Some class
      → stored.fragments_of_class (Some (place_of at (instr.Branch op rs1 rs2 offset) es)) class ≡ fragments_by (kind_number k) es
  forked es at op rs1 rs2 offset Taken class b c = let e : classes.Taken ≡ class = cc in sym (ap (λ q. stored.fragments_of_class (Some (place_of at (instr.Branch op rs1 rs2 offset) es)) q) e)
  forked es at op rs1 rs2 offset Untaken class b c = let e : classes.Untaken ≡ class = cc in sym (ap (λ q. stored.fragments_of_class (Some (place_of at (instr.Branch op rs1 rs2 offset) es)) q) e)
  forked es at op rs1 rs2 offset Jump class b c = let bad : ⊥ = cc in absurd bad
  forked es at op rs1 rs2 offset Next class b c = let bad : ⊥ = cc in absurd bad
  forked es at op rs1 rs2 offset CallNext class b c = let bad : ⊥ = cc in absurd bad
  forked es at op rs1 rs2 offset End class b c = let bad : ⊥ = cc in absurd bad

  jump_is : (e : ℕ) (x : Edge) (offset : ℤ) → slice_get v.code.edges e ≡ Some x → instr_at (text_of image) x.at ≡ Some (instr.Jal 0 offset) → x.kind ≡ Jump
  jump_is e x offset get at =
      let t = text_of image in
      let here = edge_is t v.code is.reached e (slice_get_within v.code.edges e x get) in
      let u = edge_at (slice_get v.code.edges e) in
      let eq : here.edge ≡ x = (let a = here.get in cc) in
      let same : here.instr ≡ instr.Jal 0 offset = (let a = here.at in let b = ap (instr_at t) (ap edge_at get) ∙ at in cc) in
      let w : Within here.edge (edges_of (flow.Jump (moved_by u offset)) u (call_returns v.code (kind_at t u))) = subst (λ i. Within here.edge (edges_of (instr_kind t u i) u (call_returns v.code (kind_at t u)))) same here.within in
      ap (λ (z : Edge). z.kind) (sym eq) ∙ ⊎_elim (λ q. sym (ap (λ (z : Edge). z.kind) q)) (λ n. absurd n) w

  way_is : (e at : ℕ) (x : Edge) (class : Class) (i : Instr) (es : List StubEdge) → IsMarkable i → instr_at (text_of image) at ≡ Some i → slice_get v.code.edges e ≡ Some x → x.at ≡ at → edge_class (text_of image) (Some x) ≡ Some class
      → stored.fragments_of_class (Some (place_of at i es)) class ≡ fragments_by (kind_number x.kind) es
  way_is e at x class (instr.Lui rd imm) es m r get here c = absurd m
  way_is e at x class (instr.Auipc rd imm) es m r get here c = absurd m
  way_is e at x class (instr.Jal rd offset) es m r get here c =
      sym (ap (λ k. fragments_by (kind_number k) es) (jump_is e x offset get (ap (instr_at (text_of image)) here ∙ (r ∙ ap (λ q. Some (instr.Jal q offset)) m))))
  way_is e at x class (instr.Jalr rd rs1 offset) es m r get here c = absurd m
  way_is e at x class (instr.Branch op rs1 rs2 offset) es m r get here c =
      let b = branch_kind (text_of image) v.code is.reached e op rs1 rs2 offset (slice_get_within v.code.edges e x get) (ap (instr_at (text_of image)) (ap edge_at get ∙ here) ∙ r) in
      forked es at op rs1 rs2 offset x.kind class (sym (ap edge_branches get) ∙ b) (sym (ap (λ o. class_by o x.kind) (ap (instr_at (text_of image)) here ∙ r)) ∙ c)
  way_is e at x class (instr.Load op rd rs1 offset) es m r get here c = absurd m
  way_is e at x class (instr.Store op rs1 rs2 offset) es m r get here c = absurd m
  way_is e at x class (instr.Imm op rd rs1 imm) es m r get here c = absurd m
  way_is e at x class (instr.Reg op rd rs1 rs2) es m r get here c = absurd m
  way_is e at x class (instr.Fence rd rs1 imm) es m r get here c = absurd m
  way_is e at x class instr.Ecall es m r get here c = absurd m
  way_is e at x class instr.Ebreak es m r get here c = absurd m

  first_of : (at : ℕ) (es : List StubEdge) → es ≢ [] → All (IsMarkedEdge v frags at (length v.code.edges)) es → (s : StubEdge) × IsMarkedEdge v frags at (length v.code.edges) s
  first_of at [] some all = absurd (some refl)
  first_of at (s ∷ es) some all = (s, all 0 s (omega arith))

  pub stubs_push : (n at : ℕ) (stubs : List StubSite) (i : Instr) (es : List StubEdge) → AreStubsBelow image v frags n stubs → slice_get v.code.nodes n ≡ Some at → AreEdgesOfNode v frags at es → es ≢ [] → IsDecoded image at i
      → AreStubsBelow image v frags (n + 1) (stubs ++ record { at = at; instr = i; edges = es } ∷ [])
  stubs_push n at stubs i es so node edges some d =
      let s : StubSite = record { at = at; instr = i; edges = es } in
      let sites = map site_of stubs in
      let split = map_end site_of stubs s in
      let first = first_of at es some edges.are.each in
      let f = first.1 in
      let can = marked f.number first.0.edge i f.get f.some (ap (instr_at (text_of image)) f.starts ∙ d.read) in
      let stub : IsStubAt image v frags (n + 1) s = record {
        site = (
          instr_is i can d.fields,
          edges.few,
          λ k q lt. let m = edges.are.each k q lt in let g = good m.number m.below in
              ((let same = ap length m.has in let few = g.0 in omega (arith, same, few)), subst (All IsFragment) (sym m.has) g.1),
        );
        node = n;
        below = omega arith;
        get = node;
        word = d.word;
        place = place_is at i es can d.read;
        edge = (f.number, f.below, ap edge_at f.get ∙ f.starts, f.some);
      } in
      record {
        each = All-append (IsStubAt image v frags (n + 1)) stubs (s ∷ []) (wider n stubs so.each) (All-cons (IsStubAt image v frags (n + 1)) s [] stub (All-nil (IsStubAt image v frags (n + 1))));
        ascending = subst AreAscending (sym split) (ascending_end sites (site_of s) so.ascending (before n at stubs so.each node));
        ways = λ e j x class lt nj get c. ap (λ zs. stored.fragments_of_class (stored.place_at zs x.at) class) split ∙ ⊎_elim
            (λ less. ap (λ o. stored.fragments_of_class o class) (place_old sites (site_of s) x.at (λ same. (same_node n j at node (nj ∙ ap Some (sym same))).0 less)) ∙ so.ways e j x class less nj get c)
            (λ more. let same : j ≡ n = omega (arith, lt, more) in
            let here : x.at ≡ at = (let a = ap (slice_get v.code.nodes) (sym same) ∙ nj in cc) in
            ap (λ a. stored.fragments_of_class (stored.place_at (sites ++ site_of s ∷ []) a) class) here
            ∙ (ap (λ o. stored.fragments_of_class o class) (place_new sites (site_of s) (off_before n at stubs so.each node))
            ∙ (way_is e at x class i es can d.read get here c ∙ edges.are.whole e x (slice_get_within v.code.edges e x get) get here)))
            (cases_lt j n);
      }

  -- ---- all of them

  pub sites_found : (n : ℕ) (stubs : List StubSite) → length v.code.nodes ≤ n → AreStubsBelow image v frags n stubs → All IsSite stubs × AreSitesOf image v.code frags (map site_of stubs)
  sites_found n stubs le so = (
    λ k d lt. (so.each k d lt).site,
    record {
      ascending = so.ascending;
      words = All-map (λ (site : Site). (is_word_address image site.at ≡ true) × IsOfImage image site.at site.place) site_of stubs (λ k d lt. let m = so.each k d lt in (m.word, m.place));
      some = All-map (λ (site : Site). (e : ℕ) × (e < length v.code.edges) × (edge_at (slice_get v.code.edges e) ≡ site.at) × (frags e ≢ [])) site_of stubs (λ k d lt. (so.each k d lt).edge);
      ways = λ e class lt c.
          let x = some_get v.code.edges e lt in
          let node = (is.flow.nodes x.0.at).1 (e, lt, ap edge_at x.1) in
          let within = slice_get_within v.code.nodes node.0 x.0.at node.1 in
          ap (λ a. stored.fragments_of_class (stored.place_at (map site_of stubs) a) class) (ap edge_at x.1)
          ∙ so.ways e node.0 x.0 class (omega (arith, within, le)) node.1 x.1 (sym (ap (edge_class (text_of image)) x.1) ∙ c);
    },
  )

-- ---- the word at an address

pub decoded : (image : Image) (at w : ℕ) (o : Option Instr) → image_of image.file ≡ Ok image → text_word image at ≡ Some w → is_word_address image at ≡ true → o ≡ instr_of w → IfSome o (λ i. Encodes w i)
    → IfSome o (λ i. (is_word_address image at ≡ true) × (instr_at (text_of image) at ≡ Some i) × FieldsInRange i)
decoded image at w None whole stored here read found = tt
decoded image at w (Some i) whole stored here read found = (here, instr_stored image at w (Some i) whole stored read, found.0)

-- an edge starts at a word of an image that is an instruction
pub edge_decodes : (image : Image) (v : FlowGraph) → IsGraphOf (text_of image) v → (at : ℕ) (e : ℕ) (x : Edge) → slice_get v.code.edges e ≡ Some x → x.at ≡ at → (is_word_address image at ≡ true → instr_at (text_of image) at ≡ None) → ⊥
edge_decodes image v is at e x get here none =
    let h = edge_is (text_of image) v.code is.reached e (slice_get_within v.code.edges e x get) in
    let u : edge_at (slice_get v.code.edges e) ≡ at = ap edge_at get ∙ here in
    let four : at % 4 ≡ 0 = sym (ap (λ a. a % 4) u) ∙ h.aligned in
    let text : list_any (λ r. is_in at r) image.text ≡ true = sym (ap (is_text_address (text_of image)) u) ∙ h.text in
    let word : is_word_address image at ≡ true = ap (λ b. b && list_any (λ r. is_in at r) image.text) (eq-eqb (at % 4) 0 four) ∙ ap (λ b. true && b) text in
    let there : instr_at (text_of image) at ≡ Some h.instr = sym (ap (instr_at (text_of image)) u) ∙ h.at in
    let q = none word in let bad : ⊥ = cc in bad

pub some_edge : (v : FlowGraph) (frags : ℕ → List Fragment) (at n : ℕ) (es : List StubEdge) → es ≢ [] → All (IsMarkedEdge v frags at n) es → (s : StubEdge) × IsMarkedEdge v frags at n s
some_edge v frags at n [] some all = absurd (some refl)
some_edge v frags at n (s ∷ es) some all = (s, all 0 s (omega arith))

pub decoded_some : (image : Image) (at : ℕ) (o : Option Instr) (i : Instr) → IfSome o (λ j. (is_word_address image at ≡ true) × (instr_at (text_of image) at ≡ Some j) × FieldsInRange j) → o ≡ Some i → IsDecoded image at i
decoded_some image at None i h e = let bad : ⊥ = cc in absurd bad
decoded_some image at (Some j) i h e = let same : j ≡ i = cc in subst (IsDecoded image at) same (record { word = h.0; read = h.1; fields = h.2 })
