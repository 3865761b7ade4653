-- A patched image keeps what a scan asks for, with the fragments of its marked edges.
use Rattle.std.proofs.Common.{◌≡◌, ◌≢◌, inl, inr, ⊎_elim, ℕ, ℤ, ◌+◌, ◌/◌, ◌%◌, ◌^◌, ◌<◌, ◌≤◌, Bool, true, false, not, List, [], length, refl, arith, sym, ap, ◌∙◌, subst, slice_get, Option, Some, None}
use Rattle.std.specs.Prelude.{All, ◌==◌}
use Rattle.std.specs.List.{list_any}
use Rattle.std.proofs.lemmas.Bool.{eqb-true, eq-eqb, both_ways}
use Rattle.scale_base.specs.declared.fragments.Fragment.TheVariants as fragments
use Rattle.scale_base.specs.declared.instruction.Instr.{Instr}
use Rattle.scale_base.specs.declared.instruction.Instr.TheVariants as instr
use Rattle.scale_base.specs.declared.stepping.Class.{Class}
use Rattle.scale_base.specs.declared.stepping.Class.TheVariants as classes
use Rattle.scale_base.specs.declared.edges.Edge.{Edge}
use Rattle.scale_base.specs.declared.edges.EdgeKind.{EdgeKind}
use Rattle.scale_base.specs.declared.edges.EdgeKind.TheVariants.{Taken, Untaken, Jump, Next, CallNext, End}
use Rattle.scale_base.specs.Arith.{moved_by}
use Rattle.scale_base.specs.Image.{Image, loaded_byte, is_in, is_word_address}
use Rattle.scale_base.specs.Layout.{layout_of, in_text, is_keyed}
use Rattle.scale_base.specs.Reading.{instr_of}
use Rattle.scale_base.specs.Run.{setting_of}
use Rattle.scale_base.specs.State.{Setting, word_at}
use Rattle.scale_base.proofs.Laws.{word_back}
use Rattle.rv_encode.specs.Jumps.{distance}
use Rattle.cost_theory.specs.Graph.{Loops}
use Rattle.cost_theory.specs.Reached.{Reached, Reached.onward, Code, LeadsTo, edge_at, edges_of, call_returns}
use Rattle.cost_theory.proofs.Laws.{Within, edge_of_word}
use Rattle.code_text.specs.Text.{Text, text_of, instr_at, instr_kind, kind_at}
use Rattle.code_text.specs.EdgeCosts.{class_by, edge_class}
use Rattle.code_text.specs.TextGraph.{IsReachedCode}
use Rattle.code_text.proofs.Laws.{kind_facts}
use Rattle.stub_writer.specs.Stubs.{Site, Way, Place, Forked, Straight, jump}
use Rattle.stored_runs.specs.Held.{WayStands, StubStands}
use Rattle.stored_runs.specs.Marks.{place_at, fragments_of_class}
use Rattle.stored_runs.specs.Stubbed.{IsOfImage}
use Rattle.stored_runs.specs.Patched.{IsSafeEdge, AreSafeEdges, HasStub, IsPatched}
use Rattle.foreign_scan.specs.declared.fragment.ForeignFragment.{ForeignFragment}
use Rattle.foreign_scan.specs.declared.fragment.ForeignFragment.TheVariants.{Exit}
use Rattle.foreign_scan.specs.Form.{IsStub, AreRowsIn}
use Rattle.foreign_scan.specs.Scanned.{Found, segment_places, CanBePatched, IsChanged, IsPatch, KeepsForm, IsOn, IsFirstCounted, IsLastRow, HasRows, AreFound, IsScanned}
use Rattle.image_check.specs.Safe.{Owner, owner_bound}
use Rattle.image_check.proofs.StoredTables.{IsPlain, found_with, exit_on, HasItsRows, exit_rows_in}
use Rattle.image_check.proofs.StoredPlaces.{AllOn, source_of, kind_of, edge_of}
use Rattle.image_check.proofs.StoredStubs.{reaches_to, HasWholeWords, found_of, stub_is, jump_is, stub_keyed}

-- an instruction that is marked is one of the text, at which an edge starts, and its fragments are of the forms that a scan finds
pub record IsMarkedAt (original : Image) (code : Code) (at : ℕ) (q : Place) : Type 0 where
  pub word : is_word_address original at ≡ true
  pub edge : ℕ
  pub low : edge < length code.edges
  pub starts : edge_at (slice_get code.edges edge) ≡ at
  pub plain : AllOn IsPlain q

-- each way has the rows that its counter needs
abbrev pub HaveItsRows : Loops → Owner → Place → Type 0
HaveItsRows l owner q = AllOn (HasItsRows l owner) q

not_same : (x y : ℕ) → not (x == y) ≡ true → x ≡ y → ⊥
not_same x y on e = let same = eq-eqb x y e in let never : true ≡ false = sym on ∙ ap not same in let bad : ⊥ = cc in bad

module _ (original foreign : Image) (levels : ℕ) (limits : ℕ → ℕ) (sites : List Site) (start : ℕ) (p : IsPatched original foreign levels limits sites start)
    (code : Code) (reached : IsReachedCode (text_of original) code)
    (marked : (at : ℕ) (q : Place) → place_at sites at ≡ Some q → IsMarkedAt original code at q)
    (low : (at : ℕ) → is_word_address original at ≡ true → at < 2 ^ 32)
    (whole : HasWholeWords foreign) (off : (a : ℕ) → list_any (is_in a) original.text ≡ true → is_keyed (layout_of foreign) a ≡ false) where
  abbrev t : Text
  t = text_of original

  abbrev env : Setting
  env = setting_of foreign levels []

  abbrev bytes : ℕ → ℕ
  bytes = loaded_byte foreign

  abbrev stub_at : (at : ℕ) (q : Place) → place_at sites at ≡ Some q → HasStub original env bytes limits at q
  stub_at at q e = p.stubs [] at q (marked at q e).word e

  -- ---- what is found

  abbrev found_by : (at : ℕ) (o : Option Place) → place_at sites at ≡ o → EdgeKind → List ForeignFragment
  found_by at None e kind = []
  found_by at (Some q) e kind = found_of foreign levels [] (stub_at at q e).stub q (stub_at at q e).stands kind

  abbrev pub found : Found
  found at kind = found_by at (place_at sites at) refl kind

  pub by_place : (at : ℕ) (P : (EdgeKind → List ForeignFragment) → Type 0) → (place_at sites at ≡ None → P (λ kind. []))
      → ((q : Place) (e : place_at sites at ≡ Some q) → P (found_of foreign levels [] (stub_at at q e).stub q (stub_at at q e).stands)) → P (found at)
  by_place at P none some = go (place_at sites at) refl
    where
      go : (o : Option Place) (e : place_at sites at ≡ o) → P (found_by at o e)
      go None e = none e
      go (Some q) e = some q e

  -- ---- the instruction at a marked address

  source : (at : ℕ) {q : Place} → IsMarkedAt original code at q → (f : ℕ) × Reached (kind_at t) t.entry f at
  source at m = source_of t code reached at m.edge m.low m.starts

  kind_is : (at f : ℕ) (i : Instr) → Reached (kind_at t) t.entry f at → instr_at t at ≡ Some i → kind_at t at ≡ instr_kind t at i
  kind_is at f i r e = kind_of t code reached at f i r e

  -- an edge of it
  edge_there : (at f : ℕ) (i : Instr) (x : Edge) → Reached (kind_at t) t.entry f at → instr_at t at ≡ Some i → ((r : Bool) → Within x (edges_of (instr_kind t at i) at r)) → (e : ℕ) × (slice_get code.edges e ≡ Some x)
  edge_there at f i x r is within = edge_of t code reached at f i x r is within

  -- what it is patched to
  new_is : (at : ℕ) (q : Place) (e : place_at sites at ≡ Some q) → instr_of (word_at bytes at) ≡ Some (jump at (stub_at at q e).stub)
  new_is at q e = word_back (word_at bytes at) (jump at (stub_at at q e).stub) (stub_at at q e).patch

  offset_leads : (at : ℕ) (q : Place) (e : place_at sites at ≡ Some q) (offset : ℤ) → instr_of (word_at bytes at) ≡ Some (instr.Jal 0 offset) → moved_by at offset ≡ (stub_at at q e).stub
  offset_leads at q e offset is =
      let stub = (stub_at at q e).stub in
      let new = new_is at q e in
      let same : distance (at % 2 ^ 32) (stub % 2 ^ 32) ≡ offset = cc in
      ap (moved_by at) (sym same) ∙ reaches_to at stub (low at (marked at q e).word) (stub_at at q e).small

  -- it is another word than the original's
  differs : (at : ℕ) (q : Place) → IsMarkedAt original code at q → IsOfImage original at q → (stub : ℕ) → stub < 2 ^ 32 → StubStands env bytes stub q → instr_of (word_at bytes at) ≡ Some (jump at stub) → word_at bytes at ≡ word_at (loaded_byte original) at → ⊥
  differs at (Forked op rs1 rs2 untaken taken) m of stub small stands new same =
      let a : Some (jump at stub) ≡ Some (instr.Branch op rs1 rs2 of.0) = sym new ∙ (ap instr_of same ∙ of.1) in let never : ⊥ = cc in never
  differs at (Straight w) m of stub small stands new same =
      let a : Some (jump at stub) ≡ Some (instr.Jal 0 of.0) = sym new ∙ (ap instr_of same ∙ of.1) in
      let offset : distance (at % 2 ^ 32) (stub % 2 ^ 32) ≡ of.0 = cc in
      let there : moved_by at of.0 ≡ stub = ap (moved_by at) (sym offset) ∙ reaches_to at stub (low at m.word) small in
      let s = source at m in
      let kind = kind_is at s.0 (instr.Jal 0 of.0) s.1 of.1 in
      let to = moved_by at of.0 in
      let next : Reached (kind_at t) t.entry s.0 to = onward to s.1 (subst (λ k. LeadsTo k at to) (sym kind) refl) in
      let text = (kind_facts t to (reached.words s.0 to next)).1 in
      both_ways (is_keyed (layout_of foreign) to) (off to text) (ap (is_keyed (layout_of foreign)) there ∙ stub_keyed foreign levels [] whole stub (Straight w) stands)

  pub marked_changes : (at : ℕ) (q : Place) → place_at sites at ≡ Some q → IsChanged original foreign at
  marked_changes at q e =
      let s = stub_at at q e in
      ((marked at q e).word, by_test (word_at bytes at == word_at (loaded_byte original) at) refl (differs at q (marked at q e) s.of_image s.stub s.small s.stands (new_is at q e)))
    where
      by_test : (b : Bool) → (word_at bytes at == word_at (loaded_byte original) at) ≡ b → (word_at bytes at ≡ word_at (loaded_byte original) at → ⊥) → not (word_at bytes at == word_at (loaded_byte original) at) ≡ true
      by_test true is other = absurd (other (eqb-true (word_at bytes at) (word_at (loaded_byte original) at) is))
      by_test false is other = ap not is

  -- and no other word is
  pub changed_marked : (at : ℕ) → IsChanged original foreign at → place_at sites at ≡ None → ⊥
  changed_marked at c none = not_same (word_at bytes at) (word_at (loaded_byte original) at) c.1 (p.words at c.0 none)

  -- ---- patches

  can_be : (at : ℕ) (q : Place) → IsOfImage original at q → (i : Instr) × (instr_at t at ≡ Some i) × CanBePatched i
  can_be at (Forked op rs1 rs2 untaken taken) of = (instr.Branch op rs1 rs2 of.0, of.1, tt)
  can_be at (Straight w) of = (instr.Jal 0 of.0, of.1, refl)

  patch_at : (at : ℕ) (q : Place) → place_at sites at ≡ Some q → IsPatch original foreign code at
  patch_at at q e =
      let s = stub_at at q e in
      let old = can_be at q s.of_image in
      let d = distance (at % 2 ^ 32) (s.stub % 2 ^ 32) in
      let there : moved_by at d ≡ s.stub = reaches_to at s.stub (low at (marked at q e).word) s.small in
      record {
        node = (reached.lists.nodes at).1 (source at (marked at q e));
        old_instr = old.0;
        old = old.1;
        can_be = old.2;
        offset = d;
        new = new_is at q e;
        even = ap (λ a. a % 4) there ∙ s.even;
        key = ap (is_keyed (layout_of foreign)) there ∙ stub_keyed foreign levels [] whole s.stub q s.stands;
      }

  by_changed : (at : ℕ) (A : Type 0) → IsChanged original foreign at → ((q : Place) → place_at sites at ≡ Some q → A) → A
  by_changed at A c some = go (place_at sites at) refl
    where
      go : (o : Option Place) → place_at sites at ≡ o → A
      go None e = absurd (changed_marked at c e)
      go (Some q) e = some q e

  patches : (at : ℕ) → IsChanged original foreign at → IsPatch original foreign code at
  patches at c = by_changed at (IsPatch original foreign code at) c (λ q e. patch_at at q e)

  -- ---- stubs

  stub_for : (at stub : ℕ) (q : Place) (stands : StubStands env bytes stub q) → IsOfImage original at q → AreSafeEdges levels limits q → AllOn IsPlain q → (i : Instr) → instr_at t at ≡ Some i → IsStub foreign at stub i (found_of foreign levels [] stub q stands)
  stub_for at stub (Forked op rs1 rs2 untaken taken) stands of safe plain i is =
      let b = of.1 in
      let same : instr.Branch op rs1 rs2 of.0 ≡ i = cc in
      subst (λ j. IsStub foreign at stub j (found_of foreign levels [] stub (Forked op rs1 rs2 untaken taken) stands)) same
      (stub_is foreign levels [] whole limits at stub op rs1 rs2 of.0 untaken taken stands of.2 of.3 safe.0 safe.1 plain.0 plain.1)
  stub_for at stub (Straight w) stands of safe plain i is =
      let b = of.1 in
      let same : instr.Jal 0 of.0 ≡ i = cc in
      subst (λ j. IsStub foreign at stub j (found_of foreign levels [] stub (Straight w) stands)) same (jump_is foreign levels [] whole limits at stub 0 of.0 w stands of.2 safe plain)

  pub keeps : (at : ℕ) → IsChanged original foreign at → KeepsForm original foreign code found at
  keeps at c r = by_place at (λ fs. IsStub foreign at (moved_by at r.offset) r.old_instr fs) (λ none. absurd (changed_marked at c none))
      (λ q e.
      let s = stub_at at q e in
      subst (λ a. IsStub foreign at a r.old_instr (found_of foreign levels [] s.stub q s.stands)) (sym (offset_leads at q e r.offset r.new)) (stub_for at s.stub q s.stands s.of_image s.edges (marked at q e).plain r.old_instr r.old))

  -- ---- fragments stand on edges of changed words

  no_edge : (at stub : ℕ) (q : Place) (stands : StubStands env bytes stub q) → IsOfImage original at q → IsMarkedAt original code at q → (kind : EdgeKind)
      → ((e : ℕ) (edge : Edge) → slice_get code.edges e ≡ Some edge → edge.at ≡ at → edge.kind ≡ kind → ⊥) → found_of foreign levels [] stub q stands kind ≡ []
  no_edge at stub (Forked op rs1 rs2 untaken taken) stands of m Taken none =
      let s = source at m in
      let x : Edge = record { at = at; kind = Taken; to = moved_by at of.0 } in
      let e = edge_there at s.0 (instr.Branch op rs1 rs2 of.0) x s.1 of.1 (λ r. inl refl) in absurd (none e.0 x e.1 refl refl)
  no_edge at stub (Forked op rs1 rs2 untaken taken) stands of m Untaken none =
      let s = source at m in
      let x : Edge = record { at = at; kind = Untaken; to = at + 4 } in
      let e = edge_there at s.0 (instr.Branch op rs1 rs2 of.0) x s.1 of.1 (λ r. inr (inl refl)) in absurd (none e.0 x e.1 refl refl)
  no_edge at stub (Forked op rs1 rs2 untaken taken) stands of m Jump none = refl
  no_edge at stub (Forked op rs1 rs2 untaken taken) stands of m Next none = refl
  no_edge at stub (Forked op rs1 rs2 untaken taken) stands of m CallNext none = refl
  no_edge at stub (Forked op rs1 rs2 untaken taken) stands of m End none = refl
  no_edge at stub (Straight w) stands of m Jump none =
      let s = source at m in
      let x : Edge = record { at = at; kind = Jump; to = moved_by at of.0 } in
      let e = edge_there at s.0 (instr.Jal 0 of.0) x s.1 of.1 (λ r. inl refl) in absurd (none e.0 x e.1 refl refl)
  no_edge at stub (Straight w) stands of m Taken none = refl
  no_edge at stub (Straight w) stands of m Untaken none = refl
  no_edge at stub (Straight w) stands of m Next none = refl
  no_edge at stub (Straight w) stands of m CallNext none = refl
  no_edge at stub (Straight w) stands of m End none = refl

  found_are : AreFound original foreign code found
  found_are = record {
    edges = λ at kind none. by_place at (λ fs. fs kind ≡ []) (λ e. refl) (λ q e. no_edge at (stub_at at q e).stub q (stub_at at q e).stands (stub_at at q e).of_image (marked at q e) kind none);
    plain = λ at kind same. by_place at (λ fs. fs kind ≡ []) (λ e. refl) (λ q e. absurd (same (marked_changes at q e)));
    none = λ at kind c no_form. absurd (no_form (keeps at c));
    some = λ at others c form. keeps at c;
  }

  -- ---- the fragments of an edge

  pub record IsFoundWith (fs : EdgeKind → List ForeignFragment) (at : ℕ) (kind : EdgeKind) (class : Class) : Type 0 where
    pub table : ℕ
    pub is : fs kind ≡ found_with table (fragments_of_class (place_at sites at) class)

  edge_fragments : (at stub f : ℕ) (q : Place) (stands : StubStands env bytes stub q) → IsOfImage original at q → Reached (kind_at t) t.entry f at → (kind : EdgeKind) (to : ℕ) (class : Class)
      → Within (record { at = at; kind = kind; to = to }) (edges_of (kind_at t at) at (call_returns code (kind_at t at))) → class_by (instr_at t at) kind ≡ Some class
      → (table : ℕ) × (found_of foreign levels [] stub q stands kind ≡ found_with table (fragments_of_class (Some q) class))
  edge_fragments at stub f (Forked op rs1 rs2 untaken taken) stands of r kind to class within is_class =
      let q = Forked op rs1 rs2 untaken taken in
      let i = instr.Branch op rs1 rs2 of.0 in
      let flow_is = kind_is at f i r of.1 in
      let there = subst (λ k. Within (record { at = at; kind = kind; to = to }) (edges_of k at (call_returns code (kind_at t at)))) flow_is within in
      let here : class_by (Some i) kind ≡ Some class = ap (λ o. class_by o kind) (sym of.1) ∙ is_class in
      ⊎_elim (λ e. on_taken kind (sym (ap (λ (x : Edge). x.kind) e)) here) (λ rest. ⊎_elim (λ e. on_untaken kind (sym (ap (λ (x : Edge). x.kind) e)) here) (λ none. absurd none) rest) there
    where
      on_taken : (k : EdgeKind) → k ≡ Taken → class_by (Some (instr.Branch op rs1 rs2 of.0)) k ≡ Some class
          → (table : ℕ) × (found_of foreign levels [] stub (Forked op rs1 rs2 untaken taken) stands k ≡ found_with table (fragments_of_class (Some (Forked op rs1 rs2 untaken taken)) class))
      on_taken k e c =
          let same : classes.Taken ≡ class = (let d : Some classes.Taken ≡ Some class = ap (class_by (Some (instr.Branch op rs1 rs2 of.0))) (sym e) ∙ c in cc) in (
            stands.taken_way.table,
            ap (found_of foreign levels [] stub (Forked op rs1 rs2 untaken taken) stands) e ∙ ap (λ x. found_with stands.taken_way.table (fragments_of_class (Some (Forked op rs1 rs2 untaken taken)) x)) same,
          )

      on_untaken : (k : EdgeKind) → k ≡ Untaken → class_by (Some (instr.Branch op rs1 rs2 of.0)) k ≡ Some class
          → (table : ℕ) × (found_of foreign levels [] stub (Forked op rs1 rs2 untaken taken) stands k ≡ found_with table (fragments_of_class (Some (Forked op rs1 rs2 untaken taken)) class))
      on_untaken k e c =
          let same : classes.Untaken ≡ class = (let d : Some classes.Untaken ≡ Some class = ap (class_by (Some (instr.Branch op rs1 rs2 of.0))) (sym e) ∙ c in cc) in (
            stands.untaken_way.table,
            ap (found_of foreign levels [] stub (Forked op rs1 rs2 untaken taken) stands) e ∙ ap (λ x. found_with stands.untaken_way.table (fragments_of_class (Some (Forked op rs1 rs2 untaken taken)) x)) same,
          )
  edge_fragments at stub f (Straight w) stands of r kind to class within is_class =
      let flow_is = kind_is at f (instr.Jal 0 of.0) r of.1 in
      let there = subst (λ k. Within (record { at = at; kind = kind; to = to }) (edges_of k at (call_returns code (kind_at t at)))) flow_is within in
      ⊎_elim (λ e. (stands.table, ap (found_of foreign levels [] stub (Straight w) stands) (sym (ap (λ (x : Edge). x.kind) e)))) (λ none. absurd none) there

  -- by the edge's number
  pub found_on : (e : ℕ) (edge : Edge) (class : Class) → slice_get code.edges e ≡ Some edge → edge_class t (Some edge) ≡ Some class → IsFoundWith (found edge.at) edge.at edge.kind class
  found_on e edge class there is_class = by_place edge.at (λ fs. IsFoundWith fs edge.at edge.kind class)
      (λ none. record { table = 0; is = ap (λ o. found_with 0 (fragments_of_class o class)) (sym none) })
      (λ q d.
      let s = stub_at edge.at q d in
      let x = edge_of_word (kind_at t) t.entry code reached.lists e edge there in
      let r = subst (λ v. Reached (kind_at t) t.entry x.1.0 v) (sym x.3) x.1.1 in
      let within = subst (λ v. Within edge (edges_of (kind_at t v) v (call_returns code (kind_at t v)))) (sym x.3) x.2 in
      let f = edge_fragments edge.at s.stub x.1.0 q s.stands s.of_image r edge.kind edge.to class within is_class in
      record { table = f.0; is = f.1 ∙ ap (λ o. found_with f.0 (fragments_of_class o class)) (sym d) })

  -- ---- rows

  module _ (l : Loops) (owner : Owner) (its : (at : ℕ) (q : Place) → place_at sites at ≡ Some q → HaveItsRows l owner q) where
    way_rows_in : (at : ℕ) (w : Way) (h : WayStands env bytes at w) → IsSafeEdge levels limits w → All (HasItsRows l owner) w.fragments → (counter shift table last : ℕ) → IsOn (Exit counter shift table) (found_with h.table w.fragments)
        → last ≤ owner_bound l (owner counter) / 2 ^ shift → AreRowsIn foreign table (last + 1)
    way_rows_in at w h safe own counter shift table last on le =
        let x = exit_on h.table w.fragments counter shift table safe.ordered on in
        let first = subst (All (HasItsRows l owner)) x.parts own in
        let long : length x.rows ≡ owner_bound l (owner counter) / 2 ^ shift + 1 = first 0 (fragments.Exit counter shift x.rows) (omega arith) in
        let high = h.high in
        exit_rows_in foreign levels [] h.table counter shift table w.fragments (last + 1) x h.even (omega (arith, high)) (omega (arith, long, le)) h.rows

    place_rows : (at stub : ℕ) (q : Place) (stands : StubStands env bytes stub q) → AreSafeEdges levels limits q → HaveItsRows l owner q → (kind : EdgeKind) (counter shift table last : ℕ) → IsOn (Exit counter shift table) (found_of foreign levels [] stub q stands kind)
        → last ≤ owner_bound l (owner counter) / 2 ^ shift → AreRowsIn foreign table (last + 1)
    place_rows at stub (Forked op rs1 rs2 untaken taken) stands safe own Taken counter shift table last on le = way_rows_in stands.to taken stands.taken_way safe.1 own.1 counter shift table last on le
    place_rows at stub (Forked op rs1 rs2 untaken taken) stands safe own Untaken counter shift table last on le = way_rows_in (stub + 4) untaken stands.untaken_way safe.0 own.0 counter shift table last on le
    place_rows at stub (Forked op rs1 rs2 untaken taken) stands safe own Jump counter shift table last on le = let e = on.1 in let never : ⊥ = cc in absurd never
    place_rows at stub (Forked op rs1 rs2 untaken taken) stands safe own Next counter shift table last on le = let e = on.1 in let never : ⊥ = cc in absurd never
    place_rows at stub (Forked op rs1 rs2 untaken taken) stands safe own CallNext counter shift table last on le = let e = on.1 in let never : ⊥ = cc in absurd never
    place_rows at stub (Forked op rs1 rs2 untaken taken) stands safe own End counter shift table last on le = let e = on.1 in let never : ⊥ = cc in absurd never
    place_rows at stub (Straight w) stands safe own Jump counter shift table last on le = way_rows_in stub w stands safe own counter shift table last on le
    place_rows at stub (Straight w) stands safe own Taken counter shift table last on le = let e = on.1 in let never : ⊥ = cc in absurd never
    place_rows at stub (Straight w) stands safe own Untaken counter shift table last on le = let e = on.1 in let never : ⊥ = cc in absurd never
    place_rows at stub (Straight w) stands safe own Next counter shift table last on le = let e = on.1 in let never : ⊥ = cc in absurd never
    place_rows at stub (Straight w) stands safe own CallNext counter shift table last on le = let e = on.1 in let never : ⊥ = cc in absurd never
    place_rows at stub (Straight w) stands safe own End counter shift table last on le = let e = on.1 in let never : ⊥ = cc in absurd never

    module _ (first : (c k : ℕ) → IsFirstCounted original foreign code l found c k → owner c ≡ Some k) (keyed : foreign.keyed_segment ≢ None) (places : segment_places foreign ≡ segment_places original) where
      last_low : (counter shift last : ℕ) → IsLastRow original foreign code l found counter shift last → last ≤ owner_bound l (owner counter) / 2 ^ shift
      last_low counter shift last (inl (k, is, e)) =
          let own : owner_bound l (owner counter) ≡ l.bound k = ap (owner_bound l) (first counter k is) in
          let same : owner_bound l (owner counter) / 2 ^ shift ≡ l.bound k / 2 ^ shift = ap (λ b. b / 2 ^ shift) own in omega (arith, same, e)
      last_low counter shift last (inr (none, e)) = omega (arith, e)

      has_rows : (at : ℕ) → HasRows original foreign code l found at
      has_rows at kind counter shift table last on is_last =
          by_place at (λ fs. IsOn (Exit counter shift table) (fs kind) → AreRowsIn foreign table (last + 1)) (λ none o. let e = o.1 in let never : ⊥ = cc in absurd never)
          (λ q e o. place_rows at (stub_at at q e).stub q (stub_at at q e).stands (stub_at at q e).edges (its at q e) kind counter shift table last o (last_low counter shift last is_last)) on

      same_text : (a : ℕ) → in_text (layout_of foreign) a ≡ in_text (layout_of original) a
      unfolding layout_of
      same_text a = ap (λ rs. list_any (is_in a) rs) p.text

      pub scanned : IsScanned original foreign code l found
      scanned = record {
        key = keyed;
        layout = record { entry = p.entry; segments = places; text = p.text };
        bytes = λ a odd. odd.differs (p.bytes a (same_text a ∙ odd.text) odd.key);
        patches = patches;
        found_are = found_are;
        stubs = λ at c. (keeps at c, has_rows at);
      }
