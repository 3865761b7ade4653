-- The edges of the graph of reached code: their instructions, their classes and their kinds.
use Rattle.std.proofs.Common.{◌≡◌, ◌≢◌, ℕ, ℤ, ◌%◌, ◌<◌, Bool, true, false, length, slice_get, Option, Some, None, refl, sym, ap, ◌∙◌, subst, ⊎_elim}
use Rattle.scale_base.specs.declared.instruction.Instr.{Instr}
use Rattle.scale_base.specs.declared.instruction.Instr.TheVariants as instr
use Rattle.scale_base.specs.declared.stepping.Class.{Class}
use Rattle.scale_base.specs.Class.{class_of}
use Rattle.scale_base.specs.Arith.{moved_by}
use Rattle.scale_base.specs.declared.edges.Edge.{Edge}
use Rattle.scale_base.specs.declared.edges.EdgeKind.{EdgeKind}
use Rattle.scale_base.specs.declared.edges.EdgeKind.TheVariants.{Taken, Untaken, Jump, Next, CallNext, End}
use Rattle.cost_theory.specs.declared.flow.Flow.TheVariants as flow
use Rattle.cost_theory.specs.Graph.{Graph}
use Rattle.cost_theory.specs.Reached.{Code, edge_at, edge_to, place_after, edges_of, call_returns}
use Rattle.cost_theory.proofs.Laws.{callee-call, callee_word, edge_word, Within}
use Rattle.code_text.specs.Text.{Text, instr_at, instr_kind, kind_at, is_text_address}
use Rattle.code_text.specs.EdgeCosts.{class_by, edge_class, is_taken_kind}
use Rattle.code_text.specs.TextGraph.{text_graph, IsReachedCode}
use Rattle.code_text.proofs.Laws.{kind_facts}
use Rattle.scale_sites.specs.Sites.{is_branch_kind, edge_branches}
use Rattle.scale_sites.specs.Counters.{goes_on, edge_goes_on}

-- ---- classes

-- a step has a class where its instruction is no EBREAK
abbrev pub Goes : Option Instr → Type 0
Goes None = ⊥
Goes (Some instr.Ebreak) = ⊥
Goes (Some i) = Unit {0}

pub class_of_goes : (o : Option Instr) (kind : EdgeKind) → Goes o → (class : Class) × (class_by o kind ≡ Some class)
class_of_goes None kind h = absurd h
class_of_goes (Some (instr.Lui rd imm)) kind h = (class_of (instr.Lui rd imm) (is_taken_kind kind), refl)
class_of_goes (Some (instr.Auipc rd imm)) kind h = (class_of (instr.Auipc rd imm) (is_taken_kind kind), refl)
class_of_goes (Some (instr.Jal rd offset)) kind h = (class_of (instr.Jal rd offset) (is_taken_kind kind), refl)
class_of_goes (Some (instr.Jalr rd rs1 offset)) kind h = (class_of (instr.Jalr rd rs1 offset) (is_taken_kind kind), refl)
class_of_goes (Some (instr.Branch op rs1 rs2 offset)) kind h = (class_of (instr.Branch op rs1 rs2 offset) (is_taken_kind kind), refl)
class_of_goes (Some (instr.Load op rd rs1 offset)) kind h = (class_of (instr.Load op rd rs1 offset) (is_taken_kind kind), refl)
class_of_goes (Some (instr.Store op rs1 rs2 offset)) kind h = (class_of (instr.Store op rs1 rs2 offset) (is_taken_kind kind), refl)
class_of_goes (Some (instr.Imm op rd rs1 imm)) kind h = (class_of (instr.Imm op rd rs1 imm) (is_taken_kind kind), refl)
class_of_goes (Some (instr.Reg op rd rs1 rs2)) kind h = (class_of (instr.Reg op rd rs1 rs2) (is_taken_kind kind), refl)
class_of_goes (Some (instr.Fence rd rs1 imm)) kind h = (class_of (instr.Fence rd rs1 imm) (is_taken_kind kind), refl)
class_of_goes (Some instr.Ecall) kind h = (class_of instr.Ecall (is_taken_kind kind), refl)
class_of_goes (Some instr.Ebreak) kind h = absurd h

-- an edge to a node is none of an EBREAK
goes_if_led : (t : Text) (u : ℕ) (i : Instr) (b : Bool) (x : Edge) (w : ℕ) → Within x (edges_of (instr_kind t u i) u b) → place_after x.kind x.to ≡ Some w → Goes (Some i)
goes_if_led t u (instr.Lui rd imm) b x w h e = tt
goes_if_led t u (instr.Auipc rd imm) b x w h e = tt
goes_if_led t u (instr.Jal rd offset) b x w h e = tt
goes_if_led t u (instr.Jalr rd rs1 offset) b x w h e = tt
goes_if_led t u (instr.Branch op rs1 rs2 offset) b x w h e = tt
goes_if_led t u (instr.Load op rd rs1 offset) b x w h e = tt
goes_if_led t u (instr.Store op rs1 rs2 offset) b x w h e = tt
goes_if_led t u (instr.Imm op rd rs1 imm) b x w h e = tt
goes_if_led t u (instr.Reg op rd rs1 rs2) b x w h e = tt
goes_if_led t u (instr.Fence rd rs1 imm) b x w h e = tt
goes_if_led t u instr.Ecall b x w h e = tt
goes_if_led t u instr.Ebreak b x w h e = ⊎_elim (λ q. let never : None ≡ Some w = ap (λ y. place_after y.kind y.to) q ∙ e in let bad : ⊥ = cc in bad) (λ n. n) h

-- ---- edges

pub record IsEdgeAt (t : Text) (code : Code) (e : ℕ) : Type 0 where
  pub edge : Edge
  pub get : slice_get code.edges e ≡ Some edge
  pub instr : Instr
  pub at : instr_at t (edge_at (slice_get code.edges e)) ≡ Some instr
  pub kind : kind_at t (edge_at (slice_get code.edges e)) ≡ instr_kind t (edge_at (slice_get code.edges e)) instr
  pub aligned : edge_at (slice_get code.edges e) % 4 ≡ 0
  pub text : is_text_address t (edge_at (slice_get code.edges e)) ≡ true
  pub within : Within edge (edges_of (instr_kind t (edge_at (slice_get code.edges e)) instr) (edge_at (slice_get code.edges e)) (call_returns code (kind_at t (edge_at (slice_get code.edges e)))))

module _ (t : Text) (code : Code) (reached : IsReachedCode t code) where
  abbrev g : Graph
  g = text_graph t code

  pub edge_is : (e : ℕ) → e < length code.edges → IsEdgeAt t code e
  edge_is e lt =
      let x = edge_word (kind_at t) t.entry code reached.lists reached.words e lt in
      let u = edge_at (slice_get code.edges e) in
      let fine : kind_at t u ≢ flow.Refused = λ bad. (let never : Within x.0 (edges_of flow.Refused u (call_returns code (kind_at t u))) = subst (λ w. Within x.0 (edges_of w u (call_returns code (kind_at t u)))) bad x.2 in never) in
      let f = kind_facts t u fine in
      record {
        edge = x.0;
        get = x.1;
        instr = f.2.0;
        at = f.2.1;
        kind = f.2.2;
        aligned = f.0;
        text = f.1;
        within = subst (λ w. Within x.0 (edges_of w u (call_returns code (kind_at t u)))) f.2.2 x.2;
      }

  -- the class of an edge to a node
  pub led_class : (e w : ℕ) → e < length code.edges → g.target e ≡ Some w → (class : Class) × (edge_class t (slice_get code.edges e) ≡ Some class)
  led_class e w lt to =
      let x = edge_is e lt in
      let led : place_after x.edge.kind x.edge.to ≡ Some w = sym (ap edge_to x.get) ∙ to in
      let goes = goes_if_led t (edge_at (slice_get code.edges e)) x.instr (call_returns code (kind_at t (edge_at (slice_get code.edges e)))) x.edge w x.within led in
      let c = class_of_goes (Some x.instr) x.edge.kind goes in
      let here : instr_at t x.edge.at ≡ Some x.instr = ap (instr_at t) (sym (ap edge_at x.get)) ∙ x.at in
      (c.0, ap (edge_class t) x.get ∙ (ap (λ o. class_by o x.edge.kind) here ∙ c.1))

  -- a branch's edge leads to a node
  pub branch_led : (e : ℕ) → e < length code.edges → edge_branches (slice_get code.edges e) ≡ true → (w : ℕ) × (g.target e ≡ Some w)
  branch_led e lt branch =
      let x = edge_is e lt in
      let b : is_branch_kind x.edge.kind ≡ true = sym (ap edge_branches x.get) ∙ branch in
      let r = by x.edge.kind b x.edge.to in (r.0, ap edge_to x.get ∙ r.1)
    where
      by : (k : EdgeKind) → is_branch_kind k ≡ true → (to : ℕ) → (w : ℕ) × (place_after k to ≡ Some w)
      by Taken h to = (to, refl)
      by Untaken h to = (to, refl)
      by Jump h to = let bad : ⊥ = cc in absurd bad
      by Next h to = let bad : ⊥ = cc in absurd bad
      by CallNext h to = let bad : ⊥ = cc in absurd bad
      by End h to = let bad : ⊥ = cc in absurd bad

  -- the edge by which a call comes back goes on to the next instruction
  pub call_goes_on : (e f w : ℕ) → e < length code.edges → g.callee e ≡ Some f → g.target e ≡ Some w → edge_goes_on (slice_get code.edges e) ≡ true
  call_goes_on e f w lt callee to =
      let x = edge_word (kind_at t) t.entry code reached.lists reached.words e lt in
      let u = edge_at (slice_get code.edges e) in
      let c = callee-call code.functions (kind_at t u) f (sym (callee_word (kind_at t) code.functions code.edges e lt) ∙ callee) in
      let led : place_after x.0.kind x.0.to ≡ Some w = sym (ap edge_to x.1) ∙ to in
      ap edge_goes_on x.1 ∙ by c.0 (call_returns code (kind_at t u)) x.0 w (subst (λ q. Within x.0 (edges_of q u (call_returns code (kind_at t u)))) c.1 x.2) led
    where
      by : (h : ℕ) (b : Bool) (x : Edge) (w : ℕ) → Within x (edges_of (flow.Call h) (edge_at (slice_get code.edges e)) b) → place_after x.kind x.to ≡ Some w → goes_on x.kind ≡ true
      by h true x w within led = ⊎_elim
          (λ q. sym (ap (λ y. goes_on y.kind) q))
          (λ m. ⊎_elim (λ q. let never : None ≡ Some w = ap (λ y. place_after y.kind y.to) q ∙ led in let bad : ⊥ = cc in absurd bad) (λ n. absurd n) m) within
      by h false x w within led = ⊎_elim (λ q. let never : None ≡ Some w = ap (λ y. place_after y.kind y.to) q ∙ led in let bad : ⊥ = cc in absurd bad) (λ n. absurd n) within

  -- a branch's edges are of its two kinds, and those of a jump of no branch's
  pub branch_kind : (e : ℕ) (op : Rattle.scale_base.specs.declared.instruction.BranchOp.BranchOp) (rs1 rs2 : ℕ) (offset : ℤ) → e < length code.edges → instr_at t (edge_at (slice_get code.edges e)) ≡ Some (instr.Branch op rs1 rs2 offset) → edge_branches (slice_get code.edges e) ≡ true
  branch_kind e op rs1 rs2 offset lt at =
      let x = edge_is e lt in
      let same : x.instr ≡ instr.Branch op rs1 rs2 offset = (let a = x.at in cc) in
      let u = edge_at (slice_get code.edges e) in
      ap edge_branches x.get ∙ by x.edge (call_returns code (kind_at t u)) (subst (λ i. Within x.edge (edges_of (instr_kind t u i) u (call_returns code (kind_at t u)))) same x.within)
    where
      by : (x : Edge) (b : Bool) → Within x (edges_of (flow.Branch (moved_by (edge_at (slice_get code.edges e)) offset)) (edge_at (slice_get code.edges e)) b) → is_branch_kind x.kind ≡ true
      by x b within = ⊎_elim (λ q. sym (ap (λ y. is_branch_kind y.kind) q)) (λ m. ⊎_elim (λ q. sym (ap (λ y. is_branch_kind y.kind) q)) (λ n. absurd n) m) within

  pub jump_kind : (e : ℕ) (offset : ℤ) → e < length code.edges → instr_at t (edge_at (slice_get code.edges e)) ≡ Some (instr.Jal 0 offset) → edge_branches (slice_get code.edges e) ≡ false
  jump_kind e offset lt at =
      let x = edge_is e lt in
      let same : x.instr ≡ instr.Jal 0 offset = (let a = x.at in cc) in
      let u = edge_at (slice_get code.edges e) in
      ap edge_branches x.get ∙ by x.edge (call_returns code (kind_at t u)) (subst (λ i. Within x.edge (edges_of (instr_kind t u i) u (call_returns code (kind_at t u)))) same x.within)
    where
      by : (x : Edge) (b : Bool) → Within x (edges_of (flow.Jump (moved_by (edge_at (slice_get code.edges e)) offset)) (edge_at (slice_get code.edges e)) b) → is_branch_kind x.kind ≡ false
      by x b within = ⊎_elim (λ q. sym (ap (λ y. is_branch_kind y.kind) q)) (λ n. absurd n) within
