-- Each edge of a program's code has one number, and a patched instruction has at most two edges, which differ in their places.
use Rattle.std.proofs.Common.{◌≡◌, ◌⊎◌, inl, inr, ⊎_elim, ℕ, zero, suc, ◌+◌, ◌<◌, Bool, true, false, List, [], ◌∷◌, ◌++◌, refl, arith, sym, ap, ◌∙◌, subst, slice_get, Some}
use Rattle.std.specs.List.{flat_map}
use Rattle.std.proofs.lemmas.List.Concat.{flat_map-cons}
use Rattle.scale_base.specs.declared.edges.Edge.{Edge}
use Rattle.scale_base.specs.declared.edges.EdgeKind.{EdgeKind}
use Rattle.scale_base.specs.declared.edges.EdgeKind.TheVariants.{Taken, Untaken, Next, CallNext, End}
use Rattle.scale_base.specs.declared.instruction.Instr.{Instr}
use Rattle.scale_base.specs.declared.instruction.Instr.TheVariants as instr
use Rattle.scale_base.specs.Image.{Image}
use Rattle.cost_theory.specs.declared.flow.Flow.{Flow}
use Rattle.cost_theory.specs.declared.flow.Flow.TheVariants as flow
use Rattle.cost_theory.specs.Graph.{Loops}
use Rattle.cost_theory.specs.Reached.{Reached, Code, IsCodeOf, edges_of, call_returns}
use Rattle.cost_theory.proofs.Laws.{Within, get_within, within_get, within_flat, edges-at}
use Rattle.code_text.specs.Text.{Text, text_of, instr_kind, kind_at}
use Rattle.code_text.specs.TextGraph.{IsReachedCode}
use Rattle.code_text.proofs.Laws.{kind_facts}
use Rattle.foreign_scan.specs.Scanned.{Found, is_changed, CanBePatched, kind_place, IsScanned}
use Rattle.image_check.specs.Safe.{Owner}
use Rattle.image_check.proofs.OnEdges.{reached_word}

-- ---- lists without repetition

abbrev AreDistinct : List Edge → Type 0
AreDistinct [] = Unit {0}
AreDistinct (x ∷ xs) = (Within x xs → ⊥) × AreDistinct xs

one_place : (xs : List Edge) (i j : ℕ) (x : Edge) → AreDistinct xs → slice_get xs i ≡ Some x → slice_get xs j ≡ Some x → i ≡ j
one_place [] i j x d a b = let never : ⊥ = cc in absurd never
one_place (y ∷ ys) zero zero x d a b = refl
one_place (y ∷ ys) zero (suc j) x d a b = let same : y ≡ x = cc in absurd (d.0 (subst (λ z. Within z ys) (sym same) (get_within ys j x b)))
one_place (y ∷ ys) (suc i) zero x d a b = let same : y ≡ x = cc in absurd (d.0 (subst (λ z. Within z ys) (sym same) (get_within ys i x a)))
one_place (y ∷ ys) (suc i) (suc j) x d a b = ap suc (one_place ys i j x d.1 a b)

within_parts : (xs ys : List Edge) (x : Edge) → Within x (xs ++ ys) → Within x xs ⊎ Within x ys
within_parts [] ys x w = inr w
within_parts (z ∷ zs) ys x w = ⊎_elim (λ e. inl (inl e)) (λ later. ⊎_elim (λ a. inl (inr a)) (λ b. inr b) (within_parts zs ys x later)) w

distinct_both : (xs ys : List Edge) → AreDistinct xs → AreDistinct ys → ((x : Edge) → Within x xs → Within x ys → ⊥) → AreDistinct (xs ++ ys)
distinct_both [] ys a b apart = b
distinct_both (x ∷ xs) ys a b apart = (λ w. ⊎_elim a.0 (apart x (inl refl)) (within_parts xs ys x w), distinct_both xs ys a.1 b (λ z one other. apart z (inr one) other))

kinds_apart : (a b : Edge) → (b.kind ≡ a.kind → ⊥) → AreDistinct (a ∷ b ∷ [])
kinds_apart a b other = (λ w. ⊎_elim (λ e. other (ap (λ (x : Edge). x.kind) e)) (λ none. none) w, ((λ none. none), tt))

distinct_at : (w : Flow) (v : ℕ) (r : Bool) → AreDistinct (edges_of w v r)
distinct_at (flow.Branch to) v r = kinds_apart (record { at = v; kind = Taken; to = to }) (record { at = v; kind = Untaken; to = v + 4 }) (λ e. let never : ⊥ = cc in never)
distinct_at (flow.Jump to) v r = ((λ none. none), tt)
distinct_at (flow.Call to) v true = kinds_apart (record { at = v; kind = CallNext; to = v + 4 }) (record { at = v; kind = End; to = v }) (λ e. let never : ⊥ = cc in never)
distinct_at (flow.Call to) v false = ((λ none. none), tt)
distinct_at flow.Return v r = ((λ none. none), tt)
distinct_at flow.Exit v r = ((λ none. none), tt)
distinct_at flow.MayExit v r = kinds_apart (record { at = v; kind = Next; to = v + 4 }) (record { at = v; kind = End; to = v }) (λ e. let never : ⊥ = cc in never)
distinct_at flow.Breakpoint v r = ((λ none. none), tt)
distinct_at flow.Next v r = ((λ none. none), tt)
distinct_at flow.Refused v r = tt

abbrev IsRising : List ℕ → Type 0
IsRising [] = Unit {0}
IsRising (v ∷ vs) = ((u : ℕ) → Within u vs → v < u) × IsRising vs

rising : (vs : List ℕ) → ((i j a b : ℕ) → i < j → slice_get vs i ≡ Some a → slice_get vs j ≡ Some b → a < b) → IsRising vs
rising [] h = tt
rising (v ∷ vs) h = (λ u w. let g = within_get vs u w in h 0 (suc g.0) v u (omega arith) refl g.1, rising vs (λ i j a b lt x y. h (suc i) (suc j) a b (omega (arith, lt)) x y))

distinct_all : (f : ℕ → List Edge) (vs : List ℕ) → ((v : ℕ) → AreDistinct (f v)) → ((v : ℕ) (x : Edge) → Within x (f v) → x.at ≡ v) → IsRising vs → AreDistinct (flat_map f vs)
distinct_all f [] each at up = tt
distinct_all f (v ∷ vs) each at up =
    subst AreDistinct (sym (flat_map-cons f v vs))
    (distinct_both (f v) (flat_map f vs) (each v) (distinct_all f vs each at up.1)
    (λ x here later.
    let w : (u : ℕ) × Within u vs × Within x (f u) = within_flat f vs x later in
    let lt = up.0 w.0 w.1 in
    let one = at v x here in
    let other = at w.0 x w.2 in
    omega (arith, lt, one, other)))

-- an edge has one number
pub one_edge : (word : ℕ → Flow) (first : ℕ) (code : Code) → IsCodeOf word first code → (i j : ℕ) (x : Edge) → slice_get code.edges i ≡ Some x → slice_get code.edges j ≡ Some x → i ≡ j
one_edge word first code is i j x a b =
    let f : ℕ → List Edge = λ v. edges_of (word v) v (call_returns code (word v)) in
    let all = distinct_all f code.nodes (λ v. distinct_at (word v) v (call_returns code (word v))) (λ v y w. edges-at (word v) v (call_returns code (word v)) y w) (rising code.nodes (λ i2 j2 a2 b2. is.ascending i2 j2 a2 b2)) in
    one_place code.edges i j x (subst AreDistinct (sym is.edges) all) a b

-- ---- the edges of a patched instruction

place_apart : (x y : Edge) (a b : EdgeKind) → x.kind ≡ a → y.kind ≡ b → kind_place x.kind ≡ kind_place y.kind → kind_place a ≡ kind_place b
place_apart x y a b e f same = sym (ap kind_place e) ∙ (same ∙ ap kind_place f)

pub same_edge : (t : Text) (at : ℕ) (i : Instr) (r : Bool) (x y : Edge) → CanBePatched i → Within x (edges_of (instr_kind t at i) at r) → Within y (edges_of (instr_kind t at i) at r) → kind_place x.kind ≡ kind_place y.kind → x ≡ y
same_edge t at (instr.Branch op rs1 rs2 offset) r x y can wx wy same =
    ⊎_elim
    (λ ex. ⊎_elim (λ ey. sym ex ∙ ey)
    (λ rest. ⊎_elim (λ ey. absurd (let e = place_apart x y Taken Untaken (sym (ap (λ (z : Edge). z.kind) ex)) (sym (ap (λ (z : Edge). z.kind) ey)) same in let no : ⊥ = omega (arith, e) in no)) (λ none. absurd none) rest) wy)
    (λ rest. ⊎_elim
    (λ ex. ⊎_elim (λ ey. absurd (let e = place_apart x y Untaken Taken (sym (ap (λ (z : Edge). z.kind) ex)) (sym (ap (λ (z : Edge). z.kind) ey)) same in let no : ⊥ = omega (arith, e) in no))
    (λ more. ⊎_elim (λ ey. sym ex ∙ ey) (λ none. absurd none) more) wy)
    (λ none. absurd none) rest) wx
same_edge t at (instr.Jal rd offset) r x y can wx wy same =
    let there = λ (z : Edge) (w : Within z (edges_of (instr_kind t at (instr.Jal rd offset)) at r)). subst (λ d. Within z (edges_of (instr_kind t at (instr.Jal d offset)) at r)) can w in
    ⊎_elim (λ ex. ⊎_elim (λ ey. sym ex ∙ ey) (λ none. absurd none) (there y wy)) (λ none. absurd none) (there x wx)
same_edge t at (instr.Lui rd imm) r x y can wx wy same = absurd can
same_edge t at (instr.Auipc rd imm) r x y can wx wy same = absurd can
same_edge t at (instr.Jalr rd rs1 offset) r x y can wx wy same = absurd can
same_edge t at (instr.Load op rd rs1 offset) r x y can wx wy same = absurd can
same_edge t at (instr.Store op rs1 rs2 offset) r x y can wx wy same = absurd can
same_edge t at (instr.Imm op rd rs1 imm) r x y can wx wy same = absurd can
same_edge t at (instr.Reg op rd rs1 rs2) r x y can wx wy same = absurd can
same_edge t at (instr.Fence rd rs1 imm) r x y can wx wy same = absurd can
same_edge t at instr.Ecall r x y can wx wy same = absurd can
same_edge t at instr.Ebreak r x y can wx wy same = absurd can

-- ---- a patched instruction

module _ (original foreign : Image) (code : Code) (l : Loops) (owner : Owner) (found : Found) (reached : IsReachedCode (text_of original) code) (scanned : IsScanned original foreign code l found) where
  abbrev t : Text
  t = text_of original

  pub record IsPatchedAt (at : ℕ) : Type 0 where
    pub instr : Instr
    pub can_be : CanBePatched instr
    pub kind : kind_at t at ≡ instr_kind t at instr

  pub patched_at : (at f : ℕ) → Reached (kind_at t) t.entry f at → is_changed original foreign at ≡ true → IsPatchedAt at
  patched_at at f r on =
      let p = scanned.patches at (reached_word original foreign code l owner found reached scanned f at r, on) in
      let facts = kind_facts t at (reached.words f at r) in
      let same : facts.2.0 ≡ p.old_instr = (let a = facts.2.1 in let b = p.old in cc) in
      record { instr = p.old_instr; can_be = p.can_be; kind = facts.2.2 ∙ ap (instr_kind t at) same }
