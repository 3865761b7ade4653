-- The instructions of marked edges are branches, and jumps that link nothing.
use Rattle.std.proofs.Common.{◌≡◌, ℕ, ◌==◌, Bool, true, false, cond, ◌&&◌, [], ◌∷◌, Option, Some, None, refl, sym, subst, ⊎_elim}
use Rattle.std.specs.Prelude.{◌||◌}
use Rattle.std.proofs.lemmas.Bool.{eqb-true}
use Rattle.scale_base.specs.declared.instruction.Instr.{Instr}
use Rattle.scale_base.specs.declared.instruction.Instr.TheVariants as instr
use Rattle.scale_base.specs.Arith.{moved_by}
use Rattle.scale_base.specs.declared.edges.Edge.{Edge}
use Rattle.scale_base.specs.declared.edges.EdgeKind.TheVariants.{End}
use Rattle.cost_theory.specs.declared.flow.Flow.TheVariants as flow
use Rattle.cost_theory.specs.Reached.{edges_of}
use Rattle.cost_theory.proofs.Laws.{Within}
use Rattle.code_text.specs.Text.{Text, instr_kind, known, ecall_kind}
use Rattle.marked_images.specs.Wanted.{IsSitesKind}

-- an instruction of marked edges
abbrev pub IsMarkable : Instr → Type 0
IsMarkable (instr.Branch op rs1 rs2 offset) = Unit {0}
IsMarkable (instr.Jal rd offset) = rd ≡ 0
IsMarkable i = ⊥

straight_off : (u : ℕ) (r : Bool) (x : Edge) → Within x (edges_of flow.Next u r) → IsSitesKind x.kind → ⊥
straight_off u r x h k = ⊎_elim (λ q. subst (λ (z : Edge). IsSitesKind z.kind) (sym q) k) (λ n. n) h

end_off : (u : ℕ) (x : Edge) → Within x (record { at = u; kind = End; to = u } ∷ []) → IsSitesKind x.kind → ⊥
end_off u x h k = ⊎_elim (λ q. subst (λ (z : Edge). IsSitesKind z.kind) (sym q) k) (λ n. n) h

may_off : (u : ℕ) (r : Bool) (x : Edge) → Within x (edges_of flow.MayExit u r) → IsSitesKind x.kind → ⊥
may_off u r x h k = ⊎_elim (λ q. subst (λ (z : Edge). IsSitesKind z.kind) (sym q) k) (λ m. ⊎_elim (λ q. subst (λ (z : Edge). IsSitesKind z.kind) (sym q) k) (λ n. n) m) h

call_off : (to u : ℕ) (r : Bool) (x : Edge) → Within x (edges_of (flow.Call to) u r) → IsSitesKind x.kind → ⊥
call_off to u true x h k = ⊎_elim (λ q. subst (λ (z : Edge). IsSitesKind z.kind) (sym q) k) (λ m. ⊎_elim (λ q. subst (λ (z : Edge). IsSitesKind z.kind) (sym q) k) (λ n. n) m) h
call_off to u false x h k = end_off u x h k

pub markable : (t : Text) (u : ℕ) (i : Instr) (r : Bool) (x : Edge) → Within x (edges_of (instr_kind t u i) u r) → IsSitesKind x.kind → IsMarkable i
markable t u (instr.Lui rd imm) r x h k = straight_off u r x h k
markable t u (instr.Auipc rd imm) r x h k = straight_off u r x h k
markable t u (instr.Jal rd offset) r x h k = by (rd == 0) refl (rd == 1) refl
  where
    by : (a : Bool) → (rd == 0) ≡ a → (b : Bool) → (rd == 1) ≡ b → rd ≡ 0
    by true is b other = eqb-true rd 0 is
    by false is true other = absurd (call_off (moved_by u offset) u r x
        (subst (λ b. Within x (edges_of (cond b (flow.Call (moved_by u offset)) flow.Refused) u r)) other (subst (λ a. Within x (edges_of (cond a (flow.Jump (moved_by u offset)) (cond (rd == 1) (flow.Call (moved_by u offset)) flow.Refused)) u r)) is h)) k)
    by false is false other = absurd
        (subst (λ b. Within x (edges_of (cond b (flow.Call (moved_by u offset)) flow.Refused) u r)) other (subst (λ a. Within x (edges_of (cond a (flow.Jump (moved_by u offset)) (cond (rd == 1) (flow.Call (moved_by u offset)) flow.Refused)) u r)) is h))
markable t u (instr.Jalr rd rs1 offset) r x h k = by ((rd == 0) && (rs1 == 1) && Rattle.std.specs.Ordering.int_eq offset (Rattle.std.specs.Prelude.pos 0)) h
  where
    by : (b : Bool) → Within x (edges_of (cond b flow.Return flow.Refused) u r) → ⊥
    by true w = end_off u x w k
    by false w = w
markable t u (instr.Branch op rs1 rs2 offset) r x h k = tt
markable t u (instr.Load op rd rs1 offset) r x h k = straight_off u r x h k
markable t u (instr.Store op rs1 rs2 offset) r x h k = straight_off u r x h k
markable t u (instr.Imm op rd rs1 imm) r x h k = straight_off u r x h k
markable t u (instr.Reg op rd rs1 rs2) r x h k = straight_off u r x h k
markable t u (instr.Fence rd rs1 imm) r x h k = straight_off u r x h k
markable t u instr.Ecall r x h k = by (known t u) h
  where
    by_number : (b : Bool) → Within x (edges_of (cond b flow.Exit flow.Next) u r) → ⊥
    by_number true w = end_off u x w k
    by_number false w = straight_off u r x w k

    by : (o : Option ℕ) → Within x (edges_of (ecall_kind o) u r) → ⊥
    by None w = may_off u r x w k
    by (Some n) w = by_number ((n == 93) || (n == 94)) w
markable t u instr.Ebreak r x h k = end_off u x h k
