-- What a scan finds is determined, and which of its causes holds first.
use Rattle.std.proofs.Common.{◌≡◌, ℕ, ℤ, Bool, ◌⊎◌, inl, inr, ⊎_elim, List, length, Some, refl, sym, ap, ◌∙◌, subst, arith}
use Rattle.std.specs.Prelude.{slice_get}
use Rattle.std.proofs.lemmas.Bool.{both_ways, cases_Bool, cases_order}
use Rattle.cost_theory.specs.declared.flow.Flow.{Flow}
use Rattle.cost_theory.specs.declared.flow.Flow.TheVariants as flow
use Rattle.cost_theory.specs.Graph.{Loops}
use Rattle.cost_theory.specs.Reached.{Code, edges_of, call_returns}
use Rattle.cost_theory.proofs.Laws.{Within, edge_of_word}
use Rattle.code_text.specs.Text.{text_of, instr_at, kind_at, jal_kind}
use Rattle.code_text.specs.TextGraph.{IsReachedCode}
use Rattle.scale_base.specs.declared.edges.Edge.{Edge}
use Rattle.scale_base.specs.declared.edges.EdgeKind.{EdgeKind}
use Rattle.scale_base.specs.declared.edges.EdgeKind.TheVariants.{Taken, Untaken, Jump, Next, CallNext, End}
use Rattle.scale_base.specs.declared.instruction.Instr.{Instr}
use Rattle.scale_base.specs.declared.instruction.Instr.TheVariants as instr
use Rattle.scale_base.specs.declared.instruction.BranchOp.{BranchOp}
use Rattle.scale_base.specs.Arith.{moved_by}
use Rattle.scale_base.specs.Image.{Image, is_word_address}
use Rattle.foreign_scan.specs.declared.fragment.ForeignFragment.{ForeignFragment}
use Rattle.foreign_scan.specs.declared.fragment.ForeignFragment.TheVariants.{Exit, Count}
use Rattle.scale_base.specs.declared.verdict.Why.{Why}
use Rattle.scale_base.specs.declared.verdict.Why.TheVariants as why
use Rattle.foreign_scan.specs.Agree.{ScanIsNotRefused, CausesAgree, FoundAgree}
use Rattle.foreign_scan.specs.Form.{IsRunOut, IsStub}
use Rattle.foreign_scan.specs.Least.{is_patch_at}
use Rattle.foreign_scan.specs.Scanned.{Found, CanBePatched, IsChanged, is_changed, IsPatch, KeepsForm, IsOn, IsCountedAt, IsFirstCounted, IsLastRow, HasRows, AreFound, IsBadPatch, IsBadStub, IsLeastAddress, IsFirstWhy}
use Rattle.foreign_scan.specs.Stubs.{AreSameOn}
use Rattle.foreign_scan.proofs.EdgeLaws.{HasEdge, node_kind}
use Rattle.foreign_scan.proofs.HoldLaws.{one_instr}
use Rattle.foreign_scan.proofs.OneFragment.{one_list}
use Rattle.foreign_scan.proofs.PatchLaws.{patch_from, patch_to}

-- ---- one stub

one_run_out : (image : Image) (at to : ℕ) (fs gs : List ForeignFragment) → IsRunOut image at to fs → IsRunOut image at to gs → fs ≡ gs
one_run_out image at to fs gs p q =
    elim (cases_order (length fs) (length gs)) [
      | inl e ↦ one_list image at to fs gs p.foreign p.code p.jump q.foreign q.code (inl (omega (arith, e)))
      | inr either ↦
          ⊎_elim
          (λ lt. one_list image at to fs gs p.foreign p.code p.jump q.foreign q.code (inl (omega (arith, lt))))
          (λ gt. sym (one_list image at to gs fs q.foreign q.code q.jump p.foreign p.code (inl (omega (arith, gt)))))
          either
    ]

one_stub : (image : Image) (v stub : ℕ) (i : Instr) (f g : EdgeKind → List ForeignFragment) → IsStub image v stub i f → IsStub image v stub i g → AreSameOn i f g
one_stub image v stub (instr.Branch op rs1 rs2 offset) f g p q =
    let again : instr.Branch op rs1 rs2 p.offset ≡ instr.Branch op rs1 rs2 q.offset = one_instr image stub _ _ p.again q.again in
    let way : p.offset ≡ q.offset = cc in (
      one_run_out image _ _ (f Untaken) (g Untaken) p.passed q.passed,
      one_run_out image _ _ (f Taken) (g Taken) (subst (λ z. IsRunOut image (moved_by stub z) (moved_by v offset) (f Taken)) way p.taken) q.taken,
    )
one_stub image v stub (instr.Jal rd offset) f g p q = one_run_out image _ _ (f Jump) (g Jump) p q
one_stub image v stub i f g p q = absurd p

-- ---- the edges of a patched instruction

branch_kind : (v to : ℕ) (b : Bool) (op : BranchOp) (rs1 rs2 : ℕ) (z : ℤ) (x : Edge) → Within x (edges_of (flow.Branch to) v b) → HasEdge (instr.Branch op rs1 rs2 z) x.kind
branch_kind v to b op rs1 rs2 z x within = ⊎_elim
    (λ e. subst (λ (y : Edge). HasEdge (instr.Branch op rs1 rs2 z) y.kind) e tt)
    (λ r. ⊎_elim (λ e. subst (λ (y : Edge). HasEdge (instr.Branch op rs1 rs2 z) y.kind) e tt) (λ n. absurd n) r) within

jump_kind : (v to : ℕ) (b : Bool) (rd : ℕ) (z : ℤ) (x : Edge) → Within x (edges_of (flow.Jump to) v b) → HasEdge (instr.Jal rd z) x.kind
jump_kind v to b rd z x within = ⊎_elim (λ e. subst (λ (y : Edge). HasEdge (instr.Jal rd z) y.kind) e tt) (λ n. absurd n) within

edge_kind : (original : Image) (code : Code) → IsReachedCode (text_of original) code → (k at : ℕ) (i : Instr) → slice_get code.nodes k ≡ Some at → instr_at (text_of original) at ≡ Some i → CanBePatched i
    → (e : ℕ) (x : Edge) → slice_get code.edges e ≡ Some x → x.at ≡ at → HasEdge i x.kind
edge_kind original code is k at i node there can e x here same = by_instr i there can
  where
    word : ℕ → Flow
    word = kind_at (text_of original)

    within : (w : Flow) → word at ≡ w → (b : Bool) × Within x (edges_of w at b)
    within w kind =
        let q = edge_of_word word original.entry code is.lists e x here in
        let one : q.0 ≡ at = sym q.3 ∙ same in
        (call_returns code (word at), subst (λ u. Within x (edges_of u at (call_returns code (word at)))) kind (subst (λ u. Within x (edges_of (word u) u (call_returns code (word u)))) one q.2))

    by_instr : (i : Instr) → instr_at (text_of original) at ≡ Some i → CanBePatched i → HasEdge i x.kind
    by_instr (instr.Branch op rs1 rs2 z) there can =
        let h = within (flow.Branch (moved_by at z)) (node_kind original code is k at (instr.Branch op rs1 rs2 z) node there) in
        branch_kind at (moved_by at z) h.0 op rs1 rs2 z x h.1
    by_instr (instr.Jal rd z) there can =
        let h = within (flow.Jump (moved_by at z)) (node_kind original code is k at (instr.Jal rd z) node there ∙ ap (λ r. jal_kind r (moved_by at z)) can) in
        jump_kind at (moved_by at z) h.0 rd z x h.1
    by_instr i there can = absurd can

same_kinds : (i : Instr) (f g : EdgeKind → List ForeignFragment) → CanBePatched i → AreSameOn i f g → ((kind : EdgeKind) → (HasEdge i kind → ⊥) → f kind ≡ g kind) → (kind : EdgeKind) → f kind ≡ g kind
same_kinds (instr.Branch op rs1 rs2 z) f g can same rest Taken = same.1
same_kinds (instr.Branch op rs1 rs2 z) f g can same rest Untaken = same.0
same_kinds (instr.Branch op rs1 rs2 z) f g can same rest Jump = rest Jump (λ h. h)
same_kinds (instr.Branch op rs1 rs2 z) f g can same rest Next = rest Next (λ h. h)
same_kinds (instr.Branch op rs1 rs2 z) f g can same rest CallNext = rest CallNext (λ h. h)
same_kinds (instr.Branch op rs1 rs2 z) f g can same rest End = rest End (λ h. h)
same_kinds (instr.Jal rd z) f g can same rest Jump = same
same_kinds (instr.Jal rd z) f g can same rest Taken = rest Taken (λ h. h)
same_kinds (instr.Jal rd z) f g can same rest Untaken = rest Untaken (λ h. h)
same_kinds (instr.Jal rd z) f g can same rest Next = rest Next (λ h. h)
same_kinds (instr.Jal rd z) f g can same rest CallNext = rest CallNext (λ h. h)
same_kinds (instr.Jal rd z) f g can same rest End = rest End (λ h. h)
same_kinds i f g can same rest kind = absurd can

-- ---- two that are found

module _ (original foreign : Image) (code : Code) (l : Loops) (is : IsReachedCode (text_of original) code) (patches : (at : ℕ) → IsChanged original foreign at → IsPatch original foreign code at) where
  -- at a stub in its form
  same_kept : (f g : Found) → AreFound original foreign code f → AreFound original foreign code g → (at : ℕ) → IsChanged original foreign at → KeepsForm original foreign code f at → (kind : EdgeKind) → f at kind ≡ g at kind
  same_kept f g af ag at changed form =
      let p = patches at changed in
      let other : KeepsForm original foreign code g at = ag.some at f changed form in
      same_kinds p.old_instr (f at) (g at) p.can_be (one_stub foreign at (moved_by at p.offset) p.old_instr (f at) (g at) (form p) (other p))
      (λ kind fails.
      let none : (e : ℕ) (edge : Edge) → slice_get code.edges e ≡ Some edge → edge.at ≡ at → edge.kind ≡ kind → ⊥ =
      λ e edge here there same. fails (subst (HasEdge p.old_instr) same (edge_kind original code is p.node.0 at p.old_instr p.node.1 p.old p.can_be e edge here there)) in
      af.edges at kind none ∙ sym (ag.edges at kind none))

  counted_over : (f g : Found) → AreFound original foreign code f → AreFound original foreign code g → (counter k e : ℕ) (edge : Edge) → IsCountedAt original foreign code l f counter k e edge → IsCountedAt original foreign code l g counter k e edge
  counted_over f g af ag counter k e edge c = record {
    there = c.there;
    low = c.low;
    back = c.back;
    changed = c.changed;
    form = ag.some edge.at f c.changed c.form;
    counts = subst (IsOn (Count counter)) (same_kept f g af ag edge.at c.changed c.form edge.kind) c.counts;
  }

  first_over : (f g : Found) → AreFound original foreign code f → AreFound original foreign code g → (counter k : ℕ) → IsFirstCounted original foreign code l f counter k → IsFirstCounted original foreign code l g counter k
  first_over f g af ag counter k c = record {
    e = c.e;
    edge = c.edge;
    counted = counted_over f g af ag counter k c.e c.edge c.counted;
    first = λ j d other there before. c.first j d other (counted_over g f ag af counter j d other there) before;
  }

  last_over : (f g : Found) → AreFound original foreign code f → AreFound original foreign code g → (counter shift last : ℕ) → IsLastRow original foreign code l f counter shift last → IsLastRow original foreign code l g counter shift last
  last_over f g af ag counter shift last h = ⊎_elim
      (λ first. inl (first.0, first_over f g af ag counter first.0 first.1, first.2))
      (λ none. inr (λ k first. none.0 k (first_over g f ag af counter k first), none.1)) h

  rows_over : (f g : Found) → AreFound original foreign code f → AreFound original foreign code g → (at : ℕ) → IsChanged original foreign at → KeepsForm original foreign code f at → HasRows original foreign code l f at → HasRows original foreign code l g at
  rows_over f g af ag at changed form has kind counter shift table last on row =
      has kind counter shift table last (subst (IsOn (Exit counter shift table)) (sym (same_kept f g af ag at changed form kind)) on) (last_over g f ag af counter shift last row)

  bad_over : (f g : Found) → AreFound original foreign code f → AreFound original foreign code g → (at : ℕ) → IsBadStub original foreign code l f at → IsBadStub original foreign code l g at
  bad_over f g af ag at bad = (bad.0, λ both. bad.1 (af.some at g bad.0 both.0, rows_over g f ag af at bad.0 both.0 both.1))

-- ---- the first cause

-- a changed word is patched, where none is a bad one
patched : (original foreign : Image) (code : Code) → ((a : ℕ) → IsBadPatch original foreign code a → ⊥) → (at : ℕ) → IsChanged original foreign at → IsPatch original foreign code at
patched original foreign code none at changed =
    elim (cases_Bool (is_patch_at original foreign code.nodes at)) [
      | inl holds ↦ patch_from original foreign code at holds
      | inr fails ↦ absurd (none at (changed, λ p. both_ways (is_patch_at original foreign code.nodes at) fails (patch_to original foreign code at p)))
    ]

least_one : (P Q : ℕ → Type 0) (a b : ℕ) → ((at : ℕ) → P at → Q at) → ((at : ℕ) → Q at → P at) → IsLeastAddress P a → IsLeastAddress Q b → a ≡ b
least_one P Q a b over back p q =
    elim (cases_order a b) [
      | inl e ↦ e
      | inr either ↦ absurd (⊎_elim (λ lt. q.1 a lt (over a p.0)) (λ gt. p.1 b gt (back b q.0)) either)
    ]

one_address : (P : ℕ → Type 0) (a b : ℕ) → IsLeastAddress P a → IsLeastAddress P b → a ≡ b
one_address P a b p q = least_one P P a b (λ at h. h) (λ at h. h) p q

pub scan_is_not_refused : ScanIsNotRefused
scan_is_not_refused original foreign code l found w is scanned first = by_why w first
  where
    by_why : (w : Why) → IsFirstWhy original foreign code l w → ⊥
    by_why why.NoKey h = scanned.key h
    by_why why.Layout h = h.1 scanned.layout
    by_why (why.Byte at) h = scanned.bytes at h.2.0
    by_why (why.Patch at) h = h.3.0.1 (scanned.patches at h.3.0.0)
    by_why (why.Stub at) h =
        let bad = bad_over original foreign code l is scanned.patches h.4.0 found h.4.1 scanned.found_are at h.4.2.0 in
        bad.1 (scanned.stubs at bad.0)
    by_why other h = absurd h

pub causes_agree : CausesAgree
causes_agree original foreign code l w v is first second = by_whys w v first second
  where
    by_whys : (w v : Why) → IsFirstWhy original foreign code l w → IsFirstWhy original foreign code l v → w ≡ v
    by_whys why.NoKey why.NoKey p q = refl
    by_whys why.NoKey why.Layout p q = absurd (q.0 p)
    by_whys why.NoKey (why.Byte b) p q = absurd (q.0 p)
    by_whys why.NoKey (why.Patch b) p q = absurd (q.0 p)
    by_whys why.NoKey (why.Stub b) p q = absurd (q.0 p)
    by_whys why.NoKey other p q = absurd q
    by_whys why.Layout why.NoKey p q = absurd (p.0 q)
    by_whys why.Layout why.Layout p q = refl
    by_whys why.Layout (why.Byte b) p q = absurd (p.1 q.1)
    by_whys why.Layout (why.Patch b) p q = absurd (p.1 q.1)
    by_whys why.Layout (why.Stub b) p q = absurd (p.1 q.1)
    by_whys why.Layout other p q = absurd q
    by_whys (why.Byte a) why.NoKey p q = absurd (p.0 q)
    by_whys (why.Byte a) why.Layout p q = absurd (q.1 p.1)
    by_whys (why.Byte a) (why.Byte b) p q = ap why.Byte (one_address _ a b p.2 q.2)
    by_whys (why.Byte a) (why.Patch b) p q = absurd (q.2 a p.2.0)
    by_whys (why.Byte a) (why.Stub b) p q = absurd (q.2 a p.2.0)
    by_whys (why.Byte a) other p q = absurd q
    by_whys (why.Patch a) why.NoKey p q = absurd (p.0 q)
    by_whys (why.Patch a) why.Layout p q = absurd (q.1 p.1)
    by_whys (why.Patch a) (why.Byte b) p q = absurd (p.2 b q.2.0)
    by_whys (why.Patch a) (why.Patch b) p q = ap why.Patch (one_address _ a b p.3 q.3)
    by_whys (why.Patch a) (why.Stub b) p q = absurd (q.3 a p.3.0)
    by_whys (why.Patch a) other p q = absurd q
    by_whys (why.Stub a) why.NoKey p q = absurd (p.0 q)
    by_whys (why.Stub a) why.Layout p q = absurd (q.1 p.1)
    by_whys (why.Stub a) (why.Byte b) p q = absurd (p.2 b q.2.0)
    by_whys (why.Stub a) (why.Patch b) p q = absurd (p.3 b q.3.0)
    by_whys (why.Stub a) (why.Stub b) p q =
        let all = patched original foreign code p.3 in
        let over = bad_over original foreign code l is all p.4.0 q.4.0 p.4.1 q.4.1 in
        let back = bad_over original foreign code l is all q.4.0 p.4.0 q.4.1 p.4.1 in
        ap why.Stub (least_one (IsBadStub original foreign code l p.4.0) (IsBadStub original foreign code l q.4.0) a b over back p.4.2 q.4.2)
    by_whys (why.Stub a) other p q = absurd q
    by_whys other v p q = absurd p

-- ---- what is found

is_or_not : (original foreign : Image) (at : ℕ) → IsChanged original foreign at ⊎ (IsChanged original foreign at → ⊥)
is_or_not original foreign at =
    elim (cases_Bool (is_word_address original at)) [
      | inr fails ↦ inr (λ h. both_ways (is_word_address original at) fails h.0)
      | inl word ↦
          elim (cases_Bool (is_changed original foreign at)) [
            | inr fails ↦ inr (λ h. both_ways (is_changed original foreign at) fails h.1)
            | inl changed ↦ inl (word, changed)
          ]
    ]

pub found_agree : FoundAgree
found_agree original foreign code l found other is p q at kind = ⊎_elim
    (λ changed. same_kept original foreign code l is p.patches found other p.found_are q.found_are at changed (p.stubs at changed).0 kind)
    (λ plain. p.found_are.plain at kind plain ∙ sym (q.found_are.plain at kind plain)) (is_or_not original foreign at)
