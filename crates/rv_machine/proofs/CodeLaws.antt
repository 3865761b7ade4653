-- Instructions of words that no step can change.
use Rattle.std.proofs.Common.{rules, ◌≡◌, ℕ, zero, suc, ◌+◌, ◌*◌, ◌/◌, ◌%◌, ◌^◌, ◌<◌, ◌≤◌, ◌==◌, cond, Bool, true, false, not, List, [], ◌∷◌, length, get_or, Option, Some, None, refl, ap, sym, ◌∙◌, subst, arith, inl, inr, vec_len, add-zero}
use Rattle.std.proofs.lemmas.Bool.{cases_lt, not-true, cond-true, eqb-true}
use Rattle.scale_base.specs.declared.instruction.Instr.{Instr}
use Rattle.rv_machine.specs.declared.decoded.Decoded.{Decoded}
use Rattle.rv_machine.specs.declared.decoded.Effect.{Effect}
use Rattle.rv_machine.specs.declared.decoded.Effect.TheVariants.{Went, Branched, Switched, Exited, Trapped}
use Rattle.rv_machine.specs.Decoded.{TellsOf, decoded_end, end_by}
use Rattle.scale_base.specs.Word.{FieldsInRange}
use Rattle.scale_base.specs.Reading.{instr_of}
use Rattle.scale_base.specs.Layout.{Layout, each_byte, may_write, can_fetch}
use Rattle.scale_base.proofs.Laws.{each_byte_at}
use Rattle.scale_base.specs.State.{Setting, State, word_at}
use Rattle.scale_base.specs.declared.stepping.Class.{Class}
use Rattle.scale_base.specs.declared.stepping.Move.{Move}
use Rattle.scale_base.specs.declared.stepping.Stepped.{Stepped}
use Rattle.scale_base.specs.declared.stepping.StepEnd.TheVariants as ends
use Rattle.scale_base.specs.Step.{step, executes, performs}
use Rattle.rv_machine.specs.Code.{IsFixed, instr_in, code_page_in, decoded_at, known_at, IsDecodedCode, MayBeFixed, MayBePage, MayBeGroup}
use Rattle.rv_machine.specs.declared.code.CodePage.{CodePage}
use Rattle.rv_machine.specs.declared.code.CodeGroup.{CodeGroup}
use Rattle.rv_machine.specs.declared.code.Code.{Code}

some_index : {A : Type 0} (xs : List A) (k : ℕ) (d e : A) → k < length xs → get_or xs k d ≡ get_or xs k e
some_index [] k d e lt = absurd (omega arith)
some_index (x ∷ xs) zero d e lt = refl
some_index (x ∷ xs) (suc k) d e lt = some_index xs k d e (omega arith)

index_past : {A : Type 0} (xs : List A) (k : ℕ) (d : A) → length xs ≤ k → get_or xs k d ≡ d
index_past [] k d le = refl
index_past (x ∷ xs) zero d le = absurd (omega arith)
index_past (x ∷ xs) (suc k) d le = index_past xs k d (omega arith)

-- ---- a step

-- a fixed instruction is the one that is performed
pub step_fixed : (env : Setting) (s : State) (d : Decoded) → IsFixed env.layout s.bytes s.pc d → step env s ≡ performs env s d.instr d.instr
unfolding step
step_fixed env s d h = cond-true (can_fetch env.layout s.pc) _ _ h.fetched ∙ ap (executes env s) h.instr

-- what its steps tell is what they are by the definition
abbrev told : ℕ → ℕ → Option ℕ → Class → Move → Bool → Stepped
told pc next port class moved keyed = record { pc = pc; next = next; class = class; moved = moved; keyed = keyed; port = port }

told_same : (pc next : ℕ) (port : Option ℕ) (class class' : Class) (moved moved' : Move) (keyed keyed' : Bool) →
    class ≡ class' → moved ≡ moved' → keyed ≡ keyed' → told pc next port class moved keyed ≡ told pc next port class' moved' keyed'
told_same pc next port class class' moved moved' keyed keyed' a b c = cc

pub told_end : (env : Setting) (s : State) (d : Decoded) (effect : Effect) (next : ℕ) → TellsOf env.layout s.pc d → decoded_end d s.pc effect next ≡ end_by env s d.instr effect next
told_end env s d Went next t = ap (λ x. ends.Went x) (told_same s.pc next None _ _ _ _ _ _ t.untaken t.moved t.keyed)
told_end env s d Branched next t = ap (λ x. ends.Went x) (told_same s.pc next None _ _ _ _ _ _ t.taken t.moved t.keyed)
told_end env s d (Switched level) next t = ap (λ x. ends.Went x) (told_same s.pc next (Some level) _ _ _ _ _ _ t.untaken t.moved t.keyed)
told_end env s d (Exited status) next t = ap (λ x. ends.Exited x status) (told_same s.pc next None _ _ _ _ _ _ t.untaken t.moved t.keyed)
told_end env s d (Trapped trap) next t = refl

-- bytes that may not be written stay, and so does the instruction
pub fixed_stays : (l : Layout) (bytes bytes' : ℕ → ℕ) (at : ℕ) (d : Decoded) → ((a : ℕ) → may_write l a ≡ false → bytes' a ≡ bytes a) → IsFixed l bytes at d → IsFixed l bytes' at d
fixed_stays l bytes bytes' at d stays h =
    let b0 : bytes' at ≡ bytes at = stays at (ap (may_write l) (sym (add-zero at)) ∙ h.unwritten 0 (omega arith)) in
    let b1 = stays (at + 1) (h.unwritten 1 (omega arith)) in
    let b2 = stays (at + 2) (h.unwritten 2 (omega arith)) in
    let b3 = stays (at + 3) (h.unwritten 3 (omega arith)) in
    let same : word_at bytes' at ≡ word_at bytes at =
    ap (λ n. n + bytes' (at + 1) * 2 ^ 8 + bytes' (at + 2) * 2 ^ 16 + bytes' (at + 3) * 2 ^ 24) b0
    ∙ (ap (λ n. bytes at + n * 2 ^ 8 + bytes' (at + 2) * 2 ^ 16 + bytes' (at + 3) * 2 ^ 24) b1
    ∙ (ap (λ n. bytes at + bytes (at + 1) * 2 ^ 8 + n * 2 ^ 16 + bytes' (at + 3) * 2 ^ 24) b2
    ∙ ap (λ n. bytes at + bytes (at + 1) * 2 ^ 8 + bytes (at + 2) * 2 ^ 16 + n * 2 ^ 24) b3)) in
    record { fetched = h.fetched; instr = ap instr_of same ∙ h.instr; fields = h.fields; tells = h.tells; unwritten = h.unwritten }

pub code_stays : (l : Layout) (bytes bytes' : ℕ → ℕ) (code : Code) → ((a : ℕ) → may_write l a ≡ false → bytes' a ≡ bytes a) → IsDecodedCode l bytes code → IsDecodedCode l bytes' code
code_stays l bytes bytes' code stays h = record { fixed = λ word d is. fixed_stays l bytes bytes' (4 * word) d stays (h.fixed word d is) }

-- ---- as it is made

fixed_of : (l : Layout) (bytes : ℕ → ℕ) (at : ℕ) (o : Option Decoded) (d : Decoded) → o ≡ Some d → MayBeFixed l bytes at o → IsFixed l bytes at d
fixed_of l bytes at None d is h = absurd cc
fixed_of l bytes at (Some e) d is h = let same : e ≡ d = cc in subst (IsFixed l bytes at) same h

in_page : (l : Layout) (bytes : ℕ → ℕ) (n k : ℕ) (o : Option CodePage) → k < 1024 → MayBePage l bytes n o → MayBeFixed l bytes (4 * (n * 1024 + k)) (instr_in o k)
in_page l bytes n k None lt h = tt
in_page l bytes n k (Some p) lt h =
    let size : length p.instrs.items ≡ vec_len p.instrs = search rules in
    let inside : k < length p.instrs.items = omega (arith, p.count) in
    h k (get_or p.instrs.items k None) lt (some_index p.instrs.items k None (get_or p.instrs.items k None) inside)

in_group : (l : Layout) (bytes : ℕ → ℕ) (m j : ℕ) (o : Option CodeGroup) → j < 1024 → MayBeGroup l bytes m o → MayBePage l bytes (m * 1024 + j) (code_page_in o j)
in_group l bytes m j None lt h = tt
in_group l bytes m j (Some g) lt h =
    let size : length g.pages.items ≡ vec_len g.pages = search rules in
    let inside : j < length g.pages.items = omega (arith, g.count) in
    h j (get_or g.pages.items j None) lt (some_index g.pages.items j None (get_or g.pages.items j None) inside)

abbrev pub AreGroups : Layout → (ℕ → ℕ) → List (Option CodeGroup) → Type 0
AreGroups l bytes groups = (m : ℕ) (o : Option CodeGroup) → m < 1024 → o ≡ get_or groups m o → MayBeGroup l bytes m o

in_code : (l : Layout) (bytes : ℕ → ℕ) (groups : List (Option CodeGroup)) (word : ℕ) → length groups ≡ 1024 → AreGroups l bytes groups → MayBeFixed l bytes (4 * word) (decoded_at groups word)
unfolding decoded_at
in_code l bytes groups word size h =
    elim (cases_lt (word / 1024 / 1024) 1024) [
      | inl lt ↦
          (let o = get_or groups (word / 1024 / 1024) None in
          let group = h (word / 1024 / 1024) o lt (some_index groups (word / 1024 / 1024) None o (omega arith)) in
          let page = in_group l bytes (word / 1024 / 1024) (word / 1024 % 1024) o (omega arith) group in
          let n : (word / 1024 / 1024) * 1024 + word / 1024 % 1024 ≡ word / 1024 = omega arith in
          let is : (word / 1024) * 1024 + word % 1024 ≡ word = omega arith in
          subst (λ w. MayBeFixed l bytes (4 * w) (instr_in (code_page_in o (word / 1024 % 1024)) (word % 1024))) is
          (in_page l bytes (word / 1024) (word % 1024) (code_page_in o (word / 1024 % 1024)) (omega arith) (subst (λ p. MayBePage l bytes p (code_page_in o (word / 1024 % 1024))) n page)))
      | inr far ↦ subst (λ o. MayBeFixed l bytes (4 * word) (instr_in (code_page_in o (word / 1024 % 1024)) (word % 1024))) (sym (index_past groups (word / 1024 / 1024) None (omega arith))) tt
    ]

pub code_made : (l : Layout) (bytes : ℕ → ℕ) (groups : List (Option CodeGroup)) → length groups ≡ 1024 → AreGroups l bytes groups → (word : ℕ) (d : Decoded) → decoded_at groups word ≡ Some d → IsFixed l bytes (4 * word) d
code_made l bytes groups size h word d is = fixed_of l bytes (4 * word) (decoded_at groups word) d is (in_code l bytes groups word size h)

-- what may not be written, byte by byte
pub unwritten_all : (l : Layout) (at : ℕ) → each_byte (λ a. not (may_write l a)) at 4 ≡ true → (k : ℕ) → k < 4 → may_write l (at + k) ≡ false
unwritten_all l at all k lt = not-true (may_write l (at + k)) (each_byte_at (λ a. not (may_write l a)) at k 4 lt all)

-- the instruction of a word that may be fetched and not written
pub fixed_made : (l : Layout) (bytes : ℕ → ℕ) (at word : ℕ) (i : Instr) (d : Decoded) → Some i ≡ instr_of word → word ≡ word_at bytes at → can_fetch l at ≡ true →
    each_byte (λ a. not (may_write l a)) at 4 ≡ true → FieldsInRange i → d.instr ≡ i → TellsOf l at d → IsFixed l bytes at d
fixed_made l bytes at word i d read is fetched unwritten fields same tells = record {
  fetched = fetched;
  instr = ap instr_of (sym is) ∙ (sym read ∙ ap (λ j. Some j) (sym same));
  fields = subst FieldsInRange (sym same) fields;
  tells = tells;
  unwritten = unwritten_all l at unwritten;
}

-- an instruction that is known at an address
aligned_known : (groups : List (Option CodeGroup)) (at : ℕ) (b : Bool) (d : Decoded) → cond b (decoded_at groups (at / 4)) None ≡ Some d → (b ≡ true) × (decoded_at groups (at / 4) ≡ Some d)
aligned_known groups at true d is = (refl, is)
aligned_known groups at false d is = absurd cc

pub known_fixed : (l : Layout) (bytes : ℕ → ℕ) (code : Code) (at : ℕ) (d : Decoded) → IsDecodedCode l bytes code → known_at code.groups.items at ≡ Some d → IsFixed l bytes at d
unfolding known_at
known_fixed l bytes code at d h is =
    let parts = aligned_known code.groups.items at (at % 4 == 0) d is in
    let aligned : at % 4 ≡ 0 = eqb-true (at % 4) 0 parts.0 in
    let same : 4 * (at / 4) ≡ at = omega arith in
    subst (λ a. IsFixed l bytes a d) same (h.fixed (at / 4) d parts.1)
