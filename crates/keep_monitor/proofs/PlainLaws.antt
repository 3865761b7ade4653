-- A step that changes nothing of what is watched.
use Rattle.std.proofs.Common.{◌≡◌, ℕ, ◌+◌, ◌<◌, ◌≤◌, Bool, true, false, nat_lt, List, [], ◌∷◌, length, get_or, set, Option, Some, None, refl, sym, ap, ◌∙◌, subst, arith, ⊎_elim}
use Rattle.std.proofs.lemmas.Bool.{cond-false, le-ltb, cases_eq}
use Rattle.std.proofs.lemmas.List.{length-set, get_or-set_other}
use Rattle.std.proofs.lemmas.Grind.{get_or-set_at}
use Rattle.std.specs.Option.{option_map}
use Rattle.std.specs.Prelude.{slice_index_or}
use Rattle.scale_base.specs.declared.endings.Kept.{Kept}
use Rattle.scale_base.specs.declared.endings.Kept.TheVariants.{BrokeBound, BrokeReturn, BrokeDepth}
use Rattle.scale_base.specs.declared.endings.Kept.TheVariants as kinds
use Rattle.scale_base.specs.declared.stepping.Move.{Move}
use Rattle.scale_base.specs.declared.stepping.Move.TheVariants.{Local}
use Rattle.scale_base.specs.declared.stepping.Stepped.{Stepped}
use Rattle.graph_runs.specs.ReturnAddresses.{returns_after, returns_by}
use Rattle.graph_runs.specs.KeptSteps.{source_of}
use Rattle.loop_file.specs.declared.notes.LoopNote.{LoopNote}
use Rattle.loop_file.specs.Kept.{note_at}
use Rattle.graph_runs.specs.KeptRuns.{most_returns}
use Rattle.keep_monitor.specs.Slots.{slot_of, AreSlotsOf}
use Rattle.keep_monitor.specs.Watch.{Watched, watch}
use Rattle.keep_monitor.specs.Steps.{broken_by, broken_loop, counts_after_step, loop_over, loop_left, lesser_loop, AreTurning, AreCounts}
use Rattle.keep_monitor.proofs.CountLaws.{find_none, other_kept, stepped_else}
use Rattle.keep_monitor.proofs.BreakLaws.{at_end, broken_is, none_left}
use Rattle.keep_monitor.proofs.StepLaws.{step_kept, watch_goes_on, watch_stays}

-- ---- slots

pub slots_none : (notes : List LoopNote) (slots : List Bool) → length slots ≡ 65536 → AreSlotsOf notes 0 slots
slots_none notes slots size = record { size = size; marked = λ k kl b. absurd (omega arith) }

-- the slot of one header more
pub slots_more : (notes : List LoopNote) (n : ℕ) (slots : List Bool) (note : LoopNote) → note_at notes n ≡ note → AreSlotsOf notes n slots →
    AreSlotsOf notes (n + 1) (set slots (slot_of note.header) true)
slots_more notes n slots note is are = record { size = length-set slots (slot_of note.header) true ∙ are.size; marked = marked }
  where
    here : slot_of note.header < length slots
    here = subst (λ m. slot_of note.header < m) (sym are.size) (omega arith)

    marked : (k : ℕ) → k < n + 1 → (b : Bool) → get_or (set slots (slot_of note.header) true) (slot_of (note_at notes k).header) b ≡ true
    marked k kl b = ⊎_elim
        (λ (e : slot_of (note_at notes k).header ≡ slot_of note.header). get_or-set_at slots (slot_of note.header) (slot_of (note_at notes k).header) true b e here)
        (λ (ne : slot_of (note_at notes k).header ≡ slot_of note.header → ⊥). ⊎_elim
        (λ (low : k < n). get_or-set_other slots (slot_of note.header) (slot_of (note_at notes k).header) true b ne ∙ are.marked k low b)
        (λ (last : k ≡ n). absurd (ne (ap (λ (o : LoopNote). slot_of o.header) (ap (note_at notes) last ∙ is))))
        (at_end k n kl))
        (cases_eq (slot_of (note_at notes k).header) (slot_of note.header))

-- no loop has its header at an address whose slot isn't marked
pub no_header : (notes : List LoopNote) (slots : List Bool) (at : ℕ) → AreSlotsOf notes (length notes) slots → slice_index_or slots (slot_of at) true ≡ false →
    (k : ℕ) → k < length notes → (note_at notes k).header ≡ at → ⊥
no_header notes slots at are free k kl is =
    let marked : slice_index_or slots (slot_of at) true ≡ true = ap (λ a. slice_index_or slots (slot_of a) true) (sym is) ∙ are.marked k kl true in
    cc

-- no loop that has to turn, and none whose header is the target: no rule on loops is broken
none_broken : (notes : List LoopNote) (counts : List ℕ) (source : Option ℕ) (x : Stepped) → AreTurning notes (length notes) [] → AreCounts notes counts →
    ((k : ℕ) → k < length notes → (note_at notes k).header ≡ x.next → ⊥) → broken_loop notes counts source x ≡ None
none_broken notes counts source x idle fit none =
    let over : loop_over notes counts source x.next ≡ None =
    find_none (length notes) (λ k. nat_lt (note_at notes k).bound (counts_after_step notes counts source x.next k)) (λ k kl. other_kept notes counts source x.next k fit kl (none k kl)) in
    let left : loop_left notes counts x ≡ None = none_left notes [] counts x idle (λ j jl. absurd (omega arith)) in
    ap (option_map (λ k. BrokeBound (k + 1) (counts_after_step notes counts source x.next k)))
    (broken_is notes counts source x ∙ (ap (λ o. lesser_loop o (loop_left notes counts x)) over ∙ ap (lesser_loop None) left))

pub plain_step : (w : Watched) (x : Stepped) → x.moved ≡ Local → AreTurning w.notes (length w.notes) [] → AreCounts w.notes w.counts → length w.returns ≤ most_returns →
    ((k : ℕ) → k < length w.notes → (note_at w.notes k).header ≡ x.next → ⊥) → w ≡ watch w x
plain_step w x moved idle fit shallow none = go w.kept refl
  where
    go : (k : Kept) → w.kept ≡ k → w ≡ watch w x
    go kinds.Kept e =
        let source : Option ℕ = source_of x.moved x.pc w.returns in
        let same : returns_after w.returns x ≡ Some w.returns = ap (λ (m : Move). returns_by m w.returns x) moved in
        let few : nat_lt most_returns (length w.returns) ≡ false = le-ltb most_returns (length w.returns) shallow in
        let unbroken : broken_by x (returns_after w.returns x) ≡ None = ap (broken_by x) same ∙ cond-false _ _ _ few in
        ap (λ (k : Kept). record w { kept = k }) e ∙
        (step_kept w.notes w.returns w.counts x (returns_after w.returns x) w.returns w.counts unbroken (none_broken w.notes w.counts source x idle fit none) same fit.size
        (λ k kl. sym (stepped_else w.notes w.counts source x.next k (none k kl))) ∙ watch_goes_on w x e)
    go (BrokeBound loop_no count) e = watch_stays w x (λ kept. let bad : ⊥ = cc in bad)
    go (BrokeReturn at to) e = watch_stays w x (λ kept. let bad : ⊥ = cc in bad)
    go (BrokeDepth at) e = watch_stays w x (λ kept. let bad : ⊥ = cc in bad)

-- no numbers
pub no_numbers : (xs : List ℕ) → length xs ≡ 0 → xs ≡ []
no_numbers [] e = refl
no_numbers (x ∷ xs) e = absurd (omega arith)
