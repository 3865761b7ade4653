-- The steps of a passage: where they are fetched, what they cost, and what they store at the port.
use Rattle.std.proofs.Common.{◌≡◌, ℕ, zero, suc, ◌+◌, ◌*◌, ◌%◌, ◌^◌, ◌<◌, Bool, true, false, cond, List, [], ◌∷◌, ◌++◌, length, drop, refl, arith, sym, ◌∙◌, ap, subst, append_assoc}
use Rattle.std.specs.Prelude.{All, slice_index, Option, Some, None}
use Rattle.std.specs.List.{sum_by}
use Rattle.std.proofs.lemmas.List.Elements.{All-nil, All-cons, All-append}
use Rattle.std.proofs.lemmas.List.Sums.{sum_by-cons, sum_by-append}
use Rattle.scale_base.specs.declared.fragments.Fragment.{Fragment}
use Rattle.scale_base.specs.declared.fragments.Fragment.TheVariants.{Switch, Exit, Reset, Count, Lowest, Tally}
use Rattle.scale_base.specs.declared.instruction.Instr.{Instr}
use Rattle.scale_base.specs.declared.stepping.Class.{Class}
use Rattle.scale_base.specs.declared.stepping.Class.TheVariants as classes
use Rattle.scale_base.specs.declared.stepping.Stepped.{Stepped}
use Rattle.scale_base.specs.Class.{class_of}
use Rattle.scale_base.specs.State.{State}
use Rattle.stub_writer.specs.Fragments.{port, code_len, rows_len, switch_code, exit_code, count_code, reset_code, lowest_code, tally_code}
use Rattle.stub_writer.specs.Stubs.{Way, jump_at}
use Rattle.stored_runs.specs.Meaning.{four_bits, is_due, keyed_step, along, along_storing}
use Rattle.stored_runs.specs.Ways.{row_at, window_behind, fragment_steps, fragments_steps, turn, way_steps}
use Rattle.stored_runs.specs.Cycles.{stepped_cycles, fragment_cost}
use Rattle.stored_runs.proofs.Cycles.{fragments_cycles}
use Rattle.stored_runs.specs.Marks.{tail_cycles}
use Rattle.stored_runs.specs.Legs.{StoresOnce, StoresLevel}
use Rattle.stored_runs.specs.Stubbed.{IsQuiet, AreOrdered}
use Rattle.stored_runs.proofs.Windows.{port_by}

abbrev pub IsKeyed : Stepped → Type 0
IsKeyed x = x.keyed ≡ true

abbrev pub IsSilent : Stepped → Type 0
IsSilent x = x.port ≡ None

-- ---- the steps of one fragment

along_keyed : (at : ℕ) (is : List Instr) → All IsKeyed (along at is)
along_keyed at [] = All-nil IsKeyed
along_keyed at (i ∷ is) = All-cons IsKeyed (keyed_step at i None) (along (at + 4) is) refl (along_keyed (at + 4) is)

along_silent : (at : ℕ) (is : List Instr) → All IsSilent (along at is)
along_silent at [] = All-nil IsSilent
along_silent at (i ∷ is) = All-cons IsSilent (keyed_step at i None) (along (at + 4) is) refl (along_silent (at + 4) is)

storing_keyed : (n level at : ℕ) (is : List Instr) → All IsKeyed (along_storing n level at is)
storing_keyed n level at [] = All-nil IsKeyed
storing_keyed zero level at (i ∷ is) = All-cons IsKeyed (keyed_step at i (Some level)) (along (at + 4) is) refl (along_keyed (at + 4) is)
storing_keyed (suc n) level at (i ∷ is) = All-cons IsKeyed (keyed_step at i None) (along_storing n level (at + 4) is) refl (storing_keyed n level (at + 4) is)

along_cycles : (costs : Class → ℕ) (at : ℕ) (is : List Instr) → stepped_cycles costs (along at is) ≡ sum_by (λ i. costs (class_of i false)) is
along_cycles costs at [] = refl
along_cycles costs at (i ∷ is) =
    let rest = along_cycles costs (at + 4) is in
    omega (arith, rest, sum_by-cons (λ i. costs (class_of i false)) i is, sum_by-cons (λ x. costs x.class) (keyed_step at i None) (along (at + 4) is))

-- the store at the port, with the steps before and behind it
storing_parts : (n level at : ℕ) (is : List Instr) → n < length is → StoresOnce level (λ costs. sum_by (λ i. costs (class_of i false)) (drop (suc n) is)) (along_storing n level at is)
storing_parts n level at [] lt = absurd (omega arith)
storing_parts zero level at (i ∷ is) lt = record {
  before = [];
  store = keyed_step at i (Some level);
  behind = along (at + 4) is;
  parts = refl;
  level_is = refl;
  none_before = All-nil IsSilent;
  none_behind = along_silent (at + 4) is;
  tail_is = λ costs. along_cycles costs (at + 4) is;
}
storing_parts (suc n) level at (i ∷ is) lt =
    let rest = storing_parts n level (at + 4) is (omega arith) in
    record {
      before = keyed_step at i None ∷ rest.before;
      store = rest.store;
      behind = rest.behind;
      parts = ap (λ xs. keyed_step at i None ∷ xs) rest.parts;
      level_is = rest.level_is;
      none_before = All-cons IsSilent (keyed_step at i None) rest.before refl rest.none_before;
      none_behind = rest.none_behind;
      tail_is = rest.tail_is;
    }

either_keyed : (stores : Bool) (n at : ℕ) (is : List Instr) → All IsKeyed (cond stores (along_storing n 0 at is) (along at is))
either_keyed true n at is = storing_keyed n 0 at is
either_keyed false n at is = along_keyed at is

fragment_keyed : (bytes : ℕ → ℕ) (table at : ℕ) (f : Fragment) (w : List ℕ) → All IsKeyed (fragment_steps bytes table at f w)
fragment_keyed bytes table at (Switch word) w = storing_keyed 8 (four_bits word (slice_index w port)) at (switch_code word)
fragment_keyed bytes table at (Exit counter shift rows) w = storing_keyed 13 (four_bits (row_at bytes table counter shift w) (slice_index w port)) at (exit_code counter shift (table % 2 ^ 32))
fragment_keyed bytes table at (Reset counter) w = along_keyed at (reset_code counter)
fragment_keyed bytes table at (Count counter) w = along_keyed at (count_code counter)
fragment_keyed bytes table at (Lowest down) w = either_keyed down 0 at (lowest_code down)
fragment_keyed bytes table at (Tally counter shift from) w = either_keyed (is_due shift from (slice_index w counter)) 8 at (tally_code counter shift from)

pub fragments_keyed : (bytes : ℕ → ℕ) (regs : List ℕ) (table at : ℕ) (fs : List Fragment) (w : List ℕ) → All IsKeyed (fragments_steps bytes regs table at fs w)
fragments_keyed bytes regs table at [] w = All-nil IsKeyed
fragments_keyed bytes regs table at (f ∷ fs) w =
    All-append IsKeyed (fragment_steps bytes table at f w) _ (fragment_keyed bytes table at f w) (fragments_keyed bytes regs (table + 4 * rows_len f) (at + 4 * code_len f) fs (window_behind bytes regs table f w))

fragment_silent : (bytes : ℕ → ℕ) (table at : ℕ) (f : Fragment) (w : List ℕ) → IsQuiet f → All IsSilent (fragment_steps bytes table at f w)
fragment_silent bytes table at (Switch word) w quiet = absurd quiet
fragment_silent bytes table at (Exit counter shift rows) w quiet = absurd quiet
fragment_silent bytes table at (Reset counter) w quiet = along_silent at (reset_code counter)
fragment_silent bytes table at (Count counter) w quiet = along_silent at (count_code counter)
fragment_silent bytes table at (Lowest down) w quiet = absurd quiet
fragment_silent bytes table at (Tally counter shift from) w quiet = absurd quiet

fragments_silent : (bytes : ℕ → ℕ) (regs : List ℕ) (table at : ℕ) (fs : List Fragment) (w : List ℕ) → All IsQuiet fs → All IsSilent (fragments_steps bytes regs table at fs w)
fragments_silent bytes regs table at [] w quiet = All-nil IsSilent
fragments_silent bytes regs table at (f ∷ fs) w quiet =
    All-append IsSilent (fragment_steps bytes table at f w) _ (fragment_silent bytes table at f w (quiet 0 f (omega arith)))
    (fragments_silent bytes regs (table + 4 * rows_len f) (at + 4 * code_len f) fs (window_behind bytes regs table f w) (λ k d lt. quiet (suc k) d (omega arith)))

-- ---- the steps of a way

pub way_keyed : (s : State) (table at : ℕ) (way : Way) → All IsKeyed (way_steps s table at way)
way_keyed s table at way =
    All-append IsKeyed (fragments_steps s.bytes s.regs table at way.fragments s.window) _ (fragments_keyed s.bytes s.regs table at way.fragments s.window)
    (All-cons IsKeyed (turn (jump_at at way) way.to classes.Jump) [] refl (All-nil IsKeyed))

-- a store that others follow
stores_then : (level : ℕ) (one both : (Class → ℕ) → ℕ) (xs ys : List Stepped) → StoresOnce level one xs → All IsSilent ys → ((costs : Class → ℕ) → one costs + stepped_cycles costs ys ≡ both costs) → StoresOnce level both (xs ++ ys)
stores_then level one both xs ys h silent sum = record {
  before = h.before;
  store = h.store;
  behind = h.behind ++ ys;
  parts = ap (λ l. l ++ ys) h.parts ∙ append_assoc h.before (h.store ∷ h.behind) ys;
  level_is = h.level_is;
  none_before = h.none_before;
  none_behind = All-append IsSilent h.behind ys h.none_behind silent;
  tail_is = λ costs. sum_by-append (λ x. costs x.class) h.behind ys ∙ (ap (λ n. n + stepped_cycles costs ys) (h.tail_is costs) ∙ sum costs);
}

pub stores_first : (stored : Option ℕ) (tail : (Class → ℕ) → ℕ) (x : Stepped) (xs : List Stepped) → x.port ≡ None → StoresLevel stored tail xs → StoresLevel stored tail (x ∷ xs)
stores_first None tail x xs none h = All-cons IsSilent x xs none h
stores_first (Some level) tail x xs none h = record {
  before = x ∷ h.before;
  store = h.store;
  behind = h.behind;
  parts = ap (λ l. x ∷ l) h.parts;
  level_is = h.level_is;
  none_before = All-cons IsSilent x h.before none h.none_before;
  none_behind = h.none_behind;
  tail_is = h.tail_is;
}

silent_way : (bytes : ℕ → ℕ) (regs : List ℕ) (table at to last : ℕ) (fs : List Fragment) (w : List ℕ) → All IsQuiet fs → All IsSilent (fragments_steps bytes regs table at fs w ++ turn last to classes.Jump ∷ [])
silent_way bytes regs table at to last fs w quiet =
    All-append IsSilent (fragments_steps bytes regs table at fs w) _ (fragments_silent bytes regs table at fs w quiet) (All-cons IsSilent (turn last to classes.Jump) [] refl (All-nil IsSilent))

rest_cycles : (costs : Class → ℕ) (bytes : ℕ → ℕ) (regs : List ℕ) (table at to last : ℕ) (fs : List Fragment) (w : List ℕ) → stepped_cycles costs (fragments_steps bytes regs table at fs w ++ turn last to classes.Jump ∷ []) ≡ sum_by (fragment_cost costs) fs + costs classes.Jump
rest_cycles costs bytes regs table at to last fs w =
    let body = fragments_cycles costs bytes regs table at fs w in
    let both = sum_by-append (λ x. costs x.class) (fragments_steps bytes regs table at fs w) (turn last to classes.Jump ∷ []) in
    omega (arith, body, both)

-- code that stores level 0 or nothing, and steps that store nothing
either_stores : (stores : Bool) (n at : ℕ) (is : List Instr) (rest : List Stepped) (both : (Class → ℕ) → ℕ) → n < length is → All IsSilent rest → ((costs : Class → ℕ) → sum_by (λ i. costs (class_of i false)) (drop (suc n) is) + stepped_cycles costs rest ≡ both costs)
    → StoresLevel (cond stores (Some 0) None) both (cond stores (along_storing n 0 at is) (along at is) ++ rest)
either_stores true n at is rest both lt silent sum =
    stores_then 0 (λ costs. sum_by (λ i. costs (class_of i false)) (drop (suc n) is)) both (along_storing n 0 at is) rest (storing_parts n 0 at is lt) silent sum
either_stores false n at is rest both lt silent sum = All-append IsSilent (along at is) rest (along_silent at is) silent

way_stores_by : (bytes : ℕ → ℕ) (regs : List ℕ) (table at to last : ℕ) (fs : List Fragment) (w : List ℕ) → AreOrdered fs → StoresLevel (port_by bytes table fs w) (λ costs. tail_cycles costs fs) (fragments_steps bytes regs table at fs w ++ turn last to classes.Jump ∷ [])
way_stores_by bytes regs table at to last [] w ordered = All-cons IsSilent (turn last to classes.Jump) [] refl (All-nil IsSilent)
way_stores_by bytes regs table at to last (Switch word ∷ fs) w ordered =
    let here = fragment_steps bytes table at (Switch word) w in
    let later = table + 4 * rows_len (Switch word) in
    let w2 = window_behind bytes regs table (Switch word) w in
    let rest = fragments_steps bytes regs later (at + 4 * 11) fs w2 ++ turn last to classes.Jump ∷ [] in
    let stores = storing_parts 8 (four_bits word (slice_index w port)) at (switch_code word) (omega arith) in
    subst (StoresOnce (four_bits word (slice_index w port)) (λ costs. tail_cycles costs (Switch word ∷ fs))) (sym (append_assoc here (fragments_steps bytes regs later (at + 4 * 11) fs w2) (turn last to classes.Jump ∷ [])))
    (stores_then (four_bits word (slice_index w port)) (λ costs. sum_by (λ i. costs (class_of i false)) (drop 9 (switch_code word))) (λ costs. tail_cycles costs (Switch word ∷ fs)) here rest stores (silent_way bytes regs later (at + 4 * 11) to last fs w2 ordered)
    (λ costs. omega (arith, rest_cycles costs bytes regs later (at + 4 * 11) to last fs w2)))
way_stores_by bytes regs table at to last (Exit counter shift rows ∷ fs) w ordered =
    let f : Fragment = Exit counter shift rows in
    let here = fragment_steps bytes table at f w in
    let later = table + 4 * rows_len f in
    let w2 = window_behind bytes regs table f w in
    let v = four_bits (row_at bytes table counter shift w) (slice_index w port) in
    let code = exit_code counter shift (table % 2 ^ 32) in
    let rest = fragments_steps bytes regs later (at + 4 * 16) fs w2 ++ turn last to classes.Jump ∷ [] in
    let stores = storing_parts 13 v at code (omega arith) in
    subst (StoresOnce v (λ costs. tail_cycles costs (f ∷ fs))) (sym (append_assoc here (fragments_steps bytes regs later (at + 4 * 16) fs w2) (turn last to classes.Jump ∷ [])))
    (stores_then v (λ costs. sum_by (λ i. costs (class_of i false)) (drop 14 code)) (λ costs. tail_cycles costs (f ∷ fs)) here rest stores (silent_way bytes regs later (at + 4 * 16) to last fs w2 ordered)
    (λ costs. omega (arith, rest_cycles costs bytes regs later (at + 4 * 16) to last fs w2)))
way_stores_by bytes regs table at to last (Lowest down ∷ fs) w ordered =
    let f : Fragment = Lowest down in
    let later = table + 4 * rows_len f in
    let w2 = window_behind bytes regs table f w in
    let rest = fragments_steps bytes regs later (at + 4 * 1) fs w2 ++ turn last to classes.Jump ∷ [] in
    subst (StoresLevel (port_by bytes table (f ∷ fs) w) (λ costs. tail_cycles costs (f ∷ fs))) (sym (append_assoc (fragment_steps bytes table at f w) (fragments_steps bytes regs later (at + 4 * 1) fs w2) (turn last to classes.Jump ∷ [])))
    (either_stores down 0 at (lowest_code down) rest (λ costs. tail_cycles costs (f ∷ fs)) (omega arith) (silent_way bytes regs later (at + 4 * 1) to last fs w2 ordered)
    (λ costs. omega (arith, rest_cycles costs bytes regs later (at + 4 * 1) to last fs w2)))
way_stores_by bytes regs table at to last (Tally counter shift from ∷ fs) w ordered =
    let f : Fragment = Tally counter shift from in
    let later = table + 4 * rows_len f in
    let w2 = window_behind bytes regs table f w in
    let rest = fragments_steps bytes regs later (at + 4 * 10) fs w2 ++ turn last to classes.Jump ∷ [] in
    subst (StoresLevel (port_by bytes table (f ∷ fs) w) (λ costs. tail_cycles costs (f ∷ fs))) (sym (append_assoc (fragment_steps bytes table at f w) (fragments_steps bytes regs later (at + 4 * 10) fs w2) (turn last to classes.Jump ∷ [])))
    (either_stores (is_due shift from (slice_index w counter)) 8 at (tally_code counter shift from) rest (λ costs. tail_cycles costs (f ∷ fs)) (omega arith) (silent_way bytes regs later (at + 4 * 10) to last fs w2 ordered)
    (λ costs. omega (arith, rest_cycles costs bytes regs later (at + 4 * 10) to last fs w2)))
way_stores_by bytes regs table at to last (Reset counter ∷ fs) w ordered = silent_way bytes regs table at to last (Reset counter ∷ fs) w (All-cons IsQuiet (Reset counter) fs tt ordered)
way_stores_by bytes regs table at to last (Count counter ∷ fs) w ordered = silent_way bytes regs table at to last (Count counter ∷ fs) w (All-cons IsQuiet (Count counter) fs tt ordered)

pub way_stores : (s : State) (table at : ℕ) (way : Way) → AreOrdered way.fragments → StoresLevel (port_by s.bytes table way.fragments s.window) (λ costs. tail_cycles costs way.fragments) (way_steps s table at way)
way_stores s table at way ordered = way_stores_by s.bytes s.regs table at way.to (jump_at at way) way.fragments s.window ordered
