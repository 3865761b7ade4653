-- From the bytes of a block to its words, and from its words to its instructions.
use Rattle.std.proofs.Common.{◌≡◌, ℕ, suc, ◌+◌, ◌*◌, ◌/◌, ◌%◌, ◌^◌, ◌<◌, ◌≤◌, true, List, [], ◌∷◌, ◌++◌, map, length, get_or, arith, sym, ◌∙◌, ap, subst, add-zero}
use Rattle.std.specs.Prelude.{◌==◌}
use Rattle.std.specs.List.{flat_map}
use Rattle.std.proofs.lemmas.List.Concat.{flat_map-cons}
use Rattle.std.proofs.lemmas.Bool.{and_from, or_right}
use Rattle.std.proofs.lemmas.Bool.Decides.{nat_tests}
use Rattle.scale_base.specs.declared.instruction.Instr.{Instr}
use Rattle.scale_base.specs.Word.{word_of}
use Rattle.scale_base.specs.Layout.{is_keyed, can_fetch, may_fetch, each_byte, fetches_byte}
use Rattle.scale_base.specs.State.{Setting, word_at}
use Rattle.scale_base.proofs.Laws.{each_byte_none, each_byte_more}
use Rattle.stub_writer.specs.Stubs.{word_bytes}
use Rattle.stored_runs.specs.Meaning.{Stand}
use Rattle.stored_runs.specs.Held.{Lie, LiesAt, BytesLie, AllInRange, AllWords, KeyedFrom}

-- words that lie there are instructions that stand there
pub stand_of : (env : Setting) (bytes : ℕ → ℕ) (at : ℕ) (is : List Instr) → Lie env bytes at (map word_of is) → AllInRange is → Stand env bytes at is
stand_of env bytes at [] h r = tt
stand_of env bytes at (i ∷ is) h r =
    (record { keyed = h.0.keyed; fetched = h.0.fetched; room = h.0.room; encodes = (r.0, h.0.same) }, stand_of env bytes (at + 4) is h.1 r.1)

pub keyed_fetched : (env : Setting) (at to : ℕ) → KeyedFrom env at to → at + 4 ≤ to → can_fetch env.layout at ≡ true
keyed_fetched env at to h fits =
    let byte : (k : ℕ) → k < 4 → fetches_byte env.layout (at + k) ≡ true = λ k lt. or_right (may_fetch env.layout (at + k)) (is_keyed env.layout (at + k)) (h.keyed (at + k) (omega arith) (omega arith)) in
    let test = fetches_byte env.layout in
    let none = each_byte_none test at in
    let one = each_byte_more test at 0 none (byte 0 (omega arith)) in
    let two = each_byte_more test at 1 one (byte 1 (omega arith)) in
    let three = each_byte_more test at 2 two (byte 2 (omega arith)) in
    let four = each_byte_more test at 3 three (byte 3 (omega arith)) in
    and_from (at % 4 == 0) (each_byte test at 4) (grind (arith, nat_tests, h.even)) four

-- behind the four bytes of a word
behind_word : (w j : ℕ) (xs : List ℕ) → get_or (word_bytes w ++ xs) (4 + j) 0 ≡ get_or xs j 0
behind_word w j xs =
    let e : 4 + j ≡ suc (suc (suc (suc j))) = omega arith in
    ap (λ n. get_or (word_bytes w ++ xs) n 0) e

pub lie_of : (env : Setting) (bytes : ℕ → ℕ) (at to : ℕ) (ws : List ℕ) → KeyedFrom env at to → at + 4 * length ws ≤ to → AllWords ws → BytesLie bytes at (flat_map word_bytes ws) → Lie env bytes at ws
lie_of env bytes at to [] h fits small lie = tt
lie_of env bytes at to (w ∷ ws) h fits small lie =
    let l2 : BytesLie bytes at (word_bytes w ++ flat_map word_bytes ws) = subst (BytesLie bytes at) (flat_map-cons word_bytes w ws) lie in
    let lt : w < 2 ^ 32 = small.0 in
    let b0 : bytes at ≡ w % 2 ^ 8 = ap bytes (sym (add-zero at)) ∙ l2 0 (omega arith) in
    let b1 : bytes (at + 1) ≡ w / 2 ^ 8 % 2 ^ 8 = l2 1 (omega arith) in
    let b2 : bytes (at + 2) ≡ w / 2 ^ 16 % 2 ^ 8 = l2 2 (omega arith) in
    let b3 : bytes (at + 3) ≡ w / 2 ^ 24 % 2 ^ 8 = l2 3 (omega arith) in
    let same : word_at bytes at ≡ w = omega arith in
    let here : LiesAt env bytes at w = record { keyed = h.keyed at (omega arith) (omega arith); whole = λ k lt2. h.keyed (at + k) (omega arith) (omega arith); fetched = keyed_fetched env at to h (omega arith); room = omega (arith, h.room); same = same } in
    let next : KeyedFrom env (at + 4) to = record { keyed = λ a ge lt2. h.keyed a (omega arith) lt2; even = omega (arith, h.even); room = h.room } in
    let rest : BytesLie bytes (at + 4) (flat_map word_bytes ws) = λ j lt2. ap bytes (omega arith) ∙ (l2 (4 + j) (omega arith) ∙ behind_word w j (flat_map word_bytes ws)) in
    (here, lie_of env bytes (at + 4) to ws next (omega arith) small.1 rest)
