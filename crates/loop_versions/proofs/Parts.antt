-- What the test of a piece says of its kind, and the code of a piece that is right: its length, and the fields of its instructions.
use Rattle.std.proofs.Common.{◌≡◌, ℕ, ℤ, pos, negsuc, ◌+◌, ◌-◌, ◌*◌, ◌%◌, ◌^◌, ◌<◌, true, List, [], ◌∷◌, length, Option, Some, None, arith, refl, sym, ap, subst, ◌∙◌, Bool, ◌≤◌, false}
use Rattle.std.specs.Prelude.{if◌then◌else◌, ◌==◌, ◌&&◌, not, nat_lt, All}
use Rattle.std.proofs.lemmas.Bool.{and_parts, eqb-true, eqb-false, not-true, ltb-true}
use Rattle.std.proofs.lemmas.List.Elements.{All-nil, All-cons}
use Rattle.std.specs.Ordering.{int_eq}
use Rattle.std.proofs.lemmas.Bool.Decides.{nat_tests, Decides-int_eq}
use Rattle.scale_base.specs.declared.instruction.BranchOp.{BranchOp}
use Rattle.scale_base.specs.declared.instruction.Instr.{Instr}
use Rattle.scale_base.specs.declared.instruction.Instr.TheVariants as instr
use Rattle.scale_base.specs.declared.instruction.BranchOp.TheVariants.{Blt}
use Rattle.scale_base.specs.declared.instruction.ImmOp.TheVariants.{Addi}
use Rattle.scale_base.specs.declared.instruction.RegOp.TheVariants.{Add, Sub}
use Rattle.scale_base.specs.Arith.{moved_by, plus}
use Rattle.scale_base.specs.Image.{Image, loaded_byte, is_word_address}
use Rattle.scale_base.specs.State.{word_at}
use Rattle.scale_base.proofs.Laws.{word_reads}
use Rattle.scale_base.specs.Word.{FieldsInRange, IsEven, IsSignedField}
use Rattle.rv_encode.specs.Jumps.{distance}
use Rattle.stub_writer.specs.Fragments.{hi, lo}
use Rattle.stub_writer.specs.Stubs.{jump}
use Rattle.image_lower.specs.Trees.{fits}
use Rattle.loop_versions.specs.declared.pieces.Piece.{Piece}
use Rattle.loop_versions.specs.declared.pieces.Piece.TheVariants.{Copied, Branched, Jumped, Bridge, Guard, Entered, Returned}
use Rattle.loop_versions.specs.Pieces.{piece_len, guard_code, enter_code, led, copied, read, piece_code}
use Rattle.loop_versions.specs.Fitting.{is_plain, is_branch_offset, origin, stands_for, begins, calls_at, stays_in, is_guard, leads_to, is_branch_right, is_jump_right, is_call_right, is_back, is_return, is_return_right, is_right}
use Rattle.loop_versions.proofs.Reach.{fits_fields}

branch_offset : (z : ℤ) → is_branch_offset z ≡ true → IsEven z × IsSignedField 13 z
branch_offset (pos n) h = let p = and_parts (n % 2 == 0) (nat_lt n (2 ^ 12)) h in (eqb-true (n % 2) 0 p.0, ltb-true n (2 ^ 12) p.1)
branch_offset (negsuc n) h = let p = and_parts (n % 2 == 1) (nat_lt n (2 ^ 12)) h in (eqb-true (n % 2) 1 p.0, ltb-true n (2 ^ 12) p.1)

signed_fits : (n : ℕ) → n < 2 ^ 12 → (b : Bool) → nat_lt n (2 ^ 11) ≡ b → IsSignedField 12 (if b then pos n else negsuc (2 ^ 12 - 1 - n))
signed_fits n small true e = let low : n < 2 ^ 11 = grind (arith, nat_tests) in omega (arith, low)
signed_fits n small false e = let high : 2 ^ 11 ≤ n = grind (arith, nat_tests) in omega (arith, high, small)

four_small : (x y z u : ℕ) → x < 256 → y < 256 → z < 256 → u < 256 → x + y * 2 ^ 8 + z * 2 ^ 16 + u * 2 ^ 24 < 2 ^ 32
four_small x y z u a b c d = omega (arith, a, b, c, d)

module _ (image : Image) (pieces : List Piece) (base : ℕ) where
  abbrev StandsFor : ℕ → ℕ → Type 0
  StandsFor v at = origin pieces base v ≡ at

  abbrev StaysIn : ℕ → ℕ → Type 0
  StaysIn place to = begins (calls_at pieces base to) (calls_at pieces base place) ≡ true

  stands : (v at : ℕ) → stands_for pieces base v at ≡ true → StandsFor v at
  stands v at h = eqb-true (origin pieces base v) at h

  -- ---- a copy

  pub record IsCopyOf (place at : ℕ) : Type 0 where
    pub i : Instr
    pub reads : read image at ≡ Some i
    pub plain : is_plain (Some i) ≡ true
    pub next : origin pieces base (place + 4) ≡ at + 4
    pub calls : StaysIn place (place + 4)

  pub copy_of : (place at : ℕ) → is_right image pieces base place (Copied at) ≡ true → IsCopyOf place at
  copy_of place at h =
      let q = and_parts (is_plain (read image at) && stands_for pieces base (place + 4) (at + 4)) (stays_in pieces base place (place + 4)) h in
      let p = and_parts (is_plain (read image at)) (stands_for pieces base (place + 4) (at + 4)) q.0 in
      by (read image at) refl p.0 (stands (place + 4) (at + 4) p.1) q.1
    where
      by : (o : Option Instr) → read image at ≡ o → is_plain o ≡ true → origin pieces base (place + 4) ≡ at + 4 → StaysIn place (place + 4) → IsCopyOf place at
      by None e plain next calls = let never : ⊥ = cc in absurd never
      by (Some i) e plain next calls = record { i = i; reads = e; plain = plain; next = next; calls = calls }

  -- ---- a branch

  pub record IsBranchOf (place at to : ℕ) : Type 0 where
    pub op : BranchOp
    pub rs1 : ℕ
    pub rs2 : ℕ
    pub offset : ℤ
    pub reads : read image at ≡ Some (instr.Branch op rs1 rs2 offset)
    pub word : is_word_address image (moved_by at offset) ≡ true
    pub there : origin pieces base to ≡ moved_by at offset
    pub next : origin pieces base (place + 4) ≡ at + 4
    pub fits : IsEven (distance place to) × IsSignedField 13 (distance place to)
    pub calls_next : StaysIn place (place + 4)
    pub calls : StaysIn place to

  pub branch_of : (place at to : ℕ) → is_right image pieces base place (Branched at to) ≡ true → IsBranchOf place at to
  branch_of place at to all =
      let a = and_parts (is_branch_right image pieces base place at to (read image at) && stays_in pieces base place (place + 4)) (stays_in pieces base place to) all in
      let b = and_parts (is_branch_right image pieces base place at to (read image at)) (stays_in pieces base place (place + 4)) a.0 in
      by (read image at) refl b.0
    where
      ways : StaysIn place (place + 4) × StaysIn place to
      ways =
          let a = and_parts (is_branch_right image pieces base place at to (read image at) && stays_in pieces base place (place + 4)) (stays_in pieces base place to) all in
          ((and_parts (is_branch_right image pieces base place at to (read image at)) (stays_in pieces base place (place + 4)) a.0).1, a.1)

      by : (o : Option Instr) → read image at ≡ o → is_branch_right image pieces base place at to o ≡ true → IsBranchOf place at to
      by (Some (instr.Branch op rs1 rs2 offset)) e h =
          let p = and_parts (leads_to image pieces base to (moved_by at offset) && stands_for pieces base (place + 4) (at + 4)) (is_branch_offset (distance place to)) h in
          let q = and_parts (leads_to image pieces base to (moved_by at offset)) (stands_for pieces base (place + 4) (at + 4)) p.0 in
          let r = and_parts (is_word_address image (moved_by at offset)) (stands_for pieces base to (moved_by at offset)) q.0 in
          record {
            op = op;
            rs1 = rs1;
            rs2 = rs2;
            offset = offset;
            reads = e;
            word = r.0;
            there = stands to (moved_by at offset) r.1;
            next = stands (place + 4) (at + 4) q.1;
            fits = branch_offset (distance place to) p.1;
            calls_next = ways.0;
            calls = ways.1;
          }
      by o e h = let never : ⊥ = cc in absurd never

  -- ---- a jump

  pub record IsJumpOf (place at to : ℕ) : Type 0 where
    pub offset : ℤ
    pub reads : read image at ≡ Some (instr.Jal 0 offset)
    pub word : is_word_address image (moved_by at offset) ≡ true
    pub there : origin pieces base to ≡ moved_by at offset
    pub fits : fits (jump place to) ≡ true
    pub calls : StaysIn place to

  pub jump_of : (place at to : ℕ) → is_right image pieces base place (Jumped at to) ≡ true → IsJumpOf place at to
  jump_of place at to h =
      let a = and_parts (is_jump_right image pieces base at to (read image at) && fits (jump place to)) (stays_in pieces base place to) h in
      let p = and_parts (is_jump_right image pieces base at to (read image at)) (fits (jump place to)) a.0 in
      by (read image at) refl p.0 p.1 a.1
    where
      by : (o : Option Instr) → read image at ≡ o → is_jump_right image pieces base at to o ≡ true → fits (jump place to) ≡ true → StaysIn place to → IsJumpOf place at to
      by (Some (instr.Jal rd offset)) e h near calls =
          let q = and_parts (rd == 0) (leads_to image pieces base to (moved_by at offset)) h in
          let r = and_parts (is_word_address image (moved_by at offset)) (stands_for pieces base to (moved_by at offset)) q.1 in
          record {
            offset = offset;
            reads = e ∙ ap (λ r. Some (instr.Jal r offset)) (eqb-true rd 0 q.0);
            word = r.0;
            there = stands to (moved_by at offset) r.1;
            fits = near;
            calls = calls;
          }
      by o e h near calls = let never : ⊥ = cc in absurd never

  -- ---- a call and a return

  pub record IsCallOf (place at to : ℕ) : Type 0 where
    pub offset : ℤ
    pub reads : read image at ≡ Some (instr.Jal 1 offset)
    pub word : is_word_address image (moved_by at offset) ≡ true
    pub there : origin pieces base to ≡ moved_by at offset
    pub calls : begins (calls_at pieces base to) (plus at 4 ∷ calls_at pieces base place) ≡ true
    pub fits : fits (jump (place + 8) to) ≡ true

  pub call_of : (place at to end : ℕ) → is_right image pieces base place (Entered at to end) ≡ true → IsCallOf place at to
  call_of place at to end h = let p = and_parts (is_call_right image pieces base place at to (read image at)) (fits (jump (place + 8) to)) h in by (read image at) refl p.0 p.1
    where
      by : (o : Option Instr) → read image at ≡ o → is_call_right image pieces base place at to o ≡ true → fits (jump (place + 8) to) ≡ true → IsCallOf place at to
      by (Some (instr.Jal rd offset)) e h near =
          let a = and_parts ((rd == 1) && leads_to image pieces base to (moved_by at offset)) (begins (calls_at pieces base to) (plus at 4 ∷ calls_at pieces base place)) h in
          let q = and_parts (rd == 1) (leads_to image pieces base to (moved_by at offset)) a.0 in
          let r = and_parts (is_word_address image (moved_by at offset)) (stands_for pieces base to (moved_by at offset)) q.1 in
          record {
            offset = offset;
            reads = e ∙ ap (λ r. Some (instr.Jal r offset)) (eqb-true rd 1 q.0);
            word = r.0;
            there = stands to (moved_by at offset) r.1;
            calls = a.1;
            fits = near;
          }
      by o e h near = let never : ⊥ = cc in absurd never

  pub record IsReturnOf (place at to : ℕ) : Type 0 where
    pub reads : read image at ≡ Some (instr.Jalr 0 1 (pos 0))
    pub back : ℕ
    pub others : List ℕ
    pub open_are : calls_at pieces base place ≡ back ∷ others
    pub word : is_word_address image back ≡ true
    pub there : origin pieces base to ≡ back
    pub calls : begins (calls_at pieces base to) others ≡ true
    pub fits : fits (jump place to) ≡ true

  return_reads : (at rd rs1 : ℕ) (offset : ℤ) → read image at ≡ Some (instr.Jalr rd rs1 offset) → rd ≡ 0 → rs1 ≡ 1 → offset ≡ pos 0 → read image at ≡ Some (instr.Jalr 0 1 (pos 0))
  return_reads at rd rs1 offset e a b c = e ∙ (ap (λ r. Some (instr.Jalr r rs1 offset)) a ∙ (ap (λ r. Some (instr.Jalr 0 r offset)) b ∙ ap (λ z. Some (instr.Jalr 0 1 z)) c))

  pub return_of : (place at to : ℕ) → is_right image pieces base place (Returned at to) ≡ true → IsReturnOf place at to
  return_of place at to h =
      let p = and_parts (is_return_right image pieces base place to (read image at)) (fits (jump place to)) h in
      let q = and_parts (is_return (read image at)) (is_back image pieces base to (calls_at pieces base place)) p.0 in
      by (read image at) refl q.0 q.1 p.1
    where
      by_calls : read image at ≡ Some (instr.Jalr 0 1 (pos 0)) → fits (jump place to) ≡ true → (rs : List ℕ) → calls_at pieces base place ≡ rs → is_back image pieces base to rs ≡ true → IsReturnOf place at to
      by_calls reads near [] e h = let never : ⊥ = cc in absurd never
      by_calls reads near (r ∷ rs) e h =
          let a = and_parts (leads_to image pieces base to r) (begins (calls_at pieces base to) rs) h in
          let b = and_parts (is_word_address image r) (stands_for pieces base to r) a.0 in
          record { reads = reads; back = r; others = rs; open_are = e; word = b.0; there = stands to r b.1; calls = a.1; fits = near }

      by : (o : Option Instr) → read image at ≡ o → is_return o ≡ true → is_back image pieces base to (calls_at pieces base place) ≡ true → fits (jump place to) ≡ true → IsReturnOf place at to
      by (Some (instr.Jalr rd rs1 offset)) e h back near =
          let b = and_parts ((rd == 0) && (rs1 == 1)) (int_eq offset (pos 0)) h in
          let c = and_parts (rd == 0) (rs1 == 1) b.0 in
          by_calls (return_reads at rd rs1 offset e (eqb-true rd 0 c.0) (eqb-true rs1 1 c.1) ((Decides-int_eq offset (pos 0)).0 b.1)) near (calls_at pieces base place) refl back
      by o e h back near = let never : ⊥ = cc in absurd never

  -- ---- a bridge and a guard

  pub record IsBridgeOf (place at to : ℕ) : Type 0 where
    pub there : origin pieces base to ≡ at
    pub fits : fits (jump place to) ≡ true
    pub calls : StaysIn place to

  pub bridge_of : (place at to : ℕ) → is_right image pieces base place (Bridge at to) ≡ true → IsBridgeOf place at to
  bridge_of place at to h =
      let q = and_parts (stands_for pieces base to at && fits (jump place to)) (stays_in pieces base place to) h in
      let p = and_parts (stands_for pieces base to at) (fits (jump place to)) q.0 in
      record { there = stands to at p.0; fits = p.1; calls = q.1 }

  pub record IsGuardOf (place at larger smaller limit to : ℕ) : Type 0 where
    pub some : 0 < larger
    pub few : larger < 32
    pub smaller_few : smaller < 32
    pub other : (larger ≡ smaller → ⊥)
    pub limit_some : 0 < limit
    pub limit_few : limit < 2048
    pub next : origin pieces base (place + 36) ≡ at
    pub there : origin pieces base to ≡ at
    pub fits : fits (jump (place + 24) to) ≡ true
    pub calls_next : StaysIn place (place + 36)
    pub calls : StaysIn place to

  pub guard_of : (place at larger smaller limit to : ℕ) → is_right image pieces base place (Guard at larger smaller limit to) ≡ true → IsGuardOf place at larger smaller limit to
  guard_of place at larger smaller limit to h =
      let all = is_guard larger smaller limit && stands_for pieces base (place + 36) at && stands_for pieces base to at && fits (jump (place + 24) to) in
      let y = and_parts (all && stays_in pieces base place (place + 36)) (stays_in pieces base place to) h in
      let z = and_parts all (stays_in pieces base place (place + 36)) y.0 in
      let a = and_parts (is_guard larger smaller limit && stands_for pieces base (place + 36) at && stands_for pieces base to at) (fits (jump (place + 24) to)) z.0 in
      let b = and_parts (is_guard larger smaller limit && stands_for pieces base (place + 36) at) (stands_for pieces base to at) a.0 in
      let c = and_parts (is_guard larger smaller limit) (stands_for pieces base (place + 36) at) b.0 in
      let d = and_parts (nat_lt 0 larger && nat_lt larger 32 && nat_lt smaller 32 && not (larger == smaller) && nat_lt 0 limit) (nat_lt limit 2048) c.0 in
      let e = and_parts (nat_lt 0 larger && nat_lt larger 32 && nat_lt smaller 32 && not (larger == smaller)) (nat_lt 0 limit) d.0 in
      let f = and_parts (nat_lt 0 larger && nat_lt larger 32 && nat_lt smaller 32) (not (larger == smaller)) e.0 in
      let g = and_parts (nat_lt 0 larger && nat_lt larger 32) (nat_lt smaller 32) f.0 in
      let i = and_parts (nat_lt 0 larger) (nat_lt larger 32) g.0 in
      record {
        some = ltb-true 0 larger i.0;
        few = ltb-true larger 32 i.1;
        smaller_few = ltb-true smaller 32 g.1;
        other = eqb-false larger smaller (not-true (larger == smaller) f.1);
        limit_some = ltb-true 0 limit e.1;
        limit_few = ltb-true limit 2048 d.1;
        next = stands (place + 36) at c.1;
        there = stands to at b.1;
        fits = a.1;
        calls_next = z.1;
        calls = y.1;
      }

  -- ---- code

  pub copied_code : (place at : ℕ) (c : IsCopyOf place at) → piece_code image place (Copied at) ≡ c.i ∷ []
  copied_code place at c = ap copied c.reads

  pub branch_code : (place at to : ℕ) (b : IsBranchOf place at to) → piece_code image place (Branched at to) ≡ instr.Branch b.op b.rs1 b.rs2 (distance place to) ∷ []
  branch_code place at to b = ap (led place to) b.reads

  pub code_len : (place : ℕ) (p : Piece) → is_right image pieces base place p ≡ true → length (piece_code image place p) ≡ piece_len p
  code_len place (Copied at) h = ap (λ (c : List Instr). length c) (copied_code place at (copy_of place at h))
  code_len place (Branched at to) h = ap (λ (c : List Instr). length c) (branch_code place at to (branch_of place at to h))
  code_len place (Jumped at to) h = refl
  code_len place (Bridge at to) h = refl
  code_len place (Guard at larger smaller limit to) h = refl
  code_len place (Entered at to end) h = refl
  code_len place (Returned at to) h = refl

  one_field : (i : Instr) → FieldsInRange i → All FieldsInRange (i ∷ [])
  one_field i h = All-cons FieldsInRange i [] h (All-nil FieldsInRange)

  guard_fields : (place at larger smaller limit to : ℕ) → IsGuardOf place at larger smaller limit to → All FieldsInRange (guard_code place larger smaller limit to)
  guard_fields place at larger smaller limit to g =
      let l = g.few in
      let s = g.smaller_few in
      let few = g.limit_few in
      let sub : FieldsInRange (instr.Reg Sub larger larger smaller) = (l, l, s) in
      let down : FieldsInRange (instr.Imm Addi larger larger (negsuc (limit - 1))) = (l, l, omega (arith, few)) in
      let turn : FieldsInRange (instr.Branch Blt larger 0 (pos 16)) = (l, omega arith, refl, omega arith) in
      let up : FieldsInRange (instr.Imm Addi larger larger (pos limit)) = (l, l, omega (arith, few)) in
      let add : FieldsInRange (instr.Reg Add larger larger smaller) = (l, l, s) in
      let go : FieldsInRange (jump (place + 24) to) = fits_fields (place + 24) to g.fits in
      All-cons FieldsInRange (instr.Reg Sub larger larger smaller) (instr.Branch Blt larger 0 (pos 16) ∷ instr.Imm Addi larger larger (negsuc (limit - 1)) ∷ instr.Branch Blt larger 0 (pos 16) ∷ instr.Imm Addi larger larger (pos limit) ∷ instr.Reg Add larger larger smaller ∷ jump (place + 24) to ∷ instr.Imm Addi larger larger (pos limit) ∷ instr.Reg Add larger larger smaller ∷ []) sub
      (All-cons FieldsInRange (instr.Branch Blt larger 0 (pos 16)) (instr.Imm Addi larger larger (negsuc (limit - 1)) ∷ instr.Branch Blt larger 0 (pos 16) ∷ instr.Imm Addi larger larger (pos limit) ∷ instr.Reg Add larger larger smaller ∷ jump (place + 24) to ∷ instr.Imm Addi larger larger (pos limit) ∷ instr.Reg Add larger larger smaller ∷ []) turn
      (All-cons FieldsInRange (instr.Imm Addi larger larger (negsuc (limit - 1))) (instr.Branch Blt larger 0 (pos 16) ∷ instr.Imm Addi larger larger (pos limit) ∷ instr.Reg Add larger larger smaller ∷ jump (place + 24) to ∷ instr.Imm Addi larger larger (pos limit) ∷ instr.Reg Add larger larger smaller ∷ []) down
      (All-cons FieldsInRange (instr.Branch Blt larger 0 (pos 16)) (instr.Imm Addi larger larger (pos limit) ∷ instr.Reg Add larger larger smaller ∷ jump (place + 24) to ∷ instr.Imm Addi larger larger (pos limit) ∷ instr.Reg Add larger larger smaller ∷ []) turn
      (All-cons FieldsInRange (instr.Imm Addi larger larger (pos limit)) (instr.Reg Add larger larger smaller ∷ jump (place + 24) to ∷ instr.Imm Addi larger larger (pos limit) ∷ instr.Reg Add larger larger smaller ∷ []) up
      (All-cons FieldsInRange (instr.Reg Add larger larger smaller) (jump (place + 24) to ∷ instr.Imm Addi larger larger (pos limit) ∷ instr.Reg Add larger larger smaller ∷ []) add
      (All-cons FieldsInRange (jump (place + 24) to) (instr.Imm Addi larger larger (pos limit) ∷ instr.Reg Add larger larger smaller ∷ []) go
      (All-cons FieldsInRange (instr.Imm Addi larger larger (pos limit)) (instr.Reg Add larger larger smaller ∷ []) up
      (one_field (instr.Reg Add larger larger smaller) add))))))))

  enter_fields : (place at to : ℕ) → fits (jump (place + 8) to) ≡ true → All FieldsInRange (enter_code place at to)
  enter_fields place at to near =
      let upper : FieldsInRange (instr.Lui 1 (hi (plus at 4))) = (omega arith, omega arith, omega arith) in
      let lower : FieldsInRange (instr.Imm Addi 1 1 (lo (plus at 4))) = (omega arith, omega arith, signed_fits ((plus at 4) % 2 ^ 12) (omega arith) (nat_lt ((plus at 4) % 2 ^ 12) (2 ^ 11)) refl) in
      All-cons FieldsInRange (instr.Lui 1 (hi (plus at 4))) (instr.Imm Addi 1 1 (lo (plus at 4)) ∷ jump (place + 8) to ∷ []) upper
      (All-cons FieldsInRange (instr.Imm Addi 1 1 (lo (plus at 4))) (jump (place + 8) to ∷ []) lower (one_field (jump (place + 8) to) (fits_fields (place + 8) to near)))

  -- where memory holds bytes, the instructions of the text have their fields in range
  pub read_fields : ((a : ℕ) → loaded_byte image a < 256) → (at : ℕ) (i : Instr) → read image at ≡ Some i → FieldsInRange i
  read_fields bytes at i e =
      let b = loaded_byte image in
      let small = four_small (b at) (b (at + 1)) (b (at + 2)) (b (at + 3)) (bytes at) (bytes (at + 1)) (bytes (at + 2)) (bytes (at + 3)) in
      ((word_reads (word_at b at) i small).0 e).0

  -- and so have those of a piece
  pub code_fields : ((at : ℕ) (i : Instr) → read image at ≡ Some i → FieldsInRange i) → (place : ℕ) (p : Piece) → is_right image pieces base place p ≡ true → All FieldsInRange (piece_code image place p)
  code_fields text place (Copied at) h = let c = copy_of place at h in subst (All FieldsInRange) (sym (copied_code place at c)) (one_field c.i (text at c.i c.reads))
  code_fields text place (Branched at to) h =
      let b = branch_of place at to h in
      let f = text at (instr.Branch b.op b.rs1 b.rs2 b.offset) b.reads in
      subst (All FieldsInRange) (sym (branch_code place at to b)) (one_field (instr.Branch b.op b.rs1 b.rs2 (distance place to)) (f.0, f.1, b.fits.0, b.fits.1))
  code_fields text place (Jumped at to) h = one_field (jump place to) (fits_fields place to (jump_of place at to h).fits)
  code_fields text place (Bridge at to) h = one_field (jump place to) (fits_fields place to (bridge_of place at to h).fits)
  code_fields text place (Guard at larger smaller limit to) h = guard_fields place at larger smaller limit to (guard_of place at larger smaller limit to h)
  code_fields text place (Entered at to end) h = enter_fields place at to (call_of place at to end h).fits
  code_fields text place (Returned at to) h = one_field (jump place to) (fits_fields place to (return_of place at to h).fits)
