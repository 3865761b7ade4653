-- The worked block, by the definitions.
use Rattle.std.proofs.Common.{◌≡◌, List, [], ◌∷◌, refl, None, Some, drop}
use Rattle.scale_base.specs.declared.instruction.BranchOp.TheVariants.{Beq, Bne}
use Rattle.scale_base.specs.declared.fragments.Fragment.TheVariants.{Switch, Exit, Count}
use Rattle.stub_writer.specs.Stubs.{Site, Forked, block_words, block_size, patches_from, out_of_reach}

abbrev skipped_divisions : List Site
skipped_divisions = record { at = 0x10010; place = Forked Beq 10 0 (record { to = 0x10014; fragments = [] }) (record { to = 0x1002C; fragments = Switch 0x100 ∷ [] }) } ∷ []

words : block_words 0x11000 skipped_divisions ≡
    0x00050463 ∷ 0x810FF06F ∷ 0x80502023 ∷ 0x80602223 ∷ 0xFFC02283 ∷ 0x00229293 ∷ 0x00000337 ∷ 0x10030313 ∷ 0x00535333
    ∷ 0x00F37313 ∷ 0xFE602E23 ∷ 0x80402303 ∷ 0x80002283 ∷ 0xFF9FE06F ∷ []
words = refl

size : block_size skipped_divisions ≡ 56
size = refl

patched : patches_from 0x11000 skipped_divisions ≡ record { at = 0x10010; word = 0x7F10006F } ∷ []
patched = refl

near : out_of_reach 0x11000 skipped_divisions ≡ None
near = refl

far : out_of_reach 0x211000 skipped_divisions ≡ Some 0x10010
far = refl

-- a loop that is counted up to 10: Exit where it is left, Count where it goes back
abbrev counted_loop : List Site
counted_loop = record {
  at = 0x10014;
  place = Forked Bne 10 0
      (record { to = 0x10018; fragments = Exit 2 0 (0 ∷ 0 ∷ 0 ∷ 0 ∷ 0 ∷ 0 ∷ 0 ∷ 0 ∷ 0x100 ∷ 0x200 ∷ 0x210 ∷ []) ∷ [] })
      (record { to = 0x10008; fragments = Count 2 ∷ [] });
} ∷ []

size22 : block_size counted_loop ≡ 140
size22 = refl

patched22 : patches_from 0x11000 counted_loop ≡ record { at = 0x10014; word = 0x7ED0006F } ∷ []
patched22 = refl

rows22 : drop 24 (block_words 0x11000 counted_loop) ≡ 0 ∷ 0 ∷ 0 ∷ 0 ∷ 0 ∷ 0 ∷ 0 ∷ 0 ∷ 0x100 ∷ 0x200 ∷ 0x210 ∷ []
rows22 = refl
