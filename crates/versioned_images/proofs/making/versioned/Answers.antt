use Rattle.std.proofs.Common.{arith, subst}
use Rattle.elf_patch.specs.Stored.{IsStubBase}
use Rattle.versioned_images.proofs.Parts.{far}
use Rattle.versioned_images.proofs.making.versioned.Goals as goal

pub returns-then-base-ge-BASES-clause-none : goal.returns-then-base-ge-BASES-clause-none
returns-then-base-ge-BASES-clause-none c =
    let image = c.args.view.now in
    let base = c.stub_base-base.result in
    let place = subst (λ n. IsStubBase image n base) c.pieces_len-len.ensures.len c.stub_base-base.ensures in
    far image c.args.pieces.now c.args.sites.now base place (omega (arith, c.if-base-ge-BASES.true))

pub versioned_at-requires-clause-place : goal.versioned_at-requires-clause-place
versioned_at-requires-clause-place c = subst (λ n. IsStubBase c.args.view.now n c.stub_base-base.result) c.pieces_len-len.ensures.len c.stub_base-base.ensures
