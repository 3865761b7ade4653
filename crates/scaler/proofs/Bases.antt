-- The base of an empty block.
use Rattle.std.proofs.Common.{◌≡◌, ℕ, arith}
use Rattle.scale_base.specs.Image.{Image}
use Rattle.elf_patch.specs.Stored.{IsStubBase, held_base}
use Rattle.stored_laws.proofs.Laws.{held_place}

-- there is one lowest place
pub held_base_is : (image : Image) (base : ℕ) → IsStubBase image 0 base → base ≡ held_base image
held_base_is image base h =
    let k = held_place image in
    let low = h.least (held_base image) k.place in
    let high = k.least base h.place in
    omega arith
