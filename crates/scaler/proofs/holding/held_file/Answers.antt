use Rattle.std.proofs.Common.{◌≡◌, ℕ, IfOk, [], subst}
use Rattle.elf_patch.specs.Stored.{stored_image}
use Rattle.scaler.proofs.Bases.{held_base_is}
use Rattle.scaler.proofs.holding.held_file.Goals as goal

pub returns : goal.returns
returns c =
    let P : ℕ → Type 0 = λ base. IfOk c.write_image.result (λ out. out.items ≡ stored_image c.args.view.now.file [] base [] c.args.start) in
    subst P (held_base_is c.args.view.now c.stub_base-base.result c.stub_base-base.ensures) c.write_image.ensures
