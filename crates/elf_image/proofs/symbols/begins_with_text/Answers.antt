use Rattle.std.proofs.Common.{◌≡◌, ◌∙◌, sym, refl, true, false, arith}
use Rattle.std.specs.Prelude.{nat_eq}
use Rattle.std.specs.List.{starts_with}
use Rattle.elf_image.proofs.Names.{starts_with-text}
use Rattle.elf_image.proofs.symbols.begins_with_text.Goals as goal

pub returns-then-not-starts_with : goal.returns-then-not-starts_with
returns-then-not-starts_with c =
    let e : starts_with nat_eq c.args.bytes.now c.args.name.now ≡ false = sym c.starts_with.ensures.value ∙ c.if-not-starts_with.true in
    sym (starts_with-text c.args.bytes.now c.args.name.now (omega arith) ∙ rw e refl)

pub returns : goal.returns
returns c =
    let e : starts_with nat_eq c.args.bytes.now c.args.name.now ≡ true = sym c.starts_with.ensures.value ∙ c.if-not-starts_with.false in
    sym (starts_with-text c.args.bytes.now c.args.name.now (omega arith) ∙ rw e refl)
