use Rattle.std.proofs.Common.{◌≡◌, ◌/◌, ◌-◌, ◌∙◌, length, sym, ap, arith}
use Rattle.symbol_index.specs.Stems.{keys_of}
use Rattle.symbol_index.proofs.StemLaws.{keys_pass, keys_take}
use Rattle.symbol_index.proofs.stems.list_keys.Goals as goal
use Rattle.symbol_index.proofs.stems.list_keys.Goals.{then-is_defined+in_ok-push, else-is_defined}

pub loop-number-preserved : goal.loop-number-preserved
loop-number-preserved c =
    let strings = c.args.symbols.now.strings.now in
    let table = c.args.symbols.now.entries.now in
    let k = c.loop-number.number in
    elim c.if-is_defined.branch [
      | then-is_defined+in_ok-push w ↦
          let took = keys_take strings table k (omega arith) (sym c.is_defined.ensures ∙ w.if-is_defined.true) in
          let before : c.loop-number.keys.items ≡ keys_of strings table (k - 1) = c.loop-number.invariant.keys in
          let pushed = w.in_ok-push.ensures.items in
          let key = w.key_of.ensures in
          record { keys = cc; within = omega arith }
      | else-is_defined w ↦
          let passed = keys_pass strings table k (omega arith) (sym c.is_defined.ensures ∙ w.if-is_defined.false) in
          record { keys = cc; within = omega arith }
    ]

pub returns : goal.returns
returns c =
    c.loop-number.invariant.keys ∙ ap (keys_of c.args.symbols.now.strings.now c.args.symbols.now.entries.now)
    (let e : c.loop-number.number - 1 ≡ length c.args.symbols.now.entries.now / 16 - 1 = omega arith in e)
