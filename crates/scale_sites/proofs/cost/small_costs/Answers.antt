use Rattle.std.proofs.Common.{◌≤◌, arith}
use Rattle.scale_base.specs.declared.stepping.Class.TheVariants.{Alu, Load, Store, Taken, Untaken, Jump, Mul, Div, Ecall, Fence}
use Rattle.power_model.specs.Price.{cycles_of}
use Rattle.scale_sites.proofs.cost.small_costs.Goals as goal

pub returns : goal.returns
returns c = λ class. elim class as (λ k. cycles_of c.args.costs.now k ≤ 65535) [
  | Alu ↦ let a = c.of-alu.ensures in let b = c.of-alu.type_inv in let r : cycles_of c.args.costs.now Alu ≤ 65535 = omega arith in r
  | Load ↦ let a = c.of-load.ensures in let b = c.of-load.type_inv in let r : cycles_of c.args.costs.now Load ≤ 65535 = omega arith in r
  | Store ↦ let a = c.of-store.ensures in let b = c.of-store.type_inv in let r : cycles_of c.args.costs.now Store ≤ 65535 = omega arith in r
  | Taken ↦ let a = c.of-taken.ensures in let b = c.of-taken.type_inv in let r : cycles_of c.args.costs.now Taken ≤ 65535 = omega arith in r
  | Untaken ↦ let a = c.of-untaken.ensures in let b = c.of-untaken.type_inv in let r : cycles_of c.args.costs.now Untaken ≤ 65535 = omega arith in r
  | Jump ↦ let a = c.of-jump.ensures in let b = c.of-jump.type_inv in let r : cycles_of c.args.costs.now Jump ≤ 65535 = omega arith in r
  | Mul ↦ let a = c.of-mul.ensures in let b = c.of-mul.type_inv in let r : cycles_of c.args.costs.now Mul ≤ 65535 = omega arith in r
  | Div ↦ let a = c.of-div.ensures in let b = c.of-div.type_inv in let r : cycles_of c.args.costs.now Div ≤ 65535 = omega arith in r
  | Ecall ↦ let a = c.of-ecall.ensures in let b = c.of-ecall.type_inv in let r : cycles_of c.args.costs.now Ecall ≤ 65535 = omega arith in r
  | Fence ↦ let a = c.of-fence.ensures in let b = c.of-fence.type_inv in let r : cycles_of c.args.costs.now Fence ≤ 65535 = omega arith in r
]
