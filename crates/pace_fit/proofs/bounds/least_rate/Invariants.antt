use Rattle.std.proofs.Common.{◌≡◌, ◌^◌, ◌<◌, take}
use Rattle.std.specs.Prelude.{min, fold}
use Rattle.power_model.specs.Levels.{level}
use Rattle.pace_fit.specs.Least.{rate}
use Rattle.pace_fit.proofs.bounds.least_rate.Given as goal

-- the least rate so far
abbrev pub invariant-loop-k : goal.invariant-loop-k
invariant-loop-k l = record {
  value : l.least ≡ fold (λ n x. min n (rate l.a l.b x)) (rate l.a l.b (level l.power.levels 0)) (take l.k l.power.levels);
  small : l.least < 2 ^ 65;
}
