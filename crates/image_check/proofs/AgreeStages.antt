-- How far a check of an image came: a verdict by the stage at which it was given.
use Rattle.std.proofs.Common.{◌≡◌, ◌⊎◌, inl, inr, List, ℕ, ◌≤◌, ◌^◌, refl}
use Rattle.scale_base.specs.declared.verdict.Checked.{Checked}
use Rattle.scale_base.specs.declared.verdict.Verdict.{Verdict}
use Rattle.scale_base.specs.declared.verdict.Verdict.TheVariants.{Yes, No}
use Rattle.scale_base.specs.declared.verdict.Why.{Why}
use Rattle.scale_base.specs.declared.verdict.Why.TheVariants as why
use Rattle.scale_base.specs.Image.{Image}
use Rattle.power_model.specs.Numbers.{PowerModel}
use Rattle.cost_theory.specs.Worst.{Numbers}
use Rattle.flow_graph.specs.FlowGraph.{FlowGraph}
use Rattle.loop_file.specs.declared.notes.LoopNote.{LoopNote}
use Rattle.loop_forest.specs.Tree.{LoopView, loops}
use Rattle.foreign_scan.specs.Scanned.{Found, IsScanned, IsFirstWhy}
use Rattle.image_check.specs.Safe.{Owner}
use Rattle.image_check.specs.Checked.{IsCounted, HasLevel, CountsNoLoop, IsOverLong, StartsNowhere, IsOverdue, IsMisled, IsPassed, IsFirstCause, IsImageVerdict}

module _ (power : PowerModel) (original foreign : Image) (notes : List LoopNote) (v : FlowGraph) (tree : LoopView) where
  pub record IsScanFailed (verdict : Verdict) : Type 0 where
    pub cause : Why
    pub first : IsFirstWhy original foreign v.code (loops v tree) cause
    pub is : verdict ≡ No cause

  pub record IsCounterFailed (verdict : Verdict) : Type 0 where
    pub counter : ℕ
    pub bad : CountsNoLoop original foreign v tree counter
    pub is : verdict ≡ No (why.Counter counter)

  pub record IsLengthFailed (verdict : Verdict) : Type 0 where
    pub long : IsOverLong power original foreign v tree
    pub is : verdict ≡ No why.TooLong

  pub record IsStartFailed (verdict : Verdict) : Type 0 where
    pub level : ℕ
    pub levels : ℕ
    pub nowhere : StartsNowhere power original foreign v tree level levels
    pub is : verdict ≡ No (why.Start level levels)

  pub record IsTimeFailed (verdict : Verdict) : Type 0 where
    pub need : ℕ
    pub have : ℕ
    pub late : IsOverdue power original foreign v tree need have
    pub is : verdict ≡ No (why.TooSlow need have)

  pub record IsLevelFailed (verdict : Verdict) : Type 0 where
    pub at : ℕ
    pub from : ℕ
    pub misled : IsMisled power original foreign v tree at from
    pub is : verdict ≡ No (why.Level at from)

  pub record HasPassed (verdict : Verdict) : Type 0 where
    pub checked : Checked
    pub passed : IsPassed power original foreign notes v tree checked
    pub is : verdict ≡ Yes checked

  -- each stage, and those behind it
  abbrev pub BehindTime : Verdict → Type 0
  BehindTime verdict = IsLevelFailed verdict ⊎ HasPassed verdict

  abbrev pub BehindStart : Verdict → Type 0
  BehindStart verdict = IsTimeFailed verdict ⊎ BehindTime verdict

  abbrev pub BehindLength : Verdict → Type 0
  BehindLength verdict = IsStartFailed verdict ⊎ BehindStart verdict

  abbrev pub BehindCounters : Verdict → Type 0
  BehindCounters verdict = IsLengthFailed verdict ⊎ BehindLength verdict

  abbrev pub BehindScan : Verdict → Type 0
  BehindScan verdict = IsCounterFailed verdict ⊎ BehindCounters verdict

  abbrev pub Staged : Verdict → Type 0
  Staged verdict = IsScanFailed verdict ⊎ BehindScan verdict

  scan_failed : (cause : Why) → IsFirstWhy original foreign v.code (loops v tree) cause → Staged (No cause)
  scan_failed cause first = inl (record { cause = cause; first = first; is = refl })

  no_stage : (cause : Why) → IsFirstCause power original foreign v tree cause → Staged (No cause)
  no_stage (why.Image number) h = absurd h
  no_stage why.NoKey h = scan_failed why.NoKey h
  no_stage why.Layout h = scan_failed why.Layout h
  no_stage (why.Byte at) h = scan_failed (why.Byte at) h
  no_stage (why.Patch at) h = scan_failed (why.Patch at) h
  no_stage (why.Stub at) h = scan_failed (why.Stub at) h
  no_stage (why.Counter counter) h = inr (inl (record { counter = counter; bad = h; is = refl }))
  no_stage why.TooLong h = inr (inr (inl (record { long = h; is = refl })))
  no_stage (why.Start level levels) h = inr (inr (inr (inl (record { level = level; levels = levels; nowhere = h; is = refl }))))
  no_stage (why.TooSlow need have) h = inr (inr (inr (inr (inl (record { need = need; have = have; late = h; is = refl })))))
  no_stage (why.Level at from) h = inr (inr (inr (inr (inr (inl (record { at = at; from = from; misled = h; is = refl }))))))

  pub stage_of : (verdict : Verdict) → IsImageVerdict power original foreign notes v tree verdict → Staged verdict
  stage_of (Yes checked) h = inr (inr (inr (inr (inr (inr (record { checked = checked; passed = h; is = refl }))))))
  stage_of (No cause) h = no_stage cause h

  -- ---- what is known behind a stage

  pub record IsKnownCounted : Type 0 where
    pub found : Found
    pub owner : Owner
    pub n : Numbers
    pub counted : IsCounted power original foreign v tree found owner n

  pub record IsKnownLevel : Type 0 where
    pub found : Found
    pub owner : Owner
    pub n : Numbers
    pub level : HasLevel power original foreign v tree found owner n

  abbrev pub counted_of : IsKnownLevel → IsKnownCounted
  counted_of k = record { found = k.found; owner = k.owner; n = k.n; counted = k.level.counted }

  abbrev pub level_of_passed : (verdict : Verdict) → HasPassed verdict → IsKnownLevel
  level_of_passed verdict h = record {
    found = h.passed.found;
    owner = h.passed.owner;
    n = h.passed.n;
    level = record {
      counted = record { scanned = h.passed.safe.scanned; owners = h.passed.safe.owners; numbers = h.passed.safe.analyzed.numbers };
      short = h.passed.safe.not_long;
      level = h.passed.safe.start;
    };
  }

  pub level_of_time : (verdict : Verdict) → BehindTime verdict → IsKnownLevel
  level_of_time verdict (inl h) = record { found = h.misled.found; owner = h.misled.owner; n = h.misled.n; level = h.misled.level }
  level_of_time verdict (inr h) = level_of_passed verdict h

  pub level_of : (verdict : Verdict) → BehindStart verdict → IsKnownLevel
  level_of verdict (inl h) = record { found = h.late.found; owner = h.late.owner; n = h.late.n; level = h.late.level }
  level_of verdict (inr h) = level_of_time verdict h

  -- the worst cycles are in range
  pub record IsKnownShort : Type 0 where
    pub known : IsKnownCounted
    pub short : known.n.worst 0 ≤ 2 ^ 48

  pub short_of : (verdict : Verdict) → BehindLength verdict → IsKnownShort
  short_of verdict (inl h) = record { known = record { found = h.nowhere.found; owner = h.nowhere.owner; n = h.nowhere.n; counted = h.nowhere.counted }; short = h.nowhere.short }
  short_of verdict (inr h) = let k = level_of verdict h in record { known = counted_of k; short = k.level.short }

  pub known_of : (verdict : Verdict) → BehindCounters verdict → IsKnownCounted
  known_of verdict (inl h) = record { found = h.long.found; owner = h.long.owner; n = h.long.n; counted = h.long.counted }
  known_of verdict (inr h) = (short_of verdict h).known

  pub record IsKnownScanned : Type 0 where
    pub found : Found
    pub scanned : IsScanned original foreign v.code (loops v tree) found

  pub scan_of : (verdict : Verdict) → BehindScan verdict → IsKnownScanned
  scan_of verdict (inl h) = record { found = h.bad.found; scanned = h.bad.scanned }
  scan_of verdict (inr h) = let k = known_of verdict h in record { found = k.found; scanned = k.counted.scanned }
