-- Two verdicts on one image are the same.
use Rattle.std.proofs.Common.{◌≡◌, ◌⊎◌, inl, inr, ℕ, ◌<◌, ◌≤◌, List, arith, sym, ap, ◌∙◌, subst}
use Rattle.std.proofs.lemmas.Bool.{cases_lt}
use Rattle.scale_base.specs.declared.verdict.Verdict.{Verdict}
use Rattle.scale_base.specs.declared.verdict.Verdict.TheVariants.{Yes, No}
use Rattle.scale_base.specs.declared.verdict.Why.TheVariants as why
use Rattle.scale_base.specs.Image.{Image}
use Rattle.power_model.specs.Numbers.{PowerModel}
use Rattle.power_model.specs.Price.{time_at}
use Rattle.cost_theory.specs.Worst.{Numbers}
use Rattle.flow_graph.specs.FlowGraph.{FlowGraph}
use Rattle.loop_file.specs.declared.notes.LoopNote.{LoopNote}
use Rattle.loop_forest.specs.Tree.{LoopView, loops}
use Rattle.foreign_scan.specs.Agree.{ScanIsNotRefused, CausesAgree, FoundAgree}
use Rattle.foreign_scan.specs.Scanned.{Found}
use Rattle.image_check.specs.Causes.{IsBadCounter}
use Rattle.image_check.specs.Safe.{Owner}
use Rattle.image_check.specs.Checked.{graph_by, key_level, IsCounted}
use Rattle.image_check.proofs.AgreeScan.{no_cause, causes_same}
use Rattle.image_check.proofs.AgreeCounted as counted
use Rattle.image_check.proofs.AgreeCounted.{IsListed}
use Rattle.image_check.proofs.AgreeStages as stages
use Rattle.image_check.proofs.AgreeYes as yes

module _ (power : PowerModel) (original foreign : Image) (notes : List LoopNote) (found_agree : FoundAgree) (causes : CausesAgree) (not_both : ScanIsNotRefused) where
  -- ---- one that came further than the other

  module _ (v v' : FlowGraph) (tree tree' : LoopView) (one : IsListed original notes v tree) (other : IsListed original notes v' tree') where
    worst_of : (found found' : Found) (owner owner' : Owner) (n n' : Numbers) → IsCounted power original foreign v tree found owner n → IsCounted power original foreign v' tree' found' owner' n' → n.worst 0 ≡ n'.worst 0
    worst_of found found' owner owner' n n' c c' = (counted.counted_alike power original foreign notes v v' tree tree' one other found_agree found found' owner owner' n n' c c').alike.whole

    scan_clash : (a b : Verdict) → stages.BehindScan power original foreign notes v tree a → stages.IsScanFailed power original foreign notes v' tree' b → ⊥
    scan_clash a b known failed =
        let k = stages.scan_of power original foreign notes v tree a known in
        no_cause original foreign not_both v.code v'.code (loops v tree) (loops v' tree') k.found failed.cause (counted.lists power original foreign notes v v' tree tree' one other) (counted.loops_same power original foreign notes v v' tree tree' one other) other.code_is.reached k.scanned failed.first

    counter_clash : (a b : Verdict) → stages.BehindCounters power original foreign notes v tree a → stages.IsCounterFailed power original foreign notes v' tree' b → ⊥
    counter_clash a b known failed =
        let k = stages.known_of power original foreign notes v tree a known in
        counted.counter_clash power original foreign notes v v' tree tree' one other found_agree k.found k.owner failed.counter k.counted.scanned k.counted.owners failed.bad

    length_clash : (a b : Verdict) → stages.BehindLength power original foreign notes v tree a → stages.IsLengthFailed power original foreign notes v' tree' b → ⊥
    length_clash a b known failed =
        let k = stages.short_of power original foreign notes v tree a known in
        let w = worst_of k.known.found failed.long.found k.known.owner failed.long.owner k.known.n failed.long.n k.known.counted failed.long.counted in
        let short = k.short in
        let long = failed.long.long in
        omega (arith, w, short, long)

    start_clash : (a b : Verdict) → stages.BehindStart power original foreign notes v tree a → stages.IsStartFailed power original foreign notes v' tree' b → ⊥
    start_clash a b known failed =
        let k = stages.level_of power original foreign notes v tree a known in
        let low = k.level.level in
        let s = failed.nowhere.level_is in
        let n = failed.nowhere.levels_are in
        let none = failed.nowhere.none in
        omega (arith, low, s, n, none)

    record MeetsDeadline (a : Verdict) : Type 0 where
      found : Found
      owner : Owner
      n : Numbers
      is_counted : IsCounted power original foreign v tree found owner n
      in_time : time_at power (key_level power foreign) (n.worst 0) ≤ power.deadline

    time_of : (a : Verdict) → stages.BehindTime power original foreign notes v tree a → MeetsDeadline a
    time_of a (inl m) = record { found = m.misled.found; owner = m.misled.owner; n = m.misled.n; is_counted = m.misled.level.counted; in_time = m.misled.in_time }
    time_of a (inr p) = record {
      found = p.passed.found;
      owner = p.passed.owner;
      n = p.passed.n;
      is_counted = record { scanned = p.passed.safe.scanned; owners = p.passed.safe.owners; numbers = p.passed.safe.analyzed.numbers };
      in_time = p.passed.safe.in_time;
    }

    time_clash : (a b : Verdict) → stages.BehindTime power original foreign notes v tree a → stages.IsTimeFailed power original foreign notes v' tree' b → ⊥
    time_clash a b known failed =
        let k = time_of a known in
        let w = worst_of k.found failed.late.found k.owner failed.late.owner k.n failed.late.n k.is_counted failed.late.level.counted in
        let need : failed.need ≡ time_at power (key_level power foreign) (k.n.worst 0) = failed.late.need_is ∙ ap (time_at power (key_level power foreign)) (sym w) in
        let have = failed.late.have_is in
        let late = failed.late.late in
        let in_time = k.in_time in
        omega (arith, need, have, late, in_time)

    -- ---- two at one stage

    scan_same : (a b : Verdict) → stages.IsScanFailed power original foreign notes v tree a → stages.IsScanFailed power original foreign notes v' tree' b → a ≡ b
    scan_same a b x y =
        let same = causes_same original foreign causes v.code v'.code (loops v tree) (loops v' tree') x.cause y.cause (counted.lists power original foreign notes v v' tree tree' one other) (counted.loops_same power original foreign notes v v' tree tree' one other) one.code_is.reached x.first y.first in
        x.is ∙ (ap (λ c. No c) same ∙ sym y.is)

    bad_there : (found found' : Found) (c : ℕ) → found ≡ found' → IsBadCounter (graph_by original v) v.code (loops v tree) found c → IsBadCounter (graph_by original v') v'.code (loops v' tree') found' c
    bad_there found found' c same bad = subst (λ f. IsBadCounter (graph_by original v') v'.code (loops v' tree') f c) same (counted.bad_to power original foreign notes v v' tree tree' one other found c bad)

    length_same : (a b : Verdict) → stages.IsLengthFailed power original foreign notes v tree a → stages.IsLengthFailed power original foreign notes v' tree' b → a ≡ b
    length_same a b x y = x.is ∙ sym y.is

    start_same : (a b : Verdict) → stages.IsStartFailed power original foreign notes v tree a → stages.IsStartFailed power original foreign notes v' tree' b → a ≡ b
    start_same a b x y =
        let level : x.level ≡ y.level = x.nowhere.level_is ∙ sym y.nowhere.level_is in
        let levels : x.levels ≡ y.levels = x.nowhere.levels_are ∙ sym y.nowhere.levels_are in
        x.is ∙ (ap (λ n. No (why.Start n x.levels)) level ∙ (ap (λ n. No (why.Start y.level n)) levels ∙ sym y.is))

    time_same : (a b : Verdict) → stages.IsTimeFailed power original foreign notes v tree a → stages.IsTimeFailed power original foreign notes v' tree' b → a ≡ b
    time_same a b x y =
        let w = worst_of x.late.found y.late.found x.late.owner y.late.owner x.late.n y.late.n x.late.level.counted y.late.level.counted in
        let need : x.need ≡ y.need = x.late.need_is ∙ (ap (time_at power (key_level power foreign)) w ∙ sym y.late.need_is) in
        let have : x.have ≡ y.have = x.late.have_is ∙ sym y.late.have_is in
        x.is ∙ (ap (λ n. No (why.TooSlow n x.have)) need ∙ (ap (λ n. No (why.TooSlow y.need n)) have ∙ sym y.is))

  module _ (v v' : FlowGraph) (tree tree' : LoopView) (one : IsListed original notes v tree) (other : IsListed original notes v' tree') where
    counter_same : (a b : Verdict) → stages.IsCounterFailed power original foreign notes v tree a → stages.IsCounterFailed power original foreign notes v' tree' b → a ≡ b
    counter_same a b x y = x.is ∙ (ap (λ c. No (why.Counter c)) (equal (cases_lt x.counter y.counter) (cases_lt y.counter x.counter)) ∙ sym y.is)
      where
        found_is : x.bad.found ≡ y.bad.found
        found_is = counted.found_is power original foreign notes v v' tree tree' one other found_agree x.bad.found y.bad.found x.bad.scanned y.bad.scanned

        equal : (x.counter < y.counter) ⊎ (y.counter ≤ x.counter) → (y.counter < x.counter) ⊎ (x.counter ≤ y.counter) → x.counter ≡ y.counter
        equal (inl lt) q = absurd (y.bad.bad.1 x.counter lt (bad_there v v' tree tree' one other x.bad.found y.bad.found x.counter found_is x.bad.bad.0))
        equal (inr ge) (inl lt) = absurd (x.bad.bad.1 y.counter lt (bad_there v' v tree' tree other one y.bad.found x.bad.found y.counter (sym found_is) y.bad.bad.0))
        equal (inr ge) (inr le) = omega (arith, ge, le)

    module _ (levels_same : (a b : Verdict) → stages.IsLevelFailed power original foreign notes v tree a → stages.IsLevelFailed power original foreign notes v' tree' b → a ≡ b) where
      behind_time : (a b : Verdict) → stages.BehindTime power original foreign notes v tree a → stages.BehindTime power original foreign notes v' tree' b → a ≡ b
      behind_time a b (inl x) (inl y) = levels_same a b x y
      behind_time a b (inl x) (inr y) = absurd (yes.level_clash power original foreign notes found_agree v' v tree' tree other one b y x.at x.from x.misled)
      behind_time a b (inr x) (inl y) = absurd (yes.level_clash power original foreign notes found_agree v v' tree tree' one other a x y.at y.from y.misled)
      behind_time a b (inr x) (inr y) = x.is ∙ (ap (λ c. Yes c) (sym (yes.passed_same power original foreign notes found_agree v v' tree tree' one other a x y.checked y.passed)) ∙ sym y.is)

      behind_start : (a b : Verdict) → stages.BehindStart power original foreign notes v tree a → stages.BehindStart power original foreign notes v' tree' b → a ≡ b
      behind_start a b (inl x) (inl y) = time_same v v' tree tree' one other a b x y
      behind_start a b (inl x) (inr y) = absurd (time_clash v' v tree' tree other one b a y x)
      behind_start a b (inr x) (inl y) = absurd (time_clash v v' tree tree' one other a b x y)
      behind_start a b (inr x) (inr y) = behind_time a b x y

      behind_length : (a b : Verdict) → stages.BehindLength power original foreign notes v tree a → stages.BehindLength power original foreign notes v' tree' b → a ≡ b
      behind_length a b (inl x) (inl y) = start_same v v' tree tree' one other a b x y
      behind_length a b (inl x) (inr y) = absurd (start_clash v' v tree' tree other one b a y x)
      behind_length a b (inr x) (inl y) = absurd (start_clash v v' tree tree' one other a b x y)
      behind_length a b (inr x) (inr y) = behind_start a b x y

      behind_counters : (a b : Verdict) → stages.BehindCounters power original foreign notes v tree a → stages.BehindCounters power original foreign notes v' tree' b → a ≡ b
      behind_counters a b (inl x) (inl y) = length_same v v' tree tree' one other a b x y
      behind_counters a b (inl x) (inr y) = absurd (length_clash v' v tree' tree other one b a y x)
      behind_counters a b (inr x) (inl y) = absurd (length_clash v v' tree tree' one other a b x y)
      behind_counters a b (inr x) (inr y) = behind_length a b x y

      behind_scan : (a b : Verdict) → stages.BehindScan power original foreign notes v tree a → stages.BehindScan power original foreign notes v' tree' b → a ≡ b
      behind_scan a b (inl x) (inl y) = counter_same a b x y
      behind_scan a b (inl x) (inr y) = absurd (counter_clash v' v tree' tree other one b a y x)
      behind_scan a b (inr x) (inl y) = absurd (counter_clash v v' tree tree' one other a b x y)
      behind_scan a b (inr x) (inr y) = behind_counters a b x y

      pub verdicts_same : (a b : Verdict) → stages.Staged power original foreign notes v tree a → stages.Staged power original foreign notes v' tree' b → a ≡ b
      verdicts_same a b (inl x) (inl y) = scan_same v v' tree tree' one other a b x y
      verdicts_same a b (inl x) (inr y) = absurd (scan_clash v' v tree' tree other one b a y x)
      verdicts_same a b (inr x) (inl y) = absurd (scan_clash v v' tree tree' one other a b x y)
      verdicts_same a b (inr x) (inr y) = behind_scan a b x y
