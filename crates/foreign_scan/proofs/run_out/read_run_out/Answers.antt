use Rattle.std.proofs.Common.{subst, sym}
use Rattle.foreign_scan.specs.Form.{FirstChooses}
use Rattle.foreign_scan.proofs.RunOutLaws.{run_out_one, no_run_out}
use Rattle.foreign_scan.proofs.run_out.read_run_out.Goals as goal
use Rattle.foreign_scan.proofs.run_out.read_run_out.Goals.{else-first_chooses-via-then-first_chooses+else-jumps_to, else-first_chooses-via-else-first_chooses}

pub returns-then-jumps_to-clause-only : goal.returns-then-jumps_to-clause-only
returns-then-jumps_to-clause-only c =
    λ others r. run_out_one c.args.key.now c.args.at c.args.to others c.in_ok-fragments.fragments.items c.in_ok-fragments.ensures.fragments c.in_ok-fragments.ensures.whole r

pub returns-else-first_chooses-clause-none : goal.returns-else-first_chooses-clause-none
returns-else-first_chooses-clause-none c =
    λ fs r. let both = no_run_out c.args.key.now c.args.at c.args.to fs c.in_ok-fragments.fragments.items c.in_ok-fragments.end c.in_ok-fragments.ensures.fragments c.in_ok-fragments.ensures.whole
    c.in_ok-fragments.ensures.end r in
    elim c.else-first_chooses.branch [
      | else-first_chooses-via-then-first_chooses+else-jumps_to w ↦ absurd (let e = w.jumps_to.ensures.1 both.1 in cc)
      | else-first_chooses-via-else-first_chooses w ↦ absurd (let e = c.first_chooses.ensures.1 (subst FirstChooses (sym c.deref.ensures.value) both.0) in cc)
    ]
