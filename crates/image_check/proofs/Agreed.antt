-- Two answers that a check may give agree: a scan finds one thing.
use Rattle.foreign_scan.proofs.Laws.{causes_agree, found_agree, scan_is_not_refused}
use Rattle.image_check.specs.Agreeing.{CheckedAnswersAgree}
use Rattle.image_check.proofs.AgreeAnswers.{answers_agree}

pub checked_answers : CheckedAnswersAgree
checked_answers = answers_agree found_agree causes_agree scan_is_not_refused
