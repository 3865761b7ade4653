-- What is told of a drafted jump file.
use Rattle.std.specs.Prelude.{codes, ℕ, ◌+◌, ◌++◌, List, length, count_by}
use Rattle.scale_report.specs.Texts.{number_line}
use Rattle.jump_proofs.specs.Proved.{proved_count}
use Rattle.jump_drafts.specs.declared.draft.JumpDraft.{JumpDraft}
use Rattle.jump_search.specs.declared.reasons.OpenJump.{OpenJump}
use Rattle.jump_search.specs.Reasons.{is_open}

-- how many are open
abbrev pub open_count : List OpenJump → ℕ
open_count others = count_by (λ other. is_open other.reason) others

-- how many jumps are listed or open, how many are listed, how many of these are proved, and how many are open
abbrev pub jumps_text : JumpDraft → List ℕ
jumps_text draft =
    number_line (codes "jumps ") (length draft.notes + open_count draft.others.items)
    ++ number_line (codes "listed ") (length draft.notes)
    ++ number_line (codes "proved ") (proved_count draft.proof)
    ++ number_line (codes "open ") (open_count draft.others.items)
