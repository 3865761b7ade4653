-- What `pace` gives of a proposal of which no mark is dead: each of its sites and each of its tallied loops can lower a level in its image.
use Rattle.std.specs.Prelude.{◌≢◌, ℕ, List, Option, Some, None, Result, Ok, Err}
use Rattle.scale_base.specs.declared.refusal.Refusal.{Refusal}
use Rattle.scale_base.specs.declared.summary.Summary.{Summary}
use Rattle.paced_images.specs.declared.proposal.Proposal.{Proposal}
use Rattle.paced_images.specs.Paced.{IsPaced}
use Rattle.paced_images.specs.Useful.{AreKept, Marks}

abbrev pub marks_of : Proposal → Marks
marks_of proposal = (proposal.sites.items, proposal.tallied.items)

-- what `pace` gives of it
abbrev pub IsPacedOf : (image machine loop_file : List ℕ) → Proposal → Result (List ℕ × Summary) Refusal → Type 0
IsPacedOf image machine loop_file proposal answer = IsPaced image machine loop_file proposal.sites.items proposal.counted
    proposal.tallied.items proposal.share answer

-- the marks of it that are of use there
abbrev pub AreKeptOf : (image machine loop_file : List ℕ) → Proposal → Marks → Type 0
AreKeptOf image machine loop_file proposal kept = AreKept image machine loop_file proposal.sites.items proposal.counted
    proposal.tallied.items proposal.share kept

-- all of them are
abbrev pub HasNoDeadMark : (image machine loop_file : List ℕ) → Proposal → Type 0
HasNoDeadMark image machine loop_file proposal = AreKeptOf image machine loop_file proposal (marks_of proposal)

-- some aren't
abbrev pub HasDeadMark : (image machine loop_file : List ℕ) → Proposal → Type 0
HasDeadMark image machine loop_file proposal = (kept : Marks) × AreKeptOf image machine loop_file proposal kept × (kept ≢ marks_of proposal)

-- the image, where it has no dead mark, and none where it has some; or what is refused
abbrev pub IsProposalPaced : (image machine loop_file : List ℕ) → Proposal → Result (Option (List ℕ × Summary)) Refusal → Type 0
IsProposalPaced image machine loop_file proposal (Ok (Some given)) = IsPacedOf image machine loop_file proposal (Ok given) ×
    HasNoDeadMark image machine loop_file proposal
IsProposalPaced image machine loop_file proposal (Ok None) = ((given : List ℕ × Summary) ×
    IsPacedOf image machine loop_file proposal (Ok given)) × HasDeadMark image machine loop_file proposal
IsProposalPaced image machine loop_file proposal (Err refusal) = IsPacedOf image machine loop_file proposal (Err refusal)
