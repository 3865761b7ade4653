-- The lemmas of this crate that crates above may cite.
pub use Rattle.loop_versions.proofs.GuardSteps.{guard_leads as guards_lead_on, jump_step, set_step}
pub use Rattle.loop_versions.proofs.Moved.{plain_moves as plain_instructions_move}
pub use Rattle.loop_versions.proofs.Reach.{fits_fields, fits_offset, jump_fields, jump_fits_as, offset_fits, reaches_is}
pub use Rattle.loop_versions.proofs.Free.{free_step}
-- what the test of pieces and sites says
pub use Rattle.loop_versions.proofs.Fit.{AreFit, IsRightSite, each_passes, fit_parts, right_site}
-- of the kinds of pieces, and their code
pub use Rattle.loop_versions.proofs.Parts.{IsBranchOf, IsBridgeOf, IsCallOf, IsCopyOf, IsGuardOf, IsJumpOf, IsReturnOf, branch_code, branch_of, bridge_of, call_of, code_fields, code_len, copied_code, copy_of, guard_of, jump_of, read_fields, return_of}
-- of open calls
pub use Rattle.loop_versions.proofs.OpenCalls.{begins_first, begins_more, begins_on, begins_same, found_any, off_calls, none_open, some_entered}
-- of pieces in their places, and of the site at an address
pub use Rattle.loop_versions.proofs.Placed.{IsPlaced, code_few, code_some, extra_few, extra_within, len_some, placed, within}
pub use Rattle.loop_versions.proofs.Sites.{HasWord, IsElsewhere, IsNoSite, IsSiteOf, each_patch, no_site, site_of, site_passes, site_words}
