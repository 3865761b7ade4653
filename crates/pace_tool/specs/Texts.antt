-- The texts that the program prints, byte for byte, in the forms of those of `scale`.
use Rattle.std.specs.Prelude.{codes, Bool, true, false, ℕ, zero, suc, ◌-◌, ◌==◌, List, [], ◌∷◌, ◌++◌, flat_map, slice_get, if◌then◌else◌, Option, Some, None}
use Rattle.std.specs.Fmt.{decimal}
use Rattle.scale_base.specs.declared.endings.End.{End}
use Rattle.scale_base.specs.declared.endings.End.TheVariants.{Exited, Trapped, OutOfSteps}
use Rattle.scale_base.specs.declared.endings.Kept.{Kept}
use Rattle.scale_report.specs.Texts.{address, end_words, kept_words, kind_name, number_line, numbered_lines, summary_text}
use Rattle.loop_drafts.specs.declared.drafted.LoopDraft.{LoopDraft}
use Rattle.loop_drafts.specs.Trusting.{trusted_stores}
use Rattle.paced_images.specs.declared.wanted.SwitchSite.{SwitchSite}
use Rattle.paced_images.specs.declared.proposal.Proposal.{Proposal}
use Rattle.pace_fit.specs.declared.endings.Ending.{Ending}
use Rattle.pace_fit.specs.declared.fitting.Fitted.{Fitted}
use Rattle.pace_fit.specs.Endings.{is_counted}
use Rattle.split_images.specs.declared.split.SplitImage.{SplitImage}
use Rattle.versioned_images.specs.declared.versions.Version.{Version}
use Rattle.version_fits.specs.declared.choosing.ChosenVersion.{ChosenVersion}

-- why an input doesn't count: how the run of the original ended, where that didn't exit, or what it broke
abbrev pub left_words : End → Option Kept → List ℕ
left_words (Exited status) kept = codes "kept " ++ kept_words kept
left_words (Trapped trap) kept = end_words (Trapped trap)
left_words OutOfSteps kept = codes "out of steps"

-- the line of an input that doesn't count, by its number
unfoldable pub left_line : ℕ → Ending → List ℕ
left_line k ending = codes "input " ++ decimal k ++ codes " " ++ left_words ending.end ending.kept ++ 10 ∷ []

-- that, and none of one that counts
abbrev pub left_line_if : ℕ → Ending → List ℕ
left_line_if k ending = if is_counted ending then [] else left_line k ending

-- the energy of what `rewrite` stores, or none where it refuses or a run is out of steps
unfoldable pub rewrite_line : Option ℕ → List ℕ
rewrite_line (Some energy) = number_line (codes "rewrite energy ") energy
rewrite_line None = codes "rewrite energy none\n"

-- the form of a switch: by a word of levels, or to the lowest level
abbrev pub form_name : Bool → List ℕ
form_name true = codes "lowest "
form_name false = codes "switch "

-- the line of a switch: its form, the address of its branch or jump, and which of its edges it is on
unfoldable pub switch_line : SwitchSite → List ℕ
switch_line site = form_name site.lowest ++ address site.at ++ codes " " ++ kind_name site.kind ++ 10 ∷ []

abbrev pub switch_lines : List SwitchSite → List ℕ
switch_lines sites = flat_map switch_line sites

-- the line of a loop that is tallied: the address of its header
unfoldable pub tally_line : ℕ → List ℕ
tally_line header = codes "tally " ++ address header ++ 10 ∷ []

abbrev pub tally_lines : List ℕ → List ℕ
tally_lines headers = flat_map tally_line headers

-- a line for each switch of a proposal and for each loop that it tallies
abbrev pub proposal_lines : Option Proposal → List ℕ
proposal_lines (Some proposal) = switch_lines proposal.sites.items ++ tally_lines proposal.tallied.items
proposal_lines None = []

-- the switches of a candidate: the image of `hold`, which is candidate 0, has none, and candidate k + 1 has those of proposal k
unfoldable pub switches_text : List Proposal → ℕ → List ℕ
switches_text proposals candidate =
    if candidate == 0 then codes "no switches: hold's image is stored\n" else proposal_lines (slice_get proposals (candidate - 1))

-- the chosen candidate: its summary, how many inputs count and how many don't, why each of those doesn't, the energy of the choice, of the image that runs at one level and of the
-- one that `rewrite` stores, the least energy of the inputs that count, its switches and its tallied loops
abbrev pub fitted_text : List Ending → List Proposal → Fitted → List ℕ
fitted_text endings proposals f =
    summary_text f.summary
    ++ number_line (codes "inputs ") f.inputs
    ++ number_line (codes "left out ") f.left_out
    ++ numbered_lines left_line_if 1 endings
    ++ number_line (codes "energy ") f.energy
    ++ number_line (codes "hold energy ") f.hold_energy
    ++ rewrite_line f.rewrite_energy
    ++ number_line (codes "least energy ") f.least_energy
    ++ switches_text proposals f.candidate

-- the version of a loop: its header and the registers by which its copy runs; below which difference of these, and how many instructions are added
unfoldable pub guard_words : Version → List ℕ
guard_words v = codes "version " ++ address v.header ++ codes " where x" ++ decimal v.larger ++ codes " - x" ++ decimal v.smaller

unfoldable pub limit_line : Version → List ℕ
limit_line v = codes " < " ++ decimal v.limit ++ codes " words " ++ decimal v.words ++ 10 ∷ []

-- that, and the energy that a fit of the program without it takes over the inputs that count, and its image at one level
abbrev pub version_text : ChosenVersion → List ℕ
version_text chosen = guard_words chosen.version ++ limit_line chosen.version ++ number_line (codes "plain energy ") chosen.without.energy
    ++ number_line (codes "plain hold energy ") chosen.without.hold_energy

abbrev pub no_version_text : List ℕ
no_version_text = codes "no version\n"

-- whether returns are proved to go back
abbrev pub returns_line : Bool → List ℕ
returns_line true = codes "returns proved\n"
returns_line false = codes "returns open\n"

-- how many stores are trusted, where some are
abbrev pub trusted_line : ℕ → List ℕ
trusted_line zero = []
trusted_line (suc n) = number_line (codes "trusted stores ") (suc n)

-- a drafted loop file: how many loops it has, of how many of them the bound is proved, how many have none, how many parts of the code turn that are no loops, whether returns
-- are proved, and how many stores are trusted for that, where some are
abbrev pub drafted_text : LoopDraft → List ℕ
drafted_text d =
    number_line (codes "loops ") d.loops
    ++ number_line (codes "proved ") d.proved
    ++ number_line (codes "open ") d.unbounded
    ++ number_line (codes "irreducible ") d.aside
    ++ returns_line d.returns
    ++ trusted_line (trusted_stores d.trust)

-- a split image: how many parts of the code turned and were entered at several places, how many do in it, and how many instructions were added
abbrev pub split_text : SplitImage → List ℕ
split_text split =
    number_line (codes "parts ") split.parts
    ++ number_line (codes "left ") split.left
    ++ number_line (codes "instructions ") split.instructions
