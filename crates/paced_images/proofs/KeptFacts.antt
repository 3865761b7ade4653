-- The marks that are of use, by what the files give; and all of them, where as many are.
use Rattle.std.proofs.Common.{◌≡◌, ℕ, suc, ◌≤◌, Bool, true, false, cond, List, [], ◌∷◌, length, map, Option, Some, None, Result, Ok, Err, refl, sym, ap, ◌∙◌, subst, arith}
use Rattle.std.specs.Prelude.{Vec, IfOk, IfSome, option_map}
use Rattle.std.specs.List.{filter}
use Rattle.std.specs.declared.alloc.Global.{Global}
use Rattle.std.proofs.Math.Path.{fun_ext}
use Rattle.std.proofs.lemmas.List.Sums.{length-filter, count_by-le-length}
use Rattle.scale_base.specs.declared.refusal.Stop.{Stop}
use Rattle.scale_base.specs.declared.refusal.Stop.TheVariants.{Refused, Memory}
use Rattle.scale_base.specs.declared.summary.Summary.{Summary}
use Rattle.scale_base.specs.Answer.{AnswersBy}
use Rattle.level_tables.specs.Budgets.{meets_in_budget}
use Rattle.marked_images.specs.Promise.{IsStoredSafely}
use Rattle.marked_images.specs.declared.scaling.Program.{Program}
use Rattle.paced_images.specs.declared.proposal.Proposal.{Proposal}
use Rattle.paced_images.specs.declared.wanted.SwitchSite.{SwitchSite}
use Rattle.marked_images.specs.Markings.{HasMarking}
use Rattle.paced_images.specs.Programs.{IsProgramFrom, IsProgramFound}
use Rattle.paced_images.specs.Proposed.{AreKeptOf, HasDeadMark, HasNoDeadMark, IsPacedOf, IsProposalPaced}
use Rattle.paced_images.specs.Useful.{AreKept, AreKeptBy, AreLoopsKeptBy, Marks, is_useful, is_useful_loop}
use Rattle.paced_images.specs.Wanted.{wanted_of, marked_at}
use Rattle.stub_writer.specs.Sites.{site_of}
use Rattle.rewritten_runs.specs.Stubs.{rewritten_file}
use Rattle.paced_images.proofs.PacedSafe.{safe_given}
use Rattle.paced_images.proofs.ProgramFacts.{files_given}

module _ (image machine loops : List ℕ) (sites : List SwitchSite) (counted : Bool) (tallied : List ℕ) (share : ℕ) (p : Program) (h : IsProgramFrom image machine loops sites counted tallied share p) where
  pub has_marking : HasMarking p.power p.marked.graph p.marked.tree p.marked.marking
  has_marking = let m = h.marked.found in (p.view, wanted_of p.marked.graph p.marked.tree sites tallied, m.0, m.1, m.2.marking)

  pub are_kept : (kept : List SwitchSite) (kept_tallied : List ℕ) → AreKeptBy p.power p.marked sites kept → AreLoopsKeptBy p.power p.marked tallied kept_tallied → AreKept image machine loops sites counted tallied share (kept, kept_tallied)
  are_kept kept kept_tallied are loops_are =
      let m = h.marked.found in
      let v = p.marked.graph in
      let t = p.marked.tree in
      let test = ap (meets_in_budget p.power) (fun_ext m.2.budgets) in
      let wanted = wanted_of v t sites tallied in
      record {
        power = p.power;
        original = p.view;
        notes = h.notes;
        power_is = h.power_is;
        original_is = h.view_is;
        notes_are = h.notes_are;
        code = p.marked.graph;
        tree = p.marked.tree;
        stored = m.0;
        least = m.1;
        start = p.marked.start;
        weighed = record { code_is = h.marked.code_is; tree_is = h.marked.tree_is; counters = h.marked.counters; stored_are = m.2.stored_are };
        least_are = m.2.least_are;
        slow = m.2.slow;
        sites_are = subst (λ q. kept ≡ filter (is_useful p.power q p.marked.start p.view v t (marked_at v t sites tallied) m.0 m.1) sites) test (are p.view wanted m.0 m.1 m.2.marking);
        loops_are = subst (λ q. kept_tallied ≡ filter (is_useful_loop p.power q p.marked.start p.view v t (marked_at v t sites tallied) m.0 m.1) tallied) test (loops_are p.view wanted m.0 m.1 m.2.marking);
      }

-- ---- as many as all

filter_few : {X : Type 0} (p : X → Bool) (xs : List X) → length (filter p xs) ≤ length xs
filter_few p xs = subst (λ n. n ≤ length xs) (sym (length-filter p xs)) (count_by-le-length p xs)

filter_whole : {X : Type 0} (p : X → Bool) (xs : List X) → length (filter p xs) ≡ length xs → filter p xs ≡ xs
filter_whole p [] e = refl
filter_whole p (x ∷ xs) e = by (p x) e (filter_whole p xs)
  where
    by : (b : Bool) → length (cond b (x ∷ filter p xs) (filter p xs)) ≡ suc (length xs) → (length (filter p xs) ≡ length xs → filter p xs ≡ xs) → cond b (x ∷ filter p xs) (filter p xs) ≡ x ∷ xs
    by true same rest = ap (λ ys. x ∷ ys) (rest (omega (arith, same)))
    by false same rest = absurd (let few = filter_few p xs in omega (arith, same, few))

whole : {X : Type 0} (p : X → Bool) (xs kept : List X) → kept ≡ filter p xs → length kept ≡ length xs → kept ≡ xs
whole p xs kept is same = is ∙ filter_whole p xs (ap length (sym is) ∙ same)

module _ (image machine loops : List ℕ) (proposal : Proposal) (kept : List SwitchSite) (kept_tallied : List ℕ) (are : AreKeptOf image machine loops proposal (kept, kept_tallied)) where
  pub no_dead_mark : length kept ≡ length proposal.sites.items → length kept_tallied ≡ length proposal.tallied.items → HasNoDeadMark image machine loops proposal
  no_dead_mark sites tallied =
      let one : kept ≡ proposal.sites.items = whole _ proposal.sites.items kept are.sites_are sites in
      let two : kept_tallied ≡ proposal.tallied.items = whole _ proposal.tallied.items kept_tallied are.loops_are tallied in
      subst (λ (ks : List SwitchSite). AreKeptOf image machine loops proposal (ks, proposal.tallied.items)) one (subst (λ (ts : List ℕ). AreKeptOf image machine loops proposal (kept, ts)) two are)

  pub dead_mark : ((length kept ≡ length proposal.sites.items) × (length kept_tallied ≡ length proposal.tallied.items) → ⊥) → HasDeadMark image machine loops proposal
  dead_mark fewer = ((kept, kept_tallied), are, λ e. fewer (ap (λ (m : Marks). length m.0) e, ap (λ (m : Marks). length m.1) e))

-- ---- what is stored

abbrev pub shown : Vec ℕ Global × Summary → List ℕ × Summary
shown given = (given.0.items, given.1)

pub useful_safe : (image machine loops : List ℕ) (proposal : Proposal) (result : Result (Option (Vec ℕ Global × Summary)) Stop) → length image ≤ 4194304 → length machine ≤ 1048576 → length loops ≤ 1048576 → proposal.share ≤ 4 →
    AnswersBy (option_map shown) result (IsProposalPaced image machine loops proposal) → IfOk result (λ made. IfSome made (λ given. IsStoredSafely image machine loops given.0.items given.1))
useful_safe image machine loops proposal (Ok (Some given)) si sm sl few h = safe_given image machine loops proposal.sites.items proposal.counted proposal.tallied.items proposal.share (Ok given) si sm sl few h.0
useful_safe image machine loops proposal (Ok None) si sm sl few h = tt
useful_safe image machine loops proposal (Err stop) si sm sl few h = tt

pub proposal_stops : (image machine loops : List ℕ) (proposal : Proposal) (stop : Stop) → AnswersBy {X = Program} {Y = Program} (λ p. p) (Err stop) (IsProgramFound image machine loops proposal.sites.items proposal.counted proposal.tallied.items proposal.share) →
    AnswersBy {X = Option (Vec ℕ Global × Summary)} {Y = Option (List ℕ × Summary)} (option_map shown) (Err stop) (IsProposalPaced image machine loops proposal)
proposal_stops image machine loops proposal (Refused refusal) h = h
proposal_stops image machine loops proposal Memory h = tt

-- ---- the program of a proposal

abbrev pub IsProgramOf : (image machine loops : List ℕ) → Proposal → Program → Type 0
IsProgramOf image machine loops proposal p = IsProgramFrom image machine loops proposal.sites.items proposal.counted proposal.tallied.items proposal.share p

module _ (image machine loops : List ℕ) (proposal : Proposal) (sites : List SwitchSite) (counted : Bool) (tallied : List ℕ) (share : ℕ)
    (same_sites : sites ≡ proposal.sites.items) (same_counted : counted ≡ proposal.counted) (same_tallied : tallied ≡ proposal.tallied.items) (same_share : share ≡ proposal.share) where
  moved : (P : List SwitchSite → Bool → List ℕ → ℕ → Type 0) → P sites counted tallied share → P proposal.sites.items proposal.counted proposal.tallied.items proposal.share
  moved P h = subst (λ n. P proposal.sites.items proposal.counted proposal.tallied.items n) same_share (subst (λ ts. P proposal.sites.items proposal.counted ts share) same_tallied
      (subst (λ b. P proposal.sites.items b tallied share) same_counted (subst (λ ss. P ss counted tallied share) same_sites h)))

  pub program_is : (p : Program) → IsProgramFrom image machine loops sites counted tallied share p → IsProgramOf image machine loops proposal p
  program_is p h = moved (λ ss b ts n. IsProgramFrom image machine loops ss b ts n p) h

  pub program_stops : (stop : Stop) → AnswersBy {X = Program} {Y = Program} (λ p. p) (Err stop) (IsProgramFound image machine loops sites counted tallied share) →
      AnswersBy {X = Option (Vec ℕ Global × Summary)} {Y = Option (List ℕ × Summary)} (option_map shown) (Err stop) (IsProposalPaced image machine loops proposal)
  program_stops stop h = proposal_stops image machine loops proposal stop
      (moved (λ ss b ts n. AnswersBy {X = Program} {Y = Program} (λ p. p) (Err stop) (IsProgramFound image machine loops ss b ts n)) h)

module _ (image machine loops : List ℕ) (proposal : Proposal) (p : Program) (h : IsProgramOf image machine loops proposal p) (kept : List SwitchSite) (kept_tallied : List ℕ) where
  pub kept_of : (sites : List SwitchSite) (tallied : List ℕ) → sites ≡ proposal.sites.items → tallied ≡ proposal.tallied.items → AreKeptBy p.power p.marked sites kept → AreLoopsKeptBy p.power p.marked tallied kept_tallied → AreKeptOf image machine loops proposal (kept, kept_tallied)
  kept_of sites tallied same_sites same_tallied are loops_are =
      are_kept image machine loops proposal.sites.items proposal.counted proposal.tallied.items proposal.share p h kept kept_tallied
      (subst (λ (ss : List SwitchSite). AreKeptBy p.power p.marked ss kept) same_sites are) (subst (λ (ts : List ℕ). AreLoopsKeptBy p.power p.marked ts kept_tallied) same_tallied loops_are)

pub paced_of : (image machine loops : List ℕ) (proposal : Proposal) (p : Program) → IsProgramOf image machine loops proposal p → (bytes : List ℕ) → bytes ≡ rewritten_file p.view (map site_of p.scaling.stubs.items) p.scaling.base p.scaling.summary.start →
    IsPacedOf image machine loops proposal (Ok (bytes, p.scaling.summary))
paced_of image machine loops proposal p h bytes stored = files_given image machine loops proposal.sites.items proposal.counted proposal.tallied.items proposal.share p bytes h stored
