-- What is known of a state of the original run, and the ways through sites, bridges and guards to what stands for its instruction.
use Rattle.std.proofs.Common.{cond, ◌≡◌, ℕ, zero, suc, ◌+◌, ◌%◌, ◌^◌, ◌<◌, ◌≤◌, Bool, true, false, List, [], ◌∷◌, ◌++◌, length, replicate, refl, arith, sym, ◌∙◌, ap, subst, Option, Some, None, ◌⊎◌, inl, inr, ◌*◌}
use Rattle.std.specs.Prelude.{All, slice_set, ◌==◌}
use Rattle.std.specs.List.{list_any, list_all}
use Rattle.std.proofs.lemmas.Bool.{and_parts, or_left, or_right, eqb-true, lt-ltb, le-ltb, or_from}
use Rattle.std.proofs.lemmas.List.Elements.{All-nil, All-cons, All-append, All-weaker}
use Rattle.scale_base.specs.declared.stepping.Stepped.{Stepped}
use Rattle.scale_base.specs.Image.{Image, loaded_byte, is_word_address, is_in}
use Rattle.scale_base.specs.Layout.{layout_of, can_fetch}
use Rattle.scale_base.specs.State.{Setting, State, reg}
use Rattle.scale_base.specs.Step.{Outcome, step, goes, stepped}
use Rattle.scale_base.specs.Run.{setting_of, starting_level}
use Rattle.scale_base.proofs.Laws.{step_zero}
use Rattle.machine_laws.proofs.Laws.{step_length}
use Rattle.code_text.specs.Text.{text_of}
use Rattle.graph_runs.proofs.Laws.{word_bound, not_written, IsTrap, step_done}
use Rattle.stored_runs.specs.Meaning.{StepsLead}
use Rattle.stored_runs.proofs.Laws.{leads_none, leads_first, leads_on, laid, SeeAlike, over, step_alike, hidden, word_stays}
use Rattle.stub_writer.specs.Stubs.{jump}
use Rattle.image_lower.specs.TreeRuns.{InstrStands, CodeStands}
use Rattle.scale_base.specs.declared.instruction.Instr.{Instr}
use Rattle.bound_laws.specs.Values.{AreBytes}
use Rattle.bound_laws.proofs.Laws.{step_bytes}
use Rattle.loop_versions.specs.declared.pieces.Piece.{Piece}
use Rattle.loop_versions.specs.declared.pieces.Piece.TheVariants.{Copied, Branched, Jumped, Bridge, Guard, Entered, Returned}
use Rattle.loop_versions.specs.declared.pieces.Site.{Site}
use Rattle.loop_versions.specs.Pieces.{origin_of, behind, piece_at, site_at, in_extra, is_site, guard_code, extra_len}
use Rattle.loop_versions.specs.Fitting.{origin_by, origin, ways_of, ways_of_site, ways_by, ways, is_free, begins, calls_at}
use Rattle.loop_versions.specs.Follows.{is_extra_step}
use Rattle.loop_versions.specs.GuardRuns.{IsAtGuard, found_by, is_small}
use Rattle.version_laws.proofs.Words.{AreWords, word_in_reg, step_words}
use Rattle.loop_versions.proofs.Laws.{bridge_of, guard_of, guards_lead_on, jump_step, begins_on, begins_same, extra_few}
use Rattle.version_laws.proofs.Frame.{IsPieceAt, IsFrame}

-- nothing is hidden
abbrev none : ℕ → Bool
none a = false

-- no instruction of a bridge or a guard stands for one of the text
abbrev pub is_extra : Piece → Bool
is_extra (Copied at) = false
is_extra (Branched at to) = false
is_extra (Jumped at to) = false
is_extra (Bridge at to) = true
is_extra (Guard at larger smaller limit to) = true
is_extra (Entered at to end) = false
is_extra (Returned at to) = false

module _ (image versioned : Image) (pieces : List Piece) (sites : List Site) (base levels : ℕ) (input : List ℕ) (f : IsFrame image versioned pieces sites base levels input) where
  abbrev pub one : Setting
  one = setting_of image levels input

  abbrev pub other : Setting
  other = setting_of versioned levels input

  -- the window at the start
  abbrev pub w0 : List ℕ
  w0 = slice_set (replicate 512 0) 511 (starting_level levels image.keyed_segment)

  -- the state of the versioned run at an address
  abbrev pub up : ℕ → State → State
  up v s = over (hidden versioned) (loaded_byte versioned) w0 (record s { pc = v })

  abbrev pub StandsFor : ℕ → ℕ → Type 0
  StandsFor v at = origin pieces base v ≡ at

  -- what is known of the state of the original run
  pub record IsRaw (s : State) : Type 0 where
    pub text : (a : ℕ) → list_any (is_in a) image.text ≡ true → s.bytes a ≡ loaded_byte image a
    pub regs : length s.regs ≡ 32
    pub zero : reg s.regs 0 ≡ 0
    pub window : s.window ≡ w0
    pub words : AreWords s.regs
    pub bytes : AreBytes s.bytes

  -- ---- what a step of the original run keeps

  no_difference : (pc : ℕ) → SeeAlike (layout_of image) (layout_of image) none pc
  no_difference pc = record { reads = refl; writes = refl; left = f.keyless pc; right = f.keyless pc; read_seen = λ a h. refl; write_seen = λ a h. refl }

  window_kept : (s u : State) (x : Stepped) → step one s ≡ goes x u → can_fetch (layout_of image) s.pc ≡ true → u.window ≡ s.window
  window_kept s u x is fetched =
      let same = step_alike (layout_of image) (layout_of image) levels input s.window none s.bytes s (no_difference s.pc) fetched fetched refl in
      let kept : (step one s).state.window ≡ s.window = ap (λ (o : Outcome). o.state.window) same in
      sym (ap (λ (o : Outcome). o.state.window) is) ∙ kept

  text_kept : (s u : State) (x : Stepped) → step one s ≡ goes x u → IsRaw s → (a : ℕ) → list_any (is_in a) image.text ≡ true → u.bytes a ≡ loaded_byte image a
  text_kept s u x is raw a on = elim (step_done one s) [
    | inl trap ↦ absurd (subst (λ (o : Outcome). IsTrap o.end) is trap)
    | inr done ↦
        let kept = done.1.bytes a (not_written (text_of image) one f.text a on) in
        sym (ap (λ (o : Outcome). o.state.bytes a) is) ∙ (kept ∙ raw.text a on)
  ]

  pub raw_next : All (λ b. b < 256) input → (s u : State) (x : Stepped) → IsRaw s → step one s ≡ goes x u → can_fetch (layout_of image) s.pc ≡ true → IsRaw u
  raw_next small s u x raw is fetched = record {
    text = text_kept s u x is raw;
    regs = sym (ap (λ (o : Outcome). length o.state.regs) is) ∙ (step_length one s ∙ raw.regs);
    zero = sym (ap (λ (o : Outcome). reg o.state.regs 0) is) ∙ step_zero one s raw.zero;
    window = window_kept s u x is fetched ∙ raw.window;
    words = subst (λ (o : Outcome). AreWords o.state.regs) is (step_words one s (f.keyless s.pc) raw.bytes raw.words);
    bytes = subst (λ (o : Outcome). AreBytes o.state.bytes) is (step_bytes one small s raw.bytes);
  }

  -- ---- what stands for an instruction of the text

  -- an address at which a step of the original stands, too
  abbrev pub IsReal : ℕ → Type 0
  IsReal v = ((p : Piece) × (piece_at base pieces v ≡ Some p) × (is_extra p ≡ false)) ⊎ ((piece_at base pieces v ≡ None) × (site_at sites v ≡ None))

  pub origin_piece : (v : ℕ) (p : Piece) → piece_at base pieces v ≡ Some p → origin pieces base v ≡ origin_of p
  origin_piece v p e = ap (λ o. origin_by pieces base o v) e

  pub origin_none : (v : ℕ) → piece_at base pieces v ≡ None → origin pieces base v ≡ v
  origin_none v e = ap (λ o. origin_by pieces base o v) e

  ways_piece : (v : ℕ) (p : Piece) → piece_at base pieces v ≡ Some p → ways pieces sites base v ≡ ways_of v p
  ways_piece v p e = ap (λ o. ways_by v o (site_at sites v)) e

  ways_none : (v : ℕ) (o : Option Site) → piece_at base pieces v ≡ None → site_at sites v ≡ o → ways pieces sites base v ≡ ways_of_site o
  ways_none v o e g = ap (λ q. ways_by v q (site_at sites v)) e ∙ ap (λ q. ways_of_site q) g

  pub low_word : (pc : ℕ) → is_word_address image pc ≡ true → pc < 0xFF000000
  low_word pc word = word_bound (text_of image) one f.text pc (and_parts (pc % 4 == 0) (list_any (is_in pc) image.text) word).1

  pub even_word : (pc : ℕ) → is_word_address image pc ≡ true → pc % 4 ≡ 0
  even_word pc word = eqb-true (pc % 4) 0 (and_parts (pc % 4 == 0) (list_any (is_in pc) image.text) word).0

  -- what stands for a word of the text is a word address
  pub good_way : (to pc : ℕ) → StandsFor to pc → is_word_address image pc ≡ true → (to < 2 ^ 32) × (to % 4 ≡ 0)
  good_way to pc stands word = by (piece_at base pieces to) refl
    where
      by : (o : Option Piece) → piece_at base pieces to ≡ o → (to < 2 ^ 32) × (to % 4 ≡ 0)
      by (Some p) e = let is = f.pieces_at to p e in let room = is.room in (omega (arith, room), is.even)
      by None e =
          let same : to ≡ pc = sym (origin_none to e) ∙ stands in
          let low = low_word pc word in
          let even = even_word pc word in
          (omega (arith, same, low), omega (arith, same, even))

  -- no more than seven sites, bridges and guards stand on any way
  pub each_free : (v : ℕ) → is_free (ways pieces sites base) 8 v ≡ true
  each_free v = by_piece (piece_at base pieces v) refl
    where
      by_site : piece_at base pieces v ≡ None → (o : Option Site) → site_at sites v ≡ o → is_free (ways pieces sites base) 8 v ≡ true
      by_site e (Some s) g = (f.sites_at v s g).free
      by_site e None g = ap (λ (xs : List ℕ). list_all (is_free (ways pieces sites base) 7) xs) (ways_none v None e g)

      by_piece : (o : Option Piece) → piece_at base pieces v ≡ o → is_free (ways pieces sites base) 8 v ≡ true
      by_piece (Some p) e = (f.pieces_at v p e).free
      by_piece None e = by_site e (site_at sites v) refl

  -- ---- code

  abbrev is_extra_at : Stepped → Bool
  is_extra_at x = is_extra_step image versioned pieces sites base x

  abbrev pub IsExtra : Stepped → Type 0
  IsExtra x = is_extra_at x ≡ true

  pub one_stays : (bytes : ℕ → ℕ) (at : ℕ) (i : Instr) → InstrStands other (loaded_byte versioned) at i → InstrStands other (laid (hidden versioned) (loaded_byte versioned) bytes) at i
  one_stays bytes at i h = record { fetched = h.fetched; room = h.room; encodes = (h.encodes.0, word_stays versioned levels input bytes at h.fetched ∙ h.encodes.1) }

  code_stays : (bytes : ℕ → ℕ) (at : ℕ) (is : List Instr) → CodeStands other (loaded_byte versioned) at is → CodeStands other (laid (hidden versioned) (loaded_byte versioned) bytes) at is
  code_stays bytes at [] h = tt
  code_stays bytes at (i ∷ is) h = (one_stays bytes at i h.0, code_stays bytes (at + 4) is h.1)

  -- the first instructions of a piece stand for no step, and the others for one
  pub extra_inside : (v : ℕ) (p : Piece) (x : Stepped) → IsPieceAt image versioned pieces sites base levels input v p → v ≤ x.pc → x.pc < v + 4 * extra_len p → IsExtra x
  extra_inside v p x is low high =
      let few = extra_few p in
      or_right (is_site sites x.pc) (in_extra base pieces x.pc) (is.extra x.pc low (omega (arith, high, few)) ∙ lt-ltb x.pc (v + 4 * extra_len p) high)

  pub real_inside : (v : ℕ) (p : Piece) (x : Stepped) → IsPieceAt image versioned pieces sites base levels input v p → v + 4 * extra_len p ≤ x.pc → x.pc < behind v p → is_extra_step image versioned pieces sites base x ≡ false
  real_inside v p x is low high =
      or_from (is_site sites x.pc) (in_extra base pieces x.pc) (is.no_site x.pc (omega (arith, low)) high)
      (is.extra x.pc (omega (arith, low)) high ∙ le-ltb x.pc (v + 4 * extra_len p) low)

  -- the inlined calls that are open at an address
  abbrev pub calls : ℕ → List ℕ
  calls v = calls_at pieces base v

  abbrev pub AreOpen : ℕ → List ℕ → Type 0
  AreOpen v rs = begins (calls v) rs ≡ true

  -- ---- ways on

  -- the steps from an address to one at which a step of the original stands, too
  pub record IsLed (s : State) (v : ℕ) : Type 0 where
    pub to : ℕ
    pub stands : origin pieces base to ≡ s.pc
    pub real : IsReal to
    pub open_to : AreOpen to (calls v)
    pub steps : List Stepped
    pub leads : StepsLead other (up v s) steps (up to s)
    pub extra : All IsExtra steps

  led_here : (s : State) (v : ℕ) → StandsFor v s.pc → IsReal v → IsLed s v
  led_here s v stands real = record { to = v; stands = stands; real = real; open_to = begins_same (calls v); steps = []; leads = leads_none other (up v s); extra = All-nil IsExtra }

  led_on : (s : State) (v to : ℕ) (steps : List Stepped) → StepsLead other (up v s) steps (up to s) → All IsExtra steps → AreOpen to (calls v) → IsLed s to → IsLed s v
  led_on s v to steps leads extra opened l = record {
    to = l.to;
    stands = l.stands;
    real = l.real;
    open_to = begins_on (calls l.to) (calls to) (calls v) l.open_to opened;
    steps = steps ++ l.steps;
    leads = leads_on other (up v s) (up to s) (up l.to s) steps l.steps leads l.leads;
    extra = All-append IsExtra steps l.steps extra l.extra;
  }

  led_jump : (s : State) (v to : ℕ) → InstrStands other (loaded_byte versioned) v (jump v to) → (to < 2 ^ 32) × (to % 4 ≡ 0) → ((x : Stepped) → x.pc ≡ v → IsExtra x) → AreOpen to (calls v) → IsLed s to → IsLed s v
  led_jump s v to stands good extra opened l =
      let x = stepped other (up v s) (jump v to) false None to in
      let is = jump_step other (up v s) v to refl (one_stays s.bytes v (jump v to) stands) good.0 good.1 in
      led_on s v to (x ∷ []) (leads_first other (up v s) (up to s) (up to s) x [] is (leads_none other (up to s))) (All-cons IsExtra x [] (extra x refl) (All-nil IsExtra)) opened l

  abbrev w : ℕ → List ℕ
  w = ways pieces sites base

  -- what the ways on from a state lead to
  abbrev LeadsFurther : ℕ → State → Type 0
  LeadsFurther n s = (to : ℕ) → StandsFor to s.pc → is_free w n to ≡ true → IsLed s to

  one_free : (n v to : ℕ) → w v ≡ to ∷ [] → is_free w (suc n) v ≡ true → is_free w n to ≡ true
  one_free n v to e free =
      let all : list_all (is_free w n) (to ∷ []) ≡ true = sym (ap (λ (xs : List ℕ). list_all (is_free w n) xs) e) ∙ free in
      (and_parts (is_free w n to) true all).0

  two_free : (n v to too : ℕ) → w v ≡ to ∷ too ∷ [] → is_free w (suc n) v ≡ true → (is_free w n to ≡ true) × (is_free w n too ≡ true)
  two_free n v to too e free =
      let all : list_all (is_free w n) (to ∷ too ∷ []) ≡ true = sym (ap (λ (xs : List ℕ). list_all (is_free w n) xs) e) ∙ free in
      let a = and_parts (is_free w n to) (list_all (is_free w n) (too ∷ [])) all in
      (a.0, (and_parts (is_free w n too) true a.1).0)

  led_site : (n : ℕ) (s : State) (v : ℕ) (site : Site) → StandsFor v s.pc → is_free w (suc n) v ≡ true → piece_at base pieces v ≡ None → site_at sites v ≡ Some site → LeadsFurther n s → IsLed s v
  led_site n s v site stands free e g further =
      let is = f.sites_at v site g in
      let same : v ≡ s.pc = sym (origin_none v e) ∙ stands in
      led_jump s v site.to is.jumps (good_way site.to v is.there is.word)
      (λ x here. or_left (is_site sites x.pc) (in_extra base pieces x.pc) (ap (is_site sites) here ∙ is.listed))
      is.calls (further site.to (is.there ∙ same) (one_free n v site.to (ways_none v (Some site) e g) free))

  led_bridge : (n : ℕ) (s : State) (v at to : ℕ) → StandsFor v s.pc → is_free w (suc n) v ≡ true → piece_at base pieces v ≡ Some (Bridge at to) → LeadsFurther n s → IsLed s v
  led_bridge n s v at to stands free e further =
      let is = f.pieces_at v (Bridge at to) e in
      let b = bridge_of image pieces base v at to is.right in
      let same : at ≡ s.pc = sym (origin_piece v (Bridge at to) e) ∙ stands in
      led_jump s v to is.code.0 (good_way to at b.there is.word)
      (λ x here. extra_inside v (Bridge at to) x is (omega (arith, here)) (omega (arith, here)))
      b.calls (further to (b.there ∙ same) (one_free n v to (ways_piece v (Bridge at to) e) free))

  led_found : (s : State) (v to : ℕ) (steps : List Stepped) (small : Bool) → StepsLead other (up v s) steps (up (cond small (v + 36) to) s) → All IsExtra steps → AreOpen (v + 36) (calls v) → AreOpen to (calls v) → IsLed s (v + 36) → IsLed s to → IsLed s v
  led_found s v to steps true leads extra a b next there = led_on s v (v + 36) steps leads extra a next
  led_found s v to steps false leads extra a b next there = led_on s v to steps leads extra b there

  led_guard : (n : ℕ) (s : State) (v at larger smaller limit to : ℕ) → IsRaw s → StandsFor v s.pc → is_free w (suc n) v ≡ true → piece_at base pieces v ≡ Some (Guard at larger smaller limit to) → LeadsFurther n s → IsLed s v
  led_guard n s v at larger smaller limit to raw stands free e further =
      let p = Guard at larger smaller limit to in
      let is = f.pieces_at v p e in
      let g = guard_of image pieces base v at larger smaller limit to is.right in
      let same : at ≡ s.pc = sym (origin_piece v p e) ∙ stands in
      let good = good_way to at g.there is.word in
      let room = is.room in
      let here : IsAtGuard other (up v s) larger smaller limit to = record {
        some = g.some;
        few = g.few;
        smaller_few = g.smaller_few;
        other = g.other;
        limit_some = g.limit_some;
        limit_few = g.limit_few;
        regs = raw.regs;
        zero = raw.zero;
        larger_word = word_in_reg s.regs larger raw.words;
        smaller_word = word_in_reg s.regs smaller raw.words;
        room = omega (arith, room);
        to_word = good.0;
        to_even = good.1;
        code = code_stays s.bytes v (guard_code v larger smaller limit to) is.code;
      } in
      let both = two_free n v (v + 36) to (ways_piece v p e) free in
      let o = found_by (up v s) larger smaller limit in
      let l = guards_lead_on other (up v s) larger smaller limit to here in
      let inside = All-weaker (λ x. (v ≤ x.pc) × (x.pc < v + 36)) IsExtra (λ x h. extra_inside v p x is h.0 h.1) l.steps l.inside in
      led_found s v to l.steps (is_small o) l.leads inside g.calls_next g.calls (further (v + 36) (g.next ∙ same) both.0) (further to (g.there ∙ same) both.1)

  led_by : (n : ℕ) (s : State) (v : ℕ) → IsRaw s → StandsFor v s.pc → is_free w (suc n) v ≡ true → LeadsFurther n s → IsLed s v
  led_by n s v raw stands free further = by_piece (piece_at base pieces v) refl
    where
      by_site : piece_at base pieces v ≡ None → (o : Option Site) → site_at sites v ≡ o → IsLed s v
      by_site e (Some site) g = led_site n s v site stands free e g further
      by_site e None g = led_here s v stands (inr (e, g))

      by_piece : (o : Option Piece) → piece_at base pieces v ≡ o → IsLed s v
      by_piece (Some (Copied at)) e = led_here s v stands (inl (Copied at, e, refl))
      by_piece (Some (Branched at to)) e = led_here s v stands (inl (Branched at to, e, refl))
      by_piece (Some (Jumped at to)) e = led_here s v stands (inl (Jumped at to, e, refl))
      by_piece (Some (Bridge at to)) e = led_bridge n s v at to stands free e further
      by_piece (Some (Guard at larger smaller limit to)) e = led_guard n s v at larger smaller limit to raw stands free e further
      by_piece (Some (Entered at to end)) e = led_here s v stands (inl (Entered at to end, e, refl))
      by_piece (Some (Returned at to)) e = led_here s v stands (inl (Returned at to, e, refl))
      by_piece None e = by_site e (site_at sites v) refl

  led : (n : ℕ) (s : State) (v : ℕ) → IsRaw s → StandsFor v s.pc → is_free w n v ≡ true → IsLed s v
  led zero s v raw stands free = let never : ⊥ = cc in absurd never
  led (suc n) s v raw stands free = led_by n s v raw stands free (λ to stands free. led n s to raw stands free)

  pub leads_there : (s : State) (v : ℕ) → IsRaw s → StandsFor v s.pc → IsLed s v
  leads_there s v raw stands = led 8 s v raw stands (each_free v)
