-- What is so at an address of a loop's body by a certificate of turns, and what a turn makes of it.
use Rattle.std.proofs.Common.{◌≡◌, ℕ, ◌+◌, ◌-◌, ◌*◌, ◌/◌, ◌<◌, ◌≤◌, ◌%◌, ◌^◌, ⊎_elim, Bool, true, false, List, length, refl, sym, ap, ◌∙◌, subst, arith, Option, Some, None}
use Rattle.std.specs.Prelude.{nat_lt}
use Rattle.std.proofs.lemmas.Bool.{both_ways, ltb-true, ltb-false}
use Rattle.std.proofs.lemmas.Nat.{mul-mod_second, pow-add}
use Rattle.std.proofs.Math.Nat.{add-mod-mod, mod-add-mod, add-mul, div-mul-le_self, div-le_self, mul-le-mul_right, mul_comm, mul_assoc, pow-le-pow_right}
use Rattle.scale_base.specs.Arith.{plus}
use Rattle.scale_base.specs.State.{reg}
use Rattle.cost_theory.specs.Graph.{Graph}
use Rattle.code_text.specs.Text.{Text}
use Rattle.bound_laws.specs.Values.{Arc, arc, strided, scaled, sum_with, IsHeld, held, Covers, IsRegister, Values}
use Rattle.bound_laws.proofs.Laws.{in_covers, in_exactly, scaled_in, sum_with_in, held_of, measure_adds, one_turn, small_sum}
use Rattle.stack_laws.specs.Stacks.{Stacks, View, AreTold}
use Rattle.turn_laws.specs.Relating.{Relation, IsRelated, Place, Kind, TurnCertificate, IsTurnCertificate, IsTurned, IsStarted, IsStartedIn, IsFilled, IsInputWithin, IsBegun, consumed_by, is_halving}
use Rattle.turn_laws.specs.Relating.Relation.{unknown, ahead_by, below, above, read}
use Rattle.turn_laws.specs.Relating.Place.{in_register, in_word, in_input}
use Rattle.turn_laws.specs.Relating.Kind.{moves, lowers, raises, halves}
use Rattle.turn_laws.proofs.Relations.{over, under_top, least_mod, divided_less, fewer_in}

abbrev pub rank : (factor shift s : ℕ) → ℕ
rank factor shift s = (shift + factor * s) % 2 ^ 32

-- so many turns were taken, by the number that stood in the place when the header was last come to
abbrev pub IsGood : TurnCertificate → Kind → (count s : ℕ) → Type 0
IsGood c (moves factor shift) count s = (count * c.least ≤ rank factor shift s) × (rank factor shift s ≤ c.width)
IsGood c lowers count s = count * c.least + s ≤ c.width
IsGood c (raises from) count s = (from + count * c.least ≤ s) × (s ≤ from + c.width)
IsGood c (halves bits) count s = (s * 2 ^ (count * c.least) < 2 ^ bits) × (count * c.least ≤ c.width)

-- where so many bytes are left of the input
pub record Facts (c : TurnCertificate) (rest a count : ℕ) (x : View) : Type 0 where
  pub start : ℕ
  pub good : IsGood c c.kind count start
  pub rows : (r : ℕ) → IsRegister r → IsRelated rest (c.row a r) start (reg x.regs r)
  pub own : (k : ℕ) → c.place ≡ in_word k → IsRelated rest (c.own a) start (x.words k)
  pub left : c.place ≡ in_input → rest + consumed_by (c.own a) ≤ start
  pub used : c.used a ≡ true → 0 < start

pub fewer : (c : TurnCertificate) (rest next a count : ℕ) (x : View) → next ≤ rest → Facts c rest a count x → Facts c next a count x
fewer c rest next a count x le f = record {
  start = f.start;
  good = f.good;
  rows = λ r is. fewer_in rest next (c.row a r) f.start (reg x.regs r) le (f.rows r is);
  own = λ k same. fewer_in rest next (c.own a) f.start (x.words k) le (f.own k same);
  left = λ same. let h = f.left same in omega arith;
  used = f.used;
}

few_good : (c : TurnCertificate) (kind : Kind) (count s : ℕ) → IsGood c kind count s → count * c.least ≤ c.width
few_good c (moves factor shift) count s g = let a = g.0 in let b = g.1 in omega arith
few_good c lowers count s g = omega arith
few_good c (raises from) count s g = let a = g.0 in let b = g.1 in omega arith
few_good c (halves bits) count s g = g.1

pub few : (c : TurnCertificate) (rest a count : ℕ) (x : View) → Facts c rest a count x → count * c.least ≤ c.width
few c rest a count x f = few_good c c.kind count f.start f.good

-- ---- at the header

rank_mod : (factor shift v : ℕ) → rank factor shift (v % 2 ^ 32) ≡ (shift + factor * v) % 2 ^ 32
rank_mod factor shift v =
    sym (add-mod-mod shift (factor * (v % 2 ^ 32)) (2 ^ 32))
    ∙ (ap (λ n. (shift + n) % 2 ^ 32) (mul-mod_second factor v (2 ^ 32))
    ∙ add-mod-mod shift (factor * v) (2 ^ 32))

turned_sum : (shift p : ℕ) → plus (p % 2 ^ 32) shift ≡ (shift + p) % 2 ^ 32
turned_sum shift p = mod-add-mod p (2 ^ 32) shift ∙ ap (λ n. n % 2 ^ 32) (let e : p + shift ≡ shift + p = omega arith in e)

from_zero : (width x : ℕ) → x < 2 ^ 32 → (x + (2 ^ 32 - 0)) % 2 ^ 32 ≤ width → x ≤ width
from_zero width x a b = omega arith

rank_within : (width factor shift v : ℕ) (i : Option Arc) → IsHeld i v → Covers (Some (arc 0 width)) (sum_with (scaled factor i) shift) → rank factor shift (v % 2 ^ 32) ≤ width
rank_within width factor shift v i h covers =
    let line : IsHeld (sum_with (scaled factor i) shift) (plus (factor * v % 2 ^ 32) shift) = sum_with_in (scaled factor i) shift (factor * v % 2 ^ 32) (scaled_in factor i v h) in
    let is : IsHeld (Some (arc 0 width)) (plus (factor * v % 2 ^ 32) shift) = in_covers (sum_with (scaled factor i) shift) (Some (arc 0 width)) (plus (factor * v % 2 ^ 32) shift) line covers in
    let small : plus (factor * v % 2 ^ 32) shift ≤ width = from_zero width (plus (factor * v % 2 ^ 32) shift) is.word is.near in
    subst (λ n. n ≤ width) (turned_sum shift (factor * v) ∙ sym (rank_mod factor shift v)) small

pub fresh_good : (c : TurnCertificate) (kind : Kind) (v : ℕ) (i : Option Arc) → IsHeld i v → IsStarted c kind i → IsGood c kind 0 (v % 2 ^ 32)
fresh_good c (moves factor shift) v i h s = (let r : 0 * c.least ≤ rank factor shift (v % 2 ^ 32) = omega arith in r, rank_within c.width factor shift v i h s)
fresh_good c lowers v i h s = let p = under_top i v h in let r : 0 * c.least + v % 2 ^ 32 ≤ c.width = omega arith in r
fresh_good c (raises from) v i h s =
    let p = under_top i v h in let q = least_mod i v h in let a = s.0 in let b = s.1 in
    (let r : from + 0 * c.least ≤ v % 2 ^ 32 = omega arith in r, let r : v % 2 ^ 32 ≤ from + c.width = omega arith in r)
fresh_good c (halves bits) v i h s =
    let p = under_top i v h in
    let a = s.0 in (
      subst (λ n. n < 2 ^ bits) (let e : v % 2 ^ 32 ≡ v % 2 ^ 32 * 2 ^ (0 * c.least) = (let q : 0 * c.least ≡ 0 = omega arith in let z : v % 2 ^ 32 ≡ v % 2 ^ 32 * 2 ^ 0 = omega arith in z ∙ ap (λ n. v % 2 ^ 32 * 2 ^ n) (sym q)) in e) (let r : v % 2 ^ 32 < 2 ^ bits = omega arith in r),
      let r : 0 * c.least ≤ c.width = omega arith in r,
    )

begun_in : (rest : ℕ) (p : Relation) (v : ℕ) → IsBegun p → IsRelated rest p (v % 2 ^ 32) v
begun_in rest unknown v h = tt
begun_in rest (read l) v h = absurd h
begun_in rest (ahead_by i) v h = (0, in_covers (Some (strided 0 0 0)) i 0 (in_exactly 0) h, let e : v % 2 ^ 32 ≡ (v % 2 ^ 32 + 0) % 2 ^ 32 = omega arith in e)
begun_in rest (below l b) v h =
    subst (λ n. v % 2 ^ 32 + n ≤ v % 2 ^ 32 / 2 ^ b) (sym h.0) (subst (λ n. v % 2 ^ 32 + 0 ≤ v % 2 ^ 32 / 2 ^ n) (sym h.1) (let r : v % 2 ^ 32 + 0 ≤ v % 2 ^ 32 / 2 ^ 0 = omega arith in r))
begun_in rest (above m) v h = let r : v % 2 ^ 32 + m ≤ v % 2 ^ 32 = omega arith in r

none_consumed : (p : Relation) → IsBegun p → consumed_by p ≡ 0
none_consumed unknown h = refl
none_consumed (ahead_by i) h = refl
none_consumed (below l b) h = h.0
none_consumed (above m) h = refl
none_consumed (read l) h = refl

-- what a relation is about, where so much is left of the input
abbrev pub start_in : Place → View → ℕ → ℕ
start_in (in_register r) x rest = reg x.regs r % 2 ^ 32
start_in (in_word k) x rest = x.words k % 2 ^ 32
start_in in_input x rest = rest

-- what is so of the place at the end of a turn
abbrev pub IsPlaceRelated : Place → Relation → (rest start : ℕ) → View → Type 0
IsPlaceRelated (in_register r) p rest start x = IsRelated rest p start (reg x.regs r)
IsPlaceRelated (in_word k) p rest start x = IsRelated rest p start (x.words k)
IsPlaceRelated in_input p rest start x = (n : ℕ) × (p ≡ below n 0) × (rest + n ≤ start)

module _ (t : Text) (g : Graph) (v : Values) (w : Stacks) (most : Option ℕ) (h : ℕ) (extent : ℕ → Bool) (c : TurnCertificate) (cert : IsTurnCertificate t g v w most h extent c)
    (input : List ℕ) (short : IsInputWithin most input) where
  abbrev start_at : ℕ → View → ℕ
  start_at rest x = start_in c.place x rest

  -- with so many turns
  begun : (rest count : ℕ) (x : View) → IsGood c c.kind count (start_at rest x) → Facts c rest h count x
  begun rest count x good = record {
    start = start_at rest x;
    good = good;
    rows = λ r is. ⊎_elim (λ (q : c.row h r ≡ unknown). subst (λ p. IsRelated rest p (start_at rest x) (reg x.regs r)) (sym q) tt)
        (λ (q : (c.place ≡ in_register r) × IsBegun (c.row h r)).
        subst (λ p. IsRelated rest (c.row h r) (start_in p x rest) (reg x.regs r)) (sym q.0) (begun_in rest (c.row h r) (reg x.regs r) q.1)) (cert.rows r is);
    own = λ k same. subst (λ p. IsRelated rest (c.own h) (start_in p x rest) (x.words k)) (sym same) (begun_in rest (c.own h) (x.words k) cert.owns);
    left = λ same. subst (λ p. rest + consumed_by (c.own h) ≤ start_in p x rest) (sym same) (let z = none_consumed (c.own h) cert.owns in omega arith);
    used = λ on. absurd (both_ways (c.used h) cert.unused on);
  }

  filled : (o : Option ℕ) (rest : ℕ) → IsInputWithin o input → IsFilled o c.width → rest ≤ length input → rest ≤ c.width
  filled None rest within full le = absurd full
  filled (Some n) rest within full le = omega arith

  fresh_in : (p : Place) (rest : ℕ) (x : View) → reg x.regs 0 ≡ 0 → length x.regs ≡ 32 → AreTold v w h x → rest ≤ length input → IsStartedIn v w most c h p → IsGood c c.kind 0 (start_in p x rest)
  fresh_in (in_register r) rest x zero_is size told le start = fresh_good c c.kind (reg x.regs r) (held (v.at h) r) (held_of (v.at h) x.regs zero_is size told.registers.each r) start
  fresh_in (in_word k) rest x zero_is size told le start = fresh_good c c.kind (x.words k) (w.word h k) (told.words k) start
  fresh_in in_input rest x zero_is size told le start =
      subst (λ k. IsGood c k 0 rest) (sym start.0) (let q = filled most rest short start.1 le in let r : 0 * c.least + rest ≤ c.width = omega arith in r)

  pub fresh : (rest : ℕ) (x : View) → reg x.regs 0 ≡ 0 → length x.regs ≡ 32 → AreTold v w h x → rest ≤ length input → Facts c rest h 0 x
  fresh rest x zero_is size told le = begun rest 0 x (fresh_in c.place rest x zero_is size told le cert.started)

  -- ---- a turn

  within_arc : (least most e : ℕ) → IsHeld (Some (arc least most)) e → least + most < 2 ^ 32 → (least ≤ e) × (e ≤ least + most)
  within_arc least most e is small = (
    over least most e is.start is.word is.near small,
    let p : least ≤ e = over least most e is.start is.word is.near small in let n = is.near in let k = is.word in let s = is.start in upper least most e p k n,
  )
    where
      upper : (l m e : ℕ) → l ≤ e → e < 2 ^ 32 → (e + (2 ^ 32 - l)) % 2 ^ 32 ≤ m → e ≤ l + m
      upper l m e a b n = omega arith

  ahead_ranked : (factor shift start d u : ℕ) → u % 2 ^ 32 ≡ (start + d) % 2 ^ 32 → rank factor shift (u % 2 ^ 32) ≡ (rank factor shift start + factor * d % 2 ^ 32) % 2 ^ 32
  ahead_ranked factor shift start d u e = ap (λ n. (shift + factor * n) % 2 ^ 32) e ∙ measure_adds (2 ^ 32) shift factor start d

  turn_good : (kind : Kind) (p : Relation) (rest count start u : ℕ) (i : Option Arc) → IsGood c kind count start → (is_halving kind ≡ true → 0 < start) → IsRelated rest p start u → IsTurned c kind p → IsHeld i u → IsStarted c kind i →
      IsGood c kind (count + 1) (u % 2 ^ 32)
  turn_good (moves factor shift) unknown rest count start u i good some is turn at s = absurd turn
  turn_good (moves factor shift) (below l b) rest count start u i good some is turn at s = absurd turn
  turn_good (moves factor shift) (read l) rest count start u i good some is turn at s = absurd turn
  turn_good (moves factor shift) (above m) rest count start u i good some is turn at s = absurd turn
  turn_good (moves factor shift) (ahead_by j) rest count start u i good some is turn at s =
      let most : ℕ = turn.0 in
      let e : ℕ = factor * is.0 % 2 ^ 32 in
      let stays = turn.2 in
      let inside : IsHeld (Some (arc c.least most)) e = in_covers (scaled factor j) (Some (arc c.least most)) e (scaled_in factor j is.0 is.1) turn.1 in
      let ends = within_arc c.least most e inside (let q : c.least + most < 2 ^ 32 = omega arith in q) in
      let high = ends.1 in
      let sum : rank factor shift (u % 2 ^ 32) ≡ rank factor shift start + e =
      ahead_ranked factor shift start is.0 u is.2 ∙ small_sum (rank factor shift start) e c.width good.1 (let q : e + c.width < 2 ^ 32 = omega arith in q) in (
        one_turn count c.least (rank factor shift start) e (rank factor shift (u % 2 ^ 32)) good.0 ends.0 sum,
        rank_within c.width factor shift u i at s,
      )
  turn_good lowers unknown rest count start u i good some is turn at s = absurd turn
  turn_good lowers (ahead_by j) rest count start u i good some is turn at s = absurd turn
  turn_good lowers (below l b) rest count start u i good some is turn at s =
      let d : (count + 1) * c.least ≡ count * c.least + 1 * c.least = add-mul count 1 c.least in
      let q = div-le_self start (2 ^ b) in
      let r : (count + 1) * c.least + u % 2 ^ 32 ≤ c.width = omega arith in r
  turn_good lowers (read l) rest count start u i good some is turn at s = absurd turn
  turn_good lowers (above m) rest count start u i good some is turn at s = absurd turn
  turn_good (raises from) unknown rest count start u i good some is turn at s = absurd turn
  turn_good (raises from) (ahead_by j) rest count start u i good some is turn at s = absurd turn
  turn_good (raises from) (below l b) rest count start u i good some is turn at s = absurd turn
  turn_good (raises from) (read l) rest count start u i good some is turn at s = absurd turn
  turn_good (raises from) (above m) rest count start u i good some is turn at s =
      let d : (count + 1) * c.least ≡ count * c.least + 1 * c.least = add-mul count 1 c.least in
      let p = under_top i u at in let a = good.0 in let b = s.1 in (
        let r : from + (count + 1) * c.least ≤ u % 2 ^ 32 = omega arith in r,
        let r : u % 2 ^ 32 ≤ from + c.width = omega arith in r,
      )
  turn_good (halves bits) unknown rest count start u i good some is turn at s = absurd turn
  turn_good (halves bits) (ahead_by j) rest count start u i good some is turn at s = absurd turn
  turn_good (halves bits) (read l) rest count start u i good some is turn at s = absurd turn
  turn_good (halves bits) (above m) rest count start u i good some is turn at s = absurd turn
  turn_good (halves bits) (below l b) rest count start u i good some is turn at s =
      halved bits count start (u % 2 ^ 32) good.0 (some refl) (let q = divided_less start c.least b turn in omega arith) s.1
    where
      halved : (bits count start n : ℕ) → start * 2 ^ (count * c.least) < 2 ^ bits → 0 < start → n ≤ start / 2 ^ c.least → bits + c.least ≤ c.width + 1 → IsGood c (halves bits) (count + 1) n
      halved bits count start n less positive half few =
          let m : ℕ = count * c.least in
          let d : (count + 1) * c.least ≡ m + 1 * c.least = add-mul count 1 c.least in
          let d1 : (count + 1) * c.least ≡ m + c.least = omega arith in
          let times : n * 2 ^ c.least ≤ start / 2 ^ c.least * 2 ^ c.least = mul-le-mul_right (2 ^ c.least) half in
          let times1 = div-mul-le_self start (2 ^ c.least) in
          let all : n * 2 ^ c.least * 2 ^ m ≤ start * 2 ^ m = mul-le-mul_right (2 ^ m) (let q : n * 2 ^ c.least ≤ start = omega arith in q) in
          let e : n * 2 ^ ((count + 1) * c.least) ≡ n * 2 ^ c.least * 2 ^ m =
          ap (λ k. n * 2 ^ k) d1 ∙ (ap (λ k. n * k) (pow-add 2 m c.least ∙ mul_comm (2 ^ m) (2 ^ c.least)) ∙ sym (mul_assoc n (2 ^ c.least) (2 ^ m))) in
          let one : 1 * 2 ^ m ≤ start * 2 ^ m = mul-le-mul_right (2 ^ m) positive in
          let low : m < bits = below_bits m bits (let q : 2 ^ m < 2 ^ bits = omega arith in q) in (
            let q : n * 2 ^ ((count + 1) * c.least) < 2 ^ bits = omega arith in q,
            let q : (count + 1) * c.least ≤ c.width = omega arith in q,
          )
        where
          below_bits : (m bits : ℕ) → 2 ^ m < 2 ^ bits → m < bits
          below_bits m bits h = go (nat_lt m bits) refl
            where
              go : (b : Bool) → nat_lt m bits ≡ b → m < bits
              go true e = ltb-true m bits e
              go false e =
                  let p : bits ≤ m = ltb-false m bits e in
                  let q : 2 ^ bits ≤ 2 ^ m = pow-le-pow_right (let z : 0 < 2 = omega arith in z) p in
                  let bad : ⊥ = omega arith in absurd bad

  turn_lowers : (kind : Kind) (n rest count start : ℕ) → kind ≡ lowers → IsGood c kind count start → IsTurned c kind (below n 0) → rest + n ≤ start → IsGood c kind (count + 1) rest
  turn_lowers (moves factor shift) n rest count start same good turn less = let bad : ⊥ = cc in absurd bad
  turn_lowers (raises from) n rest count start same good turn less = let bad : ⊥ = cc in absurd bad
  turn_lowers (halves bits) n rest count start same good turn less = let bad : ⊥ = cc in absurd bad
  turn_lowers lowers n rest count start same good turn less =
      let d : (count + 1) * c.least ≡ count * c.least + 1 * c.least = add-mul count 1 c.least in
      let r : (count + 1) * c.least + rest ≤ c.width = omega arith in r

  turned_in : (place : Place) (p : Relation) (rest count start : ℕ) (x : View) → reg x.regs 0 ≡ 0 → length x.regs ≡ 32 → AreTold v w h x → IsGood c c.kind count start → (is_halving c.kind ≡ true → 0 < start) →
      IsPlaceRelated place p rest start x → IsTurned c c.kind p → IsStartedIn v w most c h place → IsGood c c.kind (count + 1) (start_in place x rest)
  turned_in (in_register r) p rest count start x zero_is size told good some is turn begins =
      turn_good c.kind p rest count start (reg x.regs r) (held (v.at h) r) good some is turn (held_of (v.at h) x.regs zero_is size told.registers.each r) begins
  turned_in (in_word k) p rest count start x zero_is size told good some is turn begins = turn_good c.kind p rest count start (x.words k) (w.word h k) good some is turn (told.words k) begins
  turned_in in_input p rest count start x zero_is size told good some is turn begins =
      turn_lowers c.kind is.0 rest count start begins.0 good (subst (λ q. IsTurned c c.kind q) is.1 turn) is.2

  pub turned : (p : Relation) (rest count start : ℕ) (x : View) → reg x.regs 0 ≡ 0 → length x.regs ≡ 32 → AreTold v w h x → IsGood c c.kind count start → (is_halving c.kind ≡ true → 0 < start) →
      IsPlaceRelated c.place p rest start x → IsTurned c c.kind p → Facts c rest h (count + 1) x
  turned p rest count start x zero_is size told good some is turn =
      begun rest (count + 1) x (turned_in c.place p rest count start x zero_is size told good some is turn cert.started)
