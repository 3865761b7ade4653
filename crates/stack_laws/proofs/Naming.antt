-- Names and intervals of values, and addresses that names give.
use Rattle.std.proofs.Common.{◌≡◌, ℕ, ◌+◌, ◌-◌, ◌*◌, ◌<◌, ◌≤◌, ◌%◌, ◌^◌, true, List, refl, sym, ap, ◌∙◌, subst, arith, Option, Some, None}
use Rattle.std.specs.Prelude.{◌==◌, is_some}
use Rattle.std.proofs.lemmas.Bool.{cond_both, cond-true, eqb-true, lt-ltb}
use Rattle.scale_base.specs.Arith.{plus}
use Rattle.scale_base.specs.State.{reg}
use Rattle.std.proofs.lemmas.Nat.{mul-mod_second}
use Rattle.bound_laws.specs.Registers.{Measure, measured}
use Rattle.bound_laws.proofs.Laws.{sum_of_products, in_exactly, sum_in, sum_with_in, in_covers}
use Rattle.bound_laws.specs.Values.{Arc, IsIn, strided, exactly, sum_of, ahead, IsHeld, Covers, sum_with, opposite_of, Values}
use Rattle.stack_laws.specs.Stacks.{Name, Stacks, View, IsSpanned, name_span, known_sums, AreBelow, origin, more_than, IsNamed, more_of, name_arc, known_sum, offset_of, IsApart, AreApart, HasNot, IsBelow}
use Rattle.stack_laws.specs.Stacks.Name.{of_begin, of_word}

pub plus_small : (a b : ℕ) → plus a b < 2 ^ 32
plus_small a b = omega arith

pub plus_none : (a : ℕ) → a < 2 ^ 32 → plus a 0 ≡ a
plus_none a h = omega arith

mod_none : (a : ℕ) → a % 2 ^ 32 ≡ plus a 0
mod_none a = omega arith

pub mod_same : (a : ℕ) → a < 2 ^ 32 → a % 2 ^ 32 ≡ a
mod_same a h = omega arith

pub held_small : (k : Option Arc) (v : ℕ) → is_some k ≡ true → IsHeld k v → v < 2 ^ 32
held_small None v some h = let bad : ⊥ = cc in absurd bad
held_small (Some k) v some h = h.word

pub held_mod : (k : Option Arc) (v : ℕ) → IsHeld k v → IsHeld k (v % 2 ^ 32)
held_mod None v h = tt
held_mod (Some k) v h = subst (λ n. IsHeld (Some k) n) (sym (mod_same v h.word)) h

-- a value that is the same where it is a word
pub held_same : (k j : Option Arc) (value other : ℕ) → (value < 2 ^ 32 → other ≡ value) → IsHeld j value → Covers k j → IsHeld k other
held_same None j value other same h c = tt
held_same (Some k) None value other same h c = absurd c
held_same (Some k) (Some j) value other same h c = subst (λ n. IsHeld (Some k) n) (sym (same h.word)) (in_covers (Some j) (Some k) value h c)

-- ---- intervals that are apart

apart_in : (low more from many width x q : ℕ) → low < 2 ^ 32 → from < 2 ^ 32 → x < 2 ^ 32 → q < 2 ^ 32 → (x + (2 ^ 32 - low)) % 2 ^ 32 ≤ more → (q + (2 ^ 32 - from)) % 2 ^ 32 ≤ many →
    more < (from + (2 ^ 32 - low)) % 2 ^ 32 → width + more ≤ (from + (2 ^ 32 - low)) % 2 ^ 32 → (from + (2 ^ 32 - low)) % 2 ^ 32 + many + 4 ≤ 2 ^ 32 → (width ≤ (q + (2 ^ 32 - x)) % 2 ^ 32) × (4 ≤ (x + (2 ^ 32 - q)) % 2 ^ 32)
apart_in low more from many width x q a b c d e f m g h = (omega arith, omega arith)

pub are_apart : (i j : Option Arc) (width x q : ℕ) → IsHeld i x → IsHeld j q → AreApart i width j → IsApart x width q
are_apart None j width x q a b h = absurd h
are_apart (Some i) None width x q a b h = absurd h
are_apart (Some i) (Some j) width x q a b h = apart_in i.low i.more j.low j.more width x q a.start b.start a.word b.word a.near b.near h.0 h.1 h.2

-- one that is within is a word
pub apart_small : (i j : Option Arc) (width x : ℕ) → IsHeld i x → AreApart i width j → x < 2 ^ 32
apart_small None j width x a h = absurd h
apart_small (Some i) j width x a h = a.word

pub less_apart : (x width few q : ℕ) → few ≤ width → IsApart x width q → IsApart x few q
less_apart x width few q le h = (let a = h.0 in let e : few ≤ ahead x q = omega arith in e, h.1)

pub has_not : (i : Option Arc) (n : ℕ) → IsHeld i n → HasNot i n → ⊥
has_not None n a h = h
has_not (Some i) n a h = let p = a.near in let bad : ⊥ = omega arith in bad

-- ---- below what x2 had

below_start : (low more e o width : ℕ) → low < 2 ^ 32 → e < 2 ^ 32 → (e + (2 ^ 32 - low)) % 2 ^ 32 ≤ more → low + more < 2 ^ 32 → (2 ^ 32 - o % 2 ^ 32) % 2 ^ 32 ≤ low → width ≤ (2 ^ 32 - o % 2 ^ 32) % 2 ^ 32 →
    ((2 ^ 32 - o % 2 ^ 32) % 2 ^ 32 ≤ e) × ((e + o) % 2 ^ 32 + width ≤ e)
below_start low more e o width a b c d f g = (omega arith, omega arith)

pub is_below : (i : Option Arc) (e o width : ℕ) → IsHeld i e → IsBelow i o width → (e < 2 ^ 32) × (opposite_of o ≤ e) × (plus e o + width ≤ e)
is_below None e o width h b = absurd b
is_below (Some i) e o width h b = let p = below_start i.low i.more e o width h.start h.word h.near b.0 b.1 b.2 in (h.word, p.0, p.1)

pub above_below : (e o p : ℕ) → e < 2 ^ 32 → opposite_of o ≤ e → opposite_of p ≤ opposite_of o → plus e o ≤ plus e p
above_below e o p a b c = omega arith

-- ---- names

pub offset_small : (n : Option Name) (off o : ℕ) → offset_of n off ≡ Some o → o < 2 ^ 32
offset_small None off o h = let bad : ⊥ = cc in absurd bad
offset_small (Some (of_begin r more)) off o h = cond_both (r == 2) (Some (plus more off)) None (λ k. k ≡ Some o → o < 2 ^ 32)
    (λ _ q. let e : plus more off ≡ o = cc in subst (λ n. n < 2 ^ 32) e (plus_small more off)) (λ _ q. let bad : ⊥ = cc in absurd bad) h
offset_small (Some (of_word k more)) off o h = let bad : ⊥ = cc in absurd bad

added : (value e more off : ℕ) → value % 2 ^ 32 ≡ (e + more) % 2 ^ 32 → (value + off) % 2 ^ 32 ≡ (e + (more + off) % 2 ^ 32) % 2 ^ 32
added value e more off h = omega arith

-- an address by the name of its register
pub offset_is : (n : Option Name) (x : View) (value off o : ℕ) → IsNamed n x value → offset_of n off ≡ Some o → plus value off ≡ plus (reg x.begun 2) o
offset_is None x value off o is h = let bad : ⊥ = cc in absurd bad
offset_is (Some (of_begin r more)) x value off o is h = cond_both (r == 2) (Some (plus more off)) None (λ k. k ≡ Some o → plus value off ≡ plus (reg x.begun 2) o)
    (λ two q.
    let e : plus more off ≡ o = cc in
    let f : value % 2 ^ 32 ≡ plus (reg x.begun 2) more = subst (λ n. value % 2 ^ 32 ≡ plus (reg x.begun n) more) (eqb-true r 2 two) is.0 in
    added value (reg x.begun 2) more off f ∙ ap (λ n. plus (reg x.begun 2) n) e)
    (λ _ q. let bad : ⊥ = cc in absurd bad) h
offset_is (Some (of_word k more)) x value off o is h = let bad : ⊥ = cc in absurd bad

named_same : (n : Name) (x : View) (value : ℕ) → origin n x < 2 ^ 32 → IsNamed (Some n) x value → value ≡ plus (origin n x) (more_than n)
named_same n x value small is = sym (mod_same value (is.1 small)) ∙ is.0

by_begin : (i : Option Arc) (x : View) (value more : ℕ) → IsHeld i (reg x.begun 2) → IsNamed (Some (of_begin 2 more)) x value → IsHeld (known_sum i more) value
by_begin None x value more h is = tt
by_begin (Some i) x value more h is = subst (λ n. IsHeld (sum_with (Some i) more) n) (sym (named_same (of_begin 2 more) x value h.word is)) (sum_with_in (Some i) more (reg x.begun 2) h)

-- a value is in the interval of its name
pub name_arc_in : (v : Values) (w : Stacks) (a : ℕ) (n : Option Name) (x : View) (value : ℕ) → IsHeld (w.begins (v.function a)) (reg x.begun 2) → ((k : ℕ) → IsHeld (w.word a k) (x.words k)) → ((k : ℕ) → x.words k < 2 ^ 32) →
    IsNamed n x value → IsHeld (name_arc v w a n) value
name_arc_in v w a None x value begins words small is = tt
name_arc_in v w a (Some (of_begin r more)) x value begins words small is = cond_both (r == 2) (known_sum (w.begins (v.function a)) more) None (λ k. IsHeld k value)
    (λ two. by_begin (w.begins (v.function a)) x value more begins (subst (λ q. IsNamed (Some (of_begin q more)) x value) (eqb-true r 2 two) is)) (λ _. tt)
name_arc_in v w a (Some (of_word k more)) x value begins words small is =
    subst (λ n. IsHeld (sum_with (w.word a k) more) n) (sym (named_same (of_word k more) x value (small k) is)) (sum_with_in (w.word a k) more (x.words k) (words k))

more_added : (value e more off : ℕ) → value % 2 ^ 32 ≡ (e + more) % 2 ^ 32 → (value + off) % 2 ^ 32 % 2 ^ 32 ≡ (e + (more + off) % 2 ^ 32) % 2 ^ 32
more_added value e more off h = omega arith

-- a sum with a number
pub more_named : (n : Option Name) (x : View) (value off : ℕ) → IsNamed n x value → IsNamed (more_of n off) x (plus value off)
more_named None x value off is = tt
more_named (Some (of_begin r more)) x value off is = (more_added value (reg x.begun r) more off is.0, λ _. plus_small value off)
more_named (Some (of_word k more)) x value off is = (more_added value (x.words k) more off is.0, λ _. plus_small value off)

-- in another view, where what is named is the same
abbrev pub IsSame : Option Name → View → View → Type 0
IsSame None x y = Unit {0}
IsSame (Some (of_begin r more)) x y = reg y.begun r ≡ reg x.begun r
IsSame (Some (of_word k more)) x y = y.words k ≡ x.words k

pub named_alike : (n : Option Name) (x y : View) (value other : ℕ) → IsSame n x y → other % 2 ^ 32 ≡ value % 2 ^ 32 → (value < 2 ^ 32 → other < 2 ^ 32) → IsNamed n x value → IsNamed n y other
named_alike None x y value other same e small is = tt
named_alike (Some (of_begin r more)) x y value other same e small is =
    (e ∙ (is.0 ∙ ap (λ n. plus n more) (sym same)), λ lt. small (is.1 (subst (λ n. n < 2 ^ 32) same lt)))
named_alike (Some (of_word k more)) x y value other same e small is =
    (e ∙ (is.0 ∙ ap (λ n. plus n more) (sym same)), λ lt. small (is.1 (subst (λ n. n < 2 ^ 32) same lt)))

pub named_in : (n : Option Name) (x y : View) (value : ℕ) → IsSame n x y → IsNamed n x value → IsNamed n y value
named_in n x y value same is = named_alike n x y value value same refl (λ lt. lt) is

pub twice : (value : ℕ) → value % 2 ^ 32 % 2 ^ 32 ≡ value % 2 ^ 32
twice value = omega arith

pub named_mod : (n : Option Name) (x y : View) (value : ℕ) → IsSame n x y → IsNamed n x value → IsNamed n y (value % 2 ^ 32)
named_mod n x y value same is = named_alike n x y value (value % 2 ^ 32) same (twice value) (λ _. (let e : value % 2 ^ 32 < 2 ^ 32 = omega arith in e)) is

-- what a function finds when it begins
pub begun_named : (x : View) (r : ℕ) → reg x.regs r ≡ reg x.begun r → IsNamed (Some (of_begin r 0)) x (reg x.regs r)
begun_named x r e = (mod_none (reg x.regs r) ∙ ap (λ n. plus n 0) e, λ lt. subst (λ n. n < 2 ^ 32) (sym e) lt)

-- a register that has the value of a word
pub word_named : (x : View) (k value : ℕ) → value < 2 ^ 32 → value ≡ x.words k → IsNamed (Some (of_word k 0)) x value
word_named x k value small e = (mod_none value ∙ ap (λ n. plus n 0) e, λ _. small)

tied_back : (value word more : ℕ) → value % 2 ^ 32 ≡ (word + more) % 2 ^ 32 → word < 2 ^ 32 → (value + (2 ^ 32 - more % 2 ^ 32) % 2 ^ 32) % 2 ^ 32 ≡ word
tied_back value word more e lt = omega arith

-- a word's interval by a register that is so much more
pub tied_in : (i : Option Arc) (x : View) (k more value : ℕ) → x.words k < 2 ^ 32 → IsNamed (Some (of_word k more)) x value → IsHeld i value → IsHeld (sum_with i (opposite_of more)) (x.words k)
tied_in i x k more value small is h = subst (λ n. IsHeld (sum_with i (opposite_of more)) n) (tied_back value (x.words k) more is.0 small) (sum_with_in i (opposite_of more) value h)

-- ---- sums of registers

factor_alike : (f a b : ℕ) → a % 2 ^ 32 ≡ b % 2 ^ 32 → f * a % 2 ^ 32 ≡ f * b % 2 ^ 32
factor_alike f a b h = sym (mul-mod_second f a (2 ^ 32)) ∙ (ap (λ n. f * n % 2 ^ 32) h ∙ mul-mod_second f b (2 ^ 32))

-- a sum is the same where its registers are, modulo 2^32
pub measured_alike : (m : Measure) (before after : List ℕ) → reg after m.register % 2 ^ 32 ≡ reg before m.register % 2 ^ 32 → reg after m.other % 2 ^ 32 ≡ reg before m.other % 2 ^ 32 → measured m after ≡ measured m before
measured_alike m before after p q =
    sym (sum_of_products (2 ^ 32) m.shift (m.factor * reg after m.register) (m.other_factor * reg after m.other))
    ∙ (ap (λ n. ((n + m.other_factor * reg after m.other % 2 ^ 32) % 2 ^ 32 + m.shift) % 2 ^ 32) (factor_alike m.factor (reg after m.register) (reg before m.register) p)
    ∙ (ap (λ n. ((m.factor * reg before m.register % 2 ^ 32 + n) % 2 ^ 32 + m.shift) % 2 ^ 32) (factor_alike m.other_factor (reg after m.other) (reg before m.other) q)
    ∙ sum_of_products (2 ^ 32) m.shift (m.factor * reg before m.register) (m.other_factor * reg before m.other)))

-- ---- pointers into the stack

pub in_one : (p : ℕ) → p < 2 ^ 32 → IsIn (strided p 0 0) p
in_one p small = subst (λ k. IsHeld k p) (cond-true _ _ _ (lt-ltb p (2 ^ 32) small)) (in_exactly p)

pub spanned_from : (k : Option Arc) (x : View) (value d : ℕ) → IsHeld k d → value % 2 ^ 32 ≡ plus (reg x.begun 2) d → IsSpanned k x value
spanned_from None x value d h e = tt
spanned_from (Some k) x value d h e = (d, h, e)

pub spanned_covers : (k j : Option Arc) (x : View) (value : ℕ) → IsSpanned j x value → Covers k j → IsSpanned k x value
spanned_covers None j x value is c = tt
spanned_covers (Some k) None x value is c = absurd c
spanned_covers (Some k) (Some j) x value is c = (is.0, in_covers (Some j) (Some k) is.0 is.1 c, is.2)

pub spanned_alike : (k : Option Arc) (x y : View) (value other : ℕ) → reg y.begun 2 ≡ reg x.begun 2 → other % 2 ^ 32 ≡ value % 2 ^ 32 → IsSpanned k x value → IsSpanned k y other
spanned_alike None x y value other same e is = tt
spanned_alike (Some k) x y value other same e is = (is.0, is.1, e ∙ (is.2 ∙ ap (λ n. plus n is.0) (sym same)))

pub span_sum : (k : Option Arc) (x : View) (value n : ℕ) → IsSpanned k x value → IsSpanned (known_sum k n) x (plus value n)
span_sum None x value n is = tt
span_sum (Some k) x value n is = (plus is.0 n, sum_with_in (Some k) n is.0 is.1, more_added value (reg x.begun 2) is.0 n is.2)

pub span_sums : (k j : Option Arc) (x : View) (a b : ℕ) → IsSpanned k x a → IsHeld j b → IsSpanned (known_sums k j) x (plus a b)
span_sums None j x a b is h = tt
span_sums (Some k) j x a b is h = spanned_from (sum_of (Some k) j) x (plus a b) (plus is.0 b) (sum_in (Some k) j is.0 b is.1 h) (more_added a (reg x.begun 2) is.0 b is.2)

pub span_named : (n : Option Name) (x : View) (value : ℕ) → IsNamed n x value → IsSpanned (name_span n) x value
span_named None x value is = tt
span_named (Some (of_begin r more)) x value is = cond_both (r == 2) (exactly more) None (λ k. IsSpanned k x value)
    (λ two. spanned_from (exactly more) x value more (in_exactly more) (subst (λ q. value % 2 ^ 32 ≡ plus (reg x.begun q) more) (eqb-true r 2 two) is.0)) (λ _. tt)
span_named (Some (of_word k more)) x value is = tt

pub moved_apart : (e o p : ℕ) → o < 2 ^ 32 → p < 2 ^ 32 → ((e + p) % 2 ^ 32 + (2 ^ 32 - (e + o) % 2 ^ 32)) % 2 ^ 32 ≡ (p + (2 ^ 32 - o)) % 2 ^ 32
moved_apart e o p a b = omega arith

-- two places that are so far above x2 are apart where the distances are
pub places_apart : (e o width p : ℕ) → o < 2 ^ 32 → p < 2 ^ 32 → IsApart o width p → IsApart (plus e o) width (plus e p)
places_apart e o width p a b apart = (subst (λ n. width ≤ n) (sym (moved_apart e o p a b)) apart.0, subst (λ n. 4 ≤ n) (sym (moved_apart e p o b a)) apart.1)

pub span_apart : (j : Option Arc) (x : View) (value width p : ℕ) → value < 2 ^ 32 → p < 2 ^ 32 → IsSpanned j x value → AreApart j width (Some (strided p 0 0)) → IsApart value width (plus (reg x.begun 2) p)
span_apart None x value width p small low is h = absurd h
span_apart (Some j) x value width p small low is h =
    let e : value ≡ plus (reg x.begun 2) is.0 = sym (mod_same value small) ∙ is.2 in
    subst (λ n. IsApart n width (plus (reg x.begun 2) p)) (sym e) (places_apart (reg x.begun 2) is.0 width p is.1.word low (are_apart (Some j) (Some (strided p 0 0)) width is.0 p is.1 (in_one p low) h))

within_below : (low more from many e d width : ℕ) → low < 2 ^ 32 → e < 2 ^ 32 → (e + (2 ^ 32 - low)) % 2 ^ 32 ≤ more → low + more < 2 ^ 32 → 0 < from → from < 2 ^ 32 → d < 2 ^ 32 → (d + (2 ^ 32 - from)) % 2 ^ 32 ≤ many → from + many < 2 ^ 32 →
    (2 ^ 32 - from % 2 ^ 32) % 2 ^ 32 ≤ low → width ≤ (2 ^ 32 - (from + many) % 2 ^ 32) % 2 ^ 32 → (e + d) % 2 ^ 32 + width ≤ e
within_below low more from many e d width a b c f pos g h i j k l = omega arith

pub span_below : (i j : Option Arc) (x : View) (value width : ℕ) → value < 2 ^ 32 → IsHeld i (reg x.begun 2) → IsSpanned j x value → AreBelow i j width → value + width ≤ reg x.begun 2
span_below None j x value width small begins is h = absurd h
span_below (Some i) None x value width small begins is h = absurd h
span_below (Some i) (Some j) x value width small begins is h =
    let e : value ≡ plus (reg x.begun 2) is.0 = sym (mod_same value small) ∙ is.2 in
    subst (λ n. n + width ≤ reg x.begun 2) (sym e) (within_below i.low i.more j.low j.more (reg x.begun 2) is.0 width begins.start begins.word begins.near h.0 h.1 is.1.start is.1.word is.1.near h.2 h.3 h.4)
