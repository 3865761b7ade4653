-- Over two lists of a program's code that differ in the numbers of functions alone, a scan finds the same.
use Rattle.std.proofs.Common.{◌≡◌, inl, inr, ℕ, ◌+◌, ◌<◌, List, length, sym, ap, ◌∙◌, subst, slice_get, Some}
use Rattle.std.proofs.Math.Path.{fun_ext}
use Rattle.scale_base.specs.declared.edges.Edge.{Edge}
use Rattle.scale_base.specs.declared.verdict.Why.{Why}
use Rattle.scale_base.specs.declared.verdict.Why.TheVariants as why
use Rattle.scale_base.specs.Image.{Image}
use Rattle.cost_theory.specs.Graph.{Loops, goes_back, leaves}
use Rattle.cost_theory.specs.Reached.{Code, edge_at, edge_to}
use Rattle.code_text.specs.Text.{text_of}
use Rattle.code_text.specs.TextGraph.{text_graph, IsReachedCode}
use Rattle.foreign_scan.specs.Agree.{ScanIsNotRefused, CausesAgree, FoundAgree}
use Rattle.foreign_scan.specs.Scanned.{Found, IsPatch, KeepsForm, IsCountedAt, IsFirstCounted, IsLastRow, HasRows, AreFound, IsBadPatch, IsBadStub, IsScanned, IsLeastAddress, IsFirstWhy}
use Rattle.image_check.specs.Safe.{Owner, one_where, counts_on, clears_on, IsCounterOf, IsUsed, AreOwners}

-- the same nodes and the same edges
pub record AreSameLists (one other : Code) : Type 0 where
  pub nodes : one.nodes ≡ other.nodes
  pub edges : one.edges ≡ other.edges

pub turned : (one other : Code) → AreSameLists one other → AreSameLists other one
turned one other same = record { nodes = sym same.nodes; edges = sym same.edges }

module _ (original foreign : Image) where
  abbrev patch_to : (one other : Code) (at : ℕ) → AreSameLists one other → IsPatch original foreign one at → IsPatch original foreign other at
  patch_to one other at same p = record {
    node = (p.node.0, ap (λ (ns : List ℕ). slice_get ns p.node.0) (sym same.nodes) ∙ p.node.1);
    old_instr = p.old_instr;
    old = p.old;
    can_be = p.can_be;
    offset = p.offset;
    new = p.new;
    even = p.even;
    key = p.key;
  }

  form_to : (one other : Code) (found : Found) (at : ℕ) → AreSameLists one other → KeepsForm original foreign one found at → KeepsForm original foreign other found at
  form_to one other found at same form p = form (patch_to other one at (turned one other same) p)

  edge_to_other : (one other : Code) (e : ℕ) (edge : Edge) → AreSameLists one other → slice_get one.edges e ≡ Some edge → slice_get other.edges e ≡ Some edge
  edge_to_other one other e edge same there = ap (λ (es : List Edge). slice_get es e) (sym same.edges) ∙ there

  counted_to : (one other : Code) (l : Loops) (found : Found) (counter k e : ℕ) (edge : Edge) → AreSameLists one other → IsCountedAt original foreign one l found counter k e edge → IsCountedAt original foreign other l found counter k e edge
  counted_to one other l found counter k e edge same c = record {
    there = edge_to_other one other e edge same c.there;
    low = c.low;
    back = ap (λ (es : List Edge). goes_back l k (edge_at (slice_get es e)) (edge_to (slice_get es e))) (sym same.edges) ∙ c.back;
    changed = c.changed;
    form = form_to one other found edge.at same c.form;
    counts = c.counts;
  }

  first_to : (one other : Code) (l : Loops) (found : Found) (counter k : ℕ) → AreSameLists one other → IsFirstCounted original foreign one l found counter k → IsFirstCounted original foreign other l found counter k
  first_to one other l found counter k same f = record {
    e = f.e;
    edge = f.edge;
    counted = counted_to one other l found counter k f.e f.edge same f.counted;
    first = λ j d edge r before. f.first j d edge (counted_to other one l found counter j d edge (turned one other same) r) before;
  }

  last_to : (one other : Code) (l : Loops) (found : Found) (counter shift last : ℕ) → AreSameLists one other → IsLastRow original foreign one l found counter shift last → IsLastRow original foreign other l found counter shift last
  last_to one other l found counter shift last same (inl (k, first, is)) = inl (k, first_to one other l found counter k same first, is)
  last_to one other l found counter shift last same (inr (none, is)) = inr (λ k first. none k (first_to other one l found counter k (turned one other same) first), is)

  rows_to : (one other : Code) (l : Loops) (found : Found) (at : ℕ) → AreSameLists one other → HasRows original foreign one l found at → HasRows original foreign other l found at
  rows_to one other l found at same rows kind counter shift table last on is = rows kind counter shift table last on (last_to other one l found counter shift last (turned one other same) is)

  found_to : (one other : Code) (found : Found) → AreSameLists one other → AreFound original foreign one found → AreFound original foreign other found
  found_to one other found same f =
      let back = turned one other same in
      record {
        edges = λ at kind none. f.edges at kind (λ e edge there. none e edge (edge_to_other one other e edge same there));
        plain = f.plain;
        none = λ at kind c no_form. f.none at kind c (λ form. no_form (form_to one other found at same form));
        some = λ at others c form. form_to one other found at same (f.some at others c (form_to other one others at back form));
      }

  pub scanned_to : (one other : Code) (l : Loops) (found : Found) → AreSameLists one other → IsScanned original foreign one l found → IsScanned original foreign other l found
  scanned_to one other l found same s = record {
    key = s.key;
    layout = s.layout;
    bytes = s.bytes;
    patches = λ at c. patch_to one other at same (s.patches at c);
    found_are = found_to one other found same s.found_are;
    stubs = λ at c. (form_to one other found at same (s.stubs at c).0, rows_to one other l found at same (s.stubs at c).1);
  }

  -- two scans find the same,
  pub found_same : FoundAgree → (one other : Code) (l l' : Loops) (found found' : Found) → AreSameLists one other → l ≡ l' → IsReachedCode (text_of original) one → IsScanned original foreign one l found → IsScanned original foreign other l' found' → found ≡ found'
  found_same agree one other l l' found found' same loops reached s s' =
      let there = scanned_to other one l found' (turned one other same) (subst (λ x. IsScanned original foreign other x found') (sym loops) s') in
      fun_ext (λ at. fun_ext (λ kind. agree original foreign one l found found' reached s there at kind))

  -- and where one finds no cause, no other does
  pub no_cause : ScanIsNotRefused → (one other : Code) (l l' : Loops) (found : Found) (why : Why) → AreSameLists one other → l ≡ l' → IsReachedCode (text_of original) other → IsScanned original foreign one l found → IsFirstWhy original foreign other l' why → ⊥
  no_cause agree one other l l' found why same loops reached s first =
      agree original foreign other l' found why reached (scanned_to one other l' found same (subst (λ x. IsScanned original foreign one x found) loops s)) first

  -- ---- the first cause

  least_to : (P Q : ℕ → Type 0) (at : ℕ) → ((a : ℕ) → P a → Q a) → ((a : ℕ) → Q a → P a) → IsLeastAddress P at → IsLeastAddress Q at
  least_to P Q at to back h = (to at h.0, λ lower lt q. h.1 lower lt (back lower q))

  bad_patch_to : (one other : Code) (at : ℕ) → AreSameLists one other → IsBadPatch original foreign one at → IsBadPatch original foreign other at
  bad_patch_to one other at same b = (b.0, λ p. b.1 (patch_to other one at (turned one other same) p))

  bad_stub_to : (one other : Code) (l : Loops) (found : Found) (at : ℕ) → AreSameLists one other → IsBadStub original foreign one l found at → IsBadStub original foreign other l found at
  bad_stub_to one other l found at same b =
      let back = turned one other same in
      (b.0, λ h. b.1 (form_to other one found at back h.0, rows_to other one l found at back h.1))

  first_why_to : (one other : Code) (l : Loops) (cause : Why) → AreSameLists one other → IsFirstWhy original foreign one l cause → IsFirstWhy original foreign other l cause
  first_why_to one other l why.NoKey same h = h
  first_why_to one other l why.Layout same h = h
  first_why_to one other l (why.Byte at) same h = h
  first_why_to one other l (why.Patch at) same h =
      let back = turned one other same in
      (h.0, h.1, h.2, least_to (IsBadPatch original foreign one) (IsBadPatch original foreign other) at (λ a b. bad_patch_to one other a same b) (λ a b. bad_patch_to other one a back b) h.3)
  first_why_to one other l (why.Stub at) same h =
      let back = turned one other same in
      let found = h.4.0 in (
        h.0,
        h.1,
        h.2,
        λ a b. h.3 a (bad_patch_to other one a back b),
        (found, found_to one other found same h.4.1, least_to (IsBadStub original foreign one l found) (IsBadStub original foreign other l found) at (λ a b. bad_stub_to one other l found a same b) (λ a b. bad_stub_to other one l found a back b) h.4.2),
      )
  first_why_to one other l (why.Image number) same h = h
  first_why_to one other l (why.Counter counter) same h = h
  first_why_to one other l why.TooLong same h = h
  first_why_to one other l (why.Start level levels) same h = h
  first_why_to one other l (why.TooSlow need have) same h = h
  first_why_to one other l (why.Level at from) same h = h

  -- two causes that hold first are one
  pub causes_same : CausesAgree → (one other : Code) (l l' : Loops) (cause cause' : Why) → AreSameLists one other → l ≡ l' → IsReachedCode (text_of original) one → IsFirstWhy original foreign one l cause → IsFirstWhy original foreign other l' cause' → cause ≡ cause'
  causes_same agree one other l l' cause cause' same loops reached first first' =
      agree original foreign one l cause cause' reached first (first_why_to other one l cause' (turned one other same) (subst (λ x. IsFirstWhy original foreign other x cause') (sym loops) first'))

  -- ---- counters

  pub used_to : (one other : Code) (found : Found) (c : ℕ) → AreSameLists one other → IsUsed (text_graph (text_of original) one) one found c → IsUsed (text_graph (text_of original) other) other found c
  used_to one other found c same u = record {
    edge = u.edge;
    low = subst (λ (es : List Edge). u.edge < length es) same.edges u.low;
    uses = subst (λ (es : List Edge). 0 < counts_on found (slice_get es u.edge) c + clears_on found (slice_get es u.edge) c) same.edges u.uses;
  }

  pub counter_to : (one other : Code) (l : Loops) (found : Found) (c k : ℕ) → AreSameLists one other → IsCounterOf (text_graph (text_of original) one) one l found c k → IsCounterOf (text_graph (text_of original) other) other l found c k
  counter_to one other l found c k same h = record {
    low = h.low;
    counts = λ e lt. subst (λ (es : List Edge). counts_on found (slice_get es e) c ≡ one_where (goes_back l k (edge_at (slice_get es e)) (edge_to (slice_get es e)))) same.edges (h.counts e (subst (λ (es : List Edge). e < length es) (sym same.edges) lt));
    clears = λ e lt. subst (λ (es : List Edge). clears_on found (slice_get es e) c ≡ one_where (leaves l k (edge_at (slice_get es e)) (edge_to (slice_get es e)))) same.edges (h.clears e (subst (λ (es : List Edge). e < length es) (sym same.edges) lt));
  }

  pub owners_to : (one other : Code) (l : Loops) (found : Found) (owner : Owner) → AreSameLists one other → AreOwners (text_graph (text_of original) one) one l found owner → AreOwners (text_graph (text_of original) other) other l found owner
  owners_to one other l found owner same h =
      let back = turned one other same in
      record {
        used = λ c u. let o = h.used c (used_to other one found c back u) in (o.0, o.1, counter_to one other l found c o.0 same o.2);
        unused = λ c none. h.unused c (λ u. none (used_to one other found c same u));
      }
