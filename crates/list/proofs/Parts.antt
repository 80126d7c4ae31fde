-- The part that holds a symbol's type: when it is there, where it lies, and what it holds. Assumes nothing.
use mathlib.Core.Path.{◌≡◌, refl, sym, ◌∙◌}
use mathlib.Core.Bool.{Bool, true, false}
use mathlib.Core.List.{List, [], ◌∷◌}
use Prim.Native.Nat.{ℕ, ◌+◌, ◌-◌, ◌≤◌, ◌<◌}
use native.Mathlib.Omega.{arith}
use lib.Dec.{ltb}
use lib.ListN.{length, take, drop}
use borrow.Author.Tests.{ltb-true, lt-ltb, le-ltb, le-leb, lt-leb}
use Rattle.std.proofs.Common.{Some, None, Ok, Err}
use Rattle.std.specs.declared.ops.Range.{Range}
use Rattle.base.specs.Bytes.{byte}
use Rattle.base.specs.Pick.{pick}
use Rattle.answers.specs.Ladder.{least, Check}
use Rattle.answers.specs.declared.Refusal.{Refusal}
use Rattle.opening.specs.Opening.{version}
use Rattle.list.specs.Layout.{symbols, body_at, past_type, body_range, type_at, wants, type_ok_at, type_ok}
use Rattle.list.specs.Faults.{frame_rungs, type_rung, type_rungs}
use Rattle.list.specs.TypeOf.{passed, has_type, type_bytes, part_of}
use Rattle.answers.proofs.Passes.{layers_passed, first_passed}
use Rattle.base.proofs.BothLaws.{both_parts}
use Rattle.list.specs.Right.{Framed}
use Rattle.list.proofs.Framed.{frame_passes, type_inside}

-- a type whose bytes are there is tested; one that runs past the end is not in order
pub type_there : (s : List ℕ) (at e : ℕ) → e ≡ past_type s at → e ≤ length s → wants (version s) 1 (take (e - (at + 1)) (drop (at + 1) s)) ≡ type_ok_at s at
unfolding type_ok_at
type_there s at e q h =
    let n : e - (at + 1) ≡ byte s at = omega arith in
    rw (n, le-leb (past_type s at) (length s) (omega arith))

pub type_past : (s : List ℕ) (at e : ℕ) → e ≡ past_type s at → length s < e → false ≡ type_ok_at s at
unfolding type_ok_at
type_past s at e q h = rw (lt-leb (past_type s at) (length s) (omega arith))

-- the part, by what the tests answered
module _ (s : List ℕ) (x : ℕ) (a : Check) (e : a ≡ least (type_rungs s)) where
  pub part_refused : (y : Refusal) → a ≡ Err y → None ≡ part_of s x
  unfolding part_of has_type
  part_refused y q = rw (sym e ∙ q)

  pub part_past : a ≡ Ok tt → symbols s ≤ x → None ≡ part_of s x
  unfolding part_of has_type
  part_past q h = rw (sym e ∙ q, le-ltb x (symbols s) h)

  pub part_here : a ≡ Ok tt → x < symbols s → Some (body_range s (type_at s x)) ≡ part_of s x
  unfolding part_of has_type
  part_here q h = rw (sym e ∙ q, lt-ltb x (symbols s) h)

-- a list that has a symbol's type: 1 to 4 pass, every type is in order, and the symbol is one of its own
pub record Typed (s : List ℕ) (x : ℕ) : Type 0 where
  pub framed : Framed s
  pub types_right : (i : ℕ) → i < symbols s → type_ok s i ≡ true
  pub among : x < symbols s

pub has_type_lem : (s : List ℕ) (x : ℕ) → has_type s x ≡ true → Typed s x
unfolding has_type
has_type_lem s x e =
    let (p, l) = both_parts (passed (least (type_rungs s))) (ltb x (symbols s)) e in
    let (f, t) = layers_passed (frame_rungs s) (type_rung s ∷ []) (pass (least (type_rungs s)) p) in
    record { framed = (frame_passes s).0 f; types_right = first_passed (type_rung s) [] t; among = ltb-true x (symbols s) l }
  where
    pass : (a : Check) → passed a ≡ true → a ≡ Ok tt
    pass (Ok tt) e = refl
    pass (Err y) e = let z : ◌≡◌ {A = ℕ} 0 1 = cc in absurd (omega arith)

-- a part lies inside the list, and holds the type's bytes
module _ (s : List ℕ) (x : ℕ) (r : Range ℕ) where
  pub part_inside : part_of s x ≡ Some r → (r.start ≤ r.end) × (r.end ≤ length s)
  unfolding part_of
  part_inside e = go (has_type s x) refl e
    where
      go : (b : Bool) → has_type s x ≡ b → pick b (Some (body_range s (type_at s x))) None ≡ Some r → (r.start ≤ r.end) × (r.end ≤ length s)
      go true q e =
          let t = has_type_lem s x q in
          let u : body_range s (type_at s x) ≡ r = cc in
          rw (← u) (omega arith, type_inside s x t.framed.length_exact t.among)
      go false q e = let z : ◌≡◌ {A = ℕ} 0 1 = cc in absurd (omega arith)

  pub part_bytes : part_of s x ≡ Some r → take (r.end - r.start) (drop r.start s) ≡ type_bytes s x
  unfolding part_of type_bytes
  part_bytes e = go (has_type s x) e
    where
      go : (b : Bool) → pick b (Some (body_range s (type_at s x))) None ≡ Some r → take (r.end - r.start) (drop r.start s) ≡ pick b (body_at s (type_at s x)) []
      go true e =
          let u : body_range s (type_at s x) ≡ r = cc in
          let n : past_type s (type_at s x) - (type_at s x + 1) ≡ byte s (type_at s x) = omega arith in
          rw (← u, n)
      go false e = let z : ◌≡◌ {A = ℕ} 0 1 = cc in absurd (omega arith)

pub part_none : (s : List ℕ) (x : ℕ) → part_of s x ≡ None → [] ≡ type_bytes s x
unfolding part_of type_bytes
part_none s x e = go (has_type s x) e
  where
    go : (b : Bool) → pick b (Some (body_range s (type_at s x))) None ≡ None → [] ≡ pick b (body_at s (type_at s x)) []
    go true e = let z : ◌≡◌ {A = ℕ} 0 1 = cc in absurd (omega arith)
    go false e = refl

-- by which the part is handed out
pub ruleset part_steps = (part_refused, part_past, part_here, part_inside, part_bytes, part_none)
