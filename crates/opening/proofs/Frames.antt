-- A frame stands before every rung of a higher number, and what it says where it passes. Assumes nothing.
use mathlib.Core.Path.{◌≡◌, refl, ◌∙◌}
use mathlib.Core.Bool.{Bool, true, false}
use mathlib.Core.Logic.{◌↔◌}
use mathlib.Core.List.{List, [], ◌∷◌, ◌++◌}
use Prim.Native.Nat.{ℕ, ◌≤◌}
use native.Mathlib.Omega.{arith}
use lib.Dec.{T, ltb, leb, eqb}
use lib.ListN.{length}
use borrow.Author.Tests.{ltb-true, lt-ltb, leb-true, le-leb, eqb-true, eq-eqb}
use Rattle.base.specs.Bytes.{byte, word}
use Rattle.base.specs.Pick.{both}
use Rattle.base.proofs.BothLaws.{both_parts}
use Rattle.codes.specs.Marks.{mark, header}
use Rattle.answers.specs.Ladder.{Rung, whole, least}
use Rattle.answers.specs.Least.{Ordered}
use Rattle.answers.proofs.Ladder.{whole_right}
use Rattle.answers.proofs.Leads.{all_above, at_once}
use Rattle.answers.proofs.Passes.{whole_passed}
use Rattle.opening.specs.Opening.{marked, version, framed}
use Rattle.std.proofs.Common.{Ok}

-- rungs above a number are above every lower one
above_lower : (m n : ℕ) (rs : List Rung) → m ≤ n → T (all_above n rs) → T (all_above m rs)
above_lower m n [] h t = tt
above_lower m n (r ∷ rs) h t = go (ltb n r.number) refl t (λ u. above_lower m n rs h u)
  where
    go : (b : Bool) → ltb n r.number ≡ b → T (both b (all_above n rs)) → (T (all_above n rs) → T (all_above m rs)) → T (both (ltb m r.number) (all_above m rs))
    go true e t f = let l = ltb-true n r.number e in rw (lt-ltb m r.number (omega arith)) (f t)
    go false e t f = absurd t

-- 1 to 4 stand in front of rungs of higher numbers
pub frame_ordered : (file : ℕ) (s : List ℕ) (counts size : Bool) (rs : List Rung) → T (all_above 4 rs) → Ordered rs → Ordered (framed file s counts size ++ rs)
frame_ordered file s counts size rs t o =
    at_once 1 file (marked file s) (whole 2 file (eqb (version s) 1) ∷ whole 3 file counts ∷ whole 4 file size ∷ rs) (above_lower 1 4 rs (omega arith) t)
    (at_once 2 file (eqb (version s) 1) (whole 3 file counts ∷ whole 4 file size ∷ rs) (above_lower 2 4 rs (omega arith) t)
    (at_once 3 file counts (whole 4 file size ∷ rs) (above_lower 3 4 rs (omega arith) t) (at_once 4 file size rs t o)))

-- what holds of a file that 1 to 4 pass
pub record Framed (file : ℕ) (s : List ℕ) (counts size : Bool) : Type 0 where
  pub mark_right : marked file s ≡ true
  pub version_one : version s ≡ 1
  pub counts_right : counts ≡ true
  pub size_right : size ≡ true

-- where a frame and what follows it pass, it holds, and what follows passes
pub frame_passed : (file : ℕ) (s : List ℕ) (counts size : Bool) (rs : List Rung) → least (framed file s counts size ++ rs) ≡ Ok tt
    → Framed file s counts size × (least rs ≡ Ok tt)
frame_passed file s counts size rs e =
    let (m, e₁) = whole_passed 1 file (marked file s) (whole 2 file (eqb (version s) 1) ∷ whole 3 file counts ∷ whole 4 file size ∷ rs) e in
    let (v, e₂) = whole_passed 2 file (eqb (version s) 1) (whole 3 file counts ∷ whole 4 file size ∷ rs) e₁ in
    let (c, e₃) = whole_passed 3 file counts (whole 4 file size ∷ rs) e₂ in
    let (l, e₄) = whole_passed 4 file size rs e₃ in
    (record { mark_right = m; version_one = eqb-true (version s) 1 v; counts_right = c; size_right = l }, e₄)

-- and the other way: a frame that holds leaves the answer to what follows
pub frame_right : (file : ℕ) (s : List ℕ) (counts size : Bool) (rs : List Rung) → Framed file s counts size → least (framed file s counts size ++ rs) ≡ least rs
frame_right file s counts size rs f =
    whole_right 1 file (marked file s) (whole 2 file (eqb (version s) 1) ∷ whole 3 file counts ∷ whole 4 file size ∷ rs) f.mark_right
    ∙ whole_right 2 file (eqb (version s) 1) (whole 3 file counts ∷ whole 4 file size ∷ rs) (eq-eqb (version s) 1 f.version_one)
    ∙ whole_right 3 file counts (whole 4 file size ∷ rs) f.counts_right
    ∙ whole_right 4 file size rs f.size_right

-- the header is there, and its first bytes are the mark
pub record Marked (file : ℕ) (s : List ℕ) : Type 0 where
  pub header_there : header file ≤ length s
  pub first : byte s 0 ≡ mark file 0
  pub second : byte s 1 ≡ mark file 1
  pub third : byte s 2 ≡ mark file 2

-- that is what number 1 tests
pub marked_means : (file : ℕ) (s : List ℕ) → (marked file s ≡ true) ↔ Marked file s
unfolding marked
marked_means file s = (λ e. to e, λ m. from m)
  where
    to : marked file s ≡ true → Marked file s
    to e =
        let (h, a) = both_parts (leb (header file) (length s)) _ e in
        let (x, b) = both_parts (eqb (byte s 0) (mark file 0)) _ a in
        let (y, z) = both_parts (eqb (byte s 1) (mark file 1)) _ b in
        record { header_there = leb-true _ _ h; first = eqb-true _ _ x; second = eqb-true _ _ y; third = eqb-true _ _ z }

    from : Marked file s → marked file s ≡ true
    from m = rw (le-leb _ _ m.header_there, eq-eqb _ _ m.first, eq-eqb _ _ m.second) (eq-eqb _ _ m.third)

-- the two bytes of version 1
pub version_bytes : (s : List ℕ) → version s ≡ 1 → (byte s 3 ≡ 0) × (byte s 4 ≡ 1)
unfolding word
version_bytes s e = (omega arith, omega arith)
