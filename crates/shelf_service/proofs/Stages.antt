-- The stages of the shelf, each passed on or left behind. Assumes nothing.
use mathlib.Core.Path.{◌≡◌, sym, ◌∙◌}
use mathlib.Core.Bool.{Bool, true, false}
use mathlib.Core.List.{List}
use Prim.Native.Nat.{ℕ, ◌*◌, ◌≤◌, ◌<◌}
use native.Mathlib.Omega.{arith}
use lib.Dec.{eqb}
use lib.ListN.{length}
use borrow.Author.Tests.{eqb-true, eqb-false}
use Rattle.answers.specs.Ladder.{refusal, Check}
use Rattle.answers.specs.declared.Refusal.{Refusal}
use Rattle.type_service.specs.Services.{SlotsTyped, RoomChecked, enough, short}
use Rattle.shelf_service.specs.Shelf.{total, ShelfChecked, too_many, not_added_up, too_short, in_order, ListsJudged, ShelfAnswered, table_refused, shelf_refused, shelf_judged}
use Rattle.std.proofs.Common.{Result, Ok, Err}

-- ── 3, 4 and 15 ──

module _ (lists lengths : List ℕ) (room : ℕ) where
  -- more than 64 lists
  pub many : (r : Check) → 64 < length lengths → r ≡ Err (refusal 3 1 0) → ShelfChecked lists lengths room r
  many r h q = rw q (too_many h)

  module _ (h : length lengths ≤ 64) (b : Bool) (e : b ≡ eqb (total lengths) (length lists)) where
    -- the lengths don't add up
    pub not_equal : (r : Check) → b ≡ false → r ≡ Err (refusal 4 1 0) → ShelfChecked lists lengths room r
    not_equal r f q = rw q (not_added_up h (eqb-false (total lengths) (length lists) (sym e ∙ f)))

    -- they do: is there room?
    pub room_told : (r : Check) → b ≡ true → RoomChecked (4 * length lengths) room r → ShelfChecked lists lengths room r
    room_told r f (enough l) = in_order h (eqb-true (total lengths) (length lists) (sym e ∙ f)) l
    room_told r f (short l) = too_short h (eqb-true (total lengths) (length lists) (sym e ∙ f)) l

  -- a shelf that is in order
  pub record Ready : Type 0 where
    pub few : length lengths ≤ 64
    pub added_up : total lengths ≡ length lists
    pub room_left : 4 * length lengths ≤ room

  pub ready : (r : Check) → ShelfChecked lists lengths room r → r ≡ Ok tt → Ready
  ready r (too_many h) q = let y : ◌≡◌ {A = ℕ} 0 1 = cc in absurd (omega arith)
  ready r (not_added_up h n) q = let y : ◌≡◌ {A = ℕ} 0 1 = cc in absurd (omega arith)
  ready r (too_short h e l) q = let y : ◌≡◌ {A = ℕ} 0 1 = cc in absurd (omega arith)
  ready r (in_order h e l) q = record { few = h; added_up = e; room_left = l }

-- ── The answer ──

module _ (t lists lengths z w : List ℕ) (a : Check) (s : SlotsTyped t w a) where
  -- the table's refusal is passed on
  pub table_stops : (x : Refusal) (r : Result ℕ Refusal) → a ≡ Err x → r ≡ Err x → ShelfAnswered t lists lengths z z r
  table_stops x r q p = rw p (table_refused (rw q at s))

  module _ (q : a ≡ Ok tt) (b : Check) (k : ShelfChecked lists lengths (length z) b) where
    -- the shelf's is
    pub shelf_stops : (x : Refusal) (r : Result ℕ Refusal) → b ≡ Err x → r ≡ Err x → ShelfAnswered t lists lengths z z r
    shelf_stops x r e p = let (Γ, h, v) : SlotsTyped t w (Ok tt) = rw q at s in rw p (shelf_refused {Γ = Γ} v (rw e at k))

    -- the lists are judged
    pub lists_judged : (o : List ℕ) → b ≡ Ok tt → ListsJudged t w lists lengths z o → ShelfAnswered t lists lengths z o (Ok (4 * length lengths))
    lists_judged o e j =
        let (Γ, h, u) : SlotsTyped t w (Ok tt) = rw q at s in
        let (v, p, f) = j.wrote Γ h u in
        rw (f, ← p.size) (shelf_judged u (rw e at k) p)
