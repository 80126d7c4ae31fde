-- What is made one after the other, each written after the last. Assumes nothing.
use mathlib.Core.Path.{◌≡◌, ap, ◌∙◌}
use mathlib.Core.List.{List, [], ◌++◌, append_assoc, append-nil}
use Prim.Native.Nat.{ℕ, ◌+◌, ◌*◌, ◌≤◌}
use native.Mathlib.Omega.{arith}
use lib.ListN.{length, length-append}
use Rattle.buffers.specs.Over.{Appended}
use Rattle.buffers.proofs.OverLaws.{over_length}
use Rattle.calculus.specs.Terms.{Statement}
use Rattle.calculus.specs.Version1.{signature1}
use Rattle.rendering.specs.Judge.{Meaning}
use Rattle.entries.proofs.Tiling.{joined_append}
use Rattle.decoded_list.specs.Bytes.{statement_bytes, statements_bytes}
use Rattle.decoded_list.proofs.FileLayout.{bytes_length}
use Rattle.translate.specs.declared.Progress.{Progress}
use Rattle.translate.specs.Stepwise.{Making, more, after}
use Rattle.translate.specs.Making.{Holds, Stands, Ready}

-- ── Statements ──

bytes_append : (a b : List (Statement signature1)) → statements_bytes (a ++ b) ≡ statements_bytes a ++ statements_bytes b
bytes_append a b = joined_append statement_bytes a b

module _ {r : Making} {p : Progress} {y o : List ℕ} (d : Stands r p y o) (ss : List (Statement signature1)) where
  -- there is room for more of them
  pub room_after : 4 * length (r.0 ++ ss) ≤ length y → p.at + length (statements_bytes ss) ≤ length o
  room_after h =
      let l = length-append r.0 ss in
      let k : length o ≡ length y = ap length d.written ∙ over_length (statements_bytes r.0) y (omega (arith, l, bytes_length r.0)) in
      omega (arith, l, d.ends, bytes_length r.0, bytes_length ss)

  -- they are written
  pub stated_after : {p' : Progress} {o' : List ℕ} {ms : List Meaning} → Appended (statements_bytes ss) p.at o o' p'.at → Holds ms p' → Stands (r.0 ++ ss, ms) p' y o'
  stated_after a h = record {
    holds = h;
    ends = rw (bytes_append r.0 ss) (a.ends ∙ omega (arith, d.ends, length-append (statements_bytes r.0) (statements_bytes ss)));
    written = rw (bytes_append r.0 ss) (a.wrote (statements_bytes r.0) y d.ends d.written);
  }

-- ── One after the other ──

module _ (f g : List Meaning → Making) (r : Making) where
  abbrev one : Making
  one = f r.1

  abbrev other : Making
  other = g one.1

  pub twice : more g (more f r) ≡ more (after f g) r
  twice = ap (λ (v : List (Statement signature1)). (v, other.1)) (append_assoc r.0 one.0 other.0)

  module _ {p : Progress} {y o : List ℕ} (q : Ready (after f g) r p y o) where
    -- ready for both, so for the first
    pub ready_first : length one.1 ≤ length other.1 → Ready f r p y o
    ready_first up = record {
      stands = q.stands;
      fits = record { few = omega (arith, q.fits.few); room = omega (arith, q.fits.room, length-append r.0 (one.0 ++ other.0), length-append one.0 other.0, length-append r.0 one.0) };
    }

    -- after the first, ready for the second
    pub ready_second : {p' : Progress} {o' : List ℕ} → Stands (more f r) p' y o' → Ready g (more f r) p' y o'
    ready_second d = record { stands = d; fits = record { few = q.fits.few; room = rw (append_assoc r.0 one.0 other.0) q.fits.room } }

  -- both are made
  pub stands_both : {p : Progress} {y o : List ℕ} → Stands (more g (more f r)) p y o → Stands (more (after f g) r) p y o
  stands_both d =
      record { holds = d.holds; ends = rw (append_assoc r.0 one.0 other.0) at d.ends; written = rw (append_assoc r.0 one.0 other.0) at d.written }

-- what is made is what another way makes
module _ (f g : List Meaning → Making) (r : Making) (e : f r.1 ≡ g r.1) {p : Progress} {y o : List ℕ} where
  pub ready_as : Ready f r p y o → Ready g r p y o
  ready_as q = record { stands = q.stands; fits = rw e at q.fits }

  pub stands_as : Stands (more g r) p y o → Stands (more f r) p y o
  stands_as d = rw e d

-- nothing is made
pub stands_none : (f : List Meaning → Making) (r : Making) → f r.1 ≡ ([], r.1) → {p : Progress} {y o : List ℕ} → Stands r p y o → Stands (more f r) p y o
stands_none f r e d = rw (e, append-nil r.0) d
