-- Text appended piece by piece, and the line that it makes. Assumes nothing.
use mathlib.Core.Path.{◌≡◌, refl, ◌∙◌}
use mathlib.Core.List.{List, [], ◌∷◌, ◌++◌, append_assoc}
use Prim.Native.Nat.{ℕ, zero, suc, ◌+◌, ◌-◌, ◌*◌, ◌^◌, ◌≤◌, ◌<◌}
use native.Mathlib.Nat.{pow-zero, pow-suc}
use native.Mathlib.Decide.{dec_lt}
use lib.Pow.{pow-add}
use Rattle.io.specs.Digits.{IsDigitCount}
use native.Mathlib.Omega.{arith}
use lib.ListN.{length, take, length-take}
use Rattle.answers.specs.declared.Refusal.{Refusal}
use Rattle.buffers.specs.Over.{Appended}
use Rattle.buffers.proofs.OverLaws.{over_none, appended_twice}
use Rattle.lines.specs.Lines.{NumberPut, refused, line_of, LinePut, accepted_line, CheckPut}
use Rattle.std.proofs.Common.{Ok, Err}
use Rattle.answers.specs.Ladder.{Check}

-- ── A number of 64 bits has at most 20 digits ──

ten_up : (j : ℕ) → 1 ≤ 10 ^ j
ten_up zero = rw (pow-zero 10) (omega arith)
ten_up (suc j) = rw (pow-suc 10 j) (omega (arith, ten_up j))

pub few_places : (n k : ℕ) → n < 2 ^ 64 → IsDigitCount 10 1 n k → k ≤ 20
few_places n k l f = go (dec_lt 20 k)
  where
    go : Dec (20 < k) → k ≤ 20
    go (no h) = omega (arith, h)
    go (yes h) =
        let q : 20 + (k - 21) ≡ k - 1 = omega arith in
        let m : 10 ^ 20 * 10 ^ (k - 21) ≤ n = rw (← pow-add 10 20 (k - 21), q) (f.2 (omega arith)) in
        absurd (omega (arith, ten_up (k - 21), m))

-- ── Pieces ──

-- as many bytes as are counted
pub counted : (r : ℕ) (o : List ℕ) → r ≤ length o → r ≡ length (take r o)
counted r o l = omega (arith, length-take r o)

-- the line is put where its pieces are, one after the other
module _ {x : Refusal} {z o₁ o₂ o₃ o₄ o₅ : List ℕ} {r₁ r₂ r₃ r₄ r₅ : ℕ} (a : Appended (114 ∷ 101 ∷ 102 ∷ 117 ∷ 115 ∷ 101 ∷ 100 ∷ []) 0 z o₁ r₁) (n : NumberPut x.number r₁ o₁ o₂ r₂) (f : NumberPut x.file r₂ o₂ o₃ r₃)
    (p : NumberPut x.place r₃ o₃ o₄ r₄) (e : Appended (10 ∷ []) r₄ o₄ o₅ r₅) where
  abbrev line : List ℕ
  line = line_of n.text f.text p.text

  line_appended : Appended line 0 z o₅ r₅
  line_appended =
      let q : (((refused ++ n.text) ++ (32 ∷ f.text)) ++ (32 ∷ p.text)) ++ (10 ∷ []) ≡ line = simp append_assoc in
      rw q at (appended_twice (appended_twice (appended_twice (appended_twice a n.appended) f.appended) p.appended) e)

  pub line_put : 71 ≤ length z → LinePut x z o₅ r₅
  line_put l =
      let in_buffer : r₅ ≤ length o₅ = omega (arith, n.short, f.short, p.short, a.ends, n.appended.ends, f.appended.ends, p.appended.ends, e.ends, line_appended.kept) in
      record {
        inside = in_buffer;
        counted = counted r₅ o₅ in_buffer;
        put = λ l. (line, record { number = n.text; file = f.text; place = p.text; of_number = n.decimal; of_file = f.decimal; of_place = p.decimal; is = refl }, (line_appended.ends ∙ omega arith), line_appended.wrote [] z refl (over_none z));
      }

pub no_line : (x : Refusal) (z : List ℕ) → length z < 71 → LinePut x z z 0
no_line x z l = record { inside = omega arith; counted = counted 0 z (omega arith); put = λ h. absurd (omega arith) }

-- ── The line of a check ──

pub refused_put : (a : Check) (x : Refusal) (z o : List ℕ) (r : ℕ) → a ≡ Err x → LinePut x z o r → CheckPut a z o r
refused_put a x z o r e p = rw e (record { inside = p.inside; counted = p.counted; put = λ l. p.put l })

pub nothing_put : (a : Check) (z : List ℕ) → length z < 71 → CheckPut a z z 0
nothing_put a z l = record { inside = omega arith; counted = counted 0 z (omega arith); put = λ h. absurd (omega arith) }

pub accepted_put : (a : Check) (z o : List ℕ) (r : ℕ) → a ≡ Ok tt → 71 ≤ length z → Appended accepted_line 0 z o r → CheckPut a z o r
accepted_put a z o r e l p =
    let i : r ≤ length o = omega (arith, p.ends, p.kept) in
    rw e (record { inside = i; counted = counted r o i; put = λ h. (accepted_line, refl, p.ends, p.wrote [] z refl (over_none z)) })
