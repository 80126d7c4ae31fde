-- Equal meanings are equal bytes, and an array that holds the meanings of registers holds one more. Assumes nothing.
use mathlib.Core.Path.{◌≡◌, refl, sym, ap, ◌∙◌}
use mathlib.Core.Bool.{Bool, true, false}
use mathlib.Core.Option.{some, some_inj}
use mathlib.Core.List.{List, [], ◌∷◌, ◌++◌}
use Prim.Native.Nat.{ℕ, ◌+◌, ◌<◌, ◌≤◌}
use native.Mathlib.Omega.{arith}
use lib.Dec.{eqb}
use lib.ListN.{length, get_or, get_elem?, set, length-append}
use borrow.Author.Tests.{eq-eqb, eqb-true, eqb-false}
use Rattle.base.specs.Pick.{pick, both}
use Rattle.marks.specs.Put.{Put}
use Rattle.marks.proofs.PutLaws.{put_one}
use Rattle.rendering.specs.Judge.{Meaning, symbol, term}
use Rattle.calculus.proofs.Lists.{get_more}
use Rattle.judging.specs.declared.Registers.{Registers}
use Rattle.judging.specs.Meanings.{coded, Small, Meant, Held, Known}

-- ── Bytes ──

-- equal bytes are equal meanings
pub coded_once : (m n : Meaning) → Small m → Small n → coded m ≡ coded n → m ≡ n
unfolding coded Small
coded_once (symbol x) (symbol y) h l e = ap symbol e
coded_once (symbol x) (term j) h l e = absurd (omega arith)
coded_once (term i) (symbol y) h l e = absurd (omega arith)
coded_once (term i) (term j) h l e = let q : i ≡ j = omega arith in ap term q

module _ {ms : List Meaning} {p byte : ℕ} (r : Meant ms p byte) (n : Meaning) (l : Small n) (a : ℕ) (e : a ≡ coded n) where
  -- a register means n exactly if its byte is that of n
  pub byte_means : eqb a byte ≡ true → get_elem? ms p ≡ some n
  byte_means q = r.is_given ∙ ap some (coded_once r.meaning n r.small l (sym r.as_byte ∙ sym (eqb-true a byte q) ∙ e))

  pub means_byte : get_elem? ms p ≡ some n → eqb a byte ≡ true
  means_byte q = let k : r.meaning ≡ n = some_inj.0 (sym r.is_given ∙ q) in eq-eqb a byte (e ∙ ap coded (sym k) ∙ sym r.as_byte)

-- ── The array ──

pub get_last : (ms : List Meaning) (m : Meaning) → get_elem? (ms ++ (m ∷ [])) (length ms) ≡ some m
get_last [] m = refl
get_last (n ∷ ms) m = get_last ms m

-- a register keeps what it means
pub meant_more : (ms ns : List Meaning) {p byte : ℕ} → Meant ms p byte → Meant (ms ++ ns) p byte
meant_more ms ns {p} r = record { meaning = r.meaning; is_given = get_more ms ns p r.is_given; small = r.small; as_byte = r.as_byte }

-- the next register is noted
held_more : (ms : List Meaning) (m : Meaning) (z o : List ℕ) (registers v : ℕ) → registers ≡ length ms → registers < 256 → Small m → v ≡ coded m → Held ms z
    → Put z o (λ i. both true (eqb registers i)) v → Held (ms ++ (m ∷ [])) o
held_more ms m z o registers v c l s e h p =
    record { size = p.size ∙ h.size; at = λ i u w. go i u w (eqb registers i) refl (p.at i (rw h.size u)) }
  where
    go : (i : ℕ) → i < 256 → i < length (ms ++ (m ∷ [])) → (b : Bool) → eqb registers i ≡ b → get_or o i 0 ≡ pick b v (get_or z i 0) → Meant (ms ++ (m ∷ [])) i (get_or o i 0)
    go i u w true q g =
        let k : i ≡ length ms = sym (eqb-true registers i q) ∙ c in
        record { meaning = m; is_given = rw k (get_last ms m); small = s; as_byte = g ∙ e }
    go i u w false q g =
        let n : ¬ (registers ≡ i) = eqb-false registers i q in
        let k : i < length ms = omega (arith, n, length-append ms (m ∷ [])) in
        rw g (meant_more ms (m ∷ []) (h.at i u k))

-- the next register can't be named
held_past : (ms : List Meaning) (m : Meaning) (z : List ℕ) (registers : ℕ) → registers ≡ length ms → 256 ≤ registers → Held ms z → Held (ms ++ (m ∷ [])) z
held_past ms m z registers c l h = record { size = h.size; at = λ i u w. meant_more ms (m ∷ []) (h.at i u (omega arith)) }

module _ (ms : List Meaning) (m : Meaning) (r : Registers) (k : Known ms r) where
  -- one register more, which can be named
  pub known_more : (v : ℕ) → r.given < 256 → Small m → v ≡ coded m → Known (ms ++ (m ∷ [])) (record { meanings = set r.meanings r.given v; given = r.given + 1 })
  known_more v l s e = record {
    held = held_more ms m r.meanings _ r.given v (omega (arith, k.count)) l s e k.held (put_one r.meanings true r.given v refl);
    count = omega (arith, k.count, length-append ms (m ∷ []));
  }

  -- which can't
  pub known_past : 256 ≤ r.given → Known (ms ++ (m ∷ [])) r
  known_past l = record { held = held_past ms m r.meanings (length ms) refl (omega (arith, k.count)) k.held; count = omega (arith, k.count, length-append ms (m ∷ [])) }
