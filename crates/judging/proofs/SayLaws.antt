-- When a statement says what is due: its code is the one due, its registers mean the step's terms, and its symbol is the one bound.
-- Assumes nothing.
use mathlib.Core.Path.{◌≡◌, refl, sym, ap, ◌∙◌}
use mathlib.Core.Bool.{Bool, true, false, decide, ◌&&◌, false≢true}
use mathlib.Core.Logic.{◌↔◌}
use mathlib.Core.Option.{Option, some}
use mathlib.Core.List.{List}
use Prim.Native.Nat.{ℕ, zero, suc, ◌<◌}
use native.Mathlib.Omega.{arith}
use native.Mathlib.Decide.{ℕ_discrete}
use lib.Dec.{eqb}
use lib.ListN.{get_elem?}
use borrow.Author.Tests.{eq-eqb, eqb-true}
use Rattle.base.specs.Pick.{both}
use Rattle.base.proofs.BothLaws.{both_parts, both_true}
use Rattle.calculus.specs.Terms.{Act, send, receive, fresh, compare, split, decrypt, map_act, Side, same_side, Statement, act, half, build}
use Rattle.calculus.specs.Version1.{encryption, signature1}
use Rattle.rendering.specs.Rendering.{Due, whole, part}
use Rattle.rendering.specs.Judge.{Meaning, says, same_meant, same_option}
use Rattle.rendering.proofs.Base.{decided, decides, denies, and_left}
use Rattle.decoded_list.specs.Bytes.{half_op}
use Rattle.decoded_list.specs.Statements.{statement_of}

-- ── Codes ──

-- the code of an act, of a statement, and of what is due; 16 is that of a split in one statement, and 8 stands for any build
unfoldable pub act_code : {X : Type 0} → Act signature1 X → ℕ
act_code (send a b) = 0
act_code (receive a x) = 1
act_code (fresh x) = 2
act_code (compare a b) = 3
act_code (split a x y) = 16
act_code (decrypt s a b x) = 6

unfoldable pub statement_code : Statement signature1 → ℕ
statement_code (act a) = act_code a
statement_code (half d p x) = half_op d
statement_code (build b) = 8

unfoldable pub due_code : Due signature1 Meaning → ℕ
due_code (whole a) = act_code a
due_code (part d a x) = half_op d

code_mapped : {X Y : Type 0} (f : X → Y) (a : Act signature1 X) → act_code (map_act signature1 f a) ≡ act_code a
unfolding act_code map_act
code_mapped f (send a b) = refl
code_mapped f (receive a x) = refl
code_mapped f (fresh x) = refl
code_mapped f (compare a b) = refl
code_mapped f (split a x y) = refl
code_mapped f (decrypt s a b x) = refl

-- what is said has the code of what is due
pub said_code : (ms : List Meaning) (s : Statement signature1) (w : Due signature1 Meaning) → says signature1 ms s w ≡ true → statement_code s ≡ due_code w
unfolding says statement_code due_code
said_code ms (act a) (whole d) h = sym (code_mapped (get_elem? ms) a) ∙ ap act_code (decided _ h) ∙ code_mapped some d
said_code ms (act a) (part d m y) h = absurd (false≢true h)
said_code ms (half d p x) (whole a) h = absurd (false≢true h)
said_code ms (half d p x) (part c m y) h = ap half_op (decided (same_side d c) (and_left (decide (same_side d c)) _ h))
said_code ms (build b) w h = absurd (false≢true h)

pub read_code : (op u v x : ℕ) → op < 7 → statement_code (statement_of op u v x) ≡ op
unfolding statement_of statement_code act_code half_op
read_code zero u v x h = refl
read_code (suc zero) u v x h = refl
read_code (suc (suc zero)) u v x h = refl
read_code (suc (suc (suc zero))) u v x h = refl
read_code (suc (suc (suc (suc zero)))) u v x h = refl
read_code (suc (suc (suc (suc (suc zero))))) u v x h = refl
read_code (suc (suc (suc (suc (suc (suc zero)))))) u v x h = refl
read_code (suc (suc (suc (suc (suc (suc (suc op))))))) u v x h = absurd (omega arith)

-- ── Operands ──

-- a test that holds exactly if what is decided does
pub as_test : {P : Type 0} (d : Dec P) (b : Bool) → (b ≡ true → P) → (P → b ≡ true) → decide d ≡ b
as_test d true f g = decides d (f refl)
as_test d false f g = denies d (λ p. false≢true (g p))

pub and_as : (a b : Bool) → a && b ≡ both a b
and_as true b = refl
and_as false b = refl

-- a test that says whether a register means m
abbrev pub Tells : List Meaning → ℕ → Meaning → Bool → Type 0
Tells ms u m b = (b ≡ true) ↔ (get_elem? ms u ≡ some m)

module _ (ms : List Meaning) (u v x y : ℕ) (A B : Meaning) (b c : Bool) (f : Tells ms u A b) (g : Tells ms v B c) where
  pub says_send : says signature1 ms (act (send u v)) (whole (send A B)) ≡ both b c
  unfolding says map_act
  says_send = as_test _ (both b c) (λ h. to (both_parts b c h)) (λ h. both_true b c (f.1 cc) (g.1 cc))
    where
      to : (b ≡ true) × (c ≡ true) → ◌≡◌ {A = Act signature1 (Option Meaning)} (send (get_elem? ms u) (get_elem? ms v)) (send (some A) (some B))
      to (p, q) = rw (f.0 p, g.0 q)

  pub says_compare : says signature1 ms (act (compare u v)) (whole (compare A B)) ≡ both b c
  unfolding says map_act
  says_compare = as_test _ (both b c) (λ h. to (both_parts b c h)) (λ h. both_true b c (f.1 cc) (g.1 cc))
    where
      to : (b ≡ true) × (c ≡ true) → ◌≡◌ {A = Act signature1 (Option Meaning)} (compare (get_elem? ms u) (get_elem? ms v)) (compare (some A) (some B))
      to (p, q) = rw (f.0 p, g.0 q)

  pub says_decrypt : says signature1 ms (act (decrypt encryption u v x)) (whole (decrypt encryption A B y)) ≡ both b (both c (eqb y x))
  unfolding says map_act
  says_decrypt = as_test _ (both b (both c (eqb y x))) (λ h. to (both_parts b (both c (eqb y x)) h)) (λ h. both_true b (both c (eqb y x)) (f.1 cc) (both_true c (eqb y x) (g.1 cc) (eq-eqb y x cc)))
    where
      to : (b ≡ true) × (both c (eqb y x) ≡ true)
          → ◌≡◌ {A = Act signature1 (Option Meaning)} (decrypt encryption (get_elem? ms u) (get_elem? ms v) x) (decrypt encryption (some A) (some B) y)
      to (p, r) = let (q, z) = both_parts c (eqb y x) r in rw (f.0 p, g.0 q, eqb-true y x z)

module _ (ms : List Meaning) (u x y : ℕ) (A : Meaning) (b : Bool) (f : Tells ms u A b) where
  pub says_receive : says signature1 ms (act (receive u x)) (whole (receive A y)) ≡ both b (eqb y x)
  unfolding says map_act
  says_receive = as_test _ (both b (eqb y x)) (λ h. to (both_parts b (eqb y x) h)) (λ h. both_true b (eqb y x) (f.1 cc) (eq-eqb y x cc))
    where
      to : (b ≡ true) × (eqb y x ≡ true) → ◌≡◌ {A = Act signature1 (Option Meaning)} (receive (get_elem? ms u) x) (receive (some A) y)
      to (p, z) = rw (f.0 p, eqb-true y x z)

  pub says_half : (d : Side) → says signature1 ms (half d u x) (part d A y) ≡ both b (eqb y x)
  unfolding says
  says_half d =
      rw (decides (same_side d d) refl, and_as (decide (same_option same_meant (get_elem? ms u) (some A))) (decide (ℕ_discrete x y)), as_test (same_option same_meant (get_elem? ms u) (some A)) b f.0 f.1, as_test (ℕ_discrete x y) (eqb y x) (λ z. sym (eqb-true y x z)) (λ z. eq-eqb y x (sym z)))

pub says_fresh : (ms : List Meaning) (x y : ℕ) → says signature1 ms (act (fresh x)) (whole (fresh y)) ≡ eqb y x
unfolding says map_act
says_fresh ms x y = as_test _ (eqb y x) (λ z. to (eqb-true y x z)) (λ h. eq-eqb y x cc)
  where
    to : y ≡ x → ◌≡◌ {A = Act signature1 (Option Meaning)} (fresh x) (fresh y)
    to z = rw z
