-- A statement as it is read: its registers' meanings, and the turn that its op calls for. Assumes nothing.
use mathlib.Core.Path.{◌≡◌, refl, sym, ◌∙◌}
use mathlib.Core.List.{List}
use Prim.Native.Nat.{ℕ, ◌+◌, ◌<◌}
use Rattle.std.proofs.Common.{Option}
use native.Mathlib.Omega.{arith}
use lib.ListN.{length, get_or}
use Rattle.entries.specs.Fields.{code, field}
use Rattle.calculus.specs.Signature.{Two, pairing, seal}
use Rattle.calculus.specs.Terms.{build2, build}
use Rattle.calculus.specs.Version1.{Seal1, encryption}
use Rattle.rendering.specs.Judge.{Meaning}
use Rattle.decoded.specs.Table.{two_code}
use Rattle.decoded_list.specs.Statements.{statement_of}
use Rattle.judging.specs.declared.Registers.{Registers}
use Rattle.judging.specs.declared.State.{State}
use Rattle.judging.specs.Meanings.{Meant, Known}
use Rattle.judging.specs.Turns.{Answer, Turned, BuildTurns, SayTurns, Readable, Turns}

-- the statements that build
statement_two : (k : Two Seal1) (u v x : ℕ) → statement_of (two_code k + 6) u v x ≡ build (build2 k u v)
unfolding statement_of two_code
statement_two pairing u v x = refl
statement_two (seal encryption) u v x = refl

-- the same turn by another name
turned_as : (t : List ℕ) (ms : List Meaning) (z : Registers) {op op' : ℕ} {o o' : Answer} (r : Option State) → op ≡ op' → o ≡ o' → Turned t ms z op' o' r → Turned t ms z op o r
turned_as t ms z r e f h = rw (e, f) h

-- what the registers hold that a statement names first
pub record Operands (l : List ℕ) (base i : ℕ) (z : List ℕ) (p q : ℕ) : Type 0 where
  pub first : p ≡ get_or z (field l 2 base i 0) 0
  pub second : q ≡ get_or z (field l 2 base i 1) 0
  pub first_small : field l 2 base i 0 < 256
  pub second_small : field l 2 base i 1 < 256

module _ (t l : List ℕ) (base i : ℕ) (z z' : Registers) (a : State) (r : Option State) (p q : ℕ) where
  abbrev u : ℕ
  u = field l 2 base i 0

  abbrev v : ℕ
  v = field l 2 base i 1

  module _ (o : Operands l base i z.meanings p q) where
    -- what its registers mean
    operands_meant : (ms : List Meaning) → Readable l base i (length ms) → Known ms z → ¬ (code l 2 base i ≡ 2) → Meant ms u p × Meant ms v q
    operands_meant ms g k w =
        let (x, y) = g.operands w in
        (rw o.first (k.held.at u o.first_small x), rw o.second (k.held.at v o.second_small y))

    -- a build
    pub turns_build : (k : Two Seal1) (kind : ℕ) → kind ≡ two_code k → code l 2 base i ≡ kind + 6 → BuildTurns t kind p q z z' a r → Turns t l base i z z' a r
    turns_build k kind n c b e ms g h half_done =
        turned_as t ms z' r c (rw (c, n, statement_two k u v (field l 2 base i 2))) (b k n e ms u v h half_done (λ w. operands_meant ms g h (λ y. w (sym c ∙ y))))

    -- any other statement
    pub turns_say : (op x : ℕ) → op ≡ code l 2 base i → x ≡ field l 2 base i 2 → ¬ (op ≡ 7) → ¬ (op ≡ 8) → SayTurns t op p q x z z' a r → Turns t l base i z z' a r
    turns_say op x c d f w b e ms g h half_done =
        turned_as t ms z' r (sym c) (rw (← c, ← d)) (b (omega (arith, g.known, f, w)) e ms u v h half_done (λ y. operands_meant ms g h (λ j. y (c ∙ j))))
