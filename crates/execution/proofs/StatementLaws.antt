-- A statement by its op: what it does over registers is what its act, half or build does over their values. Assumes nothing.
use mathlib.Core.Path.{◌≡◌, refl, ◌∙◌}
use mathlib.Core.List.{List, [], ◌∷◌}
use Prim.Native.Nat.{ℕ, zero, suc, ◌≤◌}
use native.Mathlib.Omega.{arith}
use Rattle.std.specs.Bool.{⊤}
use Rattle.std.proofs.Common.{Result}
use Rattle.entries.specs.Fields.{code, field}
use Rattle.types.specs.Version1.{T}
use Rattle.calculus.specs.Signature.{pairing, seal}
use Rattle.calculus.specs.Terms.{Atom, build2, map_build, send, receive, fresh, compare, decrypt, map_act, left, right, Statement, act, half, build}
use Rattle.calculus.specs.Tables.{Entry}
use Rattle.calculus.specs.Version1.{encryption, signature1}
use Rattle.running.specs.Lists.{Register, holds, execute}
use Rattle.running.specs.Demand3.{builds, speaks, messages, types_of}
use Rattle.decoded_list.specs.Statements.{statement_of}
use Rattle.run_parts.specs.Registers.{Given, value_in}
use Rattle.run_parts.proofs.RegisterLaws.{value_right}
use Rattle.effects.specs.Effects.{Doing, acting, halving, building, Does}
use Rattle.effects.specs.declared.State.{State}
use Rattle.effects.specs.declared.Ending.{Ending}
use Rattle.execution.specs.Execution.{executing, statement_in, executing_at, builds_at, messages_at}

-- an unknown op is the fresh name of symbol 0
unknown_op : (op p q x : ℕ) → 9 ≤ op → statement_of op p q x ≡ act (fresh 0)
unfolding statement_of
unknown_op zero p q x h = absurd (omega arith)
unknown_op (suc zero) p q x h = absurd (omega arith)
unknown_op (suc (suc zero)) p q x h = absurd (omega arith)
unknown_op (suc (suc (suc zero))) p q x h = absurd (omega arith)
unknown_op (suc (suc (suc (suc zero)))) p q x h = absurd (omega arith)
unknown_op (suc (suc (suc (suc (suc zero))))) p q x h = absurd (omega arith)
unknown_op (suc (suc (suc (suc (suc (suc zero)))))) p q x h = absurd (omega arith)
unknown_op (suc (suc (suc (suc (suc (suc (suc zero))))))) p q x h = absurd (omega arith)
unknown_op (suc (suc (suc (suc (suc (suc (suc (suc zero)))))))) p q x h = absurd (omega arith)
unknown_op (suc (suc (suc (suc (suc (suc (suc (suc (suc op))))))))) p q x h = refl

module _ (l tr w w' o o' g g' : List ℕ) (s s' : State) (r : Result ⊤ Ending) (base k op p q x v u : ℕ) (c : op ≡ code l 2 base k)
    (hp : p ≡ field l 2 base k 0) (hq : q ≡ field l 2 base k 1) (hx : x ≡ field l 2 base k 2)
    (hv : v ≡ value_in g s.registers p) (hu : u ≡ value_in g s.registers q) where
  -- what statement k does
  abbrev Done : Type 0
  Done = Does (builds_at l base k) (messages_at l base k) (executing_at l base k) l tr w w' o o' g g' s s' r

  statement_is : (n : ℕ) → op ≡ n → statement_in l base k ≡ statement_of n p q x
  unfolding statement_in
  statement_is n e = rw (← c, ← hp, ← hq, ← hx, e)

  -- a statement that does f
  done : (b m : ℕ) (f : Doing) (st : Statement signature1) → statement_in l base k ≡ st → builds signature1 (st ∷ []) ≡ b → messages signature1 (st ∷ []) ≡ m
      → ((Γ : ℕ → T) (es : List (Entry signature1 Atom)) (rs : List (Register ℕ)) (su : List ℕ) → Given rs g s.registers → executing st Γ es rs su ≡ f Γ es rs su)
      → Does b m f l tr w w' o o' g g' s s' r → Done
  done b m f st e hb hm d i = rw (e, hb, hm) (record {
    does = λ As t z y es rs su ms n room. rw (d (types_of signature1 As) es rs su n.given) (i.does As t z y es rs su ms n room);
  })

  first_value : {rs : List (Register ℕ)} → Given rs g s.registers → v ≡ holds 0 rs p
  first_value n = hv ∙ value_right n p

  second_value : {rs : List (Register ℕ)} → Given rs g s.registers → u ≡ holds 0 rs q
  second_value n = hu ∙ value_right n q

  pub sends : op ≡ 0 → Does 0 1 (acting (send v u)) l tr w w' o o' g g' s s' r → Done
  unfolding statement_of builds messages speaks executing execute acting map_act
  sends e i = done 0 1 (acting (send v u)) (act (send p q)) (statement_is 0 e) refl refl (λ Γ es rs su n. rw (first_value n, second_value n)) i

  pub receives : op ≡ 1 → Does 0 1 (acting (receive v x)) l tr w w' o o' g g' s s' r → Done
  unfolding statement_of builds messages speaks executing execute acting map_act
  receives e i = done 0 1 (acting (receive v x)) (act (receive p x)) (statement_is 1 e) refl refl (λ Γ es rs su n. rw (first_value n)) i

  pub freshens : op ≡ 2 → Does 0 0 (acting (fresh x)) l tr w w' o o' g g' s s' r → Done
  unfolding statement_of builds messages speaks executing execute acting map_act
  freshens e i = done 0 0 (acting (fresh x)) (act (fresh x)) (statement_is 2 e) refl refl (λ Γ es rs su n. refl) i

  pub compares : op ≡ 3 → Does 0 0 (acting (compare v u)) l tr w w' o o' g g' s s' r → Done
  unfolding statement_of builds messages speaks executing execute acting map_act
  compares e i = done 0 0 (acting (compare v u)) (act (compare p q)) (statement_is 3 e) refl refl (λ Γ es rs su n. rw (first_value n, second_value n)) i

  pub halves_left : op ≡ 4 → Does 0 0 (halving left v) l tr w w' o o' g g' s s' r → Done
  unfolding statement_of builds messages executing execute halving
  halves_left e i = done 0 0 (halving left v) (half left p x) (statement_is 4 e) refl refl (λ Γ es rs su n. rw (first_value n)) i

  pub halves_right : op ≡ 5 → Does 0 0 (halving right v) l tr w w' o o' g g' s s' r → Done
  unfolding statement_of builds messages executing execute halving
  halves_right e i = done 0 0 (halving right v) (half right p x) (statement_is 5 e) refl refl (λ Γ es rs su n. rw (first_value n)) i

  pub decrypts : op ≡ 6 → Does 0 0 (acting (decrypt encryption v u x)) l tr w w' o o' g g' s s' r → Done
  unfolding statement_of builds messages speaks executing execute acting map_act
  decrypts e i = done 0 0 (acting (decrypt encryption v u x)) (act (decrypt encryption p q x)) (statement_is 6 e) refl refl (λ Γ es rs su n. rw (first_value n, second_value n)) i

  pub pairs : op ≡ 7 → Does 1 0 (building pairing v u) l tr w w' o o' g g' s s' r → Done
  unfolding statement_of builds messages executing execute building map_build
  pairs e i = done 1 0 (building pairing v u) (build (build2 pairing p q)) (statement_is 7 e) refl refl (λ Γ es rs su n. rw (first_value n, second_value n)) i

  pub encrypts : op ≡ 8 → Does 1 0 (building (seal encryption) v u) l tr w w' o o' g g' s s' r → Done
  unfolding statement_of builds messages executing execute building map_build
  encrypts e i = done 1 0 (building (seal encryption) v u) (build (build2 (seal encryption) p q)) (statement_is 8 e) refl refl (λ Γ es rs su n. rw (first_value n, second_value n)) i

  pub unknowns : 9 ≤ op → Does 0 0 (acting (fresh 0)) l tr w w' o o' g g' s s' r → Done
  unfolding builds messages speaks executing execute acting map_act
  unknowns h i = done 0 0 (acting (fresh 0)) (act (fresh 0)) (statement_is op refl ∙ unknown_op op p q x h) refl refl (λ Γ es rs su n. refl) i
