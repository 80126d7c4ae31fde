-- An act binds just the symbols that it says, and no act that stops has finished. Assumes nothing.
use mathlib.Core.Path.{◌≡◌, refl, ap}
use mathlib.Core.Bool.{Bool, true, false, cond, ◌&&◌}
use mathlib.Core.Option.{Option, none, some}
use mathlib.Core.List.{List, [], ◌∷◌, map}
use Prim.Native.Nat.{ℕ, suc}
use native.Mathlib.Omega.{arith}
use Rattle.calculus.specs.Signature.{Signature}
use Rattle.calculus.specs.Terms.{Act, send, receive, fresh, compare, split, decrypt, binders}
use Rattle.running.specs.Values.{View, is_fresh, is_atom, pair_parts, Opening, inside, locked, unsealed, open_shape}
use Rattle.running.specs.Acts.{Ending, finished, no_supply, not_equal, wrong_key, received_lacks, opened_lacks, not_fresh, fresh_lacks, no_pair, no_ciphertext, number_of, Logged, Out, goes, stops, Tests, passes, splitting, opening, perform}

pub data Binds {W : Type 0} (xs : List ℕ) : Out W (ℕ × W) → Type 0 where
  binds : {ms : List (Logged W)} {bs : List (ℕ × W)} {su : List W} → map (λ b. b.0) bs ≡ xs → Binds xs (goes ms bs su)
  binds_not : {e : Ending} {ms : List (Logged W)} {su : List W} → ¬ (e ≡ finished) → Binds xs (stops e ms su)

-- an ending with another number than 0
pub other : (e : Ending) (n : ℕ) → number_of e ≡ suc n → ¬ (e ≡ finished)
unfolding number_of
other e n h q = let k : number_of e ≡ 0 = ap number_of q in omega arith

module _ (𝓢 : Signature) {W : Type 0} (A : View 𝓢 W) (ts : Tests 𝓢) where
  either : (t : Bool) {xs : List ℕ} {a b : Out W (ℕ × W)} → Binds xs a → Binds xs b → Binds xs (cond t a b)
  either true p q = p
  either false p q = q

  splitting_binds : (x y : ℕ) (su : List W) (o : Option (W × W)) → Binds (x ∷ y ∷ []) (splitting 𝓢 x y su o)
  unfolding splitting number_of
  splitting_binds x y su none = binds_not (other no_pair 7 refl)
  splitting_binds x y su (some h) = binds refl

  opening_binds : (ok : W → Bool) (x : ℕ) (su : List W) (o : Opening 𝓢 W) → Binds (x ∷ []) (opening 𝓢 ok x su o)
  unfolding opening number_of
  opening_binds ok x su (inside v) = either (ok v) (binds refl) (binds_not (other opened_lacks 4 refl))
  opening_binds ok x su locked = binds_not (other wrong_key 2 refl)
  opening_binds ok x su unsealed = binds_not (other no_ciphertext 8 refl)

  pub perform_binds : (held su : List W) (a : Act 𝓢 W) → Binds (binders 𝓢 a) (perform 𝓢 A ts held su a)
  unfolding perform binders number_of
  perform_binds held su (send c v) = binds refl
  perform_binds held [] (receive c x) = binds_not (other no_supply 0 refl)
  perform_binds held (v ∷ su) (receive c x) = either (passes 𝓢 ts A x v) (binds refl) (binds_not (other received_lacks 3 refl))
  perform_binds held [] (fresh x) = binds_not (other no_supply 0 refl)
  perform_binds held (v ∷ su) (fresh x) = either (is_atom 𝓢 (A.shape v) && is_fresh 𝓢 A held v) (either (passes 𝓢 ts A x v) (binds refl) (binds_not (other fresh_lacks 6 refl))) (binds_not (other not_fresh 5 refl))
  perform_binds held su (compare v w) = either (A.same v w) (binds refl) (binds_not (other not_equal 1 refl))
  perform_binds held su (split v x y) = splitting_binds x y su (pair_parts 𝓢 (A.shape v))
  perform_binds held su (decrypt s v k x) = opening_binds (λ w. passes 𝓢 ts A x w) x su (open_shape 𝓢 A s k (A.shape v))
