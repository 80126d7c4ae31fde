-- The laws of document 01's kinds, and the theorems on its tables. Assumes nothing.
use mathlib.Core.Path.{◌≡◌}
use Prim.Native.Nat.{ℕ, ◌+◌, ◌*◌, ◌≤◌}
use lib.ListN.{length}
use Rattle.types.specs.Types.{Message}
use Rattle.types.specs.Prefix.{nodes}
use Rattle.types.specs.Version1.{types1, bytes}
use Rattle.types.proofs.Version1Laws.{falls1, length1}
use Rattle.calculus.specs.Signature.{SignatureLaws}
use Rattle.calculus.specs.Terms.{Process}
use Rattle.calculus.specs.Tables.{Table}
use Rattle.calculus.specs.Figure2.{Env}
use Rattle.calculus.specs.Typing.{Checked, widest, AnswerIs, NoSecondAnswer, PrintedIsOneEnvironment, TypedAsPrinted}
use Rattle.calculus.specs.Inference.{InferenceIsGreatest, InferenceIsRight}
use Rattle.calculus.specs.Version1.{One1, signature1}
use Rattle.calculus.proofs.InferenceLaws.{inference_is_greatest, inference_is_right, no_second_answer}
use Rattle.calculus.proofs.OneEnvironment.{printed_is_one_environment}
use Rattle.calculus.proofs.Bounded.{typed_as_printed}
use Rattle.calculus.proofs.SizeLaws.{small_types}

flat1 : (k : One1) → nodes types1 Message ≡ 1
flat1 k = elim k [ ]

pub laws1 : SignatureLaws signature1
laws1 = record { falls = falls1; flat = flat1 }

pub greatest1 : (t : Table signature1) → InferenceIsGreatest signature1 t
greatest1 = inference_is_greatest signature1 laws1

pub right1 : (t : Table signature1) → InferenceIsRight signature1 t
right1 = inference_is_right signature1 laws1

pub one_answer1 : (t : Table signature1) → NoSecondAnswer signature1 t
one_answer1 = no_second_answer signature1 laws1

pub printed1 : (P : Process signature1) → PrintedIsOneEnvironment signature1 P
printed1 = printed_is_one_environment signature1

pub typed_as_printed1 : (t : Table signature1) → TypedAsPrinted signature1 t
typed_as_printed1 = typed_as_printed signature1

-- a symbol's type has at most 2P + 1 bytes
pub small_bytes1 : (t : Table signature1) → Checked signature1 t → (Γ : Env signature1) → AnswerIs signature1 t (widest Γ) → (x : ℕ) → length (bytes (Γ x)) ≤ 2 * length t.steps + 1
small_bytes1 t c Γ a x = rw (length1 (Γ x)) (small_types signature1 laws1 t c Γ a x)
