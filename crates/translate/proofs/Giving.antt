-- The next register is given to a compound term, or to a symbol. Assumes nothing.
use mathlib.Core.Path.{◌≡◌}
use mathlib.Core.List.{[], ◌∷◌}
use Prim.Native.Nat.{ℕ, ◌+◌, ◌<◌}
use native.Mathlib.Omega.{arith}
use Rattle.rendering.specs.Judge.{symbol, term}
use Rattle.registers.specs.Held.{Noted}
use Rattle.registers.proofs.HeldLaws.{noted_symbol, noted_term, symbols_kept, snoc_count}
use Rattle.translate.specs.declared.Progress.{Progress}
use Rattle.translate.specs.Making.{Gives}

module _ {p p' : Progress} (e : p'.registers ≡ p.registers + 1) where
  pub term_given : (i : ℕ) → i < 256 → p'.symbols ≡ p.symbols → Noted p.terms p'.terms i (p.registers + 1) → Gives (term i) p p'
  term_given i l q n = record { next = e; holds = λ ms h. rw (q, e) (noted_term ms p.symbols p.terms p'.terms i p.registers l h n) }

  pub symbol_given : (x : ℕ) → x < 256 → p'.terms ≡ p.terms → Noted p.symbols p'.symbols x (p.registers + 1) → Gives (symbol x) p p'
  symbol_given x l q n = record {
    next = e;
    holds = λ ms h. rw (q, e) record {
      of_symbols = noted_symbol ms p.symbols p'.symbols x (p.registers + 1) l (omega (arith, h.count)) h.of_symbols n;
      of_terms = symbols_kept ms (x ∷ []) p.terms h.of_terms;
      count = snoc_count ms (symbol x) p.registers h.count;
    };
  }
