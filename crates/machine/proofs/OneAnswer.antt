-- No second answer tells of a run: how it went determines the answer and each byte of both buffers. Assumes nothing.
use mathlib.Core.Path.{◌≡◌, sym, ◌∙◌}
use mathlib.Core.List.{List}
use Prim.Native.Nat.{ℕ}
use Rattle.calculus.specs.Terms.{Atom}
use Rattle.calculus.specs.Tables.{Entry}
use Rattle.calculus.specs.Version1.{signature1}
use Rattle.running.specs.Acts.{Result}
use Rattle.machine.specs.Statements.{Told}
use Rattle.machine.specs.declared.Ran.{Ran}

same_answer : (r q : Ran) → r.ending ≡ q.ending → r.place ≡ q.place → r.used ≡ q.used → r.logged ≡ q.logged → r.count ≡ q.count → r ≡ q
same_answer r q a b c d e = go q.ending q.place q.used q.logged q.count a b c d e
  where
    go : (v w x y z : ℕ) → r.ending ≡ v → r.place ≡ w → r.used ≡ x → r.logged ≡ y → r.count ≡ z → r ≡ record { ending = v; place = w; used = x; logged = y; count = z }
    go v w x y z a b c d e = rw (← a, ← b, ← c, ← d, ← e)

-- of one run there is one telling
pub told_once : {tr z v v' y o o' : List ℕ} {R : Result ℕ (List (Entry signature1 Atom))} {r q : Ran} → Told tr z v y o R r → Told tr z v' y o' R q → (r ≡ q) × (v ≡ v') × (o ≡ o')
told_once {r = r} {q = q} a b = (
  same_answer r q (a.ending ∙ sym b.ending) (a.place ∙ sym b.place) (a.used ∙ sym b.used) (a.logged ∙ sym b.logged) (a.count ∙ sym b.count),
  a.values_written ∙ sym b.values_written,
  a.messages_written ∙ sym b.messages_written,
)
