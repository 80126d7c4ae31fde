-- No second answer fits an exported function: its promise determines the result, each entry of the lent array, and each byte of the
-- lent buffers. Assumes nothing.
use mathlib.Core.Path.{◌≡◌, refl, sym, ◌∙◌}
use mathlib.Core.Bool.{Bool, true, false}
use mathlib.Core.List.{List}
use Prim.Native.Nat.{ℕ, ◌≤◌, ◌<◌}
use lib.Dec.{ltb}
use lib.ListN.{length}
use borrow.Author.Tests.{ltb-true, ltb-false}
use Rattle.machine.specs.declared.Ran.{Ran}
use Rattle.type_service.specs.Services.{Answered, types_file}
use Rattle.type_service.proofs.ServiceLaws.{answered_once}
use Rattle.compile_service.specs.Files.{list_file}
use Rattle.judge_service.proofs.Exact.{judged_once}
use Rattle.shelf_service.specs.Shelf.{ShelfAnswered}
use Rattle.shelf_service.proofs.Once.{shelf_answered_once}
use Rattle.run_service.specs.Runs.{RunAnswered}
use Rattle.run_service.proofs.Once.{run_answered_once}
use Rattle.mirvashol.specs.Given.{EntriesGiven}
use Rattle.mirvashol.specs.Entries.{entries_of, written_entries, run_entries}
use Rattle.mirvashol.specs.Served.{Served, JudgeServed, RunServed}
use Rattle.answers.specs.declared.Refusal.{Refusal}
use Rattle.std.proofs.Common.{Result}

-- an array is too short for eight entries, or it is not
by_length : {C : Type 0} (z : List ℕ) → (length z < 8 → C) → (8 ≤ length z → C) → C
by_length {C} z short long = go (ltb (length z) 8) refl
  where
    go : (t : Bool) → ltb (length z) 8 ≡ t → C
    go true e = short (ltb-true (length z) 8 e)
    go false e = long (ltb-false (length z) 8 e)

-- ── The entries ──

-- two arrays and two results that give the same entries are equal; of a reader, the entries are a function of the file
pub given_once : (z o p : List ℕ) (r q : ℕ) (es : List ℕ) → EntriesGiven z o r es → EntriesGiven z p q es → (o ≡ p) × (r ≡ q)
given_once z o p r q es g h = by_length z
    (λ l. ((g.short l).1 ∙ sym (h.short l).1, (g.short l).0 ∙ sym (h.short l).0))
    (λ l. ((g.long l).1 ∙ sym (h.long l).1, (g.long l).0 ∙ sym (h.long l).0))

-- ── A service that writes a file ──

-- where no two answers fit the service's own promise A, none fit the function's
pub served_once : (A : List ℕ → Result ℕ Refusal → Type 0) → ((o p : List ℕ) (a b : Result ℕ Refusal) → A o a → A p b → (o ≡ p) × (a ≡ b))
    → (z o p given gives gives' : List ℕ) (r q : ℕ) → Served A z o given gives r → Served A z p given gives' q → (o ≡ p) × (gives ≡ gives') × (r ≡ q)
served_once A once z o p given gives gives' r q s t = by_length given
    (λ l. let (e, f, g) = s.short l in let (e', f', g') = t.short l in (f ∙ sym f', g ∙ sym g', e ∙ sym e'))
    (λ l.
    let (a, x, g) = s.long l in
    let (b, y, h) = t.long l in
    let (e, f) = once o p a b x y in
    let h' : EntriesGiven given gives' q (written_entries a) = rw f h in
    let (i, j) = given_once given gives gives' r q (written_entries a) g h' in
    (e, i, j))

-- typing a table
pub mirvashol_type_once : (t z o p given gives gives' : List ℕ) (r q : ℕ)
    → Served (Answered (types_file t) t z) z o given gives r → Served (Answered (types_file t) t z) z p given gives' q → (o ≡ p) × (gives ≡ gives') × (r ≡ q)
mirvashol_type_once t z = served_once (Answered (types_file t) t z) (answered_once (types_file t) t z) z

-- compiling it
pub mirvashol_compile_once : (t z o p given gives gives' : List ℕ) (r q : ℕ)
    → Served (Answered (list_file t) t z) z o given gives r → Served (Answered (list_file t) t z) z p given gives' q → (o ≡ p) × (gives ≡ gives') × (r ≡ q)
mirvashol_compile_once t z = served_once (Answered (list_file t) t z) (answered_once (list_file t) t z) z

-- ── The judge ──

pub judge_served_once : (t l given gives gives' : List ℕ) (r q : ℕ) → JudgeServed t l given gives r → JudgeServed t l given gives' q → (gives ≡ gives') × (r ≡ q)
judge_served_once t l given gives gives' r q s u =
    let e : s.verdict ≡ u.verdict = judged_once t l s.verdict u.verdict s.is_judged u.is_judged in
    let h : EntriesGiven given gives' q (entries_of s.verdict 0 0 0) = rw e u.entries in
    given_once given gives gives' r q (entries_of s.verdict 0 0 0) s.entries h

-- a whole shelf
pub mirvashol_judge_shelf_once : (t lists lengths z o p given gives gives' : List ℕ) (r q : ℕ)
    → Served (ShelfAnswered t lists lengths z) z o given gives r → Served (ShelfAnswered t lists lengths z) z p given gives' q → (o ≡ p) × (gives ≡ gives') × (r ≡ q)
mirvashol_judge_shelf_once t lists lengths z = served_once (ShelfAnswered t lists lengths z) (shelf_answered_once t lists lengths z) z

-- ── The run ──

-- where no two answers fit the service's own promise A, none fit the function's
pub run_served_once : (A : List ℕ → List ℕ → Result Ran Refusal → Type 0)
    → ((v v' o o' : List ℕ) (a b : Result Ran Refusal) → A v o a → A v' o' b → (v ≡ v') × (o ≡ o') × (a ≡ b))
    → (z v v' y o o' given gives gives' : List ℕ) (r q : ℕ) → RunServed A z v y o given gives r → RunServed A z v' y o' given gives' q
    → (v ≡ v') × (o ≡ o') × (gives ≡ gives') × (r ≡ q)
run_served_once A once z v v' y o o' given gives gives' r q s t = by_length given
    (λ l. let (e, f, g, h) = s.short l in let (e', f', g', h') = t.short l in (f ∙ sym f', g ∙ sym g', h ∙ sym h', e ∙ sym e'))
    (λ l.
    let (a, x, g) = s.long l in
    let (b, w, h) = t.long l in
    let (e, f, i) = once v v' o o' a b x w in
    let h' : EntriesGiven given gives' q (run_entries a) = rw i h in
    let (c, d) = given_once given gives gives' r q (run_entries a) g h' in
    (e, f, c, d))

-- running a list on a trace
pub mirvashol_run_once : (t l tr z v v' y o o' given gives gives' : List ℕ) (r q : ℕ)
    → RunServed (RunAnswered t l tr z y) z v y o given gives r → RunServed (RunAnswered t l tr z y) z v' y o' given gives' q
    → (v ≡ v') × (o ≡ o') × (gives ≡ gives') × (r ≡ q)
mirvashol_run_once t l tr z v v' y = run_served_once (RunAnswered t l tr z y) (run_answered_once t l tr z y) z v v' y
