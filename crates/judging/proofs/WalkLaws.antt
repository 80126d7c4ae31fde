-- The walk over the statements goes as the judge does. Assumes that the table passes 1 to 9 and the list 1 to 5, where it says so.
use mathlib.Core.Path.{◌≡◌, refl, sym, ◌∙◌}
use mathlib.Core.Bool.{Bool, true, false}
use mathlib.Core.Option.{some, none}
use Rattle.std.proofs.Common.{Option as Optional, Some, None, Ok, Err}
use Rattle.std.specs.Option.{ok_or}
use mathlib.Core.List.{List, [], ◌∷◌, ◌++◌, map}
use Prim.Native.Nat.{ℕ, zero, suc, ◌+◌, ◌-◌, ◌<◌, ◌≤◌}
use native.Mathlib.Omega.{arith}
use native.Mathlib.Numerals.{add-one}
use lib.Dec.{ltb}
use lib.ListN.{length, get_or, get_elem?, length-append, length-map}
use borrow.Author.Tests.{ltb-true, ltb-false}
use Rattle.answers.specs.Ladder.{least}
use Rattle.entries.specs.Fields.{code}
use Rattle.entries.specs.Tiling.{listed}
use Rattle.table_layout.specs.Layout.{steps}
use Rattle.table.specs.Faults.{table_rungs}
use Rattle.list.specs.Layout.{statements, statements_at, gives, given}
use Rattle.list.proofs.Framed.{Listed}
use Rattle.list.proofs.Walks.{given_first, given_more}
use Rattle.calculus.specs.Scope.{All}
use Rattle.calculus.specs.Terms.{bound}
use Rattle.calculus.specs.Version1.{signature1}
use Rattle.calculus.proofs.Lists.{all_at}
use Rattle.rendering.specs.Rendering.{halves}
use Rattle.rendering.specs.Judge.{Meaning, symbol, Verdict, accepted, not_due, turn, on_turn, at_end, judge_from, judge}
use Rattle.rendering.proofs.FreeLaws.{missing_below}
use Rattle.decoded.specs.Table.{table_of, free_count, free_of}
use Rattle.decoded.proofs.Steps.{sorts_length}
use Rattle.decoded_list.specs.Statements.{statement_at, statements_of}
use Rattle.decoded.specs.Indexes.{entries_of, meaning_of}
use Rattle.free_symbols.specs.Free.{Lists}
use Rattle.decoded.proofs.Tabled.{counts_small}
use Rattle.judging.specs.declared.Registers.{Registers}
use Rattle.judging.specs.declared.State.{State}
use Rattle.judging.specs.declared.Unfaithful.{Unfaithful}
use Rattle.judging.specs.Meanings.{coded, Small, Meant, Held, Known}
use Rattle.judging.specs.Due.{due_from}
use Rattle.judging.specs.Turns.{Answer, HalfDone, WentOn, Turned, Turns}
use Rattle.judging.specs.Verdicts.{verdict_of, at_end_of}
use Rattle.judging.proofs.DueLaws.{due_end, due_is}
use Rattle.judging.proofs.ListedLaws.{readable}

-- the judge's verdict on the statements from number i on
abbrev pub from_here : List ℕ → List ℕ → ℕ → List Meaning → State → Verdict
from_here t l i ms a = judge_from signature1 (entries_of t) i ms (due_from t a.step a.half) (listed (statement_at l) i (statements l - i))

-- the walk has come to statement i
pub record Going (t l : List ℕ) (r : Registers) (a : State) (i : ℕ) : Type 0 where
  pub meanings : List Meaning
  pub known : Known meanings r
  pub count : length meanings ≡ given l (free_count t) i
  pub done : HalfDone t a
  pub same : judge signature1 halves (table_of t) (statements_of l) ≡ from_here t l i meanings a

-- ── The start ──

get_symbol : (l : List ℕ) (p : ℕ) → p < length l → get_elem? (map symbol l) p ≡ some (symbol (get_or l p 0))
get_symbol [] p h = absurd (omega arith)
get_symbol (x ∷ l) zero h = refl
get_symbol (x ∷ l) (suc p) h = get_symbol l p (omega arith)

module _ (t : List ℕ) (e : least (table_rungs t) ≡ Ok tt) where
  free_small : All (λ x. x < 0 + length (table_of t).sorts) (free_of t)
  free_small = missing_below 0 (table_of t).sorts (bound signature1 (table_of t).steps)

  -- the array begins with the free symbols, and the free symbols are what the first registers mean
  start_held : (z : List ℕ) (n : ℕ) → Lists (free_of t) z n → Held (map symbol (free_of t)) z
  unfolding coded Small
  start_held z n h = record { size = h.size; at = λ p u w. one p (rw (length-map (free_of t) symbol) at w) }
    where
      one : (p : ℕ) → p < free_count t → Meant (map symbol (free_of t)) p (get_or z p 0)
      one p w =
          let s = all_at free_small p w 0 in
          let k = counts_small t e in
          record {
            meaning = symbol (get_or (free_of t) p 0);
            is_given = get_symbol (free_of t) p w;
            small = omega (arith, s, sorts_length t);
            as_byte = h.at p (omega (arith, h.count));
          }

  pub going_start : (l : List ℕ) (r : Registers) (a : State) → a.step ≡ 0 → a.half ≡ false → Lists (free_of t) r.meanings r.given → r.given < 256 → Going t l r a 0
  unfolding judge due_from meaning_of entries_of
  going_start l r a p q h m =
      let x : steps t - 0 ≡ steps t = omega arith in
      let y : statements l - 0 ≡ statements l = omega arith in
      record {
        meanings = map symbol (free_of t);
        known = record { held = start_held r.meanings r.given h; count = omega (arith, h.count, length-map (free_of t) symbol) };
        count = length-map (free_of t) symbol ∙ given_first l (free_count t);
        done = λ w. absurd (clash (sym q ∙ w));
        same = rw (p, q, x, y);
      }
    where
      clash : ◌≡◌ {A = Bool} false true → ⊥
      clash w = let z : ◌≡◌ {A = ℕ} 0 1 = cc in omega arith

-- ── One statement ──

-- a turn with what is wrong if there is none
pub turn_stops : (o : Optional State) (x y : Unfaithful) → ok_or o x ≡ Err y → (o ≡ None) × (y ≡ x)
turn_stops None x y q = (refl, cc)
turn_stops (Some s) x y q = absurd (cc)

pub turn_goes : (o : Optional State) (x : Unfaithful) (s : State) → ok_or o x ≡ Ok s → o ≡ Some s
turn_goes None x s q = absurd (cc)
turn_goes (Some a) x s q = cc

module _ (t l : List ℕ) (z z' : Registers) (e : least (table_rungs t) ≡ Ok tt) (p : Listed l (free_count t)) (a : State) (i : ℕ) (h : i < statements l) (g : Going t l z a i)
    (base : ℕ) (b : base ≡ statements_at l) (r : Optional State) (f : Turns t l base i z z' a r) where
  -- the judge's answer to it
  abbrev answer : Answer
  answer = turn signature1 (entries_of t) g.meanings (due_from t a.step a.half) (statement_at l i)

  one_more : from_here t l i g.meanings a ≡ on_turn signature1 i answer (λ new vs. judge_from signature1 (entries_of t) (suc i) (g.meanings ++ new) vs (listed (statement_at l) (suc i) (statements l - suc i)))
  unfolding judge_from listed
  one_more = let m : statements l - i ≡ suc (statements l - suc i) = omega arith in rw m

  turned : Turned t g.meanings z' (code l 2 (statements_at l) i) answer r
  unfolding statement_at
  turned = (rw b at f) e g.meanings (readable l (free_count t) i (length g.meanings) p h g.count) g.known g.done

  -- the judge stops
  pub going_stop : r ≡ None → not_due i ≡ judge signature1 halves (table_of t) (statements_of l)
  unfolding Turned on_turn
  going_stop q = let y : answer ≡ none = rw q at turned in sym (g.same ∙ one_more ∙ rw y)

  -- the judge goes on
  pub going_on : (s : State) → r ≡ Some s → Going t l z' s (i + 1)
  unfolding Turned on_turn gives
  going_on s q = go (rw q at turned)
    where
      go : WentOn t g.meanings z' (code l 2 (statements_at l) i) answer s → Going t l z' s (i + 1)
      go w =
          let m : i + 1 ≡ suc i = add-one i in
          record {
            meanings = g.meanings ++ w.new;
            known = w.known;
            count = rw (length-append g.meanings w.new, w.count) (given_more l (free_count t) i (statements_at l) (length g.meanings) refl g.count);
            done = w.done;
            same = g.same ∙ one_more ∙ rw (w.turned, m);
          }

-- ── The end ──

module _ (t l : List ℕ) (r : Registers) (e : least (table_rungs t) ≡ Ok tt) (a : State) (i : ℕ) (h : statements l ≤ i) (g : Going t l r a i) where
  ended : from_here t l i g.meanings a ≡ at_end signature1 (due_from t a.step a.half)
  unfolding judge_from listed
  ended = let m : statements l - i ≡ 0 = omega arith in rw m

  finished : (half : Bool) → a.half ≡ half → steps t ≤ a.step → accepted ≡ at_end signature1 (due_from t a.step half)
  unfolding at_end
  finished true q m = absurd (omega (arith, (g.done q).0))
  finished false q m = rw (due_end t a.step m)

  pub going_end : verdict_of (at_end_of t a) ≡ judge signature1 halves (table_of t) (statements_of l)
  unfolding at_end_of at_end
  going_end = go (ltb a.step (steps t)) refl ∙ sym (g.same ∙ ended)
    where
      go : (b : Bool) → ltb a.step (steps t) ≡ b → verdict_of (at_end_of t a) ≡ at_end signature1 (due_from t a.step a.half)
      go true q =
          let m : a.step < steps t = ltb-true _ _ q in
          let d = due_is t e a.step m a.half (λ w. (g.done w).1) in
          rw (q, d.next)
      go false q = rw q (finished a.half refl (ltb-false _ _ q))
