-- One table is another under a renaming of its symbols: what reading the text written from a table gives. Terms are compared as trees. Assumes nothing: these
-- are definitions.
use Rattle.std.specs.Prelude.{◌≡◌, ◌↔◌, map, ℕ, ◌<◌, length}
use Rattle.calculus.specs.Terms.{Tree, leaf, one, two, Act, send, receive, fresh, compare, split, decrypt}
use Rattle.calculus.specs.Tables.{sort_of, Table, process, free}
use Rattle.calculus.specs.Scope.{In}
use Rattle.calculus.specs.Version1.{signature1}

module _ (ρ : ℕ → ℕ) where
  -- a term with other symbols
  unfoldable pub rename_term : Tree signature1 ℕ → Tree signature1 ℕ
  rename_term (leaf x) = leaf (ρ x)
  rename_term (one k M) = one k (rename_term M)
  rename_term (two k M N) = two k (rename_term M) (rename_term N)

  -- a step with other symbols
  unfoldable pub rename_step : Act signature1 (Tree signature1 ℕ) → Act signature1 (Tree signature1 ℕ)
  rename_step (send M N) = send (rename_term M) (rename_term N)
  rename_step (receive M x) = receive (rename_term M) (ρ x)
  rename_step (fresh x) = fresh (ρ x)
  rename_step (compare M N) = compare (rename_term M) (rename_term N)
  rename_step (split M x y) = split (rename_term M) (ρ x) (ρ y)
  rename_step (decrypt c M N x) = decrypt c (rename_term M) (rename_term N) (ρ x)

-- u is t with its symbols renamed: as many symbols, each one's sort, which are free, and the steps
pub record Renamed (t u : Table signature1) : Type 0 where
  pub to : ℕ → ℕ
  pub same_count : length u.sorts ≡ length t.sorts
  pub there : (x : ℕ) → x < length t.sorts → to x < length u.sorts
  pub apart : (x y : ℕ) → x < length t.sorts → y < length t.sorts → to x ≡ to y → x ≡ y
  pub same_sorts : (x : ℕ) → x < length t.sorts → sort_of u.sorts (to x) ≡ sort_of t.sorts x
  pub same_free : (x : ℕ) → x < length t.sorts → In x (free signature1 t) ↔ In (to x) (free signature1 u)
  pub same_process : process signature1 u ≡ map (rename_step to) (process signature1 t)
