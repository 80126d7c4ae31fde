-- Laws of the rules of a faithful rendering: a beginning's beginning, and that the statements decide where they lead. Assumes nothing.
use mathlib.Core.Path.{◌≡◌, refl, sym, ◌∙◌}
use mathlib.Core.Option.{some}
use mathlib.Core.List.{List}
use Prim.Native.Nat.{ℕ, zero, suc}
use lib.ListN.{take}
use Rattle.calculus.specs.Signature.{Signature}
use Rattle.calculus.specs.Terms.{Term, Build, build1, build2, map_build, Statement, build}
use Rattle.calculus.specs.Tables.{Entry}
use Rattle.rendering.specs.Rendering.{Dues, Due, Says, Follows, no_more, permitted, next_due}

module _ (𝓢 : Signature) where
  -- no build is due
  pub no_build_due : {X : Type 0} {ms : List X} {b : Build 𝓢 ℕ} {w : Due 𝓢 X} → Says 𝓢 ms (build b) w → ⊥
  no_build_due s = elim s [ ]

  -- a build is told by its parts
  pub some_builds : {X : Type 0} (B C : Build 𝓢 X) → map_build 𝓢 some B ≡ map_build 𝓢 some C → B ≡ C
  unfolding map_build
  some_builds (build1 k a) (build1 l b) e = cc
  some_builds (build1 k a) (build2 l b c) e = cc
  some_builds (build2 k a d) (build1 l b) e = cc
  some_builds (build2 k a d) (build2 l b c) e = cc

  module _ (es : List (Entry 𝓢 ℕ)) where
    abbrev F : List (Term 𝓢) → Dues 𝓢 → List (Statement 𝓢) → List (Term 𝓢) → Dues 𝓢 → Type 0
    F = Follows 𝓢 es

    pub follows_take : {ms ns : List (Term 𝓢)} {ws vs : Dues 𝓢} {ss : List (Statement 𝓢)} → F ms ws ss ns vs → (i : ℕ) → (ks : List (Term 𝓢)) × (us : Dues 𝓢) × F ms ws (take i ss) ks us
    follows_take {ms} {ws} (no_more) zero = (ms, ws, no_more)
    follows_take {ms} {ws} (no_more) (suc i) = (ms, ws, no_more)
    follows_take {ms} {ws} (permitted B e m f) zero = (ms, ws, no_more)
    follows_take (permitted B e m f) (suc i) = let r = follows_take f i in (r.0, r.1, permitted B e m r.2)
    follows_take {ms} {ws} (next_due s f) zero = (ms, ws, no_more)
    follows_take (next_due s f) (suc i) = let r = follows_take f i in (r.0, r.1, next_due s r.2)

    pub follows_once : {ms ns ks : List (Term 𝓢)} {ws vs us : Dues 𝓢} {ss : List (Statement 𝓢)} → F ms ws ss ns vs → F ms ws ss ks us → (ns ≡ ks) × (vs ≡ us)
    follows_once no_more no_more = (refl, refl)
    follows_once (permitted B e k f) (permitted C g l h) = let p : B ≡ C = some_builds B C (sym e ∙ g) in follows_once f (rw p h)
    follows_once (permitted B e k f) (next_due s h) = absurd (no_build_due s)
    follows_once (next_due s f) (permitted C g l h) = absurd (no_build_due s)
    follows_once (next_due s f) (next_due t h) = follows_once f h
