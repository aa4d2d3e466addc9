-- A test that passes at every kind: computed at those that there are, and shown past the last of them.
use Prim.Native.Nat.{ℕ, suc}
use mathlib.Core.Path.{◌≡◌, refl}
use mathlib.Core.Bool.{Bool, true, false}
use native.Mathlib.Omega.{arith}
use borrow.Author.Tests.{leb-true}
use lib.Dec.{leb}
use Rattle.basics.proofs.Tables.{all_below, below_all}
use Rattle.law.specs.Kinds.{last_kind}

pub each_kind : (p : ℕ → Bool) → all_below (suc last_kind) p ≡ true → ((k : ℕ) → leb k last_kind ≡ false → p k ≡ true) → (k : ℕ) → p k ≡ true
each_kind p t f k = go (leb k last_kind) refl
  where
    go : (b : Bool) → leb k last_kind ≡ b → p k ≡ true
    go true e = below_all (suc last_kind) p t k (omega (arith, leb-true k last_kind e))
    go false e = f k e
