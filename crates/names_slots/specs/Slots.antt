-- Looks through slots from a place on: 0 is an empty slot, which ends a look, and a number is put into the first one.
use Rattle.std.specs.Prelude.{ℕ, zero, suc, ◌+◌, List, Bool, true, false, cond, eqb, length, get_or, set}
use Rattle.names_slots.specs.Looks.{looks}
use Rattle.names_slots.specs.Hashes.{slot_of}

-- whether a number that passes a test comes before an empty slot
unfoldable pub look_from : ℕ → (ℕ → Bool) → List ℕ → ℕ → Bool
look_from zero hit xs at = false
look_from (suc f) hit xs at = cond (eqb (get_or xs at 0) 0) false (cond (hit (get_or xs at 0)) true (look_from f hit xs (at + 1)))

-- with m in the first empty slot, unless it comes before that or no slot is empty
unfoldable pub put_from : ℕ → List ℕ → ℕ → ℕ → List ℕ
put_from zero xs at m = xs
put_from (suc f) xs at m = cond (eqb (get_or xs at 0) 0) (set xs at m) (cond (eqb (get_or xs at 0) m) xs (put_from f xs (at + 1) m))

-- a number placed by a hash
unfoldable pub placed : List ℕ → ℕ → ℕ → List ℕ
placed xs h m = put_from looks xs (slot_of h (length xs)) m

-- a number that passes a test was placed by a hash, for sure
unfoldable pub holds : (ℕ → Bool) → List ℕ → ℕ → Bool
holds hit xs h = look_from looks hit xs (slot_of h (length xs))
