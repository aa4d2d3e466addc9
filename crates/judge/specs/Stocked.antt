-- Slots that a library filled hold nothing but what it has.
use Rattle.std.specs.Prelude.{ℕ, ◌<◌, ◌≡◌, List, Bool, true, ℤ, length, get_or}
use Rattle.rows.specs.RowKinds.{component_kind}
use Rattle.names_slots.specs.Looks.{looks}
use Rattle.judge_stock.specs.Stock.{shows_name}
use Rattle.judge.specs.Entries.{has_entry}

-- what a slot holds, the library has
pub record Stocked (library places : List ℕ) : Type 0 where
  pub room : looks < length places
  pub has : (i : ℕ) (mechanical : Bool) (board : List ℕ) (x : List ℤ) → shows_name board library mechanical x (get_or places i 0) ≡ true → has_entry board library (component_kind mechanical) x ≡ true
