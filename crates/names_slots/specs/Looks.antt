-- How far a look goes.
use Rattle.std.specs.Prelude.{ℕ}

abbrev pub looks : ℕ
looks = 1_024
