-- Rows by their kind.
use Rattle.std.specs.Prelude.{ℕ, List, Bool, true, false, ◌||◌, ℤ, pos}
use Rattle.basics.specs.Integers.{eq_z}
use Rattle.law.specs.Kinds.{electrical_kind, mechanical_kind}
use Rattle.rows.specs.Columns.{kind_column}

-- a row is of kind k
abbrev pub is_of_kind : List ℤ → ℕ → Bool
is_of_kind row k = eq_z (kind_column row) (pos k)

-- the kind of a mechanical component, or of an electrical one
abbrev pub component_kind : Bool → ℤ
component_kind true = pos mechanical_kind
component_kind false = pos electrical_kind

-- a row leads ELECTRICAL or MECHANICAL
abbrev pub leads_component : List ℤ → Bool
leads_component row = is_of_kind row electrical_kind || is_of_kind row mechanical_kind
