-- A library's components in slots, by which a placement's entry is found; no verdict depends on them.
use Rattle.std.specs.Prelude.{ℕ, ◌+◌, ◌*◌, ◌-◌, ◌/◌, ◌%◌, List, Bool, true, false, cond, ◌&&◌, ltb, eqb, ℤ, pos, nat_abs}
use Rattle.law.specs.Kinds.{electrical_kind, mechanical_kind}
use Rattle.rows.specs.RowKinds.{leads_component, is_of_kind}
use Rattle.rows_texts.specs.Names.{key_of}
use Rattle.rows.specs.Columns.{geometry_length, geometry_start, part_length, part_start}
use Rattle.names_slots.specs.Slots as slot
use Rattle.walk.specs.declared.Turn.{Turn}
use Rattle.walk.specs.Walks.{is_row, Trace, done, stop, skip, row, trace_of}
use Rattle.rows_texts.specs.Texts.{same_texts}

-- the code of a mechanical component, or of an electrical one
abbrev pub code_for : Bool → ℕ
code_for true = 2
code_for false = 1

-- a geometry at a of l bytes and a part at b of m bytes in one number, if they are small and near each other; else 0
unfoldable pub pack_of : Bool → ℕ → ℕ → ℕ → ℕ → ℕ
pack_of mechanical a l b m =
    cond (ltb 16_777_216 a) 0
    (cond (ltb 1_023 l) 0
    (cond (ltb 1_023 m) 0
    (cond (ltb b (a + l)) 0
    (cond (ltb 1_023 (b - (a + l))) 0
    ((((a * 1_024 + l) * 1_024 + (b - (a + l))) * 1_024 + m) * 4 + code_for mechanical)))))

unfoldable pub packed_row : Bool → List ℤ → ℕ
packed_row mechanical y = pack_of mechanical (nat_abs (geometry_start y)) (nat_abs (geometry_length y)) (nat_abs (part_start y)) (nat_abs (part_length y))

-- the names in such a number are those of a board's row x
unfoldable pub is_named : List ℕ → List ℕ → ℕ → List ℤ → Bool
is_named board library e x =
    let a = e / 4_294_967_296 in
    let l = e / 4_194_304 % 1_024 in
    same_texts library (pos a) (pos l) board (geometry_start x) (geometry_length x)
    && same_texts library (pos (a + l + e / 4_096 % 1_024)) (pos (e / 4 % 1_024)) board (part_start x) (part_length x)

-- and its kind is wanted
unfoldable pub holds_name : List ℕ → List ℕ → Bool → List ℤ → ℕ → Bool
holds_name board library mechanical x e = eqb (e % 4) (code_for mechanical) && is_named board library e x

-- some bits of a hash, others than those that tell its slot
abbrev pub tag_of : ℕ → ℕ
tag_of h = h / 2_147_483_648 % 128

-- such a number with its name's tag behind it, so that most others are told apart without a look at their names
unfoldable pub tagged : ℕ → ℕ → ℕ
tagged h e = e * 128 + tag_of h

unfoldable pub shows_by : List ℕ → List ℕ → ℕ → Bool → List ℤ → ℕ → Bool
shows_by board library h mechanical x e = eqb (e % 128) (tag_of h) && holds_name board library mechanical x (e / 128)

-- a slot's number is the entry of a board's row x, of this kind
abbrev pub shows_name : List ℕ → List ℕ → Bool → List ℤ → ℕ → Bool
shows_name board library mechanical x e = shows_by board library (key_of board x) mechanical x e

-- the part of a hash, of so many
abbrev pub part_of : ℕ → ℕ → ℕ
part_of h parts = h / 17_592_186_044_416 % parts

-- a hash is in a part; in one part there are all
unfoldable pub is_in : ℕ → ℕ → ℕ → Bool
is_in h parts part = cond (ltb parts 2) true (eqb (part_of h parts) part)

-- a row's names under their hash, if that is in the part
unfoldable pub put_name : ℕ → ℕ → List ℕ → List ℕ → Bool → List ℤ → List ℕ
put_name parts part library places mechanical y =
    cond (is_in (key_of library y) parts part) (slot.placed places (key_of library y) (tagged (key_of library y) (packed_row mechanical y))) places

-- slots with the names of a row, if it is a component's
unfoldable pub stocked_row : ℕ → ℕ → List ℕ → List ℕ → List ℤ → List ℕ
stocked_row parts part library places y =
    cond (is_of_kind y electrical_kind) (put_name parts part library places false y)
    (cond (is_of_kind y mechanical_kind) (put_name parts part library places true y) places)

unfoldable pub stocked_by : ℕ → ℕ → List ℕ → List ℕ → Turn → List ℕ
stocked_by parts part library places t = cond (is_row t.found) (stocked_row parts part library places t.row) places

-- with those of all lines
unfoldable pub stock_in : ℕ → ℕ → List ℕ → List ℕ → Trace → List ℕ
stock_in parts part library places (done w) = places
stock_in parts part library places (stop n l) = places
stock_in parts part library places (skip l t) = stock_in parts part library places t
stock_in parts part library places (row l y t) = stock_in parts part library (stocked_row parts part library places y) t

unfoldable pub stock_of : ℕ → ℕ → List ℕ → List ℕ → List ℕ
stock_of parts part library places = stock_in parts part library places (trace_of library)

-- how many components there are with a line more, in the part or not
unfoldable pub counted : ℕ → Turn → ℕ
counted n t = cond (is_row t.found && leads_component t.row) (n + 1) n

-- and with all lines, behind n of them
unfoldable pub components_in : ℕ → Trace → ℕ
components_in n (done w) = n
components_in n (stop k l) = n
components_in n (skip l t) = components_in n t
components_in n (row l y t) = components_in (cond (leads_component y) (n + 1) n) t

unfoldable pub components_of : List ℕ → ℕ
components_of library = components_in 0 (trace_of library)
