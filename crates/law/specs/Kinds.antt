-- "Section s opens with kind 10s, closes with 10s+9. Its data lines have kinds 10s+1, 10s+2": kinds, and what a line of a kind is for.
use Rattle.std.specs.Prelude.{ℕ, ◌+◌, ◌*◌, ◌/◌, ◌%◌, cond, leb, eqb}
use Rattle.std.proofs.Math.Option.{Option, none, some}
use Rattle.law.specs.Sections.{Shape, header, outline, component, keepout, listing, placements, SectionForm, section_at}
use Rattle.law.specs.declared.Rules.{Rules}
use Rattle.law.specs.declared.Rules.TheVariants.{Idf3}
use Rattle.law.specs.declared.Role.{Role}
use Rattle.law.specs.declared.Role.TheVariants.{Opening as opening, Closing as closing, Title as title, Name as name, Lead as lead, Point as point, Prop as prop, Entry as entry, Part as part, Position as position, Unknown as unknown}

-- line n of section s; the version's argument is for W-202, whose kinds are others
unfoldable pub kind_at : Rules → ℕ → ℕ → ℕ
kind_at Idf3 s n = 10 * s + n

-- the last kind, where section 15 closes
abbrev pub last_kind : ℕ
last_kind = 159

-- the section of a kind; 0 of one that no section has
unfoldable pub section_of : Rules → ℕ → ℕ
section_of Idf3 k = cond (leb k last_kind) (k / 10) 0

-- which line of its section a kind is
unfoldable pub line_of : Rules → ℕ → ℕ
line_of Idf3 k = k % 10

abbrev pub data_role : Shape → ℕ → Role
data_role header n = cond (eqb n 1) title (cond (eqb n 2) name unknown)
data_role outline n = cond (eqb n 1) lead (cond (eqb n 2) point unknown)
data_role component n = cond (eqb n 1) lead (cond (eqb n 2) point (cond (eqb n 3) prop unknown))
data_role keepout n = cond (eqb n 1) point unknown
data_role listing n = cond (eqb n 1) entry unknown
data_role placements n = cond (eqb n 1) part (cond (eqb n 2) position unknown)

-- the role of line n of a section
abbrev pub role_in : Shape → ℕ → Role
role_in f n = cond (eqb n 0) opening (cond (eqb n 9) closing (data_role f n))

abbrev pub role_by : Option SectionForm → ℕ → Role
role_by none n = unknown
role_by (some s) n = role_in s.shape n

unfoldable pub role_of : Rules → ℕ → Role
role_of v k = role_by (section_at v (section_of v k)) (line_of v k)

-- the kinds that rules name
abbrev pub part_kind : ℕ
part_kind = 131

abbrev pub electrical_kind : ℕ
electrical_kind = 141

abbrev pub mechanical_kind : ℕ
mechanical_kind = 151
