-- Fields that a comparison leaves out.
use Rattle.std.specs.Prelude.{ℕ, Bool, false, ◌&&◌, eqb, get_or, replicate}
use Rattle.same.specs.declared.Ignored.{Ignored}

-- how many fields a record has at most
abbrev pub most_fields : ℕ
most_fields = 7

-- no field
abbrev pub nothing : Ignored
nothing = record { kind = 0; fields = replicate most_fields false }

-- field i, from 0, of the records of kind k
unfoldable pub ignored_at : Ignored → ℕ → ℕ → Bool
ignored_at g k i = eqb g.kind k && get_or g.fields i false
