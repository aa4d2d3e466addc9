-- A hash of bytes, and where its look begins.
use Rattle.std.specs.Prelude.{ℕ, ◌+◌, ◌*◌, ◌-◌, ◌%◌, List, [], ◌∷◌}
use Rattle.names_slots.specs.Looks.{looks}

-- all bytes, behind those that gave h: each stirs what came before it, and so does the end
unfoldable pub hashed : ℕ → List ℕ → ℕ
hashed h [] = (h % 1_099_511_627_689) * 11_400_715
hashed h (b ∷ s) = hashed ((h % 1_099_511_627_689) * 11_400_715 + b) s

-- among n slots, with room behind it for every look
unfoldable pub slot_of : ℕ → ℕ → ℕ
slot_of h n = h % (n - looks)
