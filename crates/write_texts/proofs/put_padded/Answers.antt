-- `write_texts::put_padded` meets its contract. Assumes nothing.
use Rattle.std.proofs.Math.Nat.{le_refl}
use borrow.Author.Rules.{rules}
use Rattle.write_texts.proofs.WordLaws.{front_within, taken_long, front_wrote, front_room}
use Rattle.write_texts.proofs.put_padded.Goals as goal

pub slice_bounds-put_bytes-end : goal.slice_bounds-put_bytes-end
slice_bounds-put_bytes-end c = search (rules, taken_long, front_within, le_refl)

pub put_bytes-requires : goal.put_bytes-requires
put_bytes-requires c = front_room _ _ c.padded_len-n.ensures _ _ c.requires

pub returns : goal.returns
returns c = front_wrote _ _ c.padded_len-n.ensures _ _ _ _ c.put_bytes.ensures
