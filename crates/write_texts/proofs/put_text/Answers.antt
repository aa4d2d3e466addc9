-- `write_texts::put_text` meets its contract. Assumes nothing.
use borrow.Author.Rules.{rules}
use Rattle.write_texts.proofs.WordLaws.{text_quoted, text_bare, bare_room, open_room, quote_room, close_room}
use Rattle.write_texts.proofs.put_text.Goals as goal

ruleset laws = (text_quoted, text_bare, bare_room, open_room, quote_room, close_room, rules)

pub needs_quotes-requires : goal.needs_quotes-requires
needs_quotes-requires c = search laws

pub put_byte-a-requires : goal.put_byte-a-requires
put_byte-a-requires c = search laws

pub put_bytes-b-requires : goal.put_bytes-b-requires
put_bytes-b-requires c = search laws

pub put_byte-requires : goal.put_byte-requires
put_byte-requires c = search laws

pub shape_of-out-then-needs_quotes : goal.shape_of-out-then-needs_quotes
shape_of-out-then-needs_quotes c = search laws

pub returns-then-needs_quotes : goal.returns-then-needs_quotes
returns-then-needs_quotes c = search laws

pub put_bytes-requires : goal.put_bytes-requires
put_bytes-requires c = search laws

pub shape_of-out : goal.shape_of-out
shape_of-out c = search laws

pub returns : goal.returns
returns c = search laws
