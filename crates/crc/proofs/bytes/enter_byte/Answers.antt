use mathlib.Core.Path.{refl}
use borrow.Author.Rules.{rules}
use Rattle.crc.specs.Inner.Remainders.{reduce, rem_bits, rem}
use Rattle.crc.specs.Inner.Tables.{remainders_from, table}
use Rattle.crc.proofs.Entries.{crc_byte_by_entry}
use Rattle.crc.proofs.bytes.enter_byte.Goals as goal

pub returns : goal.returns
unfolding table remainders_from rem rem_bits reduce
returns c = crc_byte_by_entry _ _ _ _ (search rules) (search rules) c.index.ensures refl
