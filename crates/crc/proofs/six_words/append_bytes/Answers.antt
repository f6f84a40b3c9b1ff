use Rattle.crc.specs.Inner.Carried.{value}
use Rattle.crc.proofs.Carrying.{bytes_appended}
use Rattle.crc.proofs.six_words.append_bytes.Goals as goal

pub returns : goal.returns
returns c =
    bytes_appended (value c.args.x) _ c.args.word.now c.told-word c.fits-word c.from_be_bytes.ensures c.append_word.ensures
