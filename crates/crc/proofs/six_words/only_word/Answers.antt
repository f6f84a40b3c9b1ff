use Rattle.crc.proofs.Carrying.{word_alone}
use Rattle.crc.proofs.six_words.only_word.Goals as goal

pub returns : goal.returns
returns c = word_alone _
