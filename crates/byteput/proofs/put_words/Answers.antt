-- Strip and outline are read, each whole or one word too long. Assumes nothing.
use Rattle.byteput.proofs.Caps.{words_cut}
use Rattle.byteput.proofs.Calls.{put_words_lem}
use Rattle.byteput.proofs.put_words.Goals as goal

pub returns : goal.returns
returns c = put_words_lem (words_cut _ c.requires.fact_1 c.take_words.ensures) (words_cut _ c.requires.fact_2 c.take_words-2.ensures) c.put.ensures
