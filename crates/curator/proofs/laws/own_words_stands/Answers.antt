use Rattle.curator.proofs.Words.{own_words}
use Rattle.curator.proofs.laws.own_words_stands.Goals as goal

pub returns : goal.returns
returns c = own_words
